use Rattle.std.proofs.Common.{rules}
use Rattle.reconstruction.specs.Meanings.{saved, room_of}
use Rattle.textlines.specs.Lines.{text_lines}
use Rattle.trace.specs.Sessions.{progress}
use Rattle.trace.proofs.Stepping.{numbered_read}
use Rattle.trace.proofs.reading.send_lines.Goals as goal

pub returns-in_err-map_err-clause-outcome : goal.returns-in_err-map_err-clause-outcome
returns-in_err-map_err-clause-outcome g c =
    let p = progress c.args.session.now (g.D.ClauseDatabase.standing c.args.db.now) (saved c.args.stack.now) in
    let n = numbered_read c.args.marks.now (g.D.ClauseDatabase.limited c.args.db.now) (room_of c.args.stack.now) c.args.lines.number p (text_lines c.args.lines.rest.now) in
    search rules

pub returns-clause-outcome : goal.returns-clause-outcome
returns-clause-outcome g c =
    let p = progress c.args.session.now (g.D.ClauseDatabase.standing c.args.db.now) (saved c.args.stack.now) in
    let n = numbered_read c.args.marks.now (g.D.ClauseDatabase.limited c.args.db.now) (room_of c.args.stack.now) c.args.lines.number p (text_lines c.args.lines.rest.now) in
    search rules
