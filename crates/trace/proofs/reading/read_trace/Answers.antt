use Rattle.std.proofs.Common.{ap, rules}
use Rattle.reconstruction.specs.Meanings.{saved, room_of}
use Rattle.theory.proofs.Led.{same_checking}
use Rattle.session.specs.Meanings.{checking_variables}
use Rattle.trace.specs.Traces.{TraceOutcome}
use Rattle.trace.specs.Sent.{with_trace}
use Rattle.trace.specs.Sessions.{progress}
use Rattle.trace.proofs.Sending.{reached_leads}
use Rattle.trace.proofs.reading.read_trace.Goals as goal

pub returns-in_err-behind_names-clause-outcome : goal.returns-in_err-behind_names-clause-outcome
returns-in_err-behind_names-clause-outcome g c =
    let p = progress c.args.session.now (g.D.ClauseDatabase.standing c.args.db.now) (saved c.args.stack.now) in
    let b = c.behind_names.ensures c.args.marks.now (g.D.ClauseDatabase.limited c.args.db.now) (room_of c.args.stack.now) p in
    search rules

pub returns-in_err-behind_names-clause-history : goal.returns-in_err-behind_names-clause-history
returns-in_err-behind_names-clause-history g c clean h t =
    let p = progress c.args.session.now (g.D.ClauseDatabase.standing c.args.db.now) (saved c.args.stack.now) in
    reached_leads c.args.marks.now (g.D.ClauseDatabase.limited c.args.db.now) (room_of c.args.stack.now) (checking_variables c.args.session.now) clean c.args.text.now h p p (ap (λ (o : TraceOutcome). o.reached) (returns-in_err-behind_names-clause-outcome g c)) t

pub returns-clause-outcome : goal.returns-clause-outcome
returns-clause-outcome g c =
    let p = progress c.args.session.now (g.D.ClauseDatabase.standing c.args.db.now) (saved c.args.stack.now) in
    let b = c.behind_names.ensures c.args.marks.now (g.D.ClauseDatabase.limited c.args.db.now) (room_of c.args.stack.now) p in
    search rules

pub returns-clause-history : goal.returns-clause-history
returns-clause-history g c clean h t =
    let e = c.send_lines.ensures in
    let l = g.D.ClauseDatabase.limited c.args.db.now in
    let room = room_of c.args.stack.now in
    let v = checking_variables c.args.session.now in
    let text = c.args.text.now in
    let p = progress c.args.session.now (g.D.ClauseDatabase.standing c.args.db.now) (saved c.args.stack.now) in
    let last = c.send_lines.new in
    let p' = progress last.session (g.D.ClauseDatabase.standing last.db) (saved last.stack) in
    same_checking l _ room _ (with_trace l room h text) v _ _ _ _ _ e.limits e.room e.variables
    (reached_leads c.args.marks.now l room v clean text h p p' (ap (λ (o : TraceOutcome). o.reached) (returns-clause-outcome g c)) t)
