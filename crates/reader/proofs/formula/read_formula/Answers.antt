use Rattle.std.proofs.Common.{false, rules}
use Rattle.reconstruction.specs.Meanings.{saved}
use Rattle.reader.specs.Headers.{uncommented, first_counts}
use Rattle.reader.proofs.Endings.{header_refused}
use Rattle.reader.proofs.Loads.{formula_leads}
use Rattle.reader.proofs.formula.read_formula.Goals as goal

pub returns-in_err-header-clause-outcome : goal.returns-in_err-header-clause-outcome
returns-in_err-header-clause-outcome g c =
    let p = uncommented false 1 c.args.text.now in
    let e = header_refused (g.D.ClauseDatabase.limited c.args.db.now) (g.D.ClauseDatabase.standing c.args.db.now) (saved c.args.stack.now) c.args.text.now p (first_counts p.bytes) in
    search (rules, e)

pub returns-in_err-header-clause-history : goal.returns-in_err-header-clause-history
returns-in_err-header-clause-history g c room =
    formula_leads (g.D.ClauseDatabase.limited c.args.db.now) room (saved c.args.stack.now) (g.D.ClauseDatabase.standing c.args.db.now) c.args.text.now _ _ (returns-in_err-header-clause-outcome g c)

pub returns-clause-outcome : goal.returns-clause-outcome
returns-clause-outcome g c = search rules

pub returns-clause-history : goal.returns-clause-history
returns-clause-history g c room =
    formula_leads (g.D.ClauseDatabase.limited c.args.db.now) room (saved c.args.stack.now) (g.D.ClauseDatabase.standing c.args.db.now) c.args.text.now _ _ (returns-clause-outcome g c)
