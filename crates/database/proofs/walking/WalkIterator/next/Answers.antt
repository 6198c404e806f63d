use Rattle.std.proofs.Common.{sym, rules}
use Rattle.database.proofs.Walks.{above_end, next_given, next_stands, longer}
use Rattle.database.proofs.walking.WalkIterator.next.Goals as goal

pub returns-in_err-number-clause-steps : goal.returns-in_err-number-clause-steps
returns-in_err-number-clause-steps g c = let e = above_end c.args.self.now.above _ (sym c.in_err-number.ensures) in search rules

pub returns-in_err-clause-clause-steps : goal.returns-in_err-clause-clause-steps
returns-in_err-clause-clause-steps g c =
    absurd (next_stands _ _ _ _ _ (g.met.D.ClauseDatabase.lawful c.args.self.now.db.now).in_order c.in_ok-number.ensures c.in_err-clause.ensures)

pub returns-clause-steps : goal.returns-clause-steps
returns-clause-steps g c = next_given _ _ _ _ _ _ (g.met.D.ClauseDatabase.lawful c.args.self.now.db.now).in_order c.in_ok-number.ensures c.in_ok-clause.ensures

pub returns-clause-goes : goal.returns-clause-goes
returns-clause-goes g c =
    let e = next_given _ _ _ _ _ _ (g.met.D.ClauseDatabase.lawful c.args.self.now.db.now).in_order c.in_ok-number.ensures c.in_ok-clause.ensures in
    let l = longer _ _ _ e in
    record { on = λ f. (tt, tt, l); keeps = tt; rests = λ f. tt }
