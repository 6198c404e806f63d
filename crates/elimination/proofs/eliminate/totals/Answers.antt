use Rattle.std.proofs.Common.{rules}
use Rattle.elimination.proofs.Eliminated.{totals_small}
use Rattle.elimination.proofs.eliminate.totals.Goals as goal

pub overflow_add-needs : goal.overflow_add-needs
overflow_add-needs g c = let t = totals_small _ c.args.pivot.value _ (g.met.D.ClauseDatabase.lawful c.args.db.now) in let a = t.0 in let i = c.loop-entry.invariant.2 in search rules

pub overflow_add-needs-then-is_some : goal.overflow_add-needs-then-is_some
overflow_add-needs-then-is_some g c = let t = totals_small _ c.args.pivot.value _ (g.met.D.ClauseDatabase.lawful c.args.db.now) in let b = t.1 in let few = c.in-Some.entry.clause.few in let i = c.loop-entry.invariant.3 in search rules
