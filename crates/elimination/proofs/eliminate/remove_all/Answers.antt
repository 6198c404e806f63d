use Rattle.std.proofs.Common.{sym, refl, ◌∙◌, arith, rules}
use Rattle.elimination.proofs.Eliminated.{freed_low, remove_done, remove_rises, remove_step, remove_pass}
use Rattle.elimination.proofs.eliminate.remove_all.Goals as goal

pub loop-number-init : goal.loop-number-init
loop-number-init g c = (sym (freed_low _ _ 0 0 c.args.pivot.value _ (g.met.D.ClauseDatabase.lawful c.args.db.now).in_order (omega arith)), refl)

pub loop-number-smaller-then-of_variable_at : goal.loop-number-smaller-then-of_variable_at
loop-number-smaller-then-of_variable_at g c = let r = remove_rises _ _ c.args.pivot.value c.loop-number.at _ _ (g.met.D.ClauseDatabase.lawful c.args.db.now).in_order c.loop-number.invariant.0 c.in-Some.number.value c.in-Some.ensures in search rules

pub loop-number-preserved-then-of_variable_at : goal.loop-number-preserved-then-of_variable_at
loop-number-preserved-then-of_variable_at g c =
    (remove_step _ _ c.args.pivot.value c.loop-number.at _ _ (g.met.D.ClauseDatabase.lawful c.args.db.now).in_order c.loop-number.invariant.0 c.in-Some.number.value c.in-Some.ensures c.if-of_variable_at.ensures _ _ c.remove.ensures.fault c.remove.ensures.after, c.remove.ensures.limits ∙ c.loop-number.invariant.1)

pub loop-number-smaller : goal.loop-number-smaller
loop-number-smaller g c = let r = remove_rises _ _ c.args.pivot.value c.loop-number.at _ _ (g.met.D.ClauseDatabase.lawful c.args.db.now).in_order c.loop-number.invariant.0 c.in-Some.number.value c.in-Some.ensures in search rules

pub loop-number-preserved : goal.loop-number-preserved
loop-number-preserved g c =
    (remove_pass _ _ c.args.pivot.value c.loop-number.at _ _ (g.met.D.ClauseDatabase.lawful c.args.db.now).in_order c.loop-number.invariant.0 c.in-Some.number.value c.in-Some.ensures c.if-of_variable_at.ensures, c.loop-number.invariant.1)

pub returns-clause-after : goal.returns-clause-after
returns-clause-after g c = remove_done _ _ c.args.pivot.value c.loop-number.at _ _ (g.met.D.ClauseDatabase.lawful c.args.db.now).in_order c.loop-number.invariant.0 c.in_default.ensures
