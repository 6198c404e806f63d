use Rattle.std.proofs.Common.{◌≡◌, ◌-◌, ◌^◌}
use Rattle.elimination.proofs.Eliminated.{freed}
use Rattle.elimination.proofs.eliminate.remove_all.Given as goal

abbrev pub invariant-loop-number : goal.invariant-loop-number
invariant-loop-number g l =
    (g.D.ClauseDatabase.standing l.db ≡ freed l.at l.pivot.value (g.D.ClauseDatabase.standing l.initial.db)) ×
    (g.D.ClauseDatabase.limited l.db ≡ g.D.ClauseDatabase.limited l.initial.db)

abbrev pub decreases-loop-number : goal.decreases-loop-number
decreases-loop-number g l = 2 ^ 32 - l.at
