use Rattle.std.proofs.Common.{◌≡◌, ◌+◌, length}
use Rattle.database.specs.Walks.{above}
use Rattle.rules.specs.Restoring.{saved_literals}
use Rattle.rules.specs.Lines.{eliminated}
use Rattle.elimination.proofs.eliminate.totals.Given as goal

abbrev pub invariant-loop-entry : goal.invariant-loop-entry
invariant-loop-entry g l =
    (goal.iterator-loop-entry g).can_next l.entry-iterator × (goal.iterator-loop-entry g).is_finite l.entry-iterator ×
    (l.needs.clauses + length (eliminated l.pivot.value (above l.entry-iterator.above (g.D.ClauseDatabase.standing l.entry-iterator.db.now))) ≡
    length (eliminated l.pivot.value (g.D.ClauseDatabase.standing l.db))) ×
    (l.needs.literals + saved_literals (eliminated l.pivot.value (above l.entry-iterator.above (g.D.ClauseDatabase.standing l.entry-iterator.db.now))) ≡
    saved_literals (eliminated l.pivot.value (g.D.ClauseDatabase.standing l.db)))
