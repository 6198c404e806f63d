use Rattle.std.proofs.Common.{◌≡◌, replicate, neg_ℤ}
use Rattle.words.specs.Meanings.{lits_of}
use Rattle.database.specs.Walks.{above}
use Rattle.rules.specs.Lines.{side, uncovered_with, first_uncovered}
use Rattle.elimination.proofs.covering.first_uncovered.Given as goal

abbrev pub invariant-loop-first : goal.invariant-loop-first
invariant-loop-first g l =
    (goal.iterator-loop-first g).can_next l.first-iterator × (goal.iterator-loop-first g).is_finite l.first-iterator ×
    (first_uncovered l.pivot.value (g.D.ClauseDatabase.standing l.table.db.now) (side l.pivot.value (above l.first-iterator.above (g.D.ClauseDatabase.standing l.first-iterator.db.now))) (side (neg_ℤ l.pivot.value) (g.D.ClauseDatabase.standing l.table.db.now)) ≡
    first_uncovered l.pivot.value (g.D.ClauseDatabase.standing l.table.db.now) (side l.pivot.value (g.D.ClauseDatabase.standing l.table.db.now)) (side (neg_ℤ l.pivot.value) (g.D.ClauseDatabase.standing l.table.db.now))) ×
    (l.bytes ≡ replicate 1024 0)

abbrev pub invariant-loop-second : goal.invariant-loop-second
invariant-loop-second g l =
    (goal.iterator-loop-second g).can_next l.second-iterator × (goal.iterator-loop-second g).is_finite l.second-iterator ×
    (uncovered_with l.pivot.value (g.D.ClauseDatabase.standing l.table.db.now) (lits_of l.marks.clause) (side (neg_ℤ l.pivot.value) (above l.second-iterator.above (g.D.ClauseDatabase.standing l.second-iterator.db.now))) ≡
    uncovered_with l.pivot.value (g.D.ClauseDatabase.standing l.table.db.now) (lits_of l.marks.clause) (side (neg_ℤ l.pivot.value) (g.D.ClauseDatabase.standing l.table.db.now)))
