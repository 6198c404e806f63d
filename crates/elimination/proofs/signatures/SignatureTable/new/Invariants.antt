use Rattle.std.proofs.Common.{◌≡◌, ◌+◌, ◌≤◌, length, drop}
use Rattle.database.specs.Walks.{above}
use Rattle.elimination.proofs.Signed.{Table}
use Rattle.elimination.proofs.signatures.SignatureTable.new.Given as goal

abbrev pub invariant-loop-entry : goal.invariant-loop-entry
invariant-loop-entry g l =
    (goal.iterator-loop-entry g).can_next l.entry-iterator × (goal.iterator-loop-entry g).is_finite l.entry-iterator ×
    Table l.records.items l.last (g.D.ClauseDatabase.standing l.db) ×
    (above l.entry-iterator.iter.above (g.D.ClauseDatabase.standing l.entry-iterator.iter.db.now) ≡ drop (length l.records.items) (g.D.ClauseDatabase.standing l.db)) ×
    (length l.records.items + l.entry-iterator.n ≤ 1024)
