use Rattle.std.proofs.Common.{◌≡◌, ◌++◌}
use Rattle.database.specs.Walks.{above}
use Rattle.rules.specs.Lines.{eliminated}
use Rattle.reconstruction.specs.Meanings.{saved, room_of}
use Rattle.elimination.proofs.eliminate.save_all.Given as goal

abbrev pub invariant-loop-entry : goal.invariant-loop-entry
invariant-loop-entry g l =
    (goal.iterator-loop-entry g).can_next l.entry-iterator × (goal.iterator-loop-entry g).is_finite l.entry-iterator ×
    (saved l.stack ++ eliminated l.pivot.value (above l.entry-iterator.above (g.D.ClauseDatabase.standing l.entry-iterator.db.now)) ≡
    saved l.initial.stack ++ eliminated l.pivot.value (g.D.ClauseDatabase.standing l.db)) ×
    (room_of l.stack ≡ room_of l.initial.stack)
