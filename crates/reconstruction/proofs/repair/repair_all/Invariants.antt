use Rattle.std.proofs.Common.{◌≡◌, length}
use Rattle.std.specs.Iterator.Adapters.{rev_source}
use Rattle.std.specs.Slice.Iter.{iter_rest}
use Rattle.rules.specs.Restoring.{restored}
use Rattle.reconstruction.specs.Stacks.{total}
use Rattle.reconstruction.specs.Saves.{numbers, saved_from}
use Rattle.reconstruction.specs.Weights.{entry_weight}
use Rattle.reconstruction.proofs.repair.repair_all.Given as goal

-- the entries still to come are the first ones, and the rest holds their literals
abbrev pub invariant-loop-entry : goal.invariant-loop-entry
invariant-loop-entry l =
    (goal.iterator-loop-entry).can_next l.entry-iterator ×
    (goal.iterator-loop-entry).is_finite l.entry-iterator ×
    (total entry_weight (iter_rest (rev_source l.entry-iterator)) ≡ length l.rest) ×
    (restored (saved_from (iter_rest (rev_source l.entry-iterator)) (numbers l.rest)) l.assignment ≡ restored (saved_from l.entries (numbers l.literals)) l.initial.assignment)
