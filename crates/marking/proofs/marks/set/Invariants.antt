use Rattle.std.proofs.Common.{◌≡◌, length}
use Rattle.words.specs.Meanings.{lits_of}
use Rattle.marking.specs.Marking.{with_marks}
use Rattle.marking.proofs.marks.set.Given as goal

abbrev pub invariant-loop-l : goal.invariant-loop-l
invariant-loop-l l =
    (goal.iterator-loop-l).can_next l.l-iterator × (goal.iterator-loop-l).is_finite l.l-iterator ×
    (with_marks l.bytes l.l-iterator.rest.now ≡ with_marks l.initial.bytes (lits_of l.clause)) × (length l.bytes ≡ length l.initial.bytes)
