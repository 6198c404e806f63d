use Rattle.std.proofs.Common.{◌≡◌}
use Rattle.words.specs.Meanings.{lits_of}
use Rattle.marking.specs.Marking.{marks_cover}
use Rattle.marking.proofs.marks.Marks.cover.Given as goal

abbrev pub invariant-loop-l : goal.invariant-loop-l
invariant-loop-l l =
    (goal.iterator-loop-l).can_next l.l-iterator × (goal.iterator-loop-l).is_finite l.l-iterator ×
    (marks_cover l.self.bytes.now l.l-iterator.rest.now ≡ marks_cover l.self.bytes.now (lits_of l.other))
