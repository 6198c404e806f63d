use Rattle.std.proofs.Common.{◌≡◌}
use Rattle.words.specs.Meanings.{lits_of}
use Rattle.marking.specs.Marking.{marks_clash}
use Rattle.marking.proofs.marks.Marks.clash.Given as goal

abbrev pub invariant-loop-l : goal.invariant-loop-l
invariant-loop-l l =
    (goal.iterator-loop-l).can_next l.l-iterator × (goal.iterator-loop-l).is_finite l.l-iterator ×
    (marks_clash l.self.bytes.now l.except.value l.l-iterator.rest.now ≡ marks_clash l.self.bytes.now l.except.value (lits_of l.clause))
