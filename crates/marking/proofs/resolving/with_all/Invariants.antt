use Rattle.std.proofs.Common.{◌≡◌}
use Rattle.words.specs.Meanings.{lits_of}
use Rattle.marking.specs.Resolving.{added}
use Rattle.marking.proofs.resolving.with_all.Given as goal

abbrev pub invariant-loop-l : goal.invariant-loop-l
invariant-loop-l l =
    (goal.iterator-loop-l).can_next l.l-iterator × (goal.iterator-loop-l).is_finite l.l-iterator ×
    (added l.except.value (lits_of l.clause) l.l-iterator.rest.now ≡ added l.except.value (lits_of l.initial.clause) (lits_of l.from))
