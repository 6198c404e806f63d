use Rattle.words.specs.Meanings.{lits_of}
use Rattle.loading.proofs.Gathers.{Gathering}
use Rattle.loading.proofs.lists.gather.Given as goal

abbrev pub invariant-loop-i : goal.invariant-loop-i
invariant-loop-i l = Gathering l.list l.i (lits_of l.clause)
