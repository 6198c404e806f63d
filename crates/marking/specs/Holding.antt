-- What the marks of a clause hold.
use Rattle.std.specs.Prelude.{◌≡◌, ℕ, List, replicate}
use Rattle.words.specs.declared.clause.Clause.{Clause}
use Rattle.words.specs.Meanings.{lits_of}
use Rattle.marking.specs.Marking.{with_marks}

-- the bytes hold the literals of the clause and no others
abbrev pub Holds : List ℕ → Clause → Type 0
Holds bs c = bs ≡ with_marks (replicate 1024 0) (lits_of c)
