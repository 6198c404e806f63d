-- What the values of the code mean in the words of the other files.
use Rattle.std.specs.Prelude.{List, take, ℤ}
use Rattle.words.specs.declared.clause.Clause.{Clause}

-- the literals of a clause, by rising variable
abbrev pub lits_of : Clause → List ℤ
lits_of c = take c.len c.lits
