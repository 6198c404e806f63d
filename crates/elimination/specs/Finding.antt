-- Looking for the standing clauses of a variable.
use Rattle.std.specs.Prelude.{Bool, false, cond, ◌||◌, List, ℤ, neg_ℤ, Some, None, Option}
use Rattle.words.specs.Clauses.{has}

-- whether a clause holds a literal of a variable: the literal itself or its negation
abbrev pub of_variable : ℤ → List ℤ → Bool
of_variable z c = has z c || has (neg_ℤ z) c

-- the one that it holds, or none
abbrev pub held_of : ℤ → List ℤ → Option ℤ
held_of z c = cond (has z c) (Some z) (cond (has (neg_ℤ z) c) (Some (neg_ℤ z)) None)

-- whether there is a clause and it is of the variable
abbrev pub under_of_variable : ℤ → Option (List ℤ) → Bool
under_of_variable z None = false
under_of_variable z (Some c) = of_variable z c
