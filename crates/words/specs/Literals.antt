-- Literals. A literal is a whole number other than 0: v stands for the variable v, -v for its negation.
-- `unsigned_abs z` is the variable of z, and `neg_ℤ z` its negation.
use Rattle.std.specs.Prelude.{ℕ, Bool, true, false, ◌&&◌, List, [], ◌∷◌, ℤ, pos, negsuc, ◌==◌, nat_le, nat_lt, unsigned_abs}

-- whether two literals are the same
abbrev pub same : ℤ → ℤ → Bool
same (pos a) (pos b) = a == b
same (pos a) (negsuc b) = false
same (negsuc a) (pos b) = false
same (negsuc a) (negsuc b) = a == b

-- whether a literal is a variable itself, and not its negation
abbrev pub positive : ℤ → Bool
positive (pos a) = true
positive (negsuc a) = false

-- whether a number is a literal of a variable from 1 to n
abbrev pub literal_ok : ℕ → ℤ → Bool
literal_ok n z = nat_lt 0 (unsigned_abs z) && nat_le (unsigned_abs z) n

-- whether every number of a list is such a literal
abbrev pub literals_ok : ℕ → List ℤ → Bool
literals_ok n [] = true
literals_ok n (z ∷ zs) = literal_ok n z && literals_ok n zs

-- whether a number is a variable from 1 to n
abbrev pub variable_ok : ℕ → ℕ → Bool
variable_ok n v = nat_lt 0 v && nat_le v n

-- whether a number is a clause number
abbrev pub number_ok : ℕ → Bool
number_ok k = nat_lt 0 k && nat_le k 1000000
