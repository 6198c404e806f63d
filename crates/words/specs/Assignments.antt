-- Assignments. An assignment of n variables is a list of n bytes, each 0 or 1; variable v has the byte at place v - 1.
-- A literal v is true at 1, and -v at 0. A literal whose variable lies beyond the list is false, whatever its sign.
use Rattle.std.specs.Prelude.{ℕ, ◌-◌, Bool, true, false, ◌&&◌, ◌||◌, List, [], ◌∷◌, length, ℤ, pos, negsuc, ◌==◌, nat_le, slice_index, slice_set, unsigned_abs}

-- whether every byte of a list is 0 or 1
abbrev pub all_bits : List ℕ → Bool
all_bits [] = true
all_bits (b ∷ bs) = nat_le b 1 && all_bits bs

-- whether a list is an assignment of n variables
abbrev pub assignment : ℕ → List ℕ → Bool
assignment n a = length a == n && all_bits a

-- the byte at which a literal is true
abbrev pub wanted : ℤ → ℕ
wanted (pos v) = 1
wanted (negsuc v) = 0

-- whether an assignment makes a literal true
abbrev pub holds : List ℕ → ℤ → Bool
holds a z = nat_le (unsigned_abs z) (length a) && slice_index a (unsigned_abs z - 1) == wanted z

-- whether an assignment meets a clause: one of its literals is true
abbrev pub met : List ℕ → List ℤ → Bool
met a [] = false
met a (x ∷ xs) = holds a x || met a xs

-- whether an assignment meets every clause of a list
abbrev pub all_met : List ℕ → List (List ℤ) → Bool
all_met a [] = true
all_met a (c ∷ cs) = met a c && all_met a cs

-- an assignment with a literal made true; one beyond it changes nothing
abbrev pub made_true : ℤ → List ℕ → List ℕ
made_true z a = slice_set a (unsigned_abs z - 1) (wanted z)
