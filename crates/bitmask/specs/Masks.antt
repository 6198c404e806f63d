-- A clause as two masks, one for each sign: bit v - 1 of the first tells the literal v, of the second the literal -v.
use Rattle.std.specs.Prelude.{◌≡◌, ℕ, zero, suc, ◌+◌, ◌/◌, ◌%◌, ◌^◌, Bool, cond, List, [], ◌∷◌, ◌++◌, ℤ, pos, negsuc, ◌==◌}
use Rattle.words.specs.Clauses.{has}

-- bit i of a mask
abbrev pub bit : ℕ → ℕ → Bool
bit m i = m / 2 ^ i % 2 == 1

-- the literal that bit i of two masks tells, if any; were it set in both, the first would count
abbrev pub told : ℕ → ℕ → ℕ → List ℤ
told p n i = cond (bit p i) (pos (i + 1) ∷ []) (cond (bit n i) (negsuc i ∷ []) [])

-- the literals of two masks from bit i on, f bits, by rising variable
unfoldable pub decoded_from : ℕ → ℕ → ℕ → ℕ → List ℤ
decoded_from p n i zero = []
decoded_from p n i (suc f) = told p n i ++ decoded_from p n (i + 1) f

-- the literals of two masks of 64 bits
unfoldable pub decoded : ℕ → ℕ → List ℤ
decoded p n = decoded_from p n 0 64

-- two masks tell exactly the literals of a list
pub record Tells (p n : ℕ) (zs : List ℤ) : Type 0 where
  pub positives : (i : ℕ) → bit p i ≡ has (pos (i + 1)) zs
  pub negatives : (i : ℕ) → bit n i ≡ has (negsuc i) zs
