-- Literal marks: a table of 2n flags, one for each literal of n variables. v has place v - 1, and -v has place n - 1 + v.
use Rattle.std.specs.Prelude.{◌≡◌, ℕ, ◌+◌, ◌-◌, ◌≤◌, cond, List, ℤ, pos, negsuc, slice_index, unsigned_abs}
use Rattle.words.specs.Clauses.{has}

-- the place of a literal in the table
abbrev pub mark_place : ℕ → ℤ → ℕ
mark_place n (pos v) = v - 1
mark_place n (negsuc k) = n + k

-- the flag of every literal of n variables is 1 where the literal is in a list, else 0
abbrev pub Marked : ℕ → List ℕ → List ℤ → Type 0
Marked n flags zs = (z : ℤ) → 1 ≤ unsigned_abs z → unsigned_abs z ≤ n → slice_index flags (mark_place n z) ≡ cond (has z zs) 1 0
