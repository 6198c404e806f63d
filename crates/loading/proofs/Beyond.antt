-- Numbers that are no literals of the formula.
use Rattle.std.proofs.Common.{◌≡◌, ℕ, not, zero, suc, ◌+◌, ◌<◌, ◌≤◌, List, [], ◌∷◌, length, get_or, ℤ, pos, nat_abs, None, refl, arith}
use Rattle.std.proofs.lemmas.Bool.Decides.{nat_tests}
use Rattle.std.specs.List.{position_from}
use Rattle.std.specs.Option.{option_map}
use Rattle.words.specs.Literals.{literal_ok}
use Rattle.rules.specs.Loading.{beyond_at}

-- where none is beyond, each is a literal
pub literal_at : (n k : ℕ) (zs : List ℤ) (i : ℕ) → beyond_at n k zs ≡ None → i < length zs → (1 ≤ nat_abs (get_or zs i (pos 0))) × (nat_abs (get_or zs i (pos 0)) ≤ n)
literal_at n k [] i b h = absurd (omega arith)
literal_at n k (z ∷ zs) zero b h = (grind (arith, nat_tests), grind (arith, nat_tests))
literal_at n k (z ∷ zs) (suc i) b h = let q : beyond_at n (k + 1) zs ≡ None = grind (arith, nat_tests) in literal_at n (k + 1) zs i q (omega arith)

-- a literal of fewer variables is one of more
pub beyond_wider : (n m k : ℕ) (zs : List ℤ) → n ≤ m → beyond_at n k zs ≡ None → beyond_at m k zs ≡ None
beyond_wider n m k [] h b = refl
beyond_wider n m k (z ∷ zs) h b = let ih = beyond_wider n m (k + 1) zs h in grind (arith, nat_tests, ih)

-- the search counts its position from 1
beyond_counted : (n i : ℕ) (zs : List ℤ) → option_map (λ k. k + 1) (position_from (λ z. not (literal_ok n z)) i zs) ≡ beyond_at n i zs
beyond_counted n i [] = refl
beyond_counted n i (z ∷ zs) = let ih = beyond_counted n (i + 1) zs in grind (arith, nat_tests)

pub beyond_position : (n : ℕ) (zs : List ℤ) → option_map (λ k. k + 1) (position_from (λ z. not (literal_ok n z)) 0 zs) ≡ beyond_at n 0 zs
beyond_position n zs = beyond_counted n 0 zs
