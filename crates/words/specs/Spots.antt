-- Where a literal belongs in a clause.
use Rattle.std.specs.Prelude.{◌≡◌, ℕ, ◌≤◌, true, false, List, length, ℤ, neg_ℤ}
use Rattle.std.specs.List.{insert as inserted}
use Rattle.words.specs.declared.spot.Spot.{Spot}
use Rattle.words.specs.declared.spot.Spot.TheVariants.{Present, Opposite, Free}
use Rattle.words.specs.Clauses.{has, insert, rising}

-- what is so of a literal and a clause of variables up to n where the literal belongs there
abbrev pub Located : ℕ → ℤ → List ℤ → Spot → Type 0
Located n z c Present = (has z c ≡ true) × (insert z c ≡ c)
Located n z c Opposite = (has z c ≡ false) × (has (neg_ℤ z) c ≡ true)
Located n z c (Free i) =
    (has z c ≡ false) × (has (neg_ℤ z) c ≡ false) × (i ≤ length c) × (inserted c i z ≡ insert z c) × (rising n 0 (insert z c) ≡ true)
