-- What an assignment is refused for.
use Rattle.std.proofs.Common.{◌≡◌, ℕ, ◌+◌, not, List, [], ◌∷◌, refl, arith, nat_lt}
use Rattle.std.proofs.lemmas.Bool.Decides.{nat_tests}
use Rattle.std.specs.List.{find, position_from}
use Rattle.std.specs.Option.{option_map}
use Rattle.words.specs.Assignments.{met}
use Rattle.words.specs.Standing.{Entry}
use Rattle.rules.specs.Restoring.{bad_byte, first_unmet}

-- the search of a byte above 1 counts its position from 1
byte_counted : (i : ℕ) (bs : List ℕ) → option_map (λ k. k + 1) (position_from (λ b. nat_lt 1 b) i bs) ≡ bad_byte i bs
byte_counted i [] = refl
byte_counted i (b ∷ bs) = let ih = byte_counted (i + 1) bs in grind (arith, nat_tests)

pub byte_position : (bs : List ℕ) → option_map (λ k. k + 1) (position_from (λ b. nat_lt 1 b) 0 bs) ≡ bad_byte 0 bs
byte_position bs = byte_counted 0 bs

-- the first clause that is not met has the number that is looked for
pub unmet_found : (a : List ℕ) (s : List Entry) → option_map (λ (e : Entry). e.number) (find (λ (e : Entry). not (met a e.lits)) s) ≡ first_unmet a s
unmet_found a [] = refl
unmet_found a (e ∷ s) = let ih = unmet_found a s in grind (arith, nat_tests)
