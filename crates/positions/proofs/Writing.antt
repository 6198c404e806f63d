-- How long the texts are, and a position read back from its text.
use Rattle.std.proofs.Common.{◌≡◌, ℕ, zero, suc, ◌+◌, ◌*◌, ◌≤◌, true, false, List, [], ◌∷◌, length, refl, ap, ◌∙◌, ⊎_elim, arith}
use Rattle.std.proofs.lemmas.Bool.{cases_Bool, cond-true, cond-false}
use Rattle.std.proofs.lemmas.Bool.Decides.{nat_tests}
use Rattle.textlines.specs.Lines.{blank}
use Rattle.words.specs.Assignments.{all_bits}
use Rattle.positions.specs.Values.{value_of, position_values, value_byte, text_behind, position_text, ReadBack}

-- a text has no more values than bytes
pub values_few : (bs : List ℕ) → length (position_values bs) ≤ length bs
values_few [] = omega arith
values_few (b ∷ bs) =
    let ih = values_few bs in
    ⊎_elim
    (λ (t : blank b ≡ true). omega (arith, ap length (cond-true (blank b) (position_values bs) (value_of b ∷ position_values bs) t)))
    (λ (t : blank b ≡ false). omega (arith, ap length (cond-false (blank b) (position_values bs) (value_of b ∷ position_values bs) t)))
    (cases_Bool (blank b))

-- a position's text has at most two bytes for each value and one more
pub length_behind : (vs : List ℕ) → length (text_behind vs) ≡ 2 * length vs + 1
length_behind [] = refl
length_behind (v ∷ vs) = let ih = length_behind vs in omega arith

pub text_short : (vs : List ℕ) → length (position_text vs) ≤ 2 * length vs + 1
text_short [] = omega arith
text_short (v ∷ vs) = omega (arith, length_behind vs)

-- a value that a switch can have is read back from its byte
bit_back : (v : ℕ) (bs : List ℕ) → v ≤ 1 → position_values (value_byte v ∷ bs) ≡ v ∷ position_values bs
bit_back zero bs h = refl
bit_back (suc zero) bs h = refl
bit_back (suc (suc v)) bs h = absurd (omega arith)

-- and so are all values of a text
behind_back : (vs : List ℕ) → all_bits vs ≡ true → position_values (text_behind vs) ≡ vs
behind_back [] h = refl
behind_back (v ∷ vs) h =
    let a : v ≤ 1 = grind (arith, nat_tests) in
    let b : all_bits vs ≡ true = grind (arith, nat_tests) in
    bit_back v (text_behind vs) a ∙ ap (◌∷◌ v) (behind_back vs b)

-- the space before the first value makes no difference
pub read_back : (vs : List ℕ) → ReadBack vs
read_back [] h = refl
read_back (v ∷ vs) h = behind_back (v ∷ vs) h
