-- The bits of a mask.
use Rattle.std.proofs.Common.{◌≡◌, ℕ, ◌+◌, ◌-◌, ◌/◌, ◌%◌, ◌^◌, ◌<◌, true, false, cond, eqb, ap, ◌∙◌, ⊎_elim, arith}
use native.Mathlib.Nat.{div_self, div-eq_of_lt, mul-mod_left}
use lib.Bits.{bit_and, bit_or}
use Rattle.std.proofs.lemmas.Nat.{and_mask, or_shr, or_mod, pow-add, pow_pos, pow_below, shl-shr, mod_below, or_comm}
use Rattle.std.proofs.lemmas.Bool.{cases_order, cases_eq}
use Rattle.std.proofs.lemmas.Bool.Decides.{nat_tests}
use Rattle.bitmask.specs.Masks.{bit}

-- the lowest bit of a number
pub low_bit : (m : ℕ) → bit_and m 1 ≡ m % 2
low_bit m = and_mask m 1

-- a bit of a union
pub or_bit : (a b i : ℕ) → bit_or a b / 2 ^ i % 2 ≡ bit_or (a / 2 ^ i % 2) (b / 2 ^ i % 2)
or_bit a b i = ap (λ x. x % 2) (or_shr a b i) ∙ or_mod (a / 2 ^ i) (b / 2 ^ i) 1

-- a bit joined with one that is set
pub or_one : (x : ℕ) → x < 2 → bit_or x 1 ≡ 1
or_one x h =
    ⊎_elim (λ (e : x ≡ 0). ap (λ y. bit_or y 1) e) (λ (e : x ≡ 0 → ⊥). let f : x ≡ 1 = omega arith in ap (λ y. bit_or y 1) f) (cases_eq x 0)

-- bit i of 2 ^ j: set at j, and nowhere else
pow_bit_same : (j : ℕ) → 2 ^ j / 2 ^ j % 2 ≡ 1
pow_bit_same j = ap (λ x. x % 2) (div_self (pow_pos j))

-- below its one bit a power of two has none
pow_bit_above : (i j : ℕ) → i < j → 2 ^ j / 2 ^ i % 2 ≡ 0
pow_bit_above i j h =
    let e : j ≡ (j - i - 1 + 1) + i = omega arith in
    let p = ap (λ x. 2 ^ x) e ∙ pow-add 2 (j - i - 1 + 1) i in
    let q = pow-add 2 (j - i - 1) 1 in
    ap (λ x. x / 2 ^ i % 2) p ∙ ap (λ x. x % 2) (shl-shr (2 ^ (j - i - 1 + 1)) i) ∙ ap (λ x. x % 2) q ∙ mul-mod_left (2 ^ (j - i - 1)) 2

-- nor above it
pow_bit_below : (i j : ℕ) → j < i → 2 ^ j / 2 ^ i % 2 ≡ 0
pow_bit_below i j h = ap (λ x. x % 2) (div-eq_of_lt (pow_below j i h))

-- a mask with bit j set
pub set_bit : (m j i : ℕ) → bit (bit_or m (2 ^ j)) i ≡ cond (eqb i j) true (bit m i)
set_bit m j i =
    let o = or_bit m (2 ^ j) i in
    let b = mod_below (m / 2 ^ i) 2 (omega arith) in
    ⊎_elim
    (λ (q : i ≡ j).
    let p : 2 ^ j / 2 ^ i % 2 ≡ 1 = ap (λ x. 2 ^ j / 2 ^ x % 2) q ∙ pow_bit_same j in
    let t = o ∙ ap (bit_or (m / 2 ^ i % 2)) p ∙ or_one _ b in
    grind (arith, nat_tests))
    (λ w.
    let p : 2 ^ j / 2 ^ i % 2 ≡ 0 = ⊎_elim (pow_bit_above i j) (pow_bit_below i j) w in
    let n : i ≡ j → ⊥ = ⊎_elim (λ (x : i < j). λ y. omega arith) (λ (x : j < i). λ y. omega arith) w in
    let t = o ∙ ap (bit_or (m / 2 ^ i % 2)) p ∙ or_comm _ 0 in
    grind (arith, nat_tests))
    (cases_order i j)

-- no bit of the empty mask is set
pub no_bit : (i : ℕ) → bit 0 i ≡ false
no_bit i = ap (λ x. eqb (x % 2) 1) (div-eq_of_lt (pow_pos i))
