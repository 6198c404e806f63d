-- Masks that tell the literals of a list, one more at a time.
use Rattle.std.proofs.Common.{◌≡◌, ℕ, zero, suc, ◌+◌, ◌-◌, ◌*◌, ◌%◌, ◌^◌, ◌<◌, ◌≤◌, true, false, leb, List, [], ◌∷◌, ◌++◌, length, get_or, ℤ, pos, negsuc, nat_abs, sym, ap, subst, arith}
use lib.Signed.{lt_z}
use lib.Bits.{bit_or}
use Rattle.std.proofs.lemmas.Nat.{one_shl}
use Rattle.std.proofs.lemmas.Bool.{false≢true}
use Rattle.std.proofs.lemmas.Bool.Decides.{nat_tests}
use Rattle.words.specs.Clauses.{rising, within}
use Rattle.words.proofs.Inserts.{has_push}
use Rattle.bitmask.specs.Masks.{decoded, Tells}
use Rattle.bitmask.specs.Slots.{entry}
use Rattle.bitmask.specs.declared.slot.Slot.{Slot}
use Rattle.bitmask.proofs.Bits.{set_bit, no_bit}

-- empty masks tell no literal
pub tells_none : Tells 0 0 []
tells_none = record { positives = no_bit; negatives = no_bit }

-- a bit more in the first mask tells a variable more
tells_positive : (p n k : ℕ) (zs : List ℤ) → Tells p n zs → Tells (bit_or p (2 ^ k)) n (zs ++ (pos (k + 1) ∷ []))
tells_positive p n k zs t =
    record {
      positives = λ i.
          let s = set_bit p k i in
          let h = has_push (pos (i + 1)) zs (pos (k + 1)) in
          let a = t.positives i in
          grind (arith, nat_tests);
      negatives = λ i.
          let h = has_push (negsuc i) zs (pos (k + 1)) in
          let a = t.negatives i in
          grind (arith, nat_tests);
    }

-- a bit more in the second mask tells a negation more
tells_negative : (p n k : ℕ) (zs : List ℤ) → Tells p n zs → Tells p (bit_or n (2 ^ k)) (zs ++ (negsuc k ∷ []))
tells_negative p n k zs t =
    record {
      positives = λ i.
          let h = has_push (pos (i + 1)) zs (negsuc k) in
          let a = t.positives i in
          grind (arith, nat_tests);
      negatives = λ i.
          let s = set_bit n k i in
          let h = has_push (negsuc i) zs (negsuc k) in
          let a = t.negatives i in
          grind (arith, nat_tests);
    }

-- a positive literal by its variable
positive_is : (l : ℤ) (u : ℕ) → lt_z (pos 0) l ≡ true → u ≡ nat_abs l → l ≡ pos (u - 1 + 1)
positive_is (pos a) u h e = let g : 0 < a = grind (arith, nat_tests) in ap pos (omega arith)
positive_is (negsuc a) u h e = absurd (false≢true h)

-- a negation by its variable
negative_is : (l : ℤ) (u : ℕ) → lt_z (pos 0) l ≡ false → 1 ≤ nat_abs l → u ≡ nat_abs l → l ≡ negsuc (u - 1)
negative_is (pos a) u h g e = absurd (let k : a ≤ 0 = grind (arith, nat_tests) in omega arith)
negative_is (negsuc a) u h g e = ap negsuc (omega arith)

-- the masks with the bit of a literal, whose variable is u
module _ (p n u : ℕ) (l : ℤ) (low : 1 ≤ nat_abs l) (high : nat_abs l ≤ 64) (e : u ≡ nat_abs l) where
  -- where it is positive, in the first mask
  pub with_positive : lt_z (pos 0) l ≡ true → (zs : List ℤ) → Tells p n zs → Tells (bit_or p ((1 * 2 ^ (u - 1)) % 2 ^ 64)) n (zs ++ (l ∷ []))
  with_positive h zs t =
      let s = one_shl (u - 1) 64 (omega arith) in
      subst (λ x. Tells (bit_or p x) n (zs ++ (l ∷ []))) (sym s)
      (subst (λ z. Tells (bit_or p (2 ^ (u - 1))) n (zs ++ (z ∷ []))) (sym (positive_is l u h e)) (tells_positive p n (u - 1) zs t))

  -- where it is a negation, in the second
  pub with_negative : lt_z (pos 0) l ≡ false → (zs : List ℤ) → Tells p n zs → Tells p (bit_or n ((1 * 2 ^ (u - 1)) % 2 ^ 64)) (zs ++ (l ∷ []))
  with_negative h zs t =
      let s = one_shl (u - 1) 64 (omega arith) in
      subst (λ x. Tells p (bit_or n x) (zs ++ (l ∷ []))) (sym s)
      (subst (λ z. Tells p (bit_or n (2 ^ (u - 1))) (zs ++ (z ∷ []))) (sym (negative_is l u h low e)) (tells_negative p n (u - 1) zs t))

-- of a clause the last literal has the highest variable
pub within_last : (v w m i : ℕ) (zs : List ℤ) → rising v m zs ≡ true → i + 1 ≡ length zs → within w zs ≡ leb (nat_abs (get_or zs i (pos 0))) w
within_last v w m i [] r h = absurd (omega arith)
within_last v w m zero (z ∷ []) r h = grind (arith, nat_tests)
within_last v w m (suc i) (z ∷ []) r h = absurd (omega arith)
within_last v w m zero (z ∷ (y ∷ zs)) r h = absurd (omega arith)
within_last v w m (suc i) (z ∷ (y ∷ zs)) r h =
    let k : rising v (nat_abs z) (y ∷ zs) ≡ true = grind (arith, nat_tests) in
    let ih = within_last v w (nat_abs z) i (y ∷ zs) k (omega arith) in
    grind (arith, nat_tests)

-- a slot from its number and what its masks tell
pub entry_is : (s : Slot) (k : ℕ) (zs : List ℤ) → s.number ≡ k → decoded s.plus s.minus ≡ zs → entry s ≡ record { number = k; lits = zs }
entry_is s k zs e d = cc
