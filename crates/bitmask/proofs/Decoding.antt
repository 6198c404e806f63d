-- The literals that two masks tell.
use Rattle.std.proofs.Common.{◌≡◌, ℕ, zero, suc, ◌+◌, ◌/◌, ◌%◌, ◌^◌, ◌<◌, ◌≤◌, true, false, cond, List, [], ◌∷◌, ◌++◌, length, ℤ, pos, negsuc, nat_abs, sym, refl, ap, ◌∙◌, subst, ⊎_elim, div-one, add-one, arith}
use lib.Bits.{bit_or}
use lib.Count.{ones, ones_step, ones-le}
use Rattle.std.proofs.lemmas.Nat.{mod_below, or_comm, shr-shr, shr_below}
use Rattle.std.proofs.lemmas.Bool.{cases_eq, cases_Bool, and_from, le-leb}
use Rattle.std.proofs.lemmas.Bool.Decides.{nat_tests}
use Rattle.words.specs.Clauses.{has, rising, canonical, within}
use Rattle.words.proofs.Inserts.{has_above}
use Rattle.bitmask.specs.Masks.{bit, decoded_from, decoded, Tells}
use Rattle.bitmask.proofs.Bits.{or_bit, or_one}

-- what the next bit of the two masks tells
module _ (p n i f : ℕ) where
  -- its variable
  pub told_positive : bit p i ≡ true → decoded_from p n i (suc f) ≡ pos (i + 1) ∷ decoded_from p n (i + 1) f
  unfolding decoded_from
  told_positive h = ap (λ b. cond b (pos (i + 1) ∷ []) (cond (bit n i) (negsuc i ∷ []) []) ++ decoded_from p n (i + 1) f) h

  -- the negation
  pub told_negative : bit p i ≡ false → bit n i ≡ true → decoded_from p n i (suc f) ≡ negsuc i ∷ decoded_from p n (i + 1) f
  unfolding decoded_from
  told_negative h k =
      ap (λ b. cond b (pos (i + 1) ∷ []) (cond (bit n i) (negsuc i ∷ []) []) ++ decoded_from p n (i + 1) f) h ∙
      ap (λ b. cond b (negsuc i ∷ []) [] ++ decoded_from p n (i + 1) f) k

  -- no literal
  pub told_nothing : bit p i ≡ false → bit n i ≡ false → decoded_from p n i (suc f) ≡ decoded_from p n (i + 1) f
  unfolding decoded_from
  told_nothing h k =
      ap (λ b. cond b (pos (i + 1) ∷ []) (cond (bit n i) (negsuc i ∷ []) []) ++ decoded_from p n (i + 1) f) h ∙
      ap (λ b. cond b (negsuc i ∷ []) [] ++ decoded_from p n (i + 1) f) k

-- a list that rises from above m rises from above a lower bound
rising_lower : (v m k : ℕ) (zs : List ℤ) → k ≤ m → rising v m zs ≡ true → rising v k zs ≡ true
rising_lower v m k [] h r = refl
rising_lower v m k (z ∷ zs) h r = grind (arith, nat_tests)

-- the literals of two masks rise
rising_decoded : (p n i f : ℕ) → i + f ≤ 64 → rising 64 i (decoded_from p n i f) ≡ true
unfolding decoded_from
rising_decoded p n i zero h = refl
rising_decoded p n i (suc f) h =
    let ih = rising_decoded p n (i + 1) f (omega arith) in
    let lower = rising_lower 64 (i + 1) i (decoded_from p n (i + 1) f) (omega arith) ih in
    let a : nat_abs (pos (i + 1)) ≡ i + 1 = refl in
    let b : suc i ≡ i + 1 = omega arith in
    let below : rising 64 (suc i) (decoded_from p n (i + 1) f) ≡ true = ap (λ k. rising 64 k (decoded_from p n (i + 1) f)) b ∙ ih in
    ⊎_elim
    (λ (x : bit p i ≡ true). let e = ap (rising 64 i) (told_positive p n i f x) in grind (arith, nat_tests))
    (λ (x : bit p i ≡ false).
    ⊎_elim
    (λ (y : bit n i ≡ true). let e = ap (rising 64 i) (told_negative p n i f x y) in grind (arith, nat_tests))
    (λ (y : bit n i ≡ false). ap (rising 64 i) (told_nothing p n i f x y) ∙ lower)
    (cases_Bool (bit n i)))
    (cases_Bool (bit p i))

-- how many literals two masks tell: as many as bits are set in one of them
length_decoded_from : (p n i f : ℕ) → bit_or p n / 2 ^ i < 2 ^ f → length (decoded_from p n i f) ≡ ones (bit_or p n / 2 ^ i)
unfolding decoded_from
length_decoded_from p n i zero h = let z = ones-le 0 (bit_or p n / 2 ^ i) h in omega arith
length_decoded_from p n i (suc f) h =
    let m = bit_or p n / 2 ^ i in
    let half : m / 2 ≡ bit_or p n / 2 ^ (i + 1) = shr-shr (bit_or p n) i 1 in
    let small : m / 2 < 2 ^ f = shr_below m f 1 (subst (λ x. m < 2 ^ x) (sym (add-one f)) h) in
    let ih = length_decoded_from p n (i + 1) f (subst (λ x. x < 2 ^ f) half small) in
    let s = ones_step m ∙ ap (λ x. m % 2 + ones x) half in
    let o = or_bit p n i in
    let bn = mod_below (n / 2 ^ i) 2 (omega arith) in
    let bp = mod_below (p / 2 ^ i) 2 (omega arith) in
    ⊎_elim
    (λ (x : bit p i ≡ true).
    let q : p / 2 ^ i % 2 ≡ 1 = grind (arith, nat_tests) in
    let t : m % 2 ≡ 1 = o ∙ ap (λ y. bit_or y (n / 2 ^ i % 2)) q ∙ or_comm 1 (n / 2 ^ i % 2) ∙ or_one (n / 2 ^ i % 2) bn in
    let e = ap length (told_positive p n i f x) in
    omega arith)
    (λ (x : bit p i ≡ false).
    let q : p / 2 ^ i % 2 ≡ 0 = grind (arith, nat_tests) in
    let t : m % 2 ≡ n / 2 ^ i % 2 = o ∙ ap (λ y. bit_or y (n / 2 ^ i % 2)) q in
    ⊎_elim
    (λ (y : bit n i ≡ true).
    let r : n / 2 ^ i % 2 ≡ 1 = grind (arith, nat_tests) in
    let e = ap length (told_negative p n i f x y) in
    omega arith)
    (λ (y : bit n i ≡ false).
    let r : n / 2 ^ i % 2 ≡ 0 = grind (arith, nat_tests) in
    let e = ap length (told_nothing p n i f x y) in
    omega arith)
    (cases_Bool (bit n i)))
    (cases_Bool (bit p i))

-- the same of two masks of 64 bits
pub length_decoded : (p n : ℕ) → bit_or p n < 2 ^ 64 → length (decoded p n) ≡ ones (bit_or p n)
unfolding decoded
length_decoded p n h =
    let e = div-one (bit_or p n) in
    length_decoded_from p n 0 64 (subst (λ x. x < 2 ^ 64) (sym e) h) ∙ ap ones e

-- f bits tell at most f literals
short_decoded : (p n i f : ℕ) → length (decoded_from p n i f) ≤ f
unfolding decoded_from
short_decoded p n i zero = omega arith
short_decoded p n i (suc f) =
    let ih = short_decoded p n (i + 1) f in
    ⊎_elim
    (λ (x : bit p i ≡ true). omega (arith, ap length (told_positive p n i f x)))
    (λ (x : bit p i ≡ false).
    ⊎_elim
    (λ (y : bit n i ≡ true). omega (arith, ap length (told_negative p n i f x y)))
    (λ (y : bit n i ≡ false). omega (arith, ap length (told_nothing p n i f x y)))
    (cases_Bool (bit n i)))
    (cases_Bool (bit p i))

-- any two masks tell a clause in canonical form
pub canonical_decoded : (p n : ℕ) → canonical 64 64 (decoded p n) ≡ true
unfolding decoded
canonical_decoded p n =
    let s = short_decoded p n 0 64 in
    let r = rising_decoded p n 0 64 (omega arith) in
    and_from _ _ (le-leb _ _ s) r

-- masks that tell the literals of a clause from bit v on decode to it
decodes : (p n v f : ℕ) (zs : List ℤ) → rising 64 v zs ≡ true → 64 ≤ v + f →
    ((j : ℕ) → v ≤ j → bit p j ≡ has (pos (j + 1)) zs) → ((j : ℕ) → v ≤ j → bit n j ≡ has (negsuc j) zs) → decoded_from p n v f ≡ zs
unfolding decoded_from
decodes p n v zero [] r h bp bn = refl
decodes p n v zero (z ∷ zs) r h bp bn = absurd (let q : nat_abs z ≤ 64 = grind (arith, nat_tests) in let q2 : v < nat_abs z = grind (arith, nat_tests) in omega arith)
decodes p n v (suc f) [] r h bp bn =
    told_nothing p n v f (bp v (omega arith)) (bn v (omega arith)) ∙
    decodes p n (v + 1) f [] refl (omega arith) (λ j k. bp j (omega arith)) (λ j k. bn j (omega arith))
decodes p n v (suc f) (pos a ∷ zs) r h bp bn =
    let r1 : rising 64 a zs ≡ true = grind (arith, nat_tests) in
    let r2 : v < a = grind (arith, nat_tests) in
    ⊎_elim
    (λ (e : a ≡ v + 1).
    let x : bit p v ≡ true = bp v (omega arith) ∙ grind (arith, nat_tests) in
    let r3 : rising 64 (v + 1) zs ≡ true = ap (λ k. rising 64 k zs) (sym e) ∙ r1 in
    let ih = decodes p n (v + 1) f zs r3 (omega arith) (λ j k. let y = bp j (omega arith) in grind (arith, nat_tests)) (λ j k. bn j (omega arith)) in
    told_positive p n v f x ∙ ap (λ k. pos k ∷ decoded_from p n (v + 1) f) (sym e) ∙ ap (λ l. pos a ∷ l) ih)
    (λ (e : a ≡ v + 1 → ⊥).
    let o1 = has_above 64 a (pos (v + 1)) zs r1 (omega arith) in
    let o2 = has_above 64 a (negsuc v) zs r1 (omega arith) in
    let x : bit p v ≡ false = bp v (omega arith) ∙ grind (arith, nat_tests) in
    let y : bit n v ≡ false = bn v (omega arith) ∙ grind (arith, nat_tests) in
    let r3 : rising 64 (v + 1) (pos a ∷ zs) ≡ true = grind (arith, nat_tests) in
    told_nothing p n v f x y ∙
    decodes p n (v + 1) f (pos a ∷ zs) r3 (omega arith) (λ j k. bp j (omega arith)) (λ j k. bn j (omega arith)))
    (cases_eq a (v + 1))
decodes p n v (suc f) (negsuc a ∷ zs) r h bp bn =
    let r1 : rising 64 (suc a) zs ≡ true = grind (arith, nat_tests) in
    let r2 : v < suc a = grind (arith, nat_tests) in
    ⊎_elim
    (λ (e : a ≡ v).
    let o1 = has_above 64 (suc a) (pos (v + 1)) zs r1 (omega arith) in
    let x : bit p v ≡ false = bp v (omega arith) ∙ grind (arith, nat_tests) in
    let y : bit n v ≡ true = bn v (omega arith) ∙ grind (arith, nat_tests) in
    let s1 : suc a ≡ v + 1 = omega arith in
    let r3 : rising 64 (v + 1) zs ≡ true = ap (λ k. rising 64 k zs) (sym s1) ∙ r1 in
    let ih = decodes p n (v + 1) f zs r3 (omega arith) (λ j k. bp j (omega arith)) (λ j k. let y2 = bn j (omega arith) in grind (arith, nat_tests)) in
    told_negative p n v f x y ∙ ap (λ k. negsuc k ∷ decoded_from p n (v + 1) f) (sym e) ∙ ap (λ l. negsuc a ∷ l) ih)
    (λ (e : a ≡ v → ⊥).
    let o1 = has_above 64 (suc a) (pos (v + 1)) zs r1 (omega arith) in
    let o2 = has_above 64 (suc a) (negsuc v) zs r1 (omega arith) in
    let x : bit p v ≡ false = bp v (omega arith) ∙ grind (arith, nat_tests) in
    let y : bit n v ≡ false = bn v (omega arith) ∙ grind (arith, nat_tests) in
    let r3 : rising 64 (v + 1) (negsuc a ∷ zs) ≡ true = grind (arith, nat_tests) in
    told_nothing p n v f x y ∙
    decodes p n (v + 1) f (negsuc a ∷ zs) r3 (omega arith) (λ j k. bp j (omega arith)) (λ j k. bn j (omega arith)))
    (cases_eq a v)

-- a clause within the masks is of variables up to 64
rising_within : (v w m : ℕ) (zs : List ℤ) → rising v m zs ≡ true → within w zs ≡ true → rising w m zs ≡ true
rising_within v w m [] r h = refl
rising_within v w m (z ∷ zs) r h = let ih = rising_within v w (nat_abs z) zs in grind (arith, nat_tests, ih)

-- masks that tell exactly the literals of a clause decode to it
pub decoded_tells : (p n : ℕ) (zs : List ℤ) → rising 512 0 zs ≡ true → within 64 zs ≡ true → Tells p n zs → decoded p n ≡ zs
unfolding decoded
decoded_tells p n zs r w t = decodes p n 0 64 zs (rising_within 512 64 0 zs r w) (omega arith) (λ j k. t.positives j) (λ j k. t.negatives j)
