-- A literal put into a clause by its variable.
use Rattle.std.proofs.Common.{◌≡◌, ℕ, ◌+◌, ◌<◌, ◌≤◌, Bool, true, false, cond, ◌&&◌, ◌||◌, ltb, List, [], ◌∷◌, ◌++◌, length, get_or, take, drop, ℤ, pos, neg_ℤ, nat_abs, sym, refl, ap, ◌∙◌, subst, ⊎_elim, arith}
use Rattle.std.proofs.lemmas.List.{append-nil, length-append, length-take, take_at, drop_at, drop_more, take_all, drop_all, take-append-drop}
use Rattle.std.proofs.lemmas.Bool.{cases_Bool, cases_lt, cases_order, both_ways}
use Rattle.std.proofs.lemmas.Bool.Decides.{nat_tests}
use Rattle.words.specs.declared.spot.Spot.TheVariants.{Present, Opposite, Free}
use Rattle.words.specs.Literals.{same, literals_ok}
use Rattle.words.specs.Clauses.{has, insert, rising}
use Rattle.words.specs.Spots.{Located}
use Rattle.words.proofs.Literals.{same_is, same_eq, same_ne, same_apart, same_or_neg, nat_abs_neg}

-- what is in two lists together
pub has_append : (z : ℤ) (xs ys : List ℤ) → has z (xs ++ ys) ≡ (has z xs || has z ys)
has_append z [] ys = refl
has_append z (x ∷ xs) ys = let ih = has_append z xs ys in grind (arith, nat_tests)

-- what is in a list with one literal more at its end
pub has_push : (z : ℤ) (zs : List ℤ) (l : ℤ) → has z (zs ++ l ∷ []) ≡ (has z zs || same l z)
has_push z zs l = let h = has_append z zs (l ∷ []) in grind (arith, nat_tests)

-- whether every variable of a list is below v
abbrev pub lower : ℕ → List ℤ → Bool
lower v [] = true
lower v (x ∷ xs) = ltb (nat_abs x) v && lower v xs

-- a literal is not among those of lower variables
pub has_front : (z : ℤ) (xs ys : List ℤ) → lower (nat_abs z) xs ≡ true → has z (xs ++ ys) ≡ has z ys
has_front z [] ys h = refl
has_front z (x ∷ xs) ys h =
    let ih = has_front z xs ys in
    let p : nat_abs x < nat_abs z = grind (arith, nat_tests) in
    let s = same_apart x z (λ e. omega arith) in
    grind (arith, nat_tests, ih)

-- a literal goes behind those of lower variables
pub insert_front : (z : ℤ) (xs ys : List ℤ) → lower (nat_abs z) xs ≡ true → insert z (xs ++ ys) ≡ xs ++ insert z ys
insert_front z [] ys h = refl
insert_front z (x ∷ xs) ys h =
    let q : lower (nat_abs z) xs ≡ true = grind (arith, nat_tests) in
    let ih = ap (λ l. x ∷ l) (insert_front z xs ys q) in
    let p : nat_abs x < nat_abs z = grind (arith, nat_tests) in
    let s = same_apart x z (λ e. omega arith) in
    grind (arith, nat_tests)

-- a literal is not among those of higher variables
pub has_above : (n m : ℕ) (z : ℤ) (xs : List ℤ) → rising n m xs ≡ true → nat_abs z ≤ m → has z xs ≡ false
has_above n m z [] r h = refl
has_above n m z (x ∷ xs) r h =
    let p : nat_abs z < nat_abs x = grind (arith, nat_tests) in
    let q : rising n (nat_abs x) xs ≡ true = grind (arith, nat_tests) in
    let ih = has_above n (nat_abs x) z xs q (omega arith) in
    let s = same_apart x z (λ e. omega arith) in
    grind (arith, nat_tests)

-- the part behind others rises on
pub rising_behind : (n m : ℕ) (xs ys : List ℤ) → rising n m (xs ++ ys) ≡ true → (k : ℕ) × (m ≤ k) × (rising n k ys ≡ true)
rising_behind n m [] ys r = (m, omega arith, r)
rising_behind n m (x ∷ xs) ys r =
    let q : rising n (nat_abs x) (xs ++ ys) ≡ true = grind (arith, nat_tests) in
    let p : m < nat_abs x = grind (arith, nat_tests) in
    let ih = rising_behind n (nat_abs x) xs ys q in
    (ih.0, omega (arith, ih.1), ih.2)

-- a clause stays one with a literal more, unless its negation is there
pub rising_insert : (n m : ℕ) (z : ℤ) (c : List ℤ) → rising n m c ≡ true → m < nat_abs z → nat_abs z ≤ n → has (neg_ℤ z) c ≡ false → rising n m (insert z c) ≡ true
rising_insert n m z [] r p q h = grind (arith, nat_tests)
rising_insert n m z (x ∷ c) r p q h =
    let ih = rising_insert n (nat_abs x) z c in
    ⊎_elim
    (λ (e : nat_abs z ≡ nat_abs x).
    ⊎_elim
    (λ (s : same x z ≡ true). grind (arith, nat_tests))
    (λ (s : same x z ≡ false). let t = same_or_neg x z (sym e) (λ w. both_ways (same x z) s (same_eq x z w)) in absurd (both_ways (same x (neg_ℤ z)) (grind (arith, nat_tests)) t))
    (cases_Bool (same x z)))
    (⊎_elim
    (λ (e : nat_abs z < nat_abs x). grind (arith, nat_tests))
    (λ (e : nat_abs x < nat_abs z). let s = same_apart x z (λ w. omega arith) in grind (arith, nat_tests, ih)))
    (cases_order (nat_abs z) (nat_abs x))

-- what is in a list with a literal more
pub has_insert : (y z : ℤ) (c : List ℤ) → has y (insert z c) ≡ (same z y || has y c)
has_insert y z [] = refl
has_insert y z (x ∷ c) =
    let ih = has_insert y z c in
    ⊎_elim
    (λ (s : same x z ≡ true). let t = ap (λ w. same w y) (same_is x z s) in grind (arith, nat_tests))
    (λ (s : same x z ≡ false). grind (arith, nat_tests))
    (cases_Bool (same x z))

-- a literal that is there is not put in again
pub insert_present : (n m : ℕ) (z : ℤ) (c : List ℤ) → rising n m c ≡ true → has z c ≡ true → insert z c ≡ c
insert_present n m z [] r h = absurd (grind (arith, nat_tests))
insert_present n m z (x ∷ c) r h =
    let q : rising n (nat_abs x) c ≡ true = grind (arith, nat_tests) in
    ⊎_elim
    (λ (s : same x z ≡ true). let t = ap nat_abs (same_is x z s) in grind (arith, nat_tests))
    (λ (s : same x z ≡ false).
    let k : has z c ≡ true = grind (arith, nat_tests) in
    let ih = ap (λ l. x ∷ l) (insert_present n (nat_abs x) z c q k) in
    ⊎_elim
    (λ (e : nat_abs x < nat_abs z). grind (arith, nat_tests))
    (λ (e : nat_abs z ≤ nat_abs x). absurd (both_ways (has z c) (has_above n (nat_abs x) z c q e) k))
    (cases_lt (nat_abs x) (nat_abs z)))
    (cases_Bool (same x z))

-- how many literals there are then
pub length_insert : (n m : ℕ) (z : ℤ) (c : List ℤ) → rising n m c ≡ true → length (insert z c) ≡ cond (has z c) (length c) (length c + 1)
length_insert n m z [] r = refl
length_insert n m z (x ∷ c) r =
    let q : rising n (nat_abs x) c ≡ true = grind (arith, nat_tests) in
    let ih = length_insert n (nat_abs x) z c q in
    ⊎_elim
    (λ (s : same x z ≡ true). let t = ap nat_abs (same_is x z s) in grind (arith, nat_tests))
    (λ (s : same x z ≡ false).
    ⊎_elim
    (λ (e : nat_abs z < nat_abs x). let k = has_above n (nat_abs x) z c q (omega arith) in grind (arith, nat_tests))
    (λ (e : nat_abs x ≤ nat_abs z). grind (arith, nat_tests))
    (cases_lt (nat_abs z) (nat_abs x)))
    (cases_Bool (same x z))

-- where a literal belongs in a clause whose literals before x are of lower variables
module _ (n : ℕ) (z : ℤ) (low : 0 < nat_abs z) (high : nat_abs z ≤ n) (a : List ℤ) (x : ℤ) (b : List ℤ) (r : rising n 0 (a ++ x ∷ b) ≡ true) (w : lower (nat_abs z) a ≡ true) where
  w' : lower (nat_abs (neg_ℤ z)) a ≡ true
  w' = ap (λ v. lower v a) (nat_abs_neg z) ∙ w

  behind : (k : ℕ) × (0 ≤ k) × (rising n k (x ∷ b) ≡ true)
  behind = rising_behind n 0 a (x ∷ b) r

  rest : rising n (nat_abs x) b ≡ true
  rest = let q = behind.2 in grind (arith, nat_tests)

  split_present : x ≡ z → Located n z (a ++ x ∷ b) Present
  split_present e =
      let h = has_front z a (x ∷ b) w in
      let s = same_eq x z e in
      let t : has z (a ++ x ∷ b) ≡ true = grind (arith, nat_tests) in
      (t, insert_present n 0 z (a ++ x ∷ b) r t)

  split_opposite : nat_abs x ≡ nat_abs z → (x ≡ z → ⊥) → Located n z (a ++ x ∷ b) Opposite
  split_opposite e d =
      let h = has_front z a (x ∷ b) w in
      let h' = has_front (neg_ℤ z) a (x ∷ b) w' in
      let k = has_above n (nat_abs x) z b rest (omega arith) in
      let s = same_ne x z d in
      let s' = same_or_neg x z e d in
      (grind (arith, nat_tests), grind (arith, nat_tests))

  split_free : nat_abs z < nat_abs x → Located n z (a ++ x ∷ b) (Free (length a))
  split_free p =
      let h = has_front z a (x ∷ b) w in
      let h' = has_front (neg_ℤ z) a (x ∷ b) w' in
      let nz = nat_abs_neg z in
      let k = has_above n (nat_abs x) z b rest (omega arith) in
      let k' = has_above n (nat_abs x) (neg_ℤ z) b rest (omega arith) in
      let s = same_apart x z (λ e. omega arith) in
      let s' = same_apart x (neg_ℤ z) (λ e. omega arith) in
      let t' : has (neg_ℤ z) (a ++ x ∷ b) ≡ false = grind (arith, nat_tests) in
      let i : insert z (x ∷ b) ≡ z ∷ (x ∷ b) = grind (arith, nat_tests) in
      let j = insert_front z a (x ∷ b) w ∙ ap (λ l. a ++ l) i in
      let ta = take_at a (x ∷ b) (length a) refl in
      let da = drop_at a (x ∷ b) (length a) refl in
      (grind (arith, nat_tests), t', simp length-append (omega arith), (cc), rising_insert n 0 z (a ++ x ∷ b) r low high t')

-- the same, where c is the clause and x stands in it at a place
module _ (n : ℕ) (z : ℤ) (low : 0 < nat_abs z) (high : nat_abs z ≤ n) (c : List ℤ) (i : ℕ) (x : ℤ) (h : i < length c) (e : x ≡ get_or c i (pos 0)) (r : rising n 0 c ≡ true) (w : lower (nat_abs z) (take i c) ≡ true) where
  parts : take i c ++ x ∷ drop (i + 1) c ≡ c
  parts = let d = drop_more c i (pos 0) h in let t = take-append-drop i c in cc

  rises : rising n 0 (take i c ++ x ∷ drop (i + 1) c) ≡ true
  rises = ap (rising n 0) parts ∙ r

  pub located_present : x ≡ z → Located n z c Present
  located_present q = subst (λ l. Located n z l Present) parts (split_present n z low high (take i c) x (drop (i + 1) c) rises w q)

  pub located_opposite : nat_abs x ≡ nat_abs z → (x ≡ z → ⊥) → Located n z c Opposite
  located_opposite p q = subst (λ l. Located n z l Opposite) parts (split_opposite n z low high (take i c) x (drop (i + 1) c) rises w p q)

  pub located_free : nat_abs z < nat_abs x → Located n z c (Free i)
  located_free p =
      let l : length (take i c) ≡ i = simp length-take (omega arith) in
      subst (λ k. Located n z c (Free k)) l
      (subst (λ l. Located n z l (Free (length (take i c)))) parts (split_free n z low high (take i c) x (drop (i + 1) c) rises w p))

-- where every literal of a clause is of a lower variable
pub located_end : (n : ℕ) (z : ℤ) (low : 0 < nat_abs z) (high : nat_abs z ≤ n) (c : List ℤ) → rising n 0 c ≡ true → lower (nat_abs z) c ≡ true → Located n z c (Free (length c))
located_end n z low high c r w =
    let w' : lower (nat_abs (neg_ℤ z)) c ≡ true = ap (λ v. lower v c) (nat_abs_neg z) ∙ w in
    let en = append-nil c in
    let h = has_front z c [] w in
    let h' = has_front (neg_ℤ z) c [] w' in
    let t : has z c ≡ false = cc in
    let t' : has (neg_ℤ z) c ≡ false = cc in
    let j = insert_front z c [] w in
    let ta = take_all (length c) c (omega arith) in
    let da = drop_all (length c) c (omega arith) in
    (t, t', omega arith, (cc), rising_insert n 0 z c r low high t')

-- every number of a clause is a literal
pub literals_of_rising : (n m : ℕ) (xs : List ℤ) → rising n m xs ≡ true → literals_ok n xs ≡ true
literals_of_rising n m [] r = refl
literals_of_rising n m (x ∷ xs) r =
    let ih = literals_of_rising n (nat_abs x) xs in
    grind (arith, nat_tests, ih)
