-- What a search in a clause by its variables tells of the place of a literal.
use Rattle.std.proofs.Common.{◌≡◌, ℕ, zero, suc, ◌-◌, ◌<◌, ◌≤◌, true, false, not, cond, ltb, leb, List, [], ◌∷◌, length, get_or, take, Option, None, Some, ℤ, pos, nat_abs, w16, to_z, of_z, sym, refl, ap, ◌∙◌, subst, ⊎_elim, arith}
use Rattle.std.proofs.lemmas.List.{take_all}
use Rattle.std.proofs.lemmas.List.Sums.{prefix_len_is, prefix_len-le-length, prefix_len_passes, prefix_len_stops}
use Rattle.std.proofs.lemmas.List.Sorted.{IsPartitionedBy-ltb}
use Rattle.std.specs.List.{prefix_len, position_or_len}
use Rattle.std.specs.Option.{unwrap_or}
use Rattle.std.specs.List.Sorted.{IsNonDecreasingBy, IsPartitionedBy, IsPartitionPoint}
use Rattle.std.proofs.lemmas.Int.{to_z-of_z, fits_signed_from_abs}
use Rattle.std.proofs.lemmas.Bool.{cases_lt, cases_order}
use Rattle.std.proofs.lemmas.Bool.Decides.{nat_tests}
use Rattle.words.specs.declared.spot.Spot.TheVariants.{Present, Opposite, Free}
use Rattle.words.specs.Clauses.{rising}
use Rattle.words.specs.Spots.{Located}
use Rattle.words.proofs.Inserts.{lower, located_present, located_opposite, located_free, located_end}

-- every variable of a clause is above the bound of its order
above_bound : (n m : ℕ) (c : List ℤ) (i : ℕ) (d : ℤ) → rising n m c ≡ true → i < length c → m < nat_abs (get_or c i d)
above_bound n m [] i d r h = absurd (omega arith)
above_bound n m (x ∷ c) zero d r h = grind (arith, nat_tests)
above_bound n m (x ∷ c) (suc i) d r h =
    let l : m < nat_abs x = grind (arith, nat_tests) in
    let q : rising n (nat_abs x) c ≡ true = grind (arith, nat_tests) in
    omega (arith, above_bound n (nat_abs x) c i d q (omega arith))

-- each variable is above those before it
variable_above : (n m : ℕ) (c : List ℤ) (i j : ℕ) (d : ℤ) → rising n m c ≡ true → i < j → j < length c → nat_abs (get_or c i d) < nat_abs (get_or c j d)
variable_above n m [] i j d r l h = absurd (omega arith)
variable_above n m (x ∷ c) i zero d r l h = absurd (omega arith)
variable_above n m (x ∷ c) zero (suc j) d r l h =
    let q : rising n (nat_abs x) c ≡ true = grind (arith, nat_tests) in
    above_bound n (nat_abs x) c j d q (omega arith)
variable_above n m (x ∷ c) (suc i) (suc j) d r l h =
    let q : rising n (nat_abs x) c ≡ true = grind (arith, nat_tests) in
    variable_above n (nat_abs x) c i j d q (omega arith) (omega arith)

-- so the variables rise
variables_rise : (n m : ℕ) (c : List ℤ) → rising n m c ≡ true → IsNonDecreasingBy nat_abs c
variables_rise n m c r i j d l h =
    ⊎_elim
    (λ (e : i ≡ j). subst (λ k. nat_abs (get_or c i d) ≤ nat_abs (get_or c k d)) e (omega arith))
    (λ o. ⊎_elim (λ (k : i < j). let a = variable_above n m c i j d r k h in omega arith) (λ (k : j < i). absurd (omega arith)) o)
    (cases_order i j)

-- the literals before a place are of lower variables than v, where each is
lower_front : (v : ℕ) (c : List ℤ) (i : ℕ) → i ≤ length c → ((j : ℕ) (d : ℤ) → j < i → nat_abs (get_or c j d) < v) → lower v (take i c) ≡ true
lower_front v c zero h a = refl
lower_front v [] (suc i) h a = absurd (omega arith)
lower_front v (x ∷ c) (suc i) h a =
    let l = a 0 x (omega arith) in
    let ih = lower_front v c i (omega arith) (λ j d u. a (suc j) d (omega arith)) in
    grind (arith, nat_tests)

-- no variable of a clause is above the highest
below_highest : (n m : ℕ) (c : List ℤ) (i : ℕ) (d : ℤ) → rising n m c ≡ true → i < length c → nat_abs (get_or c i d) ≤ n
below_highest n m [] i d r h = absurd (omega arith)
below_highest n m (x ∷ c) zero d r h = grind (arith, nat_tests)
below_highest n m (x ∷ c) (suc i) d r h =
    let q : rising n (nat_abs x) c ≡ true = grind (arith, nat_tests) in
    below_highest n (nat_abs x) c i d q (omega arith)

-- the variable of a literal as the code reads it, from its 16 bits
abbrev pub read_variable : ℤ → ℕ
read_variable z = nat_abs (to_z w16 (of_z w16 z))

-- is its variable
pub variable_is_read : (z : ℤ) → nat_abs z ≤ 512 → read_variable z ≡ nat_abs z
variable_is_read z h = ap nat_abs (to_z-of_z w16 z (fits_signed_from_abs w16 z (omega arith)))

-- a clause c of variables up to 512
module _ (c : List ℤ) (r : rising 512 0 c ≡ true) where
  read : (i : ℕ) (d : ℤ) → i < length c → read_variable (get_or c i d) ≡ nat_abs (get_or c i d)
  read i d h = variable_is_read (get_or c i d) (below_highest 512 0 c i d r h)

  -- the place before which the variables that the code reads are below v, and at which the one, if there is one, is not
  counted : (v i : ℕ) → i ≤ length c → ((j : ℕ) → j < i → ltb (read_variable (get_or c j (pos 0))) v ≡ true) → (i < length c → ltb (read_variable (get_or c i (pos 0))) v ≡ false) → i ≡ prefix_len (λ z. ltb (nat_abs z) v) c
  counted v i h below from =
      sym (prefix_len_is (λ z. ltb (nat_abs z) v) c i (pos 0) h
      (λ j l. ap (λ n. ltb n v) (sym (read j (pos 0) (omega arith))) ∙ below j l)
      (λ l. ap (λ n. ltb n v) (sym (read i (pos 0) l)) ∙ from l))

  -- none is below v where the first is not
  pub at_first : (v : ℕ) (x : ℤ) → 0 < length c → x ≡ get_or c 0 (pos 0) → v ≤ read_variable x → 0 ≡ prefix_len (λ z. ltb (nat_abs z) v) c
  at_first v x h e l =
      let a = ap read_variable e in
      counted v 0 (omega arith) (λ j k. absurd (omega arith)) (λ k. grind (arith, nat_tests))

  -- all are where the last is
  pub behind_last : (v : ℕ) (x : ℤ) → 0 < length c → x ≡ get_or c (length c - 1) (pos 0) → read_variable x < v → length c ≡ prefix_len (λ z. ltb (nat_abs z) v) c
  behind_last v x h e l =
      let k = length c - 1 in
      let a = ap read_variable e in
      let b = read k (pos 0) (omega arith) in
      counted v (length c) (omega arith) (λ j u. let m = variables_rise 512 0 c r j k (pos 0) (omega arith) (omega arith) in let t = read j (pos 0) u in grind (arith, nat_tests)) (λ k. absurd (omega arith))

  -- all but the last are where v is the last
  pub at_last : (v : ℕ) (x : ℤ) → 0 < length c → x ≡ get_or c (length c - 1) (pos 0) → v ≡ read_variable x → length c - 1 ≡ prefix_len (λ z. ltb (nat_abs z) v) c
  at_last v x h e l =
      let k = length c - 1 in
      let a = ap read_variable e in
      let b = read k (pos 0) (omega arith) in
      counted v k (omega arith) (λ j u. let m = variable_above 512 0 c j k (pos 0) r (omega arith) (omega arith) in let t = read j (pos 0) (omega arith) in grind (arith, nat_tests)) (λ u. grind (arith, nat_tests))

  -- a walk to the first variable that is not below v ends there, or at the end
  pub walked : (v : ℕ) (o : Option ℕ) → o ≡ cond (ltb (position_or_len (λ z. leb v (read_variable z)) c) (length c)) (Some (position_or_len (λ z. leb v (read_variable z)) c)) None → unwrap_or o (length c) ≡ prefix_len (λ z. ltb (nat_abs z) v) c
  walked v o e =
      let k = position_or_len (λ z. leb v (read_variable z)) c in
      let le = prefix_len-le-length (λ z. not (leb v (read_variable z))) c in
      let n = counted v k le
      (λ j l. let p = prefix_len_passes (λ z. not (leb v (read_variable z))) c j (pos 0) l in grind (arith, nat_tests))
      (λ l. let p = prefix_len_stops (λ z. not (leb v (read_variable z))) c (pos 0) l in grind (arith, nat_tests)) in
      let u : unwrap_or (cond (ltb k (length c)) (Some k) None) (length c) ≡ k =
      ⊎_elim
      (λ (t : k < length c). let b : ltb k (length c) ≡ true = grind (arith, nat_tests) in ap (λ b. unwrap_or (cond b (Some k) None) (length c)) b)
      (λ (t : length c ≤ k). let b : ltb k (length c) ≡ false = grind (arith, nat_tests) in ap (λ b. unwrap_or (cond b (Some k) None) (length c)) b ∙ omega arith)
      (cases_lt k (length c)) in
      ap (λ o. unwrap_or o (length c)) e ∙ u ∙ n

  -- and so does a search
  pub searched : (v i : ℕ) → i ≤ length c → (IsPartitionedBy (λ z. ltb (read_variable z) v) c → IsPartitionPoint (λ z. ltb (read_variable z) v ≡ true) (λ z. ltb (read_variable z) v ≡ false) c i) → i ≡ prefix_len (λ z. ltb (nat_abs z) v) c
  searched v i h p =
      let q = p (IsPartitionedBy-ltb read_variable c v (λ j k d l u. let a = read j d (omega arith) in let b = read k d u in let w = variables_rise 512 0 c r j k d l u in omega arith)) in
      counted v i h (λ j l. q.0 j (pos 0) (omega arith) l) (λ l. q.1 i (pos 0) (omega arith) l)

  -- a literal z belongs at the place that counts the lower variables
  module _ (z : ℤ) (low : 0 < nat_abs z) (high : nat_abs z ≤ 512) (v : ℕ) (s : v ≡ read_variable z) (i : ℕ) (n : i ≡ prefix_len (λ z. ltb (nat_abs z) v) c) where
    sought : v ≡ nat_abs z
    sought = s ∙ variable_is_read z high

    within : i ≤ length c
    within = let l = prefix_len-le-length (λ z. ltb (nat_abs z) v) c in omega arith

    w : lower (nat_abs z) (take i c) ≡ true
    w = lower_front (nat_abs z) c i within (λ j d l. let t = sought in let p = prefix_len_passes (λ z. ltb (nat_abs z) v) c j d (omega arith) in grind (arith, nat_tests))

    pub placed_present : i < length c → get_or c i (pos 0) ≡ z → Located 512 z c Present
    placed_present h q = located_present 512 z low high c i (get_or c i (pos 0)) h refl r w q

    pub placed_opposite : i < length c → read_variable (get_or c i (pos 0)) ≡ v → (get_or c i (pos 0) ≡ z → ⊥) → Located 512 z c Opposite
    placed_opposite h e q = located_opposite 512 z low high c i (get_or c i (pos 0)) h refl r w (sym (read i (pos 0) h) ∙ e ∙ sought) q

    pub placed_free : (i < length c → read_variable (get_or c i (pos 0)) ≡ v → ⊥) → Located 512 z c (Free i)
    placed_free q =
        ⊎_elim
        (λ (l : i < length c).
        let a = read i (pos 0) l in
        let t = sought in
        let p : ltb (nat_abs (get_or c i (pos 0))) v ≡ false = subst (λ k. ltb (nat_abs (get_or c k (pos 0))) v ≡ false) (sym n) (prefix_len_stops (λ z. ltb (nat_abs z) v) c (pos 0) (omega arith)) in
        ⊎_elim
        (λ (e : nat_abs (get_or c i (pos 0)) ≡ v). absurd (q l (a ∙ e)))
        (λ d. located_free 512 z low high c i (get_or c i (pos 0)) l refl r w
        (⊎_elim (λ (m : nat_abs (get_or c i (pos 0)) < v). absurd (grind (arith, nat_tests))) (λ (m : v < nat_abs (get_or c i (pos 0))). omega arith) d))
        (cases_order (nat_abs (get_or c i (pos 0))) v))
        (λ (l : length c ≤ i).
        let k : length c ≡ i = omega (arith, within) in
        let all : lower (nat_abs z) c ≡ true = ap (lower (nat_abs z)) (sym (take_all i c l)) ∙ w in
        subst (λ k. Located 512 z c (Free k)) k (located_end 512 z low high c r all))
        (cases_lt i (length c))

  -- a literal whose variable is below the first goes in front
  pub placed_front : (z : ℤ) → 0 < nat_abs z → nat_abs z ≤ 512 → (v : ℕ) → v ≡ read_variable z → (x : ℤ) → 0 < length c → x ≡ get_or c 0 (pos 0) → v < read_variable x → Located 512 z c (Free 0)
  placed_front z low high v s x h q l =
      let a = read 0 (pos 0) h in
      let t = variable_is_read z high in
      let k = ap read_variable q in
      located_free 512 z low high c 0 (get_or c 0 (pos 0)) h refl r refl (omega arith)
