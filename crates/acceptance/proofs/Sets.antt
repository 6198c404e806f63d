-- Membership in lists of literals, as sets.
use Rattle.std.proofs.Common.{◌≡◌, zero, suc, ◌≤◌, Bool, true, false, not, ◌&&◌, ◌||◌, ◌⊎◌, List, [], ◌∷◌, ℤ, pos, negsuc, neg_ℤ, nat_abs, sym, refl, ap, ◌∙◌, inl, inr, ⊎_elim, arith}
use lib.IntN.{neg_ℤ-neg_ℤ}
use Rattle.std.proofs.lemmas.Bool.{cases_Bool, true≢false, false≢true, or_cases, or_left, or_right}
use Rattle.words.specs.Literals.{same}
use Rattle.words.specs.Clauses.{has, opposed, subset, equal, insert, gathered, lacking, joined, resolvent}
pub use Rattle.words.proofs.Literals.{same_is, same_refl, same_eq, same_ne, nat_abs_neg as abs_neg}
pub use Rattle.words.proofs.Inserts.{has_insert}
use Rattle.rules.specs.Satisfying.{Iff}
use Rattle.rules.specs.Obeying.{InResolvent, Tautological, HoldsOppositePair}

-- ── Equal literals ──

-- literals that are not the same are not equal
pub not_same : (a b : ℤ) → same a b ≡ false → a ≡ b → ⊥
not_same a b s e = true≢false (sym (same_eq a b e) ∙ s)

-- two literals are the same or not
pub cases_same : (a b : ℤ) → (a ≡ b) ⊎ (same a b ≡ false)
cases_same a b = ⊎_elim (λ (e : same a b ≡ true). inl (same_is a b e)) (λ (e : same a b ≡ false). inr e) (cases_Bool (same a b))

-- a literal is not its negation
pub not_its_negation : (z : ℤ) → 1 ≤ nat_abs z → z ≡ neg_ℤ z → ⊥
not_its_negation (pos zero) h e = omega arith
not_its_negation (pos (suc n)) h e = not_same (pos (suc n)) (negsuc n) refl e
not_its_negation (negsuc n) h e = not_same (negsuc n) (pos (suc n)) refl e

-- two literals of one variable are equal or opposite
pub one_variable : (z l : ℤ) → nat_abs z ≡ nat_abs l → (z ≡ l) ⊎ (z ≡ neg_ℤ l)
one_variable (pos n) (pos m) h = inl (ap pos h)
one_variable (negsuc n) (negsuc m) h = inl (ap negsuc (omega arith))
one_variable (pos n) (negsuc m) h = inr (ap pos h)
one_variable (negsuc n) (pos zero) h = absurd (omega arith)
one_variable (negsuc n) (pos (suc m)) h = inr (ap negsuc (omega arith))

-- ── Equal lists ──

-- lists that are the same literal by literal are equal
pub equal_is : (a b : List ℤ) → equal a b ≡ true → a ≡ b
equal_is [] [] e = refl
equal_is [] (y ∷ ys) e = absurd (false≢true e)
equal_is (x ∷ xs) [] e = absurd (false≢true e)
equal_is (x ∷ xs) (y ∷ ys) e =
    let p = same_is x y (grind arith) in
    let q = equal_is xs ys (grind arith) in
    cc

pub equal_refl : (a : List ℤ) → equal a a ≡ true
equal_refl [] = refl
equal_refl (x ∷ xs) = let p = same_refl x in let q = equal_refl xs in grind arith

-- ── Members ──

-- two tests that answer true together are equal
pub same_tests : (x y : Bool) → Iff (x ≡ true) (y ≡ true) → x ≡ y
same_tests true y h = sym (h.0 refl)
same_tests false true h = h.1 refl
same_tests false false h = refl

-- the first literal is in a list
pub has_first : (x : ℤ) (xs : List ℤ) → has x (x ∷ xs) ≡ true
has_first x xs = or_left (same x x) (has x xs) (same_refl x)

-- a literal is in a union
pub has_joined : (z : ℤ) (xs ys : List ℤ) → has z (joined xs ys) ≡ (has z xs || has z ys)
has_joined z [] ys = refl
has_joined z (x ∷ xs) ys = let i = has_insert z x (joined xs ys) in let ih = has_joined z xs ys in grind arith

-- a literal is in a list without another
pub has_lacking : (z l : ℤ) (xs : List ℤ) → has z (lacking l xs) ≡ (not (same l z) && has z xs)
has_lacking z l [] = grind arith
has_lacking z l (x ∷ xs) =
    let ih = has_lacking z l xs in
    ⊎_elim
    (λ (e : x ≡ l). let s = same_eq x l e in let t : same x z ≡ same l z = ap (λ k. same k z) e in grind arith)
    (λ (e : same x l ≡ false).
    ⊎_elim
    (λ (f : l ≡ z). let g : same x z ≡ false = ap (same x) (sym f) ∙ e in grind arith)
    (λ (f : same l z ≡ false). grind arith)
    (cases_same l z))
    (cases_same x l)

-- the literals of a resolvent, as a test
pub has_resolvent_is : (l : ℤ) (a b : List ℤ) (z : ℤ) →
    has z (resolvent l a b) ≡ ((not (same l z) && has z a) || (not (same (neg_ℤ l) z) && has z b))
has_resolvent_is l a b z =
    let j = has_joined z (lacking l a) (lacking (neg_ℤ l) b) in
    let p = has_lacking z l a in
    let q = has_lacking z (neg_ℤ l) b in
    grind arith

-- the same, as the rule of resolution names them
pub has_resolvent : (l : ℤ) (a b : List ℤ) (z : ℤ) → Iff (has z (resolvent l a b) ≡ true) (InResolvent l a b z)
has_resolvent l a b z =
    let r = has_resolvent_is l a b z in (
      λ h.
          ⊎_elim
          (λ (p : (not (same l z) && has z a) ≡ true). let s : same l z ≡ false = grind arith in inl (grind arith, λ e. not_same l z s (sym e)))
          (λ (p : (not (same (neg_ℤ l) z) && has z b) ≡ true). let s : same (neg_ℤ l) z ≡ false = grind arith in inr (grind arith, λ e. not_same (neg_ℤ l) z s (sym e)))
          (or_cases (not (same l z) && has z a) (not (same (neg_ℤ l) z) && has z b) (sym r ∙ h)),
      λ h.
          ⊎_elim
          (λ p. let s = same_ne l z (λ e. p.1 (sym e)) in let q = p.0 in grind arith)
          (λ p. let s = same_ne (neg_ℤ l) z (λ e. p.1 (sym e)) in let q = p.0 in grind arith)
          h,
    )

-- the literals of a set are those of the list, with those gathered before
pub has_gathered_is : (z : ℤ) (before zs : List ℤ) → has z (gathered before zs) ≡ (has z before || has z zs)
has_gathered_is z before [] = grind arith
has_gathered_is z before (x ∷ xs) = let i = has_insert z x before in let ih = has_gathered_is z (insert x before) xs in grind arith

pub has_gathered : (zs : List ℤ) (z : ℤ) → Iff (has z (gathered [] zs) ≡ true) (has z zs ≡ true)
has_gathered zs z = let g = has_gathered_is z [] zs in (λ h. sym g ∙ h, λ h. g ∙ h)

-- a list is a subset exactly when each of its literals is in the other
pub subset_has : (xs ys : List ℤ) → Iff (subset xs ys ≡ true) ((z : ℤ) → has z xs ≡ true → has z ys ≡ true)
subset_has [] ys = (λ _ z h. absurd (false≢true h), λ _. refl)
subset_has (x ∷ xs) ys =
    let ih = subset_has xs ys in (
      λ s z h.
          ⊎_elim
          (λ (e : x ≡ z). ap (λ k. has k ys) (sym e) ∙ grind arith)
          (λ (e : same x z ≡ false). ih.0 (grind arith) z (grind arith))
          (cases_same x z),
      λ f. let p = f x (has_first x xs) in let q = ih.1 (λ z h. f z (or_right (same x z) (has z xs) h)) in grind arith,
    )

-- ── Opposite pairs ──

-- no 0 is in a list
abbrev pub Nonzero : List ℤ → Type 0
Nonzero zs = (z : ℤ) → has z zs ≡ true → 1 ≤ nat_abs z

-- no literal is in a list with its negation
abbrev pub Plain : List ℤ → Type 0
Plain zs = (z : ℤ) → has z zs ≡ true → has (neg_ℤ z) zs ≡ false

-- an opposite pair that the test finds
pub opposed_some : (zs : List ℤ) → opposed zs ≡ true → HoldsOppositePair zs
opposed_some [] h = absurd (false≢true h)
opposed_some (x ∷ xs) h =
    ⊎_elim
    (λ (p : has (neg_ℤ x) xs ≡ true). (x, has_first x xs, or_right (same x (neg_ℤ x)) (has (neg_ℤ x) xs) p))
    (λ (p : opposed xs ≡ true).
    let r = opposed_some xs p in
    (r.0, or_right (same x r.0) (has r.0 xs) r.1, or_right (same x (neg_ℤ r.0)) (has (neg_ℤ r.0) xs) r.2))
    (or_cases (has (neg_ℤ x) xs) (opposed xs) h)

-- the test finds every opposite pair of literals
pub opposed_has : (zs : List ℤ) (z : ℤ) → 1 ≤ nat_abs z → has z zs ≡ true → has (neg_ℤ z) zs ≡ true → opposed zs ≡ true
opposed_has [] z n p q = p
opposed_has (x ∷ xs) z n p q =
    ⊎_elim
    (λ (e : x ≡ z).
    let s = same_ne x (neg_ℤ z) (λ k. not_its_negation z n (sym e ∙ k)) in
    let t : has (neg_ℤ x) xs ≡ has (neg_ℤ z) xs = ap (λ k. has (neg_ℤ k) xs) e in
    grind arith)
    (λ (e : same x z ≡ false).
    ⊎_elim
    (λ (f : x ≡ neg_ℤ z). let t : has (neg_ℤ x) xs ≡ has z xs = ap (λ k. has k xs) (ap neg_ℤ f ∙ neg_ℤ-neg_ℤ z) in grind arith)
    (λ (f : same x (neg_ℤ z) ≡ false). let ih = opposed_has xs z n (grind arith) (grind arith) in grind arith)
    (cases_same x (neg_ℤ z)))
    (cases_same x z)

-- the test holds exactly when there is an opposite pair
pub opposed_pair : (zs : List ℤ) → Nonzero zs → Iff (opposed zs ≡ true) (HoldsOppositePair zs)
opposed_pair zs n = (opposed_some zs, λ h. opposed_has zs h.0 (n h.0 h.1) h.1 h.2)

-- a list without an opposite pair
pub opposed_plain : (zs : List ℤ) → Nonzero zs → opposed zs ≡ false → Plain zs
opposed_plain zs n o z h =
    ⊎_elim
    (λ (e : has (neg_ℤ z) zs ≡ true). absurd (true≢false (sym (opposed_has zs z (n z h) h e) ∙ o)))
    (λ (e : has (neg_ℤ z) zs ≡ false). e)
    (cases_Bool (has (neg_ℤ z) zs))

-- no literal of a resolvent is 0
pub resolvent_nonzero : (l : ℤ) (a b : List ℤ) → Nonzero a → Nonzero b → Nonzero (resolvent l a b)
resolvent_nonzero l a b na nb z h = ⊎_elim (λ p. na z p.0) (λ p. nb z p.0) ((has_resolvent l a b z).0 h)

-- the test holds of a resolvent exactly when it is tautological
pub opposed_resolvent : (l : ℤ) (a b : List ℤ) → Nonzero a → Nonzero b → Iff (opposed (resolvent l a b) ≡ true) (Tautological l a b)
opposed_resolvent l a b na nb = (
  λ o. let p = opposed_some (resolvent l a b) o in (p.0, (has_resolvent l a b p.0).0 p.1, (has_resolvent l a b (neg_ℤ p.0)).0 p.2),
  λ t.
      let h = (has_resolvent l a b t.0).1 t.1 in
      opposed_has (resolvent l a b) t.0 (resolvent_nonzero l a b na nb t.0 h) h ((has_resolvent l a b (neg_ℤ t.0)).1 t.2),
)
