-- An opposite pair in a resolvent is a literal of one parent whose negation is in the other.
use Rattle.std.proofs.Common.{◌≡◌, ℕ, ◌<◌, ◌≤◌, Bool, true, false, not, ◌&&◌, ◌||◌, List, [], ◌∷◌, ℤ, neg_ℤ, nat_abs, sym, refl, ap, ◌∙◌, inl, inr, ⊎_elim, arith}
use lib.IntN.{neg_ℤ-neg_ℤ}
use Rattle.std.proofs.lemmas.Bool.{cases_Bool, true≢false}
use Rattle.std.proofs.lemmas.Bool.Decides.{nat_tests}
use Rattle.words.specs.Literals.{same}
use Rattle.words.specs.Clauses.{has, rising, subset, opposed, resolvent}
use Rattle.words.specs.Marks.{mark_place, Marked}
use Rattle.words.proofs.Marks.{mark_tells}
use Rattle.rules.specs.Obeying.{In}
use Rattle.acceptance.proofs.Sets.{same_eq, same_ne, same_is, same_tests, abs_neg, has_first}
use Rattle.acceptance.proofs.Rising.{rising_plain, opposed_tautological}
use Rattle.marking.specs.Marking.{marked, marks_clash, marks_cover, clashes}

-- a look-up in the marks of a list answers as the list does
pub marked_is : (bs : List ℕ) (a : List ℤ) (z : ℤ) → Marked 512 bs a → 1 ≤ nat_abs z → nat_abs z ≤ 512 → marked bs z ≡ has z a
marked_is bs a z m p q = mark_tells 512 bs a z (mark_place 512 z) refl p q m

pub marks_clash_is : (m : ℕ) (bs : List ℕ) (e : ℤ) (a b : List ℤ) → Marked 512 bs a → rising 512 m b ≡ true → marks_clash bs e b ≡ clashes e a b
marks_clash_is m bs e a [] k r = refl
marks_clash_is m bs e a (x ∷ b) k r =
    let r1 : rising 512 (nat_abs x) b ≡ true = grind (arith, nat_tests) in
    let lo : m < nat_abs x = grind (arith, nat_tests) in
    let hi : nat_abs x ≤ 512 = grind (arith, nat_tests) in
    let n = abs_neg x in
    let t = marked_is bs a (neg_ℤ x) k (omega arith) (omega arith) in
    let ih = marks_clash_is (nat_abs x) bs e a b k r1 in
    ap (λ q. (not (same x e) && q) || marks_clash bs e b) t ∙ ap (λ q. (not (same x e) && has (neg_ℤ x) a) || q) ih

pub marks_cover_is : (m : ℕ) (bs : List ℕ) (a b : List ℤ) → Marked 512 bs a → rising 512 m b ≡ true → marks_cover bs b ≡ subset b a
marks_cover_is m bs a [] k r = refl
marks_cover_is m bs a (x ∷ b) k r =
    let r1 : rising 512 (nat_abs x) b ≡ true = grind (arith, nat_tests) in
    let lo : m < nat_abs x = grind (arith, nat_tests) in
    let hi : nat_abs x ≤ 512 = grind (arith, nat_tests) in
    let t = marked_is bs a x k (omega arith) (omega arith) in
    let ih = marks_cover_is (nat_abs x) bs a b k r1 in
    ap (λ q. q && marks_cover bs b) t ∙ ap (λ q. has x a && q) ih

-- a clash, as a literal
pub clashes_some : (e : ℤ) (a b : List ℤ) → clashes e a b ≡ true → (x : ℤ) × (has x b ≡ true) × (x ≡ e → ⊥) × (has (neg_ℤ x) a ≡ true)
clashes_some e a [] h = absurd (true≢false (sym h))
clashes_some e a (x ∷ b) h =
    ⊎_elim
    (λ (t : (not (same x e) && has (neg_ℤ x) a) ≡ true).
    let s : same x e ≡ false = grind (arith, nat_tests) in
    let g : has (neg_ℤ x) a ≡ true = grind (arith, nat_tests) in
    (x, has_first x b, (λ q. true≢false (sym (same_eq x e q) ∙ s)), g))
    (λ (t : (not (same x e) && has (neg_ℤ x) a) ≡ false).
    let q : clashes e a b ≡ true = grind (arith, nat_tests) in
    let r = clashes_some e a b q in
    let w = r.1 in
    (r.0, grind (arith, nat_tests), r.2, r.3))
    (cases_Bool (not (same x e) && has (neg_ℤ x) a))

pub clashes_has : (e x : ℤ) (a b : List ℤ) → has x b ≡ true → (x ≡ e → ⊥) → has (neg_ℤ x) a ≡ true → clashes e a b ≡ true
clashes_has e x a [] h n g = absurd (true≢false (sym h))
clashes_has e x a (y ∷ b) h n g =
    ⊎_elim
    (λ (t : same y x ≡ true).
    let q = same_is y x t in
    let s = same_ne y e (λ w. n (sym q ∙ w)) in
    let k = ap (λ z. has (neg_ℤ z) a) q ∙ g in
    grind (arith, nat_tests))
    (λ (t : same y x ≡ false).
    let q : has x b ≡ true = grind (arith, nat_tests) in
    let ih = clashes_has e x a b q n g in
    grind (arith, nat_tests))
    (cases_Bool (same y x))

-- the resolvent of two clauses on l holds an opposite pair exactly when they clash elsewhere
pub clash_opposed : (n : ℕ) (l : ℤ) (a b : List ℤ) → rising n 0 a ≡ true → rising n 0 b ≡ true → opposed (resolvent l a b) ≡ clashes (neg_ℤ l) a b
clash_opposed n l a b ra rb =
    let t = opposed_tautological n l a b ra rb in
    let pa = rising_plain n 0 a ra in
    let pb = rising_plain n 0 b rb in
    same_tests (opposed (resolvent l a b)) (clashes (neg_ℤ l) a b) (
      (λ o.
          let w = t.0 o in
          let z = w.0 in
          ⊎_elim
          (λ (u : In z a × (z ≡ l → ⊥)).
          ⊎_elim
          (λ (v : In (neg_ℤ z) a × (neg_ℤ z ≡ l → ⊥)). absurd (true≢false (sym v.0 ∙ pa z u.0)))
          (λ (v : In (neg_ℤ z) b × (neg_ℤ z ≡ neg_ℤ l → ⊥)). clashes_has (neg_ℤ l) (neg_ℤ z) a b v.0 v.1 (ap (λ y. has y a) (neg_ℤ-neg_ℤ z) ∙ u.0))
          w.2)
          (λ (u : In z b × (z ≡ neg_ℤ l → ⊥)).
          ⊎_elim
          (λ (v : In (neg_ℤ z) a × (neg_ℤ z ≡ l → ⊥)). clashes_has (neg_ℤ l) z a b u.0 u.1 v.0)
          (λ (v : In (neg_ℤ z) b × (neg_ℤ z ≡ neg_ℤ l → ⊥)). absurd (true≢false (sym v.0 ∙ pb z u.0)))
          w.2)
          w.1),
      (λ h.
          let w = clashes_some (neg_ℤ l) a b h in
          let x = w.0 in
          t.1 (x, inr (w.1, w.2), inl (w.3, (λ q. w.2 (sym (neg_ℤ-neg_ℤ x) ∙ ap neg_ℤ q))))),
    )

-- what a look-up of b in the marks of a tells of the resolvent
pub clash_tells : (l e : ℤ) (a b : List ℤ) (bs : List ℕ) (r : Bool) → rising 512 0 a ≡ true → rising 512 0 b ≡ true → e ≡ neg_ℤ l → Marked 512 bs a →
    r ≡ marks_clash bs e b → opposed (resolvent l a b) ≡ r
clash_tells l e a b bs r ra rb f m h =
    clash_opposed 512 l a b ra rb ∙ ap (λ k. clashes k a b) (sym f) ∙ sym (marks_clash_is 0 bs e a b m rb) ∙ sym h
