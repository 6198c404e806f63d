-- Opposite pairs.
use Rattle.std.proofs.Common.{◌≡◌, ℕ, ◌+◌, ◌<◌, ◌≤◌, true, false, ◌||◌, eqb, List, [], ◌∷◌, ◌++◌, length, get_or, take, drop, set, ℤ, pos, neg_ℤ, nat_abs, None, sym, refl, ap, ◌∙◌, subst, ⊎_elim, arith}
use Rattle.std.proofs.lemmas.List.{take_more, take-append-drop}
use Rattle.std.proofs.lemmas.Bool.{cases_Bool, both_ways}
use Rattle.std.proofs.lemmas.Bool.Decides.{nat_tests}
use Rattle.words.specs.Literals.{same}
use Rattle.words.specs.Clauses.{has, opposed}
use Rattle.words.specs.Marks.{mark_place, Marked}
use Rattle.rules.specs.Loading.{beyond_at}
use Rattle.words.proofs.Inserts.{has_append, has_push}
use Rattle.words.proofs.Literals.{neg_neg, nat_abs_neg, same_is, same_eq, same_ne}
use Rattle.words.proofs.Marks.{marked_more, mark_tells}
use Rattle.loading.proofs.Beyond.{literal_at}

-- x is the negation of y where y is that of x
pub same_neg : (x y : ℤ) → same x (neg_ℤ y) ≡ same y (neg_ℤ x)
same_neg x y =
    ⊎_elim
    (λ (t : same x (neg_ℤ y) ≡ true). t ∙ sym (same_eq y (neg_ℤ x) (sym (ap neg_ℤ (same_is x (neg_ℤ y) t) ∙ neg_neg y))))
    (λ (t : same x (neg_ℤ y) ≡ false). t ∙ sym (same_ne y (neg_ℤ x) (λ e. both_ways _ t (same_eq x (neg_ℤ y) (sym (ap neg_ℤ e ∙ neg_neg x))))))
    (cases_Bool (same x (neg_ℤ y)))

-- a list with one literal more at its end
pub opposed_push : (zs : List ℤ) (x : ℤ) → opposed (zs ++ x ∷ []) ≡ (opposed zs || has (neg_ℤ x) zs)
opposed_push [] x = refl
opposed_push (y ∷ zs) x =
    let ih = opposed_push zs x in
    let hp = has_push (neg_ℤ y) zs x in
    let sn = same_neg x y in
    grind (arith, nat_tests)

-- a pair in the front is a pair of the list
pub opposed_front : (xs ys : List ℤ) → opposed xs ≡ true → opposed (xs ++ ys) ≡ true
opposed_front [] ys h = absurd (grind (arith, nat_tests))
opposed_front (x ∷ xs) ys h = let ih = opposed_front xs ys in let p = has_append (neg_ℤ x) xs ys in grind (arith, nat_tests, ih)

-- in a list without a pair no literal comes after its negation
pub opposed_at : (zs : List ℤ) (i : ℕ) → opposed zs ≡ false → i < length zs → has (neg_ℤ (get_or zs i (pos 0))) (take i zs) ≡ false
opposed_at zs i h l =
    let t = take_more zs i (pos 0) l in
    let p = opposed_push (take i zs) (get_or zs i (pos 0)) in
    let f : opposed (take (i + 1) zs) ≡ false =
    ⊎_elim
    (λ (q : opposed (take (i + 1) zs) ≡ true). absurd (both_ways (opposed zs) h (ap opposed (sym (take-append-drop (i + 1) zs)) ∙ opposed_front (take (i + 1) zs) (drop (i + 1) zs) q)))
    (λ (q : opposed (take (i + 1) zs) ≡ false). q)
    (cases_Bool (opposed (take (i + 1) zs))) in
    let g = sym (ap opposed t) ∙ f in
    grind (arith, nat_tests)

-- the search for a pair at a place, where b tells whether the negation came before
module _ (zs : List ℤ) (i : ℕ) (x : ℤ) (e : x ≡ get_or zs i (pos 0)) (l : i < length zs) (inv : opposed (take i zs) ≡ false) where
  one_more : opposed (take (i + 1) zs) ≡ has (neg_ℤ x) (take i zs)
  one_more =
      let t = ap opposed (take_more zs i (pos 0) l) in
      let p = opposed_push (take i zs) (get_or zs i (pos 0)) in
      let q = ap (λ y. has (neg_ℤ y) (take i zs)) e in
      grind (arith, nat_tests)

  pub pair_hit : has (neg_ℤ x) (take i zs) ≡ true → true ≡ opposed zs
  pair_hit h = sym (ap opposed (sym (take-append-drop (i + 1) zs)) ∙ opposed_front (take (i + 1) zs) (drop (i + 1) zs) (one_more ∙ h))

  pub pair_miss : has (neg_ℤ x) (take i zs) ≡ false → opposed (take (i + 1) zs) ≡ false
  pair_miss h = one_more ∙ h

-- the marks of the literals before a place, where x is the literal there
module _ (zs : List ℤ) (i : ℕ) (x : ℤ) (e : x ≡ get_or zs i (pos 0)) (b : beyond_at 512 0 zs ≡ None) (l : i < length zs) (marks : List ℕ) (m : Marked 512 marks (take i zs)) where
  low : 1 ≤ nat_abs x
  low = let r = literal_at 512 0 zs i b l in let v = ap nat_abs e in omega arith

  high : nat_abs x ≤ 512
  high = let r = literal_at 512 0 zs i b l in let v = ap nat_abs e in omega arith

  -- the mark of its negation tells whether that came before
  pub before : (y : ℤ) → y ≡ neg_ℤ x → (p : ℕ) → p ≡ mark_place 512 y → eqb (get_or marks p 0) 1 ≡ has (neg_ℤ x) (take i zs)
  before y q p f =
      let n = nat_abs_neg x in
      mark_tells 512 marks (take i zs) (neg_ℤ x) p (f ∙ ap (mark_place 512) q) (omega (arith, low)) (omega (arith, high)) m

  -- the literal is marked too
  pub marked_at : length marks ≡ 1024 → (p : ℕ) → p ≡ mark_place 512 x → Marked 512 (set marks p 1) (take (i + 1) zs)
  marked_at size p f =
      let t = take_more zs i (pos 0) l ∙ ap (λ y. take i zs ++ y ∷ []) (sym e) in
      subst (Marked 512 (set marks p 1)) (sym t) (marked_more 512 marks (take i zs) x p f (omega arith) low high m)
