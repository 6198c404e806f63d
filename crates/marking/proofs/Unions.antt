-- Literals put into a clause one after another, and the resolvent as two such unions.
use Rattle.std.proofs.Common.{◌≡◌, ℕ, ◌+◌, ◌<◌, ◌≤◌, true, false, cond, not, ◌&&◌, ◌||◌, ltb, leb, List, [], ◌∷◌, length, ℤ, neg_ℤ, nat_abs, Some, None, Option, sym, refl, ap, ◌∙◌, subst, ⊎_elim, arith}
use Rattle.std.proofs.lemmas.Bool.{cases_Bool, true≢false}
use Rattle.std.proofs.lemmas.Bool.Decides.{nat_tests}
use Rattle.std.proofs.lemmas.List.{length-take}
use Rattle.std.specs.Option.{option_map}
use Rattle.words.specs.declared.clause.Clause.{Clause}
use Rattle.words.specs.Literals.{same}
use Rattle.words.specs.Meanings.{lits_of}
use Rattle.words.specs.Clauses.{has, rising, insert, opposed, resolvent}
use Rattle.words.proofs.Inserts.{rising_insert}
use Rattle.acceptance.proofs.Sets.{Plain, same_eq, same_ne, same_refl, cases_same, has_insert, has_resolvent_is, opposed_some, opposed_plain, resolvent_nonzero}
use Rattle.acceptance.proofs.Rising.{rising_nonzero, rising_plain, rising_unique, resolvent_canonical}
use Rattle.marking.specs.Resolving.{added, Adds, clause_resolvent}

-- what is in the union
pub has_added : (z e : ℤ) (before xs : List ℤ) → has z (added e before xs) ≡ (has z before || (not (same e z) && has z xs))
has_added z e before [] = grind (arith, nat_tests)
has_added z e before (x ∷ xs) =
    ⊎_elim
    (λ (q : x ≡ e).
    let s = same_eq x e q in
    let t : same x z ≡ same e z = ap (λ y. same y z) q in
    let ih = has_added z e before xs in
    grind (arith, nat_tests))
    (λ (q : same x e ≡ false).
    let hi = has_insert z x before in
    let ih = has_added z e (insert x before) xs in
    ⊎_elim
    (λ (w : e ≡ z). let k : same x z ≡ false = ap (same x) (sym w) ∙ q in grind (arith, nat_tests))
    (λ (w : same e z ≡ false). grind (arith, nat_tests))
    (cases_same e z))
    (cases_same x e)

-- the union of clauses without an opposite pair is in canonical order
pub rising_added : (n m : ℕ) (e : ℤ) (before xs : List ℤ) → rising n 0 before ≡ true → rising n m xs ≡ true → Plain (added e before xs) → rising n 0 (added e before xs) ≡ true
rising_added n m e before [] r s p = r
rising_added n m e before (x ∷ xs) r s p =
    let s1 : rising n (nat_abs x) xs ≡ true = grind (arith, nat_tests) in
    let lo : m < nat_abs x = grind (arith, nat_tests) in
    let hi : nat_abs x ≤ n = grind (arith, nat_tests) in
    ⊎_elim
    (λ (q : x ≡ e).
    let t = same_eq x e q in
    let u : added e before (x ∷ xs) ≡ added e before xs = grind (arith, nat_tests) in
    ap (rising n 0) u ∙ rising_added n (nat_abs x) e before xs r s1 (subst Plain u p))
    (λ (q : same x e ≡ false).
    let u : added e before (x ∷ xs) ≡ added e (insert x before) xs = grind (arith, nat_tests) in
    let p1 = subst Plain u p in
    let hx = has_added x e (insert x before) xs in
    let hi1 = has_insert x x before in
    let sr = same_refl x in
    let inx : has x (added e (insert x before) xs) ≡ true = grind (arith, nat_tests) in
    let no = p1 x inx in
    let hn = has_added (neg_ℤ x) e (insert x before) xs in
    let hj = has_insert (neg_ℤ x) x before in
    let nb : has (neg_ℤ x) before ≡ false = grind (arith, nat_tests) in
    ap (rising n 0) u ∙ rising_added n (nat_abs x) e (insert x before) xs (rising_insert n 0 x before r (omega arith) hi nb) s1 p1)
    (cases_same x e)

-- ── One step of putting in ──

insert_longer : (z : ℤ) (c : List ℤ) → has z c ≡ false → length (insert z c) ≡ length c + 1
insert_longer z [] h = refl
insert_longer z (x ∷ c) h = let ih = insert_longer z c in grind (arith, nat_tests, ih)

insert_no_shorter : (z : ℤ) (c : List ℤ) → length c ≤ length (insert z c)
insert_no_shorter z [] = omega arith
insert_no_shorter z (x ∷ c) = let ih = insert_no_shorter z c in grind (arith, nat_tests)

added_no_shorter : (e : ℤ) (before xs : List ℤ) → length before ≤ length (added e before xs)
added_no_shorter e before [] = omega arith
added_no_shorter e before (x ∷ xs) =
    let i1 = added_no_shorter e before xs in
    let i2 = added_no_shorter e (insert x before) xs in
    let i3 = insert_no_shorter x before in
    grind (arith, nat_tests)

-- x, the next literal of what is left, as the code holds it
module _ (e x : ℤ) (c sum left rest : List ℤ) (q : left ≡ x ∷ rest) (inv : added e c left ≡ sum) where
  opened : added e c (x ∷ rest) ≡ sum
  opened = ap (added e c) (sym q) ∙ inv

  -- the literal that is left out
  pub adds_not : x ≡ e → added e c rest ≡ sum
  adds_not s = let t = same_eq x e s in let o = opened in grind (arith, nat_tests)

  pub adds_one : (x ≡ e → ⊥) → added e (insert x c) rest ≡ sum
  adds_one s = let t = same_ne x e s in let o = opened in grind (arith, nat_tests)

  -- a literal that finds no room is the 65th
  pub adds_too_many : (x ≡ e → ⊥) → Plain sum → (has x c || (not (has (neg_ℤ x) c) && ltb (length c) 64)) ≡ false → 64 < length sum
  adds_too_many s p f =
      let o = adds_one s in
      let no : has x c ≡ false = grind (arith, nat_tests) in
      let g1 = has_added x e (insert x c) rest in
      let g2 = has_insert x x c in
      let g3 = same_refl x in
      let g4 = ap (has x) o in
      let inx : has x sum ≡ true = grind (arith, nat_tests) in
      let n0 = p x inx in
      let h1 = has_added (neg_ℤ x) e (insert x c) rest in
      let h2 = has_insert (neg_ℤ x) x c in
      let h3 = ap (has (neg_ℤ x)) o in
      let nn : has (neg_ℤ x) c ≡ false = grind (arith, nat_tests) in
      let lc : 64 ≤ length c = grind (arith, nat_tests) in
      let l1 = insert_longer x c no in
      let l2 = added_no_shorter e (insert x c) rest in
      let l3 = ap length o in
      omega arith

-- ── The resolvent as two unions ──

-- the unions have the literals of the resolvent
members : (l : ℤ) (a b : List ℤ) (z : ℤ) → has z (added (neg_ℤ l) (added l [] a) b) ≡ has z (resolvent l a b)
members l a b z = let h1 = has_added z (neg_ℤ l) (added l [] a) b in let h2 = has_added z l [] a in let h3 = has_resolvent_is l a b z in grind (arith, nat_tests)

module _ (n : ℕ) (l : ℤ) (a b : List ℤ) (ra : rising n 0 a ≡ true) (rb : rising n 0 b ≡ true) (o : opposed (resolvent l a b) ≡ false) where
  both_plain : Plain (added (neg_ℤ l) (added l [] a) b)
  both_plain z h =
      members l a b (neg_ℤ z) ∙ opposed_plain (resolvent l a b) (resolvent_nonzero l a b (rising_nonzero n 0 a ra) (rising_nonzero n 0 b rb)) o z (sym (members l a b z) ∙ h)

  one_plain : Plain (added l [] a)
  one_plain z h =
      let g1 = has_added z (neg_ℤ l) (added l [] a) b in
      let g2 = has_added (neg_ℤ z) (neg_ℤ l) (added l [] a) b in
      let i1 : has z (added (neg_ℤ l) (added l [] a) b) ≡ true = grind (arith, nat_tests) in
      let i2 = both_plain z i1 in
      grind (arith, nat_tests)

  -- the resolvent is the union of the one parent without the pivot and the other without its negation
  resolvent_added : added (neg_ℤ l) (added l [] a) b ≡ resolvent l a b
  resolvent_added =
      let r1 = rising_added n 0 l [] a refl ra one_plain in
      let r2 = rising_added n 0 (neg_ℤ l) (added l [] a) b r1 rb both_plain in
      rising_unique n 0 0 (added (neg_ℤ l) (added l [] a) b) (resolvent l a b) r2 (resolvent_canonical n l a b ra rb o) (members l a b)

-- ── What is built, as a clause ──

-- a resolvent that has no opposite pair is none only where it has too many literals
pub unopposed : (l : ℤ) (a b : List ℤ) → opposed (resolvent l a b) ≡ false → clause_resolvent l a b ≡ cond (leb (length (resolvent l a b)) 64) (Some (resolvent l a b)) None
unopposed l a b o = ap (λ x. cond x None (cond (leb (length (resolvent l a b)) 64) (Some (resolvent l a b)) None)) o

none_built : (l : ℤ) (a b : List ℤ) → (opposed (resolvent l a b) ≡ false → 64 < length (resolvent l a b)) → None ≡ clause_resolvent l a b
none_built l a b f =
    ⊎_elim
    (λ (o : opposed (resolvent l a b) ≡ true). sym (ap (λ x. cond x None (cond (leb (length (resolvent l a b)) 64) (Some (resolvent l a b)) None)) o))
    (λ (o : opposed (resolvent l a b) ≡ false).
    let h = f o in
    let t : leb (length (resolvent l a b)) 64 ≡ false = grind (arith, nat_tests) in
    sym (unopposed l a b o ∙ ap (λ x. cond x (Some (resolvent l a b)) None) t))
    (cases_Bool (opposed (resolvent l a b)))

-- for the lists as the code holds them: none, the first parent put in, and -l
module _ (n : ℕ) (l : ℤ) (a b : List ℤ) (ra : rising n 0 a ≡ true) (rb : rising n 0 b ≡ true) (none one : List ℤ) (m : ℤ) (e : none ≡ []) (f : m ≡ neg_ℤ l) where
  first_of : added l none a ≡ added l [] a
  first_of = ap (λ c. added l c a) e

  -- the first parent does not go in
  pub first_refused : (Plain (added l none a) → 64 < length (added l none a)) → None ≡ clause_resolvent l a b
  first_refused h =
      none_built l a b (λ o.
      let k = h (subst Plain (sym first_of) (one_plain n l a b ra rb o)) in
      let s = added_no_shorter (neg_ℤ l) (added l [] a) b in
      let q = ap length first_of in
      let r = ap length (resolvent_added n l a b ra rb o) in
      omega arith)

  module _ (g : one ≡ added l none a) where
    second_of : added m one b ≡ added (neg_ℤ l) (added l [] a) b
    second_of = ap (λ k. added k one b) f ∙ ap (λ c. added (neg_ℤ l) c b) (g ∙ first_of)

    -- the second does not
    pub second_refused : (Plain (added m one b) → 64 < length (added m one b)) → None ≡ clause_resolvent l a b
    second_refused h =
        none_built l a b (λ o.
        let k = h (subst Plain (sym second_of) (both_plain n l a b ra rb o)) in
        let q = ap length (second_of ∙ resolvent_added n l a b ra rb o) in
        omega arith)

    -- a clause that has both holds no opposite pair
    built_unopposed : (c : List ℤ) → c ≡ added m one b → rising n 0 c ≡ true → opposed (resolvent l a b) ≡ false
    built_unopposed c h r =
        let w : (z : ℤ) → has z c ≡ has z (resolvent l a b) = λ z. ap (has z) (h ∙ second_of) ∙ members l a b z in
        ⊎_elim
        (λ (o : opposed (resolvent l a b) ≡ true).
        let p = opposed_some (resolvent l a b) o in
        absurd (true≢false (sym (w (neg_ℤ p.0) ∙ p.2) ∙ rising_plain n 0 c r p.0 (w p.0 ∙ p.1))))
        (λ (o : opposed (resolvent l a b) ≡ false). o)
        (cases_Bool (opposed (resolvent l a b)))

    -- both are in
    pub both_built : (c : List ℤ) → c ≡ added m one b → rising n 0 c ≡ true → length c ≤ 64 → ◌≡◌ {A = Option (List ℤ)} (Some c) (clause_resolvent l a b)
    both_built c h r k =
        let o = built_unopposed c h r in
        let q = h ∙ second_of ∙ resolvent_added n l a b ra rb o in
        let w = ap length q in
        let t : leb (length (resolvent l a b)) 64 ≡ true = grind (arith, nat_tests) in
        ap Some q ∙ sym (unopposed l a b o ∙ ap (λ x. cond x (Some (resolvent l a b)) None) t)

-- a clause with both parents in it, or none, is the resolvent
pub second_added : (l : ℤ) (a b : List ℤ) → rising 512 0 a ≡ true → rising 512 0 b ≡ true → (none one : List ℤ) (m : ℤ) → none ≡ [] → m ≡ neg_ℤ l → one ≡ added l none a →
    (r : Option Clause) → Adds r (added m one b) → option_map lits_of r ≡ clause_resolvent l a b
second_added l a b ra rb none one m e f g None h = second_refused 512 l a b ra rb none one m e f g h
second_added l a b ra rb none one m e f g (Some c) h =
    let k : length (lits_of c) ≤ 64 = let w = c.few in simp length-take (omega arith) in
    both_built 512 l a b ra rb none one m e f g (lits_of c) h c.rises k
