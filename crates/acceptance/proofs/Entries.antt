-- Standing clauses: which clause is under a number, and walks by rising number to the first clause that fails a test.
use Rattle.std.proofs.Common.{◌≡◌, ℕ, ◌<◌, Bool, true, false, cond, not, ◌&&◌, ◌||◌, eqb, ◌⊎◌, List, [], ◌∷◌, ℤ, neg_ℤ, Some, None, Option, sym, refl, ap, ◌∙◌, inl, inr, ⊎_elim, arith}
use Rattle.std.proofs.lemmas.Bool.{cases_Bool, cases_eq, true≢false, false≢true, eq-eqb, ne_eqb, cond-true, cond-false}
use Rattle.std.proofs.lemmas.Bool.Decides.{nat_tests}
use Rattle.words.specs.Clauses.{has, opposed, rising, resolvent}
use Rattle.words.specs.Standing.{Entry, ordered, stands, under}
use Rattle.words.specs.Assignments.{met}
use Rattle.rules.specs.Satisfying.{Iff}
use Rattle.rules.specs.Restoring.{first_unmet}
use Rattle.rules.specs.Lines.{clause_under, covered, uncovered_with, first_unblocked}
use Rattle.acceptance.specs.Places.{Lowest}
use Rattle.acceptance.proofs.Passing.{none_not_some, some_injective, option_cases}

-- ── The clause under a number ──

-- the first clause is under its number
pub under_first : (e : Entry) (es : List Entry) → under e.number (e ∷ es) ≡ Some e.lits
under_first e es = cond-true (eqb e.number e.number) (Some e.lits) (under e.number es) (eq-eqb e.number e.number refl)

-- under any other number it is as among the rest
pub under_rest : (k : ℕ) (e : Entry) (es : List Entry) → (e.number ≡ k → ⊥) → under k (e ∷ es) ≡ under k es
under_rest k e es n = cond-false (eqb e.number k) (Some e.lits) (under k es) (ne_eqb e.number k n)

-- the clause under a number is the first, or is under the number among the rest
pub under_cases : (k : ℕ) (d : List ℤ) (e : Entry) (es : List Entry) → under k (e ∷ es) ≡ Some d → ((e.number ≡ k) × (e.lits ≡ d)) ⊎ (under k es ≡ Some d)
under_cases k d e es u =
    ⊎_elim
    (λ (q : e.number ≡ k). inl (q, some_injective e.lits d (sym (under_first e es) ∙ ap (λ v. under v (e ∷ es)) q ∙ u)))
    (λ (q : e.number ≡ k → ⊥). inr (sym (under_rest k e es q) ∙ u))
    (cases_eq e.number k)

-- a number with a clause stands
pub stands_under : (k : ℕ) (c : List ℤ) (s : List Entry) → under k s ≡ Some c → stands k s ≡ true
stands_under k c [] u = absurd (none_not_some c u)
stands_under k c (e ∷ es) u = let ih = stands_under k c es in grind (arith, nat_tests, ih)

-- a number does not stand exactly when no clause is under it
pub absent_under : (k : ℕ) (s : List Entry) → Iff (not (stands k s) ≡ true) (under k s ≡ None)
absent_under k [] = (λ _. refl, λ _. refl)
absent_under k (e ∷ es) =
    let ih = absent_under k es in
    ⊎_elim
    (λ (q : e.number ≡ k).
    let t = eq-eqb e.number k q in
    (λ h. let z : true ≡ false = grind arith in absurd (true≢false z), λ u. absurd (none_not_some e.lits (sym u ∙ grind arith))))
    (λ (q : e.number ≡ k → ⊥).
    let t = ne_eqb e.number k q in
    let f = ih.0 in
    let g = ih.1 in
    (λ h. under_rest k e es q ∙ f (grind arith), λ u. let w = g (sym (under_rest k e es q) ∙ u) in grind arith))
    (cases_eq e.number k)

-- the clause under a number, where there is one
pub clause_under_is : (k : ℕ) (c : List ℤ) (s : List Entry) → under k s ≡ Some c → clause_under k s ≡ c
clause_under_is k c s u = ap (λ (o : Option (List ℤ)). elim o [ None ↦ [] | Some d ↦ d ]) u

-- a number that stands has a clause
pub under_stands : (k : ℕ) (s : List Entry) → stands k s ≡ true → under k s ≡ Some (clause_under k s)
under_stands k [] h = absurd (false≢true h)
under_stands k (e ∷ es) h =
    ⊎_elim
    (λ (q : e.number ≡ k). let t = eq-eqb e.number k q in let u : under k (e ∷ es) ≡ Some e.lits = grind arith in u ∙ ap Some (sym (clause_under_is k e.lits (e ∷ es) u)))
    (λ (q : e.number ≡ k → ⊥).
    let t = ne_eqb e.number k q in
    let ih = under_stands k es (grind arith) in
    let u : under k (e ∷ es) ≡ Some (clause_under k es) = under_rest k e es q ∙ ih in
    u ∙ ap Some (sym (clause_under_is k (clause_under k es) (e ∷ es) u)))
    (cases_eq e.number k)

-- ── Ordered entries ──

-- the rest of ordered entries is ordered, from the first number on
pub ordered_rest : (n w m : ℕ) (e : Entry) (es : List Entry) → ordered n w m (e ∷ es) ≡ true → ordered n w e.number es ≡ true
ordered_rest n w m e es o = grind (arith, nat_tests)

-- the first number is above the start
pub ordered_first : (n w m : ℕ) (e : Entry) (es : List Entry) → ordered n w m (e ∷ es) ≡ true → m < e.number
ordered_first n w m e es o = grind (arith, nat_tests)

-- the numbers of ordered entries are above their start
pub under_above : (n w m k : ℕ) (c : List ℤ) (s : List Entry) → ordered n w m s ≡ true → under k s ≡ Some c → m < k
under_above n w m k c [] o u = absurd (none_not_some c u)
under_above n w m k c (e ∷ es) o u =
    let f = ordered_first n w m e es o in
    ⊎_elim
    (λ p. let q = p.0 in omega arith)
    (λ p. let ih = under_above n w e.number k c es (ordered_rest n w m e es o) p in omega arith)
    (under_cases k c e es u)

-- what is under a number among the rest is so among all
pub under_more : (n w m k : ℕ) (c : List ℤ) (e : Entry) (es : List Entry) → ordered n w m (e ∷ es) ≡ true → under k es ≡ Some c → under k (e ∷ es) ≡ Some c
under_more n w m k c e es o u = let a = under_above n w e.number k c es (ordered_rest n w m e es o) u in under_rest k e es (λ q. omega arith) ∙ u

-- every standing clause is in canonical form
pub under_rising : (n w m k : ℕ) (c : List ℤ) (s : List Entry) → ordered n w m s ≡ true → under k s ≡ Some c → rising n 0 c ≡ true
under_rising n w m k c [] o u = absurd (none_not_some c u)
under_rising n w m k c (e ∷ es) o u =
    ⊎_elim
    (λ p. ap (rising n 0) (sym p.1) ∙ grind (arith, nat_tests))
    (λ p. under_rising n w e.number k c es (ordered_rest n w m e es o) p)
    (under_cases k c e es u)

-- ── Walks ──

-- the lowest number of a clause that fails a test
abbrev pub first_failing : (List ℤ → Bool) → List Entry → Option ℕ
first_failing t [] = None
first_failing t (e ∷ es) = cond (t e.lits) (first_failing t es) (Some e.number)

-- the clause under a number fails the test
abbrev pub FailsUnder : (List ℤ → Bool) → List Entry → ℕ → Type 0
FailsUnder t s k = (d : List ℤ) × (under k s ≡ Some d) × (t d ≡ false)

-- the walk ends without a number exactly when every clause passes
pub none_failing : (n w m : ℕ) (t : List ℤ → Bool) (s : List Entry) → ordered n w m s ≡ true →
    Iff (first_failing t s ≡ None) ((k : ℕ) (d : List ℤ) → under k s ≡ Some d → t d ≡ true)
none_failing n w m t [] o = (λ _ k d u. absurd (none_not_some d u), λ _. refl)
none_failing n w m t (e ∷ es) o =
    let ih = none_failing n w e.number t es (ordered_rest n w m e es o) in (
      λ f k d u.
          ⊎_elim
          (λ (p : t e.lits ≡ true).
          ⊎_elim
          (λ q. ap t (sym q.1) ∙ p)
          (λ q. ih.0 (sym (cond-true (t e.lits) (first_failing t es) (Some e.number) p) ∙ f) k d q)
          (under_cases k d e es u))
          (λ (p : t e.lits ≡ false). absurd (none_not_some e.number (sym f ∙ cond-false (t e.lits) (first_failing t es) (Some e.number) p)))
          (cases_Bool (t e.lits)),
      λ f.
          cond-true (t e.lits) (first_failing t es) (Some e.number) (f e.number e.lits (under_first e es)) ∙
          ih.1 (λ k d u. f k d (under_more n w m k d e es o u)),
    )

-- the number at which the walk ends is the lowest of a clause that fails
pub some_failing : (n w m : ℕ) (t : List ℤ → Bool) (s : List Entry) (k : ℕ) → ordered n w m s ≡ true → first_failing t s ≡ Some k → Lowest (FailsUnder t s) k
some_failing n w m t [] k o f = absurd (none_not_some k f)
some_failing n w m t (e ∷ es) k o f =
    ⊎_elim
    (λ (p : t e.lits ≡ true).
    let r = some_failing n w e.number t es k (ordered_rest n w m e es o) (sym (cond-true (t e.lits) (first_failing t es) (Some e.number) p) ∙ f) in (
      (r.0.0, under_more n w m k r.0.0 e es o r.0.1, r.0.2),
      λ j x.
          ⊎_elim
          (λ q. absurd (true≢false (sym p ∙ ap t q.1 ∙ x.2)))
          (λ q. r.1 j (x.0, q, x.2))
          (under_cases j x.0 e es x.1),
    ))
    (λ (p : t e.lits ≡ false).
    let q : e.number ≡ k = some_injective e.number k (sym (cond-false (t e.lits) (first_failing t es) (Some e.number) p) ∙ f) in (
      (e.lits, ap (λ v. under v (e ∷ es)) (sym q) ∙ under_first e es, p),
      λ j x.
          ⊎_elim
          (λ r. let a = r.0 in omega arith)
          (λ r. let a = under_above n w e.number j x.0 es (ordered_rest n w m e es o) r in omega arith)
          (under_cases j x.0 e es x.1),
    ))
    (cases_Bool (t e.lits))

-- there is one lowest number
pub lowest_unique : (P : ℕ → Type 0) (k j : ℕ) → Lowest P k → Lowest P j → k ≡ j
lowest_unique P k j a b = let p = a.1 j b.0 in let q = b.1 k a.0 in omega arith

-- a property that holds of the same numbers has the same lowest
pub lowest_like : (P Q : ℕ → Type 0) (k : ℕ) → ((j : ℕ) → Iff (P j) (Q j)) → Lowest P k → Lowest Q k
lowest_like P Q k e a = ((e k).0 a.0, λ j q. a.1 j ((e j).1 q))

-- the walk ends at a number exactly when it is the lowest of a clause that fails
pub walk_exactly : (n w : ℕ) (t : List ℤ → Bool) (s : List Entry) (k : ℕ) → ordered n w 0 s ≡ true → Iff (first_failing t s ≡ Some k) (Lowest (FailsUnder t s) k)
walk_exactly n w t s k o = (
  some_failing n w 0 t s k o,
  λ a.
      ⊎_elim
      (λ (e : first_failing t s ≡ None). absurd (true≢false (sym ((none_failing n w 0 t s o).0 e k a.0.0 a.0.1) ∙ a.0.2)))
      (λ e. e.1 ∙ ap Some (lowest_unique (FailsUnder t s) e.0 k (some_failing n w 0 t s e.0 o e.1) a))
      (option_cases (first_failing t s)),
)

-- the walks of the rules are walks to the first clause that fails a test
pub unmet_walk : (a : List ℕ) (s : List Entry) → first_unmet a s ≡ first_failing (met a) s
unmet_walk a [] = refl
unmet_walk a (e ∷ es) = ap (λ o. cond (met a e.lits) o (Some e.number)) (unmet_walk a es)

-- whether a clause passes rule B on a pivot: it lacks the negation, or the resolvent holds an opposite pair
abbrev pub clashes : ℤ → List ℤ → List ℤ → Bool
clashes pivot c d = not (has (neg_ℤ pivot) d) || opposed (resolvent pivot c d)

-- the walk of rule B
pub unblocked_walk : (pivot : ℤ) (c : List ℤ) (s : List Entry) → first_unblocked pivot c s ≡ first_failing (clashes pivot c) s
unblocked_walk pivot c [] = refl
unblocked_walk pivot c (e ∷ es) =
    let ih = unblocked_walk pivot c es in
    turned (has (neg_ℤ pivot) e.lits) (opposed (resolvent pivot c e.lits)) _ _ ih e.number
  where
    turned : (x y : Bool) (o p : Option ℕ) → o ≡ p → (k : ℕ) → cond (x && not y) (Some k) o ≡ cond (not x || y) p (Some k)
    turned true true o p e k = e
    turned true false o p e k = refl
    turned false y o p e k = e

-- the walk of rule E over the clauses of N
pub uncovered_walk : (v : ℤ) (s : List Entry) (a : List ℤ) (es : List Entry) → uncovered_with v s a es ≡ first_failing (covered v s a) es
uncovered_walk v s a [] = refl
uncovered_walk v s a (e ∷ es) = ap (λ o. cond (covered v s a e.lits) o (Some e.number)) (uncovered_walk v s a es)
