-- Rule E: the clauses of a literal, the pairs of the two sides, and when the resolvent of a pair stands.
use Rattle.std.proofs.Common.{◌≡◌, ℕ, ◌<◌, ◌≤◌, true, false, ◌⊎◌, List, [], ◌∷◌, ℤ, Some, None, Option, sym, refl, ap, ◌∙◌, inl, inr, ⊎_elim, arith}
use Rattle.std.proofs.lemmas.Bool.{cases_Bool, true≢false, false≢true, cond-true, cond-false, or_cases, or_left, or_right}
use Rattle.std.proofs.lemmas.Bool.Decides.{nat_tests}
use Rattle.words.specs.Clauses.{has, opposed, rising, equal, resolvent}
use Rattle.words.specs.Standing.{Entry, ordered, under}
use Rattle.rules.specs.Satisfying.{Iff}
use Rattle.rules.specs.Lines.{side, some_equal, covered, uncovered_with, first_uncovered}
use Rattle.rules.specs.Obeying.{Stands, Tautological, IsResolvent}
use Rattle.acceptance.specs.Places.{FirstPair}
use Rattle.acceptance.proofs.Sets.{equal_is, equal_refl, has_resolvent}
use Rattle.acceptance.proofs.Rising.{opposed_tautological, resolvent_canonical, rising_same_set}
use Rattle.acceptance.proofs.Passing.{none_not_some, some_injective}
pub use Rattle.acceptance.proofs.Passing.{option_cases}
use Rattle.acceptance.proofs.Entries.{under_first, under_rest, under_cases, under_more, under_above, under_rising, ordered_rest, ordered_first, none_failing, some_failing, uncovered_walk}

-- ── A side ──

-- ordered entries are so from any lower start too
pub ordered_lower : (n w m k : ℕ) (s : List Entry) → k ≤ m → ordered n w m s ≡ true → ordered n w k s ≡ true
ordered_lower n w m k [] h o = refl
ordered_lower n w m k (e ∷ es) h o = grind (arith, nat_tests)

-- a side is ordered as the standing clauses are
pub side_ordered : (n w m : ℕ) (z : ℤ) (s : List Entry) → ordered n w m s ≡ true → ordered n w m (side z s) ≡ true
side_ordered n w m z [] o = refl
side_ordered n w m z (e ∷ es) o =
    let f = ordered_first n w m e es o in
    let ih = side_ordered n w e.number z es (ordered_rest n w m e es o) in
    let low = ordered_lower n w e.number m (side z es) (omega arith) ih in
    grind (arith, nat_tests)

-- a clause is on a side exactly when it stands and holds the literal
pub side_under : (n w m k : ℕ) (z : ℤ) (c : List ℤ) (s : List Entry) → ordered n w m s ≡ true →
    Iff (under k (side z s) ≡ Some c) ((under k s ≡ Some c) × (has z c ≡ true))
side_under n w m k z c [] o = (λ u. absurd (none_not_some c u), λ p. absurd (none_not_some c p.0))
side_under n w m k z c (e ∷ es) o =
    let o1 = ordered_rest n w m e es o in
    let ih = side_under n w e.number k z c es o1 in
    ⊎_elim
    (λ (h : has z e.lits ≡ true).
    let d : side z (e ∷ es) ≡ e ∷ side z es = cond-true (has z e.lits) (e ∷ side z es) (side z es) h in (
      λ u.
          ⊎_elim
          (λ p. (ap (λ v. under v (e ∷ es)) (sym p.0) ∙ under_first e es ∙ ap Some p.1, ap (has z) (sym p.1) ∙ h))
          (λ p. let r = ih.0 p in (under_more n w m k c e es o r.0, r.1))
          (under_cases k c e (side z es) (ap (under k) (sym d) ∙ u)),
      λ p.
          ap (under k) d ∙
          ⊎_elim
          (λ q. ap (λ v. under v (e ∷ side z es)) (sym q.0) ∙ under_first e (side z es) ∙ ap Some q.1)
          (λ q.
          let a = under_above n w e.number k c es o1 q in
          under_rest k e (side z es) (λ r. omega arith) ∙ ih.1 (q, p.1))
          (under_cases k c e es p.0),
    ))
    (λ (h : has z e.lits ≡ false).
    let d : side z (e ∷ es) ≡ side z es = cond-false (has z e.lits) (e ∷ side z es) (side z es) h in (
      λ u. let r = ih.0 (ap (under k) (sym d) ∙ u) in (under_more n w m k c e es o r.0, r.1),
      λ p.
          ap (under k) d ∙
          ⊎_elim
          (λ q. absurd (true≢false (sym p.1 ∙ ap (has z) (sym q.1) ∙ h)))
          (λ q. ih.1 (q, p.1))
          (under_cases k c e es p.0),
    ))
    (cases_Bool (has z e.lits))

-- ── A resolvent that stands ──

-- some clause is equal exactly when it stands under some number
pub some_equal_under : (n w m : ℕ) (c : List ℤ) (s : List Entry) → ordered n w m s ≡ true →
    Iff (some_equal c s ≡ true) ((k : ℕ) × (under k s ≡ Some c))
some_equal_under n w m c [] o = (λ h. absurd (false≢true h), λ p. absurd (none_not_some c p.1))
some_equal_under n w m c (e ∷ es) o =
    let ih = some_equal_under n w e.number c es (ordered_rest n w m e es o) in (
      λ h.
          ⊎_elim
          (λ (q : equal e.lits c ≡ true). (e.number, under_first e es ∙ ap Some (equal_is e.lits c q)))
          (λ (q : some_equal c es ≡ true). let r = ih.0 q in (r.0, under_more n w m r.0 c e es o r.1))
          (or_cases (equal e.lits c) (some_equal c es) h),
      λ p.
          ⊎_elim
          (λ q. or_left (equal e.lits c) (some_equal c es) (ap (λ d. equal d c) q.1 ∙ equal_refl c))
          (λ q. or_right (equal e.lits c) (some_equal c es) (ih.1 (p.0, q)))
          (under_cases p.0 c e es p.1),
    )

-- the resolvent of two clauses holds an opposite pair or stands
abbrev pub Covered : List Entry → ℤ → List ℤ → List ℤ → Type 0
Covered s v c d = Tautological v c d ⊎ ((k : ℕ) × (r : List ℤ) × Stands s k r × IsResolvent v c d r)

-- a pair passes the test exactly when it is covered
pub covered_exactly : (n w : ℕ) (s : List Entry) (v : ℤ) (c d : List ℤ) → ordered n w 0 s ≡ true → rising n 0 c ≡ true → rising n 0 d ≡ true →
    Iff (covered v s c d ≡ true) (Covered s v c d)
covered_exactly n w s v c d o rc rd = (
  λ h.
      ⊎_elim
      (λ (t : opposed (resolvent v c d) ≡ true). inl ((opposed_tautological n v c d rc rd).0 t))
      (λ (t : some_equal (resolvent v c d) s ≡ true).
      let r = (some_equal_under n w 0 (resolvent v c d) s o).0 t in
      inr (r.0, resolvent v c d, r.1, has_resolvent v c d))
      (or_cases (opposed (resolvent v c d)) (some_equal (resolvent v c d) s) h),
  λ p.
      ⊎_elim
      (λ (t : opposed (resolvent v c d) ≡ true). or_left (opposed (resolvent v c d)) (some_equal (resolvent v c d) s) t)
      (λ (t : opposed (resolvent v c d) ≡ false).
      ⊎_elim
      (λ q. absurd (true≢false (sym ((opposed_tautological n v c d rc rd).1 q) ∙ t)))
      (λ q.
      let same : q.1 ≡ resolvent v c d = rising_same_set n q.1 (resolvent v c d) (under_rising n w 0 q.0 q.1 s o q.2) (resolvent_canonical n v c d rc rd t)
      (λ z. (λ h. (has_resolvent v c d z).1 ((q.3 z).0 h), λ h. (q.3 z).1 ((has_resolvent v c d z).0 h))) in
      or_right (opposed (resolvent v c d)) (some_equal (resolvent v c d) s) ((some_equal_under n w 0 (resolvent v c d) s o).1 (q.0, q.2 ∙ ap Some same)))
      p)
      (cases_Bool (opposed (resolvent v c d))),
)

-- ── Pairs ──

-- the first pair, at a clause of P that has no uncovered partner, and at one that has
pub pairs_on : (v : ℤ) (s : List Entry) (e : Entry) (es ns : List Entry) → uncovered_with v s e.lits ns ≡ None → first_uncovered v s (e ∷ es) ns ≡ first_uncovered v s es ns
pairs_on v s e es ns q = ap (λ (o : Option ℕ). elim o as (λ _. Option (ℕ × ℕ)) [ None ↦ first_uncovered v s es ns | Some k ↦ Some (e.number, k) ]) q

pub pairs_at : (v : ℤ) (s : List Entry) (e : Entry) (es ns : List Entry) (k : ℕ) → uncovered_with v s e.lits ns ≡ Some k → first_uncovered v s (e ∷ es) ns ≡ Some (e.number, k)
pairs_at v s e es ns k q = ap (λ (o : Option ℕ). elim o as (λ _. Option (ℕ × ℕ)) [ None ↦ first_uncovered v s es ns | Some j ↦ Some (e.number, j) ]) q

-- there is no first pair exactly when every pair is covered
pub none_uncovered : (n w m : ℕ) (v : ℤ) (s ps ns : List Entry) → ordered n w m ps ≡ true → ordered n w 0 ns ≡ true →
    Iff (first_uncovered v s ps ns ≡ None) ((i j : ℕ) (c d : List ℤ) → under i ps ≡ Some c → under j ns ≡ Some d → covered v s c d ≡ true)
none_uncovered n w m v s [] ns op on = (λ _ i j c d u. absurd (none_not_some c u), λ _. refl)
none_uncovered n w m v s (e ∷ es) ns op on =
    let ih = none_uncovered n w e.number v s es ns (ordered_rest n w m e es op) on in
    let walk = none_failing n w 0 (covered v s e.lits) ns on in
    let is = uncovered_walk v s e.lits ns in (
      λ h i j c d u x.
          ⊎_elim
          (λ (q : uncovered_with v s e.lits ns ≡ None).
          ⊎_elim
          (λ p. ap (λ k. covered v s k d) (sym p.1) ∙ walk.0 (sym is ∙ q) j d x)
          (λ p. ih.0 (sym (pairs_on v s e es ns q) ∙ h) i j c d p x)
          (under_cases i c e es u))
          (λ q. absurd (none_not_some (e.number, q.0) (sym h ∙ pairs_at v s e es ns q.0 q.1)))
          (option_cases (uncovered_with v s e.lits ns)),
      λ f.
          pairs_on v s e es ns (is ∙ walk.1 (λ j d x. f e.number j e.lits d (under_first e es) x)) ∙
          ih.1 (λ i j c d u x. f i j c d (under_more n w m i c e es op u) x),
    )

-- a pair of the two sides is not covered
abbrev pub PairFails : ℤ → List Entry → List Entry → List Entry → ℕ → ℕ → Type 0
PairFails v s ps ns i j = (c : List ℤ) × (d : List ℤ) × (under i ps ≡ Some c) × (under j ns ≡ Some d) × (covered v s c d ≡ false)

-- the pair at which the walk ends is the first that is not covered
pub some_uncovered : (n w m : ℕ) (v : ℤ) (s ps ns : List Entry) (i j : ℕ) → ordered n w m ps ≡ true → ordered n w 0 ns ≡ true →
    first_uncovered v s ps ns ≡ Some (i, j) → FirstPair (PairFails v s ps ns) i j
some_uncovered n w m v s [] ns i j op on f = absurd (none_not_some (i, j) f)
some_uncovered n w m v s (e ∷ es) ns i j op on f =
    let o1 = ordered_rest n w m e es op in
    let is = uncovered_walk v s e.lits ns in
    ⊎_elim
    (λ (q : uncovered_with v s e.lits ns ≡ None).
    let r = some_uncovered n w e.number v s es ns i j o1 on (sym (pairs_on v s e es ns q) ∙ f) in
    let x = r.0 in (
      (x.0, x.1, under_more n w m i x.0 e es op x.2, x.3, x.4),
      λ a b y.
          ⊎_elim
          (λ p. absurd (true≢false (sym ((none_failing n w 0 (covered v s e.lits) ns on).0 (sym is ∙ q) b y.1 y.3) ∙ ap (λ k. covered v s k y.1) p.1 ∙ y.4)))
          (λ p. r.1 a b (y.0, y.1, p, y.3, y.4))
          (under_cases a y.0 e es y.2),
    ))
    (λ q.
    let pair : ◌≡◌ {A = ℕ × ℕ} (e.number, q.0) (i, j) = some_injective (e.number, q.0) (i, j) (sym (pairs_at v s e es ns q.0 q.1) ∙ f) in
    let ei : e.number ≡ i = ap (λ (x : ℕ × ℕ). x.0) pair in
    let ej : q.0 ≡ j = ap (λ (x : ℕ × ℕ). x.1) pair in
    let r = some_failing n w 0 (covered v s e.lits) ns j on (sym is ∙ q.1 ∙ ap Some ej) in (
      (e.lits, r.0.0, ap (λ k. under k (e ∷ es)) (sym ei) ∙ under_first e es, r.0.1, r.0.2),
      λ a b y.
          ⊎_elim
          (λ p. inr (sym ei ∙ p.0, r.1 b (y.1, y.3, ap (λ k. covered v s k y.1) p.1 ∙ y.4)))
          (λ p. let low = under_above n w e.number a y.0 es o1 p in inl (omega arith))
          (under_cases a y.0 e es y.2),
    ))
    (option_cases (uncovered_with v s e.lits ns))

-- there is one first pair
pub first_pair_unique : (P : ℕ → ℕ → Type 0) (i j a b : ℕ) → FirstPair P i j → FirstPair P a b → (i ≡ a) × (j ≡ b)
first_pair_unique P i j a b x y =
    ⊎_elim
    (λ (p : i < a). ⊎_elim (λ (q : a < i). absurd (omega arith)) (λ q. absurd (let e = q.0 in omega arith)) (y.1 i j x.0))
    (λ p.
    ⊎_elim
    (λ (q : a < i). absurd (let e = p.0 in omega arith))
    (λ q. (p.0, let f = p.1 in let g = q.1 in omega arith))
    (y.1 i j x.0))
    (x.1 a b y.0)

-- the walk ends at a pair exactly when it is the first that is not covered
pub pairs_exactly : (n w : ℕ) (v : ℤ) (s ps ns : List Entry) (i j : ℕ) → ordered n w 0 ps ≡ true → ordered n w 0 ns ≡ true →
    Iff (first_uncovered v s ps ns ≡ Some (i, j)) (FirstPair (PairFails v s ps ns) i j)
pairs_exactly n w v s ps ns i j op on = (
  some_uncovered n w 0 v s ps ns i j op on,
  λ x.
      ⊎_elim
      (λ (e : first_uncovered v s ps ns ≡ None). absurd (true≢false (sym ((none_uncovered n w 0 v s ps ns op on).0 e i j x.0.0 x.0.1 x.0.2 x.0.3) ∙ x.0.4)))
      (λ e.
      let r = first_pair_unique (PairFails v s ps ns) e.0.0 e.0.1 i j (some_uncovered n w 0 v s ps ns e.0.0 e.0.1 op on e.1) x in
      e.1 ∙ ap (λ k. Some (k, e.0.1)) r.0 ∙ ap (λ k. Some (i, k)) r.1)
      (option_cases (first_uncovered v s ps ns)),
)
