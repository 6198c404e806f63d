-- Where the refusal of a line points.
use Rattle.std.proofs.Common.{◌≡◌, ℕ, ◌≤◌, Bool, true, false, not, List, ℤ, neg_ℤ, Some, Option, sym, refl, ap, ◌∙◌, subst, inl, inr, ⊎_elim, arith}
use Rattle.std.proofs.lemmas.Bool.{cases_Bool, true≢false, or_from, or_parts, not-false, not_from_true}
use Rattle.words.specs.declared.limits.Limits.{Limits}
use Rattle.words.specs.declared.line.Field.{Field}
use Rattle.words.specs.declared.line.Kind.{Kind}
use Rattle.words.specs.declared.line.Kind.TheVariants.{Resolve, Subsumed, Blocked, Eliminate}
use Rattle.words.specs.declared.line.Line.{Line}
use Rattle.words.specs.declared.fault.SessionFault.{SessionFault}
use Rattle.words.specs.declared.fault.SessionFault.TheVariants as fault
use Rattle.words.specs.Checks.{◌then◌, inside}
use Rattle.words.specs.Clauses.{has, opposed, rising, resolvent}
use Rattle.words.specs.Conversions.{field_number}
use Rattle.words.specs.Standing.{Entry, ordered, stands}
use Rattle.rules.specs.Satisfying.{Iff}
use Rattle.rules.specs.Restoring.{Saved, Room}
use Rattle.rules.specs.Lines.{fields, all_fields, first_wrong, field_fault, clause_under, first_unblocked, side, covered, first_uncovered, rule_fault, space_fault, line_fault}
use Rattle.rules.specs.Obeying.{In, Stands, InRange}
use Rattle.acceptance.specs.Places.{Lowest, FirstPair, WrongField, Unblocked, Uncovered}
use Rattle.acceptance.proofs.Rising.{opposed_tautological}
use Rattle.acceptance.proofs.Passing.{inside_passes, past, past_inside, found, finds, inside_found, reaches, reaches_past}
use Rattle.acceptance.proofs.Entries.{stands_under, under_stands, clause_under_is, under_rising, clashes, FailsUnder, lowest_like, walk_exactly, unblocked_walk}
use Rattle.acceptance.proofs.Pairs.{side_ordered, side_under, covered_exactly, PairFails, pairs_exactly}
use Rattle.acceptance.proofs.Judged.{line_of, fields_exactly}
use Rattle.acceptance.proofs.Fields.{fields_walk, by_number}
use Rattle.acceptance.proofs.Origins.{sort_of, never_then, never_space, never_rule}
use Rattle.acceptance.proofs.Positions.{positions_exactly}

module _ (l : Limits) (room : Room) (given : ℕ) (s : List Entry) (saved : List Saved) where
  -- the first wrong field, by its name
  pub fields_named : (k : Kind) (c : ℕ) (p : ℤ) (f g : ℕ) (x : Field) →
      Iff (line_fault l room given s saved (line_of k c p f g) ≡ Some (fault.FieldWrong x)) (Lowest (WrongField (line_of k c p f g)) (field_number x))
  fields_named k c p f g x =
      let line = line_of k c p f g in
      let rest = rule_fault given s line then space_fault l room s saved line in
      let exact = positions_exactly (λ (b : Bool). b) true (fields line) (field_number x) in
      let walk = fields_walk k c p f g in
      let never = never_then 1 (rule_fault given s line) (space_fault l room s saved line)
      (never_rule 1 given s k c p f g (omega arith) (λ e _. omega arith) (λ e _. omega arith)) (never_space 1 l room s saved k c p f g (omega arith)) in (
        λ h.
            let y = inside_found fault.FieldWrong (fault.FieldWrong x) (first_wrong all_fields (fields line)) (found (field_fault line) rest (fault.FieldWrong x) (λ e. never (fault.FieldWrong x) e refl) h) in
            let q : y.0 ≡ x = let e = y.2 in cc in
            exact.0 (sym walk ∙ ap (inside field_number) (y.1 ∙ ap Some q)),
        λ a. finds (field_fault line) rest (fault.FieldWrong x) (ap (inside fault.FieldWrong) (by_number (first_wrong all_fields (fields line)) x (walk ∙ exact.1 a))),
      )

  -- the first wrong field, by any number: the lowest place is that of a field
  pub fields_place : (k : Kind) (c : ℕ) (p : ℤ) (f g i : ℕ) →
      Iff ((x : Field) × (field_number x ≡ i) × (line_fault l room given s saved (line_of k c p f g) ≡ Some (fault.FieldWrong x))) (Lowest (WrongField (line_of k c p f g)) i)
  fields_place k c p f g i =
      let line = line_of k c p f g in
      let rest = rule_fault given s line then space_fault l room s saved line in
      let exact = positions_exactly (λ (b : Bool). b) true (fields line) i in (
        λ h. subst (Lowest (WrongField line)) h.1 ((fields_named k c p f g h.0).0 h.2),
        λ a.
            let y = inside_found field_number i (first_wrong all_fields (fields line)) (fields_walk k c p f g ∙ exact.1 a) in
            (y.0, y.2, finds (field_fault line) rest (fault.FieldWrong y.0) (ap (inside fault.FieldWrong) y.1)),
      )

-- a clause fails rule B exactly when it holds the negated pivot and its resolvent is not tautological
fails_blocked : (n w : ℕ) (s : List Entry) (l : ℤ) (c : List ℤ) (k : ℕ) → ordered n w 0 s ≡ true → rising n 0 c ≡ true → Iff (FailsUnder (clashes l c) s k) (Unblocked s l c k)
fails_blocked n w s l c k o rc = (
  λ x.
      let d = x.0 in
      let taut = opposed_tautological n l c d rc (under_rising n w 0 k d s o x.1) in
      let p = or_parts (not (has (neg_ℤ l) d)) (opposed (resolvent l c d)) x.2 in
      (d, x.1, not-false (has (neg_ℤ l) d) p.0, λ t. true≢false (sym (taut.1 t) ∙ p.1)),
  λ x.
      let d = x.0 in
      let taut = opposed_tautological n l c d rc (under_rising n w 0 k d s o x.1) in (
        d,
        x.1,
        or_from (not (has (neg_ℤ l) d)) (opposed (resolvent l c d)) (not_from_true (has (neg_ℤ l) d) x.2)
            (⊎_elim
            (λ (t : opposed (resolvent l c d) ≡ true). absurd (x.3 (taut.0 t)))
            (λ (t : opposed (resolvent l c d) ≡ false). t)
            (cases_Bool (opposed (resolvent l c d)))),
      ),
)

-- the lowest clause that is not blocked
pub unblocked_exactly : (n w : ℕ) (s : List Entry) (l : ℤ) (c : List ℤ) (k : ℕ) → ordered n w 0 s ≡ true → rising n 0 c ≡ true → Iff (first_unblocked l c s ≡ Some k) (Lowest (Unblocked s l c) k)
unblocked_exactly n w s l c k o rc =
    let walk = unblocked_walk l c s in
    let exact = walk_exactly n w (clashes l c) s k o in (
      λ e. lowest_like (FailsUnder (clashes l c) s) (Unblocked s l c) k (λ j. fails_blocked n w s l c j o rc) (exact.0 (sym walk ∙ e)),
      λ a. walk ∙ exact.1 (lowest_like (Unblocked s l c) (FailsUnder (clashes l c) s) k (λ j. let x = fails_blocked n w s l c j o rc in (x.1, x.0)) a),
    )

-- a pair of the two sides fails exactly when it is not covered
fails_covered : (n w : ℕ) (s : List Entry) (l : ℤ) (i j : ℕ) → ordered n w 0 s ≡ true → Iff (PairFails l s (side l s) (side (neg_ℤ l) s) i j) (Uncovered s l i j)
fails_covered n w s l i j o = (
  λ x.
      let c = x.0 in
      let d = x.1 in
      let p = (side_under n w 0 i l c s o).0 x.2 in
      let q = (side_under n w 0 j (neg_ℤ l) d s o).0 x.3 in
      let exact = covered_exactly n w s l c d o (under_rising n w 0 i c s o p.0) (under_rising n w 0 j d s o q.0) in
      (c, d, p.0, p.1, q.0, q.1, λ t. true≢false (sym (exact.1 (inl t)) ∙ x.4), λ k r u e. true≢false (sym (exact.1 (inr (k, r, u, e))) ∙ x.4)),
  λ x.
      let c = x.0 in
      let d = x.1 in
      let exact = covered_exactly n w s l c d o (under_rising n w 0 i c s o x.2) (under_rising n w 0 j d s o x.4) in (
        c,
        d,
        (side_under n w 0 i l c s o).1 (x.2, x.3),
        (side_under n w 0 j (neg_ℤ l) d s o).1 (x.4, x.5),
        ⊎_elim
            (λ (t : covered l s c d ≡ true). absurd (⊎_elim (λ a. x.6 a) (λ a. x.7 a.0 a.1 a.2 a.3) (exact.0 t)))
            (λ (t : covered l s c d ≡ false). t)
            (cases_Bool (covered l s c d)),
      ),
)

-- the first pair that is not covered
pub uncovered_exactly : (n w : ℕ) (s : List Entry) (l : ℤ) (i j : ℕ) → ordered n w 0 s ≡ true → Iff (first_uncovered l s (side l s) (side (neg_ℤ l) s) ≡ Some (i, j)) (FirstPair (Uncovered s l) i j)
uncovered_exactly n w s l i j o =
    let exact = pairs_exactly n w l s (side l s) (side (neg_ℤ l) s) i j (side_ordered n w 0 l s o) (side_ordered n w 0 (neg_ℤ l) s o) in
    let like = λ (a b : ℕ). fails_covered n w s l a b o in (
      λ e. let x = exact.0 e in ((like i j).0 x.0, λ a b y. x.1 a b ((like a b).1 y)),
      λ x. exact.1 ((like i j).1 x.0, λ a b y. x.1 a b ((like a b).0 y)),
    )

-- a pair by its parts
some_pair : (x : ℕ × ℕ) (i j : ℕ) → x.0 ≡ i → x.1 ≡ j → ◌≡◌ {A = Option (ℕ × ℕ)} (Some x) (Some (i, j))
some_pair x i j a b = ap (λ k. Some (k, x.1)) a ∙ ap (λ k. Some (i, k)) b

module _ (n : ℕ) (l : Limits) (room : Room) (given : ℕ) (s : List Entry) (saved : List Saved) (o : ordered n 64 0 s ≡ true) where
  -- a fault of rule B or E comes after the fields and before the space
  from_rule : (m : ℕ) (k : Kind) (c : ℕ) (p : ℤ) (f g : ℕ) (x : SessionFault) → sort_of x ≡ m → 2 ≤ m →
      line_fault l room given s saved (line_of k c p f g) ≡ Some x → InRange (line_of k c p f g) × (rule_fault given s (line_of k c p f g) ≡ Some x)
  from_rule m k c p f g x e low h =
      let line = line_of k c p f g in
      let a = past_inside fault.FieldWrong x (first_wrong all_fields (fields line)) (rule_fault given s line then space_fault l room s saved line) (λ i q. let z : 1 ≡ sort_of x = ap sort_of q in omega arith) h in (
        (fields_exactly k c p f g).0 (inside_passes fault.FieldWrong (first_wrong all_fields (fields line)) a.0),
        found (rule_fault given s line) (space_fault l room s saved line) x (λ q. never_space m l room s saved k c p f g (omega arith) x q e) a.1,
      )

  -- and it is given where the fields are in range
  to_rule : (k : Kind) (c : ℕ) (p : ℤ) (f g : ℕ) (x : SessionFault) → InRange (line_of k c p f g) → rule_fault given s (line_of k c p f g) ≡ Some x →
      line_fault l room given s saved (line_of k c p f g) ≡ Some x
  to_rule k c p f g x r h =
      let line = line_of k c p f g in
      reaches (field_fault line) (rule_fault given s line then space_fault l room s saved line) x ((fields_exactly k c p f g).1 r)
      (finds (rule_fault given s line) (space_fault l room s saved line) x h)

  -- what a refusal of a B line with a number means
  abbrev BlockedAt : Line → ℕ → Type 0
  BlockedAt line i =
      (line.kind ≡ Blocked) × InRange line × ((d : List ℤ) × Stands s line.clause d × In line.pivot d × Lowest (Unblocked s line.pivot d) i)

  -- a line of another kind is not refused for rule B, nor for rule E below
  other_blocked : (k : Kind) (c : ℕ) (p : ℤ) (f g i : ℕ) → (k ≡ Blocked → ⊥) →
      Iff (line_fault l room given s saved (line_of k c p f g) ≡ Some (fault.NotBlocked i)) (BlockedAt (line_of k c p f g) i)
  other_blocked k c p f g i n = (
    λ h.
        let q = from_rule 2 k c p f g (fault.NotBlocked i) refl (omega arith) h in
        absurd (never_rule 2 given s k c p f g (omega arith) (λ _ e. n e) (λ e _. omega arith) (fault.NotBlocked i) q.1 refl),
    λ x. absurd (n x.0),
  )

  -- a B line
  pub blocked_place : (k : Kind) (c : ℕ) (p : ℤ) (f g i : ℕ) →
      Iff (line_fault l room given s saved (line_of k c p f g) ≡ Some (fault.NotBlocked i)) (BlockedAt (line_of k c p f g) i)
  blocked_place Resolve c p f g i = other_blocked Resolve c p f g i (λ e. let z : ◌≡◌ {A = ℕ} 0 1 = cc in omega arith)
  blocked_place Subsumed c p f g i = other_blocked Subsumed c p f g i (λ e. let z : ◌≡◌ {A = ℕ} 0 1 = cc in omega arith)
  blocked_place Eliminate c p f g i = other_blocked Eliminate c p f g i (λ e. let z : ◌≡◌ {A = ℕ} 0 1 = cc in omega arith)
  blocked_place Blocked c p f g i =
      let b = clause_under c s in (
        λ h.
            let q = from_rule 2 Blocked c p f g (fault.NotBlocked i) refl (omega arith) h in
            let x = past (stands c s) (fault.Missing c) (fault.NotBlocked i) _ (λ e. let z : ◌≡◌ {A = ℕ} 0 2 = ap sort_of e in omega arith) q.1 in
            let y = past (has p b) (fault.Lacking c) (fault.NotBlocked i) _ (λ e. let z : ◌≡◌ {A = ℕ} 0 2 = ap sort_of e in omega arith) x.1 in
            let w = inside_found fault.NotBlocked (fault.NotBlocked i) (first_unblocked p b s) y.1 in
            let v : w.0 ≡ i = let e = w.2 in cc in
            let u = under_stands c s x.0 in
            (refl, q.0, (b, u, y.0, (unblocked_exactly n 64 s p b i o (under_rising n 64 0 c b s o u)).0 (w.1 ∙ ap Some v))),
        λ x.
            let y = x.2 in
            let e : b ≡ y.0 = clause_under_is c y.0 s y.1 in
            let w = (unblocked_exactly n 64 s p y.0 i o (under_rising n 64 0 c y.0 s o y.1)).1 y.3 in
            to_rule Blocked c p f g (fault.NotBlocked i) x.1
            (reaches_past (stands c s) (fault.Missing c) (fault.NotBlocked i) _ (stands_under c y.0 s y.1)
            (reaches_past (has p b) (fault.Lacking c) (fault.NotBlocked i) _ (ap (has p) e ∙ y.2)
            (ap (inside fault.NotBlocked) (ap (λ d. first_unblocked p d s) e ∙ w)))),
      )

  -- what a refusal of an E line with a pair means
  abbrev UncoveredAt : Line → ℕ → ℕ → Type 0
  UncoveredAt line i j = (line.kind ≡ Eliminate) × InRange line × FirstPair (Uncovered s line.pivot) i j

  other_uncovered : (k : Kind) (c : ℕ) (p : ℤ) (f g i j : ℕ) → (k ≡ Eliminate → ⊥) →
      Iff (line_fault l room given s saved (line_of k c p f g) ≡ Some (fault.NotCovered i j)) (UncoveredAt (line_of k c p f g) i j)
  other_uncovered k c p f g i j n = (
    λ h.
        let q = from_rule 3 k c p f g (fault.NotCovered i j) refl (omega arith) h in
        absurd (never_rule 3 given s k c p f g (omega arith) (λ e _. omega arith) (λ _ e. n e) (fault.NotCovered i j) q.1 refl),
    λ x. absurd (n x.0),
  )

  -- an E line
  pub uncovered_place : (k : Kind) (c : ℕ) (p : ℤ) (f g i j : ℕ) →
      Iff (line_fault l room given s saved (line_of k c p f g) ≡ Some (fault.NotCovered i j)) (UncoveredAt (line_of k c p f g) i j)
  uncovered_place Resolve c p f g i j = other_uncovered Resolve c p f g i j (λ e. let z : ◌≡◌ {A = ℕ} 0 1 = cc in omega arith)
  uncovered_place Subsumed c p f g i j = other_uncovered Subsumed c p f g i j (λ e. let z : ◌≡◌ {A = ℕ} 0 1 = cc in omega arith)
  uncovered_place Blocked c p f g i j = other_uncovered Blocked c p f g i j (λ e. let z : ◌≡◌ {A = ℕ} 0 1 = cc in omega arith)
  uncovered_place Eliminate c p f g i j =
      let wrap = λ (x : ℕ × ℕ). fault.NotCovered x.0 x.1 in
      let pairs = first_uncovered p s (side p s) (side (neg_ℤ p) s) in (
        λ h.
            let q = from_rule 3 Eliminate c p f g (fault.NotCovered i j) refl (omega arith) h in
            let w = inside_found wrap (fault.NotCovered i j) pairs q.1 in
            let a : w.0.0 ≡ i = let e = w.2 in cc in
            let b : w.0.1 ≡ j = let e = w.2 in cc in
            (refl, q.0, (uncovered_exactly n 64 s p i j o).0 (w.1 ∙ some_pair w.0 i j a b)),
        λ x. to_rule Eliminate c p f g (fault.NotCovered i j) x.1 (ap (inside wrap) ((uncovered_exactly n 64 s p i j o).1 x.2)),
      )
