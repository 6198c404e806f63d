-- Lines: no fault exactly when they should be accepted.
use Rattle.std.proofs.Common.{◌≡◌, ℕ, suc, ◌+◌, ◌≤◌, Bool, true, false, not, ◌&&◌, eqb, ltb, leb, List, [], ◌∷◌, length, ℤ, pos, negsuc, neg_ℤ, nat_abs, Some, None, sym, refl, ap, ◌∙◌, inl, inr, ⊎_elim, arith}
use Rattle.std.proofs.lemmas.Bool.{cases_Bool, true≢false, cond-true, cond-false, or_cases, or_left, or_right, and_parts, and_from, leb-true, le-leb, ltb-true, lt-ltb, eqb-true, eqb-false, eq-eqb, ne_eqb, not-true, not_from_false}
use Rattle.std.proofs.lemmas.Bool.Decides.{nat_tests}
use Rattle.words.specs.declared.limits.Limits.{Limits}
use Rattle.words.specs.declared.line.Field.{Field}
use Rattle.words.specs.declared.line.Field.TheVariants as field
use Rattle.words.specs.declared.line.Kind.{Kind}
use Rattle.words.specs.declared.line.Kind.TheVariants.{Resolve, Subsumed, Blocked, Eliminate}
use Rattle.words.specs.declared.line.Line.{Line}
use Rattle.words.specs.declared.fault.SessionFault.TheVariants.{FieldWrong, NumberNotAbove, Missing, Lacking, Tautology, ResolventTooWide, NotSubsumed, NotBlocked, Database, Stack}
use Rattle.words.specs.declared.fault.StackFault.TheVariants.{EntriesFull, LiteralsFull}
use Rattle.words.specs.Checks.{◌then◌, inside}
use Rattle.words.specs.Clauses.{has, opposed, subset, rising, resolvent}
use Rattle.words.specs.Literals.{literal_ok, number_ok, positive}
use Rattle.words.specs.Standing.{Entry, ordered, stands, put_fault}
use Rattle.rules.specs.Satisfying.{Iff}
use Rattle.rules.specs.Restoring.{Saved, Room, saved_literals, save_fault}
use Rattle.rules.specs.Lines.{all_fields, first_wrong, field_fault, clause_under, line_resolvent, resolve_fault, subsumed_fault, first_unblocked, blocked_fault, side, some_equal, first_uncovered, eliminate_fault, rule_fault, line_saves, space_fault}
use Rattle.rules.specs.Obeying.{In, Stands, Tautological, IsNumber, InRange, ObeysResolve, ObeysSubsumed, ObeysBlocked, ObeysEliminate, Obeys, HasRoom, Space}
use Rattle.acceptance.specs.Exactly.{LinesExactly, EmptyExactly}
use Rattle.acceptance.proofs.Sets.{has_resolvent, subset_has}
use Rattle.acceptance.proofs.Rising.{opposed_tautological, resolvent_canonical, rising_length}
use Rattle.acceptance.proofs.Passing.{none_not_some, check_passed, check_passes, then_passed, then_passes, passed, passes, inside_passed, inside_passes}
use Rattle.acceptance.proofs.Entries.{stands_under, under_stands, clause_under_is, under_rising, clashes, unblocked_walk, none_failing}
use Rattle.acceptance.proofs.Pairs.{side_ordered, side_under, some_equal_under, covered_exactly, none_uncovered}
use Rattle.acceptance.proofs.Loaded.{literal_is, space_exactly}

-- ── The fields ──

-- a clause number
pub number_is : (k : ℕ) → Iff (number_ok k ≡ true) (IsNumber k)
number_is k = (λ h. (grind (arith, nat_tests), grind (arith, nat_tests)), λ h. let a = h.0 in let b = h.1 in grind (arith, nat_tests))

-- a field that is not used
pub zero_is : (k : ℕ) → Iff (eqb k 0 ≡ true) (k ≡ 0)
zero_is k = (eqb-true k 0, eq-eqb k 0)

-- a pivot that is not used
pub no_pivot_is : (z : ℤ) → Iff (eqb (nat_abs z) 0 ≡ true) (z ≡ pos 0)
no_pivot_is (pos v) = (λ h. ap pos (eqb-true v 0 h), λ e. eq-eqb v 0 (ap nat_abs e))
no_pivot_is (negsuc v) = (λ h. absurd (let e = eqb-true (suc v) 0 h in omega arith), λ e. absurd (let a : suc v ≡ 0 = ap nat_abs e in omega arith))

-- a pivot that is a variable
pub variable_is : (z : ℤ) → Iff ((literal_ok 512 z && positive z) ≡ true) ((v : ℕ) × (z ≡ pos v) × (1 ≤ v) × (v ≤ 512))
variable_is (pos v) = (
  λ h. (v, refl, grind (arith, nat_tests), grind (arith, nat_tests)),
  λ h. let e : v ≡ h.0 = ap nat_abs h.1 in let a = h.2 in let b = h.3 in grind (arith, nat_tests),
)
variable_is (negsuc v) = (
  λ h. absurd (true≢false (sym (and_parts (literal_ok 512 (negsuc v)) false h).1)),
  λ h. absurd (true≢false (sym (ap positive h.1))),
)

-- the next of the fields
field_passed : (f : Field) (fs : List Field) (b : Bool) (bs : List Bool) → first_wrong (f ∷ fs) (b ∷ bs) ≡ None → (b ≡ true) × (first_wrong fs bs ≡ None)
field_passed f fs true bs h = (refl, h)
field_passed f fs false bs h = absurd (none_not_some f (sym h))

field_passes : (f : Field) (fs : List Field) (b : Bool) (bs : List Bool) → b ≡ true → first_wrong fs bs ≡ None → first_wrong (f ∷ fs) (b ∷ bs) ≡ None
field_passes f fs b bs e h = cond-true b (first_wrong fs bs) (Some f) e ∙ h

-- four fields after the kind
four_fields : (x y z w : Bool) (P Q R S : Type 0) → Iff (x ≡ true) P → Iff (y ≡ true) Q → Iff (z ≡ true) R → Iff (w ≡ true) S →
    Iff (inside FieldWrong (first_wrong all_fields (true ∷ (x ∷ (y ∷ (z ∷ (w ∷ [])))))) ≡ None) (P × Q × R × S)
four_fields x y z w P Q R S p q r s = (
  λ h.
      let a = field_passed field.Clause (field.Pivot ∷ (field.First ∷ (field.Second ∷ []))) x (y ∷ (z ∷ (w ∷ []))) (inside_passed FieldWrong _ h) in
      let b = field_passed field.Pivot (field.First ∷ (field.Second ∷ [])) y (z ∷ (w ∷ [])) a.1 in
      let c = field_passed field.First (field.Second ∷ []) z (w ∷ []) b.1 in
      let d = field_passed field.Second [] w [] c.1 in
      (p.0 a.0, q.0 b.0, r.0 c.0, s.0 d.0),
  λ h.
      inside_passes FieldWrong _
      (field_passes field.Clause (field.Pivot ∷ (field.First ∷ (field.Second ∷ []))) x (y ∷ (z ∷ (w ∷ []))) (p.1 h.0)
      (field_passes field.Pivot (field.First ∷ (field.Second ∷ [])) y (z ∷ (w ∷ [])) (q.1 h.1)
      (field_passes field.First (field.Second ∷ []) z (w ∷ []) (r.1 h.2)
      (field_passes field.Second [] w [] (s.1 h.3) refl)))),
)

-- a line by its five fields
abbrev pub line_of : Kind → ℕ → ℤ → ℕ → ℕ → Line
line_of k c p f g = record { kind = k; clause = c; pivot = p; first = f; second = g }

-- the fields have no fault exactly when they are in range
pub fields_exactly : (k : Kind) (c : ℕ) (p : ℤ) (f g : ℕ) → Iff (field_fault (line_of k c p f g) ≡ None) (InRange (line_of k c p f g))
fields_exactly Resolve c p f g = four_fields _ _ _ _ _ _ _ _ (number_is c) (literal_is 512 p) (number_is f) (number_is g)
fields_exactly Subsumed c p f g = four_fields _ _ _ _ _ _ _ _ (number_is c) (no_pivot_is p) (number_is f) (zero_is g)
fields_exactly Blocked c p f g = four_fields _ _ _ _ _ _ _ _ (number_is c) (literal_is 512 p) (zero_is f) (zero_is g)
fields_exactly Eliminate c p f g = four_fields _ _ _ _ _ _ _ _ (zero_is c) (variable_is p) (zero_is f) (zero_is g)

-- ── The rules ──

-- R, over the numbers and the pivot of a line
pub resolve_exactly : (n w given : ℕ) (s : List Entry) (line : Line) → ordered n w 0 s ≡ true → Iff (resolve_fault given s line ≡ None) (ObeysResolve given s line)
resolve_exactly n w given s line o =
    let i = line.first in
    let j = line.second in
    let l = line.pivot in
    let a = clause_under i s in
    let b = clause_under j s in (
      λ h.
          let p0 = passed (ltb given line.clause) (NumberNotAbove line.clause) _ h in
          let p1 = passed (stands i s) (Missing i) _ p0.1 in
          let p2 = passed (stands j s) (Missing j) _ p1.1 in
          let p3 = passed (has l a) (Lacking i) _ p2.1 in
          let p4 = passed (has (neg_ℤ l) b) (Lacking j) _ p3.1 in
          let p5 = passed (not (opposed (resolvent l a b))) (Tautology i j) _ p4.1 in
          let p6 = check_passed (leb (length (resolvent l a b)) 64) (ResolventTooWide i j) p5.1 in
          let ua = under_stands i s p1.0 in
          let ub = under_stands j s p2.0 in
          let taut = opposed_tautological n l a b (under_rising n w 0 i a s o ua) (under_rising n w 0 j b s o ub) in (
            ltb-true given line.clause p0.0,
            (
              a,
              b,
              ua,
              ub,
              p3.0,
              p4.0,
              λ t. true≢false (sym (taut.1 t) ∙ not-true (opposed (resolvent l a b)) p5.0),
              (resolvent l a b, has_resolvent l a b, leb-true (length (resolvent l a b)) 64 p6),
            ),
          ),
      λ h.
          let q = h.1 in
          let ua = q.2 in
          let ub = q.3 in
          let ea : a ≡ q.0 = clause_under_is i q.0 s ua in
          let eb : b ≡ q.1 = clause_under_is j q.1 s ub in
          let er : resolvent l a b ≡ resolvent l q.0 q.1 = ap (λ x. resolvent l x b) ea ∙ ap (resolvent l q.0) eb in
          let ra = under_rising n w 0 i q.0 s o ua in
          let rb = under_rising n w 0 j q.1 s o ub in
          let plain : opposed (resolvent l q.0 q.1) ≡ false =
          ⊎_elim
          (λ (t : opposed (resolvent l q.0 q.1) ≡ true). absurd (q.6 ((opposed_tautological n l q.0 q.1 ra rb).0 t)))
          (λ (t : opposed (resolvent l q.0 q.1) ≡ false). t)
          (cases_Bool (opposed (resolvent l q.0 q.1))) in
          let shorter = rising_length n 0 (resolvent l q.0 q.1) q.7.0 (resolvent_canonical n l q.0 q.1 ra rb plain) (λ z m. (q.7.1 z).1 ((has_resolvent l q.0 q.1 z).0 m)) in
          let few = q.7.2 in
          let bound : length (resolvent l a b) ≤ 64 = let e = ap length er in omega arith in
          passes (ltb given line.clause) (NumberNotAbove line.clause) _ (lt-ltb given line.clause h.0)
          (passes (stands i s) (Missing i) _ (stands_under i q.0 s ua)
          (passes (stands j s) (Missing j) _ (stands_under j q.1 s ub)
          (passes (has l a) (Lacking i) _ (ap (has l) ea ∙ q.4)
          (passes (has (neg_ℤ l) b) (Lacking j) _ (ap (has (neg_ℤ l)) eb ∙ q.5)
          (passes (not (opposed (resolvent l a b))) (Tautology i j) _ (not_from_false (opposed (resolvent l a b)) (ap opposed er ∙ plain))
          (check_passes (leb (length (resolvent l a b)) 64) (ResolventTooWide i j) (le-leb (length (resolvent l a b)) 64 bound))))))),
    )

-- S
pub subsumed_exactly : (s : List Entry) (line : Line) → Iff (subsumed_fault s line ≡ None) (ObeysSubsumed s line)
subsumed_exactly s line =
    let k = line.clause in
    let i = line.first in
    let c = clause_under k s in
    let d = clause_under i s in (
      λ h.
          let p0 = passed (stands k s) (Missing k) _ h in
          let p1 = passed (stands i s) (Missing i) _ p0.1 in
          let p2 = and_parts (not (eqb k i)) (subset d c) (check_passed (not (eqb k i) && subset d c) (NotSubsumed k i) p1.1) in
          (c, d, under_stands k s p0.0, under_stands i s p1.0, eqb-false k i (not-true (eqb k i) p2.0), (subset_has d c).0 p2.1),
      λ h.
          let ec : c ≡ h.0 = clause_under_is k h.0 s h.2 in
          let ed : d ≡ h.1 = clause_under_is i h.1 s h.3 in
          let sub : subset d c ≡ true = ap (λ x. subset x c) ed ∙ ap (subset h.1) ec ∙ (subset_has h.1 h.0).1 h.5 in
          passes (stands k s) (Missing k) _ (stands_under k h.0 s h.2)
          (passes (stands i s) (Missing i) _ (stands_under i h.1 s h.3)
          (check_passes (not (eqb k i) && subset d c) (NotSubsumed k i) (and_from (not (eqb k i)) (subset d c) (not_from_false (eqb k i) (ne_eqb k i h.4)) sub))),
    )

-- a clause passes rule B exactly when its resolvent, if it holds the negated pivot, is tautological
pub clashes_exactly : (n : ℕ) (l : ℤ) (c d : List ℤ) → rising n 0 c ≡ true → rising n 0 d ≡ true → Iff (clashes l c d ≡ true) (In (neg_ℤ l) d → Tautological l c d)
clashes_exactly n l c d rc rd =
    let taut = opposed_tautological n l c d rc rd in (
      λ h m.
          ⊎_elim
          (λ (t : not (has (neg_ℤ l) d) ≡ true). absurd (true≢false (sym m ∙ not-true (has (neg_ℤ l) d) t)))
          (λ (t : opposed (resolvent l c d) ≡ true). taut.0 t)
          (or_cases (not (has (neg_ℤ l) d)) (opposed (resolvent l c d)) h),
      λ f.
          ⊎_elim
          (λ (m : has (neg_ℤ l) d ≡ true). or_right (not (has (neg_ℤ l) d)) (opposed (resolvent l c d)) (taut.1 (f m)))
          (λ (m : has (neg_ℤ l) d ≡ false). or_left (not (has (neg_ℤ l) d)) (opposed (resolvent l c d)) (not_from_false (has (neg_ℤ l) d) m))
          (cases_Bool (has (neg_ℤ l) d)),
    )

-- B
pub blocked_exactly : (n w : ℕ) (s : List Entry) (line : Line) → ordered n w 0 s ≡ true → Iff (blocked_fault s line ≡ None) (ObeysBlocked s line)
blocked_exactly n w s line o =
    let k = line.clause in
    let l = line.pivot in
    let c = clause_under k s in (
      λ h.
          let p0 = passed (stands k s) (Missing k) _ h in
          let p1 = passed (has l c) (Lacking k) _ p0.1 in
          let p2 = inside_passed NotBlocked (first_unblocked l c s) p1.1 in
          let uc = under_stands k s p0.0 in
          let all = (none_failing n w 0 (clashes l c) s o).0 (sym (unblocked_walk l c s) ∙ p2) in
          (c, uc, p1.0, λ i d u m. (clashes_exactly n l c d (under_rising n w 0 k c s o uc) (under_rising n w 0 i d s o u)).0 (all i d u) m),
      λ h.
          let uc = h.1 in
          let ec : c ≡ h.0 = clause_under_is k h.0 s uc in
          let all = (none_failing n w 0 (clashes l h.0) s o).1
          (λ i d u. (clashes_exactly n l h.0 d (under_rising n w 0 k h.0 s o uc) (under_rising n w 0 i d s o u)).1 (h.3 i d u)) in
          passes (stands k s) (Missing k) _ (stands_under k h.0 s uc)
          (passes (has l c) (Lacking k) _ (ap (has l) ec ∙ h.2)
          (inside_passes NotBlocked (first_unblocked l c s) (ap (λ x. first_unblocked l x s) ec ∙ unblocked_walk l h.0 s ∙ all))),
    )

-- E
pub eliminate_exactly : (n w : ℕ) (s : List Entry) (line : Line) → ordered n w 0 s ≡ true → Iff (eliminate_fault s line ≡ None) (ObeysEliminate s line)
eliminate_exactly n w s line o =
    let v = line.pivot in
    let ps = side v s in
    let ns = side (neg_ℤ v) s in
    let walk = none_uncovered n w 0 v s ps ns (side_ordered n w 0 v s o) (side_ordered n w 0 (neg_ℤ v) s o) in
    let exact = λ (i j : ℕ) (c d : List ℤ) (u : Stands s i c) (x : Stands s j d). covered_exactly n w s v c d o (under_rising n w 0 i c s o u) (under_rising n w 0 j d s o x) in (
      λ h i j c d u m x k.
          let all = walk.0 (inside_passed _ (first_uncovered v s ps ns) h) in
          (exact i j c d u x).0 (all i j c d ((side_under n w 0 i v c s o).1 (u, m)) ((side_under n w 0 j (neg_ℤ v) d s o).1 (x, k))),
      λ f.
          inside_passes _ (first_uncovered v s ps ns)
          (walk.1 (λ i j c d u x.
          let p = (side_under n w 0 i v c s o).0 u in
          let q = (side_under n w 0 j (neg_ℤ v) d s o).0 x in
          (exact i j c d p.0 q.0).1 (f i j c d p.0 p.1 q.0 q.1))),
    )

-- the rule of every kind
pub rules_exactly : (n w given : ℕ) (s : List Entry) (k : Kind) (c : ℕ) (p : ℤ) (f g : ℕ) → ordered n w 0 s ≡ true →
    Iff (rule_fault given s (line_of k c p f g) ≡ None) (Obeys given s (line_of k c p f g))
rules_exactly n w given s Resolve c p f g o = resolve_exactly n w given s (line_of Resolve c p f g) o
rules_exactly n w given s Subsumed c p f g o = subsumed_exactly s (line_of Subsumed c p f g)
rules_exactly n w given s Blocked c p f g o = blocked_exactly n w s (line_of Blocked c p f g) o
rules_exactly n w given s Eliminate c p f g o = eliminate_exactly n w s (line_of Eliminate c p f g) o

-- ── The space, and whole lines ──

-- the reconstruction stack takes clauses exactly when it has the space
pub room_exactly : (room : Room) (saved new : List Saved) → Iff (inside Stack (save_fault room saved new) ≡ None) (HasRoom room saved new)
room_exactly room saved new = (
  λ h.
      let p0 = passed (leb (length saved + length new) room.entries) EntriesFull _ (inside_passed Stack (save_fault room saved new) h) in
      let p1 = check_passed (leb (saved_literals saved + saved_literals new) room.literals) LiteralsFull p0.1 in
      (leb-true (length saved + length new) room.entries p0.0, leb-true (saved_literals saved + saved_literals new) room.literals p1),
  λ h.
      inside_passes Stack (save_fault room saved new)
      (passes (leb (length saved + length new) room.entries) EntriesFull _ (le-leb (length saved + length new) room.entries h.0)
      (check_passes (leb (saved_literals saved + saved_literals new) room.literals) LiteralsFull (le-leb (saved_literals saved + saved_literals new) room.literals h.1))),
)

-- the space of every kind of line
pub line_space_exactly : (l : Limits) (room : Room) (s : List Entry) (saved : List Saved) (k : Kind) (c : ℕ) (p : ℤ) (f g : ℕ) →
    Iff (space_fault l room s saved (line_of k c p f g) ≡ None) (Space l room s saved (line_of k c p f g))
line_space_exactly l room s saved Resolve c p f g =
    let x : Entry = record { number = c; lits = line_resolvent s (line_of Resolve c p f g) } in
    let e = space_exactly l s x in
    (λ h. e.0 (inside_passed Database (put_fault l s x) h), λ h. inside_passes Database (put_fault l s x) (e.1 h))
line_space_exactly l room s saved Subsumed c p f g = (λ _. tt, λ _. refl)
line_space_exactly l room s saved Blocked c p f g = room_exactly room saved (line_saves s (line_of Blocked c p f g))
line_space_exactly l room s saved Eliminate c p f g = room_exactly room saved (line_saves s (line_of Eliminate c p f g))

-- a line has no fault exactly when it should be accepted
pub lines_exactly : LinesExactly
lines_exactly n l room given s saved line o =
    let k = line.kind in
    let a = fields_exactly k line.clause line.pivot line.first line.second in
    let b = rules_exactly n 64 given s k line.clause line.pivot line.first line.second o in
    let c = line_space_exactly l room s saved k line.clause line.pivot line.first line.second in (
      λ h.
          let p = then_passed (field_fault line) (rule_fault given s line then space_fault l room s saved line) h in
          let q = then_passed (rule_fault given s line) (space_fault l room s saved line) p.1 in
          (a.0 p.0, b.0 q.0, c.0 q.1),
      λ h.
          then_passes (field_fault line) (rule_fault given s line then space_fault l room s saved line) (a.1 h.0)
          (then_passes (rule_fault given s line) (space_fault l room s saved line) (b.1 h.1) (c.1 h.2)),
    )

-- 1 is told exactly when the empty clause stands
pub empty_exactly : EmptyExactly
empty_exactly n s o =
    let e = some_equal_under n 64 0 [] s o in
    ⊎_elim
    (λ (t : some_equal [] s ≡ true). inl (cond-true (some_equal [] s) 1 0 t, e.0 t))
    (λ (t : some_equal [] s ≡ false). inr (cond-false (some_equal [] s) 1 0 t, λ k u. true≢false (sym (e.1 (k, u)) ∙ t)))
    (cases_Bool (some_equal [] s))
