-- Lists and assignments: no fault exactly when they should be accepted; and the space of database and reconstruction stack.
use Rattle.std.proofs.Common.{◌≡◌, ℕ, ◌+◌, ◌<◌, ◌≤◌, true, false, not, eqb, ltb, leb, List, [], ◌∷◌, length, ℤ, nat_abs, Some, None, sym, refl, ap, ◌∙◌, inl, inr, ⊎_elim, arith}
use Rattle.std.proofs.lemmas.Bool.{cases_Bool, cases_lt, true≢false, false≢true, cond-true, cond-false, or_right, and_parts, and_from, leb-true, le-leb, ltb-true, lt-ltb, le-ltb}
use Rattle.std.proofs.lemmas.Bool.Decides.{nat_tests}
use Rattle.words.specs.declared.limits.Limits.{Limits}
use Rattle.words.specs.declared.fault.SessionFault.TheVariants.{LoadedFull, LiteralBeyond, TooManyLiterals, AssignmentLength, AssignmentByte, Unmet, Database}
use Rattle.words.specs.declared.fault.DatabaseFault.TheVariants.{NumberTaken, VariableBeyond, TooWide, ClausesFull, LiteralsFull}
use Rattle.words.specs.Assignments.{all_bits, met, all_met}
use Rattle.words.specs.Checks.{inside}
use Rattle.words.specs.Clauses.{has, opposed, within, insert, gathered, too_many_at}
use Rattle.words.specs.Literals.{same, literal_ok}
use Rattle.words.specs.Standing.{Entry, stands, clauses, literals, put_fault}
use Rattle.rules.specs.Satisfying.{Iff}
use Rattle.rules.specs.Restoring.{bad_byte, first_unmet}
use Rattle.rules.specs.Loading.{beyond_at, load_entry}
use Rattle.rules.specs.Obeying.{HasSpace, IsLiteral}
use Rattle.acceptance.specs.Exactly.{ListsExactly, RestoringExactly}
use Rattle.acceptance.proofs.Sets.{cases_same, has_first, has_gathered, opposed_pair}
use Rattle.acceptance.proofs.Rising.{Literals, literals_nonzero, gathered_rising, rising_length}
use Rattle.acceptance.proofs.Passing.{none_not_some, check_passed, check_passes, then_passed, then_passes, passed, passes, inside_passed, inside_passes}
use Rattle.acceptance.proofs.Entries.{absent_under}

-- ── The space of a database ──

-- no variable is beyond n exactly when that of no literal is
pub within_has : (n : ℕ) (xs : List ℤ) → Iff (within n xs ≡ true) ((z : ℤ) → has z xs ≡ true → nat_abs z ≤ n)
within_has n [] = (λ _ z h. absurd (false≢true h), λ _. refl)
within_has n (x ∷ xs) =
    let ih = within_has n xs in (
      λ w z h.
          ⊎_elim
          (λ (e : x ≡ z). let a : nat_abs x ≡ nat_abs z = ap nat_abs e in grind (arith, nat_tests))
          (λ (e : same x z ≡ false). ih.0 (grind (arith, nat_tests)) z (grind arith))
          (cases_same x z),
      λ f.
          let a = f x (has_first x xs) in
          let b = ih.1 (λ z h. f z (or_right (same x z) (has z xs) h)) in
          grind (arith, nat_tests),
    )

-- a database takes a clause exactly when it has the space
pub space_exactly : (l : Limits) (s : List Entry) (e : Entry) → Iff (put_fault l s e ≡ None) (HasSpace l s e.number e.lits)
space_exactly l s e =
    let absent = absent_under e.number s in
    let in-range = within_has l.variables e.lits in (
      λ h.
          let p0 = passed (not (stands e.number s)) NumberTaken _ h in
          let p1 = passed (within l.variables e.lits) VariableBeyond _ p0.1 in
          let p2 = passed (leb (length e.lits) l.width) TooWide _ p1.1 in
          let p3 = passed (ltb (length s) l.clauses) ClausesFull _ p2.1 in
          let p4 = check_passed (leb (literals s + length e.lits) l.literals) LiteralsFull p3.1 in
          (absent.0 p0.0, in-range.0 p1.0, leb-true (length e.lits) l.width p2.0, ltb-true (length s) l.clauses p3.0, leb-true (literals s + length e.lits) l.literals p4),
      λ h.
          passes (not (stands e.number s)) NumberTaken _ (absent.1 h.0)
          (passes (within l.variables e.lits) VariableBeyond _ (in-range.1 h.1)
          (passes (leb (length e.lits) l.width) TooWide _ (le-leb (length e.lits) l.width h.2)
          (passes (ltb (length s) l.clauses) ClausesFull _ (lt-ltb (length s) l.clauses h.3)
          (check_passes (leb (literals s + length e.lits) l.literals) LiteralsFull (le-leb (literals s + length e.lits) l.literals h.4))))),
    )

-- ── Lists ──

-- a literal of n variables
pub literal_is : (n : ℕ) (z : ℤ) → Iff (literal_ok n z ≡ true) (IsLiteral n z)
literal_is n z = (λ h. (grind (arith, nat_tests), grind (arith, nat_tests)), λ h. let a = h.0 in let b = h.1 in grind (arith, nat_tests))

-- no position is at fault exactly when every number is a literal
pub none_beyond : (n i : ℕ) (zs : List ℤ) → Iff (beyond_at n i zs ≡ None) (Literals n zs)
none_beyond n i [] = (λ _ z h. absurd (false≢true h), λ _. refl)
none_beyond n i (x ∷ xs) =
    let ih = none_beyond n (i + 1) xs in (
      λ b z h.
          ⊎_elim
          (λ (o : literal_ok n x ≡ true).
          ⊎_elim
          (λ (e : x ≡ z). ap (literal_ok n) (sym e) ∙ o)
          (λ (e : same x z ≡ false). ih.0 (sym (cond-true (literal_ok n x) (beyond_at n (i + 1) xs) (Some (i + 1)) o) ∙ b) z (grind arith))
          (cases_same x z))
          (λ (o : literal_ok n x ≡ false). absurd (none_not_some (i + 1) (sym b ∙ cond-false (literal_ok n x) (beyond_at n (i + 1) xs) (Some (i + 1)) o)))
          (cases_Bool (literal_ok n x)),
      λ f.
          cond-true (literal_ok n x) (beyond_at n (i + 1) xs) (Some (i + 1)) (f x (has_first x xs)) ∙
          ih.1 (λ z h. f z (or_right (same x z) (has z xs) h)),
    )

-- a set does not lose literals as one is put in
pub insert_longer : (z : ℤ) (xs : List ℤ) → length xs ≤ length (insert z xs)
insert_longer z [] = omega arith
insert_longer z (x ∷ xs) = let ih = insert_longer z xs in grind (arith, nat_tests)

-- nor as those of a list are
pub gathered_longer : (before zs : List ℤ) → length before ≤ length (gathered before zs)
gathered_longer before [] = omega arith
gathered_longer before (x ∷ xs) = let a = insert_longer x before in let ih = gathered_longer (insert x before) xs in omega arith

-- no position holds one literal too many exactly when the set is small enough
pub none_too_many : (w i : ℕ) (before zs : List ℤ) → length before ≤ w → Iff (too_many_at w i before zs ≡ None) (length (gathered before zs) ≤ w)
none_too_many w i before [] h = (λ _. h, λ _. refl)
none_too_many w i before (x ∷ xs) h =
    ⊎_elim
    (λ (g : w < length (insert x before)).
    let t = lt-ltb w (length (insert x before)) g in
    let longer = gathered_longer (insert x before) xs in (
      λ e. absurd (none_not_some (i + 1) (sym e ∙ cond-true (ltb w (length (insert x before))) (Some (i + 1)) (too_many_at w (i + 1) (insert x before) xs) t)),
      λ e. absurd (omega arith),
    ))
    (λ (g : length (insert x before) ≤ w).
    let t = cond-false (ltb w (length (insert x before))) (Some (i + 1)) (too_many_at w (i + 1) (insert x before) xs) (le-ltb w (length (insert x before)) g) in
    let ih = none_too_many w (i + 1) (insert x before) xs g in
    (λ e. ih.0 (sym t ∙ e), λ e. t ∙ ih.1 e))
    (cases_lt w (length (insert x before)))

-- a list has no fault exactly when it should be accepted
pub lists_exactly : ListsExactly
lists_exactly n k l s zs =
    let range = none_beyond n 0 zs in
    let few = none_too_many 64 0 [] zs (omega arith) in
    let space = space_exactly l s (load_entry k zs) in (
      λ h.
          let p0 = passed (ltb k 1024) LoadedFull _ h in
          let p1 = then_passed (inside LiteralBeyond (beyond_at n 0 zs)) _ p0.1 in
          let ok = range.0 (inside_passed LiteralBeyond (beyond_at n 0 zs) p1.0) in
          let nonzero = literals_nonzero n zs ok in (
            ltb-true k 1024 p0.0,
            λ z m. (literal_is n z).0 (ok z m),
            ⊎_elim
                (λ (o : opposed zs ≡ true). inl ((opposed_pair zs nonzero).0 o))
                (λ (o : opposed zs ≡ false).
                let p2 = then_passed (inside TooManyLiterals (too_many_at 64 0 [] zs)) (inside Database (put_fault l s (load_entry k zs))) (sym (cond-false (opposed zs) None _ o) ∙ p1.1) in
                inr (gathered [] zs, has_gathered zs, few.0 (inside_passed TooManyLiterals (too_many_at 64 0 [] zs) p2.0), space.0 (inside_passed Database (put_fault l s (load_entry k zs)) p2.1)))
                (cases_Bool (opposed zs)),
          ),
      λ h.
          let ok : Literals n zs = λ z m. (literal_is n z).1 (h.1 z m) in
          let nonzero = literals_nonzero n zs ok in
          passes (ltb k 1024) LoadedFull _ (lt-ltb k 1024 h.0)
          (then_passes (inside LiteralBeyond (beyond_at n 0 zs)) _ (inside_passes LiteralBeyond (beyond_at n 0 zs) (range.1 ok))
          (⊎_elim
          (λ (o : opposed zs ≡ true). cond-true (opposed zs) None _ o)
          (λ (o : opposed zs ≡ false).
          cond-false (opposed zs) None _ o ∙
          ⊎_elim
          (λ q. absurd (true≢false (sym ((opposed_pair zs nonzero).1 q) ∙ o)))
          (λ q.
          let shorter = rising_length n 0 (gathered [] zs) q.0 (gathered_rising n zs ok o) (λ z m. (q.1 z).1 ((has_gathered zs z).0 m)) in
          let bound = q.2 in
          then_passes (inside TooManyLiterals (too_many_at 64 0 [] zs)) (inside Database (put_fault l s (load_entry k zs)))
          (inside_passes TooManyLiterals (too_many_at 64 0 [] zs) (few.1 (omega arith)))
          (inside_passes Database (put_fault l s (load_entry k zs)) (space.1 q.3)))
          h.2)
          (cases_Bool (opposed zs)))),
    )

-- ── Assignments ──

-- no position is at fault exactly when every byte is 0 or 1
pub no_bad_byte : (i : ℕ) (a : List ℕ) → Iff (bad_byte i a ≡ None) (all_bits a ≡ true)
no_bad_byte i [] = (λ _. refl, λ _. refl)
no_bad_byte i (b ∷ bs) =
    let ih = no_bad_byte (i + 1) bs in
    ⊎_elim
    (λ (t : leb b 1 ≡ true).
    let e = cond-true (leb b 1) (bad_byte (i + 1) bs) (Some (i + 1)) t in
    (λ h. and_from (leb b 1) (all_bits bs) t (ih.0 (sym e ∙ h)), λ h. e ∙ ih.1 (and_parts (leb b 1) (all_bits bs) h).1))
    (λ (t : leb b 1 ≡ false). (
      λ h. absurd (none_not_some (i + 1) (sym h ∙ cond-false (leb b 1) (bad_byte (i + 1) bs) (Some (i + 1)) t)),
      λ h. absurd (true≢false (sym (and_parts (leb b 1) (all_bits bs) h).0 ∙ t)),
    ))
    (cases_Bool (leb b 1))

-- no number is at fault exactly when every clause is met
pub none_unmet : (a : List ℕ) (s : List Entry) → Iff (first_unmet a s ≡ None) (all_met a (clauses s) ≡ true)
none_unmet a [] = (λ _. refl, λ _. refl)
none_unmet a (e ∷ es) =
    let ih = none_unmet a es in
    ⊎_elim
    (λ (t : met a e.lits ≡ true).
    let q = cond-true (met a e.lits) (first_unmet a es) (Some e.number) t in
    (λ h. and_from (met a e.lits) (all_met a (clauses es)) t (ih.0 (sym q ∙ h)), λ h. q ∙ ih.1 (and_parts (met a e.lits) (all_met a (clauses es)) h).1))
    (λ (t : met a e.lits ≡ false). (
      λ h. absurd (none_not_some e.number (sym h ∙ cond-false (met a e.lits) (first_unmet a es) (Some e.number) t)),
      λ h. absurd (true≢false (sym (and_parts (met a e.lits) (all_met a (clauses es)) h).0 ∙ t)),
    ))
    (cases_Bool (met a e.lits))

-- an assignment has no fault exactly when it is one and meets what stands
pub restoring_exactly : RestoringExactly
restoring_exactly n s a =
    let bits = no_bad_byte 0 a in
    let all = none_unmet a s in (
      λ h.
          let p0 = passed (eqb (length a) n) (AssignmentLength (length a)) _ h in
          let p1 = then_passed (inside AssignmentByte (bad_byte 0 a)) (inside Unmet (first_unmet a s)) p0.1 in
          (and_from (eqb (length a) n) (all_bits a) p0.0 (bits.0 (inside_passed AssignmentByte (bad_byte 0 a) p1.0)), all.0 (inside_passed Unmet (first_unmet a s) p1.1)),
      λ h.
          let q = and_parts (eqb (length a) n) (all_bits a) h.0 in
          passes (eqb (length a) n) (AssignmentLength (length a)) _ q.0
          (then_passes (inside AssignmentByte (bad_byte 0 a)) (inside Unmet (first_unmet a s)) (inside_passes AssignmentByte (bad_byte 0 a) (bits.1 q.1))
          (inside_passes Unmet (first_unmet a s) (all.1 h.1))),
    )
