-- Where the refusal of an assignment points.
use Rattle.std.proofs.Common.{◌≡◌, ℕ, ◌-◌, true, eqb, leb, List, length, get_or, Some, sym, refl, ap, ◌∙◌, arith}
use Rattle.std.proofs.lemmas.Bool.{and_parts, and_from, leb-false, lt-leb, eqb-true, eq-eqb}
use Rattle.words.specs.declared.fault.SessionFault.TheVariants as fault
use Rattle.words.specs.Assignments.{all_bits, assignment, met}
use Rattle.words.specs.Checks.{inside}
use Rattle.words.specs.Standing.{Entry, ordered}
use Rattle.rules.specs.Satisfying.{Iff}
use Rattle.rules.specs.Restoring.{bad_byte, first_unmet, restore_fault}
use Rattle.acceptance.specs.Places.{Lowest, NoBit, UnmetUnder}
use Rattle.acceptance.proofs.Passing.{inside_passes, past, past_inside, found, finds, inside_found, reaches, reaches_past, byte_walk}
use Rattle.acceptance.proofs.Entries.{lowest_like, walk_exactly, unmet_walk}
use Rattle.acceptance.proofs.Loaded.{no_bad_byte}
use Rattle.acceptance.proofs.Origins.{sort_of, never_inside}
use Rattle.acceptance.proofs.Positions.{FailsAt, positions_exactly}

-- an assignment with a byte above 1
pub byte_place : (n : ℕ) (s : List Entry) (a : List ℕ) (i : ℕ) → Iff (restore_fault n s a ≡ Some (fault.AssignmentByte i)) ((length a ≡ n) × Lowest (NoBit a) i)
byte_place n s a i =
    let x = fault.AssignmentByte i in
    let rest = inside fault.Unmet (first_unmet a s) in
    let walk = byte_walk 0 a in
    let exact = positions_exactly (λ (b : ℕ). leb b 1) 0 a i in
    let like : (j : ℕ) → Iff (FailsAt (λ (b : ℕ). leb b 1) 0 a j) (NoBit a j) = λ j.
    (λ y. (y.0, leb-false (get_or a (j - 1) 0) 1 y.1), λ y. (y.0, lt-leb (get_or a (j - 1) 0) 1 y.1)) in (
      λ h.
          let p = past (eqb (length a) n) (fault.AssignmentLength (length a)) x _ (λ e. let z : 0 ≡ 6 = ap sort_of e in omega arith) h in
          let q = found (inside fault.AssignmentByte (bad_byte 0 a)) rest x (λ e. never_inside 6 fault.Unmet (first_unmet a s) (λ _ z. omega arith) x e refl) p.1 in
          let w = inside_found fault.AssignmentByte x (bad_byte 0 a) q in
          let v : w.0 ≡ i = let e = w.2 in cc in
          (eqb-true (length a) n p.0, lowest_like (FailsAt (λ (b : ℕ). leb b 1) 0 a) (NoBit a) i like (exact.0 (sym walk ∙ w.1 ∙ ap Some v))),
      λ y.
          reaches_past (eqb (length a) n) (fault.AssignmentLength (length a)) x _ (eq-eqb (length a) n y.0)
          (finds (inside fault.AssignmentByte (bad_byte 0 a)) rest x
          (ap (inside fault.AssignmentByte) (walk ∙ exact.1 (lowest_like (NoBit a) (FailsAt (λ (b : ℕ). leb b 1) 0 a) i (λ j. ((like j).1, (like j).0)) y.1)))),
    )

-- an assignment that does not meet what stands
pub unmet_place : (n m : ℕ) (s : List Entry) (a : List ℕ) (k : ℕ) → ordered n 64 0 s ≡ true →
    Iff (restore_fault m s a ≡ Some (fault.Unmet k)) ((assignment m a ≡ true) × Lowest (UnmetUnder s a) k)
unmet_place n m s a k o =
    let x = fault.Unmet k in
    let walk = unmet_walk a s in
    let exact = walk_exactly n 64 (met a) s k o in (
      λ h.
          let p = past (eqb (length a) m) (fault.AssignmentLength (length a)) x _ (λ e. let z : 0 ≡ 7 = ap sort_of e in omega arith) h in
          let q = past_inside fault.AssignmentByte x (bad_byte 0 a) (inside fault.Unmet (first_unmet a s)) (λ i e. let z : 6 ≡ 7 = ap sort_of e in omega arith) p.1 in
          let w = inside_found fault.Unmet x (first_unmet a s) q.1 in
          let v : w.0 ≡ k = let e = w.2 in cc in
          (and_from (eqb (length a) m) (all_bits a) p.0 ((no_bad_byte 0 a).0 q.0), exact.0 (sym walk ∙ w.1 ∙ ap Some v)),
      λ y.
          let p = and_parts (eqb (length a) m) (all_bits a) y.0 in
          reaches_past (eqb (length a) m) (fault.AssignmentLength (length a)) x _ p.0
          (reaches (inside fault.AssignmentByte (bad_byte 0 a)) (inside fault.Unmet (first_unmet a s)) x (inside_passes fault.AssignmentByte (bad_byte 0 a) ((no_bad_byte 0 a).1 p.1))
          (ap (inside fault.Unmet) (walk ∙ exact.1 y.1))),
    )
