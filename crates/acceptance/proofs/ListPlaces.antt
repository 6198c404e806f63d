-- Where the refusal of a list points.
use Rattle.std.proofs.Common.{◌≡◌, ℕ, zero, suc, ◌+◌, ◌-◌, ◌<◌, ◌≤◌, true, false, cond, ltb, List, [], ◌∷◌, length, get_or, take, ℤ, pos, neg_ℤ, Some, None, Option, sym, refl, ap, ◌∙◌, ⊎_elim, arith}
use Rattle.std.proofs.lemmas.List.{take_all}
use Rattle.std.proofs.lemmas.Bool.{cases_Bool, cases_lt, true≢false, false≢true, cond-true, cond-false, or_cases, or_left, or_right, ltb-true, lt-ltb, le-ltb}
use Rattle.std.proofs.lemmas.Bool.Decides.{nat_tests}
use Rattle.words.specs.declared.limits.Limits.{Limits}
use Rattle.words.specs.declared.fault.SessionFault.{SessionFault}
use Rattle.words.specs.declared.fault.SessionFault.TheVariants as fault
use Rattle.words.specs.Checks.{◌then◌, inside}
use Rattle.words.specs.Clauses.{has, opposed, rising, insert, gathered, too_many_at}
use Rattle.words.specs.Literals.{same, literal_ok}
use Rattle.words.specs.Standing.{Entry, put_fault}
use Rattle.rules.specs.Satisfying.{Iff}
use Rattle.rules.specs.Loading.{beyond_at, load_entry, load_fault}
use Rattle.rules.specs.Obeying.{In, IsLiteral, HoldsOppositePair, SameLiterals}
use Rattle.acceptance.specs.Places.{Lowest, Beyond, Crowded}
use Rattle.acceptance.proofs.Sets.{has_gathered, opposed_some, opposed_pair}
use Rattle.acceptance.proofs.Rising.{Literals, literals_nonzero, gathered_rising, rising_length}
use Rattle.acceptance.proofs.Passing.{none_not_some, some_injective, option_cases, inside_passes, past, past_inside, found, finds, inside_found, reaches, reaches_past, beyond_walk}
use Rattle.acceptance.proofs.Entries.{lowest_unique, lowest_like}
use Rattle.acceptance.proofs.Loaded.{literal_is, none_beyond, gathered_longer, none_too_many}
use Rattle.acceptance.proofs.Origins.{sort_of, Never, never_none, never_inside, never_then}
use Rattle.acceptance.proofs.Positions.{FailsAt, positions_exactly}

-- ── Lists ──

-- the first number that is no literal
pub beyond_exactly : (n : ℕ) (zs : List ℤ) (i : ℕ) → Iff (beyond_at n 0 zs ≡ Some i) (Lowest (Beyond n zs) i)
beyond_exactly n zs i =
    let walk = beyond_walk n 0 zs in
    let exact = positions_exactly (literal_ok n) (pos 0) zs i in
    let like : (j : ℕ) → Iff (FailsAt (literal_ok n) (pos 0) zs j) (Beyond n zs j) = λ j.
    let z = get_or zs (j - 1) (pos 0) in (
      λ x. (x.0, λ l. true≢false (sym ((literal_is n z).1 l) ∙ x.1)),
      λ x. (
        x.0,
        ⊎_elim
            (λ (t : literal_ok n z ≡ true). absurd (x.1 ((literal_is n z).0 t)))
            (λ (t : literal_ok n z ≡ false). t)
            (cases_Bool (literal_ok n z)),
      ),
    ) in (
      λ e. lowest_like (FailsAt (literal_ok n) (pos 0) zs) (Beyond n zs) i like (exact.0 (sym walk ∙ e)),
      λ a. walk ∙ exact.1 (lowest_like (Beyond n zs) (FailsAt (literal_ok n) (pos 0) zs) i (λ j. ((like j).1, (like j).0)) a),
    )

-- the checks of a list after its literals
abbrev after_literals : ℕ → Limits → List Entry → List ℤ → Option SessionFault
after_literals k l s zs = cond (opposed zs) None (inside fault.TooManyLiterals (too_many_at 64 0 [] zs) then inside fault.Database (put_fault l s (load_entry k zs)))

-- they do not speak of a single number
never_after : (k : ℕ) (l : Limits) (s : List Entry) (zs : List ℤ) → Never 4 (after_literals k l s zs)
never_after k l s zs =
    ⊎_elim
    (λ (o : opposed zs ≡ true) f e. never_none 4 f (sym (cond-true (opposed zs) None _ o) ∙ e))
    (λ (o : opposed zs ≡ false) f e.
    never_then 4 (inside fault.TooManyLiterals (too_many_at 64 0 [] zs)) (inside fault.Database (put_fault l s (load_entry k zs)))
    (never_inside 4 fault.TooManyLiterals (too_many_at 64 0 [] zs) (λ _ q. omega arith))
    (never_inside 4 fault.Database (put_fault l s (load_entry k zs)) (λ _ q. omega arith))
    f (sym (cond-false (opposed zs) None _ o) ∙ e))
    (cases_Bool (opposed zs))

-- a list with a number that is no literal
pub beyond_place : (n k : ℕ) (l : Limits) (s : List Entry) (zs : List ℤ) (i : ℕ) → Iff (load_fault n k l s zs ≡ Some (fault.LiteralBeyond i)) ((k < 1024) × Lowest (Beyond n zs) i)
beyond_place n k l s zs i =
    let x = fault.LiteralBeyond i in
    let exact = beyond_exactly n zs i in (
      λ h.
          let a = past (ltb k 1024) fault.LoadedFull x _ (λ e. let z : 0 ≡ 4 = ap sort_of e in omega arith) h in
          let b = found (inside fault.LiteralBeyond (beyond_at n 0 zs)) (after_literals k l s zs) x (λ e. never_after k l s zs x e refl) a.1 in
          let w = inside_found fault.LiteralBeyond x (beyond_at n 0 zs) b in
          let v : w.0 ≡ i = let e = w.2 in cc in
          (ltb-true k 1024 a.0, exact.0 (w.1 ∙ ap Some v)),
      λ a.
          reaches_past (ltb k 1024) fault.LoadedFull x _ (lt-ltb k 1024 a.0)
          (finds (inside fault.LiteralBeyond (beyond_at n 0 zs)) (after_literals k l s zs) x (ap (inside fault.LiteralBeyond) (exact.1 a.1))),
    )

-- ── Lists with too many literals ──

-- one literal put in is one more at most
insert_one_more : (z : ℤ) (xs : List ℤ) → length (insert z xs) ≤ length xs + 1
insert_one_more z [] = omega arith
insert_one_more z (x ∷ xs) = let ih = insert_one_more z xs in grind (arith, nat_tests)

-- more numbers of a list are no fewer different literals
gathered_grows : (before zs : List ℤ) (q j : ℕ) → q ≤ j → length (gathered before (take q zs)) ≤ length (gathered before (take j zs))
gathered_grows before zs zero j h = gathered_longer before (take j zs)
gathered_grows before [] (suc q) j h = gathered_longer before (take j [])
gathered_grows before (x ∷ xs) (suc q) zero h = absurd (omega arith)
gathered_grows before (x ∷ xs) (suc q) (suc j) h = gathered_grows (insert x before) xs q j (omega arith)

-- a part of a list has no more different literals than the list
gathered_part : (zs : List ℤ) (q : ℕ) → length (gathered [] (take q zs)) ≤ length (gathered [] zs)
gathered_part zs q =
    let a = gathered_grows [] zs q (q + length zs) (omega arith) in
    let b = ap (λ xs. length (gathered [] xs)) (take_all (q + length zs) zs (omega arith)) in
    omega arith

-- up to the position there is one literal too many, and up to the one before there is not
too_many_found : (w i : ℕ) (before zs : List ℤ) (p : ℕ) → length before ≤ w → too_many_at w i before zs ≡ Some p →
    (j : ℕ) × (p ≡ i + suc j) × (length (gathered before (take (suc j) zs)) ≡ suc w) × (length (gathered before (take j zs)) ≤ w)
too_many_found w i before [] p h e = absurd (none_not_some p e)
too_many_found w i before (x ∷ xs) p h e =
    ⊎_elim
    (λ (g : w < length (insert x before)).
    let q : i + 1 ≡ p = some_injective (i + 1) p (sym (cond-true (ltb w (length (insert x before))) (Some (i + 1)) (too_many_at w (i + 1) (insert x before) xs) (lt-ltb w (length (insert x before)) g)) ∙ e) in
    let more = insert_one_more x before in
    (0, omega arith, omega arith, h))
    (λ (g : length (insert x before) ≤ w).
    let r = too_many_found w (i + 1) (insert x before) xs p g (sym (cond-false (ltb w (length (insert x before))) (Some (i + 1)) (too_many_at w (i + 1) (insert x before) xs) (le-ltb w (length (insert x before)) g)) ∙ e) in
    let a = r.1 in
    (suc r.0, omega arith, r.2, r.3))
    (cases_lt w (length (insert x before)))

-- a literal of a part of a list is in the list
has_take : (q : ℕ) (zs : List ℤ) (z : ℤ) → has z (take q zs) ≡ true → has z zs ≡ true
has_take zero zs z h = absurd (false≢true h)
has_take (suc q) [] z h = h
has_take (suc q) (x ∷ xs) z h =
    ⊎_elim
    (λ (e : same x z ≡ true). or_left (same x z) (has z xs) e)
    (λ (e : has z (take q xs) ≡ true). or_right (same x z) (has z xs) (has_take q xs z e))
    (or_cases (same x z) (has z (take q xs)) h)

module _ (n : ℕ) (zs : List ℤ) (ok : Literals n zs) (plain : HoldsOppositePair zs → ⊥) where
  -- the set of a part is a clause in canonical form
  part_rising : (q : ℕ) → rising n 0 (gathered [] (take q zs)) ≡ true
  part_rising q =
      gathered_rising n (take q zs) (λ z h. ok z (has_take q zs z h))
      (⊎_elim
      (λ (o : opposed (take q zs) ≡ true). let x = opposed_some (take q zs) o in absurd (plain (x.0, has_take q zs x.0 x.1, has_take q zs (neg_ℤ x.0) x.2)))
      (λ (o : opposed (take q zs) ≡ false). o)
      (cases_Bool (opposed (take q zs))))

  -- the position is the first with one literal too many
  crowded_found : (i : ℕ) → too_many_at 64 0 [] zs ≡ Some i → Lowest (Crowded zs) i
  crowded_found i e =
      let r = too_many_found 64 0 [] zs i (omega arith) e in
      let a = r.1 in
      let b = r.2 in
      let c = r.3 in
      let p : suc r.0 ≡ i = omega arith in (
        λ d same.
            let m = ap (λ v. length (gathered [] (take v zs))) p in
            let more = rising_length n 0 (gathered [] (take i zs)) d (part_rising i) (λ z h. (same z).1 ((has_gathered (take i zs) z).0 h)) in
            omega arith,
        λ q crowded.
            ⊎_elim
            (λ (g : q < i).
            let more = crowded (gathered [] (take q zs)) (has_gathered (take q zs)) in
            let less = gathered_grows [] zs q r.0 (omega arith) in
            absurd (omega arith))
            (λ (g : i ≤ q). g)
            (cases_lt q i),
      )

  -- and it is told exactly then
  pub crowded_exactly : (i : ℕ) → Iff (too_many_at 64 0 [] zs ≡ Some i) (Lowest (Crowded zs) i)
  crowded_exactly i = (
    crowded_found i,
    λ a.
        ⊎_elim
        (λ (e : too_many_at 64 0 [] zs ≡ None).
        let few = (none_too_many 64 0 [] zs (omega arith)).0 e in
        let more = a.0 (gathered [] (take i zs)) (has_gathered (take i zs)) in
        let part = gathered_part zs i in
        absurd (omega arith))
        (λ e. e.1 ∙ ap Some (lowest_unique (Crowded zs) e.0 i (crowded_found e.0 e.1) a))
        (option_cases (too_many_at 64 0 [] zs)),
  )

-- a list is refused for its count after all else that is wrong with its literals
crowded_from : (n k : ℕ) (l : Limits) (s : List Entry) (zs : List ℤ) (i : ℕ) → load_fault n k l s zs ≡ Some (fault.TooManyLiterals i) →
    (k < 1024) × Literals n zs × (opposed zs ≡ false) × (too_many_at 64 0 [] zs ≡ Some i)
crowded_from n k l s zs i h =
    let x = fault.TooManyLiterals i in
    let a = past (ltb k 1024) fault.LoadedFull x _ (λ e. let z : 0 ≡ 5 = ap sort_of e in omega arith) h in
    let b = past_inside fault.LiteralBeyond x (beyond_at n 0 zs) (after_literals k l s zs) (λ p e. let z : 4 ≡ 5 = ap sort_of e in omega arith) a.1 in
    ⊎_elim
    (λ (o : opposed zs ≡ true). absurd (none_not_some x (sym (cond-true (opposed zs) None _ o) ∙ b.1)))
    (λ (o : opposed zs ≡ false).
    let put = inside fault.Database (put_fault l s (load_entry k zs)) in
    let c = found (inside fault.TooManyLiterals (too_many_at 64 0 [] zs)) put x
    (λ e. never_inside 5 fault.Database (put_fault l s (load_entry k zs)) (λ _ q. omega arith) x e refl) (sym (cond-false (opposed zs) None _ o) ∙ b.1) in
    let w = inside_found fault.TooManyLiterals x (too_many_at 64 0 [] zs) c in
    let v : w.0 ≡ i = let e = w.2 in cc in
    (ltb-true k 1024 a.0, (none_beyond n 0 zs).0 b.0, o, w.1 ∙ ap Some v))
    (cases_Bool (opposed zs))

-- a list with too many literals
pub crowded_place : (n k : ℕ) (l : Limits) (s : List Entry) (zs : List ℤ) (i : ℕ) →
    Iff (load_fault n k l s zs ≡ Some (fault.TooManyLiterals i)) ((k < 1024) × ((z : ℤ) → In z zs → IsLiteral n z) × (HoldsOppositePair zs → ⊥) × Lowest (Crowded zs) i)
crowded_place n k l s zs i =
    let x = fault.TooManyLiterals i in (
      λ h.
          let a = crowded_from n k l s zs i h in
          let plain : HoldsOppositePair zs → ⊥ = λ p. true≢false (sym ((opposed_pair zs (literals_nonzero n zs a.1)).1 p) ∙ a.2) in
          (a.0, λ z m. (literal_is n z).0 (a.1 z m), plain, (crowded_exactly n zs a.1 plain i).0 a.3),
      λ a.
          let ok : Literals n zs = λ z m. (literal_is n z).1 (a.1 z m) in
          reaches_past (ltb k 1024) fault.LoadedFull x _ (lt-ltb k 1024 a.0)
          (reaches (inside fault.LiteralBeyond (beyond_at n 0 zs)) (after_literals k l s zs) x (inside_passes fault.LiteralBeyond (beyond_at n 0 zs) ((none_beyond n 0 zs).1 ok))
          (⊎_elim
          (λ (o : opposed zs ≡ true). absurd (a.2 (opposed_some zs o)))
          (λ (o : opposed zs ≡ false).
          cond-false (opposed zs) None _ o ∙
          finds (inside fault.TooManyLiterals (too_many_at 64 0 [] zs)) (inside fault.Database (put_fault l s (load_entry k zs))) x
          (ap (inside fault.TooManyLiterals) ((crowded_exactly n zs ok a.2 i).1 a.3)))
          (cases_Bool (opposed zs)))),
    )

-- up to the position there are 65 different literals
pub crowded_count : (n k : ℕ) (l : Limits) (s : List Entry) (zs : List ℤ) (i : ℕ) → load_fault n k l s zs ≡ Some (fault.TooManyLiterals i) →
    (c : List ℤ) × SameLiterals c (take i zs) × (length c ≡ 65)
crowded_count n k l s zs i h =
    let r = too_many_found 64 0 [] zs i (omega arith) (crowded_from n k l s zs i h).3 in
    let a = r.1 in
    let p : i ≡ suc r.0 = omega arith in
    (gathered [] (take i zs), has_gathered (take i zs), ap (λ v. length (gathered [] (take v zs))) p ∙ r.2)
