-- A clause in canonical form, loaded behind others.
use Rattle.std.proofs.Common.{◌≡◌, ℕ, ◌+◌, ◌<◌, ◌≤◌, Bool, true, false, ◌&&◌, ltb, leb, List, [], ◌∷◌, ◌++◌, length, ℤ, None, sym, refl, ap, ◌∙◌, subst, inr, ⊎_elim, arith}
use Rattle.std.proofs.lemmas.Bool.{cases_Bool, true≢false, cond-false, le-ltb}
use Rattle.std.proofs.lemmas.Bool.Decides.{nat_tests}
use Rattle.words.specs.declared.limits.Limits.{Limits}
use Rattle.words.specs.Clauses.{opposed, gathered, within, rising}
use Rattle.words.specs.Standing.{Entry, under, inserted, literals}
use Rattle.rules.specs.Loading.{load_entry, load_fault, load_adds}
use Rattle.rules.specs.Obeying.{HasSpace}
use Rattle.acceptance.proofs.Sets.{has_gathered_is, opposed_some}
use Rattle.acceptance.proofs.Rising.{Literals, rising_range, rising_plain, rising_unique, gathered_rising}
use Rattle.acceptance.proofs.Entries.{under_rest}
use Rattle.acceptance.proofs.Loaded.{within_has, literal_is, lists_exactly}

-- ── Entries whose numbers are up to k ──

-- whether no number is above k
abbrev pub up_to : ℕ → List Entry → Bool
up_to k [] = true
up_to k (e ∷ es) = leb e.number k && up_to k es

-- no clause stands above
pub none_above : (k j : ℕ) (es : List Entry) → up_to k es ≡ true → k < j → under j es ≡ None
none_above k j [] h b = refl
none_above k j (e ∷ es) h b =
    let a : e.number ≤ k = grind (arith, nat_tests) in
    let ih = none_above k j es (grind (arith, nat_tests)) b in
    under_rest j e es (λ q. omega arith) ∙ ih

-- one of a higher number is put behind them
pub inserted_last : (x : Entry) (k : ℕ) (es : List Entry) → up_to k es ≡ true → k < x.number → inserted x es ≡ es ++ x ∷ []
inserted_last x k [] h b = refl
inserted_last x k (e ∷ es) h b =
    let a : e.number ≤ k = grind (arith, nat_tests) in
    let ih = inserted_last x k es (grind (arith, nat_tests)) b in
    cond-false (ltb x.number e.number) _ _ (le-ltb _ _ (omega arith)) ∙ ap (λ l. e ∷ l) ih

pub up_to_last : (x : Entry) (k j : ℕ) (es : List Entry) → up_to k es ≡ true → k ≤ j → x.number ≤ j → up_to j (es ++ x ∷ []) ≡ true
up_to_last x k j [] h b d = grind (arith, nat_tests)
up_to_last x k j (e ∷ es) h b d = let ih = up_to_last x k j es (grind (arith, nat_tests)) b d in grind (arith, nat_tests)

pub literals_last : (x : Entry) (es : List Entry) → literals (es ++ x ∷ []) ≡ literals es + length x.lits
literals_last x [] = omega arith
literals_last x (e ∷ es) = let ih = literals_last x es in omega arith

-- ── A list in canonical form ──

module _ (n : ℕ) (zs : List ℤ) (r : rising n 0 zs ≡ true) where
  -- its numbers are literals
  rising_literals : Literals n zs
  rising_literals z h = let p = rising_range n 0 zs z r h in (literal_is n z).1 (omega (arith, p.0), p.1)

  -- it has no opposite pair
  rising_apart : opposed zs ≡ false
  rising_apart =
      ⊎_elim
      (λ (o : opposed zs ≡ true). let p = opposed_some zs o in absurd (true≢false (sym p.2 ∙ rising_plain n 0 zs r p.0 p.1)))
      (λ (o : opposed zs ≡ false). o)
      (cases_Bool (opposed zs))

  -- it is the set of its literals
  rising_gathered : gathered [] zs ≡ zs
  rising_gathered = rising_unique n 0 0 (gathered [] zs) zs (gathered_rising n zs rising_literals rising_apart) r (λ z. has_gathered_is z [] zs)

  -- it is loaded behind others under the next number
  module _ (k : ℕ) (es : List Entry) (low : up_to k es ≡ true) where
    pub loaded_last : load_adds k es zs ≡ es ++ record { number = k + 1; lits = zs } ∷ []
    loaded_last =
        cond-false (opposed zs) _ _ rising_apart ∙ inserted_last (load_entry k zs) k es low (omega arith) ∙
        ap (λ c. es ++ record { number = k + 1; lits = c } ∷ []) rising_gathered

    -- with no fault, where the database has the space
    pub loaded_well : (l : Limits) → k < 1024 → length zs ≤ 64 → within l.variables zs ≡ true → length zs ≤ l.width → length es < l.clauses →
        literals es + length zs ≤ l.literals → load_fault n k l es zs ≡ None
    loaded_well l few short w wide more full =
        let space : HasSpace l es (k + 1) zs = (none_above k (k + 1) es low (omega arith), (within_has l.variables zs).0 w, wide, more, full) in
        (lists_exactly n k l es zs).1 (
          few,
          λ z m. (literal_is n z).0 (rising_literals z m),
          inr (zs, λ z. (λ h. h, λ h. h), short, subst (HasSpace l es (k + 1)) (sym rising_gathered) space),
        )
