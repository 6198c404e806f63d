-- The rules of S and B followed check by check.
use Rattle.std.proofs.Common.{◌≡◌, ℕ, true, false, not, ◌&&◌, eqb, List, [], ◌∷◌, ℤ, neg_ℤ, Some, None, Option, refl, sym, ap, ◌∙◌, ⊎_elim, arith}
use Rattle.std.specs.List.{find}
use Rattle.std.specs.Option.{option_map}
use Rattle.std.proofs.lemmas.Bool.{cases_eq}
use Rattle.std.proofs.lemmas.Bool.Decides.{nat_tests}
use Rattle.words.specs.declared.fault.SessionFault.TheVariants.{Missing, Lacking, NotSubsumed, NotBlocked}
use Rattle.words.specs.declared.fault.DatabaseFault.{DatabaseFault}
use Rattle.words.specs.Checks.{check, inside, unless}
use Rattle.words.specs.Clauses.{has, subset, opposed, resolvent}
use Rattle.words.specs.Standing.{Entry, stands, under, without}
use Rattle.rules.specs.Lines.{clause_under, subsumed_fault, blocked_fault, first_unblocked}
use Rattle.acceptance.proofs.Passing.{passed}
use Rattle.lines.specs.Judging.{s_line, b_line}
use Rattle.lines.proofs.Faults.{on, off, last_on, last_off, missing, there, read_is}

-- ── S ──

module _ (k i : ℕ) (s : List Entry) where
  pub s_clause_missing : None ≡ under k s → Some (Missing k) ≡ subsumed_fault s (s_line k i)
  s_clause_missing e = sym (off (stands k s) _ _ (missing k s e))

  module _ (c : List ℤ) (ec : Some c ≡ under k s) where
    pub s_first_missing : None ≡ under i s → Some (Missing i) ≡ subsumed_fault s (s_line k i)
    s_first_missing e = sym (on (stands k s) _ _ (there k c s ec) ∙ off (stands i s) _ _ (missing i s e))

    module _ (d : List ℤ) (ed : Some d ≡ under i s) where
      subset_read : subset (clause_under i s) (clause_under k s) ≡ subset d c
      subset_read = ap (λ x. subset x (clause_under k s)) (read_is i d s ed) ∙ ap (subset d) (read_is k c s ec)

      rest : subsumed_fault s (s_line k i) ≡ check (not (eqb k i) && subset d c) (NotSubsumed k i)
      rest = on (stands k s) _ _ (there k c s ec) ∙ on (stands i s) _ _ (there i d s ed) ∙ ap (λ x. check (not (eqb k i) && x) (NotSubsumed k i)) subset_read

      pub s_same : k ≡ i → Some (NotSubsumed k i) ≡ subsumed_fault s (s_line k i)
      s_same e = sym (rest ∙ last_off (not (eqb k i) && subset d c) (NotSubsumed k i) (grind (arith, nat_tests)))

      pub s_not_in : false ≡ subset d c → Some (NotSubsumed k i) ≡ subsumed_fault s (s_line k i)
      s_not_in e = sym (rest ∙ last_off (not (eqb k i) && subset d c) (NotSubsumed k i) (⊎_elim (λ (h : k ≡ i). grind (arith, nat_tests)) (λ (h : k ≡ i → ⊥). grind (arith, nat_tests)) (cases_eq k i)))

      pub s_passes : (k ≡ i → ⊥) → true ≡ subset d c → None ≡ subsumed_fault s (s_line k i)
      s_passes n e = sym (rest ∙ last_on (not (eqb k i) && subset d c) (NotSubsumed k i) (grind (arith, nat_tests)))

-- a clause that a judged S or B line names stands
pub s_stands : (k i : ℕ) (s : List Entry) → None ≡ subsumed_fault s (s_line k i) → stands k s ≡ true
s_stands k i s e = (passed (stands k s) _ _ (sym e)).0

pub b_stands : (k : ℕ) (z : ℤ) (s : List Entry) → blocked_fault s (b_line k z) ≡ None → stands k s ≡ true
b_stands k z s e = (passed (stands k s) _ _ e).0

-- a number that stands is removed
pub removed : (k : ℕ) (s after : List Entry) (a : DatabaseFault) (f : Option DatabaseFault) → stands k s ≡ true → f ≡ check (stands k s) a → after ≡ unless f (without k s) s → after ≡ without k s
removed k s after a f h e q = q ∙ ap (λ x. unless x (without k s) s) (e ∙ last_on (stands k s) a h)

-- ── B ──

module _ (k : ℕ) (z : ℤ) (s : List Entry) where
  pub b_missing : None ≡ under k s → blocked_fault s (b_line k z) ≡ Some (Missing k)
  b_missing e = off (stands k s) _ _ (missing k s e)

  module _ (c : List ℤ) (ec : Some c ≡ under k s) where
    pub b_lacking : false ≡ has z c → blocked_fault s (b_line k z) ≡ Some (Lacking k)
    b_lacking e = on (stands k s) _ _ (there k c s ec) ∙ off (has z (clause_under k s)) _ _ (ap (has z) (read_is k c s ec) ∙ sym e)

    module _ (hz : true ≡ has z c) where
      walk : blocked_fault s (b_line k z) ≡ inside NotBlocked (first_unblocked z c s)
      walk =
          on (stands k s) _ _ (there k c s ec) ∙ on (has z (clause_under k s)) _ _ (ap (has z) (read_is k c s ec) ∙ sym hz) ∙
          ap (λ x. inside NotBlocked (first_unblocked z x s)) (read_is k c s ec)

      pub b_unblocked : (j : ℕ) → Some j ≡ first_unblocked z c s → blocked_fault s (b_line k z) ≡ Some (NotBlocked j)
      b_unblocked j e = walk ∙ ap (inside NotBlocked) (sym e)

      pub b_passes : None ≡ first_unblocked z c s → (blocked_fault s (b_line k z) ≡ None) × (c ≡ clause_under k s)
      b_passes e = (walk ∙ ap (inside NotBlocked) (sym e), sym (read_is k c s ec))

-- ── The search of B ──

-- the first standing clause with the negated pivot whose resolvent holds no opposite pair
pub unblocked_found : (z : ℤ) (c : List ℤ) (s : List Entry) →
    option_map (λ (e : Entry). e.number) (find (λ (e : Entry). has (neg_ℤ z) e.lits && not (opposed (resolvent z c e.lits))) s) ≡ first_unblocked z c s
unblocked_found z c [] = refl
unblocked_found z c (e ∷ s) = let ih = unblocked_found z c s in grind (arith, nat_tests)
