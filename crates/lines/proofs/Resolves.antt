-- The rule of R followed check by check.
use Rattle.std.proofs.Common.{◌≡◌, ℕ, ◌<◌, Bool, true, false, cond, not, ltb, leb, List, length, ℤ, neg_ℤ, Some, None, Option, sym, refl, ap, ◌∙◌, arith}
use Rattle.std.proofs.lemmas.Bool.Decides.{nat_tests}
use Rattle.words.specs.declared.fault.SessionFault.TheVariants.{Missing, Lacking, Tautology, ResolventTooWide}
use Rattle.std.specs.Option.{option_map, ok_or}
use Rattle.words.specs.declared.clause.Clause.{Clause}
use Rattle.words.specs.Meanings.{lits_of}
use Rattle.words.specs.Clauses.{has, opposed, resolvent}
use Rattle.words.specs.Standing.{Entry, stands, under}
use Rattle.rules.specs.Lines.{clause_under, line_resolvent, resolve_fault}
use Rattle.lines.specs.Judging.{r_line, ResolveJudged}
use Rattle.lines.proofs.Faults.{on, off, missing, there, read_is}

-- what a clause that is there, or not, tells of its width
narrow_none : (b : Bool) (r : List ℤ) → ◌≡◌ {A = Option (List ℤ)} None (cond b (Some r) None) → b ≡ false
narrow_none true r e = absurd (let q : ◌≡◌ {A = ℕ} 0 1 = cc in omega arith)
narrow_none false r e = refl

narrow_some : (b : Bool) (r c : List ℤ) → ◌≡◌ {A = Option (List ℤ)} (Some c) (cond b (Some r) None) → (b ≡ true) × (c ≡ r)
narrow_some true r c e = (refl, cc)
narrow_some false r c e = absurd (let q : ◌≡◌ {A = ℕ} 0 1 = cc in omega arith)

module _ (given k : ℕ) (z : ℤ) (i j : ℕ) (s : List Entry) (above : given < k) where
  number_passes : ltb given k ≡ true
  number_passes = grind (arith, nat_tests)

  pub first_missing : None ≡ under i s → resolve_fault given s (r_line k z i j) ≡ Some (Missing i)
  first_missing e = on (ltb given k) _ _ number_passes ∙ off (stands i s) _ _ (missing i s e)

  module _ (a : List ℤ) (ea : Some a ≡ under i s) where
    pub second_missing : None ≡ under j s → resolve_fault given s (r_line k z i j) ≡ Some (Missing j)
    second_missing e = on (ltb given k) _ _ number_passes ∙ on (stands i s) _ _ (there i a s ea) ∙ off (stands j s) _ _ (missing j s e)

    module _ (b : List ℤ) (eb : Some b ≡ under j s) where
      ra : clause_under i s ≡ a
      ra = read_is i a s ea

      rb : clause_under j s ≡ b
      rb = read_is j b s eb

      -- the resolvent that the line names is that of the clauses read
      named : line_resolvent s (r_line k z i j) ≡ resolvent z a b
      named = ap (λ x. resolvent z x (clause_under j s)) ra ∙ ap (resolvent z a) rb

      pub first_lacking : false ≡ has z a → resolve_fault given s (r_line k z i j) ≡ Some (Lacking i)
      first_lacking e =
          on (ltb given k) _ _ number_passes ∙ on (stands i s) _ _ (there i a s ea) ∙ on (stands j s) _ _ (there j b s eb) ∙
          off (has z (clause_under i s)) _ _ (ap (has z) ra ∙ sym e)

      module _ (ha : true ≡ has z a) where
        pub second_lacking : (m : ℤ) → m ≡ neg_ℤ z → false ≡ has m b → resolve_fault given s (r_line k z i j) ≡ Some (Lacking j)
        second_lacking m em e =
            on (ltb given k) _ _ number_passes ∙ on (stands i s) _ _ (there i a s ea) ∙ on (stands j s) _ _ (there j b s eb) ∙
            on (has z (clause_under i s)) _ _ (ap (has z) ra ∙ sym ha) ∙
            off (has (neg_ℤ z) (clause_under j s)) _ _ (ap (has (neg_ℤ z)) rb ∙ ap (λ x. has x b) (sym em) ∙ sym e)

        module _ (m : ℤ) (em : m ≡ neg_ℤ z) (hb : true ≡ has m b) where
          negation_there : has (neg_ℤ z) (clause_under j s) ≡ true
          negation_there = ap (has (neg_ℤ z)) rb ∙ ap (λ x. has x b) (sym em) ∙ sym hb

          pub tautology : opposed (resolvent z a b) ≡ true → resolve_fault given s (r_line k z i j) ≡ Some (Tautology i j)
          tautology o =
              on (ltb given k) _ _ number_passes ∙ on (stands i s) _ _ (there i a s ea) ∙ on (stands j s) _ _ (there j b s eb) ∙
              on (has z (clause_under i s)) _ _ (ap (has z) ra ∙ sym ha) ∙ on (has (neg_ℤ z) (clause_under j s)) _ _ negation_there ∙
              off (not (opposed (line_resolvent s (r_line k z i j)))) _ _ (ap (λ c. not (opposed c)) named ∙ ap not o)

          module _ (o : opposed (resolvent z a b) ≡ false) where
            width : resolve_fault given s (r_line k z i j) ≡ cond (leb (length (line_resolvent s (r_line k z i j))) 64) None (Some (ResolventTooWide i j))
            width =
                on (ltb given k) _ _ number_passes ∙ on (stands i s) _ _ (there i a s ea) ∙ on (stands j s) _ _ (there j b s eb) ∙
                on (has z (clause_under i s)) _ _ (ap (has z) ra ∙ sym ha) ∙ on (has (neg_ℤ z) (clause_under j s)) _ _ negation_there ∙
                on (not (opposed (line_resolvent s (r_line k z i j)))) _ _ (ap (λ c. not (opposed c)) named ∙ ap not o)

            pub too_wide : ◌≡◌ {A = Option (List ℤ)} None (cond (leb (length (resolvent z a b)) 64) (Some (resolvent z a b)) None) → resolve_fault given s (r_line k z i j) ≡ Some (ResolventTooWide i j)
            too_wide e =
                let t = ap length named in
                let w : leb (length (resolvent z a b)) 64 ≡ false = narrow_none (leb (length (resolvent z a b)) 64) (resolvent z a b) e in
                width ∙ ap (λ x. cond (leb x 64) None (Some (ResolventTooWide i j))) t ∙ ap (λ x. cond x None (Some (ResolventTooWide i j))) w

            pub derived : (c : List ℤ) → Some c ≡ cond (leb (length (resolvent z a b)) 64) (Some (resolvent z a b)) None →
                (resolve_fault given s (r_line k z i j) ≡ None) × (c ≡ line_resolvent s (r_line k z i j))
            derived c e =
                let t = ap length named in
                let w = narrow_some (leb (length (resolvent z a b)) 64) (resolvent z a b) c e in
                (width ∙ ap (λ x. cond (leb x 64) None (Some (ResolventTooWide i j))) t ∙ ap (λ x. cond x None (Some (ResolventTooWide i j))) w.0, w.1 ∙ sym named)

            -- a resolvent or none, handed on as the answer of the line
            pub built : (r : Option Clause) → option_map lits_of r ≡ cond (leb (length (resolvent z a b)) 64) (Some (resolvent z a b)) None →
                ResolveJudged given s (r_line k z i j) (ok_or r (ResolventTooWide i j))
            built None e = too_wide e
            built (Some c) e = derived (lits_of c) e
