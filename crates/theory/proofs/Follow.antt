-- What follows from clauses that are met.
use Rattle.std.proofs.Common.{◌≡◌, ℕ, true, List, ℤ, neg_ℤ, sym, ap, ◌∙◌, inl, inr, ⊎_elim}
use Rattle.words.specs.Clauses.{resolvent}
use Rattle.words.specs.Assignments.{holds, met}
use Rattle.rules.specs.Obeying.{InResolvent}
use Rattle.theory.specs.Soundness.{ResolventsFollow, SubsumedFollow}
use Rattle.theory.proofs.Truth.{not_both, met_has, met_some, met_more}
use Rattle.acceptance.proofs.Sets.{has_resolvent, cases_same, not_same}

-- a parent's true literal other than the one that it loses meets the resolvent
met_resolvent : (a : List ℕ) (l : ℤ) (c d : List ℤ) (z : ℤ) → InResolvent l c d z → holds a z ≡ true → met a (resolvent l c d) ≡ true
met_resolvent a l c d z i t = met_has a z (resolvent l c d) ((has_resolvent l c d z).1 i) t

-- the theorem on resolution: of the pivot and its negation only one is true
pub resolvents_follow : ResolventsFollow
resolvents_follow a l c d p mc md =
    let x = met_some a c mc in
    let y = met_some a d md in
    ⊎_elim
    (λ (e : x.0 ≡ l).
    ⊎_elim
    (λ (f : y.0 ≡ neg_ℤ l). absurd (not_both a l p (sym (ap (holds a) e) ∙ x.2) (sym (ap (holds a) f) ∙ y.2)))
    (λ f. met_resolvent a l c d y.0 (inr (y.1, not_same _ _ f)) y.2)
    (cases_same y.0 (neg_ℤ l)))
    (λ e. met_resolvent a l c d x.0 (inl (x.1, not_same _ _ e)) x.2)
    (cases_same x.0 l)

-- the theorem on subsumption
pub subsumed_follow : SubsumedFollow
subsumed_follow = met_more
