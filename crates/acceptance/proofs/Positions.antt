-- Walks over a list to the first position that fails a test.
use Rattle.std.proofs.Common.{◌≡◌, ℕ, ◌-◌, ◌<◌, ◌≤◌, Bool, false, List, get_or, Some, None, sym, ap, ◌∙◌, ⊎_elim, arith}
use Rattle.std.proofs.lemmas.Bool.{cases_lt, true≢false}
use Rattle.rules.specs.Satisfying.{Iff}
use Rattle.acceptance.specs.Places.{Lowest, Position}
use Rattle.acceptance.proofs.Passing.{option_cases, first_at, found_at, none_at}
use Rattle.acceptance.proofs.Entries.{lowest_unique}

-- the element at a position fails a test
abbrev pub FailsAt : {X : Type 0} → (X → Bool) → X → List X → ℕ → Type 0
FailsAt t d xs i = Position xs i × (t (get_or xs (i - 1) d) ≡ false)

-- the position at which the walk ends is the first that fails
pub position_found : {X : Type 0} (t : X → Bool) (d : X) (xs : List X) (p : ℕ) → first_at t 0 xs ≡ Some p → Lowest (FailsAt t d xs) p
position_found t d xs p e =
    let r = found_at t d 0 xs p e in
    let a = r.1 in
    let b = r.2 in
    let q : p - 1 ≡ r.0 = omega arith in (
      ((omega arith, omega arith), ap (λ v. t (get_or xs v d)) q ∙ r.3),
      λ i x.
          ⊎_elim
          (λ (g : i < p). let low = x.0.0 in absurd (true≢false (sym (r.4 (i - 1) (omega arith)) ∙ x.1)))
          (λ (g : p ≤ i). g)
          (cases_lt i p),
    )

-- and it ends there exactly then
pub positions_exactly : {X : Type 0} (t : X → Bool) (d : X) (xs : List X) (p : ℕ) → Iff (first_at t 0 xs ≡ Some p) (Lowest (FailsAt t d xs) p)
positions_exactly t d xs p = (
  position_found t d xs p,
  λ a.
      ⊎_elim
      (λ (e : first_at t 0 xs ≡ None).
      let low = a.0.0.0 in
      let high = a.0.0.1 in
      absurd (true≢false (sym (none_at t d 0 xs e (p - 1) (omega arith)) ∙ a.0.1)))
      (λ e. e.1 ∙ ap Some (lowest_unique (FailsAt t d xs) e.0 p (position_found t d xs e.0 e.1) a))
      (option_cases (first_at t 0 xs)),
)
