use Rattle.std.proofs.Common.{◌≡◌, ℕ, ◌-◌, Bool, true, leb, List, [], ◌∷◌, length, ℤ, pos, nat_abs, slice_get, option_copied, MatchOption, Option, Some, None, Bor, sym, refl, ap, ◌∙◌, arith, rules, tests}
use Rattle.std.specs.Option.{option_map_or}
use Rattle.std.proofs.lemmas.Option.{slice_get-get_or}
use Rattle.words.specs.Clauses.{within, rising}
use Rattle.bitmask.proofs.Telling.{within_last}
use Rattle.bitmask.proofs.slot.fits.Goals as goal

-- whether a literal, if there is one, is of a variable up to n
abbrev bounded : ℕ → Option ℤ → Bool
bounded n o = option_map_or (λ z. leb (nat_abs z) n) o true

-- the last literal, if there is one, tells of them all
bounded_last : (v n : ℕ) (zs : List ℤ) → rising v 0 zs ≡ true → bounded n (slice_get zs (length zs - 1)) ≡ within n zs
bounded_last v n [] r = refl
bounded_last v n (z ∷ zs) r =
    let i = length (z ∷ zs) - 1 in
    ap (bounded n) (slice_get-get_or (z ∷ zs) i (pos 0) (omega arith)) ∙ sym (within_last v n 0 i (z ∷ zs) r (omega arith))

-- what `is_none_or` answers
judged : (n : ℕ) (o : Option (Bor ℤ)) (r : Bool) (Q : Bor ℤ → Type 0) → MatchOption o (r ≡ true) Q → ((x : Bor ℤ) → Q x → r ≡ leb (nat_abs x.now) n) → r ≡ bounded n (option_copied o)
judged n None r Q m q = m
judged n (Some x) r Q m q = q x m

pub returns : goal.returns
returns c =
    let xs = c.literals.result.now in
    let r : rising 512 0 xs ≡ true = ap (rising 512 0) c.literals.ensures ∙ c.args.clause.now.rises in
    judged 64 c.last.result c.is_none_or.result _ c.is_none_or.ensures (λ x q. search (rules, tests)) ∙ ap (bounded 64) c.last.ensures.value ∙ bounded_last 512 64 xs r ∙ ap (within 64) c.literals.ensures
