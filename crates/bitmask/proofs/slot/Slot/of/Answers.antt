use Rattle.std.proofs.Common.{◌≡◌, ◌≤◌, true, [], ◌∷◌, List, Option, Some, unsigned_abs, sym, refl, ap, ◌∙◌, arith, rules}
use Rattle.std.proofs.lemmas.Iterator.Consumers.{YieldsList-from_first}
use Rattle.std.proofs.lemmas.Fn.{serves_by, fold_over}
use Rattle.std.proofs.lemmas.Bool.Decides.{nat_tests}
use Rattle.std.specs.Iterator.{Yields, YieldsFirstBy}
use Rattle.words.specs.Clauses.{within}
use Rattle.words.specs.Meanings.{lits_of}
use Rattle.words.specs.declared.literal.Literal.{Literal}
use Rattle.words.specs.declared.clause_literals.ClauseLiterals.{ClauseLiterals}
use Rattle.bitmask.specs.Masks.{Tells}
use Rattle.bitmask.specs.declared.slot.Slot.{Slot}
use Rattle.bitmask.proofs.Decoding.{decoded_tells}
use Rattle.bitmask.proofs.Telling.{tells_none, entry_is}
use Rattle.bitmask.proofs.slot.Slot.of.Goals as goal

-- what one step of going through the literals does
abbrev steps : ClauseLiterals → Option Literal → ClauseLiterals → Type 0
steps = YieldsFirstBy (λ (l : Literal). l.value) (λ (s : ClauseLiterals). s.rest.now)

-- each literal that comes has a bit
bounded : (xs : List Literal) (s t : ClauseLiterals) (x : Literal) (u : ClauseLiterals) → within 64 s.rest.now ≡ true → Yields steps s xs t → steps t (Some x) u → unsigned_abs x.value ≤ 64
bounded [] s t x u w y k =
    let v : within 64 (x.value ∷ u.rest.now) ≡ true = ap (within 64) (sym (ap (λ (s : ClauseLiterals). s.rest.now) y ∙ k)) ∙ w in
    grind (arith, nat_tests)
bounded (z ∷ xs) s t x u w y k =
    let v : within 64 (z.value ∷ y.0.rest.now) ≡ true = ap (within 64) (sym y.1) ∙ w in
    let r : within 64 y.0.rest.now ≡ true = grind (arith, nat_tests) in
    bounded xs y.0 t x u r y.2 k

pub fold-requires-clause-callable : goal.fold-requires-clause-callable
fold-requires-clause-callable c =
    let e = c.into_iter.ensures.into_iter_gives in
    let w : within 64 c.into_iter.result.rest.now ≡ true = ap (within 64) e ∙ c.requires in
    serves_by _ (λ xs q. Unit {0}) (λ xs q x v j k. tt) _ _ _ _ tt (λ xs t q x u y k j. bounded xs _ t x u w y k)

pub returns : goal.returns
returns c =
    let k = c.args.clause.now in
    let told = fold_over steps (λ (l : Literal). l.value) _ (λ ys (a : Slot). (a.number ≡ c.args.number) × Tells a.plus a.minus ys) _ (λ ys a x b f j r. ((search rules, let q = r.met in let t = j.1 in search rules), search rules)) _ (lits_of k) _ _ (YieldsList-from_first (λ (l : Literal). l.value) (λ (s : ClauseLiterals). s.rest.now) _ c.into_iter.ensures.into_iter_gives).runs (refl, tells_none) c.fold.ensures.ran in
    entry_is c.fold.result c.args.number _ told.0 (decoded_tells c.fold.result.plus c.fold.result.minus (lits_of k) k.rises c.requires told.1)
