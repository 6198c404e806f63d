use Rattle.std.proofs.Common.{◌≡◌, true, false, eqb, sym, refl, ◌∙◌, arith, rules, tests}
use Rattle.std.proofs.lemmas.Iterator.{IsFirst-from_position, index_from_first, YieldsList-from_slice}
use Rattle.std.proofs.lemmas.Bool.{cond-true, cond-false}
use Rattle.textlines.specs.Lines.{length_to}
use Rattle.textlines.proofs.length_to.Goals as goal

pub returns-clause-value : goal.returns-clause-value
returns-clause-value c =
    let x = c.args.byte in
    let first = IsFirst-from_position _ _ _ (λ b. eqb b x ≡ true) (λ b. eqb b x ≡ false) c.position.ensures.ran (YieldsList-from_slice c.args.bytes.now cc) (λ y q k. search (rules, tests)) (λ y q k. search (rules, tests)) in
    c.unwrap_or.ensures ∙ sym (index_from_first (length_to x) _ _ refl (λ b bs. cond-true (eqb b x) _ _) (λ b bs e. cond-false (eqb b x) _ _ e ∙ omega arith) c.args.bytes.now _ first)
