use Rattle.std.proofs.Common.{◌≡◌, true, false, not, sym, refl, ◌∙◌, arith, rules, tests}
use Rattle.std.specs.List.{prefix_len}
use Rattle.std.proofs.lemmas.Iterator.{IsFirst-from_position, index_from_first, YieldsList-from_slice}
use Rattle.textlines.specs.Lines.{blank}
use Rattle.reader.proofs.scan.word_end.Goals as goal

pub returns-clause-value : goal.returns-clause-value
returns-clause-value c =
    let first = IsFirst-from_position _ _ _ (λ b. blank b ≡ true) (λ b. blank b ≡ false) c.position.ensures.ran (YieldsList-from_slice c.args.text.now cc) (λ y q k. search (rules, tests)) (λ y q k. search (rules, tests)) in
    c.unwrap_or.ensures ∙ sym (index_from_first (prefix_len (λ b. not (blank b))) (λ b. blank b ≡ true) (λ b. blank b ≡ false) refl (λ b bs e. grind arith) (λ b bs e. grind arith) c.args.text.now _ first)
