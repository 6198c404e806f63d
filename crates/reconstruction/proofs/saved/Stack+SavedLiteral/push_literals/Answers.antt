use Rattle.std.proofs.Common.{◌++◌, get_or, pos, ap, ◌∙◌, arith, w16, SFits, rules}
use Rattle.std.proofs.lemmas.Int.{to_z-of_z}
use Rattle.std.proofs.lemmas.List.{take_all, length-map}
use Rattle.reconstruction.specs.declared.saved.SavedLiteral.{SavedLiteral}
use Rattle.reconstruction.specs.Stacks.{items}
use Rattle.reconstruction.specs.Saves.{numbers}
use Rattle.reconstruction.proofs.Shares.{pushed_count, pushed_more}
use Rattle.reconstruction.proofs.saved.Stack+SavedLiteral.push_literals.Goals as goal

pub add-requires : goal.add-requires
add-requires c =
    let m = length-map (items c.args.self.now) (λ (l : SavedLiteral). l.value) in
    let n = pushed_count _ _ c.args.literals.now c.loop-literal.literal-index c.loop-literal.invariant.0 (omega arith) in
    omega (arith, m, c.requires, c.loop-literal.invariant.1)

pub loop-literal-preserved : goal.loop-literal-preserved
loop-literal-preserved c =
    let f : SFits w16 (get_or c.args.literals.now c.loop-literal.literal-index (pos 0)) = search rules in (
      ap numbers c.add.ensures.items ∙ pushed_more _ _ _ c.loop-literal.literal-index c.loop-literal.invariant.0 (omega arith) _ (to_z-of_z w16 _ f),
      c.add.ensures.capacity ∙ c.loop-literal.invariant.1,
      c.add.ensures.lender ∙ c.loop-literal.invariant.2,
    )

pub returns : goal.returns
returns c =
    record {
      items = c.loop-literal.invariant.0 ∙ ap (λ zs. numbers (items c.args.self.now) ++ zs) (take_all c.loop-literal.literal-index c.args.literals.now (omega arith));
      capacity = c.loop-literal.invariant.1;
      lender = c.loop-literal.invariant.2;
    }
