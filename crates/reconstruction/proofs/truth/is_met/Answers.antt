use Rattle.std.proofs.Common.{◌∙◌, rules}
use borrow.Author.Tests.{tests}
use Rattle.std.proofs.lemmas.Iterator.{YieldsList-from_slice}
use Rattle.std.proofs.lemmas.Iterator.Search.{any_from_yields_List}
use Rattle.words.specs.Assignments.{holds}
use Rattle.reconstruction.proofs.Truths.{met_any}
use Rattle.reconstruction.proofs.truth.is_met.Goals as goal

pub returns : goal.returns
returns g c =
    let number = g.T.Signed.number in
    any_from_yields_List (λ x. holds c.args.assignment.now (number x)) _ _ _ c.any.ensures.ran (YieldsList-from_slice c.args.literals.now cc) (λ x b q k. search (rules, tests)) ∙
    met_any number c.args.assignment.now c.args.literals.now
