use Rattle.std.proofs.Common.{◌≡◌, ◌+◌, ◌∙◌, not, ap, rules}
use Rattle.std.proofs.lemmas.Iterator.{YieldsList-from_slice}
use Rattle.std.proofs.lemmas.Iterator.Adapters.{position_from-zero}
use Rattle.std.proofs.lemmas.Iterator.Search.{position_from_yields_List}
use Rattle.std.specs.Option.{option_map}
use borrow.Author.Tests.{tests}
use Rattle.words.specs.Literals.{literal_ok}
use Rattle.loading.proofs.Beyond.{beyond_position}
use Rattle.loading.proofs.lists.first_beyond.Goals as goal

pub returns : goal.returns
returns c =
    let n = c.args.variables in
    let zs = c.args.list.now in
    let m : c.map.result ≡ option_map (λ k. k + 1) c.position.result = search rules in
    let p = position_from_yields_List (λ z. not (literal_ok n z)) _ _ c.position.result c.position.ensures.ran (YieldsList-from_slice zs cc) (λ x b q k. search (rules, tests)) in
    m ∙ ap (option_map (λ k. k + 1)) (p ∙ position_from-zero (λ z. not (literal_ok n z)) zs) ∙ beyond_position n zs
