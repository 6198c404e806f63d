use Rattle.std.proofs.Common.{◌≡◌, ◌+◌, ◌∙◌, ap, nat_lt, rules}
use Rattle.std.proofs.lemmas.Iterator.{YieldsList-from_slice}
use Rattle.std.proofs.lemmas.Iterator.Adapters.{position_from-zero}
use Rattle.std.proofs.lemmas.Iterator.Search.{position_from_yields_List}
use Rattle.std.specs.Option.{option_map}
use borrow.Author.Tests.{tests}
use Rattle.reconstruction.proofs.Refused.{byte_position}
use Rattle.reconstruction.proofs.restoring.first_bad_byte.Goals as goal

pub returns : goal.returns
returns c =
    let bytes = c.args.assignment.now in
    let m : c.map.result ≡ option_map (λ k. k + 1) c.position.result = search rules in
    let p = position_from_yields_List (λ b. nat_lt 1 b) _ _ c.position.result c.position.ensures.ran (YieldsList-from_slice bytes cc) (λ x b q k. search (rules, tests)) in
    m ∙ ap (option_map (λ k. k + 1)) (p ∙ position_from-zero (λ b. nat_lt 1 b) bytes) ∙ byte_position bytes
