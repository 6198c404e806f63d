use Rattle.std.proofs.Common.{arith, rules, tests}
use Rattle.std.proofs.lemmas.Iterator.Consumers.{count_from_yields_List}
use Rattle.textlines.proofs.Cuts.{cuts_lines}
use Rattle.textlines.proofs.count_lines.Goals as goal

pub returns : goal.returns
returns c =
    let lines = count_from_yields_List c.split_inclusive.result c.count.result c.count.ensures.ran (cuts_lines _ c.args.text.now c.split_inclusive.ensures.rest c.split_inclusive.ensures.closure (λ a r q k. search (rules, tests))) in
    omega (arith, lines)
