use Rattle.std.proofs.Common.{eqb, rules, tests}
use Rattle.std.proofs.lemmas.Iterator.{YieldsList-from_slice}
use Rattle.std.proofs.lemmas.Iterator.Search.{position_from_yields_List}
use Rattle.std.proofs.lemmas.List.{take_rest}
use Rattle.std.proofs.lemmas.Option.{MatchOption-at_none, MatchOption-at_some}
use Rattle.reader.proofs.Heads.{placed}
use Rattle.reader.proofs.parts.split_once.Goals as goal

pub returns-in_err-at : goal.returns-in_err-at
returns-in_err-at c =
    let p = placed c.args.byte c.args.bytes.now _ (position_from_yields_List (λ b. eqb b c.args.byte) _ _ c.position.result c.position.ensures.ran (YieldsList-from_slice c.args.bytes.now (cc)) (λ x b q k. search (rules, tests))) in
    let h = MatchOption-at_none _ _ c.in_err-at.was p in
    search rules

pub returns : goal.returns
returns c =
    let p = placed c.args.byte c.args.bytes.now _ (position_from_yields_List (λ b. eqb b c.args.byte) _ _ c.position.result c.position.ensures.ran (YieldsList-from_slice c.args.bytes.now (cc)) (λ x b q k. search (rules, tests))) in
    let h = MatchOption-at_some _ _ _ c.in_ok-at.was p in
    search (rules, take_rest)
