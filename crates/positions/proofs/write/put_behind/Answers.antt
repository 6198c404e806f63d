use Rattle.std.proofs.Common.{◌+◌, [], ◌∷◌, drop, sym, ap}
use Rattle.std.proofs.lemmas.List.{drop_more, drop_all}
use Rattle.output.proofs.Putting.{puts_then, puts_more, puts_all}
use Rattle.positions.specs.Values.{text_behind}
use Rattle.positions.proofs.write.put_behind.Goals as goal

pub loop-value-preserved : goal.loop-value-preserved
loop-value-preserved c =
    let vs = c.args.values.now in
    let i = c.loop-value.value-index in
    let v = c.value_byte.result in
    puts_more text_behind vs (32 ∷ v ∷ []) (drop_more vs i 0 c.loop-value-test.true) (ap (λ b. 32 ∷ b ∷ text_behind (drop (i + 1) vs)) (sym c.value_byte.ensures))
    (puts_then (32 ∷ []) (v ∷ []) c.push.ensures c.push-in-loop-value.ensures) c.loop-value.invariant

pub returns : goal.returns
returns c = puts_all text_behind c.args.values.now (drop_all c.loop-value.value-index c.args.values.now c.loop-value-test.false) c.push-2.ensures c.loop-value.invariant
