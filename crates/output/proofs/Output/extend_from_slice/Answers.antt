use Rattle.std.proofs.Common.{[], ◌∷◌, get_or, refl}
use Rattle.std.proofs.lemmas.List.{drop_more, drop_all}
use Rattle.output.proofs.Putting.{puts_none, puts_more, puts_all}
use Rattle.output.proofs.Output.extend_from_slice.Goals as goal

pub loop-byte-preserved : goal.loop-byte-preserved
loop-byte-preserved c =
    puts_more (λ t. t) c.args.text.now (get_or c.args.text.now c.loop-byte.byte-index 0 ∷ []) (drop_more c.args.text.now c.loop-byte.byte-index 0 c.loop-byte-test.true) refl c.push.ensures c.loop-byte.invariant

pub returns : goal.returns
returns c = puts_all (λ t. t) c.args.text.now (drop_all c.loop-byte.byte-index c.args.text.now c.loop-byte-test.false) (puts_none _) c.loop-byte.invariant
