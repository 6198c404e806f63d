use Rattle.std.proofs.Common.{◌^◌, ◌<◌, length, ap, ◌∙◌, arith, rules}
use Rattle.positions.specs.Values.{position_values}
use Rattle.output.proofs.Putting.{put_counted}
use Rattle.positions.proofs.Stores.{put_fronted}
use Rattle.positions.proofs.Writing.{values_few}
use Rattle.positions.proofs.read_position.Goals as goal

pub returns : goal.returns
returns c =
    let short : length (position_values c.args.text.now) < 2 ^ 64 = omega (arith, values_few c.args.text.now) in
    let lent = ap (λ b. b.ghost_name) c.over-out.ensures.bytes in
    let old = ap (λ b. b.now) c.over-out.ensures.bytes in
    let same = c.put_values.ensures.same in
    let count = put_counted (position_values c.args.text.now) short c.over-out.ensures.len c.put_values.ensures in
    let after = put_fronted (position_values c.args.text.now) short c.over-out.ensures.len c.put_values.ensures in
    record { count = c.len.ensures ∙ count; after = search rules }
