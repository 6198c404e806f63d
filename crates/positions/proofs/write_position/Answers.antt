use Rattle.std.proofs.Common.{◌^◌, ◌<◌, length, ap, ◌∙◌, arith, rules}
use Rattle.positions.specs.Values.{position_text}
use Rattle.output.proofs.Putting.{put_counted}
use Rattle.positions.proofs.Stores.{put_fronted}
use Rattle.positions.proofs.Writing.{text_short, read_back}
use Rattle.positions.proofs.write_position.Goals as goal

pub returns : goal.returns
returns c =
    let short : length (position_text c.args.values.now) < 2 ^ 64 = omega (arith, text_short c.args.values.now) in
    let lent = ap (λ b. b.ghost_name) c.over-out.ensures.bytes in
    let old = ap (λ b. b.now) c.over-out.ensures.bytes in
    let same = c.put_position.ensures.same in
    let count = put_counted (position_text c.args.values.now) short c.over-out.ensures.len c.put_position.ensures in
    let after = put_fronted (position_text c.args.values.now) short c.over-out.ensures.len c.put_position.ensures in
    record { count = c.len.ensures ∙ count; after = search rules; back = read_back c.args.values.now }
