use Rattle.output.proofs.Putting.{puts_then}
use Rattle.writer.proofs.formula.put_header.Goals as goal

pub returns : goal.returns
returns c =
    puts_then _ _ c.extend_from_slice.ensures (puts_then _ _ c.put_number.ensures (puts_then _ _ c.push.ensures (puts_then _ _ c.put_number-2.ensures c.push-2.ensures)))
