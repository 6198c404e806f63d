use Rattle.std.proofs.Common.{drop}
use Rattle.output.proofs.Putting.{PutsSo}
use Rattle.positions.specs.Values.{position_values}
use Rattle.positions.proofs.read.put_values.Given as goal

abbrev pub invariant-loop-byte : goal.invariant-loop-byte
invariant-loop-byte l = PutsSo position_values l.text (drop l.byte-index l.text) l.initial.out l.out
