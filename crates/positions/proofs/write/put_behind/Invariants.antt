use Rattle.std.proofs.Common.{drop}
use Rattle.output.proofs.Putting.{PutsSo}
use Rattle.positions.specs.Values.{text_behind}
use Rattle.positions.proofs.write.put_behind.Given as goal

abbrev pub invariant-loop-value : goal.invariant-loop-value
invariant-loop-value l = PutsSo text_behind l.values (drop l.value-index l.values) l.initial.out l.out
