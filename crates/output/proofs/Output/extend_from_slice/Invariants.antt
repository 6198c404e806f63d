use Rattle.std.proofs.Common.{drop}
use Rattle.output.proofs.Putting.{PutsSo}
use Rattle.output.proofs.Output.extend_from_slice.Given as goal

abbrev pub invariant-loop-byte : goal.invariant-loop-byte
invariant-loop-byte l = PutsSo (λ t. t) l.text (drop l.byte-index l.text) l.initial.self l.self
