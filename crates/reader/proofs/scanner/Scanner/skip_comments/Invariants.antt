use Rattle.std.proofs.Common.{◌≡◌, false, length}
use Rattle.reader.specs.Headers.{uncommented}
use Rattle.reader.proofs.scanner.Scanner.skip_comments.Given as goal

abbrev pub invariant-loop-self : goal.invariant-loop-self
invariant-loop-self l = uncommented false l.self.line l.self.rest.now ≡ uncommented false l.initial.self.line l.initial.self.rest.now

abbrev pub decreases-loop-self : goal.decreases-loop-self
decreases-loop-self l = length l.self.rest.now
