use Rattle.std.proofs.Common.{◌≡◌, length}
use Rattle.reader.specs.Scanning.{words_of}
use Rattle.reader.proofs.scanner.Scanner.skip_blanks.Given as goal

abbrev pub invariant-loop-self : goal.invariant-loop-self
invariant-loop-self l = words_of l.self ≡ words_of l.initial.self

abbrev pub decreases-loop-self : goal.decreases-loop-self
decreases-loop-self l = length l.self.rest.now
