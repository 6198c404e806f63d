use Rattle.std.proofs.Common.{take, ap, ◌∙◌}
use Rattle.words.specs.Literals.{literals_ok}
use Rattle.words.proofs.Inserts.{literals_of_rising}
use Rattle.words.proofs.clause_literals.RefClauseIntoIterator.into_iter.Goals as goal

pub invariant_of-result : goal.invariant_of-result
invariant_of-result c = record { each = ap (literals_ok 512) c.literals.ensures ∙ literals_of_rising 512 0 (take c.args.self.now.len c.args.self.now.lits) c.args.self.now.rises }
