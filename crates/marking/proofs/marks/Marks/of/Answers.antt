use Rattle.std.proofs.Common.{ap, ◌∙◌}
use Rattle.words.specs.Meanings.{lits_of}
use Rattle.marking.specs.Marking.{with_marks}
use Rattle.marking.proofs.Looking.{marked_clean}
use Rattle.marking.proofs.marks.Marks.of.Goals as goal

-- in bytes that were clean the clause is marked
pub returns-clause-marked : goal.returns-clause-marked
returns-clause-marked c z =
    marked_clean _ (lits_of c.args.clause.now) c.args.clause.now.rises (c.set.ensures.after ∙ ap (λ b. with_marks b (lits_of c.args.clause.now)) z)
