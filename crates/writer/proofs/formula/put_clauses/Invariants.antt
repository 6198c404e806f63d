use Rattle.database.specs.Walks.{above}
use Rattle.output.proofs.Putting.{PutsSo}
use Rattle.writer.specs.Text.{clauses_text}
use Rattle.writer.proofs.formula.put_clauses.Given as goal

abbrev pub invariant-loop-entry : goal.invariant-loop-entry
invariant-loop-entry g l =
    PutsSo clauses_text (g.D.ClauseDatabase.standing l.db) (above l.entry-iterator.above (g.D.ClauseDatabase.standing l.entry-iterator.db.now)) l.initial.out l.out
