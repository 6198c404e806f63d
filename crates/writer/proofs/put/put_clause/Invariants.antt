use Rattle.words.specs.Meanings.{lits_of}
use Rattle.output.proofs.Putting.{PutsSo}
use Rattle.writer.specs.Text.{clause_text}
use Rattle.writer.proofs.put.put_clause.Given as goal

abbrev pub invariant-loop-literal : goal.invariant-loop-literal
invariant-loop-literal l = PutsSo clause_text (lits_of l.clause) l.literal-iterator.rest.now l.initial.out l.out
