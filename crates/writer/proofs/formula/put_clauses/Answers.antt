use Rattle.std.proofs.Common.{refl}
use Rattle.database.specs.Walks.{entry_of}
use Rattle.output.proofs.Putting.{puts_none, puts_more, puts_all}
use Rattle.writer.specs.Text.{clause_text, clauses_text}
use Rattle.writer.proofs.formula.put_clauses.Goals as goal

pub loop-entry-preserved : goal.loop-entry-preserved
loop-entry-preserved g c =
    puts_more clauses_text (g.D.ClauseDatabase.standing c.args.db.now) (clause_text (entry_of c.in-Some.entry).lits) c.in-Some.ensures.steps refl c.put_clause.ensures c.loop-entry.invariant

pub returns : goal.returns
returns g c = puts_all clauses_text (g.D.ClauseDatabase.standing c.args.db.now) c.in-None.ensures.steps.0 (puts_none _) c.loop-entry.invariant
