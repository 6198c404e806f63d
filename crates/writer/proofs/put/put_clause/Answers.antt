use Rattle.std.proofs.Common.{[], ◌∷◌, ap, w16, SFits, rules}
use Rattle.std.proofs.lemmas.Int.{to_z-of_z}
use Rattle.std.proofs.lemmas.List.{append_assoc}
use Rattle.words.specs.Meanings.{lits_of}
use Rattle.output.proofs.Putting.{puts_is, puts_then, puts_more, puts_all}
use Rattle.writer.specs.Text.{literal_text, literals_text, clause_text}
use Rattle.writer.proofs.put.put_clause.Goals as goal

pub loop-literal-preserved : goal.loop-literal-preserved
loop-literal-preserved c =
    let z = c.in-Some.literal.value in
    let fits : SFits w16 z = search rules in
    let put = puts_is (ap literal_text (to_z-of_z w16 z fits)) (puts_then _ (32 ∷ []) c.put_number.ensures c.push.ensures) in
    puts_more clause_text (lits_of c.args.clause.now) (literal_text z) c.in-Some.ensures.steps (append_assoc (literal_text z) (literals_text _) _) put c.loop-literal.invariant

pub returns : goal.returns
returns c = puts_all clause_text (lits_of c.args.clause.now) c.in-None.ensures.steps.0 c.extend_from_slice.ensures c.loop-literal.invariant
