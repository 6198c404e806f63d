use Rattle.std.proofs.Common.{◌^◌, ◌<◌, ◌≤◌, ◌++◌, length, ap, ◌∙◌, arith, rules}
use Rattle.std.proofs.lemmas.List.{length-append}
use Rattle.output.proofs.Putting.{puts_is, puts_then, put_counted}
use Rattle.writer.specs.Text.{header_text, clauses_text, formula_text}
use Rattle.writer.proofs.Puts.{put_fronted}
use Rattle.writer.proofs.Bounds.{header_short, lawful_short}
use Rattle.writer.proofs.formula.put_formula.Goals as goal

pub returns : goal.returns
returns g c =
    let s = g.D.ClauseDatabase.standing c.args.db.now in
    let text = formula_text c.args.variables s in
    let few : length s ≤ 1024 = c.requires in
    let a = header_short c.args.variables (length s) (omega arith) (omega arith) in
    let b = lawful_short _ _ (g.met.D.ClauseDatabase.lawful c.args.db.now) in
    let short : length text < 2 ^ 64 = omega (arith, length-append (header_text c.args.variables (length s)) (clauses_text s)) in
    let puts = puts_is (ap (λ n. header_text c.args.variables n ++ clauses_text s) c.count.ensures) (puts_then _ _ c.put_header.ensures c.put_clauses.ensures) in
    let lent = ap (λ b. b.ghost_name) c.over-out.ensures.bytes in
    let old = ap (λ b. b.now) c.over-out.ensures.bytes in
    let same = puts.same in
    let count = put_counted text short c.over-out.ensures.len puts in
    record {
      bytes = λ room. let after = put_fronted text short c.over-out.ensures.len puts (omega (arith, ap length old, room)) in search rules;
      end = c.len.ensures ∙ count;
    }
