use Rattle.std.proofs.Common.{[], List, length, ap, ◌∙◌, subst}
use Rattle.rules.specs.Restoring.{Saved}
use Rattle.reconstruction.specs.Meanings.{saved}
use Rattle.reader.specs.Formulas.{read_text}
use Rattle.files.specs.Outcomes.{Whole}
use Rattle.files.specs.Reports.{Answers}
use Rattle.clausecheck.specs.Alone.{alone}
use Rattle.clausecheck.proofs.Accepted.{alone_accepted}
use Rattle.clausecheck.proofs.check.Goals as goal

pub returns : goal.returns
returns g c =
    let e = c.in_ok-loading.ensures in
    let d = e.outcome in
    let q = c.seal.ensures in
    let n = length c.args.buffer.now in
    let s = g.D.ClauseDatabase.standing c.read_formula.new.db in
    let o = λ (saves : List Saved). read_text (g.D.ClauseDatabase.limited c.args.db.now) (g.D.ClauseDatabase.standing c.args.db.now) saves c.args.formula.now in
    subst (λ (x : Whole). Answers x c.finish_and_write.result s [] c.args.buffer.now c.finish_and_write.new.buffer)
    (alone_accepted n (o (saved c.new-stack.result)) _ _ _ _ d.fault (q.variables ∙ d.variables) (q.given ∙ d.loaded) q.accepted d.entries ∙
    ap (λ saves. alone n (o saves)) c.new-stack.ensures.saved) (c.finish_and_write.ensures.outcome [])
