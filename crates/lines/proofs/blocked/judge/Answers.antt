use Rattle.std.proofs.Common.{◌≡◌, length, replicate, Err, Result, sym, subst, ap, ◌∙◌, rules}
use Rattle.words.specs.declared.clause.Clause.{Clause}
use Rattle.words.specs.declared.fault.SessionFault.{SessionFault}
use Rattle.words.specs.declared.fault.SessionFault.TheVariants.{Missing}
use Rattle.rules.specs.Lines.{first_unblocked}
use Rattle.lines.specs.Judging.{b_line, BlockedJudged}
use Rattle.lines.proofs.Faults.{read, unread}
use Rattle.lines.proofs.Judges.{b_missing, b_lacking, b_unblocked, b_passes}
use Rattle.lines.proofs.blocked.judge.Goals as goal

pub returns-in_err-c-clause-judged : goal.returns-in_err-c-clause-judged
returns-in_err-c-clause-judged g c =
    let s = g.D.ClauseDatabase.standing c.args.db.now in
    let u = unread _ _ _ _ c.in_err-c.ensures.value c.clause.ensures in
    let f = u.1 in
    let e : ◌≡◌ {A = Result Clause SessionFault} c.from_residual.result (Err (Missing c.args.clause.value)) = search rules in
    subst (BlockedJudged s (b_line c.args.clause.value c.args.pivot.value)) (sym e) (b_missing c.args.clause.value c.args.pivot.value s u.0)

pub returns-then-not-has : goal.returns-then-not-has
returns-then-not-has g c =
    record { judged = b_lacking c.args.clause.value c.args.pivot.value (g.D.ClauseDatabase.standing c.args.db.now) _ (read _ _ _ _ c.in_ok-c.ensures.value c.clause.ensures) c.if-not-has.ensures; marks = c.requires }

pub first_unblocked-requires : goal.first_unblocked-requires
first_unblocked-requires g c = c.of-marks.ensures.held c.requires

pub returns-in-Some : goal.returns-in-Some
returns-in-Some g c =
    let n1 = c.of-marks.ensures.same in
    let d : c.drop-marks.new.self.0 ≡ replicate 1024 0 = c.drop-marks.ensures ∙ ap (λ n. replicate n 0) (c.of-marks.ensures.len ∙ ap length c.requires) in
    let w = c.in-Some.ensures ∙ ap (λ x. first_unblocked c.args.pivot.value x (g.D.ClauseDatabase.standing c.args.db.now)) c.of-marks.ensures.clause in
    record { judged = b_unblocked c.args.clause.value c.args.pivot.value (g.D.ClauseDatabase.standing c.args.db.now) _ (read _ _ _ _ c.in_ok-c.ensures.value c.clause.ensures) c.if-not-has.ensures _ w; marks = search rules }

pub returns : goal.returns
returns g c =
    let n1 = c.of-marks.ensures.same in
    let d : c.drop-marks-2.new.self.0 ≡ replicate 1024 0 = c.drop-marks-2.ensures ∙ ap (λ n. replicate n 0) (c.of-marks.ensures.len ∙ ap length c.requires) in
    let w = c.in-None.ensures ∙ ap (λ x. first_unblocked c.args.pivot.value x (g.D.ClauseDatabase.standing c.args.db.now)) c.of-marks.ensures.clause in
    record { judged = b_passes c.args.clause.value c.args.pivot.value (g.D.ClauseDatabase.standing c.args.db.now) _ (read _ _ _ _ c.in_ok-c.ensures.value c.clause.ensures) c.if-not-has.ensures w; marks = search rules }
