use Rattle.std.proofs.Common.{◌≡◌, length, replicate, Err, Result, sym, subst, ap, ◌∙◌, arith, rules}
use Rattle.words.specs.declared.clause.Clause.{Clause}
use Rattle.words.specs.declared.fault.SessionFault.{SessionFault}
use Rattle.words.specs.declared.fault.SessionFault.TheVariants.{Missing}
use Rattle.words.specs.Clauses.{opposed, resolvent}
use Rattle.words.specs.Meanings.{lits_of}
use Rattle.marking.proofs.Unions.{unopposed}
use Rattle.lines.proofs.Faults.{read, unread}
use Rattle.lines.proofs.Resolves.{first_missing, second_missing, first_lacking, second_lacking, tautology, built}
use Rattle.lines.specs.Judging.{resolution_line, ResolveJudged}
use Rattle.lines.proofs.resolve.judge.Goals as goal

pub returns-in_err-a-clause-judged : goal.returns-in_err-a-clause-judged
returns-in_err-a-clause-judged g c =
    let s = g.D.ClauseDatabase.standing c.args.db.now in
    let u = unread _ _ _ _ c.in_err-a.ensures.value c.clause.ensures in
    let f = u.1 in
    let e : ◌≡◌ {A = Result Clause SessionFault} c.from_residual.result (Err (Missing c.args.line.first.value)) = search rules in
    subst (ResolveJudged c.args.given s (resolution_line c.args.line)) (sym e) (first_missing c.args.given c.args.line.number.value c.args.line.pivot.value c.args.line.first.value c.args.line.second.value s (omega arith) u.0)

pub returns-in_err-b-clause-judged : goal.returns-in_err-b-clause-judged
returns-in_err-b-clause-judged g c =
    let s = g.D.ClauseDatabase.standing c.args.db.now in
    let u = unread _ _ _ _ c.in_err-b.ensures.value c.clause-2.ensures in
    let f = u.1 in
    let e : ◌≡◌ {A = Result Clause SessionFault} c.from_residual-in_err-b.result (Err (Missing c.args.line.second.value)) = search rules in
    subst (ResolveJudged c.args.given s (resolution_line c.args.line)) (sym e) (second_missing c.args.given c.args.line.number.value c.args.line.pivot.value c.args.line.first.value c.args.line.second.value s (omega arith) _ (read _ _ _ _ c.in_ok-a.ensures.value c.clause.ensures) u.0)

pub returns-then-not-has : goal.returns-then-not-has
returns-then-not-has g c =
    record {
      judged = first_lacking c.args.given c.args.line.number.value c.args.line.pivot.value c.args.line.first.value c.args.line.second.value (g.D.ClauseDatabase.standing c.args.db.now) (omega arith) _ (read _ _ _ _ c.in_ok-a.ensures.value c.clause.ensures) _ (read _ _ _ _ c.in_ok-b.ensures.value c.clause-2.ensures) c.if-not-has.ensures;
      marks = c.requires;
    }

pub returns-then-not-has-2 : goal.returns-then-not-has-2
returns-then-not-has-2 g c =
    record {
      judged = second_lacking c.args.given c.args.line.number.value c.args.line.pivot.value c.args.line.first.value c.args.line.second.value (g.D.ClauseDatabase.standing c.args.db.now) (omega arith) _ (read _ _ _ _ c.in_ok-a.ensures.value c.clause.ensures) _ (read _ _ _ _ c.in_ok-b.ensures.value c.clause-2.ensures) c.if-not-has.ensures _ c.negated.ensures c.if-not-has-2.ensures;
      marks = c.requires;
    }

pub returns-then-opposes : goal.returns-then-opposes
returns-then-opposes g c =
    let n1 = c.of-marks.ensures.same in
    let d : c.drop-marks.new.self.0 ≡ replicate 1024 0 = c.drop-marks.ensures ∙ ap (λ n. replicate n 0) (c.of-marks.ensures.len ∙ ap length c.requires) in
    let o = sym (ap (λ x. opposed (resolvent c.args.line.pivot.value x (lits_of c.in_ok-b.b))) c.of-marks.ensures.clause) ∙ c.if-opposes.ensures.tells (c.of-marks.ensures.held c.requires) in
    record {
      judged = tautology c.args.given c.args.line.number.value c.args.line.pivot.value c.args.line.first.value c.args.line.second.value (g.D.ClauseDatabase.standing c.args.db.now) (omega arith) _ (read _ _ _ _ c.in_ok-a.ensures.value c.clause.ensures) _ (read _ _ _ _ c.in_ok-b.ensures.value c.clause-2.ensures) c.if-not-has.ensures _ c.negated.ensures c.if-not-has-2.ensures o;
      marks = search rules;
    }

pub returns : goal.returns
returns g c =
    let n1 = c.of-marks.ensures.same in
    let d : c.drop-marks-2.new.self.0 ≡ replicate 1024 0 = c.drop-marks-2.ensures ∙ ap (λ n. replicate n 0) (c.of-marks.ensures.len ∙ ap length c.requires) in
    let o = sym (ap (λ x. opposed (resolvent c.args.line.pivot.value x (lits_of c.in_ok-b.b))) c.of-marks.ensures.clause) ∙ c.if-opposes.ensures.tells (c.of-marks.ensures.held c.requires) in
    let b =
    built c.args.given c.args.line.number.value c.args.line.pivot.value c.args.line.first.value c.args.line.second.value (g.D.ClauseDatabase.standing c.args.db.now) (omega arith) _ (read _ _ _ _ c.in_ok-a.ensures.value c.clause.ensures) _ (read _ _ _ _ c.in_ok-b.ensures.value c.clause-2.ensures) c.if-not-has.ensures _ c.negated.ensures c.if-not-has-2.ensures o
    c.resolvent.result (c.resolvent.ensures ∙ unopposed c.args.line.pivot.value (lits_of c.in_ok-a.a) (lits_of c.in_ok-b.b) o) in
    record { judged = subst (ResolveJudged c.args.given (g.D.ClauseDatabase.standing c.args.db.now) (resolution_line c.args.line)) (sym c.ok_or-3.ensures.value) b; marks = search rules }
