use Rattle.std.proofs.Common.{◌≡◌, length, replicate, Err, Result, ap, ◌∙◌, rules}
use Rattle.words.specs.declared.fault.SessionFault.{SessionFault}
use Rattle.words.specs.declared.fault.SessionFault.TheVariants.{Missing}
use Rattle.words.specs.Checks.{fault_of}
use Rattle.words.specs.Clauses.{subset}
use Rattle.words.specs.Meanings.{lits_of}
use Rattle.lines.proofs.Faults.{read, unread}
use Rattle.lines.proofs.Judges.{s_clause_missing, s_first_missing, s_same, s_not_in, s_passes}
use Rattle.lines.proofs.subsumed.judge.Goals as goal

pub returns-in_err-c-clause-fault : goal.returns-in_err-c-clause-fault
returns-in_err-c-clause-fault g c =
    let u = unread _ _ _ _ c.in_err-c.ensures.value c.clause.ensures in
    let f = u.1 in
    let e : ◌≡◌ {A = Result (Unit {0}) SessionFault} c.from_residual.result (Err (Missing c.args.clause.value)) = search rules in
    ap fault_of e ∙ s_clause_missing c.args.clause.value c.args.first.value (g.D.ClauseDatabase.standing c.args.db.now) u.0

pub returns-in_err-d-clause-fault : goal.returns-in_err-d-clause-fault
returns-in_err-d-clause-fault g c =
    let u = unread _ _ _ _ c.in_err-d.ensures.value c.clause-2.ensures in
    let f = u.1 in
    let e : ◌≡◌ {A = Result (Unit {0}) SessionFault} c.from_residual-in_err-d.result (Err (Missing c.args.first.value)) = search rules in
    ap fault_of e ∙ s_first_missing c.args.clause.value c.args.first.value (g.D.ClauseDatabase.standing c.args.db.now) _ (read _ _ _ _ c.in_ok-c.ensures.value c.clause.ensures) u.0

pub returns-then-eq : goal.returns-then-eq
returns-then-eq g c =
    record { fault = s_same c.args.clause.value c.args.first.value (g.D.ClauseDatabase.standing c.args.db.now) _ (read _ _ _ _ c.in_ok-c.ensures.value c.clause.ensures) _ (read _ _ _ _ c.in_ok-d.ensures.value c.clause-2.ensures) (search rules); marks = c.requires }

pub returns-then-not-cover : goal.returns-then-not-cover
returns-then-not-cover g c =
    let n1 = c.of-marks.ensures.same in
    let d : c.drop-marks.new.self.0 ≡ replicate 1024 0 = c.drop-marks.ensures ∙ ap (λ n. replicate n 0) (c.of-marks.ensures.len ∙ ap length c.requires) in
    let w = c.if-not-cover.ensures.tells (c.of-marks.ensures.held c.requires) ∙ ap (subset (lits_of c.in_ok-d.d)) c.of-marks.ensures.clause in
    record { fault = s_not_in c.args.clause.value c.args.first.value (g.D.ClauseDatabase.standing c.args.db.now) _ (read _ _ _ _ c.in_ok-c.ensures.value c.clause.ensures) _ (read _ _ _ _ c.in_ok-d.ensures.value c.clause-2.ensures) w; marks = search rules }

pub returns : goal.returns
returns g c =
    let n1 = c.of-marks.ensures.same in
    let d : c.drop-marks-2.new.self.0 ≡ replicate 1024 0 = c.drop-marks-2.ensures ∙ ap (λ n. replicate n 0) (c.of-marks.ensures.len ∙ ap length c.requires) in
    let w = c.if-not-cover.ensures.tells (c.of-marks.ensures.held c.requires) ∙ ap (subset (lits_of c.in_ok-d.d)) c.of-marks.ensures.clause in
    let other : c.args.clause.value ≡ c.args.first.value → ⊥ = search rules in
    record { fault = s_passes c.args.clause.value c.args.first.value (g.D.ClauseDatabase.standing c.args.db.now) _ (read _ _ _ _ c.in_ok-c.ensures.value c.clause.ensures) _ (read _ _ _ _ c.in_ok-d.ensures.value c.clause-2.ensures) other w; marks = search rules }
