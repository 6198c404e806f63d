use Rattle.std.proofs.Common.{◌++◌, sym, refl, ap, ◌∙◌, rules}
use Rattle.words.specs.Checks.{fault_of, unless}
use Rattle.rules.specs.Lines.{line_leaves, line_saves}
use Rattle.reconstruction.specs.Meanings.{saved, room_of}
use Rattle.lines.proofs.Submits.{field_refused, step_judged}
use Rattle.lines.proofs.carry.carry_out.Goals as goal

pub carry_step-requires : goal.carry_step-requires
carry_step-requires g c = c.if-not-clean.ensures.zeros refl

pub returns-in_err-step-clause-fault : goal.returns-in_err-step-clause-fault
returns-in_err-step-clause-fault g c =
    let f =
    field_refused c.args.marks.now (g.D.ClauseDatabase.limited c.args.db.now) (room_of c.args.stack.now) c.args.given (g.D.ClauseDatabase.standing c.args.db.now) (saved c.args.stack.now) c.args.line.now
    (sym c.if-not-clean.ensures.tells) _ c.in_err-step.ensures in
    search rules

pub returns-clause-fault : goal.returns-clause-fault
returns-clause-fault g c =
    step_judged c.args.marks.now (g.D.ClauseDatabase.limited c.args.db.now) (room_of c.args.stack.now) c.args.given (g.D.ClauseDatabase.standing c.args.db.now) (saved c.args.stack.now) c.args.line.now
    (sym c.if-not-clean.ensures.tells) _ _ c.in_ok-step.ensures.1 c.in_ok-step.ensures.0 c.carry_step.ensures.fault

pub returns-clause-database : goal.returns-clause-database
returns-clause-database g c =
    let s = g.D.ClauseDatabase.standing c.args.db.now in
    c.carry_step.ensures.database ∙ ap (λ x. unless (fault_of c.carry_step.result) (line_leaves s x) s) c.in_ok-step.ensures.1

pub returns-clause-stack : goal.returns-clause-stack
returns-clause-stack g c =
    let before = saved c.args.stack.now in
    c.carry_step.ensures.stack ∙ ap (λ x. unless (fault_of c.carry_step.result) (before ++ line_saves (g.D.ClauseDatabase.standing c.args.db.now) x) before) c.in_ok-step.ensures.1

pub returns-clause-marks : goal.returns-clause-marks
returns-clause-marks g c = c.carry_step.ensures.marks ∙ sym (c.if-not-clean.ensures.zeros refl)
