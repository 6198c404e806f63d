use Rattle.std.proofs.Common.{length, ◌∙◌, rules, subst}
use Rattle.reconstruction.specs.Meanings.{saved, room_of}
use Rattle.reader.specs.Formulas.{read_text}
use Rattle.files.specs.Outcomes.{Whole}
use Rattle.files.specs.Reports.{Answers}
use Rattle.files.proofs.Leading.{formula_accepted, files_lead}
use Rattle.files.proofs.checking.check_files.Goals as goal

pub returns-in_err-read_formula-clause-outcome : goal.returns-in_err-read_formula-clause-outcome
returns-in_err-read_formula-clause-outcome g c = search rules

pub returns-in_err-read_formula-clause-history : goal.returns-in_err-read_formula-clause-history
returns-in_err-read_formula-clause-history g c clean =
    files_lead c.args.marks.now (g.D.ClauseDatabase.limited c.args.db.now) (room_of c.args.stack.now) (g.D.ClauseDatabase.standing c.args.db.now) (saved c.args.stack.now) (length c.args.buffer.now) clean
    c.args.formula.now c.args.trace.now _ _ _ _ _ (returns-in_err-read_formula-clause-outcome g c)

pub returns-clause-outcome : goal.returns-clause-outcome
returns-clause-outcome g c =
    let e = c.in_ok-read_formula.ensures in
    let f = c.check_trace.ensures in
    let q = c.seal-session.ensures in
    let d = e.outcome in
    let l = g.D.ClauseDatabase.limited c.args.db.now in
    let o = read_text l (g.D.ClauseDatabase.standing c.args.db.now) (saved c.args.stack.now) c.args.formula.now in
    subst (λ (x : Whole). Answers x c.check_trace.result (g.D.ClauseDatabase.standing c.check_trace.new.db) (saved c.check_trace.new.stack) c.args.buffer.now c.check_trace.new.buffer)
    (formula_accepted c.args.marks.now l _ (room_of c.args.stack.now) (saved c.args.stack.now) (length c.args.buffer.now) c.args.trace.now o _ _ _ _
    e.limits d.fault (q.variables ∙ d.variables) (q.given ∙ d.loaded) q.accepted d.entries) f.outcome

pub returns-clause-history : goal.returns-clause-history
returns-clause-history g c clean =
    files_lead c.args.marks.now (g.D.ClauseDatabase.limited c.args.db.now) (room_of c.args.stack.now) (g.D.ClauseDatabase.standing c.args.db.now) (saved c.args.stack.now) (length c.args.buffer.now) clean
    c.args.formula.now c.args.trace.now _ _ _ _ _ (returns-clause-outcome g c)
