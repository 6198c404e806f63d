-- What a formula that was read without a fault comes to, and where the history of two files leads.
use Rattle.std.proofs.Common.{◌≡◌, ℕ, true, List, length, IfOk, Some, None, Ok, Err, Option, Result, sym, refl, ap, ◌∙◌, subst}
use Rattle.std.specs.Option.{option_map}
use Rattle.words.specs.declared.fault.LocatedFault.{LocatedFault}
use Rattle.words.specs.declared.limits.Limits.{Limits}
use Rattle.words.specs.Checks.{fault_of, unless}
use Rattle.words.specs.Standing.{Entry}
use Rattle.rules.specs.Restoring.{Saved, Room}
use Rattle.rules.specs.Histories.{History, after, seal, phase, finished, variables_of, standing_by}
use Rattle.rules.specs.Runs.{empty_stands}
use Rattle.acceptance.proofs.Passing.{none_not_some}
use Rattle.theory.specs.Leading.{Leads, ToChecking, ToFinished}
use Rattle.theory.proofs.Led.{seal_leads, finish_leads, write_leads}
use Rattle.marking.specs.Marking.{clean_marks}
use Rattle.writer.specs.Writing.{write_fault}
use Rattle.reader.specs.Formulas.{Outcome, read_text}
use Rattle.reader.specs.Loads.{formula_history}
use Rattle.reader.proofs.Loads.{Told, text_leads}
use Rattle.trace.specs.Traces.{Progress, read_trace}
use Rattle.trace.specs.Sent.{with_trace}
use Rattle.trace.proofs.Sending.{trace_leads}
use Rattle.files.specs.declared.report.Report.{Report}
use Rattle.files.specs.Outcomes.{Whole, sealed, written, traced, loaded_so, whole}
use Rattle.files.specs.Made.{with_finish, with_end, with_rest, files_history}
use Rattle.files.specs.Reports.{Tells, Answers, LeadsToEnd, LeadsToReport}

-- a formula that was read without a fault: the trace is read in the sealed session
pub formula_accepted : (marks : List ℕ) (l l' : Limits) (room : Room) (saves : List Saved) (n : ℕ) (trace : List ℕ) (o : Outcome) (v k a : ℕ) (s : List Entry) →
    l' ≡ l → None ≡ o.fault → v ≡ o.variables → k ≡ o.accepted → a ≡ 0 → s ≡ o.entries →
    traced n v (read_trace marks l' room (record { given = k; accepted = a; entries = s; saves = saves }) trace) ≡ loaded_so marks l room saves n trace o
formula_accepted marks l l' room saves n trace o v k a s el ef ev ek ea es =
    let p : record { given = k; accepted = a; entries = s; saves = saves } ≡ sealed o saves = cc in
    ap (λ x. traced n v (read_trace marks x room (record { given = k; accepted = a; entries = s; saves = saves }) trace)) el ∙
    ap (λ x. traced n x (read_trace marks l room (record { given = k; accepted = a; entries = s; saves = saves }) trace)) ev ∙
    ap (λ (x : Progress). traced n o.variables (read_trace marks l room x trace)) p ∙
    ap (λ x. unless x (traced n o.variables (read_trace marks l room (sealed o saves) trace)) (record { fault = x; variables = o.variables; reached = sealed o saves })) ef

module _ (marks : List ℕ) (l : Limits) (room : Room) (s : List Entry) (saves : List Saved) (n : ℕ) (clean : clean_marks marks ≡ true) where
  -- a history, or none, leads to what the files come to; without one there is a fault, and without a fault the session is finished
  abbrev Comes : Option History → Whole → Type 0
  Comes None w = (w.reached.entries ≡ s) × (w.reached.saves ≡ saves) × (w.fault ≡ None → ⊥)
  Comes (Some h) w = Leads l room h w.variables w.reached.entries w.reached.saves × (w.fault ≡ None → phase h ≡ finished)

  -- finishing and writing
  end_leads : (h : History) (v : ℕ) (p : Progress) → ToChecking l room h v p.given p.accepted p.entries p.saves → ToFinished l room (with_end n h) v p.entries p.saves
  end_leads h v p t =
      write_leads l room (with_finish h) v p.entries p.saves (write_fault (variables_of h) (standing_by h) n)
      (finish_leads l room h v p.entries p.saves p.given p.accepted _ _ _ t (sym t.lines) (ap length (sym t.state.standing)) (ap empty_stands (sym t.state.standing)))

  -- after a trace, by its fault
  rest_leads : (h : History) (v : ℕ) (p : Progress) (f : Option LocatedFault) → ToChecking l room h v p.given p.accepted p.entries p.saves →
      Comes (Some (unless f (with_end n h) h)) (unless f (written n v p) (record { fault = f; variables = v; reached = p }))
  rest_leads h v p None t = let d = end_leads h v p t in (d.state, λ e. d.now_finished)
  rest_leads h v p (Some f) t = (t.state, λ e. absurd (none_not_some f (sym e)))

  -- after a formula, by its fault
  both_lead : (formula trace : List ℕ) (h : Option History) (o : Outcome) (f : Option LocatedFault) → f ≡ o.fault → Told l room saves s formula h o →
      Comes (unless f (option_map (with_rest l room n trace (read_trace marks l room (sealed o saves) trace).fault) h) h)
      (unless f (traced n o.variables (read_trace marks l room (sealed o saves) trace)) (record { fault = f; variables = o.variables; reached = sealed o saves }))
  both_lead formula trace None o None e t = absurd (t.1 (sym e))
  both_lead formula trace None o (Some f) e t = (t.0, refl, λ x. none_not_some f (sym x))
  both_lead formula trace (Some h) o None e t =
      rest_leads (with_trace l room (after h seal) trace) o.variables (read_trace marks l room (sealed o saves) trace).reached (read_trace marks l room (sealed o saves) trace).fault
      (trace_leads marks l room o.variables clean trace (after h seal) (sealed o saves) (seal_leads l room h o.variables o.entries saves o.accepted t))
  both_lead formula trace (Some h) o (Some f) e t = (t.state, λ x. absurd (none_not_some f (sym x)))

  whole_leads : (formula trace : List ℕ) → Comes (files_history marks l room s saves n formula trace) (whole marks l room s saves n formula trace)
  whole_leads formula trace =
      both_lead formula trace (formula_history l s saves formula) (read_text l s saves formula) (read_text l s saves formula).fault refl (text_leads l room saves s formula)

  -- what the code answers
  answer_leads : (h : Option History) (w : Whole) (r : Result Report LocatedFault) (s' : List Entry) (saves' : List Saved) (b b' : List ℕ) →
      Answers w r s' saves' b b' → Comes h w → LeadsToReport l room h r s saves s' saves'
  answer_leads None w r s' saves' b b' d c = (d.entries ∙ c.0, d.saved ∙ c.1)
  answer_leads (Some h) w r s' saves' b b' d c =
      by_answer r d.fault d.report (subst (λ x. Leads l room h w.variables s' x) (sym d.saved) (subst (λ x. Leads l room h w.variables x w.reached.saves) (sym d.entries) c.0))
    where
      by_answer : (r : Result Report LocatedFault) → fault_of r ≡ w.fault → IfOk r (Tells w) → Leads l room h w.variables s' saves' → LeadsToEnd l room h r s' saves'
      by_answer (Ok x) ef t st = record { state = subst (λ v. Leads l room h v s' saves') (sym t.variables) st; now_finished = c.1 (sym ef) }
      by_answer (Err f) ef t st = subst (λ v. Leads l room h v s' saves') st.variables st

  pub files_lead : (formula trace : List ℕ) (r : Result Report LocatedFault) (s' : List Entry) (saves' : List Saved) (b b' : List ℕ) →
      Answers (whole marks l room s saves n formula trace) r s' saves' b b' → LeadsToReport l room (files_history marks l room s saves n formula trace) r s saves s' saves'
  files_lead formula trace r s' saves' b b' d =
      answer_leads (files_history marks l room s saves n formula trace) (whole marks l room s saves n formula trace) r s' saves' b b' d (whole_leads formula trace)
