-- The history that a trace makes leads to what its reading reaches.
use Rattle.std.proofs.Common.{◌≡◌, ℕ, ◌+◌, Bool, true, false, cond, ◌&&◌, leb, List, [], ◌∷◌, length, drop, Some, None, Ok, Err, Option, Result, sym, refl, ap, ◌∙◌, subst}
use Rattle.words.specs.declared.fault.FileFault.{FileFault}
use Rattle.words.specs.declared.fault.SessionFault.{SessionFault}
use Rattle.words.specs.declared.fault.FileFault.TheVariants.{Session, NamesWrong, TooManyBytes}
use Rattle.words.specs.declared.limits.Limits.{Limits}
use Rattle.words.specs.declared.line.Line.{Line}
use Rattle.words.specs.Checks.{unless, inside}
use Rattle.rules.specs.Restoring.{Room}
use Rattle.rules.specs.Lines.{line_fault}
use Rattle.rules.specs.Histories.{History, after, submit, standing_by, given_by}
use Rattle.theory.specs.Leading.{ToChecking}
use Rattle.theory.proofs.Led.{submit_leads}
use Rattle.marking.specs.Marking.{clean_marks}
use Rattle.lines.specs.Submitting.{submit_fault}
use Rattle.lines.proofs.Submits.{line_judged}
use Rattle.reader.specs.Headers.{begins}
use Rattle.textlines.specs.Lines.{TextLine, text_lines}
use Rattle.trace.specs.Traces.{Progress, names, proof_line, sent, sent_fault, stopped, read_lines, read_trace}
use Rattle.trace.specs.Sent.{answer, with_lines, with_trace}

module _ (marks : List ℕ) (l : Limits) (room : Room) (v : ℕ) (clean : clean_marks marks ≡ true) where
  -- a history leads to what was reached
  abbrev Reaches : History → Progress → Type 0
  Reaches h p = ToChecking l room h v p.given p.accepted p.entries p.saves

  -- the answer of a line is the same, reckoned from the history
  same_answer : (h : History) (p : Progress) (line : Line) → Reaches h p → submit_fault marks l room p.given p.entries p.saves line ≡ answer l room h line
  same_answer h p line t =
      let st = t.state in
      line_judged marks l room p.given p.entries p.saves line clean ∙
      ap (λ x. line_fault l room x p.entries p.saves line) t.given ∙ ap (λ x. line_fault l room (given_by h) x p.saves line) st.standing ∙ ap (λ x. line_fault l room (given_by h) (standing_by h) x line) st.saved

  -- one line before others, of which it is known that they lead on
  module _ (xs : List TextLine) (on : (n : ℕ) (h : History) (p : Progress) → Reaches h p → Reaches (with_lines l room h xs) (read_lines marks l room n p xs).reached) (n : ℕ) (h : History) (p : Progress) (t : Reaches h p) where
    -- by the answer of the line
    answer_leads : (line : Line) (f : Option SessionFault) → f ≡ line_fault l room p.given p.entries p.saves line →
        Reaches (unless f (with_lines l room (after h (submit line None)) xs) (after h (submit line f)))
        (unless (inside Session f) (read_lines marks l room (n + 1) (sent p (Ok line)) xs) (stopped n p (inside Session f))).reached
    answer_leads line None e =
        on (n + 1) (after h (submit line None)) (sent p (Ok line)) (submit_leads l room h v p.entries p.saves p.given p.accepted _ _ _ _ line None t e refl refl refl refl)
    answer_leads line (Some f) e = submit_leads l room h v p.entries p.saves p.given p.accepted _ _ _ _ line (Some f) t e refl refl refl refl

    -- by what the line is
    line_leads : (o : Result Line FileFault) →
        Reaches (elim o [ Err f ↦ h | Ok line ↦ unless (answer l room h line) (with_lines l room (after h (submit line None)) xs) (after h (submit line (answer l room h line))) ])
        (unless (sent_fault marks l room p o) (read_lines marks l room (n + 1) (sent p o) xs) (stopped n p (sent_fault marks l room p o))).reached
    line_leads (Err f) = t
    line_leads (Ok line) =
        let same = same_answer h p line t in
        let judged = line_judged marks l room p.given p.entries p.saves line clean in
        subst
        (λ f. Reaches (unless (answer l room h line) (with_lines l room (after h (submit line None)) xs) (after h (submit line (answer l room h line)))) (unless (inside Session f) (read_lines marks l room (n + 1) (sent p (Ok line)) xs) (stopped n p (inside Session f))).reached)
        (sym same)
        (answer_leads line (answer l room h line) (sym same ∙ judged))

  -- the lines of a trace
  pub lines_lead : (xs : List TextLine) (n : ℕ) (h : History) (p : Progress) → Reaches h p → Reaches (with_lines l room h xs) (read_lines marks l room n p xs).reached
  lines_lead [] n h p t = t
  lines_lead (x ∷ xs) n h p t = line_leads xs (lines_lead xs) n h p t (proof_line x)

  -- a trace: its size, its names, its lines
  sized_leads : (text : List ℕ) (h : History) (p : Progress) (b c : Bool) → Reaches h p →
      Reaches (cond (b && c) (with_lines l room h (text_lines (drop 31 text))) h)
      (cond b (cond c (read_lines marks l room 2 p (text_lines (drop 31 text))) (stopped 1 p (Some NamesWrong))) (stopped 0 p (Some TooManyBytes))).reached
  sized_leads text h p true true t = lines_lead (text_lines (drop 31 text)) 2 h p t
  sized_leads text h p true false t = t
  sized_leads text h p false c t = t

  pub trace_leads : (text : List ℕ) (h : History) (p : Progress) → Reaches h p → Reaches (with_trace l room h text) (read_trace marks l room p text).reached
  trace_leads text h p t = sized_leads text h p (leb (length text) 65536) (begins names text) t

  -- of what the code has reached
  pub reached_leads : (text : List ℕ) (h : History) (p p' : Progress) → p' ≡ (read_trace marks l room p text).reached → Reaches h p → Reaches (with_trace l room h text) p'
  reached_leads text h p p' e t = subst (λ x. Reaches (with_trace l room h text) x) (sym e) (trace_leads text h p t)
