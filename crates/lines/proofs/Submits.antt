-- A whole line followed: the marks, the fields, and the step that they name.
use Rattle.std.proofs.Common.{◌≡◌, ℕ, true, List, Some, None, Option, sym, ap, ◌∙◌}
use Rattle.words.specs.declared.limits.Limits.{Limits}
use Rattle.words.specs.declared.line.Line.{Line}
use Rattle.words.specs.declared.fault.SessionFault.{SessionFault}
use Rattle.words.specs.declared.fault.SessionFault.TheVariants.{MarksDirty}
use Rattle.words.specs.Checks.{◌then◌}
use Rattle.words.specs.Standing.{Entry}
use Rattle.rules.specs.Restoring.{Saved, Room}
use Rattle.rules.specs.Lines.{field_fault, rule_fault, space_fault, line_fault}
use Rattle.marking.specs.Marking.{clean_marks}
use Rattle.lines.specs.Submitting.{submit_fault}
use Rattle.lines.proofs.Faults.{on}

module _ (marks : List ℕ) (l : Limits) (room : Room) (given : ℕ) (s : List Entry) (saved : List Saved) (line : Line) (clean : clean_marks marks ≡ true) where
  -- a field that is wrong refuses the line
  pub field_refused : (f : SessionFault) → field_fault line ≡ Some f → Some f ≡ submit_fault marks l room given s saved line
  field_refused f e = sym (on (clean_marks marks) MarksDirty _ clean ∙ ap (λ o. o then (rule_fault given s line then space_fault l room s saved line)) e)

  -- fields in range leave the rule and the space
  pub step_judged : (o : Option SessionFault) (named : Line) → named ≡ line → field_fault line ≡ None →
      o ≡ (rule_fault given s named then space_fault l room s saved named) → o ≡ submit_fault marks l room given s saved line
  step_judged o named e f q =
      q ∙ ap (λ x. rule_fault given s x then space_fault l room s saved x) e ∙
      sym (on (clean_marks marks) MarksDirty _ clean ∙ ap (λ o. o then (rule_fault given s line then space_fault l room s saved line)) f)

-- with clean marks a line is judged by itself
pub line_judged : (marks : List ℕ) (l : Limits) (room : Room) (given : ℕ) (s : List Entry) (saved : List Saved) (line : Line) → clean_marks marks ≡ true → submit_fault marks l room given s saved line ≡ line_fault l room given s saved line
line_judged marks l room given s saved line clean = on (clean_marks marks) MarksDirty _ clean
