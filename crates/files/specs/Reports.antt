-- What the whole task answers.
use Rattle.std.specs.Prelude.{◌≡◌, ℕ, List, length, IfOk, Some, None, Ok, Err, Option, Result}
use Rattle.words.specs.declared.fault.LocatedFault.{LocatedFault}
use Rattle.words.specs.declared.limits.Limits.{Limits}
use Rattle.words.specs.Checks.{fault_of, unless}
use Rattle.words.specs.Standing.{Entry}
use Rattle.rules.specs.Restoring.{Saved, Room}
use Rattle.rules.specs.Histories.{History, variables_of}
use Rattle.rules.specs.Runs.{empty_stands}
use Rattle.theory.specs.Leading.{Leads, ToFinished}
use Rattle.session.specs.Meanings.{finished_variables}
use Rattle.writer.specs.Text.{formula_text}
use Rattle.writer.specs.Writing.{fronted}
use Rattle.files.specs.declared.report.Report.{Report}
use Rattle.files.specs.Outcomes.{Whole}

-- a report tells what was reached: the finished session, finish's counts and the length of the written text
pub record Tells (o : Whole) (r : Report) : Type 0 where
  pub variables : finished_variables r.finished ≡ o.variables
  pub accepted : r.counts.accepted ≡ o.reached.accepted
  pub standing : r.counts.standing ≡ length o.reached.entries
  pub empty : r.counts.empty ≡ empty_stands o.reached.entries
  pub size : r.length ≡ length (formula_text o.variables o.reached.entries)

-- an answer, what stands, what is saved and the bytes of a buffer after it are those of an outcome
pub record Answers (o : Whole) (r : Result Report LocatedFault) (s : List Entry) (saves : List Saved) (buffer buffer' : List ℕ) : Type 0 where
  pub fault : fault_of r ≡ o.fault
  pub report : IfOk r (Tells o)
  pub entries : s ≡ o.reached.entries
  pub saved : saves ≡ o.reached.saves
  pub text : buffer' ≡ unless o.fault (fronted (formula_text o.variables o.reached.entries) buffer) buffer

-- a history leads to an answer and to what stands and is saved after it: to a finished session, or to a refusal
abbrev pub LeadsToEnd : Limits → Room → History → Result Report LocatedFault → List Entry → List Saved → Type 0
LeadsToEnd l room h (Ok r) s saves = ToFinished l room h (finished_variables r.finished) s saves
LeadsToEnd l room h (Err f) s saves = Leads l room h (variables_of h) s saves

-- the same of a history or none, where s stood and these clauses were saved before: without a session nothing changes
abbrev pub LeadsToReport : Limits → Room → Option History → Result Report LocatedFault → List Entry → List Saved → List Entry → List Saved → Type 0
LeadsToReport l room None r s saves s' saves' = (s' ≡ s) × (saves' ≡ saves)
LeadsToReport l room (Some h) r s saves s' saves' = LeadsToEnd l room h r s' saves'
