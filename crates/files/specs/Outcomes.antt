-- What a formula and a trace come to: the formula is read, the session sealed, the trace read, the session finished and the reduced
-- formula written, up to the first refusal.
use Rattle.std.specs.Prelude.{ℕ, List, Option}
use Rattle.words.specs.declared.fault.File.TheVariants.{Write}
use Rattle.words.specs.declared.fault.FileFault.TheVariants.{Session}
use Rattle.words.specs.declared.fault.LocatedFault.{LocatedFault}
use Rattle.words.specs.declared.fault.SessionFault.{SessionFault}
use Rattle.words.specs.declared.limits.Limits.{Limits}
use Rattle.words.specs.Checks.{inside, unless}
use Rattle.words.specs.Standing.{Entry}
use Rattle.rules.specs.Restoring.{Saved, Room}
use Rattle.writer.specs.Writing.{write_fault}
use Rattle.reader.specs.Formulas.{Outcome, read_text}
use Rattle.trace.specs.Traces.{Progress, TraceOutcome, read_trace}

-- how it ended: the fault with its file and line, or none; the formula's variables; and what was reached
pub record Whole : Type 0 where
  pub fault : Option LocatedFault
  pub variables : ℕ
  pub reached : Progress

-- a fault of the writer, which has no line
abbrev pub of_writer : SessionFault → LocatedFault
of_writer f = record { file = Write; line = 0; cause = Session f }

-- a sealed session, after a formula that was read so, with these clauses saved
abbrev pub sealed : Outcome → List Saved → Progress
sealed o saves = record { given = o.accepted; accepted = 0; entries = o.entries; saves = saves }

-- writing what was reached into a buffer of n bytes
abbrev pub written : ℕ → ℕ → Progress → Whole
written n v p = record { fault = inside of_writer (write_fault v p.entries n); variables = v; reached = p }

-- what a trace that was read so comes to, in a formula of v variables
abbrev pub traced : ℕ → ℕ → TraceOutcome → Whole
traced n v t = unless t.fault (written n v t.reached) (record { fault = t.fault; variables = v; reached = t.reached })

-- what a formula that was read so comes to, with a trace
abbrev pub loaded_so : List ℕ → Limits → Room → List Saved → ℕ → List ℕ → Outcome → Whole
loaded_so marks l room saves n trace o =
    unless o.fault (traced n o.variables (read_trace marks l room (sealed o saves) trace))
    (record { fault = o.fault; variables = o.variables; reached = sealed o saves })

-- what a formula and a trace come to, on a database of these limits where these entries stand, a reconstruction stack of this room
-- where these clauses are saved, with these marks and a buffer of n bytes
abbrev pub whole : List ℕ → Limits → Room → List Entry → List Saved → ℕ → List ℕ → List ℕ → Whole
whole marks l room s saves n formula trace = loaded_so marks l room saves n trace (read_text l s saves formula)
