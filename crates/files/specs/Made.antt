-- The history that a formula and a trace make: reading a file counts as the calls that it makes.
use Rattle.std.specs.Prelude.{ℕ, List, length, Option}
use Rattle.std.specs.Option.{option_map}
use Rattle.words.specs.declared.fault.LocatedFault.{LocatedFault}
use Rattle.words.specs.declared.limits.Limits.{Limits}
use Rattle.words.specs.Checks.{unless}
use Rattle.words.specs.Standing.{Entry}
use Rattle.rules.specs.Restoring.{Saved, Room}
use Rattle.rules.specs.Histories.{History, after, seal, finish, write, variables_of, standing_by, accepted_by}
use Rattle.rules.specs.Runs.{empty_stands}
use Rattle.writer.specs.Writing.{write_fault}
use Rattle.reader.specs.Formulas.{read_text}
use Rattle.reader.specs.Loads.{formula_history}
use Rattle.trace.specs.Traces.{read_trace}
use Rattle.trace.specs.Sent.{with_trace}
use Rattle.files.specs.Outcomes.{sealed}

-- a history with finish, which tells the counts
abbrev pub with_finish : History → History
with_finish h = after h (finish (accepted_by h) (length (standing_by h)) (empty_stands (standing_by h)))

-- a history with finish and with writing into a buffer of n bytes
abbrev pub with_end : ℕ → History → History
with_end n h = after (with_finish h) (write (write_fault (variables_of h) (standing_by h) n))

-- a history with seal and a trace, and with its end where the trace is read without this fault
abbrev pub with_rest : Limits → Room → ℕ → List ℕ → Option LocatedFault → History → History
with_rest l room n trace fault h =
    unless fault (with_end n (with_trace l room (after h seal) trace)) (with_trace l room (after h seal) trace)

-- the history that the two files make, or none where no session is opened
abbrev pub files_history : List ℕ → Limits → Room → List Entry → List Saved → ℕ → List ℕ → List ℕ → Option History
files_history marks l room s saves n formula trace =
    unless (read_text l s saves formula).fault
    (option_map (with_rest l room n trace (read_trace marks l room (sealed (read_text l s saves formula) saves) trace).fault) (formula_history l s saves formula))
    (formula_history l s saves formula)
