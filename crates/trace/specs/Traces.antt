-- Reading a trace into a checking session.
use Rattle.std.specs.Prelude.{ℕ, ◌+◌, cond, List, [], ◌∷◌, ◌++◌, length, drop, Some, None, Ok, Err, codes, Option, Result, nat_le}
use Rattle.words.specs.declared.fault.File.TheVariants.{Trace}
use Rattle.words.specs.declared.fault.FileFault.{FileFault}
use Rattle.words.specs.declared.fault.FileFault.TheVariants.{TooManyBytes, NamesWrong, NotFiveValues, Session}
use Rattle.words.specs.declared.fault.LocatedFault.{LocatedFault}
use Rattle.words.specs.declared.limits.Limits.{Limits}
use Rattle.words.specs.declared.line.Line.{Line}
use Rattle.words.specs.Checks.{inside, unless}
use Rattle.words.specs.Standing.{Entry}
use Rattle.rules.specs.Restoring.{Saved, Room}
use Rattle.rules.specs.Lines.{line_leaves, line_saves, line_gives, one_more}
use Rattle.lines.specs.Submitting.{submit_fault}
use Rattle.reader.specs.Headers.{begins}
use Rattle.textlines.specs.Lines.{TextLine, text_lines}
use Rattle.trace.specs.Values.{parsed}

-- what the lines submitted so far have led to
pub record Progress : Type 0 where
  -- the highest number given
  pub given : ℕ
  -- how many lines were accepted, up to 1,000,000,000
  pub accepted : ℕ
  -- what stands
  pub entries : List Entry
  -- what was saved for restoring
  pub saves : List Saved

-- the names with which every trace begins, and their line feed
abbrev pub names : List ℕ
names = codes "kind clause pivot first second\n"

-- a text line as a proof line; a line feed ends it
abbrev pub proof_line : TextLine → Result Line FileFault
proof_line x = cond x.ended (parsed x.bytes) (Err NotFiveValues)

-- why a line is refused: it is malformed, or submit refuses it
abbrev pub sent_fault : List ℕ → Limits → Room → Progress → Result Line FileFault → Option FileFault
sent_fault marks l room p (Err f) = Some f
sent_fault marks l room p (Ok line) = inside Session (submit_fault marks l room p.given p.entries p.saves line)

-- what an accepted line leads to
abbrev pub sent : Progress → Result Line FileFault → Progress
sent p (Err f) = p
sent p (Ok line) = record {
  given = line_gives p.given line;
  accepted = one_more p.accepted;
  entries = line_leaves p.entries line;
  saves = p.saves ++ line_saves p.entries line;
}

-- how reading ended: the fault with its line, or none; and what was reached
pub record TraceOutcome : Type 0 where
  pub fault : Option LocatedFault
  pub reached : Progress

-- a fault of the trace at a line
abbrev pub at_line : ℕ → FileFault → LocatedFault
at_line n f = record { file = Trace; line = n; cause = f }

-- reading ended at a line, with a fault or none
abbrev pub stopped : ℕ → Progress → Option FileFault → TraceOutcome
stopped n p f = record { fault = inside (at_line n) f; reached = p }

-- reading lines one after another, the first of them line n: each is submitted before the next is read
abbrev pub read_lines : List ℕ → Limits → Room → ℕ → Progress → List TextLine → TraceOutcome
read_lines marks l room n p [] = stopped n p None
read_lines marks l room n p (x ∷ xs) =
    unless (sent_fault marks l room p (proof_line x))
    (read_lines marks l room (n + 1) (sent p (proof_line x)) xs)
    (stopped n p (sent_fault marks l room p (proof_line x)))

-- reading a text of at most 65,536 bytes: the names, then the lines from the second on
abbrev pub read_named : List ℕ → Limits → Room → Progress → List ℕ → TraceOutcome
read_named marks l room p text =
    cond (begins names text) (read_lines marks l room 2 p (text_lines (drop 31 text))) (stopped 1 p (Some NamesWrong))

-- reading a trace with these marks, on a database of these limits and a reconstruction stack of this room
abbrev pub read_trace : List ℕ → Limits → Room → Progress → List ℕ → TraceOutcome
read_trace marks l room p text = cond (nat_le (length text) 65536) (read_named marks l room p text) (stopped 0 p (Some TooManyBytes))
