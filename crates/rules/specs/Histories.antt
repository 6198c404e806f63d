-- Histories: the calls of one session with their answers. What stands, what was loaded and what was saved are reckoned
-- from the calls and from which of them were accepted, never from a database.
use Rattle.std.specs.Prelude.{ℕ, ◌+◌, List, [], ◌∷◌, ◌++◌, length, ℤ, Some, None, Option, unsigned_abs}
use Rattle.words.specs.declared.line.Kind.TheVariants.{Resolve, Subsumed, Blocked, Eliminate}
use Rattle.words.specs.declared.line.Line.{Line}
use Rattle.words.specs.declared.fault.SessionFault.{SessionFault}
use Rattle.words.specs.Standing.{Entry}
use Rattle.rules.specs.Restoring.{Saved}
use Rattle.rules.specs.Loading.{load_adds}
use Rattle.rules.specs.Lines.{line_leaves, line_saves, line_gives, one_more}

-- a call after opening, with its answer: None where it was accepted, else the fault
pub data Event : Type 0 where
  -- a list handed to load
  load : List ℤ → Option SessionFault → Event
  seal : Event
  -- a line
  submit : Line → Option SessionFault → Event
  -- the counts told: accepted lines, standing clauses, 1 if the empty clause stands
  finish : ℕ → ℕ → ℕ → Event
  -- the assignment before and after
  restore : List ℕ → List ℕ → Option SessionFault → Event
  write : Option SessionFault → Event

-- a session opened for n variables, on an empty database and reconstruction stack, and the calls after that
pub data History : Type 0 where
  opened : ℕ → History
  after : History → Event → History

-- which calls a session allows
pub data Phase : Type 0 where
  loading : Phase
  checking : Phase
  finished : Phase

abbrev pub phase : History → Phase
phase (opened n) = loading
phase (after h (load zs f)) = phase h
phase (after h seal) = checking
phase (after h (submit l f)) = phase h
phase (after h (finish a b c)) = finished
phase (after h (restore a b f)) = phase h
phase (after h (write f)) = phase h

-- the formula's variable count
abbrev pub variables_of : History → ℕ
variables_of (opened n) = n
variables_of (after h e) = variables_of h

-- the loaded lists, the newest first: all that load accepted, those with an opposite pair too
abbrev pub loaded : History → List (List ℤ)
loaded (opened n) = []
loaded (after h (load zs None)) = zs ∷ loaded h
loaded (after h (load zs (Some f))) = loaded h
loaded (after h seal) = loaded h
loaded (after h (submit l f)) = loaded h
loaded (after h (finish a b c)) = loaded h
loaded (after h (restore a b f)) = loaded h
loaded (after h (write f)) = loaded h

-- what stands: an accepted list adds its clause under its number, unless it holds an opposite pair;
-- an accepted line does what its rule says
abbrev pub standing_by : History → List Entry
standing_by (opened n) = []
standing_by (after h (load zs None)) = load_adds (length (loaded h)) (standing_by h) zs
standing_by (after h (load zs (Some f))) = standing_by h
standing_by (after h seal) = standing_by h
standing_by (after h (submit l None)) = line_leaves (standing_by h) l
standing_by (after h (submit l (Some f))) = standing_by h
standing_by (after h (finish a b c)) = standing_by h
standing_by (after h (restore a b f)) = standing_by h
standing_by (after h (write f)) = standing_by h

-- what accepted B and E lines saved, the first saved first
abbrev pub saved_by : History → List Saved
saved_by (opened n) = []
saved_by (after h (load zs f)) = saved_by h
saved_by (after h seal) = saved_by h
saved_by (after h (submit l None)) = saved_by h ++ line_saves (standing_by h) l
saved_by (after h (submit l (Some f))) = saved_by h
saved_by (after h (finish a b c)) = saved_by h
saved_by (after h (restore a b f)) = saved_by h
saved_by (after h (write f)) = saved_by h

-- the highest number given by load or an accepted line
abbrev pub given_by : History → ℕ
given_by (opened n) = 0
given_by (after h (load zs None)) = length (loaded h) + 1
given_by (after h (load zs (Some f))) = given_by h
given_by (after h seal) = given_by h
given_by (after h (submit l None)) = line_gives (given_by h) l
given_by (after h (submit l (Some f))) = given_by h
given_by (after h (finish a b c)) = given_by h
given_by (after h (restore a b f)) = given_by h
given_by (after h (write f)) = given_by h

-- the count of accepted lines, up to 1,000,000,000
abbrev pub accepted_by : History → ℕ
accepted_by (opened n) = 0
accepted_by (after h (load zs f)) = accepted_by h
accepted_by (after h seal) = accepted_by h
accepted_by (after h (submit l None)) = one_more (accepted_by h)
accepted_by (after h (submit l (Some f))) = accepted_by h
accepted_by (after h (finish a b c)) = accepted_by h
accepted_by (after h (restore a b f)) = accepted_by h
accepted_by (after h (write f)) = accepted_by h

-- the variables of the pivots of a B or an E line
abbrev pub line_pivots : Line → List ℕ
line_pivots line = elim line.kind [ Resolve ↦ [] | Subsumed ↦ [] | Blocked ↦ unsigned_abs line.pivot ∷ [] | Eliminate ↦ unsigned_abs line.pivot ∷ [] ]

-- the variables of the pivots of accepted B and E lines
abbrev pub pivots_by : History → List ℕ
pivots_by (opened n) = []
pivots_by (after h (load zs f)) = pivots_by h
pivots_by (after h seal) = pivots_by h
pivots_by (after h (submit l None)) = pivots_by h ++ line_pivots l
pivots_by (after h (submit l (Some f))) = pivots_by h
pivots_by (after h (finish a b c)) = pivots_by h
pivots_by (after h (restore a b f)) = pivots_by h
pivots_by (after h (write f)) = pivots_by h
