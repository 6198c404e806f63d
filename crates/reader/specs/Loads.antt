-- The history that a formula makes: reading it counts as opening a session and loading the lists that it ends.
use Rattle.std.specs.Prelude.{◌≡◌, ℕ, false, cond, List, [], ◌∷◌, ◌++◌, length, ℤ, Some, None, Ok, Err, Option, Result, ◌==◌, nat_le, nat_lt, unsigned_abs}
use Rattle.words.specs.declared.fault.LocatedFault.{LocatedFault}
use Rattle.words.specs.declared.fault.SessionFault.{SessionFault}
use Rattle.words.specs.declared.limits.Limits.{Limits}
use Rattle.words.specs.Checks.{unless}
use Rattle.words.specs.Standing.{Entry}
use Rattle.rules.specs.Restoring.{Saved, Room}
use Rattle.rules.specs.Loading.{open_fault, load_fault}
use Rattle.rules.specs.Histories.{History, opened, after, load, variables_of, loaded, standing_by}
use Rattle.theory.specs.Leading.{Leads, ToLoading}
use Rattle.loading.specs.declared.Loading.{Loading}
use Rattle.loading.specs.Meanings.{formula_variables, loaded_count}
use Rattle.reader.specs.declared.counts.Counts.{Counts}
use Rattle.reader.specs.Numerals.{numeral}
use Rattle.reader.specs.Tokens.{Part, words_on}
use Rattle.reader.specs.Headers.{uncommented, first_counts, header_fault, past_line}
use Rattle.reader.specs.Formulas.{literal_fault}

-- the answer that a list gets after a history
abbrev pub list_answer : Limits → History → List ℤ → Option SessionFault
list_answer l h zs = load_fault (variables_of h) (length (loaded h)) l (standing_by h) zs

-- a history with the words of a formula, where these literals came since the last 0: each 0 loads the list that it ends, up to
-- the first word that is refused
abbrev pub with_words : Limits → Counts → List ℤ → History → List Part → History
with_words l c zs h [] = h
with_words l c zs h (w ∷ ws) =
    cond (nat_lt (length (loaded h)) c.clauses)
    (elim (numeral w.bytes) [
      | None ↦ h
      | Some z ↦ cond (unsigned_abs z == 0)
          (unless (list_answer l h zs) (with_words l c [] (after h (load zs None)) ws) (after h (load zs (list_answer l h zs))))
          (unless (literal_fault c.variables zs z) (with_words l c (zs ++ z ∷ []) h ws) h)
    ])
    h

-- the history of what stands behind a header, or none where no session is opened
abbrev pub rest_history : Limits → List Entry → List Saved → Counts → Part → Option History
rest_history l s saved c p = unless (open_fault c.variables s saved) (Some (with_words l c [] (opened c.variables) (words_on p.line [] p.bytes))) None

-- the history of a text behind its comments, which begins with a header of these counts, or of none
abbrev pub header_history : Limits → List Entry → List Saved → Part → Option Counts → Option History
header_history l s saved p None = None
header_history l s saved p (Some c) = unless (header_fault (Some c)) (rest_history l s saved c (past_line p.line p.bytes)) None

-- the history that a formula makes, or none where no session is opened
abbrev pub formula_history : Limits → List Entry → List Saved → List ℕ → Option History
formula_history l s saved text =
    cond (nat_le (length text) 65536) (header_history l s saved (uncommented false 1 text) (first_counts (uncommented false 1 text).bytes)) None

-- a history, or none, leads to an answer and to what stands after it, where s stood before
abbrev pub LeadsToAnswer : Limits → Room → Option History → Result Loading LocatedFault → List Entry → List Entry → List Saved → Type 0
LeadsToAnswer l room None r s s' saved = s' ≡ s
LeadsToAnswer l room (Some h) (Ok session) s s' saved = ToLoading l room h (formula_variables session) (loaded_count session) s' saved
LeadsToAnswer l room (Some h) (Err f) s s' saved = Leads l room h (variables_of h) s' saved
