-- Runs: histories in which every call was allowed and answered as the definitions say, on a database and a
-- reconstruction stack of given limits.
use Rattle.std.specs.Prelude.{◌≡◌, ℕ, ◌≤◌, cond, List, [], length}
use Rattle.words.specs.declared.limits.Limits.{Limits}
use Rattle.words.specs.Checks.{unless}
use Rattle.words.specs.Standing.{Entry}
use Rattle.rules.specs.Restoring.{Room, restored, restore_fault}
use Rattle.rules.specs.Loading.{load_fault}
use Rattle.rules.specs.Lines.{line_fault, some_equal}
use Rattle.rules.specs.Histories.{Event, load, seal, submit, finish, restore, write, History, opened, after, loading, checking, finished, phase, variables_of, loaded, standing_by, saved_by, given_by, accepted_by}

-- 1 where the empty clause stands, else 0
abbrev pub empty_stands : List Entry → ℕ
empty_stands s = cond (some_equal [] s) 1 0

-- a call is allowed in its phase, and its answer is the defined one
abbrev pub Answered : Limits → Room → History → Event → Type 0
Answered l room h (load zs f) = (phase h ≡ loading) × (f ≡ load_fault (variables_of h) (length (loaded h)) l (standing_by h) zs)
Answered l room h seal = phase h ≡ loading
Answered l room h (submit line f) = (phase h ≡ checking) × (f ≡ line_fault l room (given_by h) (standing_by h) (saved_by h) line)
Answered l room h (finish a b c) = (phase h ≡ checking) × (a ≡ accepted_by h) × (b ≡ length (standing_by h)) × (c ≡ empty_stands (standing_by h))
Answered l room h (restore a b f) = (phase h ≡ finished) × (f ≡ restore_fault (variables_of h) (standing_by h) a) × (b ≡ unless f (restored (saved_by h) a) a)
Answered l room h (write f) = phase h ≡ finished

-- every call of the history was answered so; at most 512 variables
abbrev pub Run : Limits → Room → History → Type 0
Run l room (opened n) = n ≤ 512
Run l room (after h e) = Run l room h × Answered l room h e
