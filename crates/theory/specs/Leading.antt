-- Where a history leads: what a session, its database and its reconstruction stack hold is what the calls make of it.
use Rattle.std.specs.Prelude.{◌≡◌, ℕ, List, length}
use Rattle.words.specs.declared.limits.Limits.{Limits}
use Rattle.words.specs.Standing.{Entry}
use Rattle.rules.specs.Restoring.{Saved, Room}
use Rattle.rules.specs.Histories.{History, phase, loading, checking, finished, variables_of, loaded, standing_by, saved_by, given_by, accepted_by}
use Rattle.rules.specs.Runs.{Run}
use Rattle.rules.specs.Law.{Law}

-- a run leads to a database that holds exactly what stands by its calls, each clause under its number, and to a
-- reconstruction stack that holds exactly what its accepted B and E lines saved; and the law holds of it
pub record Leads (l : Limits) (room : Room) (h : History) (v : ℕ) (s : List Entry) (saves : List Saved) : Type 0 where
  pub run : Run l room h
  pub law : Law l room h
  pub variables : v ≡ variables_of h
  pub standing : s ≡ standing_by h
  pub saved : saves ≡ saved_by h

-- it leads to a loading session of v variables that has accepted k lists
pub record ToLoading (l : Limits) (room : Room) (h : History) (v k : ℕ) (s : List Entry) (saves : List Saved) : Type 0 where
  pub state : Leads l room h v s saves
  pub now_loading : phase h ≡ loading
  pub lists : k ≡ length (loaded h)
  pub given : k ≡ given_by h
  pub lines : accepted_by h ≡ 0

-- it leads to a checking session of v variables whose highest number given is k and that has accepted n lines
pub record ToChecking (l : Limits) (room : Room) (h : History) (v k n : ℕ) (s : List Entry) (saves : List Saved) : Type 0 where
  pub state : Leads l room h v s saves
  pub now_checking : phase h ≡ checking
  pub given : k ≡ given_by h
  pub lines : n ≡ accepted_by h

-- it leads to a finished session of v variables
pub record ToFinished (l : Limits) (room : Room) (h : History) (v : ℕ) (s : List Entry) (saves : List Saved) : Type 0 where
  pub state : Leads l room h v s saves
  pub now_finished : phase h ≡ finished
