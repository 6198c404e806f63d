-- What a checking and a finished session mean.
use Rattle.std.specs.Prelude.{ℕ}
use Rattle.session.specs.declared.Checking.{Checking}
use Rattle.session.specs.declared.Finished.{Finished}

-- how many variables the formula has
abbrev pub checking_variables : Checking → ℕ
checking_variables s = s.variables

-- the highest number given by load or an accepted line
abbrev pub given_number : Checking → ℕ
given_number s = s.given

-- how many lines were accepted, up to 1,000,000,000
abbrev pub accepted_count : Checking → ℕ
accepted_count s = s.accepted

-- how many variables the formula has
abbrev pub finished_variables : Finished → ℕ
finished_variables s = s.variables
