-- What a formula alone comes to.
use Rattle.std.specs.Prelude.{ℕ, []}
use Rattle.words.specs.Checks.{unless}
use Rattle.reader.specs.Formulas.{Outcome}
use Rattle.files.specs.Outcomes.{Whole, sealed, written}

-- what a formula that was read so comes to: the session is finished at once, and what stands is written into a buffer of n bytes
abbrev pub alone : ℕ → Outcome → Whole
alone n o =
    unless o.fault (written n o.variables (sealed o [])) (record { fault = o.fault; variables = o.variables; reached = sealed o [] })
