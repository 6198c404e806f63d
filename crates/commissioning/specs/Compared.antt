-- What the entries compare.
use Rattle.std.specs.Prelude.{◌≡◌, ℕ, Bool, true, false, cond, List, Some, None, codes, Option}
use Rattle.words.specs.declared.fault.SessionFault.{SessionFault}
use Rattle.words.specs.Checks.{unless}
use Rattle.rules.specs.Restoring.{restore_fault}
use Rattle.session.specs.Meanings.{finished_variables}
use Rattle.writer.specs.Text.{formula_text}
use Rattle.reader.specs.Formulas.{Outcome}
use Rattle.commissioning.specs.declared.again.Again.{Again}
use Rattle.commissioning.specs.declared.again.Comparison.{Comparison}

-- whether what was compared is the same, in words
abbrev pub verdict_words : Bool → List ℕ
verdict_words same = cond same (codes "holds") (codes "does not hold")

-- a formula that was read so is loaded again: the finished session and the count of its lists, or none where it was refused
abbrev pub LoadedAgain : Outcome → Option Again → Type 0
LoadedAgain o None = o.fault ≡ None → ⊥
LoadedAgain o (Some r) = (o.fault ≡ None) × (finished_variables r.finished ≡ o.variables) × (r.lists ≡ o.accepted)

-- whether there is no fault
abbrev pub faultless : Option SessionFault → Bool
faultless f = unless f true false

-- a position meets every clause of a formula that was read so, and how many lists that has
abbrev pub Meets : Outcome → List ℕ → Comparison → Type 0
Meets o a r = o.fault ≡ None → (r.holds ≡ faultless (restore_fault o.variables o.entries a)) × (r.lists ≡ o.accepted)

-- a text that was read so has so many lists, and where it is told to be the same, writing what was read gives it again
abbrev pub SameAgain : Outcome → List ℕ → Comparison → Type 0
SameAgain o text r = o.fault ≡ None → (r.holds ≡ true → formula_text o.variables o.entries ≡ text) × (r.lists ≡ o.accepted)
