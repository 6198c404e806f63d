-- What the code has read, and how it ended.
use Rattle.std.specs.Prelude.{◌≡◌, List, IfOk, Result}
use Rattle.words.specs.declared.fault.LocatedFault.{LocatedFault}
use Rattle.words.specs.Checks.{fault_of}
use Rattle.words.specs.Standing.{Entry}
use Rattle.loading.specs.declared.Loading.{Loading}
use Rattle.loading.specs.Meanings.{formula_variables, loaded_count}
use Rattle.reader.specs.declared.lists.Lists.{Lists}
use Rattle.reader.specs.Formulas.{Reading, Outcome}

-- the lists that are read and what stands, together
abbrev pub reading : Lists → List Entry → Reading
reading x es = record { pending = x.pending.items; accepted = loaded_count x.session; entries = es }

-- an answer and what stands after it are those of an outcome
pub record Ends (o : Outcome) (r : Result Loading LocatedFault) (es : List Entry) : Type 0 where
  pub fault : fault_of r ≡ o.fault
  pub variables : IfOk r (λ s. formula_variables s ≡ o.variables)
  pub loaded : IfOk r (λ s. loaded_count s ≡ o.accepted)
  pub entries : es ≡ o.entries
