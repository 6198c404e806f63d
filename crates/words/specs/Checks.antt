-- Checks that run in order: the first that fails gives the fault.
use Rattle.std.specs.Prelude.{Bool, cond, Some, None, Ok, Err, Option, Result}

-- one check: no fault where the test holds, else this one
abbrev pub check : {F : Type 0} → Bool → F → Option F
check b f = cond b None (Some f)

-- one check after another
infixr 2 ◌then◌
abbrev pub ◌then◌ : {F : Type 0} → Option F → Option F → Option F
None then g = g
Some f then g = Some f

-- a fault of a layer below, whole inside one of the layer above
abbrev pub inside : {F G : Type 0} → (F → G) → Option F → Option G
inside wrap None = None
inside wrap (Some f) = Some (wrap f)

-- the fault of an answer, if it is a refusal
abbrev pub fault_of : {X F : Type 0} → Result X F → Option F
fault_of (Ok x) = None
fault_of (Err f) = Some f

-- what holds after a call that refuses with a fault or is accepted
abbrev pub unless : {F X : Type 0} → Option F → X → X → X
unless None changed same = changed
unless (Some f) changed same = same
