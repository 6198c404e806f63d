-- What putting a text does to an output. `sets old i text` is the bytes of a text stored over the old ones from place i on, as
-- far as those reach.
use Rattle.std.specs.Prelude.{◌≡◌, ℕ, ◌+◌, ◌^◌, ◌<◌, List, length}
use Rattle.std.proofs.lemmas.List.Edits.{sets}
use Rattle.output.specs.declared.Output.{Output}

-- a text was put between two states: it stands in the same buffer behind what was put before, as far as there is room, and all
-- of it is counted, up to the largest count
pub record Puts (text : List ℕ) (o p : Output) : Type 0 where
  pub same : p.bytes.ghost_name ≡ o.bytes.ghost_name
  pub stored : o.len + length text < 2 ^ 64 → p.bytes.now ≡ sets o.bytes.now o.len text
  pub counted : o.len + length text < 2 ^ 64 → p.len ≡ o.len + length text
