-- What every bitmask database keeps of its meaning.
use Rattle.std.proofs.Common.{refl, arith}
use Rattle.std.proofs.lemmas.Bool.{le-leb}
use Rattle.std.proofs.lemmas.List.{length-map}
use Rattle.words.specs.Standing.{Lawful}
use Rattle.bitmask.specs.declared.table.Bitmask.{Bitmask}
use Rattle.bitmask.specs.Slots.{entry}
use Rattle.bitmask.specs.Meanings.{mask_limits, standing_in}
use Rattle.database.proofs.Bounds.{literals_bound}

pub lawful_table : (b : Bitmask) → Lawful mask_limits (standing_in b)
lawful_table b = record {
  variables_fit = refl;
  width_fits = refl;
  in_order = b.kept;
  clauses_fit = le-leb _ 256 (omega (arith, b.few, length-map b.slots.items entry));
  literals_fit = le-leb _ 16384 (omega (arith, literals_bound 64 64 0 (standing_in b) b.kept, b.few, length-map b.slots.items entry));
}
