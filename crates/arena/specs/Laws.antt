-- What every arena keeps of its meaning.
use Rattle.std.proofs.Common.{refl, arith}
use Rattle.std.proofs.lemmas.Bool.{le-leb}
use Rattle.words.specs.Standing.{Lawful}
use Rattle.arena.specs.declared.arena.Arena.{Arena}
use Rattle.arena.specs.Contents.{contents, limits_of}

pub lawful_arena : (s : Arena) → Lawful (limits_of s.memory) (contents s.memory)
lawful_arena s = record {
  variables_fit = refl;
  width_fits = refl;
  in_order = s.kept;
  clauses_fit = le-leb _ _ (omega (arith, s.memory.few, s.most, s.counts));
  literals_fit = le-leb _ _ (omega (arith, s.memory.room, s.memory.below, s.weighs));
}
