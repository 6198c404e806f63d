use Rattle.std.proofs.Common.{◌+◌, length, refl}
use Rattle.arena.proofs.Blocks.{opened_live}
use Rattle.arena.proofs.splice.insert.Goals as goal

pub returns : goal.returns
returns g c =
    opened_live c.args.s.now c.args.block.now c.copy_within.new.self c.copy_from_slice.new.self c.args.live c.args.place (c.args.place + length c.args.block.now)
    refl c.requires.within c.requires.room c.copy_within.ensures.after c.copy_from_slice.ensures.after
