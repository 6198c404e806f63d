use Rattle.arena.proofs.Blocks.{closed_live}
use Rattle.arena.proofs.splice.cut.Goals as goal

pub returns : goal.returns
returns g c = closed_live c.args.s.now c.copy_within.new.self c.args.live c.args.place c.args.len c.requires.within c.requires.room c.copy_within.ensures.after
