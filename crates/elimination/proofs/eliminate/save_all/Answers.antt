use Rattle.std.proofs.Common.{rules}
use Rattle.rules.specs.Lines.{eliminated}
use Rattle.reconstruction.specs.Meanings.{saved, room_of}
use Rattle.database.specs.Walks.{entry_of}
use Rattle.elimination.proofs.Eliminated.{save_held}
use Rattle.elimination.proofs.eliminate.save_all.Goals as goal

pub loop-entry-preserved-in-Some-held : goal.loop-entry-preserved-in-Some-held
loop-entry-preserved-in-Some-held g c =
    let s =
    save_held (room_of c.args.stack.now) (saved c.args.stack.now) (eliminated c.args.pivot.value (g.D.ClauseDatabase.standing c.args.db.now)) (saved c.loop-entry.stack) c.args.pivot.value _ _
    (entry_of c.in-Some.entry) c.in-Some-held.literal.value c.in-Some.ensures.steps c.in-Some-held.ensures c.requires c.loop-entry.invariant.2 (room_of c.loop-entry.stack) c.loop-entry.invariant.3 _ _
    c.save.ensures.fault c.save.ensures.after in
    search rules
