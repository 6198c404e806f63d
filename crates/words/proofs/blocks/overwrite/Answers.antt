use Rattle.std.proofs.Common.{length, sym, refl, ◌∙◌, arith}
use Rattle.std.proofs.lemmas.Slice.{put_mid-paste}
use Rattle.words.proofs.Swaps.{overwritten_is}
use Rattle.words.proofs.blocks.overwrite.Goals as goal

pub returns-then-len-s : goal.returns-then-len-s
returns-then-len-s g c =
    put_mid-paste c.args.from _ c.args.s.now _ c.args.src.now (length c.args.src.now) c.copy_from_slice.ensures.after (omega arith) refl ∙
    sym (overwritten_is c.args.s.now c.args.from c.args.src.now (omega arith))
