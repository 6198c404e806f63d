use Rattle.std.proofs.Common.{sym, ◌∙◌, arith}
use Rattle.words.proofs.Swaps.{rotated, exchanged_is}
use Rattle.words.proofs.blocks.exchange.Goals as goal

pub returns-then-end-s : goal.returns-then-end-s
returns-then-end-s g c =
    rotated c.args.s.now c.args.from c.args.mid c.args.end c.rotate_left.new.self (omega arith) (omega arith) c.rotate_left.ensures.after ∙
    sym (exchanged_is c.args.s.now c.args.from c.args.mid c.args.end (omega arith) (omega arith) (omega arith))
