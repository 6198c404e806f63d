use Rattle.std.proofs.Common.{take, sym, ap, ◌∙◌, arith}
use Rattle.std.proofs.lemmas.List.{take_all, length-take-le}
use Rattle.arena.specs.Layout.{total}
use Rattle.arena.proofs.Changes.{start_is}
use Rattle.arena.proofs.memory.Memory.start_at.Goals as goal

pub returns-then-place-self : goal.returns-then-place-self
returns-then-place-self c =
    let m = c.args.self.now in
    start_is m c.args.place (omega arith)

pub returns-else-place-self : goal.returns-else-place-self
returns-else-place-self c =
    let m = c.args.self.now in
    let rs = take m.count m.records.now in
    let l = length-take-le m.count m.records.now m.few in
    sym m.sum ∙ ap total (sym (take_all c.args.place rs (omega arith)))
