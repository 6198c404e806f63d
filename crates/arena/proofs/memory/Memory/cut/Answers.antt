use Rattle.std.proofs.Common.{◌+◌, ◌-◌, ◌≤◌, length, get_or, take, drop, refl, ◌∙◌, arith}
use Rattle.arena.specs.Layout.{total}
use Rattle.arena.proofs.Packs.{blank}
use Rattle.arena.proofs.Changes.{row_inside, cut_fits, cut_done, written_length, same_limits}
use Rattle.arena.proofs.memory.Memory.cut.Goals as goal

pub cut-requires-2 : goal.cut-requires-2
cut-requires-2 c =
    let m = c.args.self.now in
    record { within = omega (arith, c.from.ensures, c.from-len.ensures, row_inside m c.args.place c.requires.within); room = m.room }

pub repack-requires : goal.repack-requires
repack-requires c =
    let m = c.args.self.now in
    let f : (get_or m.records.now c.args.place blank).start + total (take (m.count - 1 - c.args.place) (drop c.args.place c.cut.new.s)) ≤ m.used = cut_fits m c.args.place c.requires.within _ c.cut.ensures in
    omega (arith, m.below)

pub overflow_sub-used : goal.overflow_sub-used
overflow_sub-used c =
    let m = c.args.self.now in
    omega (arith, c.from-len.ensures, row_inside m c.args.place c.requires.within)

pub invariant_of-self : goal.invariant_of-self
invariant_of-self c =
    let m = c.args.self.now in
    let p = cut_done m c.args.place c.requires.within c.cut.new.s _ c.cut-2.new.s c.from.result c.from-len.result c.from.ensures c.from-len.ensures c.cut.ensures c.cut.auto.s c.repack.ensures c.cut-2.ensures in
    let few : m.count - 1 ≤ length c.cut.new.s = omega (arith, c.cut.auto.s, m.few) in
    let lr = written_length c.cut.new.s _ c.args.place (m.count - 1) _ (omega (arith, c.requires.within)) few c.repack.ensures ∙ c.cut.auto.s in
    let ll = c.cut-2.auto.s in
    record { few = omega (arith, lr, m.few); room = omega (arith, ll, m.room); below = omega (arith, m.below); sum = p.sum; packs = p.packs }

pub returns : goal.returns
returns c =
    let m = c.args.self.now in
    let p = cut_done m c.args.place c.requires.within c.cut.new.s _ c.cut-2.new.s c.from.result c.from-len.result c.from.ensures c.from-len.ensures c.cut.ensures c.cut.auto.s c.repack.ensures c.cut-2.ensures in
    let few : m.count - 1 ≤ length c.cut.new.s = omega (arith, c.cut.auto.s, m.few) in
    let lr = written_length c.cut.new.s _ c.args.place (m.count - 1) _ (omega (arith, c.requires.within)) few c.repack.ensures ∙ c.cut.auto.s in
    let ll = c.cut-2.auto.s in
    record { means = p.means; limits = same_limits _ _ _ _ lr ll; literals = refl; records = refl }
