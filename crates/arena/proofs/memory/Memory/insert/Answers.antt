use Rattle.std.proofs.Common.{◌≡◌, ◌+◌, ◌-◌, ◌≤◌, length, take, drop, refl, ap, ◌∙◌, arith, rules}
use Rattle.words.specs.Meanings.{lits_of}
use Rattle.arena.specs.Splices.{opened}
use Rattle.std.specs.List.{between}
use Rattle.arena.specs.Layout.{total, repacked}
use Rattle.arena.specs.Contents.{live_records}
use Rattle.arena.proofs.Changes.{start_inside, put_fits, put_done, written_length, same_limits}
use Rattle.arena.proofs.Words.{width_is}
use Rattle.arena.proofs.memory.Memory.insert.Goals as goal

pub insert-requires-2 : goal.insert-requires-2
insert-requires-2 c =
    let m = c.args.self.now in
    let k = c.args.clause.now in
    let w : length k.lits ≡ 64 = search rules in
    let b = ap length c.literals.ensures ∙ width_is k w in
    let i = start_inside m c.args.place in
    record { within = omega (arith, c.start_at-start.ensures); room = omega (arith, width_is k w, c.requires.room) }

pub repack-requires : goal.repack-requires
repack-requires c =
    let m = c.args.self.now in
    let k = c.args.clause.now in
    let w : length k.lits ≡ 64 = search rules in
    let f : total (take c.args.place (live_records m)) + total (take (m.count + 1 - c.args.place) (drop c.args.place c.insert.new.s)) ≡ m.used + k.len = put_fits m c.args.place _ _ c.requires.within c.insert.ensures in
    omega (arith, c.requires.below, c.start_at-start.ensures, width_is k w)

pub invariant_of-self : goal.invariant_of-self
invariant_of-self c =
    let m = c.args.self.now in
    let k = c.args.clause.now in
    let w : length k.lits ≡ 64 = search rules in
    let b = ap length c.literals.ensures ∙ width_is k w in
    let y = c.repack.ensures ∙ ap (λ a. repacked a (between c.args.place (m.count + 1) c.insert.new.s)) c.start_at-start.ensures in
    let q : take (m.used + length (lits_of k)) c.insert-2.new.s ≡ opened (take m.used m.literals.now) (total (take c.args.place (live_records m))) (lits_of k) =
    let e = c.literals.ensures in let s = c.start_at-start.ensures in let f = c.from.ensures in let i = c.insert-2.ensures in cc in
    let p = put_done m c.args.place (lits_of k) _ c.insert.new.s _ c.insert-2.new.s k.len
    c.requires.within c.requires.row c.insert.auto.s (width_is k w) refl c.insert.ensures y q in
    let few : m.count + 1 ≤ length c.insert.new.s = omega (arith, c.insert.auto.s, c.requires.row) in
    let lr = written_length c.insert.new.s _ c.args.place (m.count + 1) _ (omega (arith, c.requires.within)) few y ∙ c.insert.auto.s in
    let ll = c.insert-2.auto.s in
    record { few = omega (arith, lr, c.requires.row); room = omega (arith, ll, width_is k w, c.requires.room); below = omega (arith, width_is k w, c.requires.below); sum = p.sum; packs = p.packs }

pub returns : goal.returns
returns c =
    let m = c.args.self.now in
    let k = c.args.clause.now in
    let w : length k.lits ≡ 64 = search rules in
    let b = ap length c.literals.ensures ∙ width_is k w in
    let y = c.repack.ensures ∙ ap (λ a. repacked a (between c.args.place (m.count + 1) c.insert.new.s)) c.start_at-start.ensures in
    let q : take (m.used + length (lits_of k)) c.insert-2.new.s ≡ opened (take m.used m.literals.now) (total (take c.args.place (live_records m))) (lits_of k) =
    let e = c.literals.ensures in let s = c.start_at-start.ensures in let f = c.from.ensures in let i = c.insert-2.ensures in cc in
    let p = put_done m c.args.place (lits_of k) _ c.insert.new.s _ c.insert-2.new.s k.len
    c.requires.within c.requires.row c.insert.auto.s (width_is k w) refl c.insert.ensures y q in
    let few : m.count + 1 ≤ length c.insert.new.s = omega (arith, c.insert.auto.s, c.requires.row) in
    let lr = written_length c.insert.new.s _ c.args.place (m.count + 1) _ (omega (arith, c.requires.within)) few y ∙ c.insert.auto.s in
    let ll = c.insert-2.auto.s in
    record { means = p.means; limits = same_limits _ _ _ _ lr ll; literals = refl; records = refl }
