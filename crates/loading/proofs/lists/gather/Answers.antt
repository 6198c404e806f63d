use Rattle.std.proofs.Common.{◌≤◌, length, get_or, pos, nat_abs, ap, arith, w16, SFits, rules}
use Rattle.std.proofs.lemmas.List.{length-take}
use Rattle.std.proofs.lemmas.Int.{to_z-of_z}
use Rattle.words.specs.Meanings.{lits_of}
use Rattle.loading.proofs.Beyond.{literal_at}
use Rattle.loading.proofs.Gathers.{gathering_more, gathering_full, gathering_all}
use Rattle.loading.proofs.lists.gather.Goals as goal

pub invariant_of-insert : goal.invariant_of-insert
invariant_of-insert c =
    let x = get_or c.args.list.now c.loop-i.i (pos 0) in
    let f : SFits w16 x = search rules in
    let r = literal_at 512 0 c.args.list.now c.loop-i.i c.requires.literals c.loop-i-test.true in
    let v = ap nat_abs (to_z-of_z w16 x f) in
    record { low = omega arith; high = omega arith }

pub returns-then-not-insert : goal.returns-then-not-insert
returns-then-not-insert c =
    let x = get_or c.args.list.now c.loop-i.i (pos 0) in
    let f : SFits w16 x = search rules in
    let k = c.loop-i.clause in
    let few : length (lits_of k) ≤ 64 = simp length-take (omega (arith, k.few)) in
    gathering_full c.args.list.now c.loop-i.i (lits_of k) c.loop-i.invariant c.requires.apart k.rises few _ (to_z-of_z w16 x f) c.loop-i-test.true c.insert.result c.insert.ensures.there c.if-not-insert.true

pub loop-i-preserved : goal.loop-i-preserved
loop-i-preserved c =
    let x = get_or c.args.list.now c.loop-i.i (pos 0) in
    let f : SFits w16 x = search rules in
    let k = c.loop-i.clause in
    let few : length (lits_of k) ≤ 64 = simp length-take (omega (arith, k.few)) in
    gathering_more c.args.list.now c.loop-i.i (lits_of k) c.loop-i.invariant c.requires.apart k.rises few _ (to_z-of_z w16 x f) c.loop-i-test.true c.insert.result c.insert.ensures.there (lits_of c.insert.new.self) c.if-not-insert.false c.insert.ensures.after

pub returns : goal.returns
returns c = gathering_all c.args.list.now c.loop-i.i (lits_of c.loop-i.clause) c.loop-i.invariant c.loop-i-test.false
