use Rattle.std.proofs.Common.{ℕ, get_or, replicate, pos, nat_abs, sym, refl, ap, ◌∙◌, arith, w16, SFits, rules}
use Rattle.std.proofs.lemmas.List.{length-set, length-replicate, take_all}
use Rattle.std.proofs.lemmas.Int.{to_z-of_z}
use Rattle.std.proofs.lemmas.Bool.{eq-eqb, ne_eqb}
use Rattle.words.specs.Clauses.{opposed}
use Rattle.words.proofs.Marks.{marked_none}
use Rattle.loading.proofs.Beyond.{literal_at}
use Rattle.loading.proofs.Pairs.{pair_hit, pair_miss, marked_at, before}
use Rattle.loading.proofs.lists.holds_opposite_pair.Goals as goal

pub loop-x-init : goal.loop-x-init
loop-x-init c = (marked_none 512 1024 (replicate 1024 0) refl refl, refl, length-replicate {A = ℕ} 1024 0)

pub invariant_of-l : goal.invariant_of-l
invariant_of-l c =
    let x = get_or c.args.list.now c.loop-x.x-index (pos 0) in
    let f : SFits w16 x = search rules in
    let r = literal_at 512 0 c.args.list.now c.loop-x.x-index c.requires c.loop-x-test.true in
    let v = ap nat_abs (to_z-of_z w16 x f) in
    record { low = omega arith; high = omega arith }

pub returns-then-marks-mark_place-eq1 : goal.returns-then-marks-mark_place-eq1
returns-then-marks-mark_place-eq1 c =
    let x = get_or c.args.list.now c.loop-x.x-index (pos 0) in
    let f : SFits w16 x = search rules in
    let b = before c.args.list.now c.loop-x.x-index _ (to_z-of_z w16 x f) c.requires c.loop-x-test.true c.loop-x.marks c.loop-x.invariant.0 c.negated-n.result.value c.negated-n.ensures c.mark_place.result c.mark_place.ensures.value in
    pair_hit c.args.list.now c.loop-x.x-index _ (to_z-of_z w16 x f) c.loop-x-test.true c.loop-x.invariant.1 (sym b ∙ eq-eqb _ 1 c.if-marks-mark_place-eq1.true)

pub loop-x-preserved : goal.loop-x-preserved
loop-x-preserved c =
    let x = get_or c.args.list.now c.loop-x.x-index (pos 0) in
    let f : SFits w16 x = search rules in
    let b = before c.args.list.now c.loop-x.x-index _ (to_z-of_z w16 x f) c.requires c.loop-x-test.true c.loop-x.marks c.loop-x.invariant.0 c.negated-n.result.value c.negated-n.ensures c.mark_place.result c.mark_place.ensures.value in (
      marked_at c.args.list.now c.loop-x.x-index _ (to_z-of_z w16 x f) c.requires c.loop-x-test.true c.loop-x.marks c.loop-x.invariant.0 c.loop-x.invariant.2 c.mark_place-in-loop-x.result c.mark_place-in-loop-x.ensures.value,
      pair_miss c.args.list.now c.loop-x.x-index _ (to_z-of_z w16 x f) c.loop-x-test.true c.loop-x.invariant.1 (sym b ∙ ne_eqb _ 1 c.if-marks-mark_place-eq1.false),
      length-set c.loop-x.marks _ 1 ∙ c.loop-x.invariant.2,
    )

pub returns : goal.returns
returns c = sym (ap opposed (sym (take_all c.loop-x.x-index c.args.list.now c.loop-x-test.false)) ∙ c.loop-x.invariant.1)
