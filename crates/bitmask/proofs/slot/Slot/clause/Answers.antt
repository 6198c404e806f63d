use Rattle.std.proofs.Common.{length, refl, ap, ◌∙◌, arith, length-set, w16, SFits, rules}
use Rattle.std.proofs.lemmas.Int.{to_z-of_z}
use Rattle.bitmask.proofs.Reading.{read_start, read_some, read_none, read_end, read_rises}
use Rattle.bitmask.proofs.slot.Slot.clause.Goals as goal
use Rattle.bitmask.proofs.slot.Slot.clause.Goals.{in-Some, in_default}

pub loop-place-init : goal.loop-place-init
loop-place-init c = (read_start c.args.self.now.plus c.args.self.now.minus, omega arith, refl)

pub loop-place-preserved : goal.loop-place-preserved
loop-place-preserved c =
    let s = c.args.self.now in
    let l = c.loop-place in
    elim c.match-literal.branch [
      | in-Some w ↦
          let f : SFits w16 w.in-Some.literal = search rules in
          let n = ap length w.lits-is ∙ length-set l.lits l.len _ in (
            read_some s.plus s.minus l.place l.len l.lits _ c.loop-place-test.true l.invariant.0 w.in-Some.literal _ _ _ (omega arith) w.in-Some.ensures (to_z-of_z w16 _ f) w.len-is w.lits-is,
            omega (arith, w.len-is),
            n ∙ l.invariant.2,
          )
      | in_default w ↦ (
        read_none s.plus s.minus l.place l.len l.lits _ c.loop-place-test.true l.invariant.0 _ _ w.in_default.ensures w.len-is w.lits-is,
        omega (arith, w.len-is),
        ap length w.lits-is ∙ l.invariant.2,
      )
    ]

pub invariant_of-result : goal.invariant_of-result
invariant_of-result c =
    let s = c.args.self.now in
    let e = read_end s.plus s.minus c.loop-place.place c.loop-place.len c.loop-place.lits _ (omega arith) c.loop-place.invariant.0 in
    record { few = omega arith; rises = read_rises s.plus s.minus _ e }

pub returns : goal.returns
returns c =
    let s = c.args.self.now in
    read_end s.plus s.minus c.loop-place.place c.loop-place.len c.loop-place.lits _ (omega arith) c.loop-place.invariant.0
