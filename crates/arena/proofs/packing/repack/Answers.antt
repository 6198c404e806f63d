use Rattle.std.proofs.Common.{◌+◌, ◌≤◌, sym, refl, ◌∙◌, arith, rules}
use Rattle.arena.proofs.Packs.{fits_now, repack_step, fits_step, repack_end}
use Rattle.arena.proofs.packing.repack.Goals as goal

pub loop-record-init : goal.loop-record-init
loop-record-init c = (refl, c.requires)

pub overflow_add-at : goal.overflow_add-at
overflow_add-at c =
    let f : c.loop-record.at + c.from-at.result ≤ 16384 = omega (arith, c.from-at.ensures, fits_now c.loop-record.record-items c.loop-record.record-index c.loop-record.at (omega arith) 16384 c.loop-record.invariant.1) in
    search rules

pub loop-record-preserved : goal.loop-record-preserved
loop-record-preserved c =
    let i = c.loop-record.invariant in (
      repack_step c.loop-record.record-items c.loop-record.record-index c.loop-record.at (omega arith) c.from-at.result c.from-at.ensures ∙ i.0,
      fits_step c.loop-record.record-items c.loop-record.record-index c.loop-record.at (omega arith) c.from-at.result 16384 c.from-at.ensures i.1,
    )

pub returns : goal.returns
returns c = sym (repack_end c.loop-record.record-items c.loop-record.record-index c.loop-record.at (omega arith)) ∙ c.loop-record.invariant.0
