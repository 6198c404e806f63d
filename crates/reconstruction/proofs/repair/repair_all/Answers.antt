use Rattle.std.proofs.Common.{[], ◌∙◌, w16, SFits, rules}
use Rattle.std.proofs.lemmas.Int.{to_z-of_z}
use Rattle.reconstruction.proofs.Repairs.{share_fits, starts, turned}
use Rattle.reconstruction.proofs.repair.repair_all.Goals as goal

pub overflow_sub-rest : goal.overflow_sub-rest
overflow_sub-rest c = share_fits _ _ _ c.loop-entry.rest.now [] [] _ c.in-Some.ensures.steps c.loop-entry.invariant.2 c.weight.ensures

pub loop-entry-preserved : goal.loop-entry-preserved
loop-entry-preserved c =
    let f : SFits w16 c.in-Some.entry.now.pivot = search rules in (
      tt,
      tt,
      starts _ _ _ c.loop-entry.rest.now _ _ _ c.in-Some.ensures.steps c.loop-entry.invariant.2 c.weight.ensures c.split_at.ensures.front c.split_at.ensures.back,
      turned _ _ _ c.loop-entry.rest.now _ _ _ c.in-Some.ensures.steps c.loop-entry.invariant.2 c.weight.ensures c.split_at.ensures.front c.split_at.ensures.back _ c.loop-entry.assignment _ (to_z-of_z w16 _ f) c.repair.ensures ∙
          c.loop-entry.invariant.3,
    )
