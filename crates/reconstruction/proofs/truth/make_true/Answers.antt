use Rattle.std.proofs.Common.{◌-◌, nat_abs, sym, ap, ◌∙◌, arith, w16}
use Rattle.std.proofs.lemmas.Int.{to_z-of_z}
use Rattle.std.proofs.lemmas.List.{set_past}
use Rattle.reconstruction.proofs.truth.make_true.Goals as goal

pub returns-else-at-assignment : goal.returns-else-at-assignment
returns-else-at-assignment c = sym (set_past c.args.assignment.now _ _ (omega (arith, c.place-at.ensures ∙ ap (λ z. nat_abs z - 1) (to_z-of_z w16 c.args.literal c.ranges.literal))))
