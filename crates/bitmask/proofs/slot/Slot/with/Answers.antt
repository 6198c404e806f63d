use Rattle.std.proofs.Common.{pos, nat_abs, sym, refl, ap, ◌∙◌, w16, SFits, rules}
use lib.Signed.{lt_z}
use Rattle.std.proofs.lemmas.Int.{to_z-of_z}
use Rattle.bitmask.proofs.Telling.{with_positive, with_negative}
use Rattle.bitmask.proofs.slot.Slot.with.Goals as goal

pub returns-then-literal-gt0 : goal.returns-then-literal-gt0
returns-then-literal-gt0 c =
    let s = c.args.self in
    let f : SFits w16 c.args.literal.value = search rules in
    let q = to_z-of_z w16 c.args.literal.value f in
    record {
      number = refl;
      told = with_positive s.plus s.minus c.unsigned_abs.result c.args.literal.value c.args.literal.low c.requires (c.unsigned_abs.ensures.value ∙ ap nat_abs q) (ap (lt_z (pos 0)) (sym q) ∙ c.if-literal-gt0.true);
    }

pub returns-else-literal-gt0 : goal.returns-else-literal-gt0
returns-else-literal-gt0 c =
    let s = c.args.self in
    let f : SFits w16 c.args.literal.value = search rules in
    let q = to_z-of_z w16 c.args.literal.value f in
    record {
      number = refl;
      told = with_negative s.plus s.minus c.unsigned_abs.result c.args.literal.value c.args.literal.low c.requires (c.unsigned_abs.ensures.value ∙ ap nat_abs q) (ap (lt_z (pos 0)) (sym q) ∙ c.if-literal-gt0.false);
    }
