use Rattle.std.proofs.Common.{◌≡◌, ℕ, ◌+◌, ◌<◌, length, get_or, sym, ap, ◌∙◌, arith, rules}
use Rattle.std.specs.List.{remove}
use Rattle.words.specs.Standing.{Entry, ordered, literals}
use Rattle.database.proofs.Bounds.{ordered_remove}
use Rattle.bitmask.specs.Meanings.{standing_in}
use Rattle.bitmask.specs.Slots.{entry, entries}
use Rattle.bitmask.specs.declared.slot.Slot.{Slot}
use Rattle.bitmask.specs.declared.table.Bitmask.{Bitmask}
use Rattle.bitmask.proofs.Tables.{as_many, entry_at, entries_remove, literals_remove}
use Rattle.bitmask.proofs.table.Bitmask.cut.Goals as goal

-- what is left has fewer literals by the width of the slot
less : (b : Bitmask) (i n : ℕ) (x : Slot) → i < length (standing_in b) → x ≡ get_or b.slots.items i x → n ≡ length (entry x).lits → literals (remove (standing_in b) i) + n ≡ b.total
less b i n x h e w =
    let a = ap entry e ∙ sym (entry_at b.slots.items i x (omega (arith, as_many b.slots.items))) in
    let u = ap (λ (z : Entry). length z.lits) a in
    omega (arith, literals_remove (standing_in b) i (entry x) h, b.summed)

pub remove-slot-requires : goal.remove-slot-requires
remove-slot-requires c =
    let s = c.args.self.now in
    let m : c.args.place < length s.slots.items = omega (arith, c.requires, as_many s.slots.items) in
    search rules

pub overflow_sub-self : goal.overflow_sub-self
overflow_sub-self c = omega (arith, less c.args.self.now c.args.place c.width.result c.remove-slot.result c.requires c.remove-slot.ensures.value c.width.ensures.width)

pub invariant_of-self : goal.invariant_of-self
invariant_of-self c =
    let s = c.args.self.now in
    let e = ap entries c.remove-slot.ensures.items ∙ entries_remove s.slots.items c.args.place in
    let l = less s c.args.place c.width.result c.remove-slot.result c.requires c.remove-slot.ensures.value c.width.ensures.width in
    record {
      few = omega (arith, c.remove-slot.ensures.len, s.few);
      kept = ap (ordered 64 64 0) e ∙ ordered_remove 64 64 0 c.args.place (standing_in s) s.kept;
      summed = ap literals e ∙ omega (arith, l);
    }

pub returns : goal.returns
returns c = ap entries c.remove-slot.ensures.items ∙ entries_remove c.args.self.now.slots.items c.args.place
