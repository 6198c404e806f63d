use Rattle.std.proofs.Common.{◌<◌, length, get_or, Some, ap, sym, ◌∙◌, arith, rules}
use Rattle.std.specs.Option.{option_map}
use Rattle.words.specs.Standing.{Entry}
use Rattle.database.proofs.Places.{found_ok, none_under}
use Rattle.bitmask.specs.Meanings.{standing_in}
use Rattle.bitmask.specs.Masks.{decoded}
use Rattle.bitmask.specs.Slots.{entry}
use Rattle.bitmask.specs.declared.slot.Slot.{Slot}
use Rattle.bitmask.proofs.Tables.{as_many, blank, entry_at}
use Rattle.bitmask.proofs.table.Bitmask.find.Goals as goal

pub returns-in_err-place : goal.returns-in_err-place
returns-in_err-place c =
    let s = c.args.self.now in
    ap (option_map (λ (x : Slot). decoded x.plus x.minus)) c.from_residual.ensures ∙ sym (none_under 64 64 0 c.args.number.value (standing_in s) _ s.kept c.place.ensures.place c.in_err-place.ensures.value)

pub offset_bounds-as_slice-place : goal.offset_bounds-as_slice-place
offset_bounds-as_slice-place c =
    let s = c.args.self.now in
    let f = found_ok c.args.number.value _ (standing_in s) _ c.place.ensures.place c.in_ok-place.ensures.value in
    let i : c.in_ok-place.place < 256 = omega (arith, f.inside, as_many s.slots.items, s.few) in
    search rules

pub bounds-as_slice-place : goal.bounds-as_slice-place
bounds-as_slice-place c =
    let s = c.args.self.now in
    let f = found_ok c.args.number.value _ (standing_in s) _ c.place.ensures.place c.in_ok-place.ensures.value in
    omega (arith, f.inside, as_many s.slots.items, ap length c.as_slice.ensures.value)

pub returns : goal.returns
returns c =
    let s = c.args.self.now in
    let f = found_ok c.args.number.value _ (standing_in s) _ c.place.ensures.place c.in_ok-place.ensures.value in
    let h : c.in_ok-place.place < length s.slots.items = omega (arith, f.inside, as_many s.slots.items) in
    let e = ap (λ (x : Entry). Some x.lits) (entry_at s.slots.items c.in_ok-place.place blank h) in
    let v = ap (λ ss. Some (entry (get_or ss c.in_ok-place.place blank)).lits) c.as_slice.ensures.value in
    v ∙ sym e ∙ sym (f.clause (entry blank))
