use Rattle.std.proofs.Common.{◌≡◌, ℕ, ◌<◌, ◌≤◌, true, false, List, map, leb, length, get_or, Some, ap, sym, subst, ◌∙◌, arith, rules}
use Rattle.std.specs.List.Sorted.{IsPartitionedBy, IsPartitionPoint}
use Rattle.std.specs.Option.{option_map}
use Rattle.std.proofs.lemmas.Bool.Decides.{nat_tests}
use Rattle.std.proofs.lemmas.List.Sorted.{IsPartitionPoint-from_clause}
use Rattle.words.specs.declared.number.ClauseNumber.{ClauseNumber}
use Rattle.words.specs.Standing.{Entry, next_above}
use Rattle.database.specs.Places.{numbers, place_above}
use Rattle.database.proofs.Places.{partition_is, next_is, next_none, Proper, proper}
use Rattle.bitmask.specs.Meanings.{standing_in}
use Rattle.bitmask.specs.Slots.{entry}
use Rattle.bitmask.specs.declared.slot.Slot.{Slot}
use Rattle.bitmask.specs.declared.table.Bitmask.{Bitmask}
use Rattle.bitmask.proofs.Tables.{same_numbers, as_many, blank, entry_at}
use Rattle.bitmask.proofs.table.Bitmask.successor.Goals as goal

-- the slot at the place above a number
above_slot : (b : Bitmask) (k i : ℕ) (s : Slot) → i ≡ place_above k (standing_in b) → i < length b.slots.items → s ≡ get_or b.slots.items i blank →
    (Some s.number ≡ next_above k (standing_in b)) × Proper 64 64 (entry s)
above_slot b k i s p h e =
    let a = entry_at b.slots.items i blank h in
    let n = next_is k (standing_in b) (entry blank) (omega (arith, as_many b.slots.items)) in
    let r = proper 64 64 0 i (standing_in b) (entry blank) b.kept (omega (arith, as_many b.slots.items)) in
    (ap (λ (x : Entry). Some x.number) (ap entry e ∙ sym a) ∙ ap (λ j. Some (get_or (standing_in b) j (entry blank)).number) p ∙ sym n, subst (Proper 64 64) (a ∙ ap entry (sym e)) r)

-- where the slots part is that place
place_is : (b : Bitmask) (k i : ℕ) (ss : List Slot) → ss ≡ b.slots.items → i ≤ length ss →
    (IsPartitionedBy (λ x. leb x.number k) ss → IsPartitionPoint (λ x. leb x.number k ≡ true) (λ x. leb x.number k ≡ false) ss i) → i ≡ place_above k (standing_in b)
place_is b k i ss e h p =
    let same : map (λ x. x.number) ss ≡ numbers (standing_in b) = ap (map (λ x. x.number)) e ∙ same_numbers b.slots.items in
    partition_is (λ x. x.number) 64 64 ss (standing_in b) same b.kept k i h p

pub returns-in_err-slot : goal.returns-in_err-slot
returns-in_err-slot c =
    let s = c.args.self.now in
    let i = place_is s c.args.bound c.partition_point-place.result c.as_slice-slots.result.now c.as_slice-slots.ensures.value c.partition_point-place.ensures.bound
    (λ q. IsPartitionPoint-from_clause (λ x. leb x.number c.args.bound) _ _ c.partition_point-place.ensures.partitioned q (λ a r q k. search rules)) in
    let l = c.in_err-slot.ensures.lookup.0 in
    let b : length c.as_slice-slots.result.now ≤ c.partition_point-place.result = grind (arith, nat_tests) in
    let n = next_none c.args.bound (standing_in s) (omega (arith, as_many s.slots.items, ap length c.as_slice-slots.ensures.value)) in
    ap (option_map (λ (k : ClauseNumber). k.value)) c.from_residual.ensures ∙ sym n

-- what is known of the slot there
slot_there : (b : Bitmask) (k i : ℕ) (ss : List Slot) (s : Slot) → ss ≡ b.slots.items → i ≤ length ss →
    (IsPartitionedBy (λ x. leb x.number k) ss → IsPartitionPoint (λ x. leb x.number k ≡ true) (λ x. leb x.number k ≡ false) ss i) →
    (i < length ss) × ((d : Slot) → s ≡ get_or ss i d) → (Some s.number ≡ next_above k (standing_in b)) × Proper 64 64 (entry s)
slot_there b k i ss s e h p l =
    let q = ap length e in
    let a = l.0 in
    above_slot b k i s (place_is b k i ss e h p) (omega arith) (l.1 blank ∙ ap (λ xs. get_or xs i blank) e)

pub invariant_of-result : goal.invariant_of-result
invariant_of-result c =
    let r = slot_there c.args.self.now c.args.bound c.partition_point-place.result c.as_slice-slots.result.now c.in_ok-slot.slot.now c.as_slice-slots.ensures.value c.partition_point-place.ensures.bound
    (λ q. IsPartitionPoint-from_clause (λ x. leb x.number c.args.bound) _ _ c.partition_point-place.ensures.partitioned q (λ a r q k. search rules)) c.in_ok-slot.ensures.lookup.3 in
    record { low = r.1.low; high = r.1.high }

pub returns : goal.returns
returns c =
    (slot_there c.args.self.now c.args.bound c.partition_point-place.result c.as_slice-slots.result.now c.in_ok-slot.slot.now c.as_slice-slots.ensures.value c.partition_point-place.ensures.bound
    (λ q. IsPartitionPoint-from_clause (λ x. leb x.number c.args.bound) _ _ c.partition_point-place.ensures.partitioned q (λ a r q k. search rules)) c.in_ok-slot.ensures.lookup.3).0
