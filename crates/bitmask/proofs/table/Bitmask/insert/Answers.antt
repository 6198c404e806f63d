use Rattle.std.proofs.Common.{◌≡◌, ℕ, ◌+◌, ◌^◌, ◌<◌, ◌≤◌, true, List, length, Err, refl, ap, sym, ◌∙◌, arith, rules}
use Rattle.std.specs.List.{insert}
use Rattle.words.specs.Clauses.{canonical}
use Rattle.words.specs.Meanings.{lits_of}
use Rattle.words.specs.Standing.{Entry, ordered, literals, inserted}
use Rattle.words.specs.declared.clause.Clause.{Clause}
use Rattle.words.specs.declared.number.ClauseNumber.{ClauseNumber}
use Rattle.database.specs.Places.{place_of}
use Rattle.database.proofs.Bounds.{literals_bound, ordered_inserted}
use Rattle.database.proofs.Places.{missing}
use Rattle.bitmask.specs.Meanings.{standing_in}
use Rattle.bitmask.specs.Slots.{entry, entries}
use Rattle.bitmask.specs.declared.slot.Slot.{Slot}
use Rattle.bitmask.specs.declared.table.Bitmask.{Bitmask}
use Rattle.bitmask.proofs.Decoding.{canonical_decoded}
use Rattle.bitmask.proofs.Tables.{as_many, entries_insert, literals_insert, put_entry, number_right, clause_len}
use Rattle.bitmask.proofs.table.Bitmask.insert.Goals as goal

-- what the slots mean after
after : (b : Bitmask) (k : ClauseNumber) (c : Clause) (x : Slot) (i : ℕ) (ss : List Slot) → entry x ≡ put_entry k c → Err i ≡ place_of k.value (standing_in b) →
    ss ≡ insert b.slots.items i x → entries ss ≡ inserted (put_entry k c) (standing_in b)
after b k c x i ss e p q =
    ap entries q ∙ entries_insert b.slots.items i x ∙ ap (insert (standing_in b) i) e ∙ sym ((missing 64 64 0 k.value i (standing_in b) b.kept p).put (put_entry k c) refl)

-- and how many literals they have
more : (b : Bitmask) (k : ClauseNumber) (c : Clause) (x : Slot) (i : ℕ) (ss : List Slot) → entry x ≡ put_entry k c → length c.lits ≡ 64 → ss ≡ insert b.slots.items i x →
    literals (entries ss) ≡ b.total + c.len
more b k c x i ss e h q =
    let a = ap literals (ap entries q ∙ entries_insert b.slots.items i x) in
    let u = ap (λ (z : Entry). length z.lits) e in
    omega (arith, literals_insert (standing_in b) i (entry x), clause_len c h, b.summed)

pub insert-requires : goal.insert-requires
insert-requires c =
    let s = c.args.self.now in
    let m : c.args.place ≤ length s.slots.items = omega (arith, (missing 64 64 0 c.args.number.value _ (standing_in s) s.kept c.requires.here).inside, as_many s.slots.items) in
    let r = c.requires.room in
    search rules

pub overflow_add-self : goal.overflow_add-self
overflow_add-self c =
    let s = c.args.self.now in
    let b = literals_bound 64 64 0 (standing_in s) s.kept in
    let n : s.total + c.args.clause.now.len < 2 ^ 64 = omega (arith, b, s.summed, s.few, as_many s.slots.items, c.args.clause.now.few) in
    search rules

pub invariant_of-self : goal.invariant_of-self
invariant_of-self c =
    let s = c.args.self.now in
    let k = c.args.number in
    let e = after s k c.args.clause.now c.of.result c.args.place c.insert.new.self.items c.of.ensures c.requires.here c.insert.ensures.items in
    let free = (missing 64 64 0 k.value _ (standing_in s) s.kept c.requires.here).absent in
    let right : canonical 64 64 (lits_of c.args.clause.now) ≡ true = ap (λ (z : Entry). canonical 64 64 z.lits) (sym c.of.ensures) ∙ canonical_decoded c.of.result.plus c.of.result.minus in
    let o = ordered_inserted 64 64 0 (put_entry k c.args.clause.now) (standing_in s) s.kept k.low (number_right k) right free in
    let n : length c.args.clause.now.lits ≡ 64 = search rules in
    record {
      few = omega (arith, c.insert.ensures.len, c.requires.room);
      kept = ap (ordered 64 64 0) e ∙ o;
      summed = more s k c.args.clause.now c.of.result c.args.place c.insert.new.self.items c.of.ensures n c.insert.ensures.items;
    }

pub returns : goal.returns
returns c =
    after c.args.self.now c.args.number c.args.clause.now c.of.result c.args.place c.insert.new.self.items c.of.ensures c.requires.here c.insert.ensures.items
