use Rattle.std.proofs.Common.{◌≡◌, ℕ, ◌<◌, ◌≤◌, true, false, List, map, leb, length, get_or, [], Some, ap, sym, ◌∙◌, arith, rules}
use Rattle.std.specs.List.Sorted.{IsPartitionedBy, IsPartitionPoint}
use Rattle.std.specs.Option.{option_map}
use Rattle.std.proofs.lemmas.Bool.Decides.{nat_tests}
use Rattle.std.proofs.lemmas.List.{length-take-le}
use Rattle.std.proofs.lemmas.List.Sorted.{IsPartitionPoint-from_clause}
use Rattle.words.specs.declared.number.ClauseNumber.{ClauseNumber}
use Rattle.words.specs.Standing.{Entry, next_above}
use Rattle.database.specs.Places.{numbers, place_above}
use Rattle.database.proofs.Places.{partition_is, next_is, next_none, proper}
use Rattle.arena.specs.Contents.{live_records, live_literals, contents}
use Rattle.arena.specs.declared.arena.Arena.{Arena}
use Rattle.arena.specs.declared.records.Record.{Record}
use Rattle.arena.proofs.Entries.{same_numbers, entry_is}
use Rattle.arena.proofs.Packs.{blank}
use Rattle.arena.proofs.arena.Arena.successor.Goals as goal

-- a clause without literals, where a read past the end needs one
nothing : Entry
nothing = record { number = 0; lits = [] }

-- where the records part is the place above a number
place_is : (s : Arena) (k i : ℕ) (rs : List Record) → rs ≡ live_records s.memory → i ≤ length rs →
    (IsPartitionedBy (λ x. leb x.number k) rs → IsPartitionPoint (λ x. leb x.number k ≡ true) (λ x. leb x.number k ≡ false) rs i) → i ≡ place_above k (contents s.memory)
place_is s k i rs e h p =
    let same : map (λ x. x.number) rs ≡ numbers (contents s.memory) = ap (map (λ x. x.number)) e ∙ same_numbers (live_records s.memory) (live_literals s.memory) in
    partition_is (λ x. x.number) 512 64 rs (contents s.memory) same s.kept k i h p

-- what is known of the record there
record_there : (s : Arena) (k i : ℕ) (rs : List Record) (r : Record) → rs ≡ live_records s.memory → i ≤ length rs →
    (IsPartitionedBy (λ x. leb x.number k) rs → IsPartitionPoint (λ x. leb x.number k ≡ true) (λ x. leb x.number k ≡ false) rs i) →
    (i < length rs) × ((d : Record) → r ≡ get_or rs i d) → (Some r.number ≡ next_above k (contents s.memory)) × (1 ≤ r.number) × (r.number ≤ 1000000)
record_there s k i rs r e h p l =
    let es = contents s.memory in
    let a = l.0 in
    let n = length-take-le s.memory.count s.memory.records.now s.memory.few in
    let q = ap length e in
    let w : i < length es = omega (arith, s.counts) in
    let b = place_is s k i rs e h p in
    let g : r.number ≡ (get_or es i nothing).number = ap (λ (x : Record). x.number) (l.1 blank ∙ ap (λ xs. get_or xs i blank) e) ∙ ap (λ (x : Entry). x.number) (sym (entry_is (live_records s.memory) (live_literals s.memory) i blank nothing (omega arith))) in
    let t = next_is k es nothing (omega arith) in
    let y = proper 512 64 0 i es nothing s.kept w in
    (ap Some g ∙ ap (λ j. Some (get_or es j nothing).number) b ∙ sym t, omega (arith, y.low), omega (arith, y.high))

pub returns-in_err-record : goal.returns-in_err-record
returns-in_err-record c =
    let s = c.args.self.now in
    let i = place_is s c.args.above c.partition_point-place.result c.live-live.result.now c.live-live.ensures c.partition_point-place.ensures.bound
    (λ q. IsPartitionPoint-from_clause (λ x. leb x.number c.args.above) _ _ c.partition_point-place.ensures.partitioned q (λ a r q k. search rules)) in
    let l = c.in_err-record.ensures.lookup.0 in
    let b : length c.live-live.result.now ≤ c.partition_point-place.result = grind (arith, nat_tests) in
    let n = next_none c.args.above (contents s.memory) (omega (arith, s.counts, ap length c.live-live.ensures, length-take-le s.memory.count s.memory.records.now s.memory.few)) in
    ap (option_map (λ (k : ClauseNumber). k.value)) c.from_residual.ensures ∙ sym n

pub invariant_of-result : goal.invariant_of-result
invariant_of-result c =
    let r = record_there c.args.self.now c.args.above c.partition_point-place.result c.live-live.result.now c.in_ok-record.record.now c.live-live.ensures c.partition_point-place.ensures.bound
    (λ q. IsPartitionPoint-from_clause (λ x. leb x.number c.args.above) _ _ c.partition_point-place.ensures.partitioned q (λ a r q k. search rules)) c.in_ok-record.ensures.lookup.3 in
    record { low = r.1; high = r.2 }

pub returns : goal.returns
returns c =
    (record_there c.args.self.now c.args.above c.partition_point-place.result c.live-live.result.now c.in_ok-record.record.now c.live-live.ensures c.partition_point-place.ensures.bound
    (λ q. IsPartitionPoint-from_clause (λ x. leb x.number c.args.above) _ _ c.partition_point-place.ensures.partitioned q (λ a r q k. search rules)) c.in_ok-record.ensures.lookup.3).0
