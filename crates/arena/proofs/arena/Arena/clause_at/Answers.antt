use Rattle.std.proofs.Common.{◌+◌, ◌<◌, ◌≤◌, [], Some, replicate, pos, sym, ap, ◌∙◌, arith, rules}
use Rattle.std.specs.Option.{option_map}
use Rattle.std.proofs.lemmas.Option.{slice_get-get_or}
use Rattle.std.proofs.lemmas.List.{length-take-le}
use Rattle.words.specs.Standing.{Entry}
use Rattle.arena.specs.Contents.{contents}
use Rattle.arena.proofs.Rows.{row_is, part_inside, row_length, row_few, row_copied}
use Rattle.arena.proofs.arena.Arena.clause_at.Goals as goal

few : (c : goal.After-from-len) → c.from-len.result ≤ 64
few c =
    let s = c.args.self.now in
    let h : c.args.place < s.memory.count = omega (arith, c.requires, s.counts) in
    row_few s.memory c.args.place h c.from-start.result c.from-len.result c.from-start.ensures c.from-len.ensures s.kept

ends : (c : goal.After-from-len) → c.from-start.result + c.from-len.result ≤ c.args.self.now.memory.used
ends c =
    let s = c.args.self.now in
    let h : c.args.place < s.memory.count = omega (arith, c.requires, s.counts) in
    part_inside s.memory c.args.place h c.from-start.result c.from-len.result c.from-start.ensures c.from-len.ensures

pub slice_bounds-lits-end : goal.slice_bounds-lits-end
slice_bounds-lits-end c = few c

pub slice_bounds-copy_from_slice-end : goal.slice_bounds-copy_from_slice-end
slice_bounds-copy_from_slice-end c = sym (length-take-le c.from-len.result (replicate 64 (pos 0)) (few c.before))

pub overflow_add-start : goal.overflow_add-start
overflow_add-start c = let m : c.from-start.result + c.from-len.result ≤ 16384 = omega (arith, ends c.before, c.args.self.now.memory.below) in search rules

pub offset_bounds-literals-start : goal.offset_bounds-literals-start
offset_bounds-literals-start c = let m : c.from-start.result + c.from-len.result ≤ 16384 = omega (arith, ends c.before, c.args.self.now.memory.below) in search rules

pub slice_bounds-copy_from_slice-end-2 : goal.slice_bounds-copy_from_slice-end-2
slice_bounds-copy_from_slice-end-2 c = omega (arith, ends c.before, c.args.self.now.memory.room)

pub copy_from_slice-requires : goal.copy_from_slice-requires
copy_from_slice-requires c =
    let s = c.args.self.now in
    let h : c.args.place < s.memory.count = omega (arith, c.requires, s.counts) in
    length-take-le c.from-len.result (replicate 64 (pos 0)) (few c.before.before) ∙
    sym (row_length s.memory c.args.place h c.from-start.result c.from-len.result c.from-start.ensures c.from-len.ensures)

pub invariant_of-result : goal.invariant_of-result
invariant_of-result c =
    let s = c.args.self.now in
    let h : c.args.place < s.memory.count = omega (arith, c.requires, s.counts) in
    let k = row_copied s.memory c.args.place h c.from-start.result c.from-len.result c.from-start.ensures c.from-len.ensures s.kept _ _ c.copy_from_slice.ensures.after in
    record { few = k.few; rises = k.rises }

pub returns : goal.returns
returns c =
    let s = c.args.self.now in
    let h : c.args.place < s.memory.count = omega (arith, c.requires, s.counts) in
    let k = row_copied s.memory c.args.place h c.from-start.result c.from-len.result c.from-start.ensures c.from-len.ensures s.kept _ _ c.copy_from_slice.ensures.after in
    let d : Entry = record { number = 0; lits = [] } in
    ap Some k.means ∙ ap (λ (e : Entry). Some e.lits) (sym (row_is s.memory c.args.place h d)) ∙ ap (option_map (λ (e : Entry). e.lits)) (sym (slice_get-get_or (contents s.memory) c.args.place d c.requires))
