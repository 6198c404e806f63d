-- The records in use, and the clauses that they stand for.
use Rattle.std.proofs.Common.{◌≡◌, ℕ, ◌+◌, ◌-◌, ◌<◌, ◌≤◌, true, List, [], ◌++◌, length, get_or, take, drop, ℤ, sym, refl, ap, ◌∙◌, arith}
use Rattle.std.proofs.lemmas.List.{get_or-take, length-take-le, length-drop, take-take, drop-take, take_at}
use Rattle.std.proofs.lemmas.Bool.Decides.{nat_tests}
use Rattle.words.specs.Clauses.{canonical, rising}
use Rattle.words.specs.Standing.{Entry, ordered, literals}
use Rattle.arena.specs.Contents.{live_records, live_literals, contents}
use Rattle.database.proofs.Places.{proper}
use Rattle.arena.specs.declared.memory.Memory.{Memory}
use Rattle.arena.proofs.Entries.{entry_is, length_entries, literals_entries}
use Rattle.arena.proofs.Changes.{start_is, row_inside}
use Rattle.arena.proofs.Packs.{blank}

-- a part within the live part
pub part_live : {X : Type 0} (xs : List X) (s n u : ℕ) → s + n ≤ u → take n (drop s (take u xs)) ≡ take n (drop s xs)
part_live xs s n u h =
    let z : s + (u - s) ≡ u = omega arith in
    ap (λ k. take n (drop s (take k xs))) (sym z) ∙ ap (take n) (drop-take s (u - s) xs) ∙ take-take n (u - s) (drop s xs) (omega arith)

-- literals copied to the front of others make a clause
pub record Copied (part lits : List ℤ) (n : ℕ) : Type 0 where
  pub few : n ≤ 64
  pub rises : rising 512 0 (take n lits) ≡ true
  pub means : take n lits ≡ part

-- so it is one
pub copied : (part ys rest : List ℤ) (n : ℕ) → canonical 512 64 part ≡ true → length part ≡ n → ys ≡ part → Copied part (ys ++ rest) n
copied part ys rest n c l e =
    let f : length part ≤ 64 = grind (arith, nat_tests) in
    let r : rising 512 0 part ≡ true = grind (arith, nat_tests) in
    let p : take n (ys ++ rest) ≡ part = take_at ys rest n (ap length e ∙ l) ∙ e in
    record { few = omega arith; rises = ap (rising 512 0) p ∙ r; means = p }

module _ (m : Memory) where
  -- as many clauses as records
  pub count_is : m.count ≡ length (contents m)
  count_is = sym (length_entries (live_records m) (live_literals m) ∙ length-take-le m.count m.records.now m.few)

  -- as many literals as the records have
  pub weight_is : m.used ≡ literals (contents m)
  weight_is =
      let l = length-take-le m.used m.literals.now m.room in
      sym (literals_entries (live_records m) (live_literals m) (omega (arith, m.sum)) ∙ m.sum)

  module _ (i : ℕ) (h : i < m.count) where
    -- the clause of the record at i
    pub row_is : (d : Entry) → get_or (contents m) i d ≡ record { number = (get_or m.records.now i blank).number; lits = take (get_or m.records.now i blank).len (drop (get_or m.records.now i blank).start m.literals.now) }
    row_is d =
        let l = length-take-le m.count m.records.now m.few in
        let e = entry_is (live_records m) (live_literals m) i blank d (omega arith) in
        let g = get_or-take m.count m.records.now i blank h in
        let s = start_is m i h in
        let p = part_live m.literals.now (get_or m.records.now i blank).start (get_or m.records.now i blank).len m.used (row_inside m i h) in
        cc

    -- a clause that its literals, n from s on, are copied into
    module _ (s n : ℕ) (start : s ≡ (get_or m.records.now i blank).start) (len : n ≡ (get_or m.records.now i blank).len) where
      -- they are in use
      pub part_inside : s + n ≤ m.used
      part_inside = omega (arith, row_inside m i h)

      -- and as many as the record says
      pub row_length : length (take (s + n - s) (drop s m.literals.now)) ≡ n
      row_length =
          let b = part_inside in
          let r = m.room in
          length-take-le (s + n - s) (drop s m.literals.now) (simp length-drop (omega arith)) ∙ omega arith

      module _ (o : ordered 512 64 0 (contents m) ≡ true) where
        row_canonical : canonical 512 64 (take (get_or m.records.now i blank).len (drop (get_or m.records.now i blank).start m.literals.now)) ≡ true
        row_canonical =
            let d : Entry = record { number = 0; lits = [] } in
            ap (λ (x : Entry). canonical 512 64 x.lits) (sym (row_is d)) ∙ (proper 512 64 0 i (contents m) d o (omega (arith, count_is))).right

        pub row_copied : (ys rest : List ℤ) → ys ≡ take (s + n - s) (drop s m.literals.now) →
            Copied (take (get_or m.records.now i blank).len (drop (get_or m.records.now i blank).start m.literals.now)) (ys ++ rest) n
        row_copied ys rest f =
            let z : s + n - s ≡ n = omega arith in
            let e : take (s + n - s) (drop s m.literals.now) ≡ take (get_or m.records.now i blank).len (drop (get_or m.records.now i blank).start m.literals.now) = cc in
            copied _ ys rest n row_canonical (ap length (sym e) ∙ row_length) (f ∙ e)

        pub row_few : n ≤ 64
        row_few = (row_copied _ [] refl).few
