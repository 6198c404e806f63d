-- Clauses of records and literals that are put together or taken apart.
use Rattle.std.proofs.Common.{◌≡◌, ℕ, zero, suc, ◌+◌, ◌-◌, ◌<◌, ◌≤◌, true, ◌&&◌, List, [], ◌∷◌, ◌++◌, map, length, get_or, take, drop, ℤ, sym, refl, ap, ◌∙◌, arith}
use Rattle.std.specs.List.{between}
use Rattle.std.proofs.lemmas.List.{take-take, drop-take, drop-drop, take-append-le, drop-append-le, take-append-drop, length-take, length-take-le, length-drop}
use Rattle.std.proofs.lemmas.Bool.Decides.{nat_tests}
use Rattle.words.specs.Standing.{Entry, literals}
use Rattle.database.specs.Places.{numbers}
use Rattle.arena.specs.Layout.{entries, total, packed, repacked}
use Rattle.arena.specs.declared.records.Record.{Record}

-- two rows of records, each with its literals
pub entries_append : (a b : List Record) (la l : List ℤ) → total a ≡ length la → entries (a ++ b) (la ++ l) ≡ entries a la ++ entries b l
entries_append [] b [] l e = refl
entries_append [] b (x ∷ la) l e = absurd (omega arith)
entries_append (r ∷ a) b la l e =
    let h : r.len ≤ length la = omega arith in
    let m : total a ≡ length (drop r.len la) = simp length-drop (omega arith) in
    let ih = entries_append a b (drop r.len la) l m in
    let t = take-append-le r.len la l h in
    let d = drop-append-le r.len la l h in
    cc

-- the literals of two rows of records
pub total_append : (a b : List Record) → total (a ++ b) ≡ total a + total b
total_append [] b = omega arith
total_append (r ∷ a) b = omega (arith, total_append a b)

-- two rows of records that lie one behind the other
pub packed_append : (at : ℕ) (a b : List Record) → packed at (a ++ b) ≡ (packed at a && packed (at + total a) b)
packed_append at [] b = let z : at + 0 ≡ at = omega arith in ap (λ n. packed n b) (sym z)
packed_append at (r ∷ a) b =
    let ih = packed_append (at + r.len) a b in
    let z : at + r.len + total a ≡ at + (r.len + total a) = omega arith in
    let k = ap (λ n. packed n b) z in
    grind (arith, nat_tests)

-- the first i clauses
pub entries_take : (i : ℕ) (rs : List Record) (ls : List ℤ) → entries (take i rs) (take (total (take i rs)) ls) ≡ take i (entries rs ls)
entries_take zero rs ls = refl
entries_take (suc i) [] ls = refl
entries_take (suc i) (r ∷ rs) ls =
    let ih = entries_take i rs (drop r.len ls) in
    let t = take-take r.len (r.len + total (take i rs)) ls (omega arith) in
    let d = drop-take r.len (total (take i rs)) ls in
    cc

-- the clauses from i on
pub entries_drop : (i : ℕ) (rs : List Record) (ls : List ℤ) → entries (drop i rs) (drop (total (take i rs)) ls) ≡ drop i (entries rs ls)
entries_drop zero rs ls = refl
entries_drop (suc i) [] ls = refl
entries_drop (suc i) (r ∷ rs) ls =
    let ih = entries_drop i rs (drop r.len ls) in
    let d = drop-drop (total (take i rs)) r.len ls in
    cc

-- the clause of the record at i
pub entry_is : (rs : List Record) (ls : List ℤ) (i : ℕ) (d : Record) (e : Entry) → i < length rs →
    get_or (entries rs ls) i e ≡ record { number = (get_or rs i d).number; lits = take (get_or rs i d).len (drop (total (take i rs)) ls) }
entry_is [] ls i d e h = absurd (omega arith)
entry_is (r ∷ rs) ls zero d e h = refl
entry_is (r ∷ rs) ls (suc i) d e h =
    let ih = entry_is rs (drop r.len ls) i d e (omega arith) in
    let q = drop-drop (total (take i rs)) r.len ls in
    cc

-- the numbers of records are those of their clauses
pub same_numbers : (rs : List Record) (ls : List ℤ) → map (λ r. r.number) rs ≡ numbers (entries rs ls)
same_numbers [] ls = refl
same_numbers (r ∷ rs) ls = ap (λ l. r.number ∷ l) (same_numbers rs (drop r.len ls))

-- as many clauses as records
pub length_entries : (rs : List Record) (ls : List ℤ) → length (entries rs ls) ≡ length rs
length_entries [] ls = refl
length_entries (r ∷ rs) ls = ap suc (length_entries rs (drop r.len ls))

-- as many literals as the records say, where so many are there
pub literals_entries : (rs : List Record) (ls : List ℤ) → total rs ≤ length ls → literals (entries rs ls) ≡ total rs
literals_entries [] ls h = refl
literals_entries (r ∷ rs) ls h =
    let d = length-drop r.len ls in
    let t = length-take r.len ls in
    omega (arith, literals_entries rs (drop r.len ls) (omega arith))

-- new beginnings change no clause
pub entries_repacked : (at : ℕ) (rs : List Record) (ls : List ℤ) → entries (repacked at rs) ls ≡ entries rs ls
entries_repacked at [] ls = refl
entries_repacked at (r ∷ rs) ls = ap (λ es. record { number = r.number; lits = take r.len ls } ∷ es) (entries_repacked (at + r.len) rs (drop r.len ls))

-- nor a width
pub total_repacked : (at : ℕ) (rs : List Record) → total (repacked at rs) ≡ total rs
total_repacked at [] = refl
total_repacked at (r ∷ rs) = ap (λ n. r.len + n) (total_repacked (at + r.len) rs)

-- nor their count
pub length_repacked : (at : ℕ) (rs : List Record) → length (repacked at rs) ≡ length rs
length_repacked at [] = refl
length_repacked at (r ∷ rs) = ap suc (length_repacked (at + r.len) rs)

-- and the literals begin there
pub packed_repacked : (at : ℕ) (rs : List Record) → packed at (repacked at rs) ≡ true
packed_repacked at [] = refl
packed_repacked at (r ∷ rs) = let ih = packed_repacked (at + r.len) rs in grind (arith, nat_tests)

-- the beginning of the record at i is the sum of the widths before it
pub packed_start : (at i : ℕ) (rs : List Record) (d : Record) → packed at rs ≡ true → i < length rs → (get_or rs i d).start ≡ at + total (take i rs)
packed_start at i [] d p h = absurd (omega arith)
packed_start at zero (r ∷ rs) d p h = grind (arith, nat_tests)
packed_start at (suc i) (r ∷ rs) d p h =
    let q : packed (at + r.len) rs ≡ true = grind (arith, nat_tests) in
    let ih = packed_start (at + r.len) i rs d q (omega arith) in
    omega arith

-- what is known of records and literals that mean es
pub record Changed (rs' : List Record) (ls' : List ℤ) (n : ℕ) (es : List Entry) : Type 0 where
  pub means : entries rs' ls' ≡ es
  pub packs : packed 0 rs' ≡ true
  pub sum : total rs' ≡ n

-- records and literals that are others from a place i on
pub changed : (rs new rs' : List Record) (ls more ls' : List ℤ) (i : ℕ) → total rs ≡ length ls → packed 0 rs ≡ true →
    rs' ≡ take i rs ++ repacked (total (take i rs)) new → ls' ≡ take (total (take i rs)) ls ++ more →
    Changed rs' ls' (total (take i rs) + total new) (take i (entries rs ls) ++ entries new more)
changed rs new rs' ls more ls' i s p er el =
    let at = total (take i rs) in
    let w = take-append-drop i rs in
    let st = ap total (sym w) ∙ total_append (take i rs) (drop i rs) in
    let sp = ap (packed 0) (sym w) ∙ packed_append 0 (take i rs) (drop i rs) in
    let la : total (take i rs) ≡ length (take at ls) = sym (length-take-le at ls (omega arith)) in
    let ea = entries_append (take i rs) (repacked at new) (take at ls) more la in
    let et = entries_take i rs ls in
    let en = entries_repacked at new more in
    let ta = total_append (take i rs) (repacked at new) in
    let tn = total_repacked at new in
    let pa = packed_append 0 (take i rs) (repacked at new) in
    let z : 0 + at ≡ at = omega arith in
    let pn : packed (0 + at) (repacked at new) ≡ true = ap (λ n. packed n (repacked at new)) z ∙ packed_repacked at new in
    let pt : packed 0 (take i rs) ≡ true = grind (arith, nat_tests) in
    record {
      means = cc;
      packs = ap (packed 0) er ∙ pa ∙ ap (λ b. b && packed (0 + at) (repacked at new)) pt ∙ pn;
      sum = ap total er ∙ ta ∙ ap (λ n. at + n) tn;
    }

-- the part of a live part from a place on
pub between_live : {X : Type 0} (xs : List X) (i e : ℕ) → i ≤ e → between i e xs ≡ drop i (take e xs)
between_live xs i e h =
    let n : i + (e - i) ≡ e = omega arith in
    sym (drop-take i (e - i) xs) ∙ ap (λ m. drop i (take m xs)) n
