-- The slots of a bitmask database and what stands in it.
use Rattle.std.proofs.Common.{◌≡◌, ℕ, suc, ◌+◌, ◌<◌, ◌≤◌, true, List, [], ◌∷◌, map, length, get_or, take, drop, sym, refl, ap, ◌∙◌, arith}
use Rattle.std.specs.List.{insert, remove, sum_by}
use Rattle.std.proofs.lemmas.List.{get_or-map, length-map, length-take, length-take-le, map-append, take-map, drop-map}
use Rattle.std.proofs.lemmas.List.Sums.{sum_by-cons, sum_by-insert, sum_by-remove}
use Rattle.std.proofs.lemmas.Bool.Decides.{nat_tests}
use Rattle.words.specs.Literals.{number_ok}
use Rattle.words.specs.Meanings.{lits_of}
use Rattle.words.specs.declared.clause.Clause.{Clause}
use Rattle.words.specs.declared.number.ClauseNumber.{ClauseNumber}
use Rattle.words.specs.Standing.{Entry, literals}
use Rattle.database.specs.Places.{numbers}
use Rattle.bitmask.specs.Slots.{entry, entries}
use Rattle.bitmask.specs.declared.slot.Slot.{Slot}

-- what a read past the slots would give
abbrev pub blank : Slot
blank = record { number = 0; plus = 0; minus = 0 }

-- the numbers of slots are those of their clauses
pub same_numbers : (ss : List Slot) → map (λ s. s.number) ss ≡ numbers (entries ss)
same_numbers [] = refl
same_numbers (s ∷ ss) = ap (λ l. s.number ∷ l) (same_numbers ss)

-- the clause at a place is that of the slot there
pub entry_at : (ss : List Slot) (i : ℕ) (d : Slot) → i < length ss → get_or (entries ss) i (entry d) ≡ entry (get_or ss i d)
entry_at ss i d h = get_or-map entry ss i d (entry d) h

-- there are as many clauses as slots
pub as_many : (ss : List Slot) → length (entries ss) ≡ length ss
as_many ss = length-map ss entry

-- a slot more is a clause more
pub entries_insert : (ss : List Slot) (i : ℕ) (s : Slot) → entries (insert ss i s) ≡ insert (entries ss) i (entry s)
entries_insert ss i s =
    let a = map-append entry (take i ss) (s ∷ drop i ss) in
    let t = take-map entry i ss in
    let d = drop-map entry i ss in
    cc

-- and one less is one less
pub entries_remove : (ss : List Slot) (i : ℕ) → entries (remove ss i) ≡ remove (entries ss) i
entries_remove ss i =
    let a = map-append entry (take i ss) (drop (suc i) ss) in
    let t = take-map entry i ss in
    let d = drop-map entry (suc i) ss in
    cc

-- the literals of entries are the sum of their widths
literals_sum : (es : List Entry) → literals es ≡ sum_by (λ e. length e.lits) es
literals_sum [] = refl
literals_sum (e ∷ es) = ap (λ n. length e.lits + n) (literals_sum es) ∙ sym (sum_by-cons (λ x. length x.lits) e es)

-- an entry more adds its width
pub literals_insert : (es : List Entry) (i : ℕ) (x : Entry) → literals (insert es i x) ≡ literals es + length x.lits
literals_insert es i x =
    let s = sum_by-insert (λ e. length e.lits) es i x in
    omega (arith, literals_sum es, literals_sum (insert es i x))

-- and one less takes its width away
pub literals_remove : (es : List Entry) (i : ℕ) (d : Entry) → i < length es → literals (remove es i) + length (get_or es i d).lits ≡ literals es
literals_remove es i d h =
    let s = sum_by-remove (λ e. length e.lits) es i d h in
    omega (arith, literals_sum es, literals_sum (remove es i))

-- a clause as it is put under a number
abbrev pub put_entry : ClauseNumber → Clause → Entry
put_entry k c = record { number = k.value; lits = lits_of c }

-- its number is a clause number
pub number_right : (k : ClauseNumber) → number_ok k.value ≡ true
number_right k = let l = k.low in let h = k.high in grind (arith, nat_tests)

-- a clause has at most 64 literals
pub clause_width : (c : Clause) → length (lits_of c) ≤ 64
clause_width c = let t = length-take c.len c.lits in omega (arith, c.few)

-- as many as its length says
pub clause_len : (c : Clause) → length c.lits ≡ 64 → length (lits_of c) ≡ c.len
clause_len c h = length-take-le c.len c.lits (omega (arith, c.few))
