use Rattle.std.proofs.Common.{◌≡◌, ℕ, true, List, [], ◌∷◌, length, None, Err, refl, sym, ap, ◌∙◌, arith}
use Rattle.std.proofs.lemmas.Bool.Decides.{nat_tests}
use Rattle.words.specs.Literals.{number_ok}
use Rattle.words.specs.Meanings.{lits_of}
use Rattle.words.specs.Standing.{Entry, ordered, inserted, put_fault}
use Rattle.words.specs.declared.clause.Clause.{Clause}
use Rattle.words.specs.declared.number.ClauseNumber.{ClauseNumber}
use Rattle.database.specs.Places.{place_of}
use Rattle.database.proofs.Bounds.{ordered_inserted}
use Rattle.database.proofs.Places.{Missing, missing}
use Rattle.arena.specs.Contents.{contents, limits_of}
use Rattle.arena.specs.Splices.{opened}
use Rattle.arena.specs.declared.arena.Arena.{Arena}
use Rattle.arena.proofs.Blocks.{length_opened}
use Rattle.arena.proofs.Refuses.{Free, free}
use Rattle.arena.proofs.Rows.{count_is, weight_is}
use Rattle.arena.proofs.Words.{width_fits, variables_fit, clause_canonical}
use Rattle.arena.proofs.arena.Arena.insert.Goals as goal

-- the clause under its number
abbrev entry_of : ClauseNumber → Clause → Entry
entry_of n k = record { number = n.value; lits = lits_of k }

-- what is known where nothing refuses it
vacant : (s : Arena) (n : ClauseNumber) (k : Clause) → None ≡ put_fault (limits_of s.memory) (contents s.memory) (entry_of n k) →
    Free (length s.memory.records.now) (length s.memory.literals.now) (contents s.memory) (entry_of n k) (variables_fit k) (width_fits k)
vacant s n k f = free (length s.memory.records.now) (length s.memory.literals.now) (contents s.memory) (entry_of n k) (variables_fit k) (width_fits k) f

-- what is known of its place
place_free : (s : Arena) (n : ClauseNumber) (i : ℕ) → Err i ≡ place_of n.value (contents s.memory) → Missing n.value i (contents s.memory)
place_free s n i p = missing 512 64 0 n.value i (contents s.memory) s.kept p

-- its number is a clause number
number_right : (n : ClauseNumber) → number_ok n.value ≡ true
number_right n = let l = n.low in let h = n.high in grind (arith, nat_tests)

pub insert-requires : goal.insert-requires
insert-requires c =
    let s = c.args.self.now in
    let f = vacant s c.args.number c.args.clause.now c.requires.free in
    let p = place_free s c.args.number c.args.place c.requires.here in
    record {
      within = omega (arith, p.inside, s.counts);
      row = omega (arith, f.few, s.counts);
      room = omega (arith, f.room, s.weighs);
      below = omega (arith, f.room, s.weighs);
    }

-- the clauses after
after : (s : Arena) (n : ClauseNumber) (k : Clause) (i : ℕ) (es : List Entry) → Err i ≡ place_of n.value (contents s.memory) →
    es ≡ opened (contents s.memory) i (entry_of n k ∷ []) → es ≡ inserted (entry_of n k) (contents s.memory)
after s n k i es p e = e ∙ sym ((place_free s n i p).put (entry_of n k) refl)

pub invariant_of-self : goal.invariant_of-self
invariant_of-self c =
    let s = c.args.self.now in
    let m = c.insert.new.self in
    let n = c.args.number in
    let k = c.args.clause.now in
    let f = vacant s n k c.requires.free in
    let e = after s n k c.args.place (contents m) c.requires.here c.insert.ensures.means in
    let o = ordered_inserted 512 64 0 (entry_of n k) (contents s.memory) s.kept n.low (number_right n) (clause_canonical k) f.absent in
    let t = count_is m in
    let w = ap length c.insert.ensures.means ∙ length_opened (contents s.memory) c.args.place (entry_of n k ∷ []) in
    record { most = omega (arith, t, w, f.few); kept = ap (ordered 512 64 0) e ∙ o; counts = t; weighs = weight_is m }

pub returns-clause-after : goal.returns-clause-after
returns-clause-after c = after c.args.self.now c.args.number c.args.clause.now c.args.place (contents c.insert.new.self) c.requires.here c.insert.ensures.means
