-- What a clause of the words is.
use Rattle.std.proofs.Common.{◌≡◌, true, leb, length, arith}
use Rattle.std.proofs.lemmas.List.{length-take, length-take-le}
use Rattle.std.proofs.lemmas.Bool.{le-leb, and_from}
use Rattle.words.specs.Clauses.{canonical, within}
use Rattle.words.specs.Meanings.{lits_of}
use Rattle.words.specs.declared.clause.Clause.{Clause}
use Rattle.arena.proofs.Refuses.{within_rising}

-- how wide it is
pub width_is : (k : Clause) → length k.lits ≡ 64 → length (lits_of k) ≡ k.len
width_is k h = length-take-le k.len k.lits (omega (arith, k.few))

-- no wider than the widest
pub width_fits : (k : Clause) → leb (length (lits_of k)) 64 ≡ true
width_fits k = le-leb (length (lits_of k)) 64 (omega (arith, length-take k.len k.lits, k.few))

-- no variable beyond the highest
pub variables_fit : (k : Clause) → within 512 (lits_of k) ≡ true
variables_fit k = within_rising 512 0 (lits_of k) k.rises

-- it is in canonical form
pub clause_canonical : (k : Clause) → canonical 512 64 (lits_of k) ≡ true
clause_canonical k = and_from _ _ (width_fits k) k.rises
