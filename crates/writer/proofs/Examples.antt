-- Texts of small formulas, computed.
use Rattle.std.proofs.Common.{◌≡◌, [], ◌∷◌, pos, negsuc, codes, refl}
use Rattle.std.specs.Fmt.{digits}
use Rattle.writer.specs.Text.{formula_text}

two_clauses : formula_text 4 (record { number = 4; lits = negsuc 2 ∷ (pos 4 ∷ []) } ∷ (record { number = 7; lits = pos 3 ∷ [] } ∷ [])) ≡ codes "p cnf 4 2\n-3 4 0\n3 0\n"
unfolding digits
two_clauses = refl

empty_clause : formula_text 512 (record { number = 1; lits = [] } ∷ []) ≡ codes "p cnf 512 1\n0\n"
unfolding digits
empty_clause = refl

no_clause : formula_text 0 [] ≡ codes "p cnf 0 0\n"
unfolding digits
no_clause = refl
