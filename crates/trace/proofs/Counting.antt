-- Spaces of a line, as the code counts them.
use Rattle.std.proofs.Common.{◌≡◌, ℕ, eqb, List, count_by, refl, arith}
use Rattle.std.proofs.lemmas.List.Recursion.{is_count_by}
use Rattle.trace.specs.Values.{spaces}

pub spaces_counted : (bs : List ℕ) → spaces bs ≡ count_by (λ b. eqb b 32) bs
spaces_counted bs = is_count_by spaces (λ b. eqb b 32) refl (λ b bs. grind arith) bs
