-- When two literals are the same.
use Rattle.std.proofs.Common.{◌≡◌, zero, suc, true, false, ℤ, pos, negsuc, neg_ℤ, nat_abs, sym, refl, ap, ◌∙◌, arith}
use Rattle.std.proofs.lemmas.Bool.Decides.{nat_tests}
use Rattle.words.specs.Literals.{same}

-- a literal is the same as itself
pub same_refl : (a : ℤ) → same a a ≡ true
same_refl (pos a) = grind (arith, nat_tests)
same_refl (negsuc a) = grind (arith, nat_tests)

-- literals that are the same are equal
pub same_is : (a b : ℤ) → same a b ≡ true → a ≡ b
same_is (pos a) (pos b) h = ap pos (grind (arith, nat_tests))
same_is (pos a) (negsuc b) h = absurd (grind (arith, nat_tests))
same_is (negsuc a) (pos b) h = absurd (grind (arith, nat_tests))
same_is (negsuc a) (negsuc b) h = ap negsuc (grind (arith, nat_tests))

-- equal literals are the same
pub same_eq : (a b : ℤ) → a ≡ b → same a b ≡ true
same_eq a b e = ap (same a) (sym e) ∙ same_refl a

-- literals that are not equal are not the same
pub same_ne : (a b : ℤ) → (a ≡ b → ⊥) → same a b ≡ false
same_ne (pos a) (pos b) h = let q : a ≡ b → ⊥ = λ e. h (ap pos e) in grind (arith, nat_tests)
same_ne (pos a) (negsuc b) h = refl
same_ne (negsuc a) (pos b) h = refl
same_ne (negsuc a) (negsuc b) h = let q : a ≡ b → ⊥ = λ e. h (ap negsuc e) in grind (arith, nat_tests)

-- literals of different variables are not the same
pub same_apart : (a b : ℤ) → (nat_abs a ≡ nat_abs b → ⊥) → same a b ≡ false
same_apart a b h = same_ne a b (λ e. h (ap nat_abs e))

-- a literal and its negation have one variable
pub nat_abs_neg : (a : ℤ) → nat_abs (neg_ℤ a) ≡ nat_abs a
nat_abs_neg (pos zero) = refl
nat_abs_neg (pos (suc n)) = refl
nat_abs_neg (negsuc n) = refl

-- the negation of the negation is the literal
pub neg_neg : (a : ℤ) → neg_ℤ (neg_ℤ a) ≡ a
neg_neg (pos zero) = refl
neg_neg (pos (suc n)) = refl
neg_neg (negsuc n) = refl

-- of one variable there are two literals
pub same_or_neg : (a b : ℤ) → nat_abs a ≡ nat_abs b → (a ≡ b → ⊥) → same a (neg_ℤ b) ≡ true
same_or_neg (pos a) (pos b) e h = absurd (h (ap pos e))
same_or_neg (pos a) (negsuc b) e h = grind (arith, nat_tests)
same_or_neg (negsuc a) (pos zero) e h = absurd (omega arith)
same_or_neg (negsuc a) (pos (suc b)) e h = grind (arith, nat_tests)
same_or_neg (negsuc a) (negsuc b) e h = absurd (h (ap negsuc (omega arith)))
