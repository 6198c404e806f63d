-- Fields and their places.
use Rattle.std.proofs.Common.{◌≡◌, ℕ, Bool, true, false, cond, eqb, ◌&&◌, [], ◌∷◌, ℤ, nat_abs, Some, None, Option, sym, refl, ap, ◌∙◌}
use Rattle.words.specs.declared.line.Field.{Field}
use Rattle.words.specs.declared.line.Field.TheVariants as field
use Rattle.words.specs.declared.line.Kind.{Kind}
use Rattle.words.specs.declared.line.Kind.TheVariants.{Resolve, Subsumed, Blocked, Eliminate}
use Rattle.words.specs.Checks.{inside}
use Rattle.words.specs.Conversions.{field_number}
use Rattle.words.specs.Literals.{literal_ok, number_ok, positive}
use Rattle.rules.specs.Lines.{fields, all_fields, first_wrong}
use Rattle.acceptance.proofs.Passing.{none_not_some, some_injective, first_at}
use Rattle.acceptance.proofs.Judged.{line_of}

-- the field at a place
field_at : ℕ → Field
field_at i = cond (eqb i 1) field.Kind (cond (eqb i 2) field.Clause (cond (eqb i 3) field.Pivot (cond (eqb i 4) field.First field.Second)))

at_number : (f : Field) → field_at (field_number f) ≡ f
unfolding field_at
at_number field.Kind = refl
at_number field.Clause = refl
at_number field.Pivot = refl
at_number field.First = refl
at_number field.Second = refl

-- a field is known by its place
pub by_number : (o : Option Field) (f : Field) → inside field_number o ≡ Some (field_number f) → o ≡ Some f
by_number None f e = absurd (none_not_some (field_number f) e)
by_number (Some g) f e = ap Some (sym (at_number g) ∙ ap field_at (some_injective (field_number g) (field_number f) e) ∙ at_number f)

-- the first wrong field has the first place that does not hold
walk : (a b c d e : Bool) → inside field_number (first_wrong all_fields (a ∷ (b ∷ (c ∷ (d ∷ (e ∷ [])))))) ≡ first_at (λ t. t) 0 (a ∷ (b ∷ (c ∷ (d ∷ (e ∷ [])))))
walk false b c d e = refl
walk true false c d e = refl
walk true true false d e = refl
walk true true true false e = refl
walk true true true true false = refl
walk true true true true true = refl

pub fields_walk : (k : Kind) (c : ℕ) (p : ℤ) (f g : ℕ) → inside field_number (first_wrong all_fields (fields (line_of k c p f g))) ≡ first_at (λ t. t) 0 (fields (line_of k c p f g))
fields_walk Resolve c p f g = walk true (number_ok c) (literal_ok 512 p) (number_ok f) (number_ok g)
fields_walk Subsumed c p f g = walk true (number_ok c) (eqb (nat_abs p) 0) (number_ok f) (eqb g 0)
fields_walk Blocked c p f g = walk true (number_ok c) (literal_ok 512 p) (eqb f 0) (eqb g 0)
fields_walk Eliminate c p f g = walk true (eqb c 0) (literal_ok 512 p && positive p) (eqb f 0) (eqb g 0)
