-- The literal marks that a line is checked with: 1,024 bytes, one for each literal.
use Rattle.std.specs.Prelude.{ℕ, Bool, true, false, not, ◌&&◌, ◌||◌, List, [], ◌∷◌, length, ℤ, neg_ℤ, ◌==◌, slice_index, slice_set}
use Rattle.std.specs.List.{list_all}
use Rattle.words.specs.Literals.{same}
use Rattle.words.specs.Clauses.{has}
use Rattle.words.specs.Marks.{mark_place}

-- whether the marks are clean: 1,024 zeros
abbrev pub clean_marks : List ℕ → Bool
clean_marks bs = length bs == 1024 && list_all (λ b. b == 0) bs

-- whether the negation of some literal of c other than e is in a
abbrev pub clashes : ℤ → List ℤ → List ℤ → Bool
clashes e a [] = false
clashes e a (x ∷ xs) = (not (same x e) && has (neg_ℤ x) a) || clashes e a xs

-- the marks after each literal of a clause is marked; a place past the end has none
abbrev pub with_marks : List ℕ → List ℤ → List ℕ
with_marks bs [] = bs
with_marks bs (x ∷ xs) = with_marks (slice_set bs (mark_place 512 x) 1) xs

-- whether a literal is marked
abbrev pub marked : List ℕ → ℤ → Bool
marked bs z = slice_index bs (mark_place 512 z) == 1

-- the same as `clashes` and `subset`, looked up in the marks
abbrev pub marks_clash : List ℕ → ℤ → List ℤ → Bool
marks_clash bs e [] = false
marks_clash bs e (x ∷ xs) = (not (same x e) && marked bs (neg_ℤ x)) || marks_clash bs e xs

abbrev pub marks_cover : List ℕ → List ℤ → Bool
marks_cover bs [] = true
marks_cover bs (x ∷ xs) = marked bs x && marks_cover bs xs
