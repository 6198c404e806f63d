-- Repairing an assignment, from the last saved clause to the first.
use Rattle.std.proofs.Common.{◌≡◌, ℕ, ◌-◌, ◌≤◌, List, [], ◌∷◌, ◌++◌, length, take, drop, ℤ, sym, refl, ap, ◌∙◌, arith}
use Rattle.std.proofs.lemmas.List.{length-take-le, length-drop, length-map, take-append-drop, map-append}
use Rattle.rules.specs.Restoring.{Saved, repaired, restored}
use Rattle.reconstruction.specs.declared.saved.SavedEntry.{SavedEntry}
use Rattle.reconstruction.specs.declared.saved.SavedLiteral.{SavedLiteral}
use Rattle.reconstruction.specs.Stacks.{total}
use Rattle.reconstruction.specs.Weights.{entry_weight}
use Rattle.reconstruction.specs.Saves.{numbers, saved_from}
use Rattle.reconstruction.proofs.Shares.{total_push, saved_push}

-- the last saved clause is gone through first
pub restored_push : (ss : List Saved) (s : Saved) (a : List ℕ) → restored (ss ++ s ∷ []) a ≡ restored ss (repaired s a)
restored_push [] s a = refl
restored_push (x ∷ ss) s a = ap (repaired x) (restored_push ss s a)

-- a turn: e is the last of the entries left, its literals are the last of those left, and the entries es before it stay
module _ (left es : List SavedEntry) (e : SavedEntry) (rest before own : List SavedLiteral) (w : ℕ)
    (more : left ≡ es ++ e ∷ []) (t : total entry_weight left ≡ length rest) (v : w ≡ e.count) where
  pub share_fits : w ≤ length rest
  share_fits = let m = ap (total entry_weight) more ∙ total_push entry_weight es e in omega arith

  module _ (front : before ≡ take (length rest - w) rest) (back : own ≡ drop (length rest - w) rest) where
    pub starts : total entry_weight es ≡ length before
    starts =
        let m = ap (total entry_weight) more ∙ total_push entry_weight es e in
        let n = ap length front ∙ length-take-le (length rest - w) rest (omega arith) in
        omega arith

    pub turned : (p : ℤ) (a b : List ℕ) → p ≡ e.pivot → b ≡ repaired (record { pivot = p; lits = numbers own }) a →
        restored (saved_from es (numbers before)) b ≡ restored (saved_from left (numbers rest)) a
    turned p a b is r =
        let f = λ (x : SavedLiteral). x.value in
        let whole : numbers rest ≡ numbers before ++ numbers own =
        ap numbers (sym (take-append-drop (length rest - w) rest) ∙ ap (λ l. l ++ drop (length rest - w) rest) (sym front) ∙ ap (λ l. before ++ l) (sym back)) ∙ map-append f before own in
        let n = ap length back ∙ length-drop (length rest - w) rest in
        let i = starts in
        let j = share_fits in
        let k = length-map before f in
        let o = length-map own f in
        let last = saved_push es e (numbers before) (numbers own) (omega arith) (omega arith) in
        let first = restored_push (saved_from es (numbers before)) (record { pivot = e.pivot; lits = numbers own }) a in
        cc
