-- Saved clauses as they lie in two stacks.
use Rattle.std.proofs.Common.{◌≡◌, ℕ, ◌+◌, ◌<◌, ◌≤◌, List, [], ◌∷◌, ◌++◌, length, get_or, take, drop, ℤ, pos, None, sym, refl, ap, ◌∙◌, arith}
use Rattle.std.proofs.lemmas.List.{length-take-le, length-drop, length-map, length-append, map_push, take_more, append_assoc, nil_from_length, take_all, take-append-le, drop-append-le}
use Rattle.rules.specs.Restoring.{Room, saved_literals, save_fault}
use Rattle.reconstruction.specs.declared.saved.SavedEntry.{SavedEntry}
use Rattle.reconstruction.specs.declared.saved.SavedLiteral.{SavedLiteral}
use Rattle.reconstruction.specs.Stacks.{total}
use Rattle.reconstruction.specs.Weights.{entry_weight}
use Rattle.reconstruction.specs.Saves.{numbers, saved_from}
use Rattle.reconstruction.proofs.Fitting.{fit_parts}

-- as many clauses are saved as there are entries
pub length_saved : (es : List SavedEntry) (zs : List ℤ) → length (saved_from es zs) ≡ length es
length_saved [] zs = refl
length_saved (e ∷ es) zs = let ih = length_saved es (drop e.count zs) in omega arith

-- where the weights add up to no more than the literals, the clauses have as many literals as the entries weigh
pub literals_weigh : (es : List SavedEntry) (zs : List ℤ) → total entry_weight es ≤ length zs → saved_literals (saved_from es zs) ≡ total entry_weight es
literals_weigh [] zs h = refl
literals_weigh (e ∷ es) zs h =
    let d = length-drop e.count zs in
    let t = length-take-le e.count zs (omega arith) in
    let ih = literals_weigh es (drop e.count zs) (omega arith) in
    omega arith

pub literals_saved : (es : List SavedEntry) (ls : List SavedLiteral) → total entry_weight es ≡ length ls → saved_literals (saved_from es (numbers ls)) ≡ length ls
literals_saved es ls e =
    let m = length-map ls (λ (l : SavedLiteral). l.value) in
    literals_weigh es (numbers ls) (omega arith) ∙ e

-- the literals zs are pushed behind old ones, and i of them are there
module _ (xs : List SavedLiteral) (old zs : List ℤ) (i : ℕ) (n : numbers xs ≡ old ++ take i zs) (h : i < length zs) where
  pub pushed_count : length xs ≡ length old + i
  pushed_count = sym (length-map xs (λ (l : SavedLiteral). l.value)) ∙ ap length n ∙ length-append old (take i zs) ∙ ap (λ k. length old + k) (length-take-le i zs (omega arith))

  pub pushed_more : (x : SavedLiteral) → x.value ≡ get_or zs i (pos 0) → numbers (xs ++ x ∷ []) ≡ old ++ take (i + 1) zs
  pushed_more x v =
      let p = map_push (λ (l : SavedLiteral). l.value) xs x in
      let t = take_more zs i (pos 0) h in
      let a = append_assoc old (take i zs) (x.value ∷ []) in
      cc

-- one element more
pub total_push : {X : Type 0} (w : X → ℕ) (xs : List X) (x : X) → total w (xs ++ x ∷ []) ≡ total w xs + w x
total_push w [] x = omega arith
total_push w (y ∷ xs) x = let ih = total_push w xs x in omega arith

-- one entry more, with its literals behind the others
pub saved_push : (es : List SavedEntry) (e : SavedEntry) (zs ys : List ℤ) → total entry_weight es ≡ length zs → e.count ≡ length ys →
    saved_from (es ++ e ∷ []) (zs ++ ys) ≡ saved_from es zs ++ record { pivot = e.pivot; lits = ys } ∷ []
saved_push [] e zs ys h n =
    let z : zs ≡ [] = nil_from_length zs (sym h) in
    let t : take e.count (zs ++ ys) ≡ ys = ap (λ l. take e.count (l ++ ys)) z ∙ take_all e.count ys (omega arith) in
    cc
saved_push (x ∷ es) e zs ys h n =
    let d = length-drop x.count zs in
    let t = take-append-le x.count zs ys (omega arith) in
    let r = drop-append-le x.count zs ys (omega arith) in
    let ih = saved_push es e (drop x.count zs) ys (omega arith) n in
    cc

-- a clause that fits: its literals were pushed, then its entry
module _ (es : List SavedEntry) (ls : List SavedLiteral) (p : ℤ) (zs : List ℤ) (room : Room)
    (adds : total entry_weight es ≡ length ls)
    (fits : save_fault room (saved_from es (numbers ls)) (record { pivot = p; lits = zs } ∷ []) ≡ None) where
  pub zs_fit : length ls + length zs ≤ room.literals
  zs_fit = omega (arith, (fit_parts room (saved_from es (numbers ls)) 1 (length zs + 0) fits).1, literals_saved es ls adds)

  pub one_fits : length es < room.entries
  one_fits = omega (arith, (fit_parts room (saved_from es (numbers ls)) 1 (length zs + 0) fits).0, length_saved es (numbers ls))

  module _ (es' : List SavedEntry) (ls' : List SavedLiteral) (e : SavedEntry)
      (entered : es' ≡ es ++ e ∷ []) (more : numbers ls' ≡ numbers ls ++ zs) (is : e.pivot ≡ p) (n : e.count ≡ length zs) where
    pub adds_up : total entry_weight es' ≡ length ls'
    adds_up =
        let t = ap (total entry_weight) entered ∙ total_push entry_weight es e in
        let m' = length-map ls' (λ (l : SavedLiteral). l.value) in
        let m = length-map ls (λ (l : SavedLiteral). l.value) in
        let a = ap length more ∙ length-append (numbers ls) zs in
        omega arith

    pub saved_more : saved_from es' (numbers ls') ≡ saved_from es (numbers ls) ++ record { pivot = p; lits = zs } ∷ []
    saved_more =
        let m = length-map ls (λ (l : SavedLiteral). l.value) in
        let s = saved_push es e (numbers ls) zs (adds ∙ sym m) n in
        cc
