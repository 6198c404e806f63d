-- What a search by number finds among the standing clauses, and what it says of them.
use Rattle.std.proofs.Common.{◌≡◌, ℕ, zero, suc, ◌<◌, ◌≤◌, true, false, leb, List, [], ◌∷◌, map, length, get_or, is_ok, Some, None, Ok, Err, Result, sym, refl, ap, ◌∙◌, ⊎_elim, arith}
use Rattle.std.specs.List.{insert, remove}
use Rattle.std.specs.List.Sorted.{IsNonDecreasingBy, IsPartitionPoint, IsPartitionedBy, IsSearchInRange, IsBinarySearchResult}
use Rattle.std.specs.Option.{option_map}
use Rattle.std.specs.Result.{result_ok, IfOk}
use Rattle.std.specs.Ordering.{nat_cmp, ordering_index}
use Rattle.std.specs.declared.cmp.Ordering.TheVariants.{Equal}
use Rattle.std.proofs.lemmas.Option.{slice_get-get_or}
use Rattle.std.proofs.lemmas.Cmp.{ranked}
use Rattle.std.proofs.lemmas.List.Sorted.{IsPartitionedBy-leb}
use Rattle.std.proofs.lemmas.Bool.{cases_eq, cases_lt}
use Rattle.std.proofs.lemmas.Bool.Decides.{nat_tests}
use Rattle.words.specs.Clauses.{canonical}
use Rattle.words.specs.Standing.{Entry, ordered, stands, under, next_above, inserted, without}
use Rattle.database.specs.Places.{numbers, place_above, later, place_of, lits_found, rest_of}

-- values of any type that lie by rising number, as the clauses es do
module _ {X : Type 0} (n : X → ℕ) where
  -- no number is below the first
  rises_first : (v w m k : ℕ) (xs : List X) (es : List Entry) (d : X) → map n xs ≡ numbers es → ordered v w m es ≡ true → k < length xs → m < n (get_or xs k d)
  rises_first v w m k [] es d s o h = absurd (omega arith)
  rises_first v w m k (x ∷ xs) [] d s o h = absurd (let z : ◌≡◌ {A = ℕ} 0 1 = cc in omega arith)
  rises_first v w m zero (x ∷ xs) (e ∷ es) d s o h =
      let q : n x ≡ e.number = cc in
      let l : m < e.number = grind (arith, nat_tests) in
      omega arith
  rises_first v w m (suc k) (x ∷ xs) (e ∷ es) d s o h =
      let t : map n xs ≡ numbers es = cc in
      let l : m < e.number = grind (arith, nat_tests) in
      let p : ordered v w e.number es ≡ true = grind (arith, nat_tests) in
      let ih = rises_first v w e.number k xs es d t p (omega arith) in
      omega arith

  -- the first i values are those up to k, so i is the place above k
  above_is : (k i : ℕ) (xs : List X) (es : List Entry) → map n xs ≡ numbers es → i ≤ length xs →
      IsPartitionPoint (λ y. leb (n y) k ≡ true) (λ y. leb (n y) k ≡ false) xs i → i ≡ place_above k es
  above_is k i [] [] s h p = omega arith
  above_is k i [] (e ∷ es) s h p = absurd (let z : ◌≡◌ {A = ℕ} 0 1 = cc in omega arith)
  above_is k i (x ∷ xs) [] s h p = absurd (let z : ◌≡◌ {A = ℕ} 0 1 = cc in omega arith)
  above_is k zero (x ∷ xs) (e ∷ es) s h p =
      let q : n x ≡ e.number = cc in
      let a = p.1 0 x (omega arith) (omega arith) in
      grind (arith, nat_tests)
  above_is k (suc i) (x ∷ xs) (e ∷ es) s h p =
      let q : n x ≡ e.number = cc in
      let t : map n xs ≡ numbers es = cc in
      let a = p.0 0 x (omega arith) (omega arith) in
      let ih = above_is k i xs es t (omega arith) (λ j d l u. p.0 (suc j) d (omega arith) (omega arith), λ j d l u. p.1 (suc j) d (omega arith) (omega arith)) in
      grind (arith, nat_tests)

  -- the value at i has the number k
  found_is : (v w m k i : ℕ) (xs : List X) (es : List Entry) (d : X) → map n xs ≡ numbers es → ordered v w m es ≡ true → i < length xs → n (get_or xs i d) ≡ k → Ok i ≡ place_of k es
  found_is v w m k i [] es d s o h q = absurd (omega arith)
  found_is v w m k i (x ∷ xs) [] d s o h q = absurd (let z : ◌≡◌ {A = ℕ} 0 1 = cc in omega arith)
  found_is v w m k zero (x ∷ xs) (e ∷ es) d s o h q =
      let t : n x ≡ e.number = cc in
      grind (arith, nat_tests)
  found_is v w m k (suc i) (x ∷ xs) (e ∷ es) d s o h q =
      let t : map n xs ≡ numbers es = cc in
      let p : ordered v w e.number es ≡ true = grind (arith, nat_tests) in
      let l = rises_first v w e.number i xs es d t p (omega arith) in
      let ih = found_is v w e.number k i xs es d t p (omega arith) q in
      let a : place_of k (e ∷ es) ≡ later (place_of k es) = grind (arith, nat_tests) in
      ap later ih ∙ sym a

  -- the first i values are those below k, and the others those above it
  gap_is : (k i : ℕ) (xs : List X) (es : List Entry) → map n xs ≡ numbers es → i ≤ length xs →
      ((j : ℕ) (d : X) → j < i → n (get_or xs j d) < k) → ((j : ℕ) (d : X) → i ≤ j → j < length xs → k < n (get_or xs j d)) → Err i ≡ place_of k es
  gap_is k i [] [] s h a b = let z : i ≡ 0 = omega arith in ap Err z
  gap_is k i [] (e ∷ es) s h a b = absurd (let z : ◌≡◌ {A = ℕ} 0 1 = cc in omega arith)
  gap_is k i (x ∷ xs) [] s h a b = absurd (let z : ◌≡◌ {A = ℕ} 0 1 = cc in omega arith)
  gap_is k zero (x ∷ xs) (e ∷ es) s h a b =
      let t : n x ≡ e.number = cc in
      let l = b 0 x (omega arith) (omega arith) in
      grind (arith, nat_tests)
  gap_is k (suc i) (x ∷ xs) (e ∷ es) s h a b =
      let t : n x ≡ e.number = cc in
      let r : map n xs ≡ numbers es = cc in
      let l = a 0 x (omega arith) in
      let ih = gap_is k i xs es r (omega arith) (λ j d u. a (suc j) d (omega arith)) (λ j d u w. b (suc j) d (omega arith) (omega arith)) in
      let p : place_of k (e ∷ es) ≡ later (place_of k es) = grind (arith, nat_tests) in
      ap later ih ∙ sym p

  -- the values rise
  rising_by : (v w m : ℕ) (xs : List X) (es : List Entry) → map n xs ≡ numbers es → ordered v w m es ≡ true → IsNonDecreasingBy n xs
  rising_by v w m [] es s o i j d l h = absurd (omega arith)
  rising_by v w m (x ∷ xs) [] s o i j d l h = absurd (let z : ◌≡◌ {A = ℕ} 0 1 = cc in omega arith)
  rising_by v w m (x ∷ xs) (e ∷ es) s o zero zero d l h = omega arith
  rising_by v w m (x ∷ xs) (e ∷ es) s o (suc i) zero d l h = absurd (omega arith)
  rising_by v w m (x ∷ xs) (e ∷ es) s o zero (suc j) d l h =
      let q : n x ≡ e.number = cc in
      let t : map n xs ≡ numbers es = cc in
      let p : ordered v w e.number es ≡ true = grind (arith, nat_tests) in
      omega (arith, rises_first v w e.number j xs es d t p (omega arith))
  rising_by v w m (x ∷ xs) (e ∷ es) s o (suc i) (suc j) d l h =
      let t : map n xs ≡ numbers es = cc in
      let p : ordered v w e.number es ≡ true = grind (arith, nat_tests) in
      rising_by v w e.number xs es t p i j d (omega arith) (omega arith)

  module _ (v w : ℕ) (xs : List X) (es : List Entry) (s : map n xs ≡ numbers es) (o : ordered v w 0 es ≡ true) where
    -- so `partition_point` may be asked
    parted : (k : ℕ) → IsPartitionedBy (λ y. leb (n y) k) xs
    parted k = IsPartitionedBy-leb n xs k (rising_by v w 0 xs es s o)

    -- where it parts them is the place above k
    pub partition_is : (k i : ℕ) → i ≤ length xs → (IsPartitionedBy (λ y. leb (n y) k) xs → IsPartitionPoint (λ y. leb (n y) k ≡ true) (λ y. leb (n y) k ≡ false) xs i) → i ≡ place_above k es
    partition_is k i h p = above_is k i xs es s h (p (parted k))

    -- what `binary_search_by_key` answers is the place of k
    pub search_is : (k : ℕ) (r : Result ℕ ℕ) → IsSearchInRange r (length xs) → IsBinarySearchResult (λ y. nat_cmp (n y) k) xs r → r ≡ place_of k es
    search_is k (Ok i) h b = at_some xs s h b
      where
        at_some : (xs : List X) → map n xs ≡ numbers es → i < length xs → ((d : X) → nat_cmp (n (get_or xs i d)) k ≡ Equal) → Ok i ≡ place_of k es
        at_some [] s h b = absurd (omega arith)
        at_some (x ∷ xs) s h b = found_is v w 0 k i (x ∷ xs) es x s o h (ranked _ k _ (sym (b x)))
    search_is k (Err i) h b =
        let up : IsNonDecreasingBy (λ y. ordering_index (nat_cmp (n y) k)) xs = λ i j d l u. let r = rising_by v w 0 xs es s o i j d l u in grind (arith, nat_tests) in
        let p = b up in
        gap_is k i xs es s h (λ j d u. ranked _ k _ (sym (p.0 j d (omega arith) u))) (λ j d u t. ranked _ k _ (sym (p.1 j d u t)))

-- a number that is not above the bound of an order does not stand
pub absent_below : (v w m k : ℕ) (es : List Entry) → ordered v w m es ≡ true → k ≤ m → stands k es ≡ false
absent_below v w m k [] o h = refl
absent_below v w m k (e ∷ es) o h = let ih = absent_below v w e.number k es in grind (arith, nat_tests, ih)

-- a number that does not stand has no clause
pub absent_under : (k : ℕ) (es : List Entry) → stands k es ≡ false → under k es ≡ None
absent_under k [] s = refl
absent_under k (e ∷ es) s = let ih = absent_under k es in grind (arith, nat_tests, ih)

-- and nothing goes without it
pub absent_without : (k : ℕ) (es : List Entry) → stands k es ≡ false → without k es ≡ es
absent_without k [] s = refl
absent_without k (e ∷ es) s =
    let a : stands k es ≡ false = grind (arith, nat_tests) in
    let q : without k (e ∷ es) ≡ e ∷ without k es = grind (arith, nat_tests) in
    q ∙ ap (λ l. e ∷ l) (absent_without k es a)

-- the clause of a number that stands at i
pub record Found (k i : ℕ) (es : List Entry) : Type 0 where
  pub inside : i < length es
  pub present : stands k es ≡ true
  pub clause : (d : Entry) → under k es ≡ Some (get_or es i d).lits
  pub rest : without k es ≡ remove es i

-- a place that is counted from one further in front
later_found : (r : Result ℕ ℕ) (i : ℕ) → Ok (suc i) ≡ later r → Ok i ≡ r
later_found (Ok j) i p = let z : suc i ≡ suc j = cc in let q : i ≡ j = omega arith in ap Ok q
later_found (Err j) i p = absurd (let z : ◌≡◌ {A = ℕ} 0 1 = cc in omega arith)

later_missing : (r : Result ℕ ℕ) (i : ℕ) → Err (suc i) ≡ later r → Err i ≡ r
later_missing (Err j) i p = let z : suc i ≡ suc j = cc in let q : i ≡ j = omega arith in ap Err q
later_missing (Ok j) i p = absurd (let z : ◌≡◌ {A = ℕ} 0 1 = cc in omega arith)

-- is not the first
later_first : (r : Result ℕ ℕ) → (Ok 0 ≡ later r → ⊥) × (Err 0 ≡ later r → ⊥)
later_first (Ok j) = (λ p. let z : 0 ≡ suc j = cc in omega arith, λ p. let z : ◌≡◌ {A = ℕ} 0 1 = cc in omega arith)
later_first (Err j) = (λ p. let z : ◌≡◌ {A = ℕ} 0 1 = cc in omega arith, λ p. let z : 0 ≡ suc j = cc in omega arith)

-- every place of a number that stands holds its clause
pub found : (k i : ℕ) (es : List Entry) → Ok i ≡ place_of k es → Found k i es
found k i [] p = absurd (let z : ◌≡◌ {A = ℕ} 0 1 = cc in omega arith)
found k zero (e ∷ es) p =
    ⊎_elim
    (λ (q : e.number ≡ k). record { inside = omega arith; present = grind (arith, nat_tests); clause = λ d. grind (arith, nat_tests); rest = grind (arith, nat_tests) })
    (λ (q : e.number ≡ k → ⊥).
    ⊎_elim
    (λ (l : k < e.number). let a : place_of k (e ∷ es) ≡ Err 0 = grind (arith, nat_tests) in absurd (let z : ◌≡◌ {A = ℕ} 0 1 = cc in omega arith))
    (λ (l : e.number ≤ k). let a : place_of k (e ∷ es) ≡ later (place_of k es) = grind (arith, nat_tests) in absurd ((later_first (place_of k es)).0 (p ∙ a)))
    (cases_lt k e.number))
    (cases_eq e.number k)
found k (suc i) (e ∷ es) p =
    ⊎_elim
    (λ (q : e.number ≡ k). let a : place_of k (e ∷ es) ≡ Ok 0 = grind (arith, nat_tests) in absurd (let z : suc i ≡ 0 = cc in omega arith))
    (λ (q : e.number ≡ k → ⊥).
    ⊎_elim
    (λ (l : k < e.number). let a : place_of k (e ∷ es) ≡ Err 0 = grind (arith, nat_tests) in absurd (let z : ◌≡◌ {A = ℕ} 0 1 = cc in omega arith))
    (λ (l : e.number ≤ k).
    let a : place_of k (e ∷ es) ≡ later (place_of k es) = grind (arith, nat_tests) in
    let t : stands k (e ∷ es) ≡ stands k es = grind (arith, nat_tests) in
    let w : without k (e ∷ es) ≡ e ∷ without k es = grind (arith, nat_tests) in
    let u : under k (e ∷ es) ≡ under k es = grind (arith, nat_tests) in
    let ih = found k i es (later_found (place_of k es) i (p ∙ a)) in
    record { inside = omega (arith, ih.inside); present = t ∙ ih.present; clause = λ d. u ∙ ih.clause d; rest = w ∙ ap (λ l. e ∷ l) ih.rest })
    (cases_lt k e.number))
    (cases_eq e.number k)

-- a number that does not stand and would go to i
pub record Missing (k i : ℕ) (es : List Entry) : Type 0 where
  pub inside : i ≤ length es
  pub absent : stands k es ≡ false
  pub none : under k es ≡ None
  pub rest : without k es ≡ es
  pub put : (x : Entry) → x.number ≡ k → inserted x es ≡ insert es i x

-- so is every number without a clause
pub missing : (v w m k i : ℕ) (es : List Entry) → ordered v w m es ≡ true → Err i ≡ place_of k es → Missing k i es
missing v w m k i [] o p =
    let z : i ≡ 0 = cc in
    record { inside = omega arith; absent = refl; none = refl; rest = refl; put = λ x h. ap (λ j. insert [] j x) (sym z) }
missing v w m k zero (e ∷ es) o p =
    let o1 : ordered v w e.number es ≡ true = grind (arith, nat_tests) in
    ⊎_elim
    (λ (l : k < e.number).
    let b = absent_below v w e.number k es o1 (omega arith) in
    let a : stands k (e ∷ es) ≡ false = grind (arith, nat_tests) in
    record { inside = omega arith; absent = a; none = absent_under k (e ∷ es) a; rest = absent_without k (e ∷ es) a; put = λ x h. grind (arith, nat_tests) })
    (λ (l : e.number ≤ k).
    ⊎_elim
    (λ (q : e.number ≡ k). let a : place_of k (e ∷ es) ≡ Ok 0 = grind (arith, nat_tests) in absurd (let z : ◌≡◌ {A = ℕ} 0 1 = cc in omega arith))
    (λ (q : e.number ≡ k → ⊥). let a : place_of k (e ∷ es) ≡ later (place_of k es) = grind (arith, nat_tests) in absurd ((later_first (place_of k es)).1 (p ∙ a)))
    (cases_eq e.number k))
    (cases_lt k e.number)
missing v w m k (suc i) (e ∷ es) o p =
    let o1 : ordered v w e.number es ≡ true = grind (arith, nat_tests) in
    ⊎_elim
    (λ (l : k < e.number). let a : place_of k (e ∷ es) ≡ Err 0 = grind (arith, nat_tests) in absurd (let z : suc i ≡ 0 = cc in omega arith))
    (λ (l : e.number ≤ k).
    ⊎_elim
    (λ (q : e.number ≡ k). let a : place_of k (e ∷ es) ≡ Ok 0 = grind (arith, nat_tests) in absurd (let z : ◌≡◌ {A = ℕ} 0 1 = cc in omega arith))
    (λ (q : e.number ≡ k → ⊥).
    let a : place_of k (e ∷ es) ≡ later (place_of k es) = grind (arith, nat_tests) in
    let ih = missing v w e.number k i es o1 (later_missing (place_of k es) i (p ∙ a)) in
    let s = ih.absent in
    let b : stands k (e ∷ es) ≡ false = grind (arith, nat_tests) in
    record {
      inside = omega (arith, ih.inside);
      absent = b;
      none = absent_under k (e ∷ es) b;
      rest = absent_without k (e ∷ es) b;
      put = λ x h. let c : inserted x (e ∷ es) ≡ e ∷ inserted x es = grind (arith, nat_tests) in c ∙ ap (λ l. e ∷ l) (ih.put x h);
    })
    (cases_eq e.number k))
    (cases_lt k e.number)

-- what a search for a number tells
pub record Searched (k : ℕ) (es : List Entry) (r : Result ℕ ℕ) : Type 0 where
  pub within : IfOk r (λ i. i < length es)
  pub known : is_ok r ≡ stands k es
  pub lits : lits_found r es ≡ under k es
  pub rest : rest_of r es ≡ without k es

-- and tells of every number
pub searched : (v w m k : ℕ) (es : List Entry) (r : Result ℕ ℕ) → ordered v w m es ≡ true → r ≡ place_of k es → Searched k es r
searched v w m k es (Ok i) o p =
    let f = found k i es p in
    let d : Entry = record { number = 0; lits = [] } in
    record { within = f.inside; known = sym f.present; lits = ap (option_map (λ (e : Entry). e.lits)) (slice_get-get_or es i d f.inside) ∙ sym (f.clause d); rest = sym f.rest }
searched v w m k es (Err i) o p = let n = missing v w m k i es o p in record { within = tt; known = sym n.absent; lits = sym n.none; rest = sym n.rest }

-- what is found where a search found it
pub found_ok : (k i : ℕ) (es : List Entry) (r : Result ℕ ℕ) → r ≡ place_of k es → Some i ≡ result_ok r → Found k i es
found_ok k i es (Ok j) p q = let z : i ≡ j = cc in found k i es (ap Ok z ∙ p)
found_ok k i es (Err j) p q = absurd (let z : ◌≡◌ {A = ℕ} 0 1 = cc in omega arith)

-- and where it did not
pub none_under : (v w m k : ℕ) (es : List Entry) (r : Result ℕ ℕ) → ordered v w m es ≡ true → r ≡ place_of k es → None ≡ result_ok r → under k es ≡ None
none_under v w m k es (Ok j) o p q = absurd (let z : ◌≡◌ {A = ℕ} 0 1 = cc in omega arith)
none_under v w m k es (Err j) o p q = (missing v w m k j es o p).none

-- the number at the place above k is the next above k
pub next_is : (k : ℕ) (es : List Entry) (d : Entry) → place_above k es < length es → next_above k es ≡ Some (get_or es (place_above k es) d).number
next_is k [] d h = absurd (omega arith)
next_is k (e ∷ es) d h =
    ⊎_elim
    (λ (l : k < e.number).
    let a : place_above k (e ∷ es) ≡ 0 = grind (arith, nat_tests) in
    let b : next_above k (e ∷ es) ≡ Some e.number = grind (arith, nat_tests) in
    b ∙ ap (λ i. Some (get_or (e ∷ es) i d).number) (sym a))
    (λ (l : e.number ≤ k).
    let a : place_above k (e ∷ es) ≡ suc (place_above k es) = grind (arith, nat_tests) in
    let b : next_above k (e ∷ es) ≡ next_above k es = grind (arith, nat_tests) in
    b ∙ next_is k es d (omega arith) ∙ ap (λ i. Some (get_or (e ∷ es) i d).number) (sym a))
    (cases_lt k e.number)

-- and where all are up to k, there is none
pub next_none : (k : ℕ) (es : List Entry) → length es ≤ place_above k es → next_above k es ≡ None
next_none k [] h = refl
next_none k (e ∷ es) h = let ih = next_none k es in grind (arith, nat_tests, ih)

-- each number is a clause number, and its clause canonical
pub record Proper (v w : ℕ) (e : Entry) : Type 0 where
  pub low : 1 ≤ e.number
  pub high : e.number ≤ 1000000
  pub right : canonical v w e.lits ≡ true

pub proper : (v w m i : ℕ) (es : List Entry) (d : Entry) → ordered v w m es ≡ true → i < length es → Proper v w (get_or es i d)
proper v w m i [] d o h = absurd (omega arith)
proper v w m zero (e ∷ es) d o h = record { low = grind (arith, nat_tests); high = grind (arith, nat_tests); right = grind (arith, nat_tests) }
proper v w m (suc i) (e ∷ es) d o h = proper v w e.number i es d (grind (arith, nat_tests)) (omega arith)
