-- Checks in order: what a row of them without a fault tells, and positions in a row of tests.
use Rattle.std.proofs.Common.{◌≡◌, ℕ, zero, suc, ◌+◌, ◌<◌, Bool, true, false, cond, leb, ◌⊎◌, List, [], ◌∷◌, length, get_or, ℤ, Some, None, Option, sym, refl, ap, ◌∙◌, inl, inr, ⊎_elim, arith}
use Rattle.std.proofs.lemmas.Bool.{cases_Bool, cond-true, cond-false}
use Rattle.words.specs.Checks.{check, ◌then◌, inside}
use Rattle.words.specs.Literals.{literal_ok}
use Rattle.rules.specs.Restoring.{bad_byte}
use Rattle.rules.specs.Loading.{beyond_at}

-- no fault is not a fault
pub none_not_some : {F : Type 0} (f : F) → ◌≡◌ {A = Option F} None (Some f) → ⊥
none_not_some f e = let z : ◌≡◌ {A = ℕ} 0 1 = cc in omega arith

-- one check
pub check_passed : {F : Type 0} (b : Bool) (f : F) → check b f ≡ None → b ≡ true
check_passed true f e = refl
check_passed false f e = absurd (none_not_some f (sym e))

pub check_passes : {F : Type 0} (b : Bool) (f : F) → b ≡ true → check b f ≡ None
check_passes b f e = ap (λ x. check x f) e

-- one row of checks after another
pub then_passed : {F : Type 0} (x y : Option F) → ◌≡◌ {A = Option F} (x then y) None → (x ≡ None) × (y ≡ None)
then_passed None y e = (refl, e)
then_passed (Some f) y e = absurd (none_not_some f (sym e))

pub then_passes : {F : Type 0} (x y : Option F) → x ≡ None → y ≡ None → ◌≡◌ {A = Option F} (x then y) None
then_passes x y p q = ap (λ o. o then y) p ∙ q

-- one check with those after it
pub passed : {F : Type 0} (b : Bool) (f : F) (y : Option F) → ◌≡◌ {A = Option F} (check b f then y) None → (b ≡ true) × (y ≡ None)
passed b f y e = let p = then_passed (check b f) y e in (check_passed b f p.0, p.1)

pub passes : {F : Type 0} (b : Bool) (f : F) (y : Option F) → b ≡ true → y ≡ None → ◌≡◌ {A = Option F} (check b f then y) None
passes b f y p q = then_passes (check b f) y (check_passes b f p) q

-- checks of a layer below
pub inside_passed : {F G : Type 0} (wrap : F → G) (o : Option F) → inside wrap o ≡ None → o ≡ None
inside_passed wrap None e = refl
inside_passed wrap (Some f) e = absurd (none_not_some (wrap f) (sym e))

pub inside_passes : {F G : Type 0} (wrap : F → G) (o : Option F) → o ≡ None → inside wrap o ≡ None
inside_passes wrap o e = ap (inside wrap) e

-- ── A fault that a row of checks gives ──

-- a fault is told as it is
pub some_injective : {X : Type 0} (x y : X) → ◌≡◌ {A = Option X} (Some x) (Some y) → x ≡ y
some_injective x y e = cc

-- there is a fault or there is none
pub option_cases : {X : Type 0} (o : Option X) → (o ≡ None) ⊎ ((x : X) × (o ≡ Some x))
option_cases None = inl refl
option_cases (Some x) = inr (x, refl)

-- a check that does not give this fault was passed
pub past : {F : Type 0} (b : Bool) (g f : F) (y : Option F) → (g ≡ f → ⊥) → ◌≡◌ {A = Option F} (check b g then y) (Some f) → (b ≡ true) × (y ≡ Some f)
past true g f y n e = (refl, e)
past false g f y n e = absurd (n (some_injective g f e))

pub past_inside : {F G : Type 0} (wrap : F → G) (f : G) (x : Option F) (y : Option G) → ((p : F) → wrap p ≡ f → ⊥) → ◌≡◌ {A = Option G} (inside wrap x then y) (Some f) → (x ≡ None) × (y ≡ Some f)
past_inside wrap f None y n e = (refl, e)
past_inside wrap f (Some p) y n e = absurd (n p (some_injective (wrap p) f e))

-- a check that gives the fault, with those after it
pub found : {F : Type 0} (x y : Option F) (f : F) → ((y ≡ Some f) → ⊥) → ◌≡◌ {A = Option F} (x then y) (Some f) → x ≡ Some f
found None y f n e = absurd (n e)
found (Some g) y f n e = e

pub finds : {F : Type 0} (x y : Option F) (f : F) → x ≡ Some f → ◌≡◌ {A = Option F} (x then y) (Some f)
finds x y f e = ap (λ o. o then y) e

-- a fault of a layer below
pub inside_found : {F G : Type 0} (wrap : F → G) (f : G) (o : Option F) → inside wrap o ≡ Some f → (p : F) × (o ≡ Some p) × (wrap p ≡ f)
inside_found wrap f None e = absurd (none_not_some f e)
inside_found wrap f (Some p) e = (p, refl, some_injective (wrap p) f e)

-- ── Positions ──

-- the position, counted on from i, of the first element that fails a test
abbrev pub first_at : {X : Type 0} → (X → Bool) → ℕ → List X → Option ℕ
first_at t i [] = None
first_at t i (x ∷ xs) = cond (t x) (first_at t (i + 1) xs) (Some (i + 1))

-- every index below the one after passes where the first and those after it do
below_suc : (P : ℕ → Type 0) (j : ℕ) → P 0 → ((q : ℕ) → q < j → P (suc q)) → (q : ℕ) → q < suc j → P q
below_suc P j z f zero h = z
below_suc P j z f (suc q) h = f q (omega arith)

-- the position tells the first element that fails
pub found_at : {X : Type 0} (t : X → Bool) (d : X) (i : ℕ) (xs : List X) (p : ℕ) → first_at t i xs ≡ Some p →
    (j : ℕ) × (p ≡ i + suc j) × (j < length xs) × (t (get_or xs j d) ≡ false) × ((q : ℕ) → q < j → t (get_or xs q d) ≡ true)
found_at t d i [] p e = absurd (none_not_some p e)
found_at t d i (x ∷ xs) p e =
    ⊎_elim
    (λ (h : t x ≡ true).
    let r = found_at t d (i + 1) xs p (sym (cond-true (t x) (first_at t (i + 1) xs) (Some (i + 1)) h) ∙ e) in
    let a = r.1 in
    let b = r.2 in
    (suc r.0, omega arith, omega arith, r.3, below_suc (λ q. t (get_or (x ∷ xs) q d) ≡ true) r.0 h r.4))
    (λ (h : t x ≡ false).
    let a : i + 1 ≡ p = some_injective (i + 1) p (sym (cond-false (t x) (first_at t (i + 1) xs) (Some (i + 1)) h) ∙ e) in
    (0, omega arith, omega arith, h, λ q b. absurd (omega arith)))
    (cases_Bool (t x))

-- without a position every element passes
pub none_at : {X : Type 0} (t : X → Bool) (d : X) (i : ℕ) (xs : List X) → first_at t i xs ≡ None → (j : ℕ) → j < length xs → t (get_or xs j d) ≡ true
none_at t d i [] e j h = absurd (omega arith)
none_at t d i (x ∷ xs) e zero h = ⊎_elim (λ (b : t x ≡ true). b) (λ (b : t x ≡ false). absurd (none_not_some (i + 1) (sym e ∙ cond-false (t x) (first_at t (i + 1) xs) (Some (i + 1)) b))) (cases_Bool (t x))
none_at t d i (x ∷ xs) e (suc j) h =
    ⊎_elim
    (λ (b : t x ≡ true). none_at t d (i + 1) xs (sym (cond-true (t x) (first_at t (i + 1) xs) (Some (i + 1)) b) ∙ e) j (omega arith))
    (λ (b : t x ≡ false). absurd (none_not_some (i + 1) (sym e ∙ cond-false (t x) (first_at t (i + 1) xs) (Some (i + 1)) b)))
    (cases_Bool (t x))

-- the walks to a position are walks to the first element that fails a test
pub beyond_walk : (n i : ℕ) (zs : List ℤ) → beyond_at n i zs ≡ first_at (literal_ok n) i zs
beyond_walk n i [] = refl
beyond_walk n i (z ∷ zs) = ap (λ o. cond (literal_ok n z) o (Some (i + 1))) (beyond_walk n (i + 1) zs)

pub byte_walk : (i : ℕ) (a : List ℕ) → bad_byte i a ≡ first_at (λ b. leb b 1) i a
byte_walk i [] = refl
byte_walk i (b ∷ bs) = ap (λ o. cond (leb b 1) o (Some (i + 1))) (byte_walk (i + 1) bs)

-- a fault after checks that were passed
pub reaches : {F : Type 0} (x y : Option F) (f : F) → x ≡ None → y ≡ Some f → ◌≡◌ {A = Option F} (x then y) (Some f)
reaches x y f p q = ap (λ o. o then y) p ∙ q

pub reaches_past : {F : Type 0} (b : Bool) (g f : F) (y : Option F) → b ≡ true → y ≡ Some f → ◌≡◌ {A = Option F} (check b g then y) (Some f)
reaches_past b g f y p q = reaches (check b g) y f (check_passes b g p) q
