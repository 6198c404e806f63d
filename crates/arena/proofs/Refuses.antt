-- When a clause can't be put.
use Rattle.std.proofs.Common.{◌≡◌, ℕ, ◌+◌, ◌<◌, ◌≤◌, min, Bool, true, false, not, ltb, leb, List, [], ◌∷◌, length, ℤ, nat_abs, Some, None, Option, refl, ⊎_elim, arith}
use Rattle.std.proofs.lemmas.Bool.{cases_Bool, cases_lt}
use Rattle.std.proofs.lemmas.Bool.Decides.{nat_tests}
use Rattle.words.specs.declared.fault.DatabaseFault.{DatabaseFault}
use Rattle.words.specs.declared.fault.DatabaseFault.TheVariants.{NumberTaken, VariableBeyond, TooWide, ClausesFull, LiteralsFull}
use Rattle.words.specs.Checks.{check, ◌then◌}
use Rattle.words.specs.Clauses.{within, rising}
use Rattle.words.specs.Standing.{Entry, stands, literals, put_fault}
use Rattle.arena.specs.Contents.{limits_over}

-- what rises up to n stays within n
pub within_rising : (n m : ℕ) (xs : List ℤ) → rising n m xs ≡ true → within n xs ≡ true
within_rising n m [] r = refl
within_rising n m (x ∷ xs) r = let ih = within_rising n (nat_abs x) xs in grind (arith, nat_tests, ih)

-- the refusals, by their tests
faults : Bool → Bool → Bool → Bool → Bool → Option DatabaseFault
faults a b c d e = check (not a) NumberTaken then check b VariableBeyond then check c TooWide then check d ClausesFull then check e LiteralsFull

-- a clause of the words, whose variables and width every arena takes
module _ (rs ls : ℕ) (es : List Entry) (x : Entry) (v : within 512 x.lits ≡ true) (w : leb (length x.lits) 64 ≡ true) where
  -- what refuses it, by the three tests that are left
  put_tests : (a d e : Bool) → stands x.number es ≡ a → ltb (length es) (min rs 1024) ≡ d → leb (literals es + length x.lits) (min ls 16384) ≡ e →
      faults a true true d e ≡ put_fault (limits_over rs ls) es x
  unfolding faults
  put_tests a d e p q r = cc

  -- its number is taken
  pub put_taken : stands x.number es ≡ true → Some NumberTaken ≡ put_fault (limits_over rs ls) es x
  unfolding faults
  put_taken s = put_tests true _ _ s refl refl

  -- no record is left
  pub put_full : stands x.number es ≡ false → min rs 1024 ≤ length es → Some ClausesFull ≡ put_fault (limits_over rs ls) es x
  unfolding faults
  put_full s f = put_tests false false _ s (grind (arith, nat_tests)) refl

  -- the literals do not fit
  pub put_long : stands x.number es ≡ false → length es < min rs 1024 → min ls 16384 < literals es + length x.lits → Some LiteralsFull ≡ put_fault (limits_over rs ls) es x
  unfolding faults
  put_long s f l = put_tests false true false s (grind (arith, nat_tests)) (grind (arith, nat_tests))

  -- nothing does
  pub put_free : stands x.number es ≡ false → length es < min rs 1024 → literals es + length x.lits ≤ min ls 16384 → None ≡ put_fault (limits_over rs ls) es x
  unfolding faults
  put_free s f l = put_tests false true true s (grind (arith, nat_tests)) (grind (arith, nat_tests))

  -- what holds where nothing refuses
  pub record Free : Type 0 where
    pub absent : stands x.number es ≡ false
    pub few : length es < min rs 1024
    pub room : literals es + length x.lits ≤ min ls 16384

  -- and they are all that is needed
  pub free : None ≡ put_fault (limits_over rs ls) es x → Free
  free n =
      ⊎_elim
      (λ (s : stands x.number es ≡ true). absurd (let p = put_taken s in let z : ◌≡◌ {A = ℕ} 0 1 = cc in omega arith))
      (λ (s : stands x.number es ≡ false).
      ⊎_elim
      (λ (f : length es < min rs 1024).
      ⊎_elim
      (λ (l : min ls 16384 < literals es + length x.lits). absurd (let p = put_long s f l in let z : ◌≡◌ {A = ℕ} 0 1 = cc in omega arith))
      (λ (l : literals es + length x.lits ≤ min ls 16384). record { absent = s; few = f; room = l })
      (cases_lt (min ls 16384) (literals es + length x.lits)))
      (λ (f : min rs 1024 ≤ length es). absurd (let p = put_full s f in let z : ◌≡◌ {A = ℕ} 0 1 = cc in omega arith))
      (cases_lt (length es) (min rs 1024)))
      (cases_Bool (stands x.number es))
