-- Reading numbers.
use Rattle.std.proofs.Common.{◌≡◌, ℕ, ◌+◌, ◌-◌, ◌*◌, ◌^◌, ◌<◌, ◌≤◌, ◌&&◌, List, length, get_or, drop, arith, pow-add}
use native.Mathlib.Nat.{pow-le-pow_right}
use Rattle.std.proofs.lemmas.List.{at_drop_more}
use Rattle.reader.specs.Numerals.{digit, all_digits, value_on}

-- one byte more of the digits
module _ (bs : List ℕ) (i : ℕ) (h : i < length bs) where
  pub value_more : (n : ℕ) → value_on n (drop i bs) ≡ value_on (n * 10 + (get_or bs i 0 - 48)) (drop (i + 1) bs)
  value_more n = at_drop_more (value_on n) bs i 0 h

  pub digits_more : all_digits (drop i bs) ≡ (digit (get_or bs i 0) && all_digits (drop (i + 1) bs))
  digits_more = at_drop_more all_digits bs i 0 h

-- a number of i digits is below the i-th power of 10
pub power_more : (t d i : ℕ) → t < 10 ^ i → d < 10 → t * 10 + d < 10 ^ (i + 1)
power_more t d i h k = let e : 10 ^ (i + 1) ≡ 10 ^ i * 10 = pow-add 10 i 1 in omega arith

pub power_seven : (i : ℕ) → i ≤ 7 → 10 ^ i ≤ 10000000
power_seven i h = pow-le-pow_right {n = 10} (omega arith) h
