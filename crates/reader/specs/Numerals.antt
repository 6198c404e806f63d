-- Numbers in a text, as bytes.
use Rattle.std.specs.Prelude.{ℕ, ◌+◌, ◌-◌, ◌*◌, Bool, true, cond, not, ◌&&◌, List, [], ◌∷◌, length, drop, ℤ, pos, neg_ℤ, Some, None, Option, ◌==◌, nat_le, nat_lt, slice_index}
use Rattle.std.specs.Option.{option_map}

-- whether a byte is a decimal digit
abbrev pub digit : ℕ → Bool
digit b = nat_le 48 b && nat_le b 57

-- whether every byte is one
abbrev pub all_digits : List ℕ → Bool
all_digits [] = true
all_digits (b ∷ bs) = digit b && all_digits bs

-- the value of digits, behind those whose value is n
abbrev pub value_on : ℕ → List ℕ → ℕ
value_on n [] = n
value_on n (b ∷ bs) = value_on (n * 10 + (b - 48)) bs

-- whether the first of several digits is 0
abbrev pub padded : List ℕ → Bool
padded bs = nat_lt 1 (length bs) && slice_index bs 0 == 48

-- a number without a sign: one to seven digits, no leading zero
abbrev pub unsigned_numeral : List ℕ → Option ℕ
unsigned_numeral bs =
    cond (nat_lt 0 (length bs) && (nat_le (length bs) 7 && (not (padded bs) && all_digits bs))) (Some (value_on 0 bs)) None

-- the number behind a minus: there is no -0
abbrev pub negative : Option ℕ → Option ℤ
negative None = None
negative (Some n) = cond (n == 0) None (Some (neg_ℤ (pos n)))

-- a number: one without a sign, or a minus (byte 45) and such a number
abbrev pub numeral : List ℕ → Option ℤ
numeral bs = cond (slice_index bs 0 == 45) (negative (unsigned_numeral (drop 1 bs))) (option_map pos (unsigned_numeral bs))
