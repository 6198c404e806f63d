-- What the generator draws.
use Rattle.std.specs.Prelude.{ℕ, ◌*◌, ◌/◌, ◌%◌, ◌^◌, ◌+◌, ◌==◌, max, bit_xor, ℤ, pos, neg_ℤ, if◌then◌else◌}

-- the state after a step
abbrev pub stepped : ℕ → ℕ
stepped s =
    let a = bit_xor s (s * 2 ^ 13 % 2 ^ 64) in
    let b = bit_xor a (a / 2 ^ 7) in
    bit_xor b (b * 2 ^ 17 % 2 ^ 64)

-- the number below a bound that a step draws from a state; 0 where the bound is 0
abbrev pub drawn : ℕ → ℕ → ℕ
drawn s bound = stepped s / 2 ^ 32 % max bound 1

-- the literal that two steps draw: its variable, and then its sign
abbrev pub drawn_literal : ℕ → ℕ → ℕ → ℤ
drawn_literal s variables negated =
    let v = pos (drawn s variables % 512 + 1) in
    if drawn (stepped s) negated == 0 then neg_ℤ v else v
