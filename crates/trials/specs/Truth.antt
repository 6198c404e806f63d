-- Literals under an assignment, which is a byte for each variable.
use Rattle.std.specs.Prelude.{ℕ, ◌-◌, Bool, not, ◌&&◌, List, ℤ, pos, negsuc, ◌==◌, length, nat_le, slice_index, slice_set, unsigned_abs, if◌then◌else◌}

-- the byte at which a literal is true
abbrev pub byte_of : ℤ → ℕ
byte_of (pos v) = 1
byte_of (negsuc v) = 0

-- whether a byte makes a literal true: 1 the positive one, any other the negated one
abbrev pub agrees : ℤ → ℕ → Bool
agrees (pos v) b = b == 1
agrees (negsuc v) b = not (b == 1)

-- whether the variable of a literal has a byte
abbrev pub has_byte : List ℕ → ℤ → Bool
has_byte bytes x = nat_le 1 (unsigned_abs x) && nat_le (unsigned_abs x) (length bytes)

-- whether a literal is true; one without a byte is not
abbrev pub is_true : List ℕ → ℤ → Bool
is_true bytes x = has_byte bytes x && agrees x (slice_index bytes (unsigned_abs x - 1))

-- an assignment with a literal made true; one without a byte changes nothing
abbrev pub made_true : ℤ → List ℕ → List ℕ
made_true x bytes = if has_byte bytes x then slice_set bytes (unsigned_abs x - 1) (byte_of x) else bytes
