-- What writing a formula into a buffer leaves there, and when it is refused.
use Rattle.std.specs.Prelude.{ℕ, ◌&&◌, List, ◌++◌, length, drop, Option, nat_le}
use Rattle.words.specs.declared.fault.SessionFault.{SessionFault}
use Rattle.words.specs.declared.fault.SessionFault.TheVariants.{TextTooLong, BufferShort}
use Rattle.words.specs.Checks.{check, ◌then◌}
use Rattle.words.specs.Standing.{Entry}
use Rattle.writer.specs.Text.{formula_text}

-- a buffer with a text at its front; the bytes behind it stay
abbrev pub fronted : List ℕ → List ℕ → List ℕ
fronted text old = text ++ drop (length text) old

-- why a formula can't be written into a buffer of a length: more than 1,024 clauses or 65,536 bytes, or no room
abbrev pub write_fault : ℕ → List Entry → ℕ → Option SessionFault
write_fault v s room =
    check (nat_le (length s) 1024 && nat_le (length (formula_text v s)) 65536) TextTooLong then
    check (nat_le (length (formula_text v s)) room) BufferShort
