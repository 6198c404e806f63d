use Rattle.std.proofs.Common.{◌≡◌, ◌^◌, ◌<◌, drop}
use Rattle.reader.specs.Numerals.{all_digits, value_on}
use Rattle.reader.proofs.numeral.value.Given as goal

abbrev pub invariant-loop-digit : goal.invariant-loop-digit
invariant-loop-digit l =
    (all_digits (drop l.digit-index l.digits) ≡ all_digits l.digits) ×
    (value_on l.total (drop l.digit-index l.digits) ≡ value_on 0 l.digits) ×
    (l.total < 10 ^ l.digit-index)
