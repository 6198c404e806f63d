-- How reading ends.
use Rattle.std.proofs.Common.{◌≡◌, ℕ, List, Some, None, Option, sym, ap}
use Rattle.std.proofs.lemmas.Option.{none-some}
use Rattle.words.specs.declared.fault.FileFault.{FileFault}
use Rattle.words.specs.declared.fault.LocatedFault.{LocatedFault}
use Rattle.words.specs.declared.limits.Limits.{Limits}
use Rattle.words.specs.Checks.{inside, unless}
use Rattle.words.specs.Standing.{Entry}
use Rattle.rules.specs.Restoring.{Saved}
use Rattle.reader.specs.declared.counts.Counts.{Counts}
use Rattle.reader.specs.Tokens.{Part, line_before}
use Rattle.reader.specs.Headers.{header_fault, past_line}
use Rattle.reader.specs.Formulas.{outcome, located, unread, read_rest, read_header}

-- a header that is refused, or none
pub header_refused : (l : Limits) (s : List Entry) (saved : List Saved) (text : List ℕ) (p : Part) (o : Option Counts) (x : LocatedFault) →
    Some x ≡ inside (located (line_before text p)) (header_fault o) → read_header l s saved text p o ≡ record { fault = Some x; variables = 0; accepted = 0; entries = s }
header_refused l s saved text p None x e = ap (λ f. record { fault = f; variables = 0; accepted = 0; entries = s }) (sym e)
header_refused l s saved text p (Some c) x e = header_fault_refused (header_fault (Some c)) e
  where
    header_fault_refused : (f : Option FileFault) → Some x ≡ inside (located (line_before text p)) f →
        unless f (read_rest l s saved text c (past_line p.line p.bytes)) (outcome (line_before text p) 0 (unread s) f) ≡ record { fault = Some x; variables = 0; accepted = 0; entries = s }
    header_fault_refused None e = absurd (none-some x (sym e))
    header_fault_refused (Some f) e = ap (λ f. record { fault = f; variables = 0; accepted = 0; entries = s }) (sym e)
