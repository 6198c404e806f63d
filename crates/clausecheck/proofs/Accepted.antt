-- What a formula alone comes to, when it was read without a fault.
use Rattle.std.proofs.Common.{◌≡◌, ℕ, List, [], None, ap, ◌∙◌}
use Rattle.words.specs.Checks.{unless}
use Rattle.words.specs.Standing.{Entry}
use Rattle.reader.specs.Formulas.{Outcome}
use Rattle.trace.specs.Traces.{Progress}
use Rattle.files.specs.Outcomes.{sealed, written}
use Rattle.clausecheck.specs.Alone.{alone}

-- a formula that was read without a fault: what stands is written from the sealed session
pub alone_accepted : (n : ℕ) (o : Outcome) (v k a : ℕ) (s : List Entry) →
    None ≡ o.fault → v ≡ o.variables → k ≡ o.accepted → a ≡ 0 → s ≡ o.entries →
    written n v (record { given = k; accepted = a; entries = s; saves = [] }) ≡ alone n o
alone_accepted n o v k a s ef ev ek ea es =
    let p : record { given = k; accepted = a; entries = s; saves = [] } ≡ sealed o [] = cc in
    ap (λ x. written n x (record { given = k; accepted = a; entries = s; saves = [] })) ev ∙
    ap (λ (x : Progress). written n o.variables x) p ∙
    ap (λ x. unless x (written n o.variables (sealed o [])) (record { fault = x; variables = o.variables; reached = sealed o [] })) ef
