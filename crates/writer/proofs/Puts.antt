-- A text that was put into an output from the start on.
use Rattle.std.proofs.Common.{◌≡◌, ◌+◌, ◌^◌, ◌<◌, ◌≤◌, List, ℕ, ◌++◌, length, drop, ap, ◌∙◌, arith}
use lib.Seq.{sets-eq}
use Rattle.output.specs.declared.Output.{Output}
use Rattle.output.specs.Puts.{Puts}
use Rattle.output.proofs.Putting.{put_stored}
use Rattle.writer.specs.Writing.{fronted}

-- where there is room it stands at the front
pub put_fronted : (text : List ℕ) → length text < 2 ^ 64 → {o p : Output} → o.len ≡ 0 → Puts text o p → length text ≤ length o.bytes.now → p.bytes.now ≡ fronted text o.bytes.now
put_fronted text short {o = o} start puts room =
    let m : 0 + length text ≡ length text = omega arith in
    put_stored text short start puts ∙ sets-eq text o.bytes.now 0 (omega arith) ∙ ap (λ j. text ++ drop j o.bytes.now) m
