use Rattle.std.proofs.Common.{◌≡◌, ◌≤◌, vec_len, All}
use Rattle.trials.proofs.random.Random.bytes.Given as goal

abbrev pub invariant-loop : goal.invariant-loop
invariant-loop l = (vec_len l.bytes ≡ l.counter) × (l.counter ≤ l.count) × All (λ b. b ≤ 1) l.bytes.items
