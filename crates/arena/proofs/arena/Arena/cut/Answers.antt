use Rattle.std.proofs.Common.{◌≡◌, ℕ, suc, ◌+◌, ◌++◌, List, take, drop, length, ap, ◌∙◌, arith}
use Rattle.std.specs.List.{remove}
use Rattle.words.specs.Standing.{Entry, ordered}
use Rattle.database.proofs.Bounds.{ordered_remove}
use Rattle.arena.specs.Contents.{contents}
use Rattle.arena.specs.Splices.{closed}
use Rattle.arena.specs.declared.arena.Arena.{Arena}
use Rattle.arena.proofs.Blocks.{length_closed}
use Rattle.arena.proofs.Rows.{count_is, weight_is}
use Rattle.arena.proofs.arena.Arena.cut.Goals as goal

pub cut-requires : goal.cut-requires
cut-requires c =
    let s = c.args.self.now in
    record { within = omega (arith, c.requires, s.counts) }

-- the clauses after
after : (s : Arena) (i : ℕ) (es : List Entry) → es ≡ closed (contents s.memory) i 1 → es ≡ remove (contents s.memory) i
after s i es e =
    let z : i + 1 ≡ suc i = omega arith in
    e ∙ ap (λ j. take i (contents s.memory) ++ drop j (contents s.memory)) z

pub invariant_of-self : goal.invariant_of-self
invariant_of-self c =
    let s = c.args.self.now in
    let m = c.cut.new.self in
    let e = after s c.args.place (contents m) c.cut.ensures.means in
    let n = count_is m in
    let k = length_closed (contents s.memory) c.args.place 1 in
    record { most = omega (arith, n, ap length c.cut.ensures.means, s.counts, s.most); kept = ap (ordered 512 64 0) e ∙ ordered_remove 512 64 0 c.args.place (contents s.memory) s.kept; counts = n; weighs = weight_is m }

pub returns-clause-after : goal.returns-clause-after
returns-clause-after c = after c.args.self.now c.args.place (contents c.cut.new.self) c.cut.ensures.means
