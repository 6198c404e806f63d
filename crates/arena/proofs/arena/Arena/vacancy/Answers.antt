use Rattle.std.proofs.Common.{◌≡◌, length, ap, arith, rules}
use Rattle.words.specs.Meanings.{lits_of}
use Rattle.words.specs.declared.limits.Limits.{Limits}
use Rattle.database.proofs.Places.{found, missing}
use Rattle.arena.specs.Contents.{contents}
use Rattle.arena.proofs.Refuses.{put_taken, put_full, put_long, put_free}
use Rattle.arena.proofs.Words.{width_is, width_fits, variables_fit}
use Rattle.arena.proofs.arena.Arena.vacancy.Goals as goal

pub returns-in_default-clause-fault : goal.returns-in_default-clause-fault
returns-in_default-clause-fault c =
    let s = c.args.self.now in
    let k = c.args.clause.now in
    put_taken (length s.memory.records.now) (length s.memory.literals.now) (contents s.memory) (record { number = c.args.number.value; lits = lits_of k }) (variables_fit k) (width_fits k)
    (found c.args.number.value _ (contents s.memory) c.in_default.ensures.place).present

pub returns-then-self-limits-clause-fault : goal.returns-then-self-limits-clause-fault
returns-then-self-limits-clause-fault c =
    let s = c.args.self.now in
    let k = c.args.clause.now in
    let m = ap (λ (l : Limits). l.clauses) c.limits-limits.ensures in
    put_full (length s.memory.records.now) (length s.memory.literals.now) (contents s.memory) (record { number = c.args.number.value; lits = lits_of k }) (variables_fit k) (width_fits k)
    (missing 512 64 0 c.args.number.value _ (contents s.memory) s.kept c.in-Err.ensures.place).absent (omega (arith, m, s.counts))

pub returns-then-self-clause-clause-fault : goal.returns-then-self-clause-clause-fault
returns-then-self-clause-clause-fault c =
    let s = c.args.self.now in
    let k = c.args.clause.now in
    let h : length k.lits ≡ 64 = search rules in
    let m = ap (λ (l : Limits). l.clauses) c.limits-limits.ensures in
    let n = ap (λ (l : Limits). l.literals) c.limits-limits.ensures in
    put_long (length s.memory.records.now) (length s.memory.literals.now) (contents s.memory) (record { number = c.args.number.value; lits = lits_of k }) (variables_fit k) (width_fits k)
    (missing 512 64 0 c.args.number.value _ (contents s.memory) s.kept c.in-Err.ensures.place).absent (omega (arith, m, s.counts)) (omega (arith, n, s.weighs, width_is k h))

pub returns-clause-fault : goal.returns-clause-fault
returns-clause-fault c =
    let s = c.args.self.now in
    let k = c.args.clause.now in
    let h : length k.lits ≡ 64 = search rules in
    let m = ap (λ (l : Limits). l.clauses) c.limits-limits.ensures in
    let n = ap (λ (l : Limits). l.literals) c.limits-limits.ensures in
    put_free (length s.memory.records.now) (length s.memory.literals.now) (contents s.memory) (record { number = c.args.number.value; lits = lits_of k }) (variables_fit k) (width_fits k)
    (missing 512 64 0 c.args.number.value _ (contents s.memory) s.kept c.in-Err.ensures.place).absent (omega (arith, m, s.counts)) (omega (arith, n, s.weighs, width_is k h))
