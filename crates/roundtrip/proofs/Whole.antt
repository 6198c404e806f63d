-- Reading back a whole text, and what follows from it.
use Rattle.std.proofs.Common.{◌≡◌, ℕ, ◌+◌, ◌*◌, ◌≤◌, true, ◌&&◌, leb, List, [], ◌∷◌, ◌++◌, length, ℤ, nat_abs, Some, codes, decimal, sym, refl, ap, ◌∙◌, arith}
use Rattle.std.proofs.lemmas.List.{append_assoc}
use Rattle.std.proofs.lemmas.Bool.{cond-true, leb-true, le-leb, and_parts, and_from}
use Rattle.std.proofs.lemmas.Bool.Decides.{nat_tests}
use Rattle.words.specs.declared.fault.FileFault.TheVariants.{HeaderBeyond}
use Rattle.words.specs.declared.fault.SessionFault.TheVariants.{TextTooLong, TooManyVariables}
use Rattle.words.specs.declared.limits.Limits.{Limits}
use Rattle.words.specs.Clauses.{within, rising}
use Rattle.words.specs.Standing.{Entry, ordered, literals, clauses}
use Rattle.rules.specs.Loading.{open_fault}
use Rattle.acceptance.proofs.Passing.{passed, check_passes}
use Rattle.writer.specs.Text.{header_text, clause_text, clauses_text, formula_text}
use Rattle.reader.specs.declared.counts.Counts.{Counts}
use Rattle.reader.specs.Tokens.{last_line}
use Rattle.reader.specs.Headers.{past_line, first_counts, header_fault}
use Rattle.reader.specs.Formulas.{Outcome, read_rest, read_header, read_text}
use Rattle.reader.proofs.Written.{line_read, header_feedless, header_read}
use Rattle.roundtrip.specs.ReadsBack.{numbered_from, each_fits, SpaceFor, Writable, ReadsBack, HoldsWhatStood, WritesTheSame, TextsTell}
use Rattle.roundtrip.proofs.Words.{same_whole, unless_none, clauses_read}

-- ── Reading back ──

-- a header without its line feed
abbrev header_line : ℕ → ℕ → List ℕ
header_line v n = codes "p cnf " ++ (decimal v ++ 32 ∷ decimal n)

-- which a line feed ends, before what comes behind
header_parts : (v n : ℕ) (rest : List ℕ) → header_text v n ++ rest ≡ header_line v n ++ 10 ∷ rest
header_parts v n rest = simp append_assoc

-- what can be written is small
module _ (v : ℕ) (s : List Entry) (w : Writable v s) where
  written_small : (leb (length s) 1024 && leb (length (formula_text v s)) 65536) ≡ true
  written_small = (passed (leb (length s) 1024 && leb (length (formula_text v s)) 65536) TextTooLong _ w.written).0

  few_written : length s ≤ 1024
  few_written = leb-true _ _ (and_parts _ _ written_small).0

-- the text of a formula reads back
pub reads_back : ReadsBack
reads_back l v s w f =
    let text = formula_text v s in
    let c : Counts = record { variables = v; clauses = length s } in
    let low = w.few_variables in
    let few = few_written v s w in
    let n : 0 + length s ≡ length s = omega arith in
    let t = header_parts v (length s) (clauses_text s) in
    let counts : first_counts text ≡ Some c = ap first_counts t ∙ header_read v (length s) (omega arith) (omega arith) (clauses_text s) in
    let rest : past_line 1 text ≡ record { line = 2; bytes = clauses_text s } = ap (past_line 1) t ∙ line_read 1 (header_line v (length s)) (clauses_text s) (header_feedless v (length s) (omega arith) (omega arith)) in
    cond-true (leb (length text) 65536) _ _ (and_parts _ _ (written_small v s w)).1 ∙
    ap (read_header l [] [] text (record { line = 1; bytes = text })) counts ∙
    unless_none (header_fault (Some c)) _ _ (check_passes (leb v 512 && leb (length s) 1024) HeaderBeyond (and_from _ _ (le-leb _ _ low) (le-leb _ _ few))) ∙
    ap (read_rest l [] [] text c) rest ∙
    unless_none (open_fault v [] []) _ _ (check_passes (leb v 512) TooManyVariables (le-leb _ _ low)) ∙
    clauses_read l c (last_line text) low few s [] 0 0 2 w.in_order f.clauses_fit refl refl n (omega arith) (omega arith) ∙
    same_whole v (0 + length s) (length s) (numbered_from 0 s) (numbered_from 0 s) n refl

-- ── The space of a database ──

-- the variables of a clause in canonical form are in range
rising_within : (n m k : ℕ) (zs : List ℤ) → n ≤ k → rising n m zs ≡ true → within k zs ≡ true
rising_within n m k [] h r = refl
rising_within n m k (z ∷ zs) h r =
    let r1 : rising n (nat_abs z) zs ≡ true = grind (arith, nat_tests) in
    let a : nat_abs z ≤ n = grind (arith, nat_tests) in
    let ih = rising_within n (nat_abs z) k zs h r1 in
    grind (arith, nat_tests)

-- clauses in canonical form fit a database that is no narrower
ordered_fit : (n w k : ℕ) (l : Limits) (s : List Entry) → n ≤ l.variables → w ≤ l.width → ordered n w k s ≡ true → each_fits l s ≡ true
ordered_fit n w k l [] a b o = refl
ordered_fit n w k l (e ∷ es) a b o =
    let o1 : ordered n w e.number es ≡ true = grind (arith, nat_tests) in
    let r : rising n 0 e.lits ≡ true = grind (arith, nat_tests) in
    let short : length e.lits ≤ w = grind (arith, nat_tests) in
    let i = rising_within n 0 l.variables e.lits a r in
    let ih = ordered_fit n w e.number l es a b o1 in
    grind (arith, nat_tests)

-- a database has the space for the clauses that stand in it
pub holds_what_stood : HoldsWhatStood
holds_what_stood l s lawful = record {
  clauses_fit = ordered_fit l.variables l.width 0 l s (omega arith) (omega arith) lawful.in_order;
  few_clauses = leb-true _ _ lawful.clauses_fit;
  few_literals = leb-true _ _ lawful.literals_fit;
}

-- ── The same text ──

-- clauses numbered anew are the same clauses
numbered_clauses : (k : ℕ) (s : List Entry) → clauses (numbered_from k s) ≡ clauses s
numbered_clauses k [] = refl
numbered_clauses k (e ∷ es) = ap (λ cs. e.lits ∷ cs) (numbered_clauses (k + 1) es)

numbered_length : (k : ℕ) (s : List Entry) → length (numbered_from k s) ≡ length s
numbered_length k [] = refl
numbered_length k (e ∷ es) = let ih = numbered_length (k + 1) es in omega arith

numbered_text : (k : ℕ) (s : List Entry) → clauses_text (numbered_from k s) ≡ clauses_text s
numbered_text k [] = refl
numbered_text k (e ∷ es) = ap (λ t. clause_text e.lits ++ t) (numbered_text (k + 1) es)

-- what was read back has the same text
pub writes_the_same : WritesTheSame
writes_the_same v s = ap (λ n. header_text v n ++ clauses_text (numbered_from 0 s)) (numbered_length 0 s) ∙ ap (λ t. header_text v (length s) ++ t) (numbered_text 0 s)

-- a database that takes every formula that can be written
abbrev ample : Limits
ample = record { variables = 512; width = 64; clauses = 1024; literals = 65536 }

ordered_literals : (n w k : ℕ) (s : List Entry) → w ≤ 64 → ordered n w k s ≡ true → literals s ≤ 64 * length s
ordered_literals n w k [] h o = omega arith
ordered_literals n w k (e ∷ es) h o =
    let o1 : ordered n w e.number es ≡ true = grind (arith, nat_tests) in
    let short : length e.lits ≤ w = grind (arith, nat_tests) in
    let ih = ordered_literals n w e.number es h o1 in
    omega arith

ample_space : (v : ℕ) (s : List Entry) → Writable v s → SpaceFor ample s
ample_space v s w =
    let few = few_written v s w in
    let n = ordered_literals v 64 0 s (omega arith) w.in_order in
    record {
      clauses_fit = ordered_fit v 64 0 ample s w.few_variables (omega arith) w.in_order;
      few_clauses = few;
      few_literals = omega arith;
    }

-- formulas that have one text are the same
pub texts_tell : TextsTell
texts_tell u v s t a b e =
    let o = sym (reads_back ample u s a (ample_space u s a)) ∙ ap (read_text ample [] []) e ∙ reads_back ample v t b (ample_space v t b) in
    (ap (λ (x : Outcome). x.variables) o, sym (numbered_clauses 0 s) ∙ ap (λ (x : Outcome). clauses x.entries) o ∙ numbered_clauses 0 t)
