-- Reading the words of clauses that were written.
use Rattle.std.proofs.Common.{◌≡◌, ℕ, suc, ◌+◌, ◌<◌, ◌≤◌, true, ◌&&◌, eqb, ltb, leb, List, [], ◌∷◌, ◌++◌, length, ℤ, pos, negsuc, nat_abs, Some, None, codes, Option, sym, refl, ap, ◌∙◌, arith}
use Rattle.std.proofs.lemmas.Fmt.{decimal_nonempty}
use Rattle.std.proofs.lemmas.List.{append_assoc, append-nil, length-append}
use Rattle.std.proofs.lemmas.Bool.{cond-false, ne_eqb, le-leb, lt-ltb, and_from}
use Rattle.std.proofs.lemmas.Bool.Decides.{nat_tests}
use Rattle.std.specs.Fmt.{signed_decimal}
use Rattle.words.specs.declared.fault.FileFault.TheVariants.{ClauseCount, TooManyWords, Session}
use Rattle.words.specs.declared.fault.SessionFault.TheVariants.{LiteralBeyond}
use Rattle.words.specs.declared.limits.Limits.{Limits}
use Rattle.words.specs.Checks.{unless}
use Rattle.words.specs.Clauses.{within, rising, canonical}
use Rattle.words.specs.Standing.{Entry, ordered, literals}
use Rattle.rules.specs.Loading.{load_fault, load_adds}
use Rattle.acceptance.proofs.Passing.{passes, check_passes, inside_passes}
use Rattle.writer.specs.Text.{literal_text, literals_text, clause_text, clauses_text}
use Rattle.reader.specs.declared.counts.Counts.{Counts}
use Rattle.reader.specs.Numerals.{numeral}
use Rattle.reader.specs.Tokens.{Part, words_on}
use Rattle.reader.specs.Formulas.{Reading, Outcome, word_fault, word_leaves, end_fault, outcome, read_words}
use Rattle.reader.proofs.Written.{signed_read, signed_run, word_read}
use Rattle.roundtrip.specs.ReadsBack.{numbered_from, each_fits}
use Rattle.roundtrip.proofs.Entering.{up_to, up_to_last, literals_last, loaded_last, loaded_well}

-- what is read so far
abbrev pub so_far : List ℤ → ℕ → List Entry → Reading
so_far ps k es = record { pending = ps; accepted = k; entries = es }

-- a formula of v variables was read whole: k lists were accepted, and these entries stand
abbrev pub read_whole : ℕ → ℕ → List Entry → Outcome
read_whole v k es = record { fault = None; variables = v; accepted = k; entries = es }

pub same_whole : (v i k : ℕ) (es fs : List Entry) → i ≡ k → es ≡ fs → read_whole v i es ≡ read_whole v k fs
same_whole v i k es fs p q = ap (λ j. read_whole v j es) p ∙ ap (read_whole v k) q

-- where nothing is refused, there is the change
pub unless_none : {F X : Type 0} (f : Option F) (x y : X) → f ≡ None → unless f x y ≡ x
unless_none f x y e = ap (λ g. unless g x y) e

-- one accepted word is read
word_accepted : (l : Limits) (c : Counts) (e : ℕ) (r : Reading) (w : Part) (ws : List Part) (o : Option ℤ) → numeral w.bytes ≡ o → word_fault l c r o ≡ None →
    read_words l c e r (w ∷ ws) ≡ read_words l c e (word_leaves r o) ws
word_accepted l c e r w ws o a b =
    unless_none (word_fault l c r (numeral w.bytes)) _ _ (ap (word_fault l c r) a ∙ b) ∙ ap (λ x. read_words l c e (word_leaves r x) ws) a

-- a number has a byte
signed_some : (z : ℤ) → nat_abs z ≤ 512 → 0 < length (signed_decimal z)
signed_some (pos n) h = decimal_nonempty n (omega arith)
signed_some (negsuc n) h = omega arith

module _ (l : Limits) (c : Counts) (e k : ℕ) (es : List Entry) (few : k < c.clauses) (small : c.variables ≤ 512) where
  -- a literal of the formula's variables is accepted
  literal_accepted : (ps : List ℤ) (z : ℤ) → length ps < 1024 → 1 ≤ nat_abs z → nat_abs z ≤ c.variables → word_fault l c (so_far ps k es) (Some z) ≡ None
  literal_accepted ps z short low high =
      passes (ltb k c.clauses) ClauseCount _ (lt-ltb _ _ few)
      (cond-false (eqb (nat_abs z) 0) _ _ (ne_eqb _ _ (λ q. omega arith)) ∙
      passes (ltb (length ps) 1024) TooManyWords _ (lt-ltb _ _ short) (check_passes (leb (nat_abs z) c.variables) (Session (LiteralBeyond (length ps + 1))) (le-leb _ _ high)))

  -- the literals of a clause come behind those that are pending
  literals_read : (m line : ℕ) (ps zs : List ℤ) (rest : List ℕ) → rising c.variables m zs ≡ true → length ps + length zs ≤ 64 →
      read_words l c e (so_far ps k es) (words_on line [] (literals_text zs ++ rest)) ≡ read_words l c e (so_far (ps ++ zs) k es) (words_on line [] rest)
  literals_read m line ps [] rest r h = ap (λ p. read_words l c e (so_far p k es) (words_on line [] rest)) (sym (append-nil ps))
  literals_read m line ps (z ∷ zs) rest r h =
      let low : m < nat_abs z = grind (arith, nat_tests) in
      let high : nat_abs z ≤ c.variables = grind (arith, nat_tests) in
      let r1 : rising c.variables (nat_abs z) zs ≡ true = grind (arith, nat_tests) in
      let behind = literals_text zs ++ rest in
      let t : literals_text (z ∷ zs) ++ rest ≡ signed_decimal z ++ 32 ∷ behind = append_assoc (literal_text z) (literals_text zs) rest ∙ append_assoc (signed_decimal z) (32 ∷ []) behind in
      let w = word_read line (signed_decimal z) 32 behind (signed_run z (omega arith)) (signed_some z (omega arith)) refl in
      let a = literal_accepted ps z (omega arith) (omega arith) high in
      let q : word_leaves (so_far ps k es) (Some z) ≡ so_far (ps ++ z ∷ []) k es = cond-false (eqb (nat_abs z) 0) _ _ (ne_eqb _ _ (λ q. omega arith)) in
      let n : length (ps ++ z ∷ []) + length zs ≤ 64 = omega (arith, length-append ps (z ∷ [])) in
      ap (λ b. read_words l c e (so_far ps k es) (words_on line [] b)) t ∙ ap (read_words l c e (so_far ps k es)) w ∙
      word_accepted l c e (so_far ps k es) (record { line = line; bytes = signed_decimal z }) (words_on line [] behind) (Some z) (signed_read z (omega arith)) a ∙
      ap (λ x. read_words l c e x (words_on line [] behind)) q ∙ literals_read (nat_abs z) line (ps ++ z ∷ []) zs rest r1 n ∙
      ap (λ p. read_words l c e (so_far p k es) (words_on line [] rest)) (append_assoc ps (z ∷ []) zs)

  -- a clause is loaded
  clause_read : (line : ℕ) (zs : List ℤ) (rest : List ℕ) → rising c.variables 0 zs ≡ true → length zs ≤ 64 → load_fault c.variables k l es zs ≡ None →
      read_words l c e (so_far [] k es) (words_on line [] (clause_text zs ++ rest)) ≡ read_words l c e (so_far [] (k + 1) (load_adds k es zs)) (words_on (line + 1) [] rest)
  clause_read line zs rest r h f =
      let t : clause_text zs ++ rest ≡ literals_text zs ++ 48 ∷ 10 ∷ rest = append_assoc (literals_text zs) (codes "0\n") rest in
      let a : word_fault l c (so_far zs k es) (Some (pos 0)) ≡ None = passes (ltb k c.clauses) ClauseCount _ (lt-ltb _ _ few) (inside_passes Session (load_fault c.variables k l es zs) f) in
      ap (λ b. read_words l c e (so_far [] k es) (words_on line [] b)) t ∙ literals_read 0 line [] zs (48 ∷ 10 ∷ rest) r (omega arith) ∙
      word_accepted l c e (so_far zs k es) (record { line = line; bytes = 48 ∷ [] }) (words_on (line + 1) [] rest) (Some (pos 0)) refl a

-- the clauses are loaded one behind the other, behind those that stand
module _ (l : Limits) (c : Counts) (e : ℕ) (small : c.variables ≤ 512) (announced : c.clauses ≤ 1024) where
  pub clauses_read : (s es : List Entry) (j k line : ℕ) → ordered c.variables 64 j s ≡ true → each_fits l s ≡ true → up_to k es ≡ true → length es ≡ k →
      k + length s ≡ c.clauses → k + length s ≤ l.clauses → literals es + literals s ≤ l.literals →
      read_words l c e (so_far [] k es) (words_on line [] (clauses_text s)) ≡ read_whole c.variables (k + length s) (es ++ numbered_from k s)
  clauses_read [] es j k line o f u n all fit full =
      let a : end_fault c (so_far [] k es) ≡ None = check_passes (leb c.clauses k && true) ClauseCount (and_from _ _ (le-leb _ _ (omega arith)) refl) in
      ap (outcome e c.variables (so_far [] k es)) a ∙ same_whole c.variables k (k + 0) es (es ++ []) (omega arith) (sym (append-nil es))
  clauses_read (x ∷ s) es j k line o f u n all fit full =
      let o1 : ordered c.variables 64 x.number s ≡ true = grind (arith, nat_tests) in
      let can : canonical c.variables 64 x.lits ≡ true = grind (arith, nat_tests) in
      let r : rising c.variables 0 x.lits ≡ true = grind (arith, nat_tests) in
      let short : length x.lits ≤ 64 = grind (arith, nat_tests) in
      let w : within l.variables x.lits ≡ true = grind (arith, nat_tests) in
      let wide : length x.lits ≤ l.width = grind (arith, nat_tests) in
      let f1 : each_fits l s ≡ true = grind (arith, nat_tests) in
      let new : Entry = record { number = k + 1; lits = x.lits } in
      let g = loaded_well c.variables x.lits r k es u l (omega arith) short w wide (omega arith) (omega arith) in
      let p = loaded_last c.variables x.lits r k es u in
      let u1 = up_to_last new k (k + 1) es u (omega arith) (omega arith) in
      let n1 : length (es ++ new ∷ []) ≡ k + 1 = omega (arith, length-append es (new ∷ [])) in
      let m = literals_last new es in
      let ih = clauses_read s (es ++ new ∷ []) x.number (k + 1) (line + 1) o1 f1 u1 n1 (omega arith) (omega arith) (omega arith) in
      let loaded : read_words l c e (so_far [] k es) (words_on line [] (clauses_text (x ∷ s))) ≡ read_words l c e (so_far [] (k + 1) (load_adds k es x.lits)) (words_on (line + 1) [] (clauses_text s)) =
      clause_read l c e k es (omega arith) small line x.lits (clauses_text s) r short g in
      let entered : read_words l c e (so_far [] (k + 1) (load_adds k es x.lits)) (words_on (line + 1) [] (clauses_text s)) ≡ read_words l c e (so_far [] (k + 1) (es ++ new ∷ [])) (words_on (line + 1) [] (clauses_text s)) =
      ap (λ y. read_words l c e (so_far [] (k + 1) y) (words_on (line + 1) [] (clauses_text s))) p in
      loaded ∙ entered ∙ ih ∙ same_whole c.variables (k + 1 + length s) (k + suc (length s)) _ _ (omega arith) (append_assoc es (new ∷ []) (numbered_from (k + 1) s))
