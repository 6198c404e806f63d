-- The history that a formula makes leads to what its reading comes to.
use Rattle.std.proofs.Common.{◌≡◌, ℕ, ◌+◌, Bool, true, false, cond, eqb, ltb, leb, List, [], ◌∷◌, ◌++◌, length, ℤ, nat_abs, Some, None, Ok, Err, Option, Result, sym, refl, ap, ◌∙◌, subst}
use Rattle.words.specs.declared.fault.FileFault.{FileFault}
use Rattle.words.specs.declared.fault.FileFault.TheVariants.{TooManyBytes, ClauseCount, Session}
use Rattle.words.specs.declared.fault.LocatedFault.{LocatedFault}
use Rattle.words.specs.declared.fault.SessionFault.{SessionFault}
use Rattle.words.specs.declared.limits.Limits.{Limits}
use Rattle.words.specs.Checks.{check, ◌then◌, inside, unless}
use Rattle.words.specs.Standing.{Entry}
use Rattle.rules.specs.Restoring.{Saved, Room}
use Rattle.rules.specs.Loading.{open_fault, load_fault, load_adds}
use Rattle.rules.specs.Histories.{History, opened, after, load, variables_of, loaded}
use Rattle.acceptance.proofs.Passing.{none_not_some}
use Rattle.theory.specs.Leading.{Leads, ToLoading}
use Rattle.theory.proofs.Led.{opened_leads, load_leads}
use Rattle.loading.specs.declared.Loading.{Loading}
use Rattle.loading.specs.Meanings.{formula_variables, loaded_count}
use Rattle.reader.specs.declared.counts.Counts.{Counts}
use Rattle.reader.specs.Numerals.{numeral}
use Rattle.reader.specs.Tokens.{Part, last_line, line_before, words_on}
use Rattle.reader.specs.Headers.{uncommented, first_counts, header_fault, past_line}
use Rattle.reader.specs.Formulas.{Reading, Outcome, literal_fault, numeral_fault, word_fault, word_leaves, outcome, read_words, unread, read_rest, read_header, read_text}
use Rattle.reader.specs.Sessions.{Ends}
use Rattle.reader.specs.Loads.{list_answer, with_words, rest_history, header_history, formula_history, LeadsToAnswer}

-- reading words never changes the variable count
stays : (n : ℕ) (o : Outcome) (i : ℕ) (r : Reading) (f : Option FileFault) → o.variables ≡ n → (unless f o (outcome i n r f)).variables ≡ n
stays n o i r None e = e
stays n o i r (Some f) e = refl

read_variables : (l : Limits) (c : Counts) (e : ℕ) (r : Reading) (ws : List Part) → (read_words l c e r ws).variables ≡ c.variables
read_variables l c e r [] = refl
read_variables l c e r (w ∷ ws) =
    stays c.variables _ w.line r (word_fault l c r (numeral w.bytes)) (read_variables l c e (word_leaves r (numeral w.bytes)) ws)

module _ (l : Limits) (room : Room) (saved : List Saved) where
  -- the words of a formula with these counts, whose last line is e
  module _ (c : Counts) (e : ℕ) where
    -- a history leads to what was read
    abbrev Reads : History → ℕ → List Entry → Type 0
    Reads h k s = ToLoading l room h c.variables k s saved

    -- and to an outcome
    abbrev Comes : History → Outcome → Type 0
    Comes h o = ToLoading l room h c.variables o.accepted o.entries saved

    -- the literals since the last 0, the count of lists and what stands, together
    abbrev so_far : List ℤ → ℕ → List Entry → Reading
    so_far zs k s = record { pending = zs; accepted = k; entries = s }

    -- the answer of a list is the same, reckoned from the history
    same_answer : (h : History) (k : ℕ) (s : List Entry) (zs : List ℤ) → Reads h k s → load_fault c.variables k l s zs ≡ list_answer l h zs
    same_answer h k s zs t =
        let st = t.state in
        ap (λ x. load_fault x k l s zs) st.variables ∙ ap (λ x. load_fault (variables_of h) x l s zs) t.lists ∙ ap (λ x. load_fault (variables_of h) (length (loaded h)) l x zs) st.standing

    -- one word in line n before others, of which it is known that they lead on
    module _ (ws : List Part) (on : (zs : List ℤ) (h : History) (k : ℕ) (s : List Entry) → Reads h k s → Comes (with_words l c zs h ws) (read_words l c e (so_far zs k s) ws))
        (n : ℕ) (zs : List ℤ) (h : History) (k : ℕ) (s : List Entry) (t : Reads h k s) where
      -- what comes of the word by its fault and what it leaves
      abbrev comes : Option FileFault → Reading → Outcome
      comes f r = unless f (read_words l c e r ws) (outcome n c.variables (so_far zs k s) f)

      -- a 0, by the answer of the list
      answer_leads : (f : Option SessionFault) → f ≡ load_fault c.variables k l s zs →
          Comes (unless f (with_words l c [] (after h (load zs None)) ws) (after h (load zs f))) (comes (inside Session f) (so_far [] (k + 1) (load_adds k s zs)))
      answer_leads None g = on [] (after h (load zs None)) (k + 1) (load_adds k s zs) (load_leads l room h c.variables s saved k _ _ zs None t g refl refl)
      answer_leads (Some f) g = load_leads l room h c.variables s saved k _ _ zs (Some f) t g refl refl

      -- a literal, by its fault
      literal_leads : (z : ℤ) (f : Option FileFault) → Comes (unless f (with_words l c (zs ++ z ∷ []) h ws) h) (comes f (so_far (zs ++ z ∷ []) k s))
      literal_leads z None = on (zs ++ z ∷ []) h k s t
      literal_leads z (Some f) = t

      -- a number, by whether it is 0
      number_leads : (z : ℤ) (b : Bool) →
          Comes
          (cond b (unless (list_answer l h zs) (with_words l c [] (after h (load zs None)) ws) (after h (load zs (list_answer l h zs)))) (unless (literal_fault c.variables zs z) (with_words l c (zs ++ z ∷ []) h ws) h))
          (comes (cond b (inside Session (load_fault c.variables k l s zs)) (literal_fault c.variables zs z)) (cond b (so_far [] (k + 1) (load_adds k s zs)) (so_far (zs ++ z ∷ []) k s)))
      number_leads z true =
          let same = same_answer h k s zs t in
          subst (λ f. Comes (unless f (with_words l c [] (after h (load zs None)) ws) (after h (load zs f))) (comes (inside Session (load_fault c.variables k l s zs)) (so_far [] (k + 1) (load_adds k s zs)))) same
          (answer_leads (load_fault c.variables k l s zs) refl)
      number_leads z false = literal_leads z (literal_fault c.variables zs z)

      -- a word, by whether more clauses are announced and by the number that it is
      word_leads : (b : Bool) (o : Option ℤ) →
          Comes
          (cond b (elim o [
            | None ↦ h
            | Some z ↦ cond (eqb (nat_abs z) 0)
                (unless (list_answer l h zs) (with_words l c [] (after h (load zs None)) ws) (after h (load zs (list_answer l h zs))))
                (unless (literal_fault c.variables zs z) (with_words l c (zs ++ z ∷ []) h ws) h)
          ]) h)
          (comes (check b ClauseCount then numeral_fault l c.variables (so_far zs k s) o) (word_leaves (so_far zs k s) o))
      word_leads false o = t
      word_leads true None = t
      word_leads true (Some z) = number_leads z (eqb (nat_abs z) 0)

    pub words_lead : (ws : List Part) (zs : List ℤ) (h : History) (k : ℕ) (s : List Entry) → Reads h k s → Comes (with_words l c zs h ws) (read_words l c e (so_far zs k s) ws)
    words_lead [] zs h k s t = t
    words_lead (w ∷ ws) zs h k s t =
        subst
        (λ m. Comes (cond (ltb m c.clauses) (elim (numeral w.bytes) [
          | None ↦ h
          | Some z ↦ cond (eqb (nat_abs z) 0)
              (unless (list_answer l h zs) (with_words l c [] (after h (load zs None)) ws) (after h (load zs (list_answer l h zs))))
              (unless (literal_fault c.variables zs z) (with_words l c (zs ++ z ∷ []) h ws) h)
        ]) h) (read_words l c e (so_far zs k s) (w ∷ ws)))
        t.lists
        (word_leads ws (words_lead ws) w.line zs h k s t (ltb k c.clauses) (numeral w.bytes))

  -- a whole text, where s stood before
  module _ (s : List Entry) (text : List ℕ) where
    -- a history, or none, leads to an outcome; without one there is a fault
    abbrev pub Told : Option History → Outcome → Type 0
    Told None o = (o.entries ≡ s) × (o.fault ≡ None → ⊥)
    Told (Some h) o = ToLoading l room h o.variables o.accepted o.entries saved

    -- behind a header, by the answer of opening
    opening_leads : (c : Counts) (p : Part) (f : Option SessionFault) → f ≡ open_fault c.variables s saved →
        Told (unless f (Some (with_words l c [] (opened c.variables) (words_on p.line [] p.bytes))) None)
        (unless f (read_words l c (last_line text) (unread s) (words_on p.line [] p.bytes)) (outcome 0 c.variables (unread s) (inside Session f)))
    opening_leads c p None g =
        let t = words_lead c (last_line text) (words_on p.line [] p.bytes) [] (opened c.variables) 0 s (opened_leads l room c.variables s saved (sym g)) in
        subst (λ v. ToLoading l room (with_words l c [] (opened c.variables) (words_on p.line [] p.bytes)) v (read_words l c (last_line text) (unread s) (words_on p.line [] p.bytes)).accepted (read_words l c (last_line text) (unread s) (words_on p.line [] p.bytes)).entries saved)
        (sym (read_variables l c (last_line text) (unread s) (words_on p.line [] p.bytes))) t
    opening_leads c p (Some f) g = (refl, λ e. none_not_some _ (sym e))

    -- behind the comments, by the fault of the header
    counts_lead : (c : Counts) (p : Part) (f : Option FileFault) →
        Told (unless f (rest_history l s saved c (past_line p.line p.bytes)) None)
        (unless f (read_rest l s saved text c (past_line p.line p.bytes)) (outcome (line_before text p) 0 (unread s) f))
    counts_lead c p None = opening_leads c (past_line p.line p.bytes) (open_fault c.variables s saved) refl
    counts_lead c p (Some f) = (refl, λ e. none_not_some _ (sym e))

    header_leads : (p : Part) (o : Option Counts) → Told (header_history l s saved p o) (read_header l s saved text p o)
    header_leads p None = (refl, λ e. none_not_some _ (sym e))
    header_leads p (Some c) = counts_lead c p (header_fault (Some c))

    sized_leads : (b : Bool) (p : Part) (o : Option Counts) →
        Told (cond b (header_history l s saved p o) None) (cond b (read_header l s saved text p o) (outcome 0 0 (unread s) (Some TooManyBytes)))
    sized_leads true p o = header_leads p o
    sized_leads false p o = (refl, λ e. none_not_some _ (sym e))

    pub text_leads : Told (formula_history l s saved text) (read_text l s saved text)
    text_leads = sized_leads (leb (length text) 65536) (uncommented false 1 text) (first_counts (uncommented false 1 text).bytes)

    -- an outcome that the code has come to
    answer_told : (h : Option History) (o : Outcome) (r : Result Loading LocatedFault) (s' : List Entry) → Ends o r s' → Told h o → LeadsToAnswer l room h r s s' saved
    answer_told None o r s' d t = d.entries ∙ t.0
    answer_told (Some h) o (Ok session) s' d t =
        subst (λ x. ToLoading l room h (formula_variables session) (loaded_count session) x saved) (sym d.entries)
        (subst (λ x. ToLoading l room h (formula_variables session) x o.entries saved) (sym d.loaded) (subst (λ x. ToLoading l room h x o.accepted o.entries saved) (sym d.variables) t))
    answer_told (Some h) o (Err f) s' d t =
        let st = t.state in
        subst (λ x. Leads l room h (variables_of h) x saved) (sym d.entries) (subst (λ v. Leads l room h v o.entries saved) st.variables st)

    pub formula_leads : (r : Result Loading LocatedFault) (s' : List Entry) → Ends (read_text l s saved text) r s' → LeadsToAnswer l room (formula_history l s saved text) r s s' saved
    formula_leads r s' d = answer_told (formula_history l s saved text) (read_text l s saved text) r s' d text_leads
