-- Each call takes a history on: where the history before it led to the state at its start, the history with the call and
-- its answer leads to the state at its end.
use Rattle.std.proofs.Common.{◌≡◌, ℕ, ◌+◌, ◌≤◌, true, eqb, leb, List, [], ◌∷◌, ◌++◌, length, ℤ, Some, None, Option, sym, refl, ap, ◌∙◌, subst, arith}
use Rattle.std.proofs.lemmas.Bool.Decides.{nat_tests}
use Rattle.words.specs.declared.limits.Limits.{Limits}
use Rattle.words.specs.declared.line.Line.{Line}
use Rattle.words.specs.declared.fault.SessionFault.{SessionFault}
use Rattle.words.specs.declared.fault.SessionFault.TheVariants.{DatabaseNotEmpty, StackNotEmpty, TooManyVariables}
use Rattle.words.specs.Checks.{unless}
use Rattle.words.specs.Standing.{Entry}
use Rattle.rules.specs.Restoring.{Saved, Room, restored, restore_fault}
use Rattle.rules.specs.Loading.{open_fault, load_fault, load_adds}
use Rattle.rules.specs.Lines.{line_fault, line_leaves, line_saves, line_gives, one_more}
use Rattle.rules.specs.Histories.{History, opened, after, load, seal, submit, finish, restore, write, variables_of, loaded, standing_by, saved_by, given_by}
use Rattle.rules.specs.Runs.{Run, empty_stands}
use Rattle.acceptance.proofs.Passing.{passed, check_passed}
use Rattle.theory.specs.Leading.{ToLoading, ToChecking, ToFinished}
use Rattle.theory.proofs.Keeping.{law_of_histories}

-- a list without elements
empty_list : {X : Type 0} (xs : List X) → eqb (length xs) 0 ≡ true → xs ≡ []
empty_list [] h = refl
empty_list (x ∷ xs) h = absurd (let z : ◌≡◌ {A = ℕ} 0 1 = grind (arith, nat_tests) in omega arith)

-- opening begins a history
pub opened_leads : (l : Limits) (room : Room) (v : ℕ) (s : List Entry) (saves : List Saved) → open_fault v s saves ≡ None → ToLoading l room (opened v) v 0 s saves
opened_leads l room v s saves e =
    let p = passed (eqb (length s) 0) DatabaseNotEmpty _ e in
    let q = passed (eqb (length saves) 0) StackNotEmpty _ p.1 in
    let few : v ≤ 512 = let t = check_passed (leb v 512) TooManyVariables q.1 in grind (arith, nat_tests) in
    record {
      state = record { run = few; law = law_of_histories l room (opened v) few; variables = refl; standing = empty_list s p.0; saved = empty_list saves q.0 };
      now_loading = refl;
      lists = refl;
      given = refl;
      lines = refl;
    }

module _ (l : Limits) (room : Room) (h : History) (v : ℕ) (s : List Entry) (saves : List Saved) where
  -- an accepted list, and a refused one
  loaded_so : (k k' : ℕ) (s' : List Entry) (zs : List ℤ) (f : Option SessionFault) → ToLoading l room h v k s saves →
      k' ≡ unless f (k + 1) k → s' ≡ unless f (load_adds k s zs) s → Run l room (after h (load zs f)) → ToLoading l room (after h (load zs f)) v k' s' saves
  loaded_so k k' s' zs None t ek es run =
      let st = t.state in
      let a = t.lists in
      let n : k' ≡ length (loaded (after h (load zs None))) = omega arith in
      let adds : s' ≡ standing_by (after h (load zs None)) = es ∙ ap (λ x. load_adds x s zs) a ∙ ap (λ x. load_adds (length (loaded h)) x zs) st.standing in
      record {
        state = record { run = run; law = law_of_histories l room (after h (load zs None)) run; variables = st.variables; standing = adds; saved = st.saved };
        now_loading = t.now_loading;
        lists = n;
        given = omega arith;
        lines = t.lines;
      }
  loaded_so k k' s' zs (Some g) t ek es run =
      let st = t.state in
      record {
        state = record { run = run; law = law_of_histories l room (after h (load zs (Some g))) run; variables = st.variables; standing = es ∙ st.standing; saved = st.saved };
        now_loading = t.now_loading;
        lists = ek ∙ t.lists;
        given = ek ∙ t.given;
        lines = t.lines;
      }

  -- a list handed to load
  pub load_leads : (k k' : ℕ) (s' : List Entry) (zs : List ℤ) (f : Option SessionFault) → ToLoading l room h v k s saves →
      f ≡ load_fault v k l s zs → k' ≡ unless f (k + 1) k → s' ≡ unless f (load_adds k s zs) s → ToLoading l room (after h (load zs f)) v k' s' saves
  load_leads k k' s' zs f t ef ek es =
      let st = t.state in
      let answer : f ≡ load_fault (variables_of h) (length (loaded h)) l (standing_by h) zs =
      ef ∙ ap (λ x. load_fault x k l s zs) st.variables ∙ ap (λ x. load_fault (variables_of h) x l s zs) t.lists ∙ ap (λ x. load_fault (variables_of h) (length (loaded h)) l x zs) st.standing in
      let run : Run l room (after h (load zs f)) = (st.run, (t.now_loading, answer)) in
      loaded_so k k' s' zs f t ek es run

  -- sealing
  pub seal_leads : (k : ℕ) → ToLoading l room h v k s saves → ToChecking l room (after h seal) v k 0 s saves
  seal_leads k t =
      let st = t.state in
      let run : Run l room (after h seal) = (st.run, t.now_loading) in
      record {
        state = record { run = run; law = law_of_histories l room (after h seal) run; variables = st.variables; standing = st.standing; saved = st.saved };
        now_checking = refl;
        given = t.given;
        lines = sym t.lines;
      }

  -- an accepted line, and a refused one
  submitted_so : (k n k' n' : ℕ) (s' : List Entry) (saves' : List Saved) (line : Line) (f : Option SessionFault) → ToChecking l room h v k n s saves →
      k' ≡ unless f (line_gives k line) k → n' ≡ unless f (one_more n) n →
      s' ≡ unless f (line_leaves s line) s → saves' ≡ unless f (saves ++ line_saves s line) saves →
      Run l room (after h (submit line f)) → ToChecking l room (after h (submit line f)) v k' n' s' saves'
  submitted_so k n k' n' s' saves' line None t ek en es ew run =
      let st = t.state in
      record {
        state = record {
          run = run;
          law = law_of_histories l room (after h (submit line None)) run;
          variables = st.variables;
          standing = es ∙ ap (λ x. line_leaves x line) st.standing;
          saved = ew ∙ ap (λ x. x ++ line_saves s line) st.saved ∙ ap (λ x. saved_by h ++ line_saves x line) st.standing;
        };
        now_checking = t.now_checking;
        given = ek ∙ ap (λ x. line_gives x line) t.given;
        lines = en ∙ ap one_more t.lines;
      }
  submitted_so k n k' n' s' saves' line (Some g) t ek en es ew run =
      let st = t.state in
      record {
        state = record { run = run; law = law_of_histories l room (after h (submit line (Some g))) run; variables = st.variables; standing = es ∙ st.standing; saved = ew ∙ st.saved };
        now_checking = t.now_checking;
        given = ek ∙ t.given;
        lines = en ∙ t.lines;
      }

  -- a line
  pub submit_leads : (k n k' n' : ℕ) (s' : List Entry) (saves' : List Saved) (line : Line) (f : Option SessionFault) → ToChecking l room h v k n s saves →
      f ≡ line_fault l room k s saves line → k' ≡ unless f (line_gives k line) k → n' ≡ unless f (one_more n) n →
      s' ≡ unless f (line_leaves s line) s → saves' ≡ unless f (saves ++ line_saves s line) saves →
      ToChecking l room (after h (submit line f)) v k' n' s' saves'
  submit_leads k n k' n' s' saves' line f t ef ek en es ew =
      let st = t.state in
      let answer : f ≡ line_fault l room (given_by h) (standing_by h) (saved_by h) line =
      ef ∙ ap (λ x. line_fault l room x s saves line) t.given ∙ ap (λ x. line_fault l room (given_by h) x saves line) st.standing ∙ ap (λ x. line_fault l room (given_by h) (standing_by h) x line) st.saved in
      submitted_so k n k' n' s' saves' line f t ek en es ew (st.run, (t.now_checking, answer))

  -- finishing
  pub finish_leads : (k n a b c : ℕ) → ToChecking l room h v k n s saves → a ≡ n → b ≡ length s → c ≡ empty_stands s → ToFinished l room (after h (finish a b c)) v s saves
  finish_leads k n a b c t ea eb ec =
      let st = t.state in
      let run : Run l room (after h (finish a b c)) = (st.run, (t.now_checking, ea ∙ t.lines, eb ∙ ap length st.standing, ec ∙ ap empty_stands st.standing)) in
      record {
        state = record { run = run; law = law_of_histories l room (after h (finish a b c)) run; variables = st.variables; standing = st.standing; saved = st.saved };
        now_finished = refl;
      }

  -- restoring an assignment a to b
  pub restore_leads : (a b : List ℕ) (f : Option SessionFault) → ToFinished l room h v s saves → f ≡ restore_fault v s a → b ≡ unless f (restored saves a) a → ToFinished l room (after h (restore a b f)) v s saves
  restore_leads a b f t ef eb =
      let st = t.state in
      let answer : f ≡ restore_fault (variables_of h) (standing_by h) a = ef ∙ ap (λ x. restore_fault x s a) st.variables ∙ ap (λ x. restore_fault (variables_of h) x a) st.standing in
      let result : b ≡ unless f (restored (saved_by h) a) a = eb ∙ ap (λ x. unless f (restored x a) a) st.saved in
      let run : Run l room (after h (restore a b f)) = (st.run, (t.now_finished, answer, result)) in
      record {
        state = record { run = run; law = law_of_histories l room (after h (restore a b f)) run; variables = st.variables; standing = st.standing; saved = st.saved };
        now_finished = t.now_finished;
      }

  -- writing
  pub write_leads : (f : Option SessionFault) → ToFinished l room h v s saves → ToFinished l room (after h (write f)) v s saves
  write_leads f t =
      let st = t.state in
      let run : Run l room (after h (write f)) = (st.run, t.now_finished) in
      record {
        state = record { run = run; law = law_of_histories l room (after h (write f)) run; variables = st.variables; standing = st.standing; saved = st.saved };
        now_finished = t.now_finished;
      }

-- the limits and the variable count stay over a call
pub same_loading : (l l' : Limits) (room : Room) (h : History) (v v' k : ℕ) (s : List Entry) (saves : List Saved) → l' ≡ l → v' ≡ v → ToLoading l room h v k s saves → ToLoading l' room h v' k s saves
same_loading l l' room h v v' k s saves el ev t =
    subst (λ x. ToLoading x room h v' k s saves) (sym el) (subst (λ x. ToLoading l room h x k s saves) (sym ev) t)

pub same_checking : (l l' : Limits) (room room' : Room) (h : History) (v v' k n : ℕ) (s : List Entry) (saves : List Saved) → l' ≡ l → room' ≡ room → v' ≡ v → ToChecking l room h v k n s saves → ToChecking l' room' h v' k n s saves
same_checking l l' room room' h v v' k n s saves el er ev t =
    subst (λ x. ToChecking x room' h v' k n s saves) (sym el) (subst (λ x. ToChecking l x h v' k n s saves) (sym er) (subst (λ x. ToChecking l room h x k n s saves) (sym ev) t))
