-- Reading a trace line after line.
use Rattle.std.proofs.Common.{◌≡◌, ℕ, ◌+◌, ◌<◌, min, Bool, eqb, List, [], ◌∷◌, ◌++◌, length, drop, None, sym, refl, ap, ◌∙◌, subst}
use denote.Param.Members.{Mut}
use denote.Ref.{Bor}
use Rattle.std.specs.Fn.{Called, ComputesKey}
use Rattle.std.specs.List.{IsFirstMatchOrLen, enumerate_from}
use Rattle.std.specs.Slice.Iter.{split_inclusive_rest, split_inclusive_callee}
use Rattle.std.specs.declared.slice.SplitInclusive.{SplitInclusive}
use Rattle.std.proofs.lemmas.Fn.{always_returns_same}
use Rattle.std.proofs.lemmas.List.{drop_at}
use Rattle.words.specs.declared.limits.Limits.{Limits}
use Rattle.words.specs.Checks.{unless}
use Rattle.rules.specs.Restoring.{Room}
use Rattle.textlines.specs.Lines.{TextLine, text_lines}
use Rattle.textlines.proofs.Cuts.{first_part}
use Rattle.trace.specs.Traces.{Progress, TraceOutcome, proof_line, sent, sent_fault, stopped, read_lines}
use Rattle.trace.specs.Sessions.{line_of}

-- the lines of a text are the piece that the code has cut off its front, and the lines behind it
module _ {F : Type 0} (g : Mut F (Bor ℕ × Unit {0}) Bool) where
  pub piece_taken : (s t : SplitInclusive ℕ F) (f : F) (bs : List ℕ) (x : Bor (List ℕ)) →
      (split_inclusive_rest s ≡ x.now ++ split_inclusive_rest t) × ((i : ℕ) × (length x.now ≡ min (i + 1) (length (split_inclusive_rest s))) × ((p : ℕ → Bool) → ComputesKey g p (split_inclusive_callee s) → ComputesKey g p (split_inclusive_callee t) × IsFirstMatchOrLen p (split_inclusive_rest s) i)) × (0 < length (split_inclusive_rest s)) →
      split_inclusive_rest s ≡ bs → split_inclusive_callee s ≡ f → ((a : Bor ℕ × Unit {0}) (r : Bool) (q : F) → Called g f a r q → (r ≡ eqb a.0.now 10) × (q ≡ f)) →
      text_lines bs ≡ line_of x.now ∷ text_lines (drop (length x.now) bs)
  piece_taken s t f bs x q e d h =
      let k = q.1.2 (λ b. eqb b 10) (subst (ComputesKey g (λ b. eqb b 10)) (sym d) (always_returns_same g _ f h)) in
      let left : drop (length x.now) bs ≡ split_inclusive_rest t = ap (drop (length x.now)) (sym e ∙ q.0) ∙ drop_at x.now (split_inclusive_rest t) (length x.now) refl in
      sym (ap text_lines e) ∙ first_part (split_inclusive_rest s) x.now (split_inclusive_rest t) q.1.0 q.0 q.1.1 k.1 q.2 ∙
      ap (λ y. line_of x.now ∷ text_lines y) (sym left)

-- reading lines that bear their numbers
module _ (marks : List ℕ) (l : Limits) (room : Room) where
  abbrev pub read_numbered : Progress → List (ℕ × TextLine) → TraceOutcome
  read_numbered p [] = record { fault = None; reached = p }
  read_numbered p (x ∷ xs) =
      unless (sent_fault marks l room p (proof_line x.1))
      (read_numbered (sent p (proof_line x.1)) xs)
      (stopped x.0 p (sent_fault marks l room p (proof_line x.1)))

  pub numbered_read : (n : ℕ) (p : Progress) (ls : List TextLine) → read_numbered p (enumerate_from n ls) ≡ read_lines marks l room n p ls
  numbered_read n p [] = refl
  numbered_read n p (x ∷ xs) =
      ap (λ o. unless (sent_fault marks l room p (proof_line x)) o (stopped n p (sent_fault marks l room p (proof_line x)))) (numbered_read (n + 1) (sent p (proof_line x)) xs)
