use Rattle.std.proofs.Common.{◌≡◌, ◌∷◌, [], true, false, not, Some, None, length, sym, ap, ◌∙◌, ⊎_elim, rules}
use Rattle.std.proofs.lemmas.Bool.{cases_Bool}
use Rattle.std.specs.Bool.{then_some}
use Rattle.reader.specs.Scanning.{words_of}
use Rattle.reader.specs.Tokens.{words_on}
use Rattle.reader.proofs.Runs.{word_found, no_word}
use Rattle.reader.proofs.scan.ScannerIterator.next.Goals as goal

none : (c : goal.After-then_some) → c.is_empty.result ≡ true → (words_of c.args.self.now ≡ []) × (words_of c.take_word-word.new.self ≡ [])
none c h =
    let a = c.skip_blanks in
    let b = c.take_word-word in
    let n = no_word a.new.self.line a.new.self.rest.now b.new.self.rest.now b.result.now b.ensures.word b.ensures.rest a.ensures.stops (search rules) in
    (sym a.ensures.words ∙ n.0, ap (λ l. words_on l [] b.new.self.rest.now) b.ensures.line ∙ n.1)

first : (c : goal.After-then_some) → c.is_empty.result ≡ false → words_of c.args.self.now ≡ record { line = c.take_word-word.new.self.line; bytes = c.take_word-word.result.now } ∷ words_of c.take_word-word.new.self
first c h =
    let a = c.skip_blanks in
    let b = c.take_word-word in
    let f = word_found a.new.self.line a.new.self.rest.now b.new.self.rest.now b.result.now b.ensures.word b.ensures.rest (search rules) in
    sym a.ensures.words ∙ f ∙ ap (λ l. record { line = l; bytes = b.result.now } ∷ words_on l [] b.new.self.rest.now) (sym b.ensures.line)

pub returns-clause-steps : goal.returns-clause-steps
returns-clause-steps c =
    ⊎_elim
    (λ (h : c.is_empty.result ≡ true). let n = none c h in let e : c.then_some.result ≡ None = c.then_some.ensures ∙ ap (λ b. then_some (not b) (c.take_word-word.new.self.line, c.take_word-word.result)) h in search rules)
    (λ (h : c.is_empty.result ≡ false). let e : c.then_some.result ≡ Some (c.take_word-word.new.self.line, c.take_word-word.result) = c.then_some.ensures ∙ ap (λ b. then_some (not b) (c.take_word-word.new.self.line, c.take_word-word.result)) h in let f = first c h in search rules)
    (cases_Bool c.is_empty.result)

pub returns-clause-goes : goal.returns-clause-goes
returns-clause-goes c =
    ⊎_elim
    (λ (h : c.is_empty.result ≡ true). let n = none c h in search rules)
    (λ (h : c.is_empty.result ≡ false). let shorter = ap length (first c h) in search rules)
    (cases_Bool c.is_empty.result)
