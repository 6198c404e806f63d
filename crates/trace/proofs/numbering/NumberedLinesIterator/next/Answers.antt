use Rattle.std.proofs.Common.{◌∷◌, ◌+◌, length, sym, ap, ◌∙◌, rules, tests}
use Rattle.std.specs.List.{enumerate_from}
use Rattle.std.proofs.lemmas.List.{take_rest}
use Rattle.std.proofs.lemmas.Option.{MatchOption-at_some}
use Rattle.textlines.specs.Lines.{text_lines}
use Rattle.trace.specs.Sessions.{line_of}
use Rattle.trace.proofs.Stepping.{piece_taken}
use Rattle.trace.proofs.numbering.NumberedLinesIterator.next.Goals as goal

pub returns-clause-steps : goal.returns-clause-steps
returns-clause-steps c =
    let s = c.args.self.now in
    let x = c.in_ok-line.line in
    ap (enumerate_from s.number)
    (piece_taken _ c.split_inclusive.result c.next.new.self _ s.rest.now x (MatchOption-at_some _ _ _ c.in_ok-line.was c.next.ensures.steps) c.split_inclusive.ensures.rest c.split_inclusive.ensures.closure (λ a r q k. search (rules, tests))) ∙
    ap (λ t. (s.number, line_of x.now) ∷ enumerate_from (s.number + 1) (text_lines t)) (sym (take_rest s.rest.now (length x.now)))

pub returns-clause-goes : goal.returns-clause-goes
returns-clause-goes c = let shorter = ap length (returns-clause-steps c) in search rules
