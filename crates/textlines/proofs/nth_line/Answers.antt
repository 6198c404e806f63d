use Rattle.std.proofs.Common.{◌≡◌, Some, sym, refl, ap, ◌∙◌, arith, rules, tests}
use Rattle.std.specs.Option.{option_map}
use Rattle.textlines.specs.Lines.{text_lines, nth_line}
use Rattle.textlines.proofs.Lines.{no_line_zero}
use Rattle.textlines.proofs.Cuts.{line_of, nth_cut, stripped_line}
use Rattle.textlines.proofs.nth_line.Goals as goal

pub returns-in_err-checked_sub : goal.returns-in_err-checked_sub
returns-in_err-checked_sub c =
    let zero : c.args.n ≡ 0 = omega (arith, c.in_err-checked_sub.ensures) in
    ap (option_map (λ x. x.now)) c.from_residual.ensures ∙ sym (ap (λ n. nth_line n (text_lines c.args.text.now)) zero ∙ no_line_zero (text_lines c.args.text.now))

pub returns-in_err-line : goal.returns-in_err-line
returns-in_err-line c =
    let line = nth_cut _ c.args.n _ _ _ c.nth.ensures.ran (omega (arith, c.in_ok-checked_sub.ensures)) c.args.text.now c.split_inclusive.ensures.rest c.split_inclusive.ensures.closure (λ a r q k. search (rules, tests)) in
    ap (option_map (λ x. x.now)) c.from_residual-in_err-line.ensures ∙ sym (line ∙ ap (option_map (λ x. (line_of x.now).bytes)) c.in_err-line.was)

pub returns : goal.returns
returns c =
    let line = nth_cut _ c.args.n _ _ _ c.nth.ensures.ran (omega (arith, c.in_ok-checked_sub.ensures)) c.args.text.now c.split_inclusive.ensures.rest c.split_inclusive.ensures.closure (λ a r q k. search (rules, tests)) in
    let bytes = stripped_line c.in_ok-line.line.now _ c.in_ok-line.line c.strip_suffix.ensures.cases refl in
    ap (λ x. Some x.now) c.unwrap_or.ensures ∙ ap Some bytes ∙ sym (line ∙ ap (option_map (λ x. (line_of x.now).bytes)) c.in_ok-line.was)
