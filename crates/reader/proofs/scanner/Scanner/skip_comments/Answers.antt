use Rattle.std.proofs.Common.{[], ◌∷◌, sym, ◌∙◌}
use Rattle.std.proofs.lemmas.Slice.Eq.{starts_is}
use Rattle.std.proofs.lemmas.Bool.Decides.{Decides-eqb}
use Rattle.reader.specs.Scanning.{rest_of}
use Rattle.reader.proofs.Heads.{comment_here}
use Rattle.reader.proofs.scanner.Scanner.skip_comments.Goals as goal

pub loop-self-preserved : goal.loop-self-preserved
loop-self-preserved c =
    let s = c.loop-self.self in
    let h = (starts_is Decides-eqb s.rest.now (99 ∷ []) _ c.starts_with.ensures.value).0 c.loop-self-test.true in
    sym (comment_here s.rest.now s.line (rest_of c.skip_line.new.self) h c.skip_line.ensures.rest) ∙ c.loop-self.invariant
