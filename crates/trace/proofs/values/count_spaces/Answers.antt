use Rattle.std.proofs.Common.{rules}
use Rattle.trace.proofs.Counting.{spaces_counted}
use Rattle.trace.proofs.values.count_spaces.Goals as goal

pub returns : goal.returns
returns c = let s = spaces_counted c.args.line.now in search rules
