use Rattle.std.proofs.Common.{rules}
use Rattle.reader.proofs.Lines.{last_counted}
use Rattle.reader.proofs.scan.last_line.Goals as goal

pub returns : goal.returns
returns c = last_counted c.args.text.now _ (search rules)
