use Rattle.std.proofs.Common.{rules}
use Rattle.reader.proofs.Heads.{begins_told}
use Rattle.trace.specs.Traces.{names}
use Rattle.trace.proofs.reading.behind_names.Goals as goal

pub returns-in_err-rest : goal.returns-in_err-rest
returns-in_err-rest c marks l room p = let b = begins_told names c.args.text.now in search rules

pub returns : goal.returns
returns c marks l room p = let b = begins_told names c.args.text.now in search rules
