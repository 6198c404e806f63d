use Rattle.std.proofs.Common.{rules}
use Rattle.reader.proofs.Heads.{past_found, past_missing}
use Rattle.reader.proofs.scanner.Scanner.skip_line.Goals as goal

pub returns-in-Some-clause-rest : goal.returns-in-Some-clause-rest
returns-in-Some-clause-rest c = search (rules, past_found)

pub returns-in-None-clause-rest : goal.returns-in-None-clause-rest
returns-in-None-clause-rest c = search (rules, past_missing)
