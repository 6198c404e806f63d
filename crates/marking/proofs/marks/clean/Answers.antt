use Rattle.std.proofs.Common.{rules}
use Rattle.marking.proofs.Looking.{clean_zeros}
use Rattle.marking.proofs.marks.clean.Goals as goal

pub returns-then-bytes-eq1024-clause-zeros : goal.returns-then-bytes-eq1024-clause-zeros
returns-then-bytes-eq1024-clause-zeros c = λ t. clean_zeros c.args.bytes.now (search rules)
