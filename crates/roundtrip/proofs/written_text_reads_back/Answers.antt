use Rattle.roundtrip.proofs.Whole.{reads_back}
use Rattle.roundtrip.proofs.written_text_reads_back.Goals as goal

pub returns : goal.returns
returns c = reads_back
