-- Ops in range have a transcript.

use Rattle.ert_ops.proofs.PossibleOps.{transcripts_exist}
use Rattle.ert_ops.proofs.existence.transcripts_exist.Goals as goal

pub returns : goal.returns
returns c = transcripts_exist
