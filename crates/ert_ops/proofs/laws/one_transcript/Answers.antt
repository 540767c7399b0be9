-- What every script run prints.

use Rattle.ert_ops.proofs.Runs.{one_text, one_transcript, counts_agree}
use Rattle.ert_ops.proofs.laws.one_transcript.Goals as goal

pub returns : goal.returns
returns c = record { text = one_text; one = one_transcript; counts = counts_agree }
