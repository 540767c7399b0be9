use Rattle.ert_io.proofs.Fronts.{written_front}
use Rattle.ert_audit.proofs.explaining.write_message.Goals as goal

pub returns-clause-front : goal.returns-clause-front
returns-clause-front g c = written_front _ _ _ c.write_all.result c.write_all.ensures.ok c.write_all.ensures.err
