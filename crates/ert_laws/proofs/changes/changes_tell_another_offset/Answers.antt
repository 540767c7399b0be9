use Rattle.ert_laws.proofs.OwnTells.{changes_are_told, messages_are_told}
use Rattle.ert_laws.proofs.changes.changes_tell_another_offset.Goals as goal

pub returns-clause-puts : goal.returns-clause-puts
returns-clause-puts c = changes_are_told

pub returns-clause-told : goal.returns-clause-told
returns-clause-told c = messages_are_told
