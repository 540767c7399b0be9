use Rattle.ert_scenario.proofs.Kept.{migrated_same, migrated_two, text_same}
use Rattle.ert_scenario.proofs.laws.migrated_is_the_same.Goals as goal

pub returns-clause-value : goal.returns-clause-value
returns-clause-value c = migrated_same

pub returns-clause-format : goal.returns-clause-format
returns-clause-format c = migrated_two

pub returns-clause-text : goal.returns-clause-text
returns-clause-text c = text_same
