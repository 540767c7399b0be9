use Rattle.ert_scenario.proofs.Least.{least_shape, least_range, no_place_limit, no_place_scenario}
use Rattle.ert_scenario.proofs.laws.least_places.Goals as goal

pub returns-clause-shape : goal.returns-clause-shape
returns-clause-shape c = least_shape

pub returns-clause-no_shape : goal.returns-clause-no_shape
returns-clause-no_shape c race bytes d place v h = (least_range race bytes d place v h).shape

pub returns-clause-range : goal.returns-clause-range
returns-clause-range c race bytes d place v h = (least_range race bytes d place v h).range

pub returns-clause-faultless_limit : goal.returns-clause-faultless_limit
returns-clause-faultless_limit c race bytes d place v h =
    let all = no_place_limit race bytes d place v h in (all.faultless.shape, all.faultless.range)

pub returns-clause-limit : goal.returns-clause-limit
returns-clause-limit c race bytes d place v h = let all = no_place_limit race bytes d place v h in (all.at, all.many)

pub returns-clause-faultless_scenario : goal.returns-clause-faultless_scenario
returns-clause-faultless_scenario c race bytes d plan v h =
    let all = no_place_scenario race bytes d plan v h in (all.faultless.shape, all.faultless.range)

pub returns-clause-within_limits : goal.returns-clause-within_limits
returns-clause-within_limits c race bytes d plan v h = (no_place_scenario race bytes d plan v h).few
