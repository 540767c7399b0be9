use Rattle.ert_scenario.specs.{Lists.lists_seen, Walks.{race_raws, all_raws}}
use Rattle.ert_scenario.proofs.Scanned.{stands_first, over_at_end}
use Rattle.ert_scenario.proofs.scanning.scan.Goals as goal

pub returns-clause-ok : goal.returns-clause-ok
returns-clause-ok c =
    let seen = lists_seen c.args.lists.now in
    let all = all_raws c.args.format seen in
    let first = stands_first c.in_ok-walk.walk all c.in_ok-walk.ensures.empty c.in_ok-walk.ensures.faultless c.in_ok-walk.ensures.first in
    let then = c.in_ok-scan_list.ensures.goes_on (race_raws c.args.format seen.race) all first in
    over_at_end c.scan_others.new.walk all (c.in_ok-scan_others.ensures.goes_on all then)
