use Rattle.ert_laws.proofs.RowRanges.{rows_placed, expired_placed, first_placed}
use Rattle.ert_laws.proofs.ranges.rows_are_in_range.Goals as goal

pub returns-clause-rows : goal.returns-clause-rows
returns-clause-rows c = rows_placed

pub returns-clause-expired : goal.returns-clause-expired
returns-clause-expired c = expired_placed

pub returns-clause-first : goal.returns-clause-first
returns-clause-first c = first_placed
