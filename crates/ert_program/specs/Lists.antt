-- What came of lists, as the outcome of a race has it.

use Rattle.std.specs.Prelude.{List, map}
use Rattle.ert_program.specs.{Reports.Did, declared.races.list.ListDone.ListDone}

-- what came of one list: its replies, and the labels that it bound
abbrev pub did_of : ListDone → Did
did_of d = record { replies = d.replies.items; own = d.own }

-- what came of each list
abbrev pub dids_of : List ListDone → List Did
dids_of lists = map did_of lists
