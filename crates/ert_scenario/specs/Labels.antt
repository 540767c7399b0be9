-- The labels of starts: a start may not have the label of an earlier one.

use Rattle.std.specs.Prelude.{◌≡◌, ◌<◌, ◌+◌, ℕ, List, [], ◌∷◌, length, Bool, true, false, not, ◌&&◌, ◌||◌, nat_eq, slice_index_or, slice_set, Option, Some, None, Ok, Err, if◌then◌else◌}
use Rattle.ert_defs.specs.declared.settings.Settings.{Settings}
use Rattle.ert_ops.specs.declared.op.Op.{Op, TheVariants.{Start, SendAfter}}
use Rattle.ert_scenario.specs.{Kinds.{FoundOrFault, if_in_range}, Ranges.is_op}

-- the label of an op that starts a timer
unfoldable pub started_label : Op → Option ℕ
started_label (Start label wheel when dest msg) = Some label
started_label (SendAfter label wheel when dest msg) = Some label
started_label _ = None

-- whether it is one of the labels
abbrev pub has : List ℕ → ℕ → Bool
has [] label = false
has (one ∷ others) label = nat_eq label one || has others label

-- whether a start with this label is a new one; other ops have no label
abbrev pub is_new : List ℕ → Option ℕ → Bool
is_new labels None = true
is_new labels (Some label) = not (has labels label)

-- the labels, with that of a start
abbrev pub with_label : List ℕ → Option ℕ → List ℕ
with_label labels None = labels
with_label labels (Some label) = label ∷ labels

-- the ops one after another, where starts at earlier places have these labels: an op whose arguments are
-- out of range, or a start whose label is not new, is a range fault
abbrev pub tested : Settings → List ℕ → List (FoundOrFault Op) → List (FoundOrFault Op)
tested g labels [] = []
tested g labels (Ok op ∷ rest) = if_in_range (is_op g op && is_new labels (started_label op)) op ∷ tested g (with_label labels (started_label op)) rest
tested g labels (Err fault ∷ rest) = Err fault ∷ tested g labels rest

-- ---- labels by a flag for each

-- so many flags, none of them set
pub record AreUnset (count : ℕ) (taken : List Bool) : Type 0 where
  pub many : length taken ≡ count
  pub free : (label : ℕ) → label < count → slice_index_or taken label true ≡ false

-- whether a start's label is free
abbrev pub is_free : List Bool → Option ℕ → Bool
is_free taken None = true
is_free taken (Some label) = not (slice_index_or taken label true)

-- the flags, with that of a start's label set
abbrev pub with_flag : List Bool → Option ℕ → List Bool
with_flag taken None = taken
with_flag taken (Some label) = slice_set taken label true

-- the first op that is out of range or a start whose label isn't free, where the ops begin at place k
abbrev pub first_out : Settings → List Bool → ℕ → List Op → Option ℕ
first_out g taken k [] = None
first_out g taken k (op ∷ ops) =
    if is_op g op && is_free taken (started_label op) then first_out g (with_flag taken (started_label op)) (k + 1) ops else Some k
