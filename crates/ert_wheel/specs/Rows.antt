-- A wheel as its user sees it: the key of each slot that has a row and where it stands, and the chains of the owners.

use Rattle.std.specs.Prelude.{ℕ, Bool, ◌||◌, ◌&&◌, List, Option, Some, None, cond, map, nat_lt, nat_le, nat_eq, count_by, slice_index_or}
use Rattle.ert_wheel.specs.{Rings.Rings, declared.row.Key.Key, declared.row.HeldRow.HeldRow, declared.row.Row.Row}

-- what a wheel holds: by slot the key of its row and the bucket in which it stands, for each owner a chain of slots, a value of
-- each slot that is written, and the first time that wasn't passed
pub record Held (T : Type 0) : Type 0 where
  pub keys : List (Option Key)
  pub stands : List (Option ℕ)
  pub owners : Rings
  pub values : List T
  pub passed : ℕ

-- the key of a slot; None where it has no row
abbrev pub key_in : List (Option Key) → ℕ → Option Key
key_in keys slot = slice_index_or keys slot None

-- a row without its slot
abbrev pub key_of : Row → Key
key_of row = record { deadline = row.deadline; order = row.order }

-- the row of a slot by its key
abbrev pub row_at : ℕ → Key → Row
row_at slot key = record { deadline = key.deadline; order = key.order; slot = slot }

-- the order of a key, and 0 of none
abbrev pub order_of_key : Option Key → ℕ
order_of_key None = 0
order_of_key (Some key) = key.order

-- the row that is told, with its order by the keys
abbrev pub row_told : List (Option Key) → HeldRow → Row
row_told keys told = record { deadline = told.deadline; order = order_of_key (key_in keys told.slot); slot = told.slot }

-- the rows that are told, with their orders
abbrev pub rows_told : List (Option Key) → List HeldRow → List Row
rows_told keys told = map (row_told keys) told

-- how the row of a slot is told by its key
abbrev pub told_at : ℕ → Key → HeldRow
told_at slot key = record { deadline = key.deadline; slot = slot }

-- how often a slot stands in a list of rows
abbrev pub times : ℕ → List Row → ℕ
times slot rows = count_by (λ row. nat_eq row.slot slot) rows

-- 1 where there is a key that passes, and else 0
abbrev pub passing : (Key → Bool) → Option Key → ℕ
passing test None = 0
passing test (Some key) = cond (test key) 1 0

-- how often a slot is due: once where it has a row with a deadline at most `to`, and else not at all
abbrev pub due_count : ℕ → Option Key → ℕ
due_count to = passing (λ key. nat_le key.deadline to)

-- what a slot has left when its due row is taken out
abbrev pub left_at : ℕ → Option Key → Option Key
left_at to None = None
left_at to (Some key) = cond (nat_le key.deadline to) None (Some key)

-- rows come by their deadlines, and those of one deadline by their orders
abbrev pub comes_before : Row → Row → Bool
comes_before x y =
    nat_lt x.deadline y.deadline || (nat_eq x.deadline y.deadline && nat_lt x.order y.order)
