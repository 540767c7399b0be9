-- The links of nodes in rings, as functions of the node.

use Rattle.std.specs.Prelude.{ℕ, ◌+◌, ◌-◌, ◌<◌, ◌≤◌, ◌^◌, List, Option, Some, None, map, nat_lt, length, slice_index_or, if◌then◌else◌}
use Rattle.std.specs.List.{range_with_len}
use Rattle.ert_wheel.specs.declared.links.Link.{Link}

-- the link of a node that is alone in its ring
abbrev pub lone_link : ℕ → Link
lone_link node = record { next = node; prev = node }

-- what is read past the end
abbrev pub no_link : Link
no_link = record { next = 0; prev = 0 }

-- the link at a node
abbrev pub link_at : List Link → ℕ → Link
link_at links node = slice_index_or links node no_link

-- the node after a node
abbrev pub next_at : List Link → ℕ → ℕ
next_at links node = (link_at links node).next

-- the node before a node
abbrev pub prev_at : List Link → ℕ → ℕ
prev_at links node = (link_at links node).prev

-- the link at a node, which is alone where it isn't written
abbrev pub node_link : List Link → ℕ → Link
node_link links node = slice_index_or links node (lone_link node)

-- where a node is stored: the heads of the homes come first, and the slots behind them
abbrev pub stored_at : ℕ → ℕ → ℕ → ℕ
stored_at slots homes node = if nat_lt node slots then homes + node else node - slots

-- and which node is stored at a place
abbrev pub stored_node : ℕ → ℕ → ℕ → ℕ
stored_node slots homes place = if nat_lt place homes then slots + place else place - homes

-- the slot that is stored at a place, and none of a head
abbrev pub place_slot : ℕ → ℕ → Option ℕ
place_slot homes place = if nat_lt place homes then None else Some (place - homes)

-- the link of a node, by the links as they are stored
abbrev pub seen_link : ℕ → ℕ → List Link → ℕ → Link
seen_link slots homes stored node = record {
  next = stored_node slots homes (node_link stored (stored_at slots homes node)).next;
  prev = stored_node slots homes (node_link stored (stored_at slots homes node)).prev;
}

-- the links of all slots, and then those of the heads
abbrev pub seen_links : ℕ → ℕ → List Link → List Link
seen_links slots homes stored = map (seen_link slots homes stored) (range_with_len 0 (slots + homes))

-- the links of the heads are stored and maybe those of slots, there is room for all, and each leads to one that is stored
pub record AreWritten (slots homes : ℕ) (stored : List Link) (capacity : ℕ) : Type 0 where
  pub few : slots ≤ 2 ^ 30
  pub few_homes : homes ≤ 2 ^ 30
  pub heads : homes ≤ length stored
  pub most : length stored ≤ slots + homes
  pub room : slots + homes ≤ capacity
  pub next : (place : ℕ) → place < length stored → next_at stored place < length stored
  pub prev : (place : ℕ) → place < length stored → prev_at stored place < length stored
