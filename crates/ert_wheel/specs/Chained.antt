-- Nodes in rings. Each chain is a ring through its head, and runs from its greatest rank to its least.

use Rattle.std.specs.Prelude.{◌≡◌, ◌≢◌, ℕ, ◌<◌, ◌≤◌, Bool, true}

-- which nodes stand in a chain, and how: the slots are the numbers below `slots`, and heads come after them
pub record Shape : Type 0 where
  pub slots : ℕ
  -- slots that are held, and heads
  pub on : ℕ → Bool
  -- the number of a node's chain
  pub home : ℕ → ℕ
  -- a node's rank, looking on from it: a head is above all
  pub top : ℕ → ℕ
  -- one above a node's rank, coming to it: a head is below all
  pub low : ℕ → ℕ

-- the node after each is the slot of its chain with the next lower rank, and the head where there is none
pub record Chained (s : Shape) (after before : ℕ → ℕ) : Type 0 where
  pub after_on : (x : ℕ) → s.on x ≡ true → s.on (after x) ≡ true
  pub before_on : (x : ℕ) → s.on x ≡ true → s.on (before x) ≡ true
  pub after_before : (x : ℕ) → s.on x ≡ true → after (before x) ≡ x
  pub before_after : (x : ℕ) → s.on x ≡ true → before (after x) ≡ x
  pub home : (x : ℕ) → s.on x ≡ true → s.home (after x) ≡ s.home x
  pub down : (x : ℕ) → s.on x ≡ true → s.low (after x) ≤ s.top x
  pub least : (x j : ℕ) → s.on x ≡ true → j < s.slots → s.on j ≡ true → s.home j ≡ s.home x
      → s.top j < s.top x → s.top j < s.low (after x)

-- a function that is as another but at one place
pub record Changed {A : Type 0} (old new : ℕ → A) (place : ℕ) (value : A) : Type 0 where
  pub here : new place ≡ value
  pub there : (x : ℕ) → x ≢ place → new x ≡ old x

-- a slot is put in between a head and the node that was after it
pub record Spliced (after before after' before' : ℕ → ℕ) (head slot : ℕ) : Type 0 where
  pub slot_after : after' slot ≡ after head
  pub slot_before : before' slot ≡ head
  pub head_after : after' head ≡ slot
  pub next_before : before' (after head) ≡ slot
  pub others_after : (x : ℕ) → x ≢ slot → x ≢ head → after' x ≡ after x
  pub others_before : (x : ℕ) → x ≢ slot → x ≢ after head → before' x ≡ before x

-- a node is alone in its ring
pub record Alone (after before : ℕ → ℕ) (x : ℕ) : Type 0 where
  pub forth : after x ≡ x
  pub back : before x ≡ x

-- the two neighbours of a slot become neighbours, and it is left alone. Where it was alone nothing changes
pub record Unspliced (after before after' before' : ℕ → ℕ) (slot : ℕ) : Type 0 where
  pub slot_after : after' slot ≡ slot
  pub slot_before : before' slot ≡ slot
  pub prev_after : before slot ≢ slot → after' (before slot) ≡ after slot
  pub next_before : after slot ≢ slot → before' (after slot) ≡ before slot
  pub others_after : (x : ℕ) → x ≢ slot → x ≢ before slot → after' x ≡ after x
  pub others_before : (x : ℕ) → x ≢ slot → x ≢ after slot → before' x ≡ before x
