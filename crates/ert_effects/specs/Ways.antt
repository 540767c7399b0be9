-- Ways: how the entries of a locked step come about, by one thread or beside others; and calls of several
-- steps.

use Rattle.std.specs.Prelude.{◌≡◌, List, [], ◌∷◌, ◌++◌, filter}
use Rattle.ert_defs.specs.{Entries.is_ours, States.{State, state}, declared.entry.Actor.Actor, declared.entry.Entry.Entry, declared.settings.Settings.Settings}

-- what entries a step may make in a state
abbrev pub Step : Type 1
Step = State → List Entry → Type 0

-- what piece may come after a history. A call of several locked steps is stated once, over a way, so that one
-- text serves one thread and many
abbrev pub Growth : Type 1
Growth = List Entry → List Entry → Type 0

-- how a step comes about that is made with these parts held (a locked step): how its entries lie in the piece
-- by which the history grows. In a service each takes a lock, and others may step before it and at the same
-- time; in a world nobody does
abbrev pub Way : Type 1
Way = List Actor → Step → Growth

-- by one thread: the piece is the step's entries
abbrev pub alone : Settings → Way
alone g parts allows h m = allows (state g h) m

-- beside others, by an actor: it has no entry in the piece before it gets the parts, and from then on those
-- with one of them, or with a part, are the step's entries, which are allowed in the state at that place
pub record Whole (g : Settings) (a : Actor) (parts : List Actor) (allows : Step) (h m : List Entry) : Type 0 where
  pub before : List Entry
  pub during : List Entry
  pub entries : List Entry
  pub parted : m ≡ before ++ during
  pub away : filter (is_ours (a ∷ [])) before ≡ []
  pub whole : filter (is_ours (parts ++ a ∷ [])) during ≡ entries
  pub own : filter (is_ours (a ∷ [])) entries ≡ entries
  pub allowed : allows (state g (h ++ before)) entries

-- the way of an actor beside others
abbrev pub beside : Settings → Actor → Way
beside g a parts allows h m = Whole g a parts allows h m

-- two calls, one after the other
pub record Then (first second : Growth) (h m : List Entry) : Type 0 where
  pub before : List Entry
  pub after : List Entry
  pub joined : m ≡ before ++ after
  pub one : first h before
  pub other : second (h ++ before) after

-- calls of one kind with these answers, one after the other
abbrev pub Many : {A : Type 0} → (A → Growth) → List A → Growth
Many call [] h m = m ≡ []
Many call (answer ∷ answers) h m = Then (call answer) (Many call answers) h m

-- a history has grown by a call
pub record Grows (call : Growth) (f h : List Entry) : Type 0 where
  pub piece : List Entry
  pub grown : h ≡ f ++ piece
  pub made : call f piece
