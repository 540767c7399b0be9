-- What the calls record by which the rows of settled timers go: `next_due`, and the one that lets go of all.

use Rattle.std.specs.Prelude.{◌≡◌, ◌≢◌, ◌⊎◌, ℕ, ◌+◌, ◌≤◌, cond, List, [], ◌∷◌, map, length, Option, Some}
use Rattle.ert_defs.specs.{Entries.probe_entry, Laws.is_armed, States.State, declared.entry.Actor.TheVariants.Sched, declared.entry.Entry.Entry, declared.settings.Settings.Settings, declared.timer.Status.Status}
use Rattle.ert_defs.specs.{declared.timer.Status.TheVariants.Armed}

-- a slot that was probed, and the status that its last timer was found in
pub record Probed : Type 0 where
  pub slot : ℕ
  pub found : Option Status

-- the entries of a scheduler that probes slots of its wheel
abbrev pub probed_entries : ℕ → List Probed → List Entry
probed_entries w probes = map (λ p. probe_entry (Sched w) w p.slot p.found) probes

-- each of these probes but the last found its timer settled
abbrev pub AreSettledButLast : List Probed → Type 0
AreSettledButLast [] = Unit {0}
AreSettledButLast (p ∷ []) = Unit {0}
AreSettledButLast (p ∷ (q ∷ probes)) = (p.found ≢ Some Armed) × AreSettledButLast (q ∷ probes)

-- `next_due`, of a scheduler: it probes slots of its wheel, 1,024 at most, until one is of a timer that is
-- armed; each but the last found its timer settled
pub record ProbesForNext (g : Settings) (w : ℕ) (s : State) (es : List Entry) : Type 0 where
  pub probes : List Probed
  pub few : length probes ≤ 1024
  pub settled : AreSettledButLast probes
  pub entries : es ≡ probed_entries w probes

-- the slots of these probes come in order, from one on, below another
abbrev pub ProbesInOrder : ℕ → List Probed → ℕ → Type 0
ProbesInOrder from [] to = from ≤ to
ProbesInOrder from (p ∷ probes) to = (from ≤ p.slot) × ProbesInOrder (p.slot + 1) probes to

-- how many of these probes found their timer settled
abbrev pub settled_of : List Probed → ℕ
settled_of [] = 0
settled_of (p ∷ probes) = cond (is_armed p.found) 0 1 + settled_of probes

-- one of these probes found the timer of a slot armed
abbrev pub FindsArmed : ℕ → List Probed → Type 0
FindsArmed slot [] = ⊥
FindsArmed slot (p ∷ probes) = ((p.slot ≡ slot) × (p.found ≡ Some Armed)) ⊎ FindsArmed slot probes

-- `drop_settled`, of a scheduler: it probes these slots of its wheel, each once, and answers how many timers it found settled
pub record DropsSettled (g : Settings) (w count : ℕ) (probes : List Probed) (s : State) (es : List Entry) : Type 0 where
  pub order : ProbesInOrder 0 probes g.slots
  pub settled : count ≡ settled_of probes
  pub entries : es ≡ probed_entries w probes
