-- A start that was refused for want of a slot searched the wheel of the world.

use Rattle.std.proofs.Common.{◌≡◌, ℕ, ◌<◌, Result, Err, slice_index_or}
use Rattle.std.specs.Prelude.{slice_set}
use Rattle.ert_defs.specs.declared.{settings.Settings.Settings, timer.Start.Start, timer.TimerRef.TimerRef}
use Rattle.ert_effects.specs.{TimerCalls.Starts, declared.answers.StartErr.StartErr, declared.answers.StartErr.TheVariants.NoMemory}
use Rattle.ert_table.specs.{Calls.IsMade, Desks.{settings_of, view_of, front_of, Belongs}, declared.desk.Desk.Desk, declared.desk.Pass.Pass}
use Rattle.ert_timers.proofs.{LawsHold.starts_only, Searching.searches_probe}
use Rattle.ert_timers.specs.{Parts.{Part, PartStands as WheelStands}, Passed.GainsOne, Searching.Searches}
use Rattle.ert_world.proofs.{Calls.{has_at, parts_in, seen_at}, Replaced.replaced_by, WheelCalls.{wheel_stepped, starts_calm, started_hold}}
use Rattle.ert_world.specs.{Worlds.{AreSound, By, Goes, Seen, seen}, declared.world.World.TheInside.Inside}

pub searched_at : (before : Seen) (b : Inside) (d e : Desk) (q : Pass) (i : ℕ) (start : Start) (answer : Result TimerRef StartErr) (old new : Part)
    → d ≡ e → seen_at e b ≡ before → AreSound e b.pass b.next (parts_in b) → Belongs d q → i < before.settings.schedulers
    → old ≡ slice_index_or b.wheels.items i old → new.number ≡ old.number → WheelStands (settings_of d) (front_of q) new
    → IsMade (settings_of d) (view_of b.pass) (Starts (settings_of d) 0 old.number start answer) (view_of q) → GainsOne old new answer
    → (old.arms < 9007199254740992 → IsMade (settings_of d) (view_of b.pass) (Searches (settings_of d) 0 old new) (view_of q))
    → (x : Part) → (slice_index_or before.wheels i x).arms < 9007199254740992
    → Goes before (By before (λ g. Searches g 0 (slice_index_or before.wheels i x) (slice_index_or (slice_set b.wheels.items i new) i x)))
    (seen e q b.next (parts_in b).keeper (slice_set b.wheels.items i new) (parts_in b).turns)
searched_at before b d e q i start answer old new same is fit belongs low lent named stands made gains searched =
    let g : Settings = settings_of d in
    replaced_by (λ (p r : Part). p.arms < 9007199254740992
    → Goes before (By before (λ h. Searches h 0 p r)) (seen e q b.next (parts_in b).keeper (slice_set b.wheels.items i new) (parts_in b).turns))
    before b d i old new (has_at same is fit) low lent
    (λ few. (wheel_stepped before b d e q i old new (λ n h. Searches h 0 old new) same is fit belongs low lent named stands (searched few)
    (λ s es does. starts_only g 0 old.number start (Err NoMemory) s es (searches_probe g 0 old new start s es does))
    (λ s es does. starts_calm g 0 old.number start (Err NoMemory) s es (searches_probe g 0 old new start s es does))
    (started_hold b d q old.number start answer old new (has_at same is fit) made gains)).goes)
