-- A look at all slots of a wheel cancels nothing, and changes no part.

use Rattle.std.proofs.Common.{◌≡◌, ℕ, zero, suc, ◌<◌, set, List, [], ◌∷◌, slice_index_or, inl, refl, sym, subst}
use Rattle.ert_effects.specs.{RoomCalls.{TellsRoom, ShowsRoom, no_room, with_found}, declared.answers.Room.Room}
use Rattle.ert_defs.specs.{States.{State, state}, declared.entry.Actor.TheVariants.{Wheel, Caller}, declared.entry.Entry.Entry, declared.settings.Settings.Settings}
use Rattle.ert_table.specs.{Calls.{AreOnlyOf, IsMade}, Desks.{settings_of, view_of, front_of, Belongs}, declared.desk.Desk.Desk, declared.desk.Pass.Pass}
use Rattle.ert_timers.specs.{Parts.{Part, PartStands as WheelStands}, Searching.HasOpenSlot}
use Rattle.ert_world.proofs.{Armed.AreCalm, Calls.{Does, Has, parts_in, seen_at}, WheelCalls.wheel_stepped}
use Rattle.ert_world.specs.{Frees.HasOpenSlotAt, Worlds.{Seen, AreSound, By}, declared.world.World.TheInside.Inside}

shows_calm : (by w now : ℕ) (s : State) (slot n : ℕ) (before room : Room) (es : List Entry) → ShowsRoom by w now s slot n before room es → AreCalm es
shows_calm by w now s slot zero before room es shows = subst AreCalm (sym shows.0) tt
shows_calm by w now s slot (suc n) before room es shows =
    subst AreCalm (sym shows.2) (refl, shows_calm by w now s (suc slot) n (with_found s now w slot shows.0 before) room shows.1 shows.3)

pub room_calm : (g : Settings) (by w : ℕ) (room : Room) (s : State) (es : List Entry) → TellsRoom g by w room s es → AreCalm es
room_calm g by w room s es tells = subst AreCalm (sym tells.entries) (refl, shows_calm by w _ s 0 g.slots no_room tells.seen tells.probes tells.shows)

-- a call on a wheel by caller 0 that changes nothing of its part but where its next looks begin
pub wheel_looked : (before : Seen) (b : Inside) (d e : Desk) (q : Pass) (i : ℕ) (part new : Part) (allows : ℕ → Settings → State → List Entry → Type 0)
    → d ≡ e → seen_at e b ≡ before → AreSound e b.pass b.next (parts_in b) → Belongs d q → i < before.settings.schedulers
    → part ≡ slice_index_or b.wheels.items i part → (n : ℕ) → new ≡ record part { next_look = n } → WheelStands (settings_of d) (front_of q) new
    → (made : IsMade (settings_of d) (view_of b.pass) (allows part.number (settings_of d)) (view_of q))
    → ((s : State) (es : List Entry) → allows part.number (settings_of d) s es → AreOnlyOf (Caller 0 ∷ (Wheel part.number ∷ [])) es)
    → ((s : State) (es : List Entry) → allows part.number (settings_of d) s es → AreCalm es)
    → Does before e q b.next (record (parts_in b) { wheels = set b.wheels.items i new }) (λ w. By w (allows i))
wheel_looked before b d e q i part new allows same is fit belongs low lent n unchanged stands made only calm =
    subst (λ x. Does before e q b.next (record (parts_in b) { wheels = set b.wheels.items i x }) (λ w. By w (allows i))) (sym unchanged)
    (wheel_stepped before b d e q i part (record part { next_look = n }) allows same is fit belongs low lent refl
    (subst (λ (x : Part). WheelStands (settings_of d) (front_of q) x) unchanged stands) made only calm (λ alone k key is. inl (is, refl)))

-- the slot of a wheel at which its looks begin is that of its part
pub open_at : (before : Seen) (b : Inside) (d : Desk) (i : ℕ) (part : Part) → Has before b d → part ≡ slice_index_or b.wheels.items i part → HasOpenSlotAt before i
    → HasOpenSlot (settings_of d) (state (settings_of d) (front_of b.pass)) part
open_at before b d i part has lent is =
    subst (λ (p : Part). HasOpenSlot (settings_of d) (state (settings_of d) (front_of b.pass)) p) (sym lent)
    (subst (λ (w : Seen). HasOpenSlot w.settings (state w.settings w.history) (slice_index_or w.wheels i part)) (sym has.is) (is part))
