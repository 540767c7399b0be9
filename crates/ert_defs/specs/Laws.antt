-- The laws of histories that don't concern the clock's numbers: what a stranger may expect of the model.

use Rattle.std.specs.Prelude.{◌≡◌, ◌≢◌, ◌⊎◌, ◌↔◌, ℕ, ◌+◌, ◌≤◌, Bool, true, false, cond, not, ◌&&◌, All, AllPairs, Contains, List, [], ◌∷◌, ◌++◌, Option, Some, None}
use Rattle.ert_defs.specs.{Actors.IsFreeOf, Legal.{Keeps, Known, Found, Can, LegalFrom, Legal}, States.{State, uses_at, opening, next, run, state}, Timers.{Row, Uses, IsNextUse, row_of, is_taken, timer_at}, declared.entry.Entry.Entry}
use Rattle.ert_defs.specs.{declared.entry.Event.TheVariants.{Deliver, Drop}, declared.settings.Settings.Settings, declared.timer.Status.Status, declared.timer.Status.TheVariants.{Armed, Expired, Delivered, Cancelled, Orphaned, Dropped}}
use Rattle.ert_defs.specs.{declared.timer.TimerRef.TimerRef}

-- each beginning of a legal history is legal
abbrev pub LawOfPrefixes : Type 0
LawOfPrefixes = (g : Settings) (f m : List Entry) → Legal g (f ++ m) → Legal g f

-- a history is legal exactly where its beginning is, and what follows is legal in the state after that
abbrev pub LawOfParts : Type 0
LawOfParts = (g : Settings) (f m : List Entry) → Legal g (f ++ m) ↔ (Legal g f × LegalFrom g (state g f) m)

-- a history is legal exactly where it is without its last entry, and that is legal in the state before it
abbrev pub LawOfOneMore : Type 0
LawOfOneMore = (g : Settings) (h : List Entry) (e : Entry) → Legal g (h ++ e ∷ []) ↔ (Legal g h × Can g (state g h) e)

-- the state after a history is that after its beginning, moved by what follows
abbrev pub LawOfStates : Type 0
LawOfStates = (g : Settings) (f m : List Entry) → state g (f ++ m) ≡ run g (state g f) m

-- locality: what an entry's maker knew after a history holds on while no other entry has the entry's
-- actors, so that the entry is legal at the end where its step finds out what it says
abbrev pub LawOfLocality : Type 0
LawOfLocality = (g : Settings) (f m : List Entry) (e : Entry) → Legal g (f ++ m) → IsFreeOf m e.by e.with
    → Keeps g e.by e.with e.event
    → Known g (state g f) e.by e.with e.event
    → Found g (state g (f ++ m)) e.by e.event
    → Legal g ((f ++ m) ++ e ∷ [])

-- what one entry may make of the status of a timer
abbrev pub MayBecome : Status → Option Status → Type 0
MayBecome Armed after =
    (after ≡ Some Armed) ⊎ (after ≡ Some Expired) ⊎ (after ≡ Some Cancelled) ⊎ (after ≡ Some Orphaned)
MayBecome Expired after = (after ≡ Some Expired) ⊎ (after ≡ Some Delivered) ⊎ (after ≡ Some Dropped)
MayBecome status after = after ≡ Some status

-- what one entry may make of the status of a reference, which may not have been armed yet
abbrev pub MayMove : Option Status → Option Status → Type 0
MayMove None after = (after ≡ None) ⊎ (after ≡ Some Armed)
MayMove (Some status) after = MayBecome status after

-- each entry of a legal history moves each status as it may
abbrev pub LawOfMoves : Type 0
LawOfMoves = (g : Settings) (h : List Entry) (e : Entry) (r : TimerRef) → Legal g (h ++ e ∷ [])
    → MayMove ((state g h).status r) ((state g (h ++ e ∷ [])).status r)

-- whether a timer is armed
abbrev pub is_armed : Option Status → Bool
is_armed (Some Armed) = true
is_armed _ = false

-- whether a timer was armed and is so no more
abbrev pub has_settled : Option Status → Bool
has_settled None = false
has_settled (Some Armed) = false
has_settled (Some _) = true

-- how many of these entries settle a timer: it is armed before and not after
abbrev pub settlings : Settings → TimerRef → State → List Entry → ℕ
settlings g r s [] = 0
settlings g r s (e ∷ es) =
    cond (is_armed (s.status r) && not (is_armed ((next g s e).status r))) 1 0 + settlings g r (next g s e) es

-- a timer settles at most once
abbrev pub LawOfSettling : Type 0
LawOfSettling = (g : Settings) (h : List Entry) (r : TimerRef) → Legal g h → settlings g r (opening g) h ≤ 1

-- a timer that has settled stays so
abbrev pub LawOfSettled : Type 0
LawOfSettled = (g : Settings) (f m : List Entry) (r : TimerRef) → Legal g (f ++ m)
    → has_settled ((state g f).status r) ≡ true
    → has_settled ((state g (f ++ m)).status r) ≡ true

-- a row that isn't armed never is again
abbrev pub LawOfRows : Type 0
LawOfRows = (g : Settings) (f m : List Entry) (w : ℕ) (row : Row) → Legal g (f ++ m)
    → Contains ((state g f).rows w) row
    → (state g f).status row.timer ≢ Some Armed
    → (state g (f ++ m)).status row.timer ≢ Some Armed

-- the generations of a slot with these uses, of which each has this status: 0 is none of them, the last was
-- armed, no other takes the slot, and the next one was never armed
pub record AreInOrder (status : ℕ → Option Status) (u : Uses) : Type 0 where
  pub none : status 0 ≡ None
  pub used : 1 ≤ u.last → status u.last ≢ None
  pub free : (n : ℕ) → n ≢ u.last → is_taken (status n) ≡ false
  pub new : (now wanted n : ℕ) → IsNextUse u now wanted n → status n ≡ None

-- the generations of each slot are used one after the other
abbrev pub LawOfSlots : Type 0
LawOfSlots = (g : Settings) (h : List Entry) (w k : ℕ) → Legal g h
    → AreInOrder (λ n. (state g h).status (timer_at w k n)) (uses_at (state g h) w k)

-- an expired timer that waits at a scheduler: a row of that scheduler's wheel, and the last timer of its slot
pub record IsExpired (s : State) (w : ℕ) (row : Row) : Type 0 where
  pub expired : s.status row.timer ≡ Some Expired
  pub wheel : row.timer.wheel ≡ w
  pub stands : row_of (s.rows w) row.timer ≡ Some row
  pub last : row.timer.generation ≡ s.last w row.timer.slot

-- these rows are expired timers that wait at a scheduler, and none stands there twice
pub record AreExpired (s : State) (w : ℕ) (expired : List Row) : Type 0 where
  pub each : All (IsExpired s w) expired
  pub once : AllPairs (λ a b. a.timer ≢ b.timer) expired

-- each row in a scheduler's list is an expired timer that waits there
abbrev pub LawOfExpired : Type 0
LawOfExpired = (g : Settings) (h : List Entry) (w : ℕ) → Legal g h → AreExpired (state g h) w ((state g h).scheds w).expired

-- a delivery takes a timer from expired to delivered, and never misses
abbrev pub LawOfDelivery : Type 0
LawOfDelivery = (g : Settings) (h : List Entry) (e : Entry) (r : TimerRef) → Legal g (h ++ e ∷ []) → e.event ≡ Deliver r
    → ((state g h).status r ≡ Some Expired) × ((state g (h ++ e ∷ [])).status r ≡ Some Delivered)

-- a drop takes a timer from expired to dropped, and never misses
abbrev pub LawOfDrop : Type 0
LawOfDrop = (g : Settings) (h : List Entry) (e : Entry) (r : TimerRef) → Legal g (h ++ e ∷ []) → e.event ≡ Drop r
    → ((state g h).status r ≡ Some Expired) × ((state g (h ++ e ∷ [])).status r ≡ Some Dropped)
