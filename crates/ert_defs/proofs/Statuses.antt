-- The status of a timer moves forward by itself, whatever the event, unless the event arms it.

use Rattle.std.proofs.Common.{◌≡◌, ◌≢◌, inl, inr, Bool, true, false, cond, ◌&&◌, List, [], ◌∷◌, Option, Some, None, refl}
use Rattle.ert_defs.specs.{Actors.{has_actor, IsFree}, Laws.{MayBecome, MayMove}, States.{State, next, run}, Timers.{same_timer, settled_as, handed_as, status_after, is_taken}, declared.entry.Actor.TheVariants.Wheel}
use Rattle.ert_defs.specs.{declared.entry.Entry.Entry, declared.entry.Event.Event, declared.entry.Event.TheVariants.{Arm, Cancel, Expire, Orphan, Deliver, Drop}, declared.settings.Settings.Settings, declared.timer.Status.Status}
use Rattle.ert_defs.specs.{declared.timer.Status.TheVariants.{Armed, Expired, Delivered, Cancelled, Orphaned, Dropped}, declared.timer.TimerRef.TimerRef}
use Rattle.ert_defs.proofs.Runs.{free_first, free_rest}

-- what an event that doesn't arm a reference may make of its status
abbrev pub Forward : Option Status → Option Status → Type 0
Forward None after = after ≡ None
Forward (Some status) after = MayBecome status after

-- whether an event arms a reference, if it is made with the wheel of that
abbrev pub arms : Event → TimerRef → Bool
arms (Arm timer start) r = same_timer timer r
arms _ r = false

pub forward_self : (x : Option Status) → Forward x x
forward_self None = refl
forward_self (Some Armed) = inl refl
forward_self (Some Expired) = inl refl
forward_self (Some Delivered) = refl
forward_self (Some Cancelled) = refl
forward_self (Some Orphaned) = refl
forward_self (Some Dropped) = refl

pub forward_settled : (to : Status) → MayBecome Armed (Some to) → (x : Option Status) → Forward x (settled_as to x)
forward_settled to may None = refl
forward_settled to may (Some Armed) = may
forward_settled to may (Some Expired) = inl refl
forward_settled to may (Some Delivered) = refl
forward_settled to may (Some Cancelled) = refl
forward_settled to may (Some Orphaned) = refl
forward_settled to may (Some Dropped) = refl

pub forward_handed : (to : Status) → MayBecome Expired (Some to) → (x : Option Status) → Forward x (handed_as to x)
forward_handed to may None = refl
forward_handed to may (Some Armed) = inl refl
forward_handed to may (Some Expired) = may
forward_handed to may (Some Delivered) = refl
forward_handed to may (Some Cancelled) = refl
forward_handed to may (Some Orphaned) = refl
forward_handed to may (Some Dropped) = refl

forward_cond : (b : Bool) (x y : Option Status) → Forward x y → Forward x (cond b y x)
forward_cond true x y h = h
forward_cond false x y h = forward_self x

-- an event that doesn't arm a reference moves its status forward
pub forward_after : (r : TimerRef) (has_wheel : Bool) (x : Option Status) (event : Event)
    → (has_wheel && arms event r) ≡ false → Forward x (status_after r has_wheel x event)
forward_after r b x (Arm timer start) h = rw h (forward_self x)
forward_after r b x (Cancel timer left) h =
    forward_cond (same_timer timer r) x (settled_as Cancelled x) (forward_settled Cancelled (inr (inr (inl refl))) x)
forward_after r b x (Expire timer) h =
    forward_cond (same_timer timer r) x (settled_as Expired x) (forward_settled Expired (inr (inl refl)) x)
forward_after r b x (Orphan timer) h =
    forward_cond (same_timer timer r) x (settled_as Orphaned x) (forward_settled Orphaned (inr (inr (inr refl))) x)
forward_after r b x (Deliver timer) h =
    forward_cond (same_timer timer r) x (handed_as Delivered x) (forward_handed Delivered (inr (inl refl)) x)
forward_after r b x (Drop timer) h =
    forward_cond (same_timer timer r) x (handed_as Dropped x) (forward_handed Dropped (inr (inr refl)) x)
forward_after r b x _ h = forward_self x

pub forward_not_armed : (x y : Option Status) → Forward x y → x ≢ Some Armed → y ≢ Some Armed
forward_not_armed None y h not = λ is. cc
forward_not_armed (Some Armed) y h not = absurd (not refl)
forward_not_armed (Some Expired) y h not =
    λ is. elim h [ inl a ↦ cc | inr b ↦ elim b [ inl c ↦ cc | inr d ↦ cc ] ]
forward_not_armed (Some Delivered) y h not = λ is. cc
forward_not_armed (Some Cancelled) y h not = λ is. cc
forward_not_armed (Some Orphaned) y h not = λ is. cc
forward_not_armed (Some Dropped) y h not = λ is. cc

pub forward_free : (x y : Option Status) → Forward x y → is_taken x ≡ false → is_taken y ≡ false
forward_free None y h free = rw h refl
forward_free (Some Armed) y h free = absurd cc
forward_free (Some Expired) y h free = absurd cc
forward_free (Some Delivered) y h free = rw h refl
forward_free (Some Cancelled) y h free = rw h refl
forward_free (Some Orphaned) y h free = rw h refl
forward_free (Some Dropped) y h free = rw h refl

pub forward_not_none : (x y : Option Status) → Forward x y → x ≢ None → y ≢ None
forward_not_none None y h not = absurd (not refl)
forward_not_none (Some Armed) y h not =
    λ is. elim h [ inl a ↦ cc | inr b ↦ elim b [ inl c ↦ cc | inr d ↦ elim d [ inl i ↦ cc | inr j ↦ cc ] ] ]
forward_not_none (Some Expired) y h not =
    λ is. elim h [ inl a ↦ cc | inr b ↦ elim b [ inl c ↦ cc | inr d ↦ cc ] ]
forward_not_none (Some Delivered) y h not = λ is. cc
forward_not_none (Some Cancelled) y h not = λ is. cc
forward_not_none (Some Orphaned) y h not = λ is. cc
forward_not_none (Some Dropped) y h not = λ is. cc

pub forward_may : (x y : Option Status) → Forward x y → MayMove x y
forward_may None y h = inl h
forward_may (Some status) y h = h

-- what a status keeps on its way forward, the status of a reference keeps while nobody has its wheel
pub forward_stays : (P : Option Status → Type 0) → ((x y : Option Status) → Forward x y → P x → P y)
    → (g : Settings) (r : TimerRef) (s : State) (m : List Entry) → IsFree m (Wheel r.wheel) → P (s.status r)
    → P ((run g s m).status r)
forward_stays P step g r s [] free h = h
forward_stays P step g r s (e ∷ m) free h =
    let none : has_actor e (Wheel r.wheel) ≡ false = free_first (Wheel r.wheel) e m free in
    let moved : Forward (s.status r) ((next g s e).status r) = forward_after r (has_actor e (Wheel r.wheel)) (s.status r) e.event (rw none refl) in
    forward_stays P step g r (next g s e) m (free_rest (Wheel r.wheel) e m free) (step (s.status r) ((next g s e).status r) moved h)

-- a timer that isn't armed stays so while nobody has its wheel
pub not_armed_stays : (g : Settings) (r : TimerRef) (s : State) (m : List Entry) → IsFree m (Wheel r.wheel)
    → s.status r ≢ Some Armed → (run g s m).status r ≢ Some Armed
not_armed_stays = forward_stays (λ x. x ≢ Some Armed) forward_not_armed

-- a timer that takes no slot stays so while nobody has its wheel
pub free_stays : (g : Settings) (r : TimerRef) (s : State) (m : List Entry) → IsFree m (Wheel r.wheel)
    → is_taken (s.status r) ≡ false → is_taken ((run g s m).status r) ≡ false
free_stays = forward_stays (λ x. is_taken x ≡ false) forward_free
