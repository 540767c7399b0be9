-- What leaves an armed timer armed.

use Rattle.std.proofs.Common.{◌≡◌, Bool, true, false, cond, ◌&&◌, Option, Some, refl, ap}
use Rattle.ert_defs.specs.{Timers.{same_timer, status_after, handed_as}, declared.entry.Event.Event, declared.entry.Event.TheVariants.{Arm, Cancel, Expire, Orphan, Deliver, Drop}, declared.timer.Status.Status}
use Rattle.ert_defs.specs.{declared.timer.Status.TheVariants.{Armed, Delivered, Dropped}, declared.timer.TimerRef.TimerRef}

-- whether an event settles a timer
abbrev pub settles : Event → TimerRef → Bool
settles (Cancel timer left) r = same_timer timer r
settles (Expire timer) r = same_timer timer r
settles (Orphan timer) r = same_timer timer r
settles _ r = false

cond_both : {X : Type 0} (b : Bool) (x y z : X) → y ≡ z → x ≡ z → cond b y x ≡ z
cond_both true x y z h k = h
cond_both false x y z h k = k

-- else an armed timer stays armed
pub stays_armed : (r : TimerRef) (b : Bool) (x : Option Status) (event : Event) → settles event r ≡ false → x ≡ Some Armed
    → status_after r b x event ≡ Some Armed
stays_armed r b x (Arm timer start) unmet is = cond_both (b && same_timer timer r) x (Some Armed) (Some Armed) refl is
stays_armed r b x (Cancel timer left) unmet is = rw unmet is
stays_armed r b x (Expire timer) unmet is = rw unmet is
stays_armed r b x (Orphan timer) unmet is = rw unmet is
stays_armed r b x (Deliver timer) unmet is = cond_both (same_timer timer r) x (handed_as Delivered x) (Some Armed) (ap (handed_as Delivered) is) is
stays_armed r b x (Drop timer) unmet is = cond_both (same_timer timer r) x (handed_as Dropped x) (Some Armed) (ap (handed_as Dropped) is) is
stays_armed r b x _ unmet is = is
