-- What an entry's maker knows holds on while no other entry has the entry's actors.

use Rattle.std.proofs.Common.{◌≡◌, ℕ, ℤ, pos, ◌<◌, ◌≤ℤ◌, nat_le, nat_lt, ◌∙◌, Bool, true, false, List, [], ◌∷◌, ◌++◌, length, All, Option, Some, None, subst}
use Rattle.std.proofs.lemmas.List.Elements.{All-head, All-tail, All-weaker}
use Rattle.ert_defs.specs.{Actors.{IsFree, IsFreeOf}, Clocks.{Clock, face}, Laws.LawOfLocality, Legal.{AllSettled, CanArm, CanTick, IsFirst, IsNext, IsResult, Keeps, Known, Legal, names_timer, stands_in}, Mails.{MailState, SchedState}}
use Rattle.ert_defs.specs.{Mails.first_of, Milliseconds.{natural, down, deadline_of}, States.{State, uses_at, opening, run, state}, Timers.{Row, IsNextUse, row_of, is_taken, timer_at}, declared.entry.Actor.Actor}
use Rattle.ert_defs.specs.{declared.entry.Actor.TheVariants.{Keeper, Wheel, Inbox, Sched, MailOf}, declared.entry.Entry.Entry, declared.entry.Event.Event, declared.entry.Event.TheVariants.{Tick, Shift, Arm, Expire, Orphan, Deliver, Drop}}
use Rattle.ert_defs.specs.{declared.entry.Event.TheVariants.{Advanced, Pick, Answer, Take, Unwatch, Watch}, declared.mail.Request.Request, declared.settings.Settings.Settings, declared.timer.TimerRef.TimerRef}
use Rattle.ert_defs.proofs.{Lists.{all_front, all_back}, Rows.{IsRow, rows_hold}, Runs.{carry, state-append, legal_first, legal_more, clock_stays, exit_stays, inbox_stays, last_stays, uses_stay, look_stays, mail_stays, rows_stay}}
use Rattle.ert_defs.proofs.{Runs.sched_stays, Statuses.{not_armed_stays, free_stays}}

pub free_by : (m : List Entry) (by : Actor) (with : Option Actor) → IsFreeOf m by with → IsFree m by
free_by m by None free = free
free_by m by (Some a) free = free.0

pub free_with : (m : List Entry) (by : Actor) (with : Option Actor) (a : Actor) → IsFreeOf m by with → with ≡ Some a → IsFree m a
free_with m by None a free is = absurd cc
free_with m by (Some b) a free is =
    let same : b ≡ a = cc in subst (IsFree m) same free.1

pub free_as : (m : List Entry) (by : Actor) (with : Option Actor) (a : Actor) → IsFreeOf m by with → by ≡ a → IsFree m a
free_as m by with a free is = subst (IsFree m) is (free_by m by with free)

-- all rows of a state are of the wheel that has them
abbrev pub AreOfWheels : State → Type 0
AreOfWheels s = (w : ℕ) → All (λ r. r.timer.wheel ≡ w) (s.rows w)

pub rows_of_wheels : (g : Settings) (h : List Entry) → Legal g h → AreOfWheels (state g h)
rows_of_wheels g h legal w =
    All-weaker (IsRow w (uses_at (state g h) w)) (λ r. r.timer.wheel ≡ w) (λ r is. is.wheel) ((state g h).rows w) (rows_hold g h w legal).each

-- rows that aren't armed stay so
settled_stay : (g : Settings) (w : ℕ) (test : ℕ → Bool) (rows : List Row) (s : State) (m : List Entry) → IsFree m (Wheel w)
    → All (λ r. r.timer.wheel ≡ w) rows → AllSettled s.status test rows → AllSettled (run g s m).status test rows
settled_stay g w test [] s m free of_wheel h = tt
settled_stay g w test (r ∷ rows) s m free of_wheel h =
    let free' : IsFree m (Wheel r.timer.wheel) = carry (λ n. IsFree m (Wheel n)) (All-head (λ (r : Row). r.timer.wheel ≡ w) r rows of_wheel) free in (
      λ passes. not_armed_stays g r.timer s m free' (h.0 passes),
      settled_stay g w test rows s m free (All-tail (λ (r : Row). r.timer.wheel ≡ w) r rows of_wheel) h.1,
    )

arm_stays : (g : Settings) (s : State) (m : List Entry) (by : Actor) (timer : TimerRef) (deadline : ℤ → Option ℕ)
    → IsFree m by → IsFree m (Wheel timer.wheel)
    → CanArm g s by timer (deadline (s.looked by)) → CanArm g (run g s m) by timer (deadline ((run g s m).looked by))
arm_stays g s m by timer deadline free own h =
    let w : ℕ = timer.wheel in
    let k : ℕ = timer.slot in
    let last = last_stays g w k s m own in
    record {
      free = carry (λ n. is_taken ((run g s m).status (timer_at w k n)) ≡ false) last
          (free_stays g (timer_at w k (s.last w k)) s m own h.free);
      wanted = h.wanted;
      due = carry (λ look. deadline look ≡ Some h.wanted) (look_stays g by s m free) h.due;
      next_use = carry (λ u. IsNextUse u (natural (down g ((run g s m).looked by))) h.wanted timer.generation) (uses_stay g w k s m own)
          (carry (λ look. IsNextUse (uses_at s w k) (natural (down g look)) h.wanted timer.generation) (look_stays g by s m free) h.next_use);
      few = carry (λ rows. length rows < 9007199254740992) (rows_stay g w s m own) h.few;
    }

next_stays : (g : Settings) (s : State) (m : List Entry) (by : Actor) (timer : TimerRef) → AreOfWheels s
    → IsFree m by → IsFree m (Wheel timer.wheel) → IsNext g s by timer → IsNext g (run g s m) by timer
next_stays g s m by timer wheels free own h =
    let of_wheel : All (λ r. r.timer.wheel ≡ timer.wheel) (h.before ++ (h.row ∷ h.behind)) =
    subst (All (λ (r : Row). r.timer.wheel ≡ timer.wheel)) h.stands (wheels timer.wheel) in
    let behind = all_back (λ (r : Row). r.timer.wheel ≡ timer.wheel) h.before (h.row ∷ h.behind) of_wheel in
    record {
      before = h.before;
      row = h.row;
      behind = h.behind;
      stands = rows_stay g timer.wheel s m own ∙ h.stands;
      named = h.named;
      due = carry (λ look. pos h.row.deadline ≤ℤ down g look) (look_stays g by s m free) h.due;
      first_before = settled_stay g timer.wheel (λ d. nat_le d h.row.deadline) h.before s m own
          (all_front (λ (r : Row). r.timer.wheel ≡ timer.wheel) h.before (h.row ∷ h.behind) of_wheel) h.first_before;
      first_behind = settled_stay g timer.wheel (λ d. nat_lt d h.row.deadline) h.behind s m own
          (All-tail (λ (r : Row). r.timer.wheel ≡ timer.wheel) h.row h.behind behind) h.first_behind;
    }

-- what the maker of an entry knows stays while no other entry has its actors
pub known_stays : (g : Settings) (s : State) (m : List Entry) (by : Actor) (with : Option Actor) (event : Event) → AreOfWheels s
    → IsFreeOf m by with → Keeps g by with event → Known g s by with event → Known g (run g s m) by with event
known_stays g s m by with (Tick reading act now) wheels free keeps h =
    carry (λ (c : Clock). (c.due ≡ None) × CanTick g (face g c) reading act now)
    (clock_stays g s m (free_as m by with Keeper free keeps.0)) h
known_stays g s m by with (Shift offset state) wheels free keeps h =
    carry (λ (c : Clock). c.due ≡ Some (offset, state)) (clock_stays g s m (free_as m by with Keeper free keeps.0)) h
known_stays g s m by with (Arm timer start) wheels free keeps h =
    arm_stays g s m by timer (deadline_of g start) (free_by m by with free) (free_with m by with (Wheel timer.wheel) free keeps.1) h
known_stays g s m by with (Expire timer) wheels free keeps h =
    next_stays g s m by timer wheels (free_by m by with free) (free_with m by with (Wheel timer.wheel) free keeps.1) h
known_stays g s m by with (Orphan timer) wheels free keeps h = record {
  row = h.row;
  stands = carry (λ rows. row_of rows timer ≡ Some h.row)
      (rows_stay g timer.wheel s m (free_with m by with (Wheel timer.wheel) free keeps.1)) h.stands;
  exited = exit_stays g h.row.dest s m h.exited;
}
known_stays g s m by with (Deliver timer) wheels free keeps h =
    carry (λ (x : SchedState). (first : IsFirst x.expired timer) × (with ≡ Some (MailOf first.row.dest)))
    (sched_stays g timer.wheel s m (free_as m by with (Sched timer.wheel) free keeps.0)) h
known_stays g s m by with (Drop timer) wheels free keeps h =
    carry (λ (x : SchedState). (first : IsFirst x.expired timer) × ((run g s m).exited first.row.dest ≡ true))
    (sched_stays g timer.wheel s m (free_as m by with (Sched timer.wheel) free keeps.0))
    (h.0, exit_stays g h.0.row.dest s m h.1)
known_stays g s m by with (Advanced wheel to) wheels free keeps h =
    let own = free_with m by with (Wheel wheel) free keeps.1 in (
      carry (λ look. pos to ≡ down g look) (look_stays g by s m (free_by m by with free)) h.0,
      carry (λ rows. AllSettled (run g s m).status (λ d. nat_le d to) rows) (rows_stay g wheel s m own)
          (settled_stay g wheel (λ d. nat_le d to) (s.rows wheel) s m own (wheels wheel) h.1),
    )
known_stays g s m by with (Pick wheel got) wheels free keeps h = (
  carry (λ (x : SchedState). x.hand ≡ None) (sched_stays g wheel s m (free_as m by with (Sched wheel) free keeps.0)) h.0,
  carry (λ (x : List Request). got ≡ first_of x) (inbox_stays g wheel s m (free_with m by with (Inbox wheel) free keeps.1)) h.1,
)
known_stays g s m by with (Answer wheel left) wheels free keeps h =
    let same = sched_stays g wheel s m (free_as m by with (Sched wheel) free keeps.0) in
    record {
      request = h.request;
      hand = carry (λ (x : SchedState). x.hand ≡ Some h.request) same h.hand;
      asker = h.asker;
      result = carry (λ (x : SchedState). IsResult (names_timer g h.request.timer) x.result left) same h.result;
    }
known_stays g s m by with (Take process got) wheels free keeps h =
    carry (λ (x : MailState). got ≡ first_of x.queue) (mail_stays g process s m (free_with m by with (MailOf process) free keeps.1)) h
known_stays g s m by with (Unwatch process monitor was) wheels free keeps h =
    carry (λ (x : MailState). was ≡ stands_in monitor x.monitors)
    (mail_stays g process s m (free_with m by with (MailOf process) free keeps.1)) h
known_stays g s m by with (Watch process monitor offset) wheels free keeps h =
    carry (λ (x : MailState). (monitor ≡ x.next) × (length x.monitors < 64))
    (mail_stays g process s m (free_with m by with (MailOf process) free keeps.1)) h
known_stays g s m by with _ wheels free keeps h = tt

pub locality : LawOfLocality
locality g f m e legal free keeps known found =
    let wheels = rows_of_wheels g f (legal_first g (opening g) f m legal) in
    legal_more g (f ++ m) e legal (record {
      keeps = keeps;
      known = carry (λ s. Known g s e.by e.with e.event) (state-append g f m)
          (known_stays g (state g f) m e.by e.with e.event wheels free keeps known);
      found = found;
    })
