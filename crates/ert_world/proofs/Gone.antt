-- What an entry of a call brought about holds after it, whatever others did since: a process has exited, a timer
-- isn't armed.

use Rattle.std.proofs.Common.{◌≡◌, ◌≢◌, ℕ, ◌<◌, Bool, true, false, not, ◌&&◌, ◌||◌, List, [], ◌∷◌, filter, slice_index_or, Option, Some, None, Ok, inl, inr, refl, sym, ap, subst, ◌∙◌, eq-eqb}
use Rattle.std.specs.Option.{is_some}
use Rattle.std.specs.Prelude.{nat_eq, nat_lt}
use Rattle.std.proofs.lemmas.Bool.{ltb-true}
use Rattle.ert_effects.specs.{RequestCalls.{DoesAsked, Answers}, TimerCalls.{Cancels, cancel_entries}, WheelCalls.MarksExit}
use Rattle.ert_defs.proofs.{ExpiredTimers.same_timer_self, Runs.{state-append, exit_stays, free_rest}}
use Rattle.ert_defs.specs.{Actors.IsFree, Entries.{is_ours, look_entry, mark_entry, answer_entry}, Legal.{is_generation, names_timer}, States.{State, next, run, state}, Timers.settled_as, declared.entry.Actor.Actor}
use Rattle.ert_defs.specs.{declared.entry.Actor.TheVariants.{Wheel, Sched, Caller}, declared.entry.Entry.Entry, declared.mail.Request.Request, declared.mail.RequestKind.RequestKind, declared.mail.RequestKind.TheVariants.Cancel as ToCancel}
use Rattle.ert_defs.specs.{declared.mail.RequestKind.TheVariants.Read as ToRead, declared.settings.Settings.Settings, declared.timer.Status.Status, declared.timer.Status.TheVariants.{Armed, Cancelled}, declared.timer.TimerRef.TimerRef}
use Rattle.ert_world.specs.{Worlds.{left_for, Seen}, declared.world.World.TheInside.Inside}
use Rattle.ert_table.specs.{Calls.{AreOnlyOf, IsMade}, Desks.{settings_of, view_of, front_of}, Held.is_held, Takes.TakesPlace, declared.desk.Desk.Desk, declared.desk.Pass.Pass, declared.view.View.View}
use Rattle.ert_timers.proofs.{Later.later_free, Settled.{HasOne, has_front, one_of, IsHit, hit_last}}
use Rattle.ert_timers.specs.{Freeing.IsLast, Parts.Part}
use Rattle.ert_world.proofs.{Calls.Has, Standing.free_kept, Sparing.{IsGone, IsSettledIn, IsLastIn}}

-- entries that such an entry makes true, and that all entries of a kind keep
module _ (g : Settings) (actors : List Actor) (P : State → Type 0) (D : Entry → Type 0) (F : List Entry → Type 0) where
  came_about : ((e : Entry) (m : List Entry) → F (e ∷ m) → F m) → ((s : State) (e : Entry) → D e → P (next g s e))
      → ((s : State) (m : List Entry) → F m → P s → P (run g s m)) → (s : State) (m : List Entry) → F m → HasOne D (filter (is_ours actors) m) → P (run g s m)
  came_about rest makes stays s [] free has = absurd has
  came_about rest makes stays s (e ∷ m) free has =
      one_of D actors e m (P (run g s (e ∷ m))) (λ made. stays (next g s e) m (rest e m free) (makes s e made))
      (λ more. came_about rest makes stays (next g s e) m (rest e m free) more) has

-- the state after a call is that before it, with all that its front gained
grown_state : (g : Settings) (v : View) (es : List Entry) (w : View) → (takes : TakesPlace g v es w) → state g w.front ≡ run g (state g v.front) takes.later
grown_state g v es w takes = ap (state g) takes.grown ∙ state-append g v.front takes.later

-- a process that has exited stays so
pub still_exited : (g : Settings) (v : View) (es : List Entry) (w : View) (process : ℕ) → TakesPlace g v es w → (state g v.front).exited process ≡ true
    → (state g w.front).exited process ≡ true
still_exited g v es w process takes exited =
    subst (λ (s : State). s.exited process ≡ true) (sym (grown_state g v es w takes)) (exit_stays g process (state g v.front) takes.later exited)

or_true : (x y : Bool) → y ≡ true → (x || y) ≡ true
or_true true y is = refl
or_true false y is = is

abbrev IsMark : ℕ → ℕ → Entry → Type 0
IsMark by process e = (was : Bool) × (e ≡ mark_entry (Caller by) process true was)

mark_exits : (g : Settings) (by process : ℕ) (s : State) (e : Entry) → IsMark by process e → (next g s e).exited process ≡ true
mark_exits g by process s e mark =
    let self : (nat_eq process process && true) ≡ true = rw (eq-eqb process process refl) refl in
    subst (λ x. (next g s x).exited process ≡ true) (sym mark.1) (or_true (s.exited process) (nat_eq process process && true) self)

-- a process that was marked has exited
pub marked : (g : Settings) (v w : View) (by process : ℕ) (answer : Bool) → IsMade g v (MarksExit g (Caller by) process answer) w
    → (state g w.front).exited process ≡ true
marked g v w by process answer made =
    let has : HasOne (IsMark by process) made.entries = subst (HasOne (IsMark by process)) (sym made.allowed) (inl (not answer, refl)) in
    subst (λ (s : State). s.exited process ≡ true) (sym (grown_state g v made.entries w made.call))
    (came_about g v.actors (λ (s : State). s.exited process ≡ true) (IsMark by process) (λ m. Unit {0}) (λ e m free. tt) (mark_exits g by process)
    (λ s m free exited. exit_stays g process s m exited) (state g v.front) made.call.later tt (subst (HasOne (IsMark by process)) (sym made.call.ours) has))

not_armed : (x : Option Status) → settled_as Cancelled x ≢ Some Armed
not_armed None = λ is. cc
not_armed (Some Armed) = λ is. cc
not_armed (Some _) = λ is. cc

cancel_settles : (g : Settings) (timer : TimerRef) (s : State) (e : Entry) → IsHit timer e → (next g s e).status timer ≢ Some Armed
cancel_settles g timer s e cancel =
    subst (λ x. (next g s x).status timer ≢ Some Armed) (sym cancel.2) (rw (same_timer_self timer) (not_armed (s.status timer)))

-- a timer that was cancelled isn't armed
pub settled : (g : Settings) (v : View) (es : List Entry) (w : View) (timer : TimerRef) → (takes : TakesPlace g v es w) → IsFree takes.later (Wheel timer.wheel)
    → HasOne (IsHit timer) es → (state g w.front).status timer ≢ Some Armed
settled g v es w timer takes free has =
    subst (λ (s : State). s.status timer ≢ Some Armed) (sym (grown_state g v es w takes))
    (came_about g v.actors (λ (s : State). s.status timer ≢ Some Armed) (IsHit timer) (λ m. IsFree m (Wheel timer.wheel))
    (λ e m free. free_rest (Wheel timer.wheel) e m free) (cancel_settles g timer)
    (λ s m free over is. over ((later_free g timer.wheel s m free).armed timer refl is)) (state g v.front) takes.later free
    (subst (HasOne (IsHit timer)) (sym takes.ours) has))

-- a cancel that hit names its timer, and has the entry of it
abbrev pub Hits : Settings → TimerRef → List Entry → Type 0
Hits g timer es = (names_timer g timer ≡ true) × HasOne (IsHit timer) es

cancels_at : (g : Settings) (by : Actor) (timer : TimerRef) (now : _) (names : Bool) (found : Option ℕ) (left : ℕ) → names_timer g timer ≡ names
    → (found ≡ None → Some left ≡ None) → (names ≡ false → found ≡ None)
    → (names_timer g timer ≡ true) × HasOne (IsHit timer) (look_entry by now ∷ cancel_entries names by timer found (Some left))
cancels_at g by timer now false found left is quiet unread = absurd (let none : Some left ≡ None = quiet (unread refl) in cc)
cancels_at g by timer now true None left is quiet unread = absurd (let none : Some left ≡ None = quiet refl in cc)
cancels_at g by timer now true (Some found) left is quiet unread = (is, inr (inr (inl (by, left, refl))))

pub cancels_hit : (g : Settings) (by : Actor) (timer : TimerRef) (left : ℕ) (s : State) (es : List Entry) → Cancels g by timer (Some left) s es → Hits g timer es
cancels_hit g by timer left s es cancels =
    let at = cancels_at g by timer cancels.now (names_timer g timer) cancels.found left refl cancels.quiet cancels.unread in
    (at.0, subst (HasOne (IsHit timer)) (sym cancels.entries) at.1)

asked_hit : (kind : RequestKind) (g : Settings) (w : ℕ) (timer : TimerRef) (left : Option ℕ) (n : ℕ) (s : State) (es : List Entry)
    → DoesAsked kind g w timer left s es → left_for kind left ≡ Some n → Hits g timer es
asked_hit ToCancel g w timer (Some m) n s es does is = cancels_hit g (Sched w) timer m s es does
asked_hit ToCancel g w timer None n s es does is = absurd cc
asked_hit ToRead g w timer left n s es does is = absurd cc

pub answers_hit : (g : Settings) (w : ℕ) (request : Request) (left : Option ℕ) (n : ℕ) (s : State) (es : List Entry) → Answers g w request (Ok left) s es
    → left_for request.kind left ≡ Some n → Hits g request.timer es
answers_hit g w request left n s es answers is =
    let asked = asked_hit request.kind g w request.timer left n s answers.steps answers.done is in (
      asked.0,
      subst (HasOne (IsHit request.timer)) (sym answers.entries)
          (has_front (IsHit request.timer) answers.steps (answer_entry w request.reply_to left ∷ []) asked.1),
    )

and_first : (x y : Bool) → (x && y) ≡ true → x ≡ true
and_first true y is = refl
and_first false y is = absurd cc

pub wheel_low : (g : Settings) (timer : TimerRef) → names_timer g timer ≡ true → timer.wheel < g.schedulers
wheel_low g timer is =
    ltb-true timer.wheel g.schedulers (and_first _ (nat_lt timer.slot g.slots) (and_first _ (is_generation timer.generation) is))

-- so it is in the history of a world
pub gone_in : (before : Seen) (b : Inside) (d : Desk) (q : Pass) (es : List Entry) (lent : List Actor) (timer : TimerRef) (left : Option ℕ) (after : Seen)
    → Has before b d → TakesPlace (settings_of d) (view_of b.pass) es (view_of q) → AreOnlyOf lent es → ((n : ℕ) → is_held lent (Wheel n) ≡ false)
    → ((n : ℕ) → left ≡ Some n → Hits (settings_of d) timer es) → after.settings ≡ settings_of d → after.history ≡ front_of q
    → after.wheels ≡ b.wheels.items → IsGone after timer left
gone_in before b d q es lent timer None after has takes only apart hits settings history wheels = tt
gone_in before b d q es lent timer (Some left) after has takes only apart hits settings history wheels =
    let g : Settings = settings_of d in
    let hit = hits left refl in
    let low : timer.wheel < g.schedulers = wheel_low g timer hit.0 in
    let free = free_kept g (view_of b.pass) es (view_of q) lent (Wheel timer.wheel) takes only (has.fit.holds.rest (Wheel timer.wheel) low tt) (apart timer.wheel) in
    let over = settled g (view_of b.pass) es (view_of q) timer takes free hit.1 in
    let last : (x : Part) → IsLast (slice_index_or b.wheels.items timer.wheel x) timer = λ x.
    hit_last g (view_of b.pass) es (view_of q) (slice_index_or b.wheels.items timer.wheel x) timer (has.fit.stand.wheels.stand timer.wheel x low refl)
    (sym (has.fit.stand.wheels.named timer.wheel x low)) takes free hit.1 in
    (rw settings low, rw (settings, history) over, subst (λ (ws : List Part). (x : Part) → IsLast (slice_index_or ws timer.wheel x) timer) (sym wheels) last)

pub gone_some : (w : Seen) (timer : TimerRef) (left : Option ℕ) → is_some left ≡ true → IsGone w timer left
    → (timer.wheel < w.settings.schedulers) × IsSettledIn w timer × IsLastIn w timer
gone_some w timer None some gone = absurd cc
gone_some w timer (Some left) some gone = gone
