-- What a judge sees of its own parts is what the model's state says.

use Rattle.std.proofs.Common.{◌≡◌, ℕ, ℤ, refl, sym, ap, ◌∙◌, subst, Bool, false, true, List, Option, Some, None}
use Rattle.std.specs.Prelude.{◌↔◌, IsTrue, IfSome, IfNone}
use Rattle.ert_clock.specs.Faces.{face_of}
use Rattle.ert_defs.specs.{Clocks.{Clock, face}, Legal.{Can, CanTick, Known, Found, IsNext}, Lines.{Face, Due}, Mails.MailState, Milliseconds.down, States.{State, state}, declared.entry.Act.Act, declared.entry.Actor.Actor}
use Rattle.ert_defs.specs.{declared.entry.Entry.Entry, declared.settings.OffsetState.OffsetState, declared.settings.Reading.Reading, declared.settings.Settings.Settings, declared.timer.TimerRef.TimerRef}
use Rattle.ert_judge.proofs.{EventsExclude.excludes, InRange.in_range_keeps, Knows.next_known}
use Rattle.ert_judge.specs.{Shown.{ClockIs, OwnTimers, HasFollowed, shown}, declared.judge.Judge.Judge, Breaks.{Breaks, TickBreaks, ShiftBreaks, LookBreaks, OffBreaks, WatchBreaks, TellBreaks}, Ranges.MayBeInRange, Reasons.IsFirstReason}
use Rattle.ert_judge.specs.{Reasons.BreaksRange, Reasons.IsFirstReason.{out_of_range, breaks}, declared.reasons.Reason.Reason, Parts.{looks_in, look_of}, Wheels.{timers_at, IsFirstDue}, declared.state.clock.Clock.Clock as KeptClock}

-- what was found false isn't so
pub refuted : (P : Type 0) (b : Bool) → IsTrue b ↔ P → b ≡ false → P → ⊥
refuted P b is fails p = let e : false ≡ true = sym fails ∙ is.1 p in absurd cc

-- a timer that isn't the first that is due isn't the next
pub never_next : (c : Clock) (j : Judge) (by : Actor) (timer : TimerRef) → OwnTimers j
    → (IsFirstDue (timers_at j.timers timer.wheel) timer (down j.settings (look_of (looks_in j.looks) by)) → ⊥)
    → IsNext j.settings (shown c j) by timer → ⊥
never_next c j by timer own never next =
    let is : IsTrue false ↔ IsFirstDue (timers_at j.timers timer.wheel) timer (down j.settings (look_of (looks_in j.looks) by))
    = ((λ holds. let e : false ≡ true = holds in absurd cc), (λ first. absurd (never first))) in
    refuted (IsNext j.settings (shown c j) by timer) false (next_known c j by timer false own is) refl next

-- the numbers of the clock
pub tick_seen : (g : Settings) (c : Clock) (k : KeptClock) (r : Reading) (act : Act) (now : ℤ) (o : Option Reason) → ClockIs g c k
    → IfSome o (TickBreaks g (face_of k.face) k.due r act now) → IfSome o (TickBreaks g (face g c) c.due r act now)
tick_seen g c k r act now o is h =
    subst (λ (d : Option Due). IfSome o (TickBreaks g (face g c) d r act now)) (sym is.due)
    (subst (λ (f : Face). IfSome o (TickBreaks g f k.due r act now)) (sym is.face) h)

pub shift_seen : (g : Settings) (c : Clock) (k : KeptClock) (offset : ℤ) (new : OffsetState) (o : Option Reason) → ClockIs g c k
    → IfSome o (ShiftBreaks k.due offset new) → IfSome o (ShiftBreaks c.due offset new)
shift_seen g c k offset new o is h = subst (λ (d : Option Due). IfSome o (ShiftBreaks d offset new)) (sym is.due) h

pub look_seen : (g : Settings) (c : Clock) (k : KeptClock) (told : ℤ) (o : Option Reason) → ClockIs g c k
    → IfSome o (LookBreaks k.face.time told) → IfSome o (LookBreaks c.now told)
look_seen g c k told o is h =
    subst (λ (t : ℤ). IfSome o (LookBreaks t told)) (sym (ap (λ (f : Face). f.time) is.face)) h

pub off_seen : (g : Settings) (c : Clock) (k : KeptClock) (told : ℤ) (new : OffsetState) (o : Option Reason) → ClockIs g c k
    → IfSome o (OffBreaks k.face.offset k.face.state told new) → IfSome o (OffBreaks c.offset c.state told new)
off_seen g c k told new o is h =
    subst (λ (z : ℤ). IfSome o (OffBreaks z c.state told new)) (sym (ap (λ (f : Face). f.offset) is.face))
    (subst (λ (x : OffsetState). IfSome o (OffBreaks k.face.offset x told new)) (sym (ap (λ (f : Face). f.state) is.face)) h)

pub watch_seen : (g : Settings) (c : Clock) (k : KeptClock) (mail : MailState) (monitor : ℕ) (told : ℤ) (o : Option Reason)
    → ClockIs g c k → IfSome o (WatchBreaks k.face.offset mail monitor told) → IfSome o (WatchBreaks c.offset mail monitor told)
watch_seen g c k mail monitor told o is h =
    subst (λ (z : ℤ). IfSome o (WatchBreaks z mail monitor told)) (sym (ap (λ (f : Face). f.offset) is.face)) h

pub tell_seen : (g : Settings) (c : Clock) (k : KeptClock) (told : ℤ) (o : Option Reason) → ClockIs g c k
    → IfSome o (TellBreaks k.face.offset told) → IfSome o (TellBreaks c.offset told)
tell_seen g c k told o is h =
    subst (λ (z : ℤ). IfSome o (TellBreaks z told)) (sym (ap (λ (f : Face). f.offset) is.face)) h

-- what a judge sees broken, where it sees that, is broken in the state that it stands for
pub why_in : (g : Settings) (h : List Entry) (j : Judge) (e : Entry) (o : Option Reason) → MayBeInRange j.settings e
    → ((c : Clock) → ClockIs j.settings c j.clock → OwnTimers j → IfSome o (Breaks j.settings (shown c j) e.by e.with e.event))
    → HasFollowed g h j → IfSome o (IsFirstReason g (state g h) e)
why_in g h j e None in_range is stands = tt
why_in g h j e (Some r) in_range is stands =
    let clock : ClockIs j.settings (state g h).clock j.clock =
    subst (λ (x : Settings). ClockIs x (state g h).clock j.clock) (sym stands.settings) stands.clock in
    let here : Breaks j.settings (shown (state g h).clock j) e.by e.with e.event r = is (state g h).clock clock stands.own in
    breaks (subst (λ (x : Settings). MayBeInRange x e) stands.settings in_range)
    (subst (λ (s : State). Breaks g s e.by e.with e.event r) (sym stands.kept)
    (subst (λ (x : Settings). Breaks x (shown (state g h).clock j) e.by e.with e.event r) stands.settings here))

-- what it sees met, where it sees nothing broken, is met there, and the entry is legal
met_in : (g : Settings) (h : List Entry) (j : Judge) (e : Entry) → MayBeInRange j.settings e
    → ((c : Clock) → ClockIs j.settings c j.clock → OwnTimers j
    → Known j.settings (shown c j) e.by e.with e.event × Found j.settings (shown c j) e.by e.event)
    → HasFollowed g h j → Can g (state g h) e
met_in g h j e in_range met stands =
    let clock : ClockIs j.settings (state g h).clock j.clock =
    subst (λ (x : Settings). ClockIs x (state g h).clock j.clock) (sym stands.settings) stands.clock in
    let all : Known g (state g h) e.by e.with e.event × Found g (state g h) e.by e.event =
    subst (λ (s : State). Known g s e.by e.with e.event × Found g s e.by e.event) (sym stands.kept)
    (subst (λ (x : Settings). Known x (shown (state g h).clock j) e.by e.with e.event × Found x (shown (state g h).clock j) e.by e.event)
    stands.settings (met (state g h).clock clock stands.own)) in
    record { keeps = in_range_keeps g e (subst (λ (x : Settings). MayBeInRange x e) stands.settings in_range); known = all.0; found = all.1 }

-- it sees nothing broken exactly where the entry is legal
pub legal_in : (g : Settings) (h : List Entry) (j : Judge) (e : Entry) (o : Option Reason) → MayBeInRange j.settings e
    → IfSome o (IsFirstReason g (state g h) e)
    → ((c : Clock) → ClockIs j.settings c j.clock → OwnTimers j
    → IfNone o (Known j.settings (shown c j) e.by e.with e.event × Found j.settings (shown c j) e.by e.event))
    → HasFollowed g h j → (o ≡ None) ↔ Can g (state g h) e
legal_in g h j e None in_range why met stands = ((λ _. met_in g h j e in_range met stands), (λ _. refl))
legal_in g h j e (Some r) in_range why met stands = ((λ is. absurd cc), (λ can. absurd (excludes g (state g h) e r why can)))

-- an entry that isn't in range isn't in that state either
pub outside : (g : Settings) (h : List Entry) (j : Judge) (e : Entry) (r : Reason) → BreaksRange j.settings e r
    → HasFollowed g h j → IsFirstReason g (state g h) e r
outside g h j e r is stands = out_of_range (subst (λ (x : Settings). BreaksRange x e r) stands.settings is)

-- so it isn't legal
pub outside_illegal : (g : Settings) (h : List Entry) (j : Judge) (e : Entry) (r : Reason) → BreaksRange j.settings e r
    → HasFollowed g h j → (Some r ≡ None) ↔ Can g (state g h) e
outside_illegal g h j e r is stands =
    ((λ e. absurd cc), (λ can. absurd (excludes g (state g h) e r (outside g h j e r is stands) can)))

-- where no reason is told, what follows from that
pub none_map : {P Q : Type 0} (o : Option Reason) → (P → Q) → IfNone o P → IfNone o Q
none_map None f p = f p
none_map (Some r) f p = tt

pub tick_met : (g : Settings) (c : Clock) (k : KeptClock) (r : Reading) (act : Act) (now : ℤ) → ClockIs g c k
    → (k.due ≡ None) × CanTick g (face_of k.face) r act now → (c.due ≡ None) × CanTick g (face g c) r act now
tick_met g c k r act now is h = (is.due ∙ h.0, subst (λ (f : Face). CanTick g f r act now) (sym is.face) h.1)
