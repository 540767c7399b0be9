-- A condition of its event that an entry breaks excludes it.

use Rattle.std.proofs.Common.{◌≡◌, ◌≢◌, ◌<◌, ◌≤◌, ◌⊎◌, inl, inr, ℕ, ◌+◌, ℤ, pos, arith, refl, sym, ap, ◌∙◌, subst, Bool, true, false, cond, List, [], ◌∷◌, length, Option, Some, None, nat_le}
use Rattle.std.proofs.lemmas.Bool.{cases_Bool, le-leb}
use Rattle.ert_defs.proofs.Slots.{same_timer-true}
use Rattle.ert_defs.specs.{Clocks.face, Legal.{Known, Found, Can, CanTick, CanArm, CanAnswer, IsNext, IsFirst, HasDestExited, IsResult, AllSettled, names_timer, left_of, stands_in}, Lines.{Face, Due, IsInRange}, Mails.MailState}
use Rattle.ert_defs.specs.{Mails.{SchedState, first_of}, Milliseconds.{down, deadline_of}, States.State, Timers.{Row, Uses, IsNextUse, use_of, turned, deadline_in, generation_in, row_of, same_timer, is_taken}, declared.entry.Act.Act}
use Rattle.ert_defs.specs.{declared.entry.Actor.Actor, declared.entry.Actor.TheVariants.MailOf, declared.entry.Entry.Entry, declared.entry.Event.Event, declared.entry.Event.TheVariants.{Tick, Shift, Look, Off, Arm, Probe, Peek, Cancel}}
use Rattle.ert_defs.specs.{declared.entry.Event.TheVariants.{Expire, Orphan, Deliver, Drop, Mark, Advanced, Ask, Pick, Answer, Take, Unwatch, Watch, Tell}, declared.mail.Mail.Mail, declared.mail.Request.Request}
use Rattle.ert_defs.specs.{declared.settings.OffsetState.OffsetState, declared.settings.Reading.Reading, declared.settings.Settings.Settings, declared.timer.Start.Start, declared.timer.Status.Status, declared.timer.Status.TheVariants.Armed}
use Rattle.ert_defs.specs.{declared.timer.TimerRef.TimerRef}
use Rattle.ert_judge.specs.Breaks.{Differs, IsBehind, AnswersAsker, last_status_of, UseBreaks, TickBreaks, ShiftBreaks, LookBreaks, OffBreaks, ArmBreaks, ProbeBreaks, LeftBreaks, ExpireBreaks, OrphanBreaks, DeliverBreaks, DropBreaks, MarkBreaks, AdvancedBreaks, PickBreaks, AnswerBreaks, TakeBreaks, UnwatchBreaks, WatchBreaks, TellBreaks, Breaks}
use Rattle.ert_judge.specs.Reasons.{IsFirstReason}
use Rattle.ert_judge.specs.Reasons.IsFirstReason.{out_of_range, breaks}
use Rattle.ert_judge.specs.declared.reasons.Reason.{Reason}
use Rattle.ert_judge.specs.declared.reasons.Reason.TheVariants.{ShiftFirst, BadReading, NotPreliminary, OtherTick, OffsetPast, OtherShift, OtherTime, OtherOffset, OtherState, SlotTaken, OtherGeneration, Rests, NoDeadline, WheelUsed, OtherStatus, OtherLeft, NotArmed, NotDue, Later, NotNext, NotExited, NoneWaits, OtherWaits, OtherDest, OtherMilliseconds, StillArmed, OtherExit, HandFull, OtherRequest, HandEmpty, OtherAsker, OtherOutcome, NothingLeft, OtherMail, OtherMonitor, OtherNumber, TooMany}
use Rattle.ert_judge.proofs.InRange.{range_excludes}

-- what differs from what is wanted isn't that
differs_not : {X : Type 0} (told is wanted : X) → Differs told is wanted → told ≡ wanted → ⊥
differs_not told is wanted h same = h.differs (same ∙ sym h.value)

-- nothing isn't something
none_is_some : {X : Type 0} (x : X) (o : Option X) → o ≡ None → o ≡ Some x → ⊥
none_is_some x o none some = let e : None ≡ Some x = sym none ∙ some in absurd cc

some_same : {X : Type 0} (o : Option X) (x y : X) → o ≡ Some x → o ≡ Some y → x ≡ y
some_same o x y e f = let both : Some x ≡ Some y = sym e ∙ f in (cc)

true_is_false : (b : Bool) → b ≡ true → b ≡ false → ⊥
true_is_false b holds fails = let e : true ≡ false = sym holds ∙ fails in absurd cc

too_far : (n m : ℕ) → m < n → n ≤ m → ⊥
too_far n m high low = omega arith

too_many : (count n : ℕ) → count ≡ n → 64 ≤ count → n < 64 → ⊥
too_many count n is high low = omega arith

tick_excludes : (g : Settings) (f : Face) (due : Option Due) (r : Reading) (act : Act) (now : ℤ) (reason : Reason)
    → TickBreaks g f due r act now reason → due ≡ None → CanTick g f r act now → ⊥
tick_excludes g f due r act now (ShiftFirst offset state) h none can = none_is_some (offset, state) due none h
tick_excludes g f due r act now BadReading h none can = h.1 can.valid
tick_excludes g f due r act now (NotPreliminary state) h none can = h.3 can.may
tick_excludes g f due r act now (OtherTick time) h none can = differs_not now time _ h.3 can.told
tick_excludes g f due r act now (OffsetPast offset state) h none can = h.5 (subst IsInRange h.4 can.in_range)
tick_excludes g f due r act now _ h none can = absurd h

shift_excludes : (due : Option Due) (offset : ℤ) (state : OffsetState) (reason : Reason)
    → ShiftBreaks due offset state reason → due ≡ Some (offset, state) → ⊥
shift_excludes due offset state (OtherShift is) h known = h.1 known
shift_excludes due offset state _ h known = absurd h

look_excludes : (now told : ℤ) (reason : Reason) → LookBreaks now told reason → told ≡ now → ⊥
look_excludes now told (OtherTime is) h found = differs_not told is now h found
look_excludes now told _ h found = absurd h

off_excludes : (offset : ℤ) (state : OffsetState) (told : ℤ) (told_state : OffsetState) (reason : Reason)
    → OffBreaks offset state told told_state reason → told ≡ offset → told_state ≡ state → ⊥
off_excludes offset state told told_state (OtherOffset is) h same same_state = differs_not told is offset h same
off_excludes offset state told told_state (OtherState is) h same same_state = differs_not told_state is state h.1 same_state
off_excludes offset state told told_state _ h same same_state = absurd h

-- in the first round each start has one next generation, and in a later one those for one deadline have
next_same : (u : Uses) (now a b : ℕ) → ((turned u).since ≡ 0) ⊎ (a ≡ b)
    → let since : ℕ = (turned u).since in let count : ℕ = use_of (turned u).last + 1 in
    generation_in since count (deadline_in since now a) ≡ generation_in since count (deadline_in since now b)
next_same u now a b (inl first) = rw first refl
next_same u now a b (inr same) =
    ap (λ d. generation_in (turned u).since (use_of (turned u).last + 1) (deadline_in (turned u).since now d)) same

use_excludes : (u : Uses) (now : ℕ) (deadline : Option ℕ) (told : ℕ) (reason : Reason) → UseBreaks u now deadline told reason
    → (wanted : ℕ) → deadline ≡ Some wanted → IsNextUse u now wanted told → ⊥
use_excludes u now deadline told (Rests until) h wanted due next =
    too_far until now h.early (subst (λ n. n ≤ now) (sym h.value) next.rested)
use_excludes u now deadline told (OtherGeneration another) h wanted due next =
    h.differs (next.counts ∙ sym (h.value ∙ next_same u now h.wanted wanted (elim h.due [
      | inl first ↦ inl first
      | inr has ↦ inr (some_same deadline h.wanted wanted has.0 due)
    ])))
use_excludes u now deadline told NoDeadline h wanted due next = too_far _ 8796093022207 (h.past wanted due) next.within
use_excludes u now deadline told _ h wanted due next = absurd h

arm_excludes : (g : Settings) (s : State) (by : Actor) (timer : TimerRef) (start : Start) (reason : Reason)
    → ArmBreaks g s by timer start reason → CanArm g s by timer (deadline_of g start (s.looked by)) → ⊥
arm_excludes g s by timer start (SlotTaken status) h can =
    true_is_false (is_taken (last_status_of s timer.wheel timer.slot)) (ap is_taken h.0 ∙ h.1) can.free
arm_excludes g s by timer start WheelUsed h can =
    too_far (length (s.rows timer.wheel)) (length (s.rows timer.wheel)) (omega (arith, h.2, can.few)) (omega arith)
arm_excludes g s by timer start (Rests until) h can = use_excludes _ _ _ _ (Rests until) h.1 can.wanted can.due can.next_use
arm_excludes g s by timer start (OtherGeneration next) h can =
    use_excludes _ _ _ _ (OtherGeneration next) h.1 can.wanted can.due can.next_use
arm_excludes g s by timer start NoDeadline h can = use_excludes _ _ _ _ NoDeadline h.1 can.wanted can.due can.next_use
arm_excludes g s by timer start _ h can = absurd h.1

probe_excludes : (s : State) (wheel slot : ℕ) (found : Option Status) (reason : Reason)
    → ProbeBreaks s wheel slot found reason → found ≡ last_status_of s wheel slot → ⊥
probe_excludes s wheel slot found (OtherStatus status) h same = differs_not found status _ h same
probe_excludes s wheel slot found _ h same = absurd h

left_excludes : (g : Settings) (s : State) (by : Actor) (timer : TimerRef) (left : Option ℕ) (reason : Reason)
    → LeftBreaks g s by timer left reason → left ≡ left_of g s by timer → ⊥
left_excludes g s by timer left (OtherLeft is) h same = differs_not left is _ h same
left_excludes g s by timer left _ h same = absurd h

expire_excludes : (g : Settings) (s : State) (by : Actor) (timer : TimerRef) (reason : Reason)
    → ExpireBreaks g s by timer reason → IsNext g s by timer → s.status timer ≡ Some Armed → ⊥
expire_excludes g s by timer (NotArmed status) h is found = h.1 (h.0 ∙ found)
expire_excludes g s by timer (NotDue scheduler deadline looked) h is found = h.never is
expire_excludes g s by timer (Later first deadline) h is found = h.kept.never is
expire_excludes g s by timer NotNext h is found = h.kept.never is
expire_excludes g s by timer _ h is found = absurd h

-- the destinations of one row are one
stays_alive : (exited : ℕ → Bool) (a b : Row) (dest : ℕ) → a ≡ b → dest ≡ a.dest → exited dest ≡ false
    → exited b.dest ≡ true → ⊥
stays_alive exited a b dest same is alive gone =
    true_is_false (exited dest) (ap exited (is ∙ ap (λ (r : Row). r.dest) same) ∙ gone) alive

orphan_excludes : (s : State) (timer : TimerRef) (reason : Reason) → OrphanBreaks s timer reason → HasDestExited s timer
    → s.status timer ≡ Some Armed → ⊥
orphan_excludes s timer (NotArmed status) h is found = h.1 (h.0 ∙ found)
orphan_excludes s timer (NotExited dest) h is found =
    stays_alive s.exited h.1.row is.row dest
    (some_same (row_of (s.rows timer.wheel) timer) h.1.row is.row h.1.stands is.stands) h.1.to h.2 is.exited
orphan_excludes s timer _ h is found = absurd h

none_waits : (expired : List Row) (timer : TimerRef) → first_of expired ≡ None → IsFirst expired timer → ⊥
none_waits expired timer none is = none_is_some is.row (first_of expired) none is.first

other_waits : (expired : List Row) (first timer : TimerRef) → IsBehind expired first timer → IsFirst expired timer → ⊥
other_waits expired first timer h is =
    h.other (h.named ∙ ap (λ (r : Row). r.timer) (some_same (first_of expired) h.row is.row h.waits is.first) ∙ is.named)

deliver_excludes : (expired : List Row) (with : Option Actor) (timer : TimerRef) (reason : Reason)
    → DeliverBreaks expired with timer reason → (first : IsFirst expired timer) → with ≡ Some (MailOf first.row.dest) → ⊥
deliver_excludes expired with timer (OtherDest dest) h is same =
    h.1 (same ∙ ap (λ (n : ℕ). Some (MailOf n)) (sym (h.0.to
    ∙ ap (λ (r : Row). r.dest) (some_same (first_of expired) h.0.row is.row h.0.waits is.first))))
deliver_excludes expired with timer NoneWaits h is same = none_waits expired timer h is
deliver_excludes expired with timer (OtherWaits first) h is same = other_waits expired first timer h is
deliver_excludes expired with timer _ h is same = absurd h

drop_excludes : (expired : List Row) (exited : ℕ → Bool) (timer : TimerRef) (reason : Reason)
    → DropBreaks expired exited timer reason → (first : IsFirst expired timer) → exited first.row.dest ≡ true → ⊥
drop_excludes expired exited timer (NotExited dest) h is gone =
    stays_alive exited h.0.row is.row dest (some_same (first_of expired) h.0.row is.row h.0.waits is.first) h.0.to h.1 gone
drop_excludes expired exited timer NoneWaits h is gone = none_waits expired timer h is
drop_excludes expired exited timer (OtherWaits first) h is gone = other_waits expired first timer h is
drop_excludes expired exited timer _ h is gone = absurd h

mark_excludes : (exited was : Bool) (reason : Reason) → MarkBreaks exited was reason → was ≡ exited → ⊥
mark_excludes exited was (OtherExit is) h same = differs_not was is exited h same
mark_excludes exited was _ h same = absurd h

-- where all are settled, so is the timer of a row
pub settled_row : (status : TimerRef → Option Status) (test : ℕ → Bool) (rows : List Row) (timer : TimerRef) (row : Row)
    → AllSettled status test rows → row_of rows timer ≡ Some row → test row.deadline ≡ true → status timer ≢ Some Armed
settled_row status test [] timer row all is passes = absurd cc
settled_row status test (r ∷ rows) timer row all is passes = elim (cases_Bool (same_timer r.timer timer)) [
  | inl same_one ↦
      let here : Some r ≡ Some row = sym (ap (λ b. cond b (Some r) (row_of rows timer)) same_one) ∙ is in
      let same : r ≡ row = cc in
      let passed : test r.deadline ≡ true = ap (λ (x : Row). test x.deadline) same ∙ passes in
      (λ armed. all.0 passed (ap status (same_timer-true r.timer timer same_one) ∙ armed))
  | inr another ↦
      settled_row status test rows timer row all.1 (sym (ap (λ b. cond b (Some r) (row_of rows timer)) another) ∙ is) passes
]

advanced_excludes : (g : Settings) (s : State) (by : Actor) (wheel to : ℕ) (reason : Reason)
    → AdvancedBreaks g s by wheel to reason → pos to ≡ down g (s.looked by)
    → AllSettled s.status (λ d. nat_le d to) (s.rows wheel) → ⊥
advanced_excludes g s by wheel to (OtherMilliseconds looked) h same all = differs_not (pos to) looked _ h same
advanced_excludes g s by wheel to (StillArmed timer deadline) h same all =
    let armed = h.1.till in
    settled_row s.status (λ d. nat_le d to) (s.rows wheel) timer armed.row all armed.stands
    (le-leb armed.row.deadline to (subst (λ n. n ≤ to) armed.till h.2)) armed.armed
advanced_excludes g s by wheel to _ h same all = absurd h

pick_excludes : (sched : SchedState) (inbox : List Request) (got : Option Request) (reason : Reason)
    → PickBreaks sched inbox got reason → sched.hand ≡ None → got ≡ first_of inbox → ⊥
pick_excludes sched inbox got (HandFull request) h empty same = none_is_some request sched.hand empty h
pick_excludes sched inbox got (OtherRequest first) h empty same = differs_not got first _ h.1 same
pick_excludes sched inbox got _ h empty same = absurd h

-- what an answer says of the request in the hand
result_in_hand : (g : Settings) (sched : SchedState) (with : Option Actor) (names : Bool) (request : Request) (left : Option ℕ) → AnswersAsker g sched with names
    → sched.hand ≡ Some request → IsResult (names_timer g request.timer) sched.result left → IsResult names sched.result left
result_in_hand g sched with names request left is hand result =
    let same : request ≡ is.request = some_same sched.hand request is.request hand is.hand in
    subst (λ (b : Bool). IsResult b sched.result left)
    (ap (λ (q : Request). names_timer g q.timer) same ∙ is.test) result

answer_excludes : (g : Settings) (s : State) (with : Option Actor) (wheel : ℕ) (left : Option ℕ) (reason : Reason)
    → AnswerBreaks g (s.scheds wheel) with left reason → CanAnswer g s with wheel left → ⊥
answer_excludes g s with wheel left HandEmpty h can = none_is_some can.request (s.scheds wheel).hand h can.hand
answer_excludes g s with wheel left (OtherAsker process) h can =
    h.1 (can.asker ∙ ap (λ (n : ℕ). Some (MailOf n)) (sym (h.0.asker
    ∙ ap (λ (q : Request). q.reply_to) (some_same (s.scheds wheel).hand h.0.request can.request h.0.hand can.hand))))
answer_excludes g s with wheel left (OtherOutcome outcome) h can =
    h.2 (h.1 ∙ result_in_hand g (s.scheds wheel) with true can.request left h.0 can.hand can.result)
answer_excludes g s with wheel left NothingLeft h can =
    h.1 (result_in_hand g (s.scheds wheel) with false can.request left h.0 can.hand can.result)
answer_excludes g s with wheel left _ h can = absurd h

take_excludes : (queue : List Mail) (got : Option Mail) (reason : Reason) → TakeBreaks queue got reason → got ≡ first_of queue → ⊥
take_excludes queue got (OtherMail first) h same = differs_not got first _ h same
take_excludes queue got _ h same = absurd h

unwatch_excludes : (mail : MailState) (monitor : ℕ) (was : Bool) (reason : Reason) → UnwatchBreaks mail monitor was reason
    → was ≡ stands_in monitor mail.monitors → ⊥
unwatch_excludes mail monitor was (OtherMonitor stands) h same = differs_not was stands _ h same
unwatch_excludes mail monitor was _ h same = absurd h

watch_excludes : (offset : ℤ) (mail : MailState) (monitor : ℕ) (told : ℤ) (reason : Reason)
    → WatchBreaks offset mail monitor told reason → monitor ≡ mail.next → length mail.monitors < 64 → told ≡ offset → ⊥
watch_excludes offset mail monitor told (OtherNumber next) h number few same = differs_not monitor next _ h number
watch_excludes offset mail monitor told (TooMany count) h number few same = too_many count (length mail.monitors) h.1 h.2 few
watch_excludes offset mail monitor told (OtherOffset is) h number few same = differs_not told is _ h.2 same
watch_excludes offset mail monitor told _ h number few same = absurd h

tell_excludes : (offset told : ℤ) (reason : Reason) → TellBreaks offset told reason → told ≡ offset → ⊥
tell_excludes offset told (OtherOffset is) h same = differs_not told is _ h same
tell_excludes offset told _ h same = absurd h

-- a condition of its event that it breaks excludes an entry
event_excludes : (g : Settings) (s : State) (by : Actor) (with : Option Actor) (event : Event) (r : Reason)
    → Breaks g s by with event r → Known g s by with event → Found g s by event → ⊥
event_excludes g s by with (Tick reading act now) r h known found =
    tick_excludes g (face g s.clock) s.clock.due reading act now r h known.0 known.1
event_excludes g s by with (Shift offset state) r h known found = shift_excludes s.clock.due offset state r h known
event_excludes g s by with (Look now) r h known found = look_excludes s.clock.now now r h found
event_excludes g s by with (Off offset state) r h known found =
    off_excludes s.clock.offset s.clock.state offset state r h found.0 found.1
event_excludes g s by with (Arm timer start) r h known found = arm_excludes g s by timer start r h known
event_excludes g s by with (Probe wheel slot status) r h known found = probe_excludes s wheel slot status r h found
event_excludes g s by with (Peek timer left) r h known found = left_excludes g s by timer left r h found
event_excludes g s by with (Cancel timer left) r h known found = left_excludes g s by timer left r h found
event_excludes g s by with (Expire timer) r h known found = expire_excludes g s by timer r h known found
event_excludes g s by with (Orphan timer) r h known found = orphan_excludes s timer r h known found
event_excludes g s by with (Deliver timer) r h known found =
    deliver_excludes (s.scheds timer.wheel).expired with timer r h known.0 known.1
event_excludes g s by with (Drop timer) r h known found =
    drop_excludes (s.scheds timer.wheel).expired s.exited timer r h known.0 known.1
event_excludes g s by with (Mark process exits was) r h known found = mark_excludes (s.exited process) was r h found
event_excludes g s by with (Advanced wheel to) r h known found = advanced_excludes g s by wheel to r h known.0 known.1
event_excludes g s by with (Ask wheel request) r h known found = absurd h
event_excludes g s by with (Pick wheel got) r h known found =
    pick_excludes (s.scheds wheel) (s.inboxes wheel) got r h known.0 known.1
event_excludes g s by with (Answer wheel left) r h known found = answer_excludes g s with wheel left r h known
event_excludes g s by with (Take process got) r h known found = take_excludes (s.mails process).queue got r h known
event_excludes g s by with (Unwatch process monitor was) r h known found =
    unwatch_excludes (s.mails process) monitor was r h known
event_excludes g s by with (Watch process monitor offset) r h known found =
    watch_excludes s.clock.offset (s.mails process) monitor offset r h known.0 known.1 found
event_excludes g s by with (Tell process offset) r h known found = tell_excludes s.clock.offset offset r h found

-- a reason that holds excludes the entry
pub excludes : (g : Settings) (s : State) (e : Entry) (r : Reason) → IsFirstReason g s e r → Can g s e → ⊥
excludes g s e r (out_of_range h) can = range_excludes g e r h can.keeps
excludes g s e r (breaks in_range h) can = event_excludes g s e.by e.with e.event r h can.known can.found
