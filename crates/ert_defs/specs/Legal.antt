-- When an entry is legal. Its condition has three parts: the entry is in range, what its maker must know
-- when the step is made, and what the step itself finds out.

use Rattle.std.specs.Prelude.{◌≡◌, ◌≢◌, ℕ, ℤ, pos, ◌<◌, ◌≤ℤ◌, ◌++◌, Bool, true, false, ◌&&◌, ◌||◌, nat_eq, nat_lt, nat_le, List, [], ◌∷◌, length, Option, Some, None, option_map}
use Rattle.std.specs.List.{list_any}
use Rattle.ert_defs.specs.{Actors.{IsCaller, IsUser}, Clocks.face, Lines.{Face, time_after, due_after, MayAct, IsInRange}, Mails.first_of, Milliseconds.{natural, down, left, deadline_of}, Readings.IsValid, States.{State, uses_at, opening}}
use Rattle.ert_defs.specs.{States.next, Timers.{Row, IsNextUse, row_of, is_taken, timer_at}, declared.entry.Act.Act, declared.entry.Actor.Actor, declared.entry.Actor.TheVariants.{Keeper, Wheel, Inbox, Sched, MailOf, Caller}}
use Rattle.ert_defs.specs.{declared.entry.Entry.Entry, declared.entry.Event.Event, declared.entry.Event.TheVariants.{Tick, Shift, Look, Off, Arm, Probe, Peek, Cancel, Expire, Orphan, Deliver, Drop, Mark, Advanced, Ask, Pick, Answer, Take}}
use Rattle.ert_defs.specs.{declared.entry.Event.TheVariants.{Unwatch, Watch, Tell}, declared.mail.Monitor.Monitor, declared.mail.Request.Request, declared.settings.Reading.Reading, declared.settings.Settings.Settings}
use Rattle.ert_defs.specs.{declared.timer.Status.Status, declared.timer.Status.TheVariants.Armed, declared.timer.TimerRef.TimerRef}

-- a slot of a wheel in range
pub record IsSlot (g : Settings) (wheel slot : ℕ) : Type 0 where
  pub wheel_high : wheel < g.schedulers
  pub slot_high : slot < g.slots

-- made with a caller in range
abbrev pub IsWithCaller : Settings → Option Actor → Type 0
IsWithCaller g None = ⊥
IsWithCaller g (Some a) = IsCaller g a

-- made with the mailbox of a process in range
abbrev pub IsWithMail : Settings → Option Actor → Type 0
IsWithMail g (Some (MailOf p)) = p < g.processes
IsWithMail g _ = ⊥

-- a scheduler looks only at the slots of its own wheel
abbrev pub IsProber : Settings → ℕ → Actor → Type 0
IsProber g wheel (Caller n) = n < g.callers
IsProber g wheel (Sched n) = n ≡ wheel
IsProber g wheel _ = ⊥

-- who may read the offset, and with whom
abbrev pub IsReader : Settings → Actor → Option Actor → Type 0
IsReader g Keeper with = IsWithCaller g with
IsReader g by with = IsUser g by × (with ≡ None)

-- an entry in range: its actors are those of its event, and all its numbers of schedulers, processes,
-- slots and callers are below their counts
abbrev pub Keeps : Settings → Actor → Option Actor → Event → Type 0
Keeps g by with (Tick reading act now) = (by ≡ Keeper) × IsWithCaller g with
Keeps g by with (Shift offset state) = (by ≡ Keeper) × IsWithCaller g with
Keeps g by with (Look now) = IsUser g by × (with ≡ None)
Keeps g by with (Off offset state) = IsReader g by with
Keeps g by with (Arm timer start) = IsCaller g by × (with ≡ Some (Wheel timer.wheel)) × IsSlot g timer.wheel timer.slot × (start.dest < g.processes)
Keeps g by with (Probe wheel slot found) = IsProber g wheel by × (with ≡ Some (Wheel wheel)) × IsSlot g wheel slot
Keeps g by with (Peek timer left) = IsUser g by × (with ≡ None) × IsSlot g timer.wheel timer.slot
Keeps g by with (Cancel timer left) = IsUser g by × (with ≡ None) × IsSlot g timer.wheel timer.slot
Keeps g by with (Expire timer) = (by ≡ Sched timer.wheel) × (with ≡ Some (Wheel timer.wheel)) × IsSlot g timer.wheel timer.slot
Keeps g by with (Orphan timer) = IsCaller g by × (with ≡ Some (Wheel timer.wheel)) × IsSlot g timer.wheel timer.slot
Keeps g by with (Deliver timer) = (by ≡ Sched timer.wheel) × IsWithMail g with × IsSlot g timer.wheel timer.slot
Keeps g by with (Drop timer) = (by ≡ Sched timer.wheel) × (with ≡ None) × IsSlot g timer.wheel timer.slot
Keeps g by with (Mark process exits was) = IsUser g by × (with ≡ None) × (process < g.processes)
Keeps g by with (Advanced wheel to) = (by ≡ Sched wheel) × (with ≡ Some (Wheel wheel)) × (wheel < g.schedulers)
Keeps g by with (Ask wheel request) = IsCaller g by × (with ≡ Some (Inbox wheel)) × (wheel < g.schedulers) × (request.reply_to < g.processes)
Keeps g by with (Pick wheel got) = (by ≡ Sched wheel) × (with ≡ Some (Inbox wheel)) × (wheel < g.schedulers)
Keeps g by with (Answer wheel left) = (by ≡ Sched wheel) × IsWithMail g with × (wheel < g.schedulers)
Keeps g by with (Take process got) = IsCaller g by × (with ≡ Some (MailOf process)) × (process < g.processes)
Keeps g by with (Unwatch process monitor was) = IsCaller g by × (with ≡ Some (MailOf process)) × (process < g.processes)
Keeps g by with (Watch process monitor offset) = IsCaller g by × (with ≡ Some (MailOf process)) × (process < g.processes)
Keeps g by with (Tell process offset) = IsCaller g by × (with ≡ Some (MailOf process)) × (process < g.processes)

-- a tick is legal: the reading is valid, only a preliminary offset is finalized, the time is that of the
-- line or of OS system time, and the shift that follows keeps the offset within its limits
pub record CanTick (g : Settings) (f : Face) (r : Reading) (act : Act) (now : ℤ) : Type 0 where
  pub valid : IsValid r
  pub may : MayAct act f.state
  pub told : now ≡ time_after g f r
  pub in_range : IsInRange (due_after g f r act now)

-- each of these rows whose deadline passes the test isn't armed
abbrev pub AllSettled : (TimerRef → Option Status) → (ℕ → Bool) → List Row → Type 0
AllSettled status test [] = Unit {0}
AllSettled status test (r ∷ rows) = (test r.deadline ≡ true → status r.timer ≢ Some Armed) × AllSettled status test rows

-- a timer is due and the first of its wheel, by deadline and then by starting, of those armed; whether it
-- is armed itself is left to the step
pub record IsNext (g : Settings) (s : State) (by : Actor) (timer : TimerRef) : Type 0 where
  pub before : List Row
  pub row : Row
  pub behind : List Row
  pub stands : s.rows timer.wheel ≡ before ++ (row ∷ behind)
  pub named : row.timer ≡ timer
  pub due : pos row.deadline ≤ℤ down g (s.looked by)
  pub first_before : AllSettled s.status (λ d. nat_le d row.deadline) before
  pub first_behind : AllSettled s.status (λ d. nat_lt d row.deadline) behind

-- the row of a timer stands, and its destination has exited
pub record HasDestExited (s : State) (timer : TimerRef) : Type 0 where
  pub row : Row
  pub stands : row_of (s.rows timer.wheel) timer ≡ Some row
  pub exited : s.exited row.dest ≡ true

-- a timer is the first of a scheduler's expired ones
pub record IsFirst (expired : List Row) (timer : TimerRef) : Type 0 where
  pub row : Row
  pub first : first_of expired ≡ Some row
  pub named : row.timer ≡ timer

-- a generation that a timer may have (profile): of a first round, or of a later one
abbrev pub is_generation : ℕ → Bool
is_generation n = (nat_le 1 n && nat_le n 262143) || (nat_le 8796093022208 n && nat_lt n 2305843009213693952)

-- a reference that may name a timer
abbrev pub names_timer : Settings → TimerRef → Bool
names_timer g r = nat_lt r.wheel g.schedulers && nat_lt r.slot g.slots && is_generation r.generation

-- what an answer says: the result of the scheduler's last step on the request, and nothing where the
-- reference is out of range
abbrev pub IsResult : Bool → Option (Option ℕ) → Option ℕ → Type 0
IsResult true result left = result ≡ Some left
IsResult false result left = left ≡ None

-- the request in a scheduler's hand can be answered so
pub record CanAnswer (g : Settings) (s : State) (with : Option Actor) (wheel : ℕ) (left : Option ℕ) : Type 0 where
  pub request : Request
  pub hand : (s.scheds wheel).hand ≡ Some request
  pub asker : with ≡ Some (MailOf request.reply_to)
  pub result : IsResult (names_timer g request.timer) (s.scheds wheel).result left

-- whether a monitor of this number stands
abbrev pub stands_in : ℕ → List Monitor → Bool
stands_in n monitors = list_any (λ m. nat_eq m.number n) monitors

-- a timer can be armed: its start has a deadline, its slot is neither taken nor rests, and the wheel has had
-- fewer than 2^53 timers
pub record CanArm (g : Settings) (s : State) (by : Actor) (timer : TimerRef) (deadline : Option ℕ) : Type 0 where
  pub free : is_taken (s.status (timer_at timer.wheel timer.slot (s.last timer.wheel timer.slot))) ≡ false
  pub wanted : ℕ
  pub due : deadline ≡ Some wanted
  pub next_use : IsNextUse (uses_at s timer.wheel timer.slot) (natural (down g (s.looked by))) wanted timer.generation
  pub few : length (s.rows timer.wheel) < 9007199254740992

-- what the maker of an entry must know
abbrev pub Known : Settings → State → Actor → Option Actor → Event → Type 0
Known g s by with (Tick reading act now) = (s.clock.due ≡ None) × CanTick g (face g s.clock) reading act now
Known g s by with (Shift offset state) = s.clock.due ≡ Some (offset, state)
Known g s by with (Arm timer start) = CanArm g s by timer (deadline_of g start (s.looked by))
Known g s by with (Expire timer) = IsNext g s by timer
Known g s by with (Orphan timer) = HasDestExited s timer
Known g s by with (Deliver timer) = (first : IsFirst (s.scheds timer.wheel).expired timer) × (with ≡ Some (MailOf first.row.dest))
Known g s by with (Drop timer) = (first : IsFirst (s.scheds timer.wheel).expired timer) × (s.exited first.row.dest ≡ true)
Known g s by with (Advanced wheel to) = (pos to ≡ down g (s.looked by)) × AllSettled s.status (λ d. nat_le d to) (s.rows wheel)
Known g s by with (Pick wheel got) = ((s.scheds wheel).hand ≡ None) × (got ≡ first_of (s.inboxes wheel))
Known g s by with (Answer wheel left) = CanAnswer g s with wheel left
Known g s by with (Take process got) = got ≡ first_of (s.mails process).queue
Known g s by with (Unwatch process monitor was) = was ≡ stands_in monitor (s.mails process).monitors
Known g s by with (Watch process monitor offset) = (monitor ≡ (s.mails process).next) × (length (s.mails process).monitors < 64)
Known g s by with _ = Unit {0}

-- the milliseconds left of a timer where it is armed, by a look
abbrev pub left_by : Settings → ℤ → Option Status → Option Row → Option ℕ
left_by g look (Some Armed) row = option_map (λ (r : Row). left g r.deadline look) row
left_by g look _ row = None

-- the milliseconds left of a timer in a state, where it is armed, by an actor's last look
abbrev pub left_of : Settings → State → Actor → TimerRef → Option ℕ
left_of g s by timer = left_by g (s.looked by) (s.status timer) (row_of (s.rows timer.wheel) timer)

-- what the step of an entry finds out
abbrev pub Found : Settings → State → Actor → Event → Type 0
Found g s by (Look now) = now ≡ s.clock.now
Found g s by (Off offset state) = (offset ≡ s.clock.offset) × (state ≡ s.clock.state)
Found g s by (Probe wheel slot found) = found ≡ s.status (timer_at wheel slot (s.last wheel slot))
Found g s by (Peek timer left) = left ≡ left_of g s by timer
Found g s by (Cancel timer left) = left ≡ left_of g s by timer
Found g s by (Expire timer) = s.status timer ≡ Some Armed
Found g s by (Orphan timer) = s.status timer ≡ Some Armed
Found g s by (Mark process exits was) = was ≡ s.exited process
Found g s by (Watch process monitor offset) = offset ≡ s.clock.offset
Found g s by (Tell process offset) = offset ≡ s.clock.offset
Found g s by _ = Unit {0}

-- an entry is legal in a state
pub record Can (g : Settings) (s : State) (e : Entry) : Type 0 where
  pub keeps : Keeps g e.by e.with e.event
  pub known : Known g s e.by e.with e.event
  pub found : Found g s e.by e.event

-- entries are legal one after the other from a state on
abbrev pub LegalFrom : Settings → State → List Entry → Type 0
LegalFrom g s [] = Unit {0}
LegalFrom g s (e ∷ es) = Can g s e × LegalFrom g (next g s e) es

-- a history is legal
abbrev pub Legal : Settings → List Entry → Type 0
Legal g h = LegalFrom g (opening g) h
