-- What a word of a slot has, and the entries of the steps on it.

use Rattle.std.specs.Prelude.{◌≡◌, ◌≢◌, ℕ, ℤ, ◌%◌, Bool, true, false, cond, nat_eq, Option, Some, None, option_map}
use Rattle.ert_defs.specs.{Milliseconds.left, States.{State, state}, Timers.{Row, row_of, timer_at}, Words.timer_word, declared.entry.Actor.Actor, declared.entry.Actor.TheVariants.{Wheel, MailOf}, declared.entry.Entry.Entry}
use Rattle.ert_defs.specs.{declared.entry.Event.TheVariants.{Peek, Cancel, Expire, Orphan, Deliver, Drop}, declared.settings.Settings.Settings, declared.timer.Status.Status, declared.timer.Status.TheVariants.{Armed, Expired, Delivered}}
use Rattle.ert_defs.specs.{declared.timer.Status.TheVariants.{Cancelled, Orphaned, Dropped}, declared.timer.TimerRef.TimerRef, Entries.{entry_by, probe_entry}}
use Rattle.ert_table.specs.{Takes.Appends, declared.carry.Settle.Settle, declared.carry.Settle.TheVariants.{Cancel as ToCancel, Expire as ToExpire, Orphan as ToOrphan, Deliver as ToDeliver, Drop as ToDrop}}
use Rattle.ert_table.specs.{declared.carry.TimerCarry.TimerCarry, declared.carry.TimerCarry.TheVariants.{Probe as ToProbe, Peek as ToPeek}, declared.view.View.View, Ranges.{shown_generation, word_deadline, word_generation}}

-- the status of a code
abbrev pub status_by : ℕ → Option Status
status_by code =
    cond (nat_eq code 1) (Some Armed)
    (cond (nat_eq code 2) (Some Expired)
    (cond (nat_eq code 3) (Some Delivered)
    (cond (nat_eq code 4) (Some Cancelled)
    (cond (nat_eq code 5) (Some Orphaned)
    (cond (nat_eq code 6) (Some Dropped)
    (cond (nat_eq code 7) (Some Armed) None))))))

-- the status in the word of a slot, None where it was never used
abbrev pub status_in : ℕ → Option Status
status_in n = status_by (n % 8)

-- a timer has a row with this deadline
pub record HasRow (s : State) (timer : TimerRef) (deadline : ℕ) : Type 0 where
  pub row : Row
  pub stands : row_of (s.rows timer.wheel) timer ≡ Some row
  pub due : row.deadline ≡ deadline

-- the status that a timer has before it is settled or handed over
abbrev pub status_from : Settle → Status
status_from ToCancel = Armed
status_from ToExpire = Armed
status_from ToOrphan = Armed
status_from ToDeliver = Expired
status_from ToDrop = Expired

-- the status that a timer gets when it is settled or handed over
abbrev pub status_to : Settle → Status
status_to ToCancel = Cancelled
status_to ToExpire = Expired
status_to ToOrphan = Orphaned
status_to ToDeliver = Delivered
status_to ToDrop = Dropped

-- with whom a message is delivered: the mailbox of its destination
abbrev pub mailbox_actor : Option Row → Option Actor
mailbox_actor None = None
mailbox_actor (Some row) = Some (MailOf row.dest)

-- what is recorded where a timer is settled or handed over by one that knows this state
abbrev pub hit_entry : Settings → State → Actor → TimerRef → ℕ → Settle → Entry
hit_entry g s by timer deadline ToCancel = entry_by by None (Cancel timer (Some (left g deadline (s.looked by))))
hit_entry g s by timer deadline ToExpire = entry_by by (Some (Wheel timer.wheel)) (Expire timer)
hit_entry g s by timer deadline ToOrphan = entry_by by (Some (Wheel timer.wheel)) (Orphan timer)
hit_entry g s by timer deadline ToDeliver = entry_by by (mailbox_actor (row_of (s.rows timer.wheel) timer)) (Deliver timer)
hit_entry g s by timer deadline ToDrop = entry_by by None (Drop timer)

-- a timer wasn't armed when it was to be settled, and the last timer of its slot was looked at. That one
-- isn't armed either where it is the same, as the pass knows that holds the wheel
pub record Probes (g : Settings) (v : View) (by : Actor) (timer : TimerRef) (w : View) : Type 0 where
  pub found : Option Status
  pub step : Appends g v (probe_entry by timer.wheel timer.slot found) w
  pub not_armed : (state g v.front).last timer.wheel timer.slot ≡ timer.generation → found ≢ Some Armed

-- what is recorded where a timer isn't in the status that it is to be taken from; one that expired is,
-- until it is handed over
abbrev pub Misses : Settings → View → Actor → TimerRef → Settle → View → Type 0
Misses g v by timer ToCancel w = Appends g v (entry_by by None (Cancel timer None)) w
Misses g v by timer ToExpire w = Probes g v by timer w
Misses g v by timer ToOrphan w = Probes g v by timer w
Misses g v by timer ToDeliver w = ⊥
Misses g v by timer ToDrop w = ⊥

-- a timer was settled or handed over, or was not in the status for that
abbrev pub Settles : Settings → View → Actor → TimerRef → ℕ → Settle → Bool → View → Type 0
Settles g v by timer deadline how true w = Appends g v (hit_entry g (state g v.front) by timer deadline how) w
Settles g v by timer deadline how false w = Misses g v by timer how w

-- the entry of a miss, where the word was n
abbrev pub miss_entry : Entry → Actor → TimerRef → Settle → ℕ → Entry
miss_entry hit by timer ToCancel n = entry_by by None (Cancel timer None)
miss_entry hit by timer ToExpire n = probe_entry by timer.wheel timer.slot (status_in n)
miss_entry hit by timer ToOrphan n = probe_entry by timer.wheel timer.slot (status_in n)
miss_entry hit by timer ToDeliver n = hit
miss_entry hit by timer ToDrop n = hit

-- the entry of the step, where the word was n
abbrev pub settle_entry : Settings → State → Actor → TimerRef → ℕ → Settle → ℕ → Entry
settle_entry g s by timer deadline how n =
    let hit = hit_entry g s by timer deadline how in
    cond (nat_eq n (timer_word (status_from how) deadline timer.generation)) hit (miss_entry hit by timer how n)

-- what a word of a slot shows of its last timer: status, deadline and generation
abbrev pub ShownWord : Type 0
ShownWord = Status × ℕ × ℕ

-- the wheel of the slot that is looked at
abbrev pub wheel_in : TimerCarry → ℕ
wheel_in (ToProbe wheel slot) = wheel
wheel_in (ToPeek timer) = timer.wheel

-- the number of the slot that is looked at
abbrev pub slot_in : TimerCarry → ℕ
slot_in (ToProbe wheel slot) = slot
slot_in (ToPeek timer) = timer.slot

-- what is shown of a slot by its last timer: its status, its row and its generation
abbrev pub shown_by : Option Status → Option Row → ℕ → Option ShownWord
shown_by (Some status) (Some row) generation = Some (status, row.deadline, shown_generation status generation)
shown_by _ _ generation = None

-- what is shown of a slot in a state
abbrev pub shown_in : State → ℕ → ℕ → Option ShownWord
shown_in s w k =
    let timer = timer_at w k (s.last w k) in
    shown_by (s.status timer) (row_of (s.rows w) timer) (s.last w k)

-- the milliseconds left of a timer by what was shown of its slot: an older timer of the slot isn't armed
abbrev pub left_of_shown : Settings → ℤ → ℕ → Status → ℕ → ℕ → Option ℕ
left_of_shown g look wanted Armed deadline generation = cond (nat_eq generation wanted) (Some (left g deadline look)) None
left_of_shown g look wanted _ deadline generation = None

-- the milliseconds left of a timer of this generation, by what is shown of its slot, if anything is
abbrev pub left_shown : Settings → ℤ → ℕ → Option ShownWord → Option ℕ
left_shown g look wanted None = None
left_shown g look wanted (Some shown) = left_of_shown g look wanted shown.0 shown.1 shown.2

-- what is recorded where the word of a slot is loaded by one with this last look
abbrev pub read_entry : Settings → ℤ → Actor → TimerCarry → Option ShownWord → Entry
read_entry g look by (ToProbe wheel slot) shown = probe_entry by wheel slot (option_map (λ x. x.0) shown)
read_entry g look by (ToPeek timer) shown = entry_by by None (Peek timer (left_shown g look timer.generation shown))

-- what the word of a slot shows
abbrev pub parts_in : ℕ → Option ShownWord
parts_in n = option_map (λ status. (status, word_deadline n, word_generation n)) (status_in n)
