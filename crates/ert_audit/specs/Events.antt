-- The readers of events, entries and settings.

use Rattle.std.specs.Prelude.{ℕ, ℤ, Bool, List, [], ◌∷◌, codes}
use Rattle.ert_defs.specs.declared.{entry.Entry.Entry, entry.Event.Event, entry.Event.TheVariants.{Tick, Shift, Look, Off, Arm, Probe, Peek, Cancel, Expire, Orphan, Deliver, Drop, Mark, Advanced, Ask, Pick, Answer, Take, Unwatch, Watch}}
use Rattle.ert_defs.specs.declared.{entry.Event.TheVariants.Tell, settings.Mode.Mode, settings.Settings.Settings, settings.TheConstants.SCENARIO_LOOKS}
use Rattle.ert_audit.specs.Parts.{Word}
use Rattle.ert_audit.specs.Readers.{Reader, ◌>>=◌, done, choice, optional}
use Rattle.ert_audit.specs.Reading.{read_small, read_natural, read_integer, read_bool, read_mode, read_state, read_act, read_status, read_actor, read_with, read_reading, read_timer, read_start, read_request, read_left, read_mail}

-- the fields of `tick`
unfoldable pub read_tick : Reader Event
read_tick = do
  reading ← read_reading
  act ← read_act
  now ← read_integer
  done (Tick reading act now)

-- the fields of `shift`
unfoldable pub read_shift : Reader Event
read_shift = do
  offset ← read_integer
  state ← read_state
  done (Shift offset state)

-- the fields of `look`
unfoldable pub read_look : Reader Event
read_look = do
  now ← read_integer
  done (Look now)

-- the fields of `off`
unfoldable pub read_off : Reader Event
read_off = do
  offset ← read_integer
  state ← read_state
  done (Off offset state)

-- the fields of `arm`
unfoldable pub read_arm : Reader Event
read_arm = do
  timer ← read_timer
  start ← read_start
  done (Arm timer start)

-- the fields of `probe`
unfoldable pub read_probe : Reader Event
read_probe = do
  wheel ← read_small
  slot ← read_small
  found ← optional read_status
  done (Probe wheel slot found)

-- the fields of `peek`
unfoldable pub read_peek : Reader Event
read_peek = do
  timer ← read_timer
  left ← read_left
  done (Peek timer left)

-- the fields of `cancel`
unfoldable pub read_cancel : Reader Event
read_cancel = do
  timer ← read_timer
  left ← read_left
  done (Cancel timer left)

-- the fields of `expire`
unfoldable pub read_expire : Reader Event
read_expire = do
  timer ← read_timer
  done (Expire timer)

-- the fields of `orphan`
unfoldable pub read_orphan : Reader Event
read_orphan = do
  timer ← read_timer
  done (Orphan timer)

-- the fields of `deliver`
unfoldable pub read_deliver : Reader Event
read_deliver = do
  timer ← read_timer
  done (Deliver timer)

-- the fields of `drop`
unfoldable pub read_drop : Reader Event
read_drop = do
  timer ← read_timer
  done (Drop timer)

-- the fields of `mark`
unfoldable pub read_mark : Reader Event
read_mark = do
  process ← read_small
  exits ← read_bool
  was ← read_bool
  done (Mark process exits was)

-- the fields of `advanced`
unfoldable pub read_advanced : Reader Event
read_advanced = do
  wheel ← read_small
  to ← read_natural
  done (Advanced wheel to)

-- the fields of `ask`
unfoldable pub read_ask : Reader Event
read_ask = do
  wheel ← read_small
  request ← read_request
  done (Ask wheel request)

-- the fields of `pick`
unfoldable pub read_pick : Reader Event
read_pick = do
  wheel ← read_small
  got ← optional read_request
  done (Pick wheel got)

-- the fields of `answer`
unfoldable pub read_answer : Reader Event
read_answer = do
  wheel ← read_small
  left ← read_left
  done (Answer wheel left)

-- the fields of `take`
unfoldable pub read_take : Reader Event
read_take = do
  process ← read_small
  got ← optional read_mail
  done (Take process got)

-- the fields of `unwatch`
unfoldable pub read_unwatch : Reader Event
read_unwatch = do
  process ← read_small
  monitor ← read_small
  was ← read_bool
  done (Unwatch process monitor was)

-- the fields of `watch`
unfoldable pub read_watch : Reader Event
read_watch = do
  process ← read_small
  monitor ← read_small
  offset ← read_integer
  done (Watch process monitor offset)

-- the fields of `tell`
unfoldable pub read_tell : Reader Event
read_tell = do
  process ← read_small
  offset ← read_integer
  done (Tell process offset)

-- the names of the events from the marking of a process on, and how the fields of each are read
abbrev pub later_rows : List (Word × Reader Event)
later_rows =
    (codes "mark", read_mark)
    ∷ (codes "advanced", read_advanced)
    ∷ (codes "ask", read_ask)
    ∷ (codes "pick", read_pick)
    ∷ (codes "answer", read_answer)
    ∷ (codes "take", read_take)
    ∷ (codes "unwatch", read_unwatch)
    ∷ (codes "watch", read_watch)
    ∷ (codes "tell", read_tell)
    ∷ []

-- the name of each event, and how its fields are read
abbrev pub event_rows : List (Word × Reader Event)
event_rows =
    (codes "tick", read_tick)
    ∷ (codes "shift", read_shift)
    ∷ (codes "look", read_look)
    ∷ (codes "off", read_off)
    ∷ (codes "arm", read_arm)
    ∷ (codes "probe", read_probe)
    ∷ (codes "peek", read_peek)
    ∷ (codes "cancel", read_cancel)
    ∷ (codes "expire", read_expire)
    ∷ (codes "orphan", read_orphan)
    ∷ (codes "deliver", read_deliver)
    ∷ (codes "drop", read_drop)
    ∷ later_rows

-- an event
unfoldable pub read_event : Reader Event
read_event = choice event_rows

-- an entry
unfoldable pub read_one_entry : Reader Entry
read_one_entry = do
  by ← read_actor
  with ← read_with
  event ← read_event
  done (record { by = by; with = with; event = event })

-- the fields of settings after these; the looks are those of scenarios, since no rule of a history speaks of them
unfoldable pub read_later_fields : Mode → Bool → ℤ → ℕ → Reader Settings
read_later_fields mode correction start schedulers = do
  processes ← read_small
  slots ← read_small
  callers ← read_small
  first ← read_reading
  done (record {
    mode = mode;
    correction = correction;
    start = start;
    schedulers = schedulers;
    processes = processes;
    slots = slots;
    looks = SCENARIO_LOOKS;
    callers = callers;
    first = first;
  })

-- the fields of settings
unfoldable pub read_fields : Reader Settings
read_fields = do
  mode ← read_mode
  correction ← read_bool
  start ← read_integer
  schedulers ← read_small
  read_later_fields mode correction start schedulers

-- the word before the fields of settings
abbrev pub settings_rows : List (Word × Reader Settings)
settings_rows = (codes "settings", read_fields) ∷ []

-- settings
unfoldable pub read_settings : Reader Settings
read_settings = choice settings_rows
