-- The readers of the parts of settings and entries.

use Rattle.std.specs.Prelude.{ℕ, ℤ, ◌==◌, Bool, true, false, List, [], ◌∷◌, codes, Option, Some, None, option_map, if◌then◌else◌}
use Rattle.std.specs.Str.{bytes_eq}
use Rattle.ert_defs.specs.declared.{entry.Act.Act, entry.Act.TheVariants.{Plain, Force, Finalize}, entry.Actor.Actor, entry.Actor.TheVariants.{Keeper, Wheel, Inbox, Sched, MailOf, Caller}, mail.Mail.Mail, mail.Mail.TheVariants.Timeout}
use Rattle.ert_defs.specs.declared.{mail.Mail.TheVariants.{Bare as BareMail, CancelDone, ReadDone, Change}, mail.Request.Request, mail.RequestKind.RequestKind, mail.RequestKind.TheVariants.{Cancel as ToCancel, Read as ToRead}}
use Rattle.ert_defs.specs.declared.{settings.Mode.Mode, settings.Mode.TheVariants.{No, Single, Multi}, settings.OffsetState.OffsetState, settings.OffsetState.TheVariants.{Preliminary, Final, Volatile}, settings.Reading.Reading}
use Rattle.ert_defs.specs.declared.{timer.Kind.Kind, timer.Kind.TheVariants.{Wrapped, Bare}, timer.Start.Start, timer.Status.Status, timer.Status.TheVariants.{Armed, Expired, Delivered, Cancelled, Orphaned, Dropped}}
use Rattle.ert_defs.specs.declared.{timer.TimerRef.TimerRef, timer.When.When, timer.When.TheVariants.{After, At}}
use Rattle.ert_audit.specs.Parts.{Word}
use Rattle.ert_audit.specs.Readers.{Reader, ◌>>=◌, done, meant, keyword, choice, optional, natural_of, small_of, integer_of}

-- a number of 32 bits
unfoldable pub read_small : Reader ℕ
read_small = meant small_of

-- a number of 64 bits
unfoldable pub read_natural : Reader ℕ
read_natural = meant natural_of

-- a number of 64 bits that may be negative
unfoldable pub read_integer : Reader ℤ
read_integer = meant integer_of

-- the names of truth values
abbrev pub bool_names : List (Word × Bool)
bool_names = (codes "true", true) ∷ (codes "false", false) ∷ []

-- a truth value
unfoldable pub read_bool : Reader Bool
read_bool = keyword bool_names

-- the names of time warp modes
abbrev pub mode_names : List (Word × Mode)
mode_names = (codes "no", No) ∷ (codes "single", Single) ∷ (codes "multi", Multi) ∷ []

-- a time warp mode
unfoldable pub read_mode : Reader Mode
read_mode = keyword mode_names

-- the names of states of the offset
abbrev pub state_names : List (Word × OffsetState)
state_names = (codes "preliminary", Preliminary) ∷ (codes "final", Final) ∷ (codes "volatile", Volatile) ∷ []

-- a state of the offset
unfoldable pub read_state : Reader OffsetState
read_state = keyword state_names

-- the names of what ticks are for
abbrev pub act_names : List (Word × Act)
act_names = (codes "plain", Plain) ∷ (codes "force", Force) ∷ (codes "finalize", Finalize) ∷ []

-- what a tick is for
unfoldable pub read_act : Reader Act
read_act = keyword act_names

-- the names of where timers stand
abbrev pub status_names : List (Word × Status)
status_names =
    (codes "armed", Armed) ∷ (codes "expired", Expired) ∷ (codes "delivered", Delivered)
    ∷ (codes "cancelled", Cancelled) ∷ (codes "orphaned", Orphaned) ∷ (codes "dropped", Dropped) ∷ []

-- where a timer stands
unfoldable pub read_status : Reader Status
read_status = keyword status_names

-- the names of what timers send
abbrev pub kind_names : List (Word × Kind)
kind_names = (codes "wrapped", Wrapped) ∷ (codes "bare", Bare) ∷ []

-- what a timer sends
unfoldable pub read_kind : Reader Kind
read_kind = keyword kind_names

-- the names of what requests ask for
abbrev pub request_kind_names : List (Word × RequestKind)
request_kind_names = (codes "cancel", ToCancel) ∷ (codes "read", ToRead) ∷ []

-- what a request asks for
unfoldable pub read_request_kind : Reader RequestKind
read_request_kind = keyword request_kind_names

-- the actor of a letter and a number
abbrev pub lettered : ℕ → Option ℕ → Option Actor
lettered letter number =
    if letter == 119 then option_map Wheel number
    else if letter == 105 then option_map Inbox number
    else if letter == 115 then option_map Sched number
    else if letter == 109 then option_map MailOf number
    else if letter == 99 then option_map Caller number
    else None

-- the clock, whose letter has no number
abbrev pub keeper_of : List ℕ → Option Actor
keeper_of [] = Some Keeper
keeper_of (digit ∷ digits) = None

-- the actor that a word names
unfoldable pub actor_of : Word → Option Actor
actor_of [] = None
actor_of (letter ∷ digits) = if letter == 107 then keeper_of digits else lettered letter (small_of digits)

-- an actor
unfoldable pub read_actor : Reader Actor
read_actor = meant actor_of

-- the second actor that a word names, or that there is none
unfoldable pub with_of : Word → Option (Option Actor)
with_of word = if bytes_eq word (codes "-") then Some None else option_map Some (actor_of word)

-- a second actor, or none
unfoldable pub read_with : Reader (Option Actor)
read_with = meant with_of

-- a reading
unfoldable pub read_reading : Reader Reading
read_reading = do
  mono ← read_integer
  sys ← read_integer
  done (record { mono = mono; sys = sys })

-- a reference to a timer
unfoldable pub read_timer : Reader TimerRef
read_timer = do
  wheel ← read_small
  slot ← read_small
  generation ← read_natural
  done (record { wheel = wheel; slot = slot; generation = generation })

-- the words after which a time is read
abbrev pub when_rows : List (Word × Reader When)
when_rows =
    (codes "after", read_integer >>= (λ z. done (After z)))
    ∷ (codes "at", read_integer >>= (λ z. done (At z)))
    ∷ []

-- when a timer is to expire
unfoldable pub read_when : Reader When
read_when = choice when_rows

-- what a timer is started with
unfoldable pub read_start : Reader Start
read_start = do
  when ← read_when
  dest ← read_small
  msg ← read_natural
  kind ← read_kind
  done (record { when = when; dest = dest; msg = msg; kind = kind })

-- a request
unfoldable pub read_request : Reader Request
read_request = do
  kind ← read_request_kind
  timer ← read_timer
  reply_to ← read_small
  info ← read_bool
  done (record { kind = kind; timer = timer; reply_to = reply_to; info = info })

-- how many milliseconds were left
unfoldable pub read_left : Reader (Option ℕ)
read_left = optional read_natural

-- the fields of `timeout`
unfoldable pub read_timeout : Reader Mail
read_timeout = do
  timer ← read_timer
  msg ← read_natural
  done (Timeout timer msg)

-- the fields of `bare`
unfoldable pub read_bare : Reader Mail
read_bare = do
  msg ← read_natural
  done (BareMail msg)

-- the fields of `cancel_done`
unfoldable pub read_cancel_done : Reader Mail
read_cancel_done = do
  timer ← read_timer
  left ← read_left
  done (CancelDone timer left)

-- the fields of `read_done`
unfoldable pub read_read_done : Reader Mail
read_read_done = do
  timer ← read_timer
  left ← read_left
  done (ReadDone timer left)

-- the fields of `change`
unfoldable pub read_change : Reader Mail
read_change = do
  monitor ← read_small
  offset ← read_integer
  done (Change monitor offset)

-- the name of each message, and how its fields are read
abbrev pub mail_rows : List (Word × Reader Mail)
mail_rows =
    (codes "timeout", read_timeout)
    ∷ (codes "bare", read_bare)
    ∷ (codes "cancel_done", read_cancel_done)
    ∷ (codes "read_done", read_read_done)
    ∷ (codes "change", read_change)
    ∷ []

-- a message in a mailbox
unfoldable pub read_mail : Reader Mail
read_mail = choice mail_rows
