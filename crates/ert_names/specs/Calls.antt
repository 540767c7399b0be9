-- How each call changes the names, the rows and the named mail, and how it makes the world's history grow.

use Rattle.std.specs.Prelude.{◌≡◌, ◌≢◌, ◌⊎◌, ℕ, zero, suc, ◌+◌, All, Bool, ◌<◌, ◌≤◌, true, false, cond, nat_eq, List, [], ◌∷◌, ◌++◌, length, slice_index_or, filter_map, Option, Some, None, option_map, Result, Ok, Err, codes}
use Rattle.std.specs.FinMap as map
use Rattle.std.specs.List.{remove}
use Rattle.ert_effects.specs.{Chains.Turns, MailCalls.Takes, TimerCalls.Starts, WheelCalls.TellsAlive, Ways.{Growth, Way, Then, Many}, declared.answers.StartErr.StartErr, declared.answers.Taken.TheVariants.Mail as OneMail}
use Rattle.ert_effects.specs.{declared.answers.Taken.TheVariants.Empty as NoMail, declared.answers.Turned.Turned}
use Rattle.ert_effects.specs.declared.answers.StartErr.TheVariants as starts
use Rattle.ert_defs.specs.{States.state, declared.entry.Actor.TheVariants.Caller, declared.mail.Mail.TheVariants.Timeout, declared.memory.NoMemory.NoMemory as OutOfMemory, declared.settings.Settings.Settings}
use Rattle.ert_defs.specs.{declared.timer.Kind.TheVariants.Wrapped, declared.timer.Start.Start, declared.timer.TimerRef.TimerRef, declared.timer.When.When}
use Rattle.ert_names.specs.{Names.{Names, IsWithout, Unnamed}, Registered.{Registered, RowSeen}, declared.named.NameErr.NameErr, declared.named.NameErr.TheVariants.{BadArg, NoMemory}, declared.named.NamedMail.NamedMail}
use Rattle.ert_names.specs.{declared.named.NamedTaken.NamedTaken, declared.named.NamedTaken.TheVariants.{Mail, Empty, Exited}, declared.named.NamedTurn.NamedTurn}
use Rattle.ert_world.specs.Worlds.{Seen, Goes, By}

-- a world that gave out no seat makes a call: so its history grows as that of one thread
pub record GoesLone (old : Seen) (call : Way → Growth) (new : Seen) : Type 0 where
  pub goes : Goes old call new
  pub lone : old.next ≡ 1

-- the world makes a call, and the names, the rows and the named mail stay
pub record GoesAlone (old : Registered) (call : Way → Growth) (new : Registered) : Type 0 where
  pub goes : GoesLone old.world call new.world
  pub names : new.names ≡ old.names
  pub rows : new.rows ≡ old.rows
  pub mail : new.mail ≡ old.mail

-- the same of a call that may move the clock
abbrev pub GoesAloneOnClock : Registered → (Way → Growth) → Registered → Type 0
GoesAloneOnClock old call new =
    let world : Seen = record old.world { clock = new.world.clock } in GoesAlone (record old { world = world }) call new

-- it is seen whether a process has exited: `alive` where it hasn't
abbrev pub SeesAlive : Registered → ℕ → Bool → Registered → Type 0
SeesAlive old process alive new = GoesAlone old (By old.world (λ g. TellsAlive g (Caller 0) process alive)) new

-- a text that may be a name (`erlang` module reference, `register`; that bytes are counted, and not
-- characters, is the profile's): 1 to 255 bytes, and not `undefined`
pub record IsValidName (name : List ℕ) : Type 0 where
  pub some : 1 ≤ length name
  pub few : length name ≤ 255
  pub defined : name ≢ codes "undefined"

-- a name and a process that may be put together, if the process hasn't exited
pub record AreFree (names : Names) (name : List ℕ) (process : ℕ) : Type 0 where
  pub may : IsValidName name
  pub unused : map.get names name ≡ None
  pub not_registrar : process ≢ 0
  pub unnamed : Unnamed names process

-- a name was given to a process that lives
pub record HasRegistered (old : Registered) (name : List ℕ) (process : ℕ) (new : Registered) : Type 0 where
  pub free : AreFree old.names name process
  pub lives : GoesLone old.world (By old.world (λ g. TellsAlive g (Caller 0) process true)) new.world
  pub names : new.names ≡ map.insert old.names name process
  pub rows : new.rows ≡ old.rows
  pub mail : new.mail ≡ old.mail

-- a name wasn't given: it or the process may not be put together, and nothing changed; or the process was seen
-- to have exited
abbrev pub IsBadName : Registered → List ℕ → ℕ → Registered → Type 0
IsBadName old name process new =
    ((AreFree old.names name process → ⊥) × (new ≡ old)) ⊎ (AreFree old.names name process × SeesAlive old process false new)

-- `register` (`erlang` module reference, `register`). Ok: the process was seen to live, and the name is in the
-- map. BadArg: name and process may not be put together and nothing changed, or the process was seen to have
-- exited. Out of memory comes only where the name could have been given
abbrev pub Registers : Registered → List ℕ → ℕ → Result (Unit {0}) NameErr → Registered → Type 0
Registers old name process (Ok _) new = HasRegistered old name process new
Registers old name process (Err BadArg) new = IsBadName old name process new
Registers old name process (Err NoMemory) new = AreFree old.names name process × SeesAlive old process true new

-- where a process hadn't exited before, its name goes when it exits
abbrev pub DropsName : Bool → Names → ℕ → Names → Type 0
DropsName true old process new = IsWithout old process new
DropsName false old process new = new ≡ old

-- `exit`: the world makes this call, the names change so, and the rows and the named mail stay
pub record ExitDropsName (old : Registered) (process : ℕ) (answer : Bool) (call : Way → Growth) (new : Registered) : Type 0 where
  pub goes : GoesLone old.world call new.world
  pub names : DropsName answer old.names process new.names
  pub rows : new.rows ≡ old.rows
  pub mail : new.mail ≡ old.mail

-- what the world starts for a name: a wrapped timer for the registrar, whose message is the place of its row
abbrev pub start_for_name : When → ℕ → Start
start_for_name when place = record { when = when; dest = 0; msg = place; kind = Wrapped }

-- the world's start of such a timer by caller 0, whose row comes next
abbrev pub StartsAt : Registered → ℕ → When → Result TimerRef StartErr → Way → Growth
StartsAt old wheel when answer = By old.world (λ g. Starts g 0 wheel (start_for_name when (length old.rows)) answer)

-- a timer was started for a name: its row is the last
pub record HasStartedForName (old : Registered) (row : RowSeen) (call : Way → Growth) (new : Registered) : Type 0 where
  pub goes : GoesLone old.world call new.world
  pub names : new.names ≡ old.names
  pub rows : new.rows ≡ old.rows ++ row ∷ []
  pub mail : new.mail ≡ old.mail

-- `start_named` (profile): the world starts a wrapped timer for process 0 whose message is the place of the
-- new row, the last. A refusal leaves no row, and running out of memory changes nothing
abbrev pub StartsNamed : Registered → ℕ → When → RowSeen → Result TimerRef StartErr → Registered → Type 0
StartsNamed old wheel when row (Ok timer) new = HasStartedForName old row (StartsAt old wheel when (Ok timer)) new
StartsNamed old wheel when row (Err starts.NoMemory) new = new ≡ old
StartsNamed old wheel when row (Err e) new = GoesAlone old (StartsAt old wheel when (Err e)) new

-- the row at a place
abbrev pub row_at_place : List RowSeen → ℕ → Option RowSeen
row_at_place [] place = None
row_at_place (r ∷ rows) zero = Some r
row_at_place (r ∷ rows) (suc place) = row_at_place rows place

-- the message of a named timer, as the registrar has it: the timer and the place of its row
abbrev pub Message : Type 0
Message = TimerRef × ℕ

-- the mail of a row's timer
abbrev pub named_mail_of : TimerRef → RowSeen → NamedMail
named_mail_of timer row = record { timer = timer; msg = row.msg; kind = row.kind }

-- the mail of a timer's row and its process: the one that has the name of the row
abbrev pub posted_by : Names → TimerRef → Option RowSeen → Option (ℕ × NamedMail)
posted_by names timer None = None
posted_by names timer (Some row) = option_map (λ process. (process, named_mail_of timer row)) (map.get names row.name)

-- the mail of a message of the registrar and its process; None where there is no such row, or no such process
abbrev pub posted : Names → List RowSeen → Message → Option (ℕ × NamedMail)
posted names rows message = posted_by names message.0 (row_at_place rows message.1)

-- this message is taken from the registrar, as its first
abbrev pub TakesFirst : Settings → Message → Way → Growth
TakesFirst g message way = way [] (Takes g 0 0 (OneMail (Timeout message.0 message.1)))

-- these messages are taken from the registrar, one after the other
abbrev pub TakesMany : Settings → List Message → Way → Growth
TakesMany g messages way = Many (λ message. TakesFirst g message way) messages

-- the registrar is found to have no message
abbrev pub FindsNoMessage : Settings → Way → Growth
FindsNoMessage g way = way [] (Takes g 0 0 NoMail)

-- messages are handed over: each becomes the last of the named mail, where a process has its name now
pub record HandsMessagesOver (old : Registered) (messages : List Message) (call : Way → Growth) (new : Registered) : Type 0 where
  pub goes : GoesLone old.world call new.world
  pub names : new.names ≡ old.names
  pub rows : new.rows ≡ old.rows
  pub mail : new.mail ≡ old.mail ++ filter_map (posted old.names old.rows) messages

-- so many messages were handed over, and so many were lost
pub record AreCounted (old : Registered) (messages : List Message) (handed lost : ℕ) : Type 0 where
  pub handed_is : handed ≡ length (filter_map (posted old.names old.rows) messages)
  pub taken_are : handed + lost ≡ length messages
  -- each is the message of a row: so what is lost has a name that no process has
  pub known : All (λ message. message.1 < length old.rows) messages

-- a turn is done: the scheduler's, and then all messages of the registrar are handed over
pub record HasTurnedAndHanded (old : Registered) (sched : ℕ) (t : NamedTurn) (new : Registered) : Type 0 where
  pub messages : List Message
  pub hands : HandsMessagesOver old messages
      (λ way. Then (Turns old.world.settings way sched (Ok t.turned))
      (Then (TakesMany old.world.settings messages way) (FindsNoMessage old.world.settings way))) new
  pub counted : AreCounted old messages t.handed t.lost
  pub empty : ((state new.world.settings new.world.history).mails 0).queue ≡ []

-- there is no memory for the scheduler's turn
-- or for the next message: those before it were handed over, and it and the others wait
pub record HasTurnedInPart (old : Registered) (sched : ℕ) (new : Registered) : Type 0 where
  pub turned : Turned
  pub messages : List Message
  pub hands : HandsMessagesOver old messages
      (λ way. Then (Turns old.world.settings way sched (Ok turned)) (TakesMany old.world.settings messages way)) new

-- `turn` (`erlang` module reference, `start_timer`: a registered name is looked up when the message is sent):
-- the world's turn; then one take of the registrar after the other, each message posted by the map as it is,
-- until the mailbox is empty
abbrev pub TurnsNamed : Registered → ℕ → Result NamedTurn OutOfMemory → Registered → Type 0
TurnsNamed old sched (Ok t) new = HasTurnedAndHanded old sched t new
TurnsNamed old sched (Err e) new =
    GoesAlone old (λ way. Turns old.world.settings way sched (Err e)) new ⊎ HasTurnedInPart old sched new

-- the first mail of a process among all that waits
abbrev pub first_for : ℕ → List (ℕ × NamedMail) → Option NamedMail
first_for process [] = None
first_for process (m ∷ ms) = cond (nat_eq m.0 process) (Some m.1) (first_for process ms)

-- all mail that waits, without the first of a process
abbrev pub others_for : ℕ → List (ℕ × NamedMail) → List (ℕ × NamedMail)
others_for process [] = []
others_for process (m ∷ ms) = cond (nat_eq m.0 process) ms (m ∷ others_for process ms)

-- the first so many mails are for other processes
abbrev pub ArePast : ℕ → ℕ → List (ℕ × NamedMail) → Type 0
ArePast process zero ms = Unit {0}
ArePast process (suc k) [] = Unit {0}
ArePast process (suc k) (m ∷ ms) = (nat_eq m.0 process ≡ false) × ArePast process k ms

-- the place of the first mail of a process
abbrev pub IsPlace : ℕ → List (ℕ × NamedMail) → Option ℕ → Type 0
IsPlace process ms None = (first_for process ms ≡ None) × (others_for process ms ≡ ms)
IsPlace process ms (Some k) = (k < length ms) × ((d : ℕ × NamedMail) → first_for process ms ≡ Some (slice_index_or ms k d).1) × (others_for process ms ≡ remove ms k)

-- a process that lives takes its first mail
pub record HasTaken (old : Registered) (process : ℕ) (new : Registered) : Type 0 where
  pub lives : GoesLone old.world (By old.world (λ g. TellsAlive g (Caller 0) process true)) new.world
  pub names : new.names ≡ old.names
  pub rows : new.rows ≡ old.rows
  pub mail : new.mail ≡ others_for process old.mail

-- `take_named`
abbrev pub TakesNamed : Registered → ℕ → NamedTaken → Registered → Type 0
TakesNamed old process (Mail mail) new = (first_for process old.mail ≡ Some mail) × HasTaken old process new
TakesNamed old process Empty new = (first_for process old.mail ≡ None) × SeesAlive old process true new
TakesNamed old process Exited new = SeesAlive old process false new
