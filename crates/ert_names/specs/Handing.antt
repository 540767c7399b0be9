-- How the messages of the registrar are handed over, one after the other.

use Rattle.std.specs.Prelude.{◌≡◌, ℕ, ◌+◌, ◌<◌, Bool, List, [], ◌∷◌, length, Option, Some, None, is_some, Result, Ok, Err}
use Rattle.ert_effects.specs.{Ways.Then, declared.answers.Taken.Taken, declared.answers.Taken.TheVariants.Mail as OneMail}
use Rattle.ert_defs.specs.{States.state, declared.mail.Mail.Mail, declared.mail.Mail.TheVariants.Timeout, declared.memory.NoMemory.NoMemory}
use Rattle.ert_names.specs.{Calls.{GoesLone, GoesAlone, HandsMessagesOver, AreCounted, Message, TakesFirst, TakesMany, FindsNoMessage, posted}, Fits.FitsRows, Registered.Registered}
use Rattle.ert_world.specs.Worlds.{Seen}

-- the messages that wait for the registrar
abbrev pub waiting : Seen → List Mail
waiting w = ((state w.settings w.history).mails 0).queue

-- what was taken, where it is the message of a wrapped timer
abbrev pub timeout_of : Taken → Option Message
timeout_of (OneMail (Timeout timer msg)) = Some (timer, msg)
timeout_of _ = None

-- the first message is taken, and it is of one of so many rows
pub record HasTakenFirst (n : ℕ) (old : Seen) (message : Message) (new : Seen) : Type 0 where
  pub goes : GoesLone old (TakesFirst old.settings message) new
  pub known : message.1 < n
  pub first : waiting old ≡ Timeout message.0 message.1 ∷ waiting new

-- none waits
pub record HasNone (old new : Seen) : Type 0 where
  pub goes : GoesLone old (FindsNoMessage old.settings) new
  pub empty : waiting new ≡ []

-- the registrar's first message is taken, or none waits; and the world fits so many rows still
abbrev pub TakesNext : ℕ → Seen → Option Message → Seen → Type 0
TakesNext n old (Some message) new = HasTakenFirst n old message new × FitsRows n new
TakesNext n old None new = HasNone old new × FitsRows n new

-- one message is handed over, or lost
pub record HandsOne (old : Registered) (handed : Bool) (new : Registered) : Type 0 where
  pub message : Message
  pub hands : HandsMessagesOver old (message ∷ []) (TakesFirst old.world.settings message) new
  pub is_handed : handed ≡ is_some (posted old.names old.rows message)
  pub known : message.1 < length old.rows
  pub fewer : length (waiting old.world) ≡ length (waiting new.world) + 1

-- the registrar is found to have no message, and the names, the rows and the named mail stay
pub record HandsNone (old new : Registered) : Type 0 where
  pub alone : GoesAlone old (FindsNoMessage old.world.settings) new
  pub empty : waiting new.world ≡ []

-- the next message is handed over or lost, or there is none; when out of memory nothing changes
abbrev pub HandsNext : Registered → Result (Option Bool) NoMemory → Registered → Type 0
HandsNext old (Ok (Some handed)) new = HandsOne old handed new
HandsNext old (Ok None) new = HandsNone old new
HandsNext old (Err e) new = new ≡ old

-- all messages that wait are handed over or lost: so many of each
pub record HandsThem (old : Registered) (answer : ℕ × ℕ) (new : Registered) : Type 0 where
  pub messages : List Message
  pub hands : HandsMessagesOver old messages (λ way. Then (TakesMany old.world.settings messages way) (FindsNoMessage old.world.settings way)) new
  pub counted : AreCounted old messages answer.0 answer.1
  pub empty : waiting new.world ≡ []

-- some messages are handed over or lost, one after the other
pub record HandsSome (old new : Registered) : Type 0 where
  pub messages : List Message
  pub hands : HandsMessagesOver old messages (TakesMany old.world.settings messages) new

-- all messages are, or, out of memory, only some
abbrev pub HandsAll : Registered → Result (ℕ × ℕ) NoMemory → Registered → Type 0
HandsAll old (Ok answer) new = HandsThem old answer new
HandsAll old (Err e) new = HandsSome old new
