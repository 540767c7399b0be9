-- What the calls on asynchronous requests record and answer (`erlang` module reference, `cancel_timer` and
-- `read_timer`, option `async`).

use Rattle.std.specs.Prelude.{◌≡◌, ℕ, List, [], ◌∷◌, ◌++◌, Option, Result, Ok, Err}
use Rattle.ert_defs.specs.{Entries.{ask_entry, pick_entry, answer_entry}, States.State, declared.entry.Actor.TheVariants.Sched, declared.entry.Entry.Entry, declared.mail.Request.Request, declared.mail.RequestKind.RequestKind}
use Rattle.ert_defs.specs.{declared.mail.RequestKind.TheVariants.{Cancel as ToCancel, Read as ToRead}, declared.memory.NoMemory.NoMemory, declared.settings.Settings.Settings, declared.timer.TimerRef.TimerRef}
pub use Rattle.ert_defs.specs.Mails.{inbox_for}
use Rattle.ert_effects.specs.TimerCalls.{Reads, Cancels}

-- `ask`, by a caller, in an inbox: that of the reference's wheel, or the first where there is no such wheel
abbrev pub Asks : Settings → ℕ → ℕ → Request → Result (Unit {0}) NoMemory → State → List Entry → Type 0
Asks g by w request (Ok _) s es = es ≡ ask_entry by w request ∷ []
Asks g by w request (Err e) s es = es ≡ []

-- `pick`, by a scheduler with its inbox: Pick; the answer is the request, or none
abbrev pub Picks : Settings → ℕ → Option Request → State → List Entry → Type 0
Picks g w got s es = es ≡ pick_entry w got ∷ []

-- what a scheduler does for a request before it answers: it cancels or reads the timer
abbrev pub DoesAsked : RequestKind → Settings → ℕ → TimerRef → Option ℕ → State → List Entry → Type 0
DoesAsked ToCancel g w timer left s es = Cancels g (Sched w) timer left s es
DoesAsked ToRead g w timer left s es = Reads g (Sched w) timer left s es

-- a request is answered
pub record HasAnswered (g : Settings) (w : ℕ) (request : Request) (left : Option ℕ) (s : State) (es : List Entry) : Type 0 where
  pub steps : List Entry
  pub done : DoesAsked request.kind g w request.timer left s steps
  pub entries : es ≡ steps ++ answer_entry w request.reply_to left ∷ []

-- `answer`, by a scheduler with the mailbox: the entries of `cancel_timer` or `read_timer` for the request's
-- timer, then Answer; the answer is what was left
abbrev pub Answers : Settings → ℕ → Request → Result (Option ℕ) NoMemory → State → List Entry → Type 0
Answers g w request (Ok left) s es = HasAnswered g w request left s es
Answers g w request (Err e) s es = es ≡ []
