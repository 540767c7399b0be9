-- What a message tells of a change of the time offset (`erlang` module reference, `monitor`, type
-- `time_offset`). The function of src/changes.rt carries the laws as its contract, so that they are proved.

use Rattle.std.specs.Prelude.{◌≡◌, ◌≢◌, ℕ, ℤ, cond, ◌&&◌, nat_eq, All, List, [], ◌∷◌, ◌++◌, Option, Some, None}
use Rattle.ert_defs.specs.{Legal.Legal, States.state, declared.entry.Entry.Entry, declared.entry.Event.Event, declared.entry.Event.TheVariants.{Watch, Tell}, declared.mail.Mail.Mail, declared.mail.Mail.TheVariants.Change}
use Rattle.ert_defs.specs.{declared.settings.Settings.Settings}
use Rattle.ert_laws.specs.MailOrder.{sent_at, taken_from}

-- the offset that an event tells a monitor of a process: the monitor is made with one, and a Tell is for all
-- monitors of the process
abbrev pub told_by : ℕ → ℕ → Event → Option ℤ
told_by p n (Watch process monitor offset) = cond (nat_eq process p && nat_eq monitor n) (Some offset) None
told_by p n (Tell process offset) = cond (nat_eq process p) (Some offset) None
told_by p n _ = None

-- the last entry of a history that told a monitor an offset, or made it: it told the offset as it was there
pub record LastTold (g : Settings) (h : List Entry) (p n : ℕ) (told : ℤ) : Type 0 where
  pub before : List Entry
  pub teller : Entry
  pub behind : List Entry
  pub stands : h ≡ before ++ (teller ∷ behind)
  pub tells : told_by p n teller.event ≡ Some told
  pub offset : told ≡ (state g before).clock.offset
  pub last : All (λ e. told_by p n e.event ≡ None) behind

-- an entry after a history is a Tell of the offset as it is there, and the offset that the monitor was last told
-- is another
pub record IsOwnTell (g : Settings) (h : List Entry) (e : Entry) (p n : ℕ) (offset : ℤ) : Type 0 where
  pub tell : e.event ≡ Tell p offset
  pub own : offset ≡ (state g h).clock.offset
  pub told : ℤ
  pub last : LastTold g h p n told
  pub differs : told ≢ offset

-- what a message that an entry after a history puts into a mailbox tells a monitor is so
abbrev pub TellsTruly : Settings → List Entry → Entry → ℕ → Mail → Type 0
TellsTruly g h e p (Change n offset) = IsOwnTell g h e p n offset
TellsTruly g h e p _ = Unit {0}

-- each message of a change comes from a Tell of its own
abbrev pub LawOfChanges : Type 0
LawOfChanges = (g : Settings) (h : List Entry) (e : Entry) (p : ℕ) → Legal g (h ++ e ∷ [])
    → All (λ sent. TellsTruly g h e p sent.mail) (sent_at p (state g h) e)

-- a history has a Tell of its own, by which a monitor of a process was told this offset
pub record HasTell (g : Settings) (h : List Entry) (p n : ℕ) (offset : ℤ) : Type 0 where
  pub before : List Entry
  pub entry : Entry
  pub behind : List Entry
  pub stands : h ≡ before ++ (entry ∷ behind)
  pub own : IsOwnTell g before entry p n offset

-- a message tells what was so at a Tell of its own in a history, if it tells of a change
abbrev pub IsTold : Settings → List Entry → ℕ → Mail → Type 0
IsTold g h p (Change n offset) = HasTell g h p n offset
IsTold g h p _ = Unit {0}

-- so each Change that was taken from a mailbox, or stands in it, comes from such a Tell
abbrev pub LawOfChangesTold : Type 0
LawOfChangesTold = (g : Settings) (h : List Entry) (p : ℕ) → Legal g h
    → All (IsTold g h p) (taken_from p h ++ ((state g h).mails p).queue)
