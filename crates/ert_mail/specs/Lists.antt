-- The processes that are listed since their mailboxes may have mail, in a row.

use Rattle.std.specs.Prelude.{◌≡◌, ◌≢◌, ℕ, ◌+◌, ◌<◌, ◌≤◌, Bool, true, false, map, filter, List, [], ◌∷◌, ◌++◌, length, Option, Some, None, slice_index_or, if◌then◌else◌}
use Rattle.ert_defs.specs.{Entries.mark_entry, States.State, declared.entry.Actor.TheVariants.Caller, declared.entry.Entry.Entry, declared.mail.Mail.Mail, declared.settings.Settings.Settings}
use Rattle.ert_table.specs.{Held.is_held, declared.view.View.View}
use Rattle.ert_mail.specs.{Mailboxes.Mailbox, Turns.{TurnRow, is_listed}}

-- a row has those that are listed
pub record IsRow (row : TurnRow) (listed : List Bool) : Type 0 where
  pub counted : row.bound ≡ length listed
  pub each : (p : ℕ) → is_listed row p ≡ slice_index_or listed p false

-- a row with a process: it is put last, unless it stands in the row
abbrev pub with_listed : TurnRow → ℕ → TurnRow
with_listed row p = (if is_listed row p then row else record row { held = row.held ++ p ∷ [] })

-- each of these mailboxes that has mail is listed, where its process hasn't exited
pub record AreListed (exited : ℕ → Bool) (row : TurnRow) (mails : List Mailbox) : Type 0 where
  pub counted : row.bound ≡ length mails
  pub each : (p : ℕ) (d : Mailbox) → p < length mails → (slice_index_or mails p d).held.queue ≢ [] → exited p ≡ false
      → is_listed row p ≡ true

-- which processes have exited, counted from a first one
abbrev pub exited_from : ℕ → (ℕ → Bool) → ℕ → Bool
exited_from first exited = λ p. exited (first + p)

-- these are the mailboxes of the processes from a first one on: each has the messages of its process
abbrev pub HaveMailFrom : ℕ → State → List Mailbox → Type 0
HaveMailFrom first s mails = (p : ℕ) (d : Mailbox) → p < length mails → (slice_index_or mails p d).held.queue ≡ (s.mails (first + p)).queue

-- a pass can look at each of so many processes from a first one on: it holds a caller, and all are in range
pub record CanLook (g : Settings) (v : View) (by first count : ℕ) : Type 0 where
  pub held : is_held v.actors (Caller by) ≡ true
  pub below : by < g.callers
  pub within : first + count ≤ g.processes

-- this process hasn't exited and its mailbox has mail, or each that has mail has exited
abbrev pub IsNextIn : (ℕ → Bool) → List Mailbox → Option ℕ → Type 0
IsNextIn exited mails (Some p) = (p < length mails) × (exited p ≡ false) × ((d : Mailbox) → (slice_index_or mails p d).held.queue ≢ [])
IsNextIn exited mails None = (p : ℕ) (d : Mailbox) → p < length mails → (slice_index_or mails p d).held.queue ≢ [] → exited p ≡ true

-- whether messages wait
abbrev pub is_waiting : List Mail → Bool
is_waiting [] = false
is_waiting (mail ∷ later) = true

-- of some processes, counted from a first one, those that have mail
abbrev pub with_mail : ℕ → State → List ℕ → List ℕ
with_mail first s row = filter (λ p. is_waiting (s.mails (first + p)).queue) row

-- the entries of the looks that find these processes exited, counted from a first one
abbrev pub exits_seen : ℕ → ℕ → List ℕ → List Entry
exits_seen first by gone = map (λ p. mark_entry (Caller by) (first + p) false true) gone

-- the entry of the look that finds a process alive
abbrev pub life_seen : ℕ → ℕ → ℕ → List Entry
life_seen first by p = mark_entry (Caller by) (first + p) false false ∷ []

-- a process of a row has its turn: those before it have no mail or are found exited, and leave the row, and it is found
-- alive and put last
pub record HasTurn (first by : ℕ) (row : List ℕ) (p : ℕ) (after : List ℕ) (s : State) (es : List Entry) : Type 0 where
  pub passed : List ℕ
  pub later : List ℕ
  pub was : row ≡ passed ++ p ∷ later
  pub last : after ≡ later ++ p ∷ []
  pub entries : es ≡ exits_seen first by (with_mail first s passed) ++ life_seen first by p

-- a process with mail is looked for, by a caller, among those of a row: the first of them that hasn't exited has its turn,
-- and where each that has mail is found exited the row is empty then
abbrev pub LooksForMail : ℕ → ℕ → List ℕ → Option ℕ → List ℕ → State → List Entry → Type 0
LooksForMail first by row (Some p) after s es = HasTurn first by row p after s es
LooksForMail first by row None after s es = (after ≡ []) × (es ≡ exits_seen first by (with_mail first s row))
