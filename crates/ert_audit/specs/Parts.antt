-- The words of the parts of settings and entries.

use Rattle.std.specs.Prelude.{ℕ, ℤ, Bool, true, false, List, [], ◌∷◌, ◌++◌, codes, Option, Some, None}
use Rattle.std.specs.Fmt.{decimal, signed_decimal}
use Rattle.ert_defs.specs.declared.{entry.Act.Act, entry.Act.TheVariants.{Plain, Force, Finalize}, entry.Actor.Actor, entry.Actor.TheVariants.{Keeper, Wheel, Inbox, Sched, MailOf, Caller}, mail.Mail.Mail, mail.Mail.TheVariants.Timeout}
use Rattle.ert_defs.specs.declared.{mail.Mail.TheVariants.{Bare as BareMail, CancelDone, ReadDone, Change}, mail.Request.Request, mail.RequestKind.RequestKind, mail.RequestKind.TheVariants.{Cancel as ToCancel, Read as ToRead}}
use Rattle.ert_defs.specs.declared.{settings.Mode.Mode, settings.Mode.TheVariants.{No, Single, Multi}, settings.OffsetState.OffsetState, settings.OffsetState.TheVariants.{Preliminary, Final, Volatile}, settings.Reading.Reading}
use Rattle.ert_defs.specs.declared.{timer.Kind.Kind, timer.Kind.TheVariants.{Wrapped, Bare}, timer.Start.Start, timer.Status.Status, timer.Status.TheVariants.{Armed, Expired, Delivered, Cancelled, Orphaned, Dropped}}
use Rattle.ert_defs.specs.declared.{timer.TimerRef.TimerRef, timer.When.When, timer.When.TheVariants.{After, At}}

-- a word, as its bytes
abbrev pub Word : Type 0
Word = List ℕ

-- one number
abbrev pub number_words : ℕ → List Word
number_words n = decimal n ∷ []

-- one number that may be negative
abbrev pub integer_words : ℤ → List Word
integer_words z = signed_decimal z ∷ []

-- the word of a truth value
abbrev pub bool_word : Bool → Word
bool_word true = codes "true"
bool_word false = codes "false"

-- the word of a time warp mode
abbrev pub mode_word : Mode → Word
mode_word No = codes "no"
mode_word Single = codes "single"
mode_word Multi = codes "multi"

-- the word of a state of the offset
abbrev pub state_word : OffsetState → Word
state_word Preliminary = codes "preliminary"
state_word Final = codes "final"
state_word Volatile = codes "volatile"

-- the word of what a tick is for
abbrev pub act_word : Act → Word
act_word Plain = codes "plain"
act_word Force = codes "force"
act_word Finalize = codes "finalize"

-- the word of where a timer stands
abbrev pub status_word : Status → Word
status_word Armed = codes "armed"
status_word Expired = codes "expired"
status_word Delivered = codes "delivered"
status_word Cancelled = codes "cancelled"
status_word Orphaned = codes "orphaned"
status_word Dropped = codes "dropped"

-- the word of what a timer sends
abbrev pub kind_word : Kind → Word
kind_word Wrapped = codes "wrapped"
kind_word Bare = codes "bare"

-- the word of what a request asks for
abbrev pub request_kind_word : RequestKind → Word
request_kind_word ToCancel = codes "cancel"
request_kind_word ToRead = codes "read"

-- the word of an actor: a letter, and its number
abbrev pub actor_word : Actor → Word
actor_word Keeper = codes "k"
actor_word (Wheel n) = codes "w" ++ decimal n
actor_word (Inbox n) = codes "i" ++ decimal n
actor_word (Sched n) = codes "s" ++ decimal n
actor_word (MailOf n) = codes "m" ++ decimal n
actor_word (Caller n) = codes "c" ++ decimal n

-- the word of a second actor, or that there is none
abbrev pub with_word : Option Actor → Word
with_word None = codes "-"
with_word (Some actor) = actor_word actor

-- a reading
abbrev pub reading_words : Reading → List Word
reading_words r = signed_decimal r.mono ∷ signed_decimal r.sys ∷ []

-- a reference to a timer
abbrev pub timer_words : TimerRef → List Word
timer_words t = decimal t.wheel ∷ decimal t.slot ∷ decimal t.generation ∷ []

-- when a timer is to expire
abbrev pub when_words : When → List Word
when_words (After z) = codes "after" ∷ signed_decimal z ∷ []
when_words (At z) = codes "at" ∷ signed_decimal z ∷ []

-- what a timer is started with
abbrev pub start_words : Start → List Word
start_words s = when_words s.when ++ (decimal s.dest ∷ decimal s.msg ∷ kind_word s.kind ∷ [])

-- a request
abbrev pub request_words : Request → List Word
request_words r =
    request_kind_word r.kind ∷ (timer_words r.timer ++ (decimal r.reply_to ∷ bool_word r.info ∷ []))

-- the words of a value, or that there is none
abbrev pub option_words : {A : Type 0} → (A → List Word) → Option A → List Word
option_words words None = codes "none" ∷ []
option_words words (Some a) = words a

-- how many milliseconds were left
abbrev pub left_words : Option ℕ → List Word
left_words left = option_words number_words left

-- a message in a mailbox
abbrev pub mail_words : Mail → List Word
mail_words (Timeout timer msg) = codes "timeout" ∷ (timer_words timer ++ number_words msg)
mail_words (BareMail msg) = codes "bare" ∷ number_words msg
mail_words (CancelDone timer left) = codes "cancel_done" ∷ (timer_words timer ++ left_words left)
mail_words (ReadDone timer left) = codes "read_done" ∷ (timer_words timer ++ left_words left)
mail_words (Change monitor offset) = codes "change" ∷ (number_words monitor ++ integer_words offset)
