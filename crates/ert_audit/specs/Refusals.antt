-- What the error output is told of a text that spells no history.

use Rattle.std.specs.Prelude.{◌≡◌, ◌≢◌, ◌==◌, ℕ, ◌+◌, ◌-◌, ◌≤◌, List, length, drop, codes, Some, None}
use Rattle.std.specs.Fmt.{decimal}
use Rattle.ert_defs.specs.declared.settings.SettingsFault.{SettingsFault, TheVariants.{Start, First, Count}}
use Rattle.ert_judge.specs.Texts.{◌⋅◌}
use Rattle.ert_audit.specs.{Faults.{word_in, line_fault, IsUnfit}, Spelling.MisspelledAt, declared.spelling.wanted.Wanted.Wanted, declared.spelling.wanted.Wanted.TheVariants.{SettingsWord, Mode, Truth, Integer, Small, Natural, Act, State}}
use Rattle.ert_audit.specs.{declared.spelling.wanted.Wanted.TheVariants.{Found, Kind, When, Actor, Partner, Event, RequestKind, Picked, Taken, Left, End}, Messages.{line_after, line_end, lines_on, shortened, line_front}}
use Rattle.ert_audit.specs.{declared.refusing.LineRefusal.LineRefusal, declared.refusing.LineRefusal.TheVariants.{At, Unfit, NoNewline, Misspelled}}

-- why a line is misspelled, the first of these that holds: it stops being spelled at a word; no newline ends it; no
-- service can be opened with its settings
abbrev pub IsRefusal : List ℕ → ℕ → LineRefusal → Type 0
IsRefusal text line (At fault) = line_fault (line == 1) (line_after text (line - 1)) ≡ Some fault
IsRefusal text line NoNewline =
    (line_fault (line == 1) (line_after text (line - 1)) ≡ None) × (line_end (lines_on (line - 1) text) ≡ None)
IsRefusal text line (Unfit fault) =
    (line_fault (line == 1) (line_after text (line - 1)) ≡ None) × (line_end (lines_on (line - 1) text) ≢ None)
    × IsUnfit (line_after text (line - 1)) fault
IsRefusal text line Misspelled =
    (line_fault (line == 1) (line_after text (line - 1)) ≡ None) × (line_end (lines_on (line - 1) text) ≢ None)
    × ((fault : SettingsFault) → IsUnfit (line_after text (line - 1)) fault → ⊥)

-- a fault lies in the bytes
abbrev pub LiesIn : List ℕ → LineRefusal → Type 0
LiesIn bytes (At fault) = fault.before ≤ length bytes
LiesIn bytes _ = Unit {0}

-- what could stand there
unfoldable pub wanted_text : Wanted → List ℕ
wanted_text SettingsWord = codes "the word settings"
wanted_text Mode = codes "no, single or multi"
wanted_text Truth = codes "true or false"
wanted_text Integer = codes "a number from -9223372036854775808 to 9223372036854775807"
wanted_text Small = codes "a number from 0 to 4294967295"
wanted_text Natural = codes "a number from 0 to 18446744073709551615"
wanted_text Act = codes "plain, force or finalize"
wanted_text State = codes "preliminary, final or volatile"
wanted_text Found = codes "none, armed, expired, delivered, cancelled, orphaned or dropped"
wanted_text Kind = codes "wrapped or bare"
wanted_text When = codes "after or at"
wanted_text Actor = codes "an actor: k, or one of w, i, s, m and c with a number"
wanted_text Partner = codes "-, or an actor: k, or one of w, i, s, m and c with a number"
wanted_text Event = codes "an event: tick, shift, look, off, arm, probe, peek, cancel, expire, orphan, deliver, drop, mark, advanced, ask, pick, answer, take, unwatch, watch or tell"
wanted_text RequestKind = codes "cancel or read"
wanted_text Picked = codes "none, cancel or read"
wanted_text Taken = codes "none, timeout, bare, cancel_done, read_done or change"
wanted_text Left = codes "none, or a number from 0 to 18446744073709551615"
wanted_text End = codes "the end of the line"

-- why no service can be opened with settings
unfoldable pub unfit_text : SettingsFault → List ℕ
unfit_text Start = codes "the start time is no multiple of 1000000, or outside its limits"
unfit_text First = codes "the first reading isn't valid"
unfit_text Count = codes "a number of schedulers, processes, slots or callers is outside its limits"

-- the front of a message: the line and the column, from 1
abbrev pub word_front : ℕ → ℕ → List ℕ
word_front line before = codes "history:" ⋅ decimal line ⋅ codes ":" ⋅ decimal (before + 1) ⋅ codes ": \""

-- the message on a misspelled line
abbrev pub refusal_message : List ℕ → ℕ → LineRefusal → List ℕ
refusal_message bytes line (At fault) =
    word_front line fault.before
    ⋅ shortened (word_in (drop fault.before bytes)) ⋅ codes "\": expected " ⋅ wanted_text fault.wanted ⋅ codes "\n"
refusal_message bytes line (Unfit fault) = line_front line ⋅ unfit_text fault ⋅ codes "\n"
refusal_message bytes line NoNewline = line_front line ⋅ codes "the line has no newline at its end" ⋅ codes "\n"
refusal_message bytes line Misspelled = line_front line ⋅ codes "the line is misspelled" ⋅ codes "\n"

-- the message on a text tells the first line that is misspelled, and why it is
pub record IsRefusalMessage (text message : List ℕ) : Type 0 where
  pub line : ℕ
  pub misspelled : MisspelledAt text line
  pub refusal : LineRefusal
  pub why : IsRefusal text line refusal
  pub is : message ≡ refusal_message (line_after text (line - 1)) line refusal
