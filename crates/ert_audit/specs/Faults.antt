-- Where a line stops being spelled: whose turn it is to read each of its words, and the first that isn't read.

use Rattle.std.specs.Prelude.{◌≡◌, ℕ, ◌+◌, ◌-◌, Bool, true, false, ◌||◌, List, [], ◌∷◌, length, drop, nat_le, get_or, cond, codes, Option, Some, None, is_some, option_map, unwrap_or, if◌then◌else◌, Err}
use Rattle.std.specs.Str.{bytes_eq}
use Rattle.ert_defs.specs.{Settings.Checks, declared.settings.Settings.Settings, declared.settings.SettingsFault.SettingsFault}
use Rattle.ert_audit.specs.{Cuts.words_in, Events.{event_rows, read_settings}, Parts.Word, Readers.{optional, meant_by, keyword, whole}, Reading.{read_small, read_natural, read_integer, read_bool, read_mode, read_state, read_act}}
use Rattle.ert_audit.specs.{Reading.{read_status, read_kind, read_request_kind, read_actor, read_with, read_left, when_rows, mail_rows}, declared.spelling.wanted.WordFault.WordFault, declared.spelling.wanted.Wanted.Wanted}
use Rattle.ert_audit.specs.{declared.spelling.wanted.Wanted.TheVariants.{SettingsWord, Mode, Truth, Integer, Small, Natural, Act, State, Found, Kind, When, Actor, Partner, Event, RequestKind, Picked, Taken, Left, End}}

-- the first word of bytes
abbrev pub word_in : List ℕ → Word
word_in bytes = get_or (words_in bytes) 0 []

-- the words of a line from a place on: behind its end there is none
abbrev pub words_from : List ℕ → ℕ → List Word
words_from line at = cond (nat_le at (length line)) (words_in (drop at line)) []

-- what a word means that is a name in a table
abbrev pub meaning : {A : Type 0} → List (Word × A) → Word → Option A
meaning rows word = option_map (λ x. x.0) (keyword rows (words_in word))

-- whether a word is read by the reader of what could stand there
unfoldable pub is_read : Wanted → Word → Bool
is_read SettingsWord word = bytes_eq word (codes "settings")
is_read Mode word = is_some (read_mode (words_in word))
is_read Truth word = is_some (read_bool (words_in word))
is_read Integer word = is_some (read_integer (words_in word))
is_read Small word = is_some (read_small (words_in word))
is_read Natural word = is_some (read_natural (words_in word))
is_read Act word = is_some (read_act (words_in word))
is_read State word = is_some (read_state (words_in word))
is_read Found word = is_some (optional read_status (words_in word))
is_read Kind word = is_some (read_kind (words_in word))
is_read When word = is_some (meant_by word when_rows)
is_read Actor word = is_some (read_actor (words_in word))
is_read Partner word = is_some (read_with (words_in word))
is_read Event word = is_some (meaning event_rows word)
is_read RequestKind word = is_some (read_request_kind (words_in word))
is_read Picked word = bytes_eq word (codes "none") || is_some (read_request_kind (words_in word))
is_read Taken word = bytes_eq word (codes "none") || is_some (meaning mail_rows word)
is_read Left word = is_some (read_left (words_in word))
is_read End word = false

-- whose turn it is to read the words of a line, one after the other: of that of settings
abbrev pub settings_turns : List Wanted
settings_turns =
    SettingsWord ∷ Mode ∷ Truth ∷ Integer ∷ Small ∷ Small ∷ Small ∷ Small ∷ Integer ∷ Integer ∷ []

-- and of that of an entry, up to the name of the event
abbrev pub entry_turns : List Wanted
entry_turns = Actor ∷ Partner ∷ Event ∷ []

-- of the fields of each event from the marking of a process on, up to the first word of what was taken
abbrev pub later_turn_rows : List (Word × List Wanted)
later_turn_rows =
    (codes "mark", Small ∷ Truth ∷ Truth ∷ [])
    ∷ (codes "advanced", Small ∷ Natural ∷ [])
    ∷ (codes "ask", Small ∷ RequestKind ∷ Small ∷ Small ∷ Natural ∷ Small ∷ Truth ∷ [])
    ∷ (codes "pick", Small ∷ Picked ∷ [])
    ∷ (codes "answer", Small ∷ Left ∷ [])
    ∷ (codes "take", Small ∷ Taken ∷ [])
    ∷ (codes "unwatch", Small ∷ Small ∷ Truth ∷ [])
    ∷ (codes "watch", Small ∷ Small ∷ Integer ∷ [])
    ∷ (codes "tell", Small ∷ Integer ∷ [])
    ∷ []

-- of the fields of each event, up to the first word of what was taken
abbrev pub turn_rows : List (Word × List Wanted)
turn_rows =
    (codes "tick", Integer ∷ Integer ∷ Act ∷ Integer ∷ [])
    ∷ (codes "shift", Integer ∷ State ∷ [])
    ∷ (codes "look", Integer ∷ [])
    ∷ (codes "off", Integer ∷ State ∷ [])
    ∷ (codes "arm", Small ∷ Small ∷ Natural ∷ When ∷ Integer ∷ Small ∷ Natural ∷ Kind ∷ [])
    ∷ (codes "probe", Small ∷ Small ∷ Found ∷ [])
    ∷ (codes "peek", Small ∷ Small ∷ Natural ∷ Left ∷ [])
    ∷ (codes "cancel", Small ∷ Small ∷ Natural ∷ Left ∷ [])
    ∷ (codes "expire", Small ∷ Small ∷ Natural ∷ [])
    ∷ (codes "orphan", Small ∷ Small ∷ Natural ∷ [])
    ∷ (codes "deliver", Small ∷ Small ∷ Natural ∷ [])
    ∷ (codes "drop", Small ∷ Small ∷ Natural ∷ [])
    ∷ later_turn_rows

-- of the fields of an event of this name
abbrev pub event_turns : Word → List Wanted
event_turns name = unwrap_or (meaning turn_rows name) []

-- of the rest of a request
unfoldable pub request_turns : Word → List Wanted
request_turns word = if bytes_eq word (codes "none") then [] else Small ∷ Small ∷ Natural ∷ Small ∷ Truth ∷ []

-- of the fields of each message
abbrev pub mail_turn_rows : List (Word × List Wanted)
mail_turn_rows =
    (codes "timeout", Small ∷ Small ∷ Natural ∷ Natural ∷ [])
    ∷ (codes "bare", Natural ∷ [])
    ∷ (codes "cancel_done", Small ∷ Small ∷ Natural ∷ Left ∷ [])
    ∷ (codes "read_done", Small ∷ Small ∷ Natural ∷ Left ∷ [])
    ∷ (codes "change", Small ∷ Integer ∷ [])
    ∷ []

-- of the fields of a message of this name
abbrev pub mail_turns : Word → List Wanted
mail_turns name = unwrap_or (meaning mail_turn_rows name) []

-- and after a word: those of what it names, or those that were to follow
abbrev pub turns_after : Wanted → Word → List Wanted → List Wanted
turns_after Event name more = event_turns name
turns_after Picked word more = request_turns word
turns_after Taken word more = mail_turns word
turns_after _ word more = more

-- where words stop being spelled, of which the first begins after so many bytes: at the first that isn't read by
-- whose turn it is; right behind the last where one more was to follow; and where some are left over, right behind
-- the last that was to stand there
unfoldable pub fault_from : List Wanted → List Word → ℕ → Option WordFault
fault_from [] [] at = None
fault_from [] (word ∷ words) at = Some (record { before = at - 1; wanted = End })
fault_from (wanted ∷ more) [] at = Some (record { before = at - 1; wanted = wanted })
fault_from (wanted ∷ more) (word ∷ words) at =
    if is_read wanted word then fault_from (turns_after wanted word more) words (at + length word + 1)
    else Some (record { before = at; wanted = wanted })

-- whose turn it is in the first line of a history, and in the others
abbrev pub first_turns : Bool → List Wanted
first_turns true = settings_turns
first_turns false = entry_turns

-- where the first line of a history or another stops being spelled
abbrev pub line_fault : Bool → List ℕ → Option WordFault
line_fault is_first line = fault_from (first_turns is_first) (words_in line) 0

-- a line has settings that no service can be opened with
pub record IsUnfit (line : List ℕ) (fault : SettingsFault) : Type 0 where
  pub settings : Settings
  pub read : whole read_settings (words_in line) ≡ Some settings
  pub checks : Checks settings (Err fault)
