-- The words of settings and entries.

use Rattle.std.specs.Prelude.{List, [], ◌∷◌, ◌++◌, codes}
use Rattle.std.specs.Fmt.{decimal, signed_decimal}
use Rattle.ert_defs.specs.declared.{entry.Entry.Entry, entry.Event.Event, entry.Event.TheVariants.{Tick, Shift, Look, Off, Arm, Probe, Peek, Cancel, Expire, Orphan, Deliver, Drop, Mark, Advanced, Ask, Pick, Answer, Take, Unwatch, Watch}}
use Rattle.ert_defs.specs.declared.{entry.Event.TheVariants.Tell, settings.Settings.Settings}
use Rattle.ert_audit.specs.Parts.{Word, integer_words, bool_word, mode_word, state_word, act_word, status_word, actor_word, with_word, reading_words, timer_words, start_words, request_words, mail_words, option_words, left_words}

-- the words of an event: its name, and its fields in their order
abbrev pub event_words : Event → List Word
event_words (Tick reading act now) =
    codes "tick" ∷ (reading_words reading ++ (act_word act ∷ integer_words now))
event_words (Shift offset state) = codes "shift" ∷ signed_decimal offset ∷ state_word state ∷ []
event_words (Look now) = codes "look" ∷ integer_words now
event_words (Off offset state) = codes "off" ∷ signed_decimal offset ∷ state_word state ∷ []
event_words (Arm timer start) = codes "arm" ∷ (timer_words timer ++ start_words start)
event_words (Probe wheel slot found) =
    codes "probe" ∷ decimal wheel ∷ decimal slot ∷ option_words (λ status. status_word status ∷ []) found
event_words (Peek timer left) = codes "peek" ∷ (timer_words timer ++ left_words left)
event_words (Cancel timer left) = codes "cancel" ∷ (timer_words timer ++ left_words left)
event_words (Expire timer) = codes "expire" ∷ timer_words timer
event_words (Orphan timer) = codes "orphan" ∷ timer_words timer
event_words (Deliver timer) = codes "deliver" ∷ timer_words timer
event_words (Drop timer) = codes "drop" ∷ timer_words timer
event_words (Mark process exits was) =
    codes "mark" ∷ decimal process ∷ bool_word exits ∷ bool_word was ∷ []
event_words (Advanced wheel to) = codes "advanced" ∷ decimal wheel ∷ decimal to ∷ []
event_words (Ask wheel request) = codes "ask" ∷ decimal wheel ∷ request_words request
event_words (Pick wheel got) = codes "pick" ∷ decimal wheel ∷ option_words request_words got
event_words (Answer wheel left) = codes "answer" ∷ decimal wheel ∷ left_words left
event_words (Take process got) = codes "take" ∷ decimal process ∷ option_words mail_words got
event_words (Unwatch process monitor was) =
    codes "unwatch" ∷ decimal process ∷ decimal monitor ∷ bool_word was ∷ []
event_words (Watch process monitor offset) =
    codes "watch" ∷ decimal process ∷ decimal monitor ∷ integer_words offset
event_words (Tell process offset) = codes "tell" ∷ decimal process ∷ integer_words offset

-- the words of an entry: its actors, and its event
abbrev pub entry_words : Entry → List Word
entry_words e = actor_word e.by ∷ with_word e.with ∷ event_words e.event

-- the words of settings
abbrev pub settings_words : Settings → List Word
settings_words g =
    codes "settings" ∷ mode_word g.mode ∷ bool_word g.correction ∷ signed_decimal g.start
    ∷ decimal g.schedulers ∷ decimal g.processes ∷ decimal g.slots ∷ decimal g.callers
    ∷ reading_words g.first
