-- The formats of events, entries and settings.

use Rattle.std.proofs.Common.{◌≡◌, ℕ, List, [], ◌∷◌, ◌++◌, Option, Some, refl, sym, ap}
use Rattle.std.specs.Prelude.{codes}
use Rattle.ert_defs.specs.declared.{entry.Event.Event, entry.Event.TheVariants.{Tick, Shift, Look, Off, Arm, Probe, Peek, Cancel, Expire, Orphan, Deliver, Drop, Mark, Advanced, Ask, Pick, Answer, Take, Unwatch, Watch, Tell}}
use Rattle.ert_defs.specs.declared.{settings.Settings.Settings, settings.TheConstants.SCENARIO_LOOKS}
use Rattle.ert_audit.specs.{Entries.{event_words, entry_words, settings_words}, Events.{read_tick, read_shift, read_look, read_off, read_arm, read_probe, read_peek, read_cancel, read_expire, read_orphan, read_deliver, read_drop, read_mark}}
use Rattle.ert_audit.specs.{Events.{read_advanced, read_ask, read_pick, read_answer, read_take, read_unwatch, read_watch, read_tell, event_rows, read_event, read_one_entry, read_fields, read_later_fields, settings_rows, read_settings}}
use Rattle.ert_audit.specs.{Fits.{FitsEvent, FitsEntry, FitsSettings}, Parts.Word, Readers.Reader}
use Rattle.ert_audit.proofs.{ActorFormats.{actor, with}, Formats.{IsFormat, Gives, done-gives, then-gives, then-again}, PartFormats.{reading, timer, start, request, left, found, each_found, picked, taken}, Tables.choice-gives}
use Rattle.ert_audit.proofs.{Tables.choice-again, WordFormats.{small, natural, integer, truth, mode, state, act}}

-- each event is read after its name as it is written
abbrev Row : Word → Reader Event → Type 0
Row name read = Gives (name ∷ []) event_words FitsEvent read

tick : Row (codes "tick") read_tick
unfolding read_tick
tick = then-gives reading _ _ (λ x f. then-gives act _ _ (λ y _. then-gives integer _ _ (λ z g. done-gives _ (Tick x y z) refl (f, g))))

shift : Row (codes "shift") read_shift
unfolding read_shift
shift = then-gives integer _ _ (λ x f. then-gives state _ _ (λ y _. done-gives _ (Shift x y) refl f))

look : Row (codes "look") read_look
unfolding read_look
look = then-gives integer _ _ (λ x f. done-gives _ (Look x) refl f)

off : Row (codes "off") read_off
unfolding read_off
off = then-gives integer _ _ (λ x f. then-gives state _ _ (λ y _. done-gives _ (Off x y) refl f))

arm : Row (codes "arm") read_arm
unfolding read_arm
arm = then-gives timer _ _ (λ x f. then-gives start _ _ (λ y g. done-gives _ (Arm x y) refl (f, g)))

probe : Row (codes "probe") read_probe
unfolding read_probe
probe = then-gives small _ _ (λ x f. then-gives small _ _ (λ y g. then-gives found _ _ (λ z _. done-gives _ (Probe x y z) refl (f, g))))

peek : Row (codes "peek") read_peek
unfolding read_peek
peek = then-gives timer _ _ (λ x f. then-gives left _ _ (λ y g. done-gives _ (Peek x y) refl (f, g)))

cancel : Row (codes "cancel") read_cancel
unfolding read_cancel
cancel = then-gives timer _ _ (λ x f. then-gives left _ _ (λ y g. done-gives _ (Cancel x y) refl (f, g)))

expire : Row (codes "expire") read_expire
unfolding read_expire
expire = then-gives timer _ _ (λ x f. done-gives _ (Expire x) refl f)

orphan : Row (codes "orphan") read_orphan
unfolding read_orphan
orphan = then-gives timer _ _ (λ x f. done-gives _ (Orphan x) refl f)

deliver : Row (codes "deliver") read_deliver
unfolding read_deliver
deliver = then-gives timer _ _ (λ x f. done-gives _ (Deliver x) refl f)

drop : Row (codes "drop") read_drop
unfolding read_drop
drop = then-gives timer _ _ (λ x f. done-gives _ (Drop x) refl f)

mark : Row (codes "mark") read_mark
unfolding read_mark
mark = then-gives small _ _ (λ x f. then-gives truth _ _ (λ y _. then-gives truth _ _ (λ z _. done-gives _ (Mark x y z) refl f)))

advanced : Row (codes "advanced") read_advanced
unfolding read_advanced
advanced = then-gives small _ _ (λ x f. then-gives natural _ _ (λ y g. done-gives _ (Advanced x y) refl (f, g)))

ask : Row (codes "ask") read_ask
unfolding read_ask
ask = then-gives small _ _ (λ x f. then-gives request _ _ (λ y g. done-gives _ (Ask x y) refl (f, g)))

pick : Row (codes "pick") read_pick
unfolding read_pick
pick = then-gives small _ _ (λ x f. then-gives picked _ _ (λ y g. done-gives _ (Pick x y) refl (f, g)))

answer : Row (codes "answer") read_answer
unfolding read_answer
answer = then-gives small _ _ (λ x f. then-gives left _ _ (λ y g. done-gives _ (Answer x y) refl (f, g)))

take : Row (codes "take") read_take
unfolding read_take
take = then-gives small _ _ (λ x f. then-gives taken _ _ (λ y g. done-gives _ (Take x y) refl (f, g)))

unwatch : Row (codes "unwatch") read_unwatch
unfolding read_unwatch
unwatch = then-gives small _ _ (λ x f. then-gives small _ _ (λ y g. then-gives truth _ _ (λ z _. done-gives _ (Unwatch x y z) refl (f, g))))

watch : Row (codes "watch") read_watch
unfolding read_watch
watch = then-gives small _ _ (λ x f. then-gives small _ _ (λ y g. then-gives integer _ _ (λ z h. done-gives _ (Watch x y z) refl (f, g, h))))

tell : Row (codes "tell") read_tell
unfolding read_tell
tell = then-gives small _ _ (λ x f. then-gives integer _ _ (λ y g. done-gives _ (Tell x y) refl (f, g)))

-- an event is read as it is written
event-again : (e : Event) (rest : List Word) → FitsEvent e → read_event (event_words e ++ rest) ≡ Some (e, rest)
unfolding read_event read_tick read_shift read_look read_off read_arm read_probe read_peek read_cancel read_expire read_orphan read_deliver read_drop read_mark read_advanced read_ask read_pick read_answer read_take read_unwatch read_watch read_tell
event-again (Tick x y z) rest f =
    choice-again event_rows (codes "tick") _ _ refl
    (then-again reading _ x _ _ f.0 (then-again act _ y _ _ tt (then-again integer _ z rest _ f.1 refl)))
event-again (Shift x y) rest f =
    choice-again event_rows (codes "shift") _ _ refl
    (then-again integer _ x _ _ f (then-again state _ y rest _ tt refl))
event-again (Look x) rest f = choice-again event_rows (codes "look") _ _ refl (then-again integer _ x rest _ f refl)
event-again (Off x y) rest f =
    choice-again event_rows (codes "off") _ _ refl
    (then-again integer _ x _ _ f (then-again state _ y rest _ tt refl))
event-again (Arm x y) rest f =
    choice-again event_rows (codes "arm") _ _ refl
    (then-again timer _ x _ _ f.0 (then-again start _ y rest _ f.1 refl))
event-again (Probe x y z) rest f =
    choice-again event_rows (codes "probe") _ _ refl
    (then-again small _ x _ _ f.0 (then-again small _ y _ _ f.1 (then-again found _ z rest _ (each_found z) refl)))
event-again (Peek x y) rest f =
    choice-again event_rows (codes "peek") _ _ refl
    (then-again timer _ x _ _ f.0 (then-again left _ y rest _ f.1 refl))
event-again (Cancel x y) rest f =
    choice-again event_rows (codes "cancel") _ _ refl
    (then-again timer _ x _ _ f.0 (then-again left _ y rest _ f.1 refl))
event-again (Expire x) rest f = choice-again event_rows (codes "expire") _ _ refl (then-again timer _ x rest _ f refl)
event-again (Orphan x) rest f = choice-again event_rows (codes "orphan") _ _ refl (then-again timer _ x rest _ f refl)
event-again (Deliver x) rest f = choice-again event_rows (codes "deliver") _ _ refl (then-again timer _ x rest _ f refl)
event-again (Drop x) rest f = choice-again event_rows (codes "drop") _ _ refl (then-again timer _ x rest _ f refl)
event-again (Mark x y z) rest f =
    choice-again event_rows (codes "mark") _ _ refl
    (then-again small _ x _ _ f (then-again truth _ y _ _ tt (then-again truth _ z rest _ tt refl)))
event-again (Advanced x y) rest f =
    choice-again event_rows (codes "advanced") _ _ refl
    (then-again small _ x _ _ f.0 (then-again natural _ y rest _ f.1 refl))
event-again (Ask x y) rest f =
    choice-again event_rows (codes "ask") _ _ refl
    (then-again small _ x _ _ f.0 (then-again request _ y rest _ f.1 refl))
event-again (Pick x y) rest f =
    choice-again event_rows (codes "pick") _ _ refl
    (then-again small _ x _ _ f.0 (then-again picked _ y rest _ f.1 refl))
event-again (Answer x y) rest f =
    choice-again event_rows (codes "answer") _ _ refl
    (then-again small _ x _ _ f.0 (then-again left _ y rest _ f.1 refl))
event-again (Take x y) rest f =
    choice-again event_rows (codes "take") _ _ refl
    (then-again small _ x _ _ f.0 (then-again taken _ y rest _ f.1 refl))
event-again (Unwatch x y z) rest f =
    choice-again event_rows (codes "unwatch") _ _ refl
    (then-again small _ x _ _ f.0 (then-again small _ y _ _ f.1 (then-again truth _ z rest _ tt refl)))
event-again (Watch x y z) rest f =
    choice-again event_rows (codes "watch") _ _ refl
    (then-again small _ x _ _ f.0 (then-again small _ y _ _ f.1 (then-again integer _ z rest _ f.2 refl)))
event-again (Tell x y) rest f =
    choice-again event_rows (codes "tell") _ _ refl
    (then-again small _ x _ _ f.0 (then-again integer _ y rest _ f.1 refl))

event : IsFormat event_words FitsEvent read_event
unfolding read_event
event = record {
  gives = choice-gives event_words FitsEvent event_rows (
    (refl, tick),
    (
      (refl, shift),
      (
        (refl, look),
        (
          (refl, off),
          (
            (refl, arm),
            (
              (refl, probe),
              (
                (refl, peek),
                (
                  (refl, cancel),
                  (
                    (refl, expire),
                    (
                      (refl, orphan),
                      (
                        (refl, deliver),
                        (
                          (refl, drop),
                          (
                            (refl, mark),
                            (
                              (refl, advanced),
                              (
                                (refl, ask),
                                (
                                  (refl, pick),
                                  (
                                    (refl, answer),
                                    (
                                      (refl, take),
                                      (
                                        (refl, unwatch),
                                        (
                                          (refl, watch),
                                          ((refl, tell), tt),
                                        ),
                                      ),
                                    ),
                                  ),
                                ),
                              ),
                            ),
                          ),
                        ),
                      ),
                    ),
                  ),
                ),
              ),
            ),
          ),
        ),
      ),
    ),
  );
  again = event-again;
}

pub entry : IsFormat entry_words FitsEntry read_one_entry
unfolding read_one_entry
entry = record {
  gives = then-gives actor [] _ (λ by f. then-gives with _ _ (λ w g. then-gives event _ _ (λ e h.
      done-gives _ _ refl (record { by = f; with = g; event = h }))));
  again = λ e rest f. then-again actor _ e.by _ _ f.by (then-again with _ e.with _ _ f.with (then-again event _ e.event rest _ f.event refl));
}

fields : Gives (codes "settings" ∷ []) settings_words FitsSettings read_fields
unfolding read_fields read_later_fields
fields =
    then-gives mode _ _ (λ m _. then-gives truth _ _ (λ c _. then-gives integer _ _ (λ start f1.
    then-gives small _ _ (λ schedulers f2. then-gives small _ _ (λ processes f3.
    then-gives small _ _ (λ slots f4. then-gives small _ _ (λ callers f5. then-gives reading _ _ (λ first f6.
    done-gives _ _ refl (record { start = f1; schedulers = f2; processes = f3; slots = f4; looks = refl; callers = f5; first = f6 })))))))))

-- settings with other looks, and the words that are left
abbrev with_looks : Settings → List Word → ℕ → Option (Settings × List Word)
with_looks g rest n = Some (record g { looks = n }, rest)

settings-again : (g : Settings) (rest : List Word) → FitsSettings g → read_settings (settings_words g ++ rest) ≡ Some (g, rest)
unfolding read_settings read_fields read_later_fields
settings-again g rest f = choice-again settings_rows (codes "settings") _ _ refl (
    then-again mode _ g.mode _ _ tt (then-again truth _ g.correction _ _ tt (
    then-again integer _ g.start _ _ f.start (then-again small _ g.schedulers _ _ f.schedulers (
    then-again small _ g.processes _ _ f.processes (then-again small _ g.slots _ _ f.slots (
    then-again small _ g.callers _ _ f.callers (then-again reading _ g.first rest _ f.first same))))))))
  where
    same : with_looks g rest SCENARIO_LOOKS ≡ with_looks g rest g.looks
    same = ap (with_looks g rest) (sym f.looks)

pub settings : IsFormat settings_words FitsSettings read_settings
unfolding read_settings
settings = record {
  gives = choice-gives settings_words FitsSettings settings_rows ((refl, fields), tt);
  again = settings-again;
}
