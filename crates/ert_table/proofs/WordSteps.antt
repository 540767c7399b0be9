-- What an entry leaves of the words.

use Rattle.std.proofs.Common.{◌≡◌, ℕ, ℤ, ◌<◌, Bool, true, false, cond, ◌&&◌, List, Option, refl, sym, ap, subst, ◌∙◌}
use Rattle.std.proofs.lemmas.Bool.{and_parts}
use Rattle.ert_defs.specs.{Actors.has_actor, Clocks.{Clock, clock_after}, States.{State, next, exited_after}, Timers.{Row, row_of, rows_after, last_after, status_after, timer_at}, Words.{time_word, offset_word, is_final, slot_word}}
use Rattle.ert_defs.specs.{Words.{process_word, word_of, word_of_slot}, declared.entry.Actor.TheVariants.{Keeper, Wheel}, declared.entry.Entry.Entry, declared.entry.Event.Event, declared.entry.Event.TheVariants.{Tick, Shift, Arm, Cancel}}
use Rattle.ert_defs.specs.{declared.entry.Event.TheVariants.{Expire, Orphan, Deliver, Drop, Mark}, declared.settings.Settings.Settings, declared.timer.Status.Status, declared.timer.TimerRef.TimerRef}
use Rattle.ert_table.specs.Places.{slot_place, process_place}
use Rattle.ert_table.proofs.WordPlaces.{Use, for_time, for_offset, for_slot, for_process, for_gap, use_of, word_of-slot, word_of-process}

-- what two states have in common of a slot
pub record SameSlot (s s' : State) (w k : ℕ) : Type 0 where
  pub last : s'.last w k ≡ s.last w k
  pub status : (n : ℕ) → s'.status (timer_at w k n) ≡ s.status (timer_at w k n)
  pub row : (n : ℕ) → row_of (s'.rows w) (timer_at w k n) ≡ row_of (s.rows w) (timer_at w k n)

pub slot_same : (s s' : State) (w k : ℕ) → SameSlot s s' w k → word_of_slot s' w k ≡ word_of_slot s w k
slot_same s s' w k same =
    ap (λ n. slot_word (s'.status (timer_at w k n)) (row_of (s'.rows w) (timer_at w k n)) n) same.last
    ∙ (ap (λ x. slot_word x (row_of (s'.rows w) (timer_at w k (s.last w k))) (s.last w k)) (same.status (s.last w k))
    ∙ ap (λ r. slot_word (s.status (timer_at w k (s.last w k))) r (s.last w k)) (same.row (s.last w k)))

-- what two states have in common of the words but one
pub record SameWords (g : Settings) (s s' : State) (j : ℕ) : Type 0 where
  pub time : j ≡ 8 → s'.clock.now ≡ s.clock.now
  pub offset : j ≡ 16 → offset_word s'.clock.offset (is_final s'.clock.state) ≡ offset_word s.clock.offset (is_final s.clock.state)
  pub slot : (w k : ℕ) → j ≡ slot_place g w k → k < g.slots → SameSlot s s' w k
  pub process : (p : ℕ) → j ≡ process_place g p → s'.exited p ≡ s.exited p

pub word_same : (g : Settings) (s s' : State) (j : ℕ) → SameWords g s s' j → word_of g s' j ≡ word_of g s j
word_same g s s' j same = at (use_of g j)
  where
    here : (i : ℕ) → j ≡ i → word_of g s' i ≡ word_of g s i → word_of g s' j ≡ word_of g s j
    here i is alike = subst (λ x. word_of g s' x ≡ word_of g s x) (sym is) alike

    at : Use g j → word_of g s' j ≡ word_of g s j
    at (for_time is) = here 8 is (ap (λ x. time_word x g.start) (same.time is))
    at (for_offset is) = here 16 is (same.offset is)
    at (for_slot w k low lt is) = here (slot_place g w k) is
        (word_of-slot g s' w k low lt ∙ (slot_same s s' w k (same.slot w k is lt) ∙ sym (word_of-slot g s w k low lt)))
    at (for_process p lt is) = here (process_place g p) is
        (word_of-process g s' p lt ∙ (ap process_word (same.process p is) ∙ sym (word_of-process g s p lt)))
    at (for_gap idle) = idle s' ∙ sym (idle s)

pub cond_same : {X : Type 0} (b : Bool) (x : X) → cond b x x ≡ x
cond_same true x = refl
cond_same false x = refl

pub cond_is : {X : Type 0} (b : Bool) (x y : X) → y ≡ x → cond b y x ≡ x
cond_is true x y h = h
cond_is false x y h = refl

-- whether an event leaves the clock, the rows, the generations and the exits: all but the statuses of timers
abbrev pub is_calm : Event → Bool
is_calm (Tick reading act now) = false
is_calm (Shift offset state) = false
is_calm (Arm timer start) = false
is_calm (Mark process exits was) = false
is_calm _ = true

-- what such an event leaves
record Leaves (g : Settings) (event : Event) : Type 0 where
  clock : (c : Clock) → clock_after g c event ≡ c
  rows : (look : ℤ) (w : ℕ) (rows : List Row) → rows_after g look w rows event ≡ rows
  last : (w k n : ℕ) → last_after w k n event ≡ n
  exited : (p : ℕ) (b : Bool) → exited_after p b event ≡ b

calm_event : (g : Settings) (event : Event) → is_calm event ≡ true → Leaves g event
calm_event g (Tick reading act now) h = absurd cc
calm_event g (Shift offset state) h = absurd cc
calm_event g (Arm timer start) h = absurd cc
calm_event g (Mark process exits was) h = absurd cc
calm_event g _ h = record {
  clock = λ c. refl;
  rows = λ look w rows. refl;
  last = λ w k n. refl;
  exited = λ p b. refl;
}

pub calm_last : (g : Settings) (s : State) (e : Entry) (w k : ℕ) → is_calm e.event ≡ true → (next g s e).last w k ≡ s.last w k
calm_last g s e w k calm = cond_is (has_actor e (Wheel w)) (s.last w k) _ ((calm_event g e.event calm).last w k (s.last w k))

pub calm_rows : (g : Settings) (s : State) (e : Entry) (w : ℕ) → is_calm e.event ≡ true → (next g s e).rows w ≡ s.rows w
calm_rows g s e w calm = cond_is (has_actor e (Wheel w)) (s.rows w) _ ((calm_event g e.event calm).rows (s.looked e.by) w (s.rows w))

-- an entry with such an event leaves a word, where it leaves the statuses of the slot that this is
pub word_calm : (g : Settings) (s : State) (e : Entry) (j : ℕ) → is_calm e.event ≡ true
    → ((w k m : ℕ) → j ≡ slot_place g w k → (next g s e).status (timer_at w k m) ≡ s.status (timer_at w k m))
    → word_of g (next g s e) j ≡ word_of g s j
word_calm g s e j calm statuses =
    let leaves = calm_event g e.event calm in
    let clock : (next g s e).clock ≡ s.clock = cond_is (has_actor e Keeper) s.clock _ (leaves.clock s.clock) in
    word_same g s (next g s e) j (record {
      time = λ _. ap (λ (c : Clock). c.now) clock;
      offset = λ _. ap (λ (c : Clock). offset_word c.offset (is_final c.state)) clock;
      slot = λ w k is _. record {
        last = calm_last g s e w k calm;
        status = λ m. statuses w k m is;
        row = λ m. ap (λ rows. row_of rows (timer_at w k m)) (calm_rows g s e w calm);
      };
      process = λ p _. leaves.exited p (s.exited p);
    })

-- whether an event leaves the statuses of timers
abbrev pub leaves_statuses : Event → Bool
leaves_statuses (Arm timer start) = false
leaves_statuses (Cancel timer left) = false
leaves_statuses (Expire timer) = false
leaves_statuses (Orphan timer) = false
leaves_statuses (Deliver timer) = false
leaves_statuses (Drop timer) = false
leaves_statuses _ = true

status_left : (event : Event) (r : TimerRef) (b : Bool) (x : Option Status) → leaves_statuses event ≡ true → status_after r b x event ≡ x
status_left (Arm timer start) r b x h = absurd cc
status_left (Cancel timer left) r b x h = absurd cc
status_left (Expire timer) r b x h = absurd cc
status_left (Orphan timer) r b x h = absurd cc
status_left (Deliver timer) r b x h = absurd cc
status_left (Drop timer) r b x h = absurd cc
status_left _ r b x h = refl

-- whether an event leaves all words
abbrev pub is_quiet : Event → Bool
is_quiet event = is_calm event && leaves_statuses event

-- an entry with a quiet event does
pub word_quiet : (g : Settings) (s : State) (e : Entry) (j : ℕ) → is_quiet e.event ≡ true → word_of g (next g s e) j ≡ word_of g s j
word_quiet g s e j quiet =
    let parts = and_parts (is_calm e.event) (leaves_statuses e.event) quiet in
    word_calm g s e j parts.0
    (λ w k m _. status_left e.event (timer_at w k m) (has_actor e (Wheel w)) (s.status (timer_at w k m)) parts.1)
