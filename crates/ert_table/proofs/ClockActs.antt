-- Steps on the words of the time and of the offset take place with their entries.

use Rattle.std.proofs.Common.{◌≡◌, ℕ, ℤ, pos, negsuc, ◌+◌, ◌*◌, ◌/◌, ◌%◌, cond, nat_eq, ◌+ℤ◌, ◌-ℤ◌, ◌≤ℤ◌, ◌<ℤ◌, Bool, true, false, List, [], ◌∷◌, ◌++◌, Some, refl, sym, ap, subst, ◌∙◌, arith}
use Rattle.std.proofs.{lemmas.Int.ints, Props.props}
use Rattle.ert_defs.specs.{Actors.has_actor, Clocks.{Clock, face}, Legal.{Found, Legal}, Lines.IsOffset, Milliseconds.natural, Settings.IsChecked, Sound.MayShift, States.{State, opening, next, state}, Words.{time_word, offset_word}}
use Rattle.ert_defs.specs.{Words.is_final, declared.entry.Act.Act, declared.entry.Actor.Actor, declared.entry.Actor.TheVariants.Keeper, declared.entry.Entry.Entry, declared.settings.Mode.Mode, declared.settings.Mode.TheVariants.No}
use Rattle.ert_defs.specs.{declared.settings.Mode.TheVariants.{Single, Multi}, declared.settings.OffsetState.OffsetState, declared.settings.OffsetState.TheVariants.{Preliminary, Final, Volatile}, declared.settings.Reading.Reading}
use Rattle.ert_defs.specs.{declared.settings.Settings.Settings, Entries.{tick_entry, shift_entry}}
use Rattle.ert_defs.proofs.{Bounds.time_fits, Modes.{IsOfMode, KeepsMode, mode_opening, mode_when}, Runs.{kept_from, legal_more, state-append}, Times.{kept, state_in_range}}
use Rattle.ert_table.specs.{Ranges.{IsTime, IsTimeWord, IsOffsetWord}, Acts.Acts, Entries.{time_entry, time_in, offset_entry, offset_in, state_where, state_in}, Rule.IsLegalBy, Takes.MayStep, declared.carry.TimeCarry.TimeCarry}
use Rattle.ert_table.specs.{declared.carry.TimeCarry.TheVariants.{Look, Advanced, Ask, Pick, Answer, Take, Unwatch}, declared.carry.OffsetCarry.OffsetCarry, declared.carry.OffsetCarry.TheVariants.{Off as ToOff, Watch as ToWatch}}
use Rattle.ert_table.specs.{declared.carry.OffsetCarry.TheVariants.Tell as ToTell, declared.view.View.View}
use Rattle.ert_table.proofs.{OneStep.legal_by, WordSteps.{is_quiet, word_quiet, word_same}}

-- the time after a legal history has a word
pub time_is : (g : Settings) (h : List Entry) → IsChecked g → Legal g h → IsTime (state g h).clock.now g.start
time_is g h checked legal =
    let within = state_in_range g h checked legal in
    let below : (state g h).clock.now <ℤ (g.start +ℤ pos 8796093022207000000) = within.high in
    record { low = within.low; high = omega (arith, ints) }

pub time_word_is : (g : Settings) (h : List Entry) (n : ℕ) → IsChecked g → Legal g h → time_word (state g h).clock.now g.start ≡ n
    → IsTimeWord n g.start
time_word_is g h n checked legal is = record {
  now = (state g h).clock.now;
  fits = time_fits g (face g (state g h).clock) checked (kept g h checked legal).sound;
  in_range = time_is g h checked legal;
  stands = sym is;
}

time_back_at : (start now d : ℤ) (n : ℕ) → start ≤ℤ now → (now -ℤ start) ≡ d → natural d ≡ n → (start +ℤ pos n) ≡ now
time_back_at start now (pos m) n low same is = omega (arith, ints)
time_back_at start now (negsuc m) n low same is = absurd (omega (arith, ints))

-- a word's time is the time that it was made from
pub time_back : (start now : ℤ) (n : ℕ) → start ≤ℤ now → time_word now start ≡ n → (start +ℤ pos n) ≡ now
time_back start now n low is = time_back_at start now (now -ℤ start) n low refl is

-- the time of a tick has a word
tick_fits : (g : Settings) (by : ℕ) (reading : Reading) (act : Act) (now : ℤ) (v : View) → IsChecked g
    → MayStep g v (tick_entry by reading act now) → Legal g v.front → IsTime now g.start
tick_fits g by reading act now v checked may legal =
    let e : Entry = tick_entry by reading act now in
    let longer : Legal g (v.front ++ e ∷ []) = legal_more g v.front e legal (record { keeps = may.keeps; known = may.known; found = tt }) in
    let moved : state g (v.front ++ e ∷ []) ≡ next g (state g v.front) e = state-append g v.front (e ∷ []) in
    subst (λ (s : State). IsTime s.clock.now g.start) moved (time_is g (v.front ++ e ∷ []) checked longer)

pub tick_is : (g : Settings) (by : ℕ) (reading : Reading) (act : Act) (now : ℤ) (v : View) → IsChecked g → v.settings ≡ Some g
    → MayStep g v (tick_entry by reading act now) → ∥ IsLegalBy v.settings v.front ∥₁ → IsTime now g.start
tick_is g by reading act now v checked named may legal =
    let prop : IsProp (IsTime now g.start) = hlevel props in
    legal_by g v.settings v.front prop named legal (tick_fits g by reading act now v checked may)

-- a tick changes the time alone
pub tick_acts : (g : Settings) (v : View) (by : ℕ) (reading : Reading) (act : Act) (now : ℤ) → MayStep g v (tick_entry by reading act now)
    → Acts g v 8 (λ n. time_word now g.start) (λ n. tick_entry by reading act now)
tick_acts g v by reading act now may = record {
  ours = λ n. may.ours;
  keeps = λ n. may.keeps;
  known = λ n. may.known;
  found = λ h n then. tt;
  here = λ h n then. refl;
  others = λ h n j then lt not. word_same g (state g h) (next g (state g h) (tick_entry by reading act now)) j (record {
    time = λ is. absurd (not is);
    offset = λ _. refl;
    slot = λ w k _ _. record { last = refl; status = λ n. refl; row = λ n. refl };
    process = λ p _. refl;
  });
}

-- each carry of the time is quiet
carry_quiet : (by : Actor) (carry : TimeCarry) (now : ℤ) → is_quiet (time_entry by carry now).event ≡ true
carry_quiet by Look now = refl
carry_quiet by (Advanced to) now = refl
carry_quiet by (Ask wheel request) now = refl
carry_quiet by (Pick got) now = refl
carry_quiet by (Answer left process) now = refl
carry_quiet by (Take process got) now = refl
carry_quiet by (Unwatch process monitor was) now = refl

carry_found : (g : Settings) (s : State) (by : Actor) (carry : TimeCarry) (now : ℤ) → now ≡ s.clock.now
    → Found g s (time_entry by carry now).by (time_entry by carry now).event
carry_found g s by Look now is = is
carry_found g s by (Advanced to) now is = tt
carry_found g s by (Ask wheel request) now is = tt
carry_found g s by (Pick got) now is = tt
carry_found g s by (Answer left process) now is = tt
carry_found g s by (Take process got) now is = tt
carry_found g s by (Unwatch process monitor was) now is = tt

-- a load of the time records what is carried
pub time_acts : (g : Settings) (v : View) (by : Actor) (carry : TimeCarry) → IsChecked g
    → ((now : ℤ) → MayStep g v (time_entry by carry now))
    → Acts g v 8 (λ n. n) (λ n. time_entry by carry (time_in g n))
time_acts g v by carry checked may = record {
  ours = λ n. (may (time_in g n)).ours;
  keeps = λ n. (may (time_in g n)).keeps;
  known = λ n. (may (time_in g n)).known;
  found = λ h n then. carry_found g (state g h) by carry (time_in g n)
      (time_back g.start (state g h).clock.now n (time_is g h checked then.legal).low then.word);
  here = λ h n then. word_quiet g (state g h) (time_entry by carry (time_in g n)) 8 (carry_quiet by carry (time_in g n)) ∙ then.word;
  others = λ h n j then lt not. word_quiet g (state g h) (time_entry by carry (time_in g n)) j (carry_quiet by carry (time_in g n));
}

-- a shift changes the offset alone
pub shift_acts : (g : Settings) (v : View) (by : ℕ) (offset : ℤ) (new : OffsetState) → MayStep g v (shift_entry by offset new)
    → Acts g v 16 (λ n. offset_word offset (is_final new)) (λ n. shift_entry by offset new)
shift_acts g v by offset new may = record {
  ours = λ n. may.ours;
  keeps = λ n. may.keeps;
  known = λ n. may.known;
  found = λ h n then. tt;
  here = λ h n then. refl;
  others = λ h n j then lt not. word_same g (state g h) (next g (state g h) (shift_entry by offset new)) j (record {
    time = λ _. refl;
    offset = λ is. absurd (not is);
    slot = λ w k _ _. record { last = refl; status = λ n. refl; row = λ n. refl };
    process = λ p _. refl;
  });
}

-- the offset of a shift has a word
shift_fits : (g : Settings) (by : ℕ) (offset : ℤ) (new : OffsetState) (v : View) → IsChecked g
    → MayStep g v (shift_entry by offset new) → Legal g v.front → IsOffset offset
shift_fits g by offset new v checked may legal =
    let c : Clock = (state g v.front).clock in
    let due : MayShift (face g c) (Some (offset, new)) = subst (MayShift (face g c)) may.known (kept g v.front checked legal).due in
    due.offset

pub shift_is : (g : Settings) (by : ℕ) (offset : ℤ) (new : OffsetState) (v : View) → IsChecked g → v.settings ≡ Some g
    → MayStep g v (shift_entry by offset new) → ∥ IsLegalBy v.settings v.front ∥₁ → IsOffset offset
shift_is g by offset new v checked named may legal =
    let prop : IsProp (IsOffset offset) = hlevel props in
    legal_by g v.settings v.front prop named legal (shift_fits g by offset new v checked may)

-- the offset after a legal history has a word
pub offset_is : (g : Settings) (h : List Entry) → IsChecked g → Legal g h → IsOffset (state g h).clock.offset
offset_is g h checked legal = (kept g h checked legal).sound.offset

pub offset_word_is : (g : Settings) (h : List Entry) (n : ℕ) → IsChecked g → Legal g h
    → offset_word (state g h).clock.offset (is_final (state g h).clock.state) ≡ n → IsOffsetWord n
offset_word_is g h n checked legal is = record {
  offset = (state g h).clock.offset;
  final = is_final (state g h).clock.state;
  in_range = offset_is g h checked legal;
  stands = sym is;
}

-- a word's offset is the one that it was made from, and so is whether that is final
record Unpacked (offset : ℤ) (final : Bool) (n : ℕ) : Type 0 where
  offset_back : offset_in n ≡ offset
  final_back : nat_eq (n % 2) 1 ≡ final

sub_back : (x c m : ℤ) → (x +ℤ c) ≡ m → (m -ℤ c) ≡ x
sub_back x c m is = omega (arith, ints)

middle_back : (offset : ℤ) (m k : ℕ) → k ≡ m → (offset +ℤ pos 4611686018427387904) ≡ pos m → (pos k -ℤ pos 4611686018427387904) ≡ offset
middle_back offset m k half same =
    ap (λ x. pos x -ℤ pos 4611686018427387904) half ∙ sub_back offset (pos 4611686018427387904) (pos m) same

unpacked_at : (offset d : ℤ) (final : Bool) (n : ℕ) → negsuc 4611686018427387903 <ℤ offset → (offset +ℤ pos 4611686018427387904) ≡ d
    → (natural d * 2) + cond final 1 0 ≡ n → Unpacked offset final n
unpacked_at offset (pos m) true n low same is =
    let half : n / 2 ≡ m = omega arith in
    let rest : n % 2 ≡ 1 = omega arith in
    record { offset_back = middle_back offset m (n / 2) half same; final_back = rw rest refl }
unpacked_at offset (pos m) false n low same is =
    let half : n / 2 ≡ m = omega arith in
    let rest : n % 2 ≡ 0 = omega arith in
    record { offset_back = middle_back offset m (n / 2) half same; final_back = rw rest refl }
unpacked_at offset (negsuc m) final n low same is = absurd (omega (arith, ints))

unpacked : (offset : ℤ) (final : Bool) (n : ℕ) → IsOffset offset → offset_word offset final ≡ n → Unpacked offset final n
unpacked offset final n in_range is = unpacked_at offset (offset +ℤ pos 4611686018427387904) final n in_range.low refl is

-- a clock is in a state of its mode, which the mode and whether it is final tell
pub state_back : (mode : Mode) (new : OffsetState) → IsOfMode mode new → state_where mode (is_final new) ≡ new
state_back No Final is = refl
state_back Single Preliminary is = refl
state_back Single Final is = refl
state_back Multi Volatile is = refl
state_back No Preliminary is = absurd is
state_back No Volatile is = absurd is
state_back Single Volatile is = absurd is
state_back Multi Preliminary is = absurd is
state_back Multi Final is = absurd is

pub mode_kept : (g : Settings) (h : List Entry) → Legal g h → KeepsMode g (state g h).clock
mode_kept g h legal =
    kept_from g (λ s. KeepsMode g s.clock) (λ s e k can. mode_when (has_actor e Keeper) g s e k can) (opening g) h (mode_opening g) legal

-- the offset and its state are those of the word
pub offset_found : (g : Settings) (h : List Entry) (n : ℕ) → IsChecked g → Legal g h
    → offset_word (state g h).clock.offset (is_final (state g h).clock.state) ≡ n
    → (offset_in n ≡ (state g h).clock.offset) × (state_in g n ≡ (state g h).clock.state)
offset_found g h n checked legal is =
    let c : Clock = (state g h).clock in
    let back = unpacked c.offset (is_final c.state) n (offset_is g h checked legal) is in
    (back.offset_back, ap (λ b. state_where g.mode b) back.final_back ∙ state_back g.mode c.state (mode_kept g h legal).state)

offset_quiet : (g : Settings) (actors : List Actor) (by : Actor) (carry : OffsetCarry) (offset : ℤ) (new : OffsetState)
    → is_quiet (offset_entry g actors by carry offset new).event ≡ true
offset_quiet g actors by ToOff offset new = refl
offset_quiet g actors by (ToWatch process monitor) offset new = refl
offset_quiet g actors by (ToTell process) offset new = refl

offset_carried : (g : Settings) (actors : List Actor) (s : State) (by : Actor) (carry : OffsetCarry) (offset : ℤ) (new : OffsetState)
    → (offset ≡ s.clock.offset) × (new ≡ s.clock.state)
    → Found g s (offset_entry g actors by carry offset new).by (offset_entry g actors by carry offset new).event
offset_carried g actors s by ToOff offset new is = is
offset_carried g actors s by (ToWatch process monitor) offset new is = is.0
offset_carried g actors s by (ToTell process) offset new is = is.0

-- a load of the offset records what is carried
pub offset_acts : (g : Settings) (v : View) (by : Actor) (carry : OffsetCarry) → IsChecked g
    → ((offset : ℤ) (new : OffsetState) → MayStep g v (offset_entry g v.actors by carry offset new))
    → Acts g v 16 (λ n. n) (λ n. offset_entry g v.actors by carry (offset_in n) (state_in g n))
offset_acts g v by carry checked may =
    let entry = λ (n : ℕ). offset_entry g v.actors by carry (offset_in n) (state_in g n) in
    record {
      ours = λ n. (may (offset_in n) (state_in g n)).ours;
      keeps = λ n. (may (offset_in n) (state_in g n)).keeps;
      known = λ n. (may (offset_in n) (state_in g n)).known;
      found = λ h n then. offset_carried g v.actors (state g h) by carry (offset_in n) (state_in g n)
          (offset_found g h n checked then.legal then.word);
      here = λ h n then. word_quiet g (state g h) (entry n) 16 (offset_quiet g v.actors by carry (offset_in n) (state_in g n)) ∙ then.word;
      others = λ h n j then lt not. word_quiet g (state g h) (entry n) j (offset_quiet g v.actors by carry (offset_in n) (state_in g n));
    }
