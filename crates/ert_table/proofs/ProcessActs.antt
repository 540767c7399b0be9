-- Steps on the words of processes take place with their entries.

use Rattle.std.proofs.Common.{◌≡◌, ◌≢◌, ℕ, ◌<◌, Bool, true, false, ◌||◌, ◌&&◌, nat_eq, List, refl, sym, ap, subst, ◌∙◌, eq-eqb, ne_eqb}
use Rattle.std.specs.Prelude.{bit_or}
use Rattle.ert_defs.specs.{Actors.has_actor, Clocks.Clock, States.{next, state}, Timers.{row_of, timer_at}, Words.{offset_word, is_final, process_word}, declared.entry.Actor.Actor, declared.entry.Actor.TheVariants.{Keeper, Wheel}}
use Rattle.ert_defs.specs.{declared.entry.Entry.Entry, declared.settings.Settings.Settings, Entries.mark_entry}
use Rattle.ert_table.specs.{Acts.{Acts, IsHistoryAtStep}, Places.process_place, Takes.MayStep, declared.view.View.View}
use Rattle.ert_table.proofs.{WordPlaces.word_of-process, WordSteps.{cond_same, word_same}}

was_found : (exited : Bool) (n : ℕ) → process_word exited ≡ n → nat_eq n 1 ≡ exited
was_found true n is = subst (λ (k : ℕ). nat_eq k 1 ≡ true) is refl
was_found false n is = subst (λ (k : ℕ). nat_eq k 1 ≡ false) is refl

-- a mark of a process sets its word where it is to
marked : (exited exits : Bool) (process n : ℕ) (f : ℕ → ℕ) → process_word exited ≡ n
    → ((b : Bool) → process_word (b || exits) ≡ f (process_word b))
    → process_word (exited || (nat_eq process process && exits)) ≡ f n
marked exited exits process n f is sets = rw (eq-eqb process process refl) (sets exited ∙ ap f is)

or_none : (b exits : Bool) → (b || (false && exits)) ≡ b
or_none true exits = refl
or_none false exits = refl

-- and leaves those of the others
unmarked : (exited exits : Bool) (process other : ℕ) → process ≢ other → (exited || (nat_eq process other && exits)) ≡ exited
unmarked exited exits process other not = rw (ne_eqb process other not) (or_none exited exits)

-- a step on the word of a process marks it, where the word becomes what it is to be
mark_acts : (g : Settings) (v : View) (by : Actor) (process : ℕ) (exits : Bool) (f : ℕ → ℕ)
    → ((b : Bool) → process_word (b || exits) ≡ f (process_word b))
    → ((was : Bool) → MayStep g v (mark_entry by process exits was))
    → Acts g v (process_place g process) f (λ n. mark_entry by process exits (nat_eq n 1))
mark_acts g v by process exits f sets may =
    let place : ℕ = process_place g process in
    let entry = λ (n : ℕ). mark_entry by process exits (nat_eq n 1) in
    let low : process < g.processes = (may false).keeps.2 in
    let exited = λ (h : List Entry) (n : ℕ) (then : IsHistoryAtStep g v place n h).
    let r : process_word ((state g h).exited process) ≡ n = sym (word_of-process g (state g h) process low) ∙ then.word in r in
    record {
      ours = λ n. (may (nat_eq n 1)).ours;
      keeps = λ n. (may (nat_eq n 1)).keeps;
      known = λ n. tt;
      found = λ h n then. was_found ((state g h).exited process) n (exited h n then);
      here = λ h n then. word_of-process g (next g (state g h) (entry n)) process low
          ∙ marked ((state g h).exited process) exits process n f (exited h n then) sets;
      others = λ h n j then lt not. word_same g (state g h) (next g (state g h) (entry n)) j (record {
        time = λ _. ap (λ (c : Clock). c.now) (cond_same (has_actor (entry n) Keeper) (state g h).clock);
        offset = λ _. ap (λ (c : Clock). offset_word c.offset (is_final c.state)) (cond_same (has_actor (entry n) Keeper) (state g h).clock);
        slot = λ w k _ _. record {
          last = cond_same (has_actor (entry n) (Wheel w)) ((state g h).last w k);
          status = λ m. refl;
          row = λ m. ap (λ rows. row_of rows (timer_at w k m)) (cond_same (has_actor (entry n) (Wheel w)) ((state g h).rows w));
        };
        process = λ p is. unmarked ((state g h).exited p) exits process p (λ same. not (is ∙ ap (process_place g) (sym same)));
      });
    }

exits_at : (b : Bool) → process_word (b || true) ≡ bit_or (process_word b) 1
exits_at true = refl
exits_at false = refl

stays_at : (b : Bool) → process_word (b || false) ≡ process_word b
stays_at true = refl
stays_at false = refl

-- an or with 1 marks a process as exited
pub exit_acts : (g : Settings) (v : View) (by : Actor) (process : ℕ)
    → ((was : Bool) → MayStep g v (mark_entry by process true was))
    → Acts g v (process_place g process) (λ n. bit_or n 1) (λ n. mark_entry by process true (nat_eq n 1))
exit_acts g v by process may = mark_acts g v by process true (λ n. bit_or n 1) exits_at may

-- a load tells whether it has
pub load_exit_acts : (g : Settings) (v : View) (by : Actor) (process : ℕ)
    → ((was : Bool) → MayStep g v (mark_entry by process false was))
    → Acts g v (process_place g process) (λ n. n) (λ n. mark_entry by process false (nat_eq n 1))
load_exit_acts g v by process may = mark_acts g v by process false (λ n. n) stays_at may
