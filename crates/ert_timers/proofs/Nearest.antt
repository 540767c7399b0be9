-- What the rows of a part tell of the armed timers of its wheel.

use Rattle.std.proofs.Common.{◌≡◌, ℕ, Option, Some, None, inl, inr, sym, ◌∙◌}
use Rattle.ert_defs.specs.{States.State, declared.settings.Settings.Settings}
use Rattle.ert_timers.specs.{NextDue.{IsArmed, NoneArmedBefore, IsNearest, IsNextHeld}, Parts.{Part, FitsState, held_row}, Tidy.IsTidy}
use Rattle.ert_wheel.specs.{Rows.key_in, declared.row.Key.Key}

-- each armed timer is held
pub none_armed_before : (g : Settings) (s : State) (p : Part) (answer : Option ℕ) → FitsState g s p
    → IsNextHeld p answer → NoneArmedBefore s p.number answer
none_armed_before g s p None holds told = λ row armed.
    let none : ◌≡◌ {A = Option Key} None (Some (record { deadline = row.deadline; order = armed.place })) =
    sym (told row.timer.slot) ∙ holds.rows.armed armed.place row armed.is armed.armed in
    cc
none_armed_before g s p (Some time) holds told = λ row armed.
    told.none_before row.timer.slot (record { deadline = row.deadline; order = armed.place })
    (holds.rows.armed armed.place row armed.is armed.armed)

-- and each timer that a tidy part holds is armed
armed_of : (g : Settings) (s : State) (p : Part) (slot : ℕ) (key : Key) → FitsState g s p → IsTidy s p
    → key_in p.keys slot ≡ Some key → IsArmed s p.number (held_row p.number p.slots slot key)
armed_of g s p slot key holds tidy has = record {
  place = key.order;
  is = holds.rows.each slot key has;
  armed = tidy slot key has;
}

pub is_nearest : (g : Settings) (s : State) (p : Part) (answer : Option ℕ) → FitsState g s p → IsTidy s p
    → IsNextHeld p answer → IsNearest s p.number p.passed answer
is_nearest g s p None holds tidy told = tt
is_nearest g s p (Some time) holds tidy told =
    elim told.near [
      | inl due ↦ inl (record {
        row = held_row p.number p.slots due.slot due.key;
        armed = armed_of g s p due.slot due.key holds tidy due.has;
        at = due.at;
      })
      | inr w ↦ (let b = w.in_window in inr (record {
        later = b.later;
        level = b.level;
        above = b.above;
        highest = b.highest;
        window = b.window;
        begin = b.begin;
        row = held_row p.number p.slots w.slot w.key;
        armed = armed_of g s p w.slot w.key holds tidy w.has;
      }))
    ]
