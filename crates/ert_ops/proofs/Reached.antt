-- What is so of each state that a legal history comes to, and stays so with each legal entry.

use Rattle.std.proofs.Common.{ℤ, pos, negsuc, ◌≡◌, ◌≤◌, ◌≤ℤ◌, List, refl, arith}
use Rattle.std.proofs.lemmas.Int.{ints}
use Rattle.std.specs.Prelude.{◌-ℤ◌}
use Rattle.ert_defs.proofs.{ExpiredLists.{IsKept as KeepsExpired, expired_next, kept_after}, Numbers.floor_rises, Rows.rows_hold, Slots.ordered, Standing.all_stand, Times.{KeepsBounds, kept, kept_next as bounds_next}, Bounds.in_range}
use Rattle.ert_defs.specs.{Legal.{Can, Legal}, Milliseconds.{natural, down}, Settings.IsChecked, States.{State, next, state}, declared.entry.Entry.Entry, declared.settings.Settings.Settings, Clocks.face}
use Rattle.ert_laws.proofs.{Requests.{HaveAskers, askers_next, have_askers}, RowRanges.{AllPlaced, placed_next, rows_placed}}
use Rattle.ert_ops.proofs.Meets.{IsKept, kept_next}

pub record IsReached (g : Settings) (s : State) : Type 0 where
  pub checked : IsChecked g
  pub kept : IsKept s
  pub expired : KeepsExpired s
  pub placed : AllPlaced g s
  pub askers : HaveAskers g s
  pub bounds : KeepsBounds g s.clock

pub reached_next : (g : Settings) (s : State) (e : Entry) → IsReached g s → Can g s e → IsReached g (next g s e)
reached_next g s e h can = record {
  checked = h.checked;
  kept = kept_next g s e h.kept can;
  expired = expired_next g s e h.expired can;
  placed = placed_next g s e h.placed can;
  askers = askers_next g s e h.askers can;
  bounds = bounds_next g s e h.bounds can;
}

pub reached : (g : Settings) (h : List Entry) → IsChecked g → Legal g h → IsReached g (state g h)
reached g h checked legal = record {
  checked = checked;
  kept = record { ordered = ordered g h legal; rows = λ w. rows_hold g h w legal; stand = all_stand g h legal };
  expired = kept_after g h legal;
  placed = λ w. rows_placed g h w legal;
  askers = have_askers g h legal;
  bounds = kept g h checked legal;
}

-- the whole milliseconds of the time

pub record AreMilliseconds (z : ℤ) : Type 0 where
  pub high : natural z ≤ 8796093022207
  pub is : pos (natural z) ≡ z

milliseconds_of : (z : ℤ) → pos 0 ≤ℤ z → z ≤ℤ pos 8796093022207 → AreMilliseconds z
milliseconds_of (pos n) low high = record { high = omega (arith, ints, high); is = refl }
milliseconds_of (negsuc n) low high = absurd (omega (arith, ints, low))

pub milliseconds : (g : Settings) (s : State) → IsReached g s → AreMilliseconds (down g s.clock.now)
milliseconds g s h =
    let within = in_range g (face g s.clock) h.checked h.bounds.sound in
    let low : pos 0 ≤ℤ (s.clock.now -ℤ g.start) = omega (arith, ints, within.low) in
    let high : (s.clock.now -ℤ g.start) ≤ℤ pos 8796093022207000000 = omega (arith, ints, within.high) in
    milliseconds_of (down g s.clock.now) (floor_rises (pos 0) (s.clock.now -ℤ g.start) low)
    (floor_rises (s.clock.now -ℤ g.start) (pos 8796093022207000000) high)
