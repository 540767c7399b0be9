-- The tests of the ranges, and the facts that they test.

use Rattle.std.proofs.Common.{◌≡◌, ◌&&◌, ◌*◌, ◌≤◌, ℕ, ℤ, ◌≤ℤ◌, ◌<ℤ◌, false, Result, Ok, Err, is_ok, leb, int_le, int_lt, leb-true, le-leb, arith}
use Rattle.std.proofs.lemmas.{Bool.false≢true, Int.ints, Nat.mul-le, Bool.Decides.{Decides-and, Decides-like, Decides-int_eq, same_from_decides}}
use Rattle.std.specs.Bool.{Decides}
use Rattle.ert_defs.specs.{Readings.IsValid, Settings.{IsStart, HasCounts, IsChecked, Checks}, declared.settings.Reading.Reading, declared.settings.Settings.Settings, declared.settings.SettingsFault.SettingsFault}
use Rattle.ert_defs.specs.{declared.settings.TheConstants.MOST_CHAINS, declared.settings.SettingsFault.TheVariants.{Start, First, Count}}
use Rattle.ert_scenario.specs.{declared.limits.TheConstants.{MOST_SCHEDULERS, MOST_PROCESSES, MOST_SLOTS, MOST_SLOTS_IN_ALL, MOST_CALLERS}, Ranges.{is_reading, is_start, has_counts, is_checked}}

pub Decides-nat_le : (a b : ℕ) → Decides (leb a b) (a ≤ b)
Decides-nat_le a b = (leb-true a b, le-leb a b)

Decides-int_le : (a b : ℤ) → Decides (int_le a b) (a ≤ℤ b)
Decides-int_le a b = grind (arith, ints)

Decides-int_lt : (a b : ℤ) → Decides (int_lt a b) (a <ℤ b)
Decides-int_lt a b = grind (arith, ints)

pub Decides-reading : (r : Reading) → Decides (is_reading r) (IsValid r)
unfolding is_reading
Decides-reading r =
    Decides-like _
    (λ p. record { mono_low = p.0.0; mono_high = p.0.1; sys_low = p.1.0; sys_high = p.1.1 })
    (λ h. ((h.mono_low, h.mono_high), (h.sys_low, h.sys_high)))
    (Decides-and _ _
    (Decides-and _ _ (Decides-int_le _ _) (Decides-int_lt _ _))
    (Decides-and _ _ (Decides-int_lt _ _) (Decides-int_lt _ _)))

Decides-start : (start : ℤ) → Decides (is_start start) (IsStart start)
unfolding is_start
Decides-start start =
    Decides-like _
    (λ p. record { whole = p.0; low = p.1.0; high = p.1.1 })
    (λ h. (h.whole, (h.low, h.high)))
    (Decides-and _ _ (Decides-int_eq _ _) (Decides-and _ _ (Decides-int_le _ _) (Decides-int_le _ _)))

within : (low value high : ℕ) → Decides (leb low value && leb value high) ((low ≤ value) × (value ≤ high))
within low value high = Decides-and _ _ (Decides-nat_le low value) (Decides-nat_le value high)

-- the counts of a scenario
pub record IsSmall (g : Settings) : Type 0 where
  pub schedulers_low : 1 ≤ g.schedulers
  pub schedulers_high : g.schedulers ≤ MOST_SCHEDULERS
  pub processes_low : 1 ≤ g.processes
  pub processes_high : g.processes ≤ MOST_PROCESSES
  pub slots_low : 1 ≤ g.slots
  pub slots_high : g.slots ≤ MOST_SLOTS
  pub slots_in_all : (g.schedulers * g.slots) ≤ MOST_SLOTS_IN_ALL
  pub looks_low : 1 ≤ g.looks
  pub callers_low : 1 ≤ g.callers
  pub callers_high : g.callers ≤ MOST_CALLERS

-- so many schedulers and processes have fewer chains of timers than a service can have
few_chains : (schedulers processes : ℕ) → schedulers ≤ MOST_SCHEDULERS → processes ≤ MOST_PROCESSES → (schedulers * processes) ≤ MOST_CHAINS
few_chains schedulers processes few small = omega (arith, mul-le schedulers processes MOST_SCHEDULERS MOST_PROCESSES few small)

-- a service can have them
small_fits : (g : Settings) → IsSmall g → HasCounts g
small_fits g h = record {
  schedulers_low = h.schedulers_low;
  schedulers_high = omega (arith, h.schedulers_high);
  processes_low = h.processes_low;
  processes_high = omega (arith, h.processes_high);
  chains_in_all = few_chains g.schedulers g.processes h.schedulers_high h.processes_high;
  slots_low = h.slots_low;
  slots_high = omega (arith, h.slots_high);
  slots_in_all = omega (arith, h.slots_in_all);
  looks_low = h.looks_low;
  callers_low = h.callers_low;
  callers_high = omega (arith, h.callers_high);
}

Decides-counts : (g : Settings) → Decides (has_counts g) (IsSmall g)
unfolding has_counts
Decides-counts g =
    Decides-like _
    (λ p. record {
      schedulers_low = p.0.0;
      schedulers_high = p.0.1;
      processes_low = p.1.0.0;
      processes_high = p.1.0.1;
      slots_low = p.1.1.0.0;
      slots_high = p.1.1.0.1;
      slots_in_all = p.1.1.1.0;
      looks_low = p.1.1.1.1.0;
      callers_low = p.1.1.1.1.1.0;
      callers_high = p.1.1.1.1.1.1;
    })
    (λ h. (
      (h.schedulers_low, h.schedulers_high),
      (
        (h.processes_low, h.processes_high),
        ((h.slots_low, h.slots_high), (h.slots_in_all, (h.looks_low, (h.callers_low, h.callers_high)))),
      ),
    ))
    (Decides-and _ _ (within 1 g.schedulers MOST_SCHEDULERS)
    (Decides-and _ _ (within 1 g.processes MOST_PROCESSES)
    (Decides-and _ _ (within 1 g.slots MOST_SLOTS)
    (Decides-and _ _ (Decides-nat_le _ _)
    (Decides-and _ _ (Decides-nat_le _ _) (within 1 g.callers MOST_CALLERS))))))

pub Decides-checked : (g : Settings) → Decides (is_checked g) (IsChecked g × IsSmall g)
unfolding is_checked
Decides-checked g =
    Decides-like _
    (λ p. (record { start = p.0; first = p.1.0; counts = small_fits g p.1.1 }, p.1.1))
    (λ h. (h.0.start, (h.0.first, h.1)))
    (Decides-and _ _ (Decides-start g.start) (Decides-and _ _ (Decides-reading g.first) (Decides-counts g)))

never : (g : Settings) → (IsChecked g → ⊥) → false ≡ is_checked g
never g not = same_from_decides false (is_checked g) (λ h. absurd (false≢true h), λ h. absurd (not h.0)) (Decides-checked g)

-- where the check of settings finds no fault, and the counts are those of a scenario, the test holds
pub is_ok_check : (answer : Result (Unit {0}) SettingsFault) (g : Settings) → Checks g answer → (is_ok answer && has_counts g) ≡ is_checked g
is_ok_check (Ok _) g h =
    same_from_decides (has_counts g) (is_checked g) (Decides-like (has_counts g) (λ small. (h, small)) (λ p. p.1) (Decides-counts g)) (Decides-checked g)
is_ok_check (Err Start) g h = never g (λ c. h c.start)
is_ok_check (Err First) g h = never g (λ c. h.1 c.first)
is_ok_check (Err Count) g h = never g (λ c. h.2 c.counts)
