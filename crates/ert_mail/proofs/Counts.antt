-- Each message of a timer that was put into a mailbox is that of a timer of its own, and a service has at
-- most 2^63 timers: so the messages can be counted in 64 bits.

use Rattle.std.proofs.Common.{◌^◌, ◌≡◌, ℕ, zero, suc, ◌<◌, ◌≤◌, List, arith, inl, inr, ap}
use Rattle.std.proofs.lemmas.Bool.{cases_eq}
use Rattle.ert_defs.specs.{Legal.Legal, Settings.IsChecked, States.{State, state}, declared.entry.Entry.Entry, declared.settings.Settings.Settings, declared.timer.Status.TheVariants.Delivered}
use Rattle.ert_laws.proofs.{CountTotals.deliveries_counted, Counting.six_statuses, SlotUses.timers_few, Totals.total_most}
use Rattle.ert_laws.specs.Counts.{total, count_at, deliveries}

-- what one place gives is at most the sum
total_one : (f : ℕ → ℕ) (p n : ℕ) → p < n → f p ≤ total f n
total_one f p zero low = absurd (omega arith)
total_one f p (suc n) low = elim (cases_eq p n) [
  | inl same ↦ (let one : f p ≡ f n = ap f same in omega arith)
  | inr other ↦ omega (arith, total_one f p n (omega arith))
]

pub deliveries_few : (g : Settings) (h : List Entry) (p : ℕ) → p < g.processes → IsChecked g → Legal g h → deliveries p h ≤ 2 ^ 63
deliveries_few g h p known checked legal =
    let s : State = state g h in
    let all : total (λ p. deliveries p h) g.processes ≡ total (count_at s Delivered) g.schedulers = deliveries_counted g h legal in
    let each : (w : ℕ) → count_at s Delivered w ≤ 9007199254740992 = λ w. omega (arith, six_statuses g h w legal, timers_few g h w legal) in
    omega (
      arith,
      total_one (λ p. deliveries p h) p g.processes known,
      all,
      total_most (count_at s Delivered) 9007199254740992 g.schedulers each,
      checked.counts.schedulers_high,
    )
