-- An exchange that finds another word than it expects records that its timer isn't armed. One of a timer
-- that has expired always finds what it expects.

use Rattle.std.proofs.Common.{◌≡◌, ◌≢◌, ℕ, ℤ, Bool, true, false, cond, Option, Some, None, refl, sym, subst}
use Rattle.ert_defs.specs.{Actors.IsCaller, Legal.{IsProber, Found, left_by}, States.{State, next, state}, Timers.{Row, row_of, same_timer, settled_as, timer_at}, Words.word_of, declared.entry.Actor.Actor}
use Rattle.ert_defs.specs.{declared.entry.Actor.TheVariants.{Sched, Wheel, Caller}, declared.entry.Entry.Entry, declared.settings.Settings.Settings, declared.timer.Status.Status, declared.timer.Status.TheVariants.{Armed, Cancelled}}
use Rattle.ert_defs.specs.{declared.timer.TimerRef.TimerRef}
use Rattle.ert_defs.proofs.Slots.{same_timer-true}
use Rattle.ert_table.specs.{Held.is_held, Settlings.{status_from, status_in, hit_entry, miss_entry, Misses}, Takes.{MayStep, Appends}, declared.carry.Settle.Settle, declared.carry.Settle.TheVariants.{Cancel, Expire, Orphan, Deliver, Drop}}
use Rattle.ert_table.specs.{declared.view.View.View}
use Rattle.ert_table.proofs.WordSteps.{is_calm, word_calm}

-- whether an exchange can miss
abbrev pub can_miss : Settle → Bool
can_miss Deliver = false
can_miss Drop = false
can_miss _ = true

-- one that can is of an armed timer
pub missed_from : (how : Settle) → can_miss how ≡ true → status_from how ≡ Armed
missed_from Deliver can = absurd cc
missed_from Drop can = absurd cc
missed_from _ can = refl

-- nothing is left of a timer that isn't armed
pub left_none : (g : Settings) (look : ℤ) (status : Option Status) (row : Option Row) → status ≢ Some Armed → left_by g look status row ≡ None
left_none g look (Some Armed) row not = absurd (not refl)
left_none g look _ row not = refl

-- a cancel leaves it
stays_settled : (x : Option Status) → x ≢ Some Armed → settled_as Cancelled x ≡ x
stays_settled (Some Armed) not = absurd (not refl)
stays_settled _ not = refl

cancelled_at : (c : Bool) (x : Option Status) → (c ≡ true → x ≢ Some Armed) → cond c (settled_as Cancelled x) x ≡ x
cancelled_at true x not = stays_settled x (not refl)
cancelled_at false x not = refl

caller_probes : (g : Settings) (w : ℕ) (by : Actor) → IsCaller g by → IsProber g w by
caller_probes g w (Caller n) h = h
caller_probes g w _ h = absurd h

sched_probes : (g : Settings) (w : ℕ) (by : Actor) → by ≡ Sched w → IsProber g w by
sched_probes g w by is = subst (IsProber g w) (sym is) refl

module _ (g : Settings) (v : View) (by : Actor) (timer : TimerRef) (deadline : ℕ) where
  abbrev hit : Settle → Entry
  hit how = hit_entry g (state g v.front) by timer deadline how

  abbrev miss : Settle → ℕ → Entry
  miss how n = miss_entry (hit how) by timer how n

  -- who may settle the timer may miss it
  pub miss_may : (how : Settle) (n : ℕ) → MayStep g v (hit how) → MayStep g v (miss how n)
  miss_may Cancel n may = record { ours = may.ours; keeps = may.keeps; known = tt }
  miss_may Expire n may = record {
    ours = may.ours;
    keeps = (sched_probes g timer.wheel by may.keeps.0, may.keeps.1, may.keeps.2);
    known = tt;
  }
  miss_may Orphan n may = record {
    ours = may.ours;
    keeps = (caller_probes g timer.wheel by may.keeps.0, may.keeps.1, may.keeps.2);
    known = tt;
  }
  miss_may _ n may = may

  miss_calm : (how : Settle) (n : ℕ) → is_calm (miss how n).event ≡ true
  miss_calm Cancel n = refl
  miss_calm _ n = refl

  module _ (s : State) (not : s.status timer ≢ Some Armed) where
    -- a miss finds what it says
    pub miss_found : (how : Settle) (n : ℕ) → status_in n ≡ s.status (timer_at timer.wheel timer.slot (s.last timer.wheel timer.slot))
        → Found g s (miss how n).by (miss how n).event
    miss_found Cancel n last = sym (left_none g (s.looked by) (s.status timer) (row_of (s.rows timer.wheel) timer) not)
    miss_found Expire n last = last
    miss_found Orphan n last = last
    miss_found _ n last = tt

    -- it leaves the statuses of all timers
    pub miss_status : (how : Settle) (n : ℕ) (r : TimerRef) → can_miss how ≡ true → (next g s (miss how n)).status r ≡ s.status r
    miss_status Cancel n r can =
        cancelled_at (same_timer timer r) (s.status r) (λ is. subst (λ t. s.status t ≢ Some Armed) (same_timer-true timer r is) not)
    miss_status Expire n r can = refl
    miss_status Orphan n r can = refl
    miss_status _ n r can = absurd cc

    -- and all words
    pub miss_word : (how : Settle) (n j : ℕ) → can_miss how ≡ true → word_of g (next g s (miss how n)) j ≡ word_of g s j
    miss_word how n j can = word_calm g s (miss how n) j (miss_calm how n) (λ w k m _. miss_status how n (timer_at w k m) can)

  -- what a miss tells
  pub missed : (how : Settle) (w : View) (n : ℕ) → can_miss how ≡ true
      → (is_held v.actors (Wheel timer.wheel) ≡ true → (state g v.front).last timer.wheel timer.slot ≡ timer.generation → status_in n ≢ Some Armed)
      → Appends g v (miss how n) w → Misses g v by timer how w
  missed Cancel w n can last step = step
  missed Expire w n can last step = record { found = status_in n; step = step; not_armed = last step.ours.1 }
  missed Orphan w n can last step = record { found = status_in n; step = step; not_armed = last step.ours.1 }
  missed _ w n can last step = absurd cc
