-- The counts of all parts of a world together.

use Rattle.std.proofs.Common.{◌^◌, ◌≡◌, ℕ, zero, suc, ◌+◌, ◌-◌, ◌<◌, ◌≤◌, List, length, slice_index_or, count_by, refl, sym, ap, subst, ◌∙◌, arith, Fits, w64}
use Rattle.std.specs.{Arc.arc_value, Option.is_some}
use Rattle.ert_defs.specs.{Legal.Legal, Settings.IsChecked, States.{State, state}, declared.entry.Entry.Entry, declared.settings.Settings.Settings, declared.timer.Status.TheVariants.{Armed, Delivered}}
use Rattle.ert_laws.proofs.{Counting.{arms_counted, expiries_counted, orphans_counted, six_statuses}, CountTotals.{deliveries_counted, counts_agree}, ExpiredCounts.expired_wait, SlotUses.all_few, Totals.total_grows}
use Rattle.ert_laws.specs.Counts.{Counts as Numbers, Agrees, counts_of, count_at, count_in, entries_of, is_arm, is_expire, is_orphan, deliveries, total}
use Rattle.ert_mail.specs.Mailboxes.{Mailbox}
use Rattle.ert_table.specs.Desks.{settings_of, front_of}
use Rattle.ert_timers.proofs.Counted.{tidy_counts}
use Rattle.ert_timers.specs.{Parts.{Part, PartStands as WheelStands}, Tidy.IsTidy, declared.sched_part.SchedPart.SchedPart}
use Rattle.ert_world.specs.{Worlds.{Seen, AreSound, world_sched}, declared.world.World.TheInside.Inside}
use Rattle.ert_world.specs.contracts.world.World.{the_view}
use Rattle.ert_world.proofs.Calls.{parts_in}

-- no sum of counts is greater: each of 1,024 wheels at most has 2^53 timers at most
abbrev pub most : ℕ
most = 2 ^ 63

pub total_one : (f : ℕ → ℕ) (n : ℕ) → total f (n + 1) ≡ total f n + f n
total_one f n = ap (total f) (more n)
  where
    more : (n : ℕ) → n + 1 ≡ suc n
    more n = omega arith

total_below : (f k : ℕ → ℕ) (n : ℕ) → ((i : ℕ) → f i ≤ k i) → total f n ≤ total k n
total_below f k zero below = omega arith
total_below f k (suc n) below = omega (arith, total_below f k n below, below n)

rows_all : (g : Settings) (h : List Entry) → IsChecked g → Legal g h → total (λ w. length ((state g h).rows w)) g.schedulers ≤ most
rows_all g h checked legal =
    let few = all_few g h g.schedulers legal in
    let wheels = checked.counts.schedulers_high in
    omega (arith, few, wheels)

-- sums of numbers of timers of wheels, up to any
sum_few : (g : Settings) (h : List Entry) (f : ℕ → ℕ) → IsChecked g → Legal g h → ((w : ℕ) → f w ≤ length ((state g h).rows w)) → (n : ℕ) → n ≤ g.schedulers
    → total f n ≤ most
sum_few g h f checked legal below n low =
    let grows = total_grows f n g.schedulers low in
    let under = total_below f (λ w. length ((state g h).rows w)) g.schedulers below in
    omega (arith, grows, under, rows_all g h checked legal)

pub arms_few : (g : Settings) (h : List Entry) → IsChecked g → Legal g h → (n : ℕ) → n ≤ g.schedulers → total (λ w. entries_of is_arm w h) n ≤ most
arms_few g h checked legal = sum_few g h (λ w. entries_of is_arm w h) checked legal (λ w. (let is = arms_counted g h w legal in omega (arith, is)))

pub expires_few : (g : Settings) (h : List Entry) → IsChecked g → Legal g h → (n : ℕ) → n ≤ g.schedulers → total (λ w. entries_of is_expire w h) n ≤ most
expires_few g h checked legal =
    sum_few g h (λ w. entries_of is_expire w h) checked legal
    (λ w. (let is = expiries_counted g h w legal in let six = six_statuses g h w legal in omega (arith, is, six)))

pub orphans_few : (g : Settings) (h : List Entry) → IsChecked g → Legal g h → (n : ℕ) → n ≤ g.schedulers → total (λ w. entries_of is_orphan w h) n ≤ most
orphans_few g h checked legal =
    sum_few g h (λ w. entries_of is_orphan w h) checked legal
    (λ w. (let is = orphans_counted g h w legal in let six = six_statuses g h w legal in omega (arith, is, six)))

pub armed_few : (g : Settings) (h : List Entry) → IsChecked g → Legal g h → (n : ℕ) → n ≤ g.schedulers → count_in (state g h) Armed n ≤ most
armed_few g h checked legal =
    sum_few g h (count_at (state g h) Armed) checked legal (λ w. (let six = six_statuses g h w legal in omega (arith, six)))

pub waiting_few : (g : Settings) (h : List Entry) → IsChecked g → Legal g h → (n : ℕ) → n ≤ g.schedulers
    → total (λ w. length ((state g h).scheds w).expired) n ≤ most
waiting_few g h checked legal =
    sum_few g h (λ w. length ((state g h).scheds w).expired) checked legal
    (λ w. (let is = expired_wait g h w legal in let six = six_statuses g h w legal in omega (arith, is, six)))

pub delivered_few : (g : Settings) (h : List Entry) → IsChecked g → Legal g h → (n : ℕ) → n ≤ g.processes → total (λ p. deliveries p h) n ≤ most
delivered_few g h checked legal n low =
    let grows = total_grows (λ p. deliveries p h) n g.processes low in
    let all = deliveries_counted g h legal in
    let few = sum_few g h (count_at (state g h) Delivered) checked legal (λ w. (let six = six_statuses g h w legal in omega (arith, six))) g.schedulers (omega arith) in
    omega (arith, grows, all, few)

-- a world's history is legal, and its settings are checked
pub legal_now : (before : Seen) (b : Inside) → the_view b ≡ before → AreSound (arc_value b.desk) b.pass b.next (parts_in b) → IsChecked before.settings × Legal before.settings before.history
legal_now before b is fit =
    subst (λ (w : Seen). IsChecked w.settings × Legal w.settings w.history) is ((arc_value b.desk).checked, fit.fit.stand.legal)

-- what a part of a world counts
pub wheel_counts : (before : Seen) (b : Inside) (i : ℕ) (p : Part) → the_view b ≡ before → AreSound (arc_value b.desk) b.pass b.next (parts_in b) → i < before.settings.schedulers
    → p ≡ slice_index_or b.wheels.items i p
    → (p.arms ≡ entries_of is_arm i before.history) × (p.expires ≡ entries_of is_expire i before.history) × (p.orphans ≡ entries_of is_orphan i before.history)
wheel_counts before b i p is fit low lent =
    let g : Settings = settings_of (arc_value b.desk) in
    let below : i < g.schedulers = subst (λ (w : Seen). i < w.settings.schedulers) (sym is) low in
    let stands : WheelStands g (front_of b.pass) p = subst (WheelStands g (front_of b.pass)) (sym lent) (fit.fit.stand.wheels.stand i p below refl) in
    let named : p.number ≡ i = ap (λ (x : Part). x.number) lent ∙ fit.fit.stand.wheels.named i p below in
    let counted = subst (λ n. (p.arms ≡ entries_of is_arm n (front_of b.pass)) × (p.expires ≡ entries_of is_expire n (front_of b.pass))
    × (p.orphans ≡ entries_of is_orphan n (front_of b.pass))) named (stands.counted.arms, stands.counted.expires, stands.counted.orphans) in
    subst (λ (w : Seen). (p.arms ≡ entries_of is_arm i w.history) × (p.expires ≡ entries_of is_expire i w.history) × (p.orphans ≡ entries_of is_orphan i w.history))
    is counted

pub wheel_rows : (before : Seen) (b : Inside) (i : ℕ) (p : Part) → the_view b ≡ before → AreSound (arc_value b.desk) b.pass b.next (parts_in b) → i < before.settings.schedulers
    → p ≡ slice_index_or b.wheels.items i p → before.next ≡ 1 → count_by is_some p.keys ≡ count_at (state before.settings before.history) Armed i
wheel_rows before b i p is fit low lent alone =
    let g : Settings = settings_of (arc_value b.desk) in
    let s : State = state g (front_of b.pass) in
    let below : i < g.schedulers = subst (λ (w : Seen). i < w.settings.schedulers) (sym is) low in
    let stands : WheelStands g (front_of b.pass) p = subst (WheelStands g (front_of b.pass)) (sym lent) (fit.fit.stand.wheels.stand i p below refl) in
    let named : p.number ≡ i = ap (λ (x : Part). x.number) lent ∙ fit.fit.stand.wheels.named i p below in
    let mine : IsTidy s p = subst (λ (x : Part). IsTidy s x) (sym lent) (fit.tidy (ap (λ (w : Seen). w.next) is ∙ alone) i p below) in
    subst (λ (w : Seen). count_by is_some p.keys ≡ count_at (state w.settings w.history) Armed i) is
    (subst (λ n. count_by is_some p.keys ≡ count_at s Armed n) named (tidy_counts g (front_of b.pass) p stands mine))

pub sched_waits : (before : Seen) (b : Inside) (i : ℕ) (p : SchedPart) → the_view b ≡ before → AreSound (arc_value b.desk) b.pass b.next (parts_in b) → i < before.settings.schedulers
    → p ≡ slice_index_or b.scheds.items i p → length p.expired.rows ≡ length (world_sched before i).expired
sched_waits before b i p is fit low lent =
    let g : Settings = settings_of (arc_value b.desk) in
    let below : i < g.schedulers = subst (λ (w : Seen). i < w.settings.schedulers) (sym is) low in
    let stands = subst (λ (x : SchedPart). x.expired.rows ≡ ((state g (front_of b.pass)).scheds x.wheel).expired) (sym lent) (fit.fit.stand.scheds.stand i p below refl).expired in
    let named : p.wheel ≡ i = ap (λ (x : SchedPart). x.wheel) lent ∙ fit.fit.stand.scheds.named i p below in
    ap (λ (l : List _). length l) (stands ∙ (ap (λ n. ((state g (front_of b.pass)).scheds n).expired) named ∙ ap (λ (w : Seen). (world_sched w i).expired) is))

pub mail_delivered : (before : Seen) (b : Inside) (i : ℕ) (m : Mailbox) → the_view b ≡ before → AreSound (arc_value b.desk) b.pass b.next (parts_in b) → i < before.settings.processes
    → m ≡ slice_index_or b.mails.items i m → m.delivered ≡ deliveries i before.history
mail_delivered before b i m is fit low lent =
    let g : Settings = settings_of (arc_value b.desk) in
    let below : i < g.processes = subst (λ (w : Seen). i < w.settings.processes) (sym is) low in
    let stands = subst (λ (x : Mailbox). x.delivered ≡ deliveries x.process (front_of b.pass)) (sym lent) (fit.fit.stand.mails.stand i m below refl).delivered in
    let named : m.process ≡ i = ap (λ (x : Mailbox). x.process) lent ∙ fit.fit.stand.mails.named i m below in
    stands ∙ (ap (λ n. deliveries n (front_of b.pass)) named ∙ ap (λ (w : Seen). deliveries i w.history) is)

-- a sum goes on by one part
pub sum_on : (all one : ℕ) (f : ℕ → ℕ) (n : ℕ) → all ≡ total f n → one ≡ f n → all + one ≡ total f (n + 1)
sum_on all one f n before is = ap (λ x. x + one) before ∙ (ap (λ x. total f n + x) is ∙ sym (total_one f n))

-- and still fits 64 bits
pub sum_fits : (all one : ℕ) (f : ℕ → ℕ) (n : ℕ) → all ≡ total f n → one ≡ f n → total f (n + 1) ≤ most → Fits w64 (all + one)
sum_fits all one f n before is few = (let sum = sum_on all one f n before is in omega (arith, sum, few))

-- the counts by status are differences of what the counters of all parts tell, and none falls below 0
pub record AreCounted (n : Numbers) (arms expires orphans rows expired delivered : ℕ) : Type 0 where
  pub expired_under : expired ≤ expires
  pub delivered_under : delivered ≤ expires - expired
  pub rows_under : rows ≤ arms
  pub expires_under : expires ≤ arms - rows
  pub orphans_under : orphans ≤ (arms - rows) - expires
  pub numbers : record {
    armed = rows;
    expired = expired;
    delivered = delivered;
    dropped = (expires - expired) - delivered;
    cancelled = ((arms - rows) - expires) - orphans;
    orphaned = orphans;
  } ≡ n

same_numbers : (n : Numbers) (armed expired delivered dropped cancelled orphaned : ℕ) → armed ≡ n.armed → expired ≡ n.expired → delivered ≡ n.delivered
    → dropped ≡ n.dropped → cancelled ≡ n.cancelled → orphaned ≡ n.orphaned
    → record { armed = armed; expired = expired; delivered = delivered; dropped = dropped; cancelled = cancelled; orphaned = orphaned } ≡ n
same_numbers n armed expired delivered dropped cancelled orphaned a e d r c o =
    ap (λ x. record { armed = x; expired = expired; delivered = delivered; dropped = dropped; cancelled = cancelled; orphaned = orphaned }) a
    ∙ (ap (λ x. record { armed = n.armed; expired = x; delivered = delivered; dropped = dropped; cancelled = cancelled; orphaned = orphaned }) e
    ∙ (ap (λ x. record { armed = n.armed; expired = n.expired; delivered = x; dropped = dropped; cancelled = cancelled; orphaned = orphaned }) d
    ∙ (ap (λ x. record { armed = n.armed; expired = n.expired; delivered = n.delivered; dropped = x; cancelled = cancelled; orphaned = orphaned }) r
    ∙ (ap (λ x. record { armed = n.armed; expired = n.expired; delivered = n.delivered; dropped = n.dropped; cancelled = x; orphaned = orphaned }) c
    ∙ ap (λ x. record { armed = n.armed; expired = n.expired; delivered = n.delivered; dropped = n.dropped; cancelled = n.cancelled; orphaned = x }) o))))

dropped_rest : (expires expired delivered dropped : ℕ) → expires ≡ (expired + delivered) + dropped → (expires - expired) - delivered ≡ dropped
dropped_rest expires expired delivered dropped sum = omega (arith, sum)

cancelled_rest : (arms rows cancelled orphans expires : ℕ) → arms ≡ ((rows + cancelled) + orphans) + expires → ((arms - rows) - expires) - orphans ≡ cancelled
cancelled_rest arms rows cancelled orphans expires sum = omega (arith, sum)

first_under : (a b c d : ℕ) → a ≡ (b + c) + d → b ≤ a
first_under a b c d sum = omega (arith, sum)

second_under : (a b c d : ℕ) → a ≡ (b + c) + d → c ≤ a - b
second_under a b c d sum = omega (arith, sum)

last_under : (a b c d e : ℕ) → a ≡ ((b + c) + d) + e → e ≤ a - b
last_under a b c d e sum = omega (arith, sum)

third_under : (a b c d e : ℕ) → a ≡ ((b + c) + d) + e → d ≤ (a - b) - e
third_under a b c d e sum = omega (arith, sum)

four_under : (a b c d e : ℕ) → a ≡ ((b + c) + d) + e → b ≤ a
four_under a b c d e sum = omega (arith, sum)

pub counted : (w : Seen) {arms expires orphans rows expired delivered : ℕ} → Legal w.settings w.history
    → arms ≡ total (λ i. entries_of is_arm i w.history) w.settings.schedulers
    → expires ≡ total (λ i. entries_of is_expire i w.history) w.settings.schedulers
    → orphans ≡ total (λ i. entries_of is_orphan i w.history) w.settings.schedulers
    → rows ≡ count_in (state w.settings w.history) Armed w.settings.schedulers
    → expired ≡ total (λ i. length (world_sched w i).expired) w.settings.schedulers
    → delivered ≡ total (λ p. deliveries p w.history) w.settings.processes
    → AreCounted (counts_of w.settings (state w.settings w.history)) arms expires orphans rows expired delivered
counted w {arms} {expires} {orphans} {rows} {expired} {delivered} legal arms_is expires_is orphans_is rows_is expired_is delivered_is =
    let n : Numbers = counts_of w.settings (state w.settings w.history) in
    let own : Agrees w.settings w.history n = counts_agree w.settings w.history legal in
    let e : n.expired ≡ expired = own.expired ∙ sym expired_is in
    let d : n.delivered ≡ delivered = own.delivered ∙ sym delivered_is in
    let o : n.orphaned ≡ orphans = own.orphaned ∙ sym orphans_is in
    let a : n.armed ≡ rows = own.armed ∙ sym rows_is in
    let expiries : expires ≡ (expired + delivered) + n.dropped =
    expires_is ∙ (own.expiries ∙ (ap (λ x. x + n.delivered + n.dropped) e ∙ ap (λ x. expired + x + n.dropped) d)) in
    let armings : arms ≡ ((rows + n.cancelled) + orphans) + expires =
    arms_is ∙ (own.arms ∙ (ap (λ x. x + n.cancelled + n.orphaned + total (λ i. entries_of is_expire i w.history) w.settings.schedulers) a
    ∙ (ap (λ x. rows + n.cancelled + x + total (λ i. entries_of is_expire i w.history) w.settings.schedulers) o
    ∙ ap (λ x. rows + n.cancelled + orphans + x) (sym expires_is)))) in
    record {
      expired_under = first_under expires expired delivered n.dropped expiries;
      delivered_under = second_under expires expired delivered n.dropped expiries;
      rows_under = four_under arms rows n.cancelled orphans expires armings;
      expires_under = last_under arms rows n.cancelled orphans expires armings;
      orphans_under = third_under arms rows n.cancelled orphans expires armings;
      numbers = same_numbers n rows expired delivered ((expires - expired) - delivered) (((arms - rows) - expires) - orphans) orphans
          (sym a) (sym e) (sym d) (dropped_rest expires expired delivered n.dropped expiries) (cancelled_rest arms rows n.cancelled orphans expires armings) (sym o);
    }
