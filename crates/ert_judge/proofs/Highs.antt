-- The numbers that an entry names, and whether one is too high.

use Rattle.std.proofs.Common.{◌≡◌, ◌<◌, inl, inr, ℕ, refl, sym, ◌∙◌, ap, subst, cond, nat_le, Option, Some, None}
use Rattle.std.proofs.lemmas.Bool.{cases_Bool, cond_both, leb-false, lt-leb}
use Rattle.std.specs.Option.{option_or}
use Rattle.std.specs.Prelude.{IfSome}
use Rattle.ert_defs.specs.declared.{entry.Actor.Actor, entry.Actor.TheVariants.{Sched, MailOf, Caller}, entry.Entry.Entry, settings.Settings.Settings}
use Rattle.ert_judge.specs.{Ranges.{wheel_of_event, slot_of_event, process_of, count_of_kind, high, high_by, high_with, too_high, maker_of, partner_of, IsMadeBy, IsMadeWith}, Reasons.BreaksRange, declared.reasons.Counted.Counted}
use Rattle.ert_judge.specs.{declared.reasons.Counted.TheVariants.{Callers, Schedulers, Processes, Slots}, declared.reasons.Reason.Reason, declared.reasons.Reason.TheVariants.TooHigh}

-- nothing is told of a number exactly where it is below the count of its kind
pub low_high : (g : Settings) (thing : Counted) (o : Option ℕ) → IfSome o (λ n. n < count_of_kind g thing) → high g thing o ≡ None
low_high g thing None low = refl
low_high g thing (Some n) low = rw (lt-leb (count_of_kind g thing) n low) refl

pub high_low : (g : Settings) (thing : Counted) (o : Option ℕ) → high g thing o ≡ None → IfSome o (λ n. n < count_of_kind g thing)
high_low g thing None is = tt
high_low g thing (Some n) is = elim (cases_Bool (nat_le (count_of_kind g thing) n)) [
  | inl high ↦
      let told : Some (TooHigh thing n (count_of_kind g thing)) ≡ None =
      sym (ap (λ b. cond b (Some (TooHigh thing n (count_of_kind g thing))) None) high) ∙ is in absurd cc
  | inr low ↦ leb-false (count_of_kind g thing) n low
]

-- no number of an entry is too high
pub record AreLow (g : Settings) (e : Entry) : Type 0 where
  pub by : high_by g e.by ≡ None
  pub with : high_with g e.with ≡ None
  pub wheel : IfSome (wheel_of_event e.event) (λ n. n < g.schedulers)
  pub slot : IfSome (slot_of_event e.event) (λ n. n < g.slots)
  pub process : IfSome (process_of e.event) (λ n. n < g.processes)

none_of_two : (x y : Option Reason) → option_or x y ≡ None → (x ≡ None) × (y ≡ None)
none_of_two None y none = (refl, none)
none_of_two (Some r) y none = absurd cc

-- so it is exactly where nothing is told of it
pub all_low : (g : Settings) (e : Entry) → too_high g e ≡ None → AreLow g e
all_low g e none =
    let process = none_of_two _ (high g Processes (process_of e.event)) none in
    let slot = none_of_two _ (high g Slots (slot_of_event e.event)) process.0 in
    let wheel = none_of_two _ (high g Schedulers (wheel_of_event e.event)) slot.0 in
    let actors = none_of_two (high_by g e.by) (high_with g e.with) wheel.0 in
    record {
      by = actors.0;
      with = actors.1;
      wheel = high_low g Schedulers (wheel_of_event e.event) wheel.1;
      slot = high_low g Slots (slot_of_event e.event) slot.1;
      process = high_low g Processes (process_of e.event) process.1;
    }

pub none_too_high : (g : Settings) (e : Entry) → AreLow g e → too_high g e ≡ None
none_too_high g e low =
    rw (
      low.by,
      low.with,
      low_high g Schedulers (wheel_of_event e.event) low.wheel,
      low_high g Slots (slot_of_event e.event) low.slot,
      low_high g Processes (process_of e.event) low.process,
    ) refl

-- what is told is that a number is too high
abbrev IsTold : Reason → Type 0
IsTold (TooHigh thing n count) = Unit {0}
IsTold _ = ⊥

one_told : (x y : Option Reason) → IfSome x IsTold → IfSome y IsTold → IfSome (option_or x y) IsTold
one_told None y told more = more
one_told (Some r) y told more = told

high_told : (g : Settings) (thing : Counted) (o : Option ℕ) → IfSome (high g thing o) IsTold
high_told g thing None = tt
high_told g thing (Some n) =
    cond_both (nat_le (count_of_kind g thing) n) (Some (TooHigh thing n (count_of_kind g thing))) None (λ o. IfSome o IsTold)
    (λ _. tt) (λ _. tt)

by_told : (g : Settings) (by : Actor) → IfSome (high_by g by) IsTold
by_told g (Caller n) = high_told g Callers (Some n)
by_told g (Sched n) = high_told g Schedulers (Some n)
by_told g _ = tt

with_told : (g : Settings) (with : Option Actor) → IfSome (high_with g with) IsTold
with_told g (Some (Caller n)) = high_told g Callers (Some n)
with_told g (Some (MailOf p)) = high_told g Processes (Some p)
with_told g _ = tt

first_told : (g : Settings) (e : Entry) → IfSome (too_high g e) IsTold
first_told g e =
    one_told _ (high g Processes (process_of e.event))
    (one_told _ (high g Slots (slot_of_event e.event))
    (one_told _ (high g Schedulers (wheel_of_event e.event))
    (one_told (high_by g e.by) (high_with g e.with) (by_told g e.by) (with_told g e.with))
    (high_told g Schedulers (wheel_of_event e.event)))
    (high_told g Slots (slot_of_event e.event)))
    (high_told g Processes (process_of e.event))

-- a reason of the range
pub out_of_range : (g : Settings) (e : Entry) (o : Option Reason) → o ≡ too_high g e → IsMadeBy (maker_of e.event) e.by
    → IsMadeWith (partner_of e.by e.event) e.with → IfSome o (BreaksRange g e)
out_of_range g e o is by with = of_told o is (subst (λ (x : Option Reason). IfSome x IsTold) (sym is) (first_told g e))
  where
    of_told : (o : Option Reason) → o ≡ too_high g e → IfSome o IsTold → IfSome o (BreaksRange g e)
    of_told None is told = tt
    of_told (Some (TooHigh thing n count)) is told = (by, with, sym is)
    of_told (Some _) is told = absurd told
