-- How the intervals of a wheel go on, one after the other.

use Rattle.std.proofs.Common.{◌≡◌, ℕ, suc, ◌+◌, ◌<◌, ◌≤◌, Bool, true, false, List, length, slice_index_or, set, Result, Ok, Err, refl, sym, subst, ◌∙◌, inl, inr, arith, get_or-set_same, get_or-set_other}
use Rattle.std.proofs.lemmas.List.{length-set}
use Rattle.ert_effects.specs.{Ways.{Growth, Way}, WheelCalls.TellsAlive}
use Rattle.ert_defs.specs.declared.{entry.Actor.TheVariants.Caller, memory.NoMemory.NoMemory}
use Rattle.ert_interval.specs.{Calls.IsTurnedBy, Going.{KeepsSeats, IsPut, StartsNext, StartsWhere, GoesWhere, ReadsLast, GoesOn, StepsOne, StepsTo, one_if}, declared.interval.Interval.Interval}
use Rattle.ert_interval.specs.{declared.interval.IntervalState.IntervalState, declared.interval.IntervalState.TheVariants.Ended}
use Rattle.ert_interval.proofs.{Growing.with_state, Tables.any_default}
use Rattle.ert_world.specs.Worlds.{Seen, Goes, By}

pub put : (i : Interval) (st : IntervalState) → IsPut st i (with_state i st)
put i st = record {
  same = record { wheel = refl; first = refl; period = refl; dest = refl; msg = refl };
  state_is = refl;
  last = refl;
  deadline = refl;
  firings = refl;
}

-- an interval whose last timer is armed
pub goes_armed : (a r : Seen) (i : Interval) (b : Bool) → ReadsLast i b a r → b ≡ true → GoesOn (Ok false) a i r i
goes_armed a r i b reads is = record {
  read = r;
  armed = true;
  reads = subst (λ x. ReadsLast i x a r) is reads;
  goes = (refl, refl, refl);
}

-- one whose next deadline is above the greatest
pub goes_high : (a r : Seen) (i : Interval) (b : Bool) → ReadsLast i b a r → b ≡ false → 8796093022207 < i.deadline + i.period
    → GoesOn (Ok false) a i r (with_state i Ended)
goes_high a r i b reads is high = record {
  read = r;
  armed = false;
  reads = subst (λ x. ReadsLast i x a r) is reads;
  goes = inl (high, (refl, refl, put i Ended));
}

-- one whose next deadline isn't, by whether its destination lives
goes_low : (a r l n : Seen) (i j : Interval) (b lives : Bool) (answer : Result Bool NoMemory) → ReadsLast i b a r → b ≡ false
    → i.deadline + i.period ≤ 8796093022207 → Goes r (By r (λ g. TellsAlive g (Caller 0) i.dest lives)) l
    → StartsWhere lives answer l i n j → GoesOn answer a i n j
goes_low a r l n i j b lives answer reads is low look starts = record {
  read = r;
  armed = false;
  reads = subst (λ x. ReadsLast i x a r) is reads;
  goes = inr (low, record { looked = l; lives = lives; look = look; starts = starts });
}

-- its destination has exited
pub goes_dead : (a r l : Seen) (i : Interval) (b lives : Bool) → ReadsLast i b a r → b ≡ false → i.deadline + i.period ≤ 8796093022207
    → Goes r (By r (λ g. TellsAlive g (Caller 0) i.dest lives)) l → lives ≡ false → GoesOn (Ok false) a i l (with_state i Ended)
goes_dead a r l i b lives reads is low look dead =
    goes_low a r l l i (with_state i Ended) b lives (Ok false) reads is low look
    (subst (λ x. StartsWhere x (Ok false) l i l (with_state i Ended)) (sym dead) (refl, refl, put i Ended))

-- its next timer is to be started
pub goes_start : (a r l n : Seen) (i j : Interval) (b lives : Bool) (answer : Result Bool NoMemory) → ReadsLast i b a r → b ≡ false
    → i.deadline + i.period ≤ 8796093022207 → Goes r (By r (λ g. TellsAlive g (Caller 0) i.dest lives)) l → lives ≡ true
    → StartsNext answer l i n j → GoesOn answer a i n j
goes_start a r l n i j b lives answer reads is low look alive starts =
    goes_low a r l n i j b lives answer reads is low look (subst (λ x. StartsWhere x answer l i n j) (sym alive) starts)

pub stays_none : (a : Seen) → KeepsSeats a a
stays_none a = record { settings = refl; next = refl }

pub stays_then : (a b c : Seen) → KeepsSeats a b → KeepsSeats b c → KeepsSeats a c
stays_then a b c one other = record {
  settings = other.settings ∙ one.settings;
  next = other.next ∙ one.next;
}

pub goes_stays : (a b : Seen) (call : Way → Growth) → Goes a call b → KeepsSeats a b
goes_stays a b call goes = record { settings = goes.settings; next = goes.next }

same_stays : (a b : Seen) → b ≡ a → KeepsSeats a b
same_stays a b same = subst (KeepsSeats a) (sym same) (stays_none a)

starts_stays : (answer : Result Bool NoMemory) (a : Seen) (i : Interval) (b : Seen) (j : Interval) → StartsNext answer a i b j → KeepsSeats a b
starts_stays (Ok true) a i b j starts = goes_stays a b _ starts.1
starts_stays (Ok false) a i b j starts = goes_stays a b _ starts.0
starts_stays (Err e) a i b j starts = same_stays a b starts.0

alive_stays : (lives : Bool) (answer : Result Bool NoMemory) (a : Seen) (i : Interval) (b : Seen) (j : Interval) → StartsWhere lives answer a i b j
    → KeepsSeats a b
alive_stays true answer a i b j starts = starts_stays answer a i b j starts
alive_stays false answer a i b j ends = same_stays a b ends.1

armed_stays : (armed : Bool) (answer : Result Bool NoMemory) (a : Seen) (i : Interval) (b : Seen) (j : Interval) → GoesWhere armed answer a i b j
    → KeepsSeats a b
armed_stays true answer a i b j goes = same_stays a b goes.1
armed_stays false answer a i b j (inl high) = same_stays a b high.1.1
armed_stays false answer a i b j (inr low) =
    let first = low.1 in
    stays_then a first.looked b (goes_stays a first.looked _ first.look) (alive_stays first.lives answer first.looked i b j first.starts)

-- what stays while an interval goes on
pub on_stays : (answer : Result Bool NoMemory) (a : Seen) (i : Interval) (b : Seen) (j : Interval) → GoesOn answer a i b j → KeepsSeats a b
on_stays answer a i b j goes =
    stays_then a goes.read b (goes_stays a goes.read _ goes.reads.call) (armed_stays goes.armed answer goes.read i b j goes.goes)

-- the step of an interval that goes on
pub step_on : (answer : Result Bool NoMemory) (w n : ℕ) (a b : Seen) (is : List Interval) (i j : Interval) → n < length is → i ≡ slice_index_or is n i
    → IsTurnedBy w i → GoesOn answer a i b j → StepsOne answer w n a is b (set is n j)
step_on answer w n a b is i j low here is_of goes = record {
  goes = λ d _.
      subst (λ x. GoesOn answer a (slice_index_or is n d) b x) (sym (get_or-set_same is n j d low))
      (subst (λ x. GoesOn answer a x b j) (here ∙ any_default is n i d low) goes);
  passed = λ d other. absurd (other (subst (IsTurnedBy w) (here ∙ any_default is n i d low) is_of));
  counted = length-set is n j;
  others = λ m d not. get_or-set_other is n m j d not;
}

-- one step more
pub steps_more : (w n : ℕ) (a b c : Seen) (is js ks : List Interval) (armed next : ℕ) (started : Bool) → StepsTo w n a is armed b js
    → StepsOne (Ok started) w n b js c ks → next ≡ armed + one_if started → StepsTo w (n + 1) a is next c ks
steps_more w n a b c is js ks armed next started before step sum =
    let more : suc n ≡ n + 1 = omega arith in
    let all : StepsTo w (suc n) a is next c ks =
    record { so_far = armed; between = b; intervals = js; before = before; started = started; step = step; armed_is = sum } in
    subst (λ x. StepsTo w x a is next c ks) more all
