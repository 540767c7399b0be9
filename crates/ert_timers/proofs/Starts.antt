-- A start, of what its steps told.

use Rattle.std.proofs.Common.{◌≡◌, ◌⊎◌, ℕ, zero, suc, ◌+◌, ◌<◌, ◌≤◌, min, ℤ, pos, true, false, List, [], ◌∷◌, ◌++◌, length, Option, Some, None, option_map, IfSome, Result, Ok, Err, inl, inr, refl, sym, ap, subst, ◌∙◌, arith}
use Rattle.std.specs.FinSet as sets
use Rattle.ert_defs.specs.{Entries.{look_entry, arm_entry, mark_entry}, Milliseconds.{natural, down, deadline_of}, States.{State, uses_at, state}, Timers.{IsNextUse, deadline_in, turned, is_taken}, declared.entry.Actor.TheVariants.Caller}
use Rattle.ert_defs.specs.{declared.entry.Entry.Entry, declared.settings.Settings.Settings, declared.timer.Start.Start, declared.timer.Status.Status, declared.timer.TimerRef.TimerRef}
use Rattle.ert_defs.proofs.Slots.{ordered}
use Rattle.ert_effects.specs.{TimerCalls.{AreTaken, Rests, Round, IsRoundTaken, Starts}, declared.answers.StartErr.StartErr, declared.answers.StartErr.TheVariants.{BadArg, Full}}
use Rattle.ert_table.proofs.{Looks.look_stepped, Calls.{step_takes_place, takes_place_then}}
use Rattle.ert_table.specs.{Calls.IsMade, Takes.TakesPlace, declared.view.View.View}
use Rattle.ert_laws.proofs.SlotUses.{timers_few}
use Rattle.ert_timers.specs.{Changes.{is_resting, next_use}, Looking.{LooksAhead, now_in}, Parts.{HoldsCaller, Part, PartStands, slot_at, last_timer}, Searching.Searches, Starting.{AreFull, Arms, Ends, IsUseFor, TakesSlot, probes_from}}
use Rattle.ert_timers.specs.{declared.looking.Ahead.Ahead, declared.part.Use.Use, Passed.{HasFewerRows, GainsOne}}
use Rattle.ert_timers.proofs.{Resting.{next_is as use_is, rests_by}, Standing.{clock_at, stands_step}, Passing.{fewer_last, same_last}}

-- a start that is refused for its time
pub bad_arg : (g : Settings) (v : View) (by w : ℕ) (start : Start) (ahead : Option Ahead) (u : View) → ahead ≡ None
    → LooksAhead g v by start ahead u → IsMade g v (Starts g by w start (Err BadArg)) u
bad_arg g v by w start ahead u none looks = record {
  entries = look_entry (Caller by) looks.now ∷ [];
  allowed = record { now = looks.now; refused = sym looks.told ∙ ap (option_map (λ (a : Ahead). a.deadline)) none; entries = refl };
  call = step_takes_place g v (look_entry (Caller by) looks.now) u looks.step;
}

-- the part stands after the look
pub ahead_stands : (g : Settings) (v : View) (by : ℕ) (start : Start) (ahead : Option Ahead) (u : View) (p : Part) → PartStands g v.front p
    → HoldsCaller g v by p.number → LooksAhead g v by start ahead u → PartStands g u.front p
ahead_stands g v by start ahead u p stands holds looks =
    stands_step g v (look_entry (Caller by) looks.now) u p stands looks.step holds.wheel (record { arm = refl; expire = refl; orphan = refl })

-- the look of a start that is accepted
pub record IsAhead (g : Settings) (start : Start) (looked : ℤ) (ahead : Ahead) : Type 0 where
  pub told : deadline_of g start looked ≡ Some ahead.deadline
  pub down_to : pos (now_in ahead) ≡ down g looked

pub is_ahead : (g : Settings) (v : View) (by : ℕ) (start : Start) (ahead : Option Ahead) (a : Ahead) (u : View) (looks : LooksAhead g v by start ahead u)
    → ahead ≡ Some a → IsAhead g start looks.now a
is_ahead g v by start ahead a u looks is = record {
  told = sym looks.told ∙ ap (option_map (λ (x : Ahead). x.deadline)) is;
  down_to = subst (λ o. IfSome o (λ x. pos (now_in x) ≡ down g looks.now)) is looks.down_to;
}

-- the milliseconds of the look are those of the clock after it
pub now_is : (g : Settings) (v : View) (by : ℕ) (start : Start) (ahead : Option Ahead) (a : Ahead) (u : View) → ahead ≡ Some a
    → LooksAhead g v by start ahead u → (now_in a) ≡ clock_at g (state g u.front)
now_is g v by start ahead a u is looks =
    ap natural ((is_ahead g v by start ahead a u looks is).down_to ∙ ap (down g) looks.time)

-- each slot was found taken, or rests
are_taken : (by w now : ℕ) (s : State) (q : Part) (k n : ℕ) (founds : List (Option Status)) → length founds ≡ n
    → ((j : ℕ) → sets.contains q.free j ≡ false) → ((j : ℕ) → j < k + n → (slot_at q.slots j).generation ≡ s.last w j)
    → ((j : ℕ) → j < k + n → (slot_at q.slots j).above ≡ s.above w j) → AreFull q now k founds
    → AreTaken by w now s k n (probes_from by w k founds)
are_taken by w now s q k zero [] many none lasts aboves full = refl
are_taken by w now s q k (suc n) [] many none lasts aboves full = absurd (omega (arith, many))
are_taken by w now s q k zero (found ∷ founds) many none lasts aboves full = absurd (omega (arith, many))
are_taken by w now s q k (suc n) (found ∷ founds) many none lasts aboves full =
    let e : k + 1 ≡ suc k = omega arith in (
      found,
      probes_from by w (k + 1) founds,
      refl,
      one (full.0 (none k)),
      subst (λ m. AreTaken by w now s m n (probes_from by w (k + 1) founds)) e
          (are_taken by w now s q (k + 1) n founds (omega (arith, many)) none (λ j low. lasts j (omega (arith, low)))
          (λ j low. aboves j (omega (arith, low))) full.1),
    )
  where
    one : (is_taken found ≡ true) ⊎ (is_resting (slot_at q.slots k) now ≡ true) → (is_taken found ≡ true) ⊎ Rests s now w k
    one (inl taken) = inl taken
    one (inr rests) = inr (rests_by s w k now (slot_at q.slots k) (lasts k (omega arith)) (aboves k (omega arith)) rests)

-- a round of as many slots
abbrev round_of : (n m looks : ℕ) → n ≡ m → Round n looks → Round m looks
round_of n m looks same round = record {
  from = round.from;
  ahead = round.ahead;
  behind = round.behind;
  within = omega (arith, round.within, same);
  apart = round.apart;
  all = λ few. round.all (omega (arith, few, same)) ∙ same;
  many = λ many. round.many (omega (arith, many, same));
}

-- no slot was found, of those of a round
pub round_taken : (g : Settings) (h : List Entry) (u x : View) (by now : ℕ) (p q : Part) (slot : Option ℕ) → PartStands g h p → slot ≡ None
    → (takes : TakesSlot g u by now p q slot x) → (round : Round g.slots g.looks) × IsRoundTaken by p.number now (state g h) round takes.probes
round_taken g h u x by now p q (Some k) stands none takes = absurd cc
round_taken g h u x by now p q None stands none all =
    let s : State = state g h in
    let round : Round g.slots g.looks = round_of (length p.slots) g.slots g.looks stands.holds.many all.finds.round in
    let lasts : (j : ℕ) → j < g.slots → (slot_at q.slots j).generation ≡ s.last p.number j = λ j low.
    ap (λ ss. (slot_at ss j).generation) all.slots ∙ stands.holds.lasts j low in
    let aboves : (j : ℕ) → j < g.slots → (slot_at q.slots j).above ≡ s.above p.number j = λ j low.
    ap (λ ss. (slot_at ss j).above) all.slots ∙ stands.holds.aboves j low in (
      round,
      record {
        first = probes_from by p.number round.from all.finds.finds.ahead;
        second = probes_from by p.number 0 all.finds.finds.behind;
        onward = are_taken by p.number now s q round.from round.ahead all.finds.finds.ahead all.finds.finds.many_ahead all.finds.none
            (λ j low. lasts j (omega (arith, low, round.within))) (λ j low. aboves j (omega (arith, low, round.within))) all.finds.finds.full_ahead;
        around = are_taken by p.number now s q 0 round.behind all.finds.finds.behind all.finds.finds.many_behind all.finds.none
            (λ j low. lasts j (omega (arith, low, round.apart, round.within))) (λ j low. aboves j (omega (arith, low, round.apart, round.within)))
            all.finds.finds.full_behind;
        entries = all.finds.finds.probes_are;
      },
    )

-- a start for which no slot was found
pub is_full : (g : Settings) (v : View) (by : ℕ) (p q : Part) (start : Start) (ahead : Option Ahead) (a : Ahead) (slot : Option ℕ) (u x : View)
    → PartStands g v.front p → ahead ≡ Some a → slot ≡ None → LooksAhead g v by start ahead u → TakesSlot g u by (now_in a) p q slot x
    → IsMade g v (Starts g by p.number start (Err Full)) x
is_full g v by p q start ahead a slot u x stands has none looks takes =
    let is = is_ahead g v by start ahead a u looks has in
    let taken = round_taken g v.front u x by (now_in a) p q slot stands none takes in
    record {
      entries = look_entry (Caller by) looks.now ∷ takes.probes;
      allowed = record {
        now = looks.now;
        probes = takes.probes;
        accepted = λ no_deadline. (let e : Some a.deadline ≡ None = sym is.told ∙ no_deadline in cc);
        are_taken = inl (taken.0, subst (λ n. IsRoundTaken by p.number n (state g v.front) taken.0 takes.probes) (ap natural is.down_to) taken.1);
        entries = refl;
      };
      call = takes_place_then g v u x (look_entry (Caller by) looks.now ∷ []) takes.probes
          (step_takes_place g v (look_entry (Caller by) looks.now) u looks.step) takes.call;
    }

-- and each slot of a round was looked at, which goes on where the last one ended
pub searches : (g : Settings) (v : View) (by : ℕ) (p q : Part) (start : Start) (ahead : Option Ahead) (a : Ahead) (slot : Option ℕ) (u x : View)
    → PartStands g v.front p → ahead ≡ Some a → slot ≡ None → LooksAhead g v by start ahead u → TakesSlot g u by (now_in a) p q slot x
    → IsMade g v (Searches g by p q) x
unfolding round_taken
searches g v by p q start ahead a (Some k) u x stands has none looks takes = absurd (let no : Some k ≡ None = none in cc)
searches g v by p q start ahead a None u x stands has none looks takes =
    let is = is_ahead g v by start ahead a u looks has in
    let taken = round_taken g v.front u x by (now_in a) p q None stands none takes in
    record {
      entries = look_entry (Caller by) looks.now ∷ takes.probes;
      allowed = record {
        now = looks.now;
        probes = takes.probes;
        round = taken.0;
        taken = subst (λ n. IsRoundTaken by p.number n (state g v.front) taken.0 takes.probes) (ap natural is.down_to) taken.1;
        goes_on = record {
          from = takes.finds.goes_on.from ∙ ap (min p.next_look) stands.holds.many;
          some = λ low. takes.finds.goes_on.some (omega (arith, low, stands.holds.many));
          next = takes.finds.goes_on.next;
        };
        entries = refl;
      };
      call = takes_place_then g v u x (look_entry (Caller by) looks.now ∷ []) takes.probes (step_takes_place g v (look_entry (Caller by) looks.now) u looks.step) takes.call;
    }

-- a start of a wheel that has had as many timers as it can have
pub is_at_end : (g : Settings) (v : View) (by arms : ℕ) (p : Part) (start : Start) (ahead : Option Ahead) (a : Ahead) (u : View)
    → PartStands g v.front p → ahead ≡ Some a → arms ≡ p.arms → 9007199254740992 ≤ arms → LooksAhead g v by start ahead u
    → IsMade g v (Starts g by p.number start (Err Full)) u
is_at_end g v by arms p start ahead a u stands has same high looks =
    let is = is_ahead g v by start ahead a u looks has in
    record {
      entries = look_entry (Caller by) looks.now ∷ [];
      allowed = record {
        now = looks.now;
        probes = [];
        accepted = λ no_deadline. (let e : Some a.deadline ≡ None = sym is.told ∙ no_deadline in cc);
        are_taken = inr (omega (arith, same, high, stands.holds.arms, timers_few g v.front p.number stands.legal), refl);
        entries = refl;
      };
      call = step_takes_place g v (look_entry (Caller by) looks.now) u looks.step;
    }

-- the look of a caller stays its last while slots are looked at
last_look : (g : Settings) (v : View) (by now : ℕ) (p q : Part) (start : Start) (ahead : Option Ahead) (slot : Option ℕ) (u x : View)
    → HoldsCaller g v by p.number → (looks : LooksAhead g v by start ahead u) → TakesSlot g u by now p q slot x
    → (state g x.front).looked (Caller by) ≡ looks.now
last_look g v by now p q start ahead slot u x holds looks takes =
    takes.look ∙ look_stepped g v (look_entry (Caller by) looks.now) u looks.step holds.caller

-- the next use of the slot that was found, for this start
pub use_ahead : (g : Settings) (v : View) (by : ℕ) (p q : Part) (start : Start) (ahead : Option Ahead) (a : Ahead) (slot : Option ℕ) (k : ℕ) (next : Use)
    (u x : View) → HoldsCaller g v by p.number → ahead ≡ Some a → slot ≡ Some k → (now_in a) ≤ 8796093022207 → a.deadline ≤ 8796093022207 → LooksAhead g v by start ahead u
    → TakesSlot g u by (now_in a) p q slot x → next ≡ next_use (slot_at q.slots k).generation (now_in a) a.deadline
    → IsUseFor g (state g x.front) by q.number k start next
use_ahead g v by p q start ahead a slot k next u x holds has found now_high deadline_high looks takes next_is =
    let here = subst (λ s. TakesSlot g u by (now_in a) p q s x) found takes in
    let s : State = state g x.front in
    let w : ℕ = q.number in
    let is = is_ahead g v by start ahead a u looks has in
    let look = last_look g v by (now_in a) p q start ahead slot u x holds looks takes in
    let now : (now_in a) ≡ natural (down g (s.looked (Caller by))) = ap natural (is.down_to ∙ ap (down g) (sym look)) in
    let due : deadline_of g start (s.looked (Caller by)) ≡ Some a.deadline = ap (deadline_of g start) look ∙ is.told in
    let high : k < g.slots = subst (λ n. k < n) here.stands.holds.many here.finds.low in
    let last : (slot_at q.slots k).generation ≡ s.last w k = here.stands.holds.lasts k high in
    let same : next ≡ next_use (s.last w k) (now_in a) a.deadline = next_is ∙ ap (λ n. next_use n (now_in a) a.deadline) last in
    let can = use_is (uses_at s w k) (now_in a) a.deadline (ordered g x.front here.stands.legal w k).sound here.rested now_high deadline_high in
    record {
      wanted = a.deadline;
      due = due;
      can = subst (λ n. IsNextUse (uses_at s w k) n a.deadline next.generation) now
          (subst (λ (y : Use). IsNextUse (uses_at s w k) (now_in a) a.deadline y.generation) (sym same) can.0);
      deadline = subst (λ n. next.deadline ≡ deadline_in (turned (uses_at s w k)).since n a.deadline) now
          (ap (λ (y : Use). y.deadline) same ∙ can.1);
    }

-- a start whose timer was armed
pub is_started : (g : Settings) (v : View) (by : ℕ) (p q r s : Part) (start : Start) (ahead : Option Ahead) (now : ℕ) (slot : Option ℕ) (k : ℕ) (next : Use)
    (timer : TimerRef) (u x y z : View) → LooksAhead g v by start ahead u → TakesSlot g u by now p q slot x → Arms g x by q r k next start timer y
    → Ends g y by r s start.dest timer z → IsMade g v (Starts g by p.number start (Ok timer)) z
is_started g v by p q r s start ahead now slot k next timer u x y z looks takes arms ends =
    let look : Entry = look_entry (Caller by) looks.now in
    let probes : List Entry = takes.probes in
    let tail : List Entry = mark_entry (Caller by) start.dest false ends.was ∷ ends.closing in
    let two : TakesPlace g x (arm_entry by timer start ∷ tail) z =
    takes_place_then g x y z (arm_entry by timer start ∷ []) tail (step_takes_place g x (arm_entry by timer start) y arms.step) ends.call in
    let three : TakesPlace g u (probes ++ (arm_entry by timer start ∷ tail)) z =
    takes_place_then g u x z probes (arm_entry by timer start ∷ tail) takes.call two in
    record {
      entries = look ∷ (probes ++ (arm_entry by timer start ∷ tail));
      allowed = record {
        now = looks.now;
        probes = probes;
        was = ends.was;
        closing = ends.closing;
        on_wheel = ap (λ (t : TimerRef). t.wheel) arms.holds.named ∙ (ap (λ (a : Part). a.number) arms.part ∙ takes.number);
        are_probes = takes.are_probes;
        closes = ends.closes;
        entries = refl;
      };
      call = takes_place_then g v u z (look ∷ []) (probes ++ (arm_entry by timer start ∷ tail)) (step_takes_place g v look u looks.step) three;
    }

-- no row has come where no timer was armed
pub gains_none : (p q : Part) (answer : Result TimerRef StartErr) → HasFewerRows p q → GainsOne p q answer
gains_none p q answer fewer k key is = inl (fewer.left k key is, fewer_last p q k fewer)

-- and else that of the timer
pub gains_started : (g : Settings) (by : ℕ) (p q r s : Part) (now : ℕ) (slot : Option ℕ) (k : ℕ) (next : Use) (start : Start)
    (timer : TimerRef) (u x y z : View) → TakesSlot g u by now p q slot x → Arms g x by q r k next start timer y
    → Ends g y by r s start.dest timer z → GainsOne {E = StartErr} p s (Ok timer)
gains_started g by p q r s now slot k next start timer u x y z takes arms ends j key is =
    let same : last_timer s.number s.slots j ≡ last_timer r.number r.slots j = same_last r s j ends.loses in
    elim (arms.rows j key (ends.loses.left j key is)) [
      | inl was ↦ inl (takes.fewer.left j key was.0, same ∙ (was.1 ∙ fewer_last p q j takes.fewer))
      | inr new ↦ inr (new ∙ ap (λ (t : TimerRef). Ok t) (sym same))
    ]
