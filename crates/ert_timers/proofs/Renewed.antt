-- A timer is given a new deadline, of what its steps told.

use Rattle.std.proofs.Common.{◌≡◌, ◌≢◌, ℕ, suc, ◌<◌, ◌≤◌, ℤ, Bool, true, false, cond, nat_lt, List, [], ◌∷◌, ◌++◌, length, Option, Some, None, Result, Ok, Err, inl, inr, refl, sym, ap, subst, ◌∙◌, arith}
use Rattle.std.specs.FinSet as sets
use Rattle.std.specs.{List.slice_get, Option.IsSome}
use Rattle.ert_table.proofs.{Looks.look_stepped, Calls.{step_takes_place, takes_place_then}, Makings.two_steps, OneStep.one_step, Parts.stepped}
use Rattle.ert_defs.proofs.{Slots.ordered, ExpiredTimers.{same_timer_self, row_named}}
use Rattle.ert_defs.specs.{Entries.{arm_entry, cancel_entry, mark_entry, peek_entry}, Legal.IsSlot, Milliseconds.{natural, down, deadline_of, left}, States.{State, state, uses_at, look_after}, Timers.{IsNextUse, Row, Uses, deadline_in}}
use Rattle.ert_defs.specs.{Timers.{row_of, same_timer, is_taken, settled_as, timer_at, turned, use_of}, declared.entry.Actor.TheVariants.{Caller, Wheel}, declared.entry.Entry.Entry, declared.settings.Settings.Settings}
use Rattle.ert_defs.specs.{declared.timer.Start.Start, declared.timer.Status.Status, declared.timer.Status.TheVariants.{Armed, Cancelled}, declared.timer.TimerRef.TimerRef}
use Rattle.ert_effects.specs.{RestartCalls.{RestartEnds, missed_entries}, declared.answers.RestartErr.RestartErr, declared.answers.RestartErr.TheVariants.NotArmed, declared.answers.StartErr.StartErr}
use Rattle.ert_laws.proofs.Since.{rounds_begun}
use Rattle.ert_table.specs.{Calls.{AppendsAll, IsMade}, Renewals.{IsWordOf, MayRenew, PeeksWord, renewal}, Settlings.HasRow, Takes.{Appends, TakesPlace}, declared.renew_steps.ArmedWord.ArmedWord, declared.view.View.View, Held.is_held}
use Rattle.ert_table.specs.{Ranges.word_deadline}
use Rattle.ert_timers.proofs.{Anew.{free_again, kept_again, stands_again}, Armings.arms, Later.later_step, NextUses.{new_generation, old_apart, use_of as use_of_model}, Rows.key_left, Orphaned.still_caller, Passing.{fewer_last, same_last}}
use Rattle.ert_timers.proofs.{Resting.{next_is, rested_by, used_less}, Settled.taken_last, Standing.stands_step}
use Rattle.ert_wheel.proofs.Looking.{key_low}
use Rattle.ert_laws.specs.Counts.{is_arm}
use Rattle.ert_timers.specs.{Changes.{dropped, has_uses, kept, next_use}, Freeing.{IsHeld, IsLast}, Looking.now_in, Parts.{HoldsCaller, Part, PartStands, last_timer, slot_at}, Passed.{HasFewerRows, GainsOne, LosesRows}, Restarting.CanRenew}
use Rattle.ert_timers.specs.{Restarting.{HasLooked, MayStay}, Starting.{Arms, Ends, IsUseFor}, declared.looking.Ahead.Ahead, declared.part.Use.Use}
use Rattle.ert_wheel.specs.{Rows.key_in, declared.row.Key.Key}

-- a peek, by a caller
pub peek_calm : (g : Settings) (v : View) (by : ℕ) (timer : TimerRef) (found : Option ℕ) (u : View) (p : Part) → PartStands g v.front p
    → HoldsCaller g v by p.number → Appends g v (peek_entry (Caller by) timer found) u → PartStands g u.front p
peek_calm g v by timer found u p stands holds step =
    stands_step g v (peek_entry (Caller by) timer found) u p stands step holds.wheel (record { arm = refl; expire = refl; orphan = refl })

-- a cancel, whether it hit or not
pub cancel_calm : (g : Settings) (v : View) (by : ℕ) (timer : TimerRef) (found : Option ℕ) (u : View) (p : Part) → PartStands g v.front p
    → HoldsCaller g v by p.number → Appends g v (cancel_entry (Caller by) timer found) u → PartStands g u.front p
cancel_calm g v by timer found u p stands holds step =
    stands_step g v (cancel_entry (Caller by) timer found) u p stands step holds.wheel (record { arm = refl; expire = refl; orphan = refl })

not_armed : (x : Option Status) → settled_as Cancelled x ≢ Some Armed
not_armed None = λ is. cc
not_armed (Some Armed) = λ is. cc
not_armed (Some _) = λ is. cc

-- after a cancel its timer isn't armed
pub cancel_settles : (g : Settings) (v : View) (by : ℕ) (timer : TimerRef) (found : Option ℕ) (u : View)
    → Appends g v (cancel_entry (Caller by) timer found) u → (state g u.front).status timer ≢ Some Armed
cancel_settles g v by timer found u step =
    let e : Entry = cancel_entry (Caller by) timer found in
    let s : State = state g (v.front ++ step.between) in
    let is : (state g u.front).status timer ≡ settled_as Cancelled (s.status timer) =
    ap (λ (x : State). x.status timer) (stepped g v e u step)
    ∙ ap (λ b. cond b (settled_as Cancelled (s.status timer)) (s.status timer)) (same_timer_self timer) in
    subst (λ x. x ≢ Some Armed) (sym is) (not_armed (s.status timer))

-- a row that is found stands at a place
record HasPlace (rows : List Row) (row : Row) : Type 0 where
  place : ℕ
  is : slice_get rows place ≡ Some row

row_place : (rows : List Row) (timer : TimerRef) (row : Row) → row_of rows timer ≡ Some row → HasPlace rows row
row_place [] timer row is = absurd cc
row_place (x ∷ rows) timer row is = at (same_timer x.timer timer) (row_place rows timer row) is
  where
    at : (b : Bool) → (row_of rows timer ≡ Some row → HasPlace rows row) → cond b (Some x) (row_of rows timer) ≡ Some row → HasPlace (x ∷ rows) row
    at true more is = record { place = 0; is = is }
    at false more is = (let later = more is in let r : HasPlace (x ∷ rows) row = record { place = suc later.place; is = later.is } in r)

-- an armed timer of a wheel is the last of its slot, and its row is held
pub record IsStanding (p : Part) (timer : TimerRef) : Type 0 where
  pub last : IsLast p timer
  pub key : Key
  pub held : key_in p.keys timer.slot ≡ Some key
  pub away : sets.contains p.free timer.slot ≡ false

pub armed_stands : (g : Settings) (h : List Entry) (p : Part) (timer : TimerRef) (deadline : ℕ) → PartStands g h p → timer.wheel ≡ p.number
    → HasRow (state g h) timer deadline → (state g h).status timer ≡ Some Armed → IsStanding p timer
armed_stands g h p timer deadline stands wheel has armed =
    let s : State = state g h in
    let last = taken_last g h p timer stands wheel (ap is_taken armed) in
    let named : has.row.timer ≡ timer = row_named (s.rows timer.wheel) has.row timer has.stands in
    let place = row_place (s.rows timer.wheel) timer has.row has.stands in
    let at : slice_get (s.rows p.number) place.place ≡ Some has.row = ap (λ w. slice_get (s.rows w) place.place) (sym wheel) ∙ place.is in
    let held = stands.holds.rows.armed place.place has.row at (ap s.status named ∙ armed) in
    record {
      last = last;
      key = record { deadline = has.row.deadline; order = place.place };
      held = ap (λ (t : TimerRef). key_in p.keys t.slot) (sym named) ∙ held;
      away = not_true (sets.contains p.free timer.slot) (λ free.
          let no : true ≡ false = sym (ap is_taken armed) ∙ (ap (λ t. is_taken (s.status t)) last.named ∙ stands.holds.free timer.slot free) in cc);
    }
  where
    not_true : (b : Bool) → (b ≡ true → ⊥) → b ≡ false
    not_true true never = absurd (never refl)
    not_true false never = refl

pub stays_can : (p : Part) (timer : TimerRef) → MayStay p timer → IsStanding p timer → CanRenew p timer.slot
stays_can p timer stay standing = record {
  low = standing.last.low;
  held = subst IsSome (sym standing.held) refl;
  away = standing.away;
  uses = ap (λ (t : TimerRef). nat_lt (use_of t.generation) 262143) (sym standing.last.named) ∙ stay.uses;
  few = stay.few;
}

-- a step of its caller that isn't a look leaves what its start was told, and the uses of the slots of its wheel
pub record IsToldStill (g : Settings) (s t : State) (by w : ℕ) : Type 0 where
  pub look : t.looked (Caller by) ≡ s.looked (Caller by)
  pub uses : (k : ℕ) → uses_at t w k ≡ uses_at s w k

pub told_still : (g : Settings) (v : View) (e : Entry) (u : View) (by w : ℕ) → Appends g v e u → HoldsCaller g v by w → e.by ≡ Caller by → is_arm e.event ≡ false
    → ((x : ℤ) → look_after x e.event ≡ x) → IsToldStill g (state g v.front) (state g u.front) by w
told_still g v e u by w step holds maker calm looks = record {
  look = subst (λ a. (state g u.front).looked a ≡ (state g v.front).looked a) maker
      (look_stepped g v e u step (subst (λ a. is_held v.actors a ≡ true) (sym maker) holds.caller) ∙ looks ((state g v.front).looked e.by));
  uses = λ k. (later_step g v e u w step holds.wheel calm).uses k;
}

-- the next use of its slot, after the look and the read
pub use_here : (g : Settings) (v u : View) (by : ℕ) (p : Part) (timer : TimerRef) (start : Start) (a : Ahead) → PartStands g v.front p
    → HasLooked g (state g v.front) by start a → IsToldStill g (state g v.front) (state g u.front) by p.number → MayStay p timer → IsStanding p timer
    → IsUseFor g (state g u.front) by p.number timer.slot start (next_use timer.generation (now_in a) a.deadline)
use_here g v u by p timer start a stands looked still stay standing =
    let s : State = state g v.front in
    let t : State = state g u.front in
    let w : ℕ = p.number in
    let k : ℕ = timer.slot in
    let next : Use = next_use timer.generation (now_in a) a.deadline in
    let low : k < g.slots = subst (λ n. k < n) stands.holds.many standing.last.low in
    let same : timer.generation ≡ (slot_at p.slots k).generation = ap (λ (x : TimerRef). x.generation) standing.last.named in
    let last : (slot_at p.slots k).generation ≡ s.last w k = stands.holds.lasts k low in
    let uses : has_uses (slot_at p.slots k) ≡ true = ap (λ n. nat_lt (use_of n) 262143) (sym same) ∙ stay.uses in
    let rested : (turned (uses_at s w k)).since ≤ now_in a =
    rested_by s w k (now_in a) (slot_at p.slots k) last (stands.holds.aboves k low)
    (subst (λ n. s.since w k ≤ n) (sym looked.clock) (rounds_begun g v.front w k stands.checked stands.legal)) (used_less (slot_at p.slots k) (now_in a) uses) in
    let can = next_is (uses_at s w k) (now_in a) a.deadline (ordered g v.front stands.legal w k).sound rested looked.now looked.deadline in
    let next_same : next ≡ next_use (s.last w k) (now_in a) a.deadline = ap (λ n. next_use n (now_in a) a.deadline) (same ∙ last) in
    let now : now_in a ≡ natural (down g (t.looked (Caller by))) = looked.look ∙ ap (λ x. natural (down g x)) (sym still.look) in
    record {
      wanted = a.deadline;
      due = ap (deadline_of g start) still.look ∙ looked.told;
      can = subst (λ (u : Uses). IsNextUse u (natural (down g (t.looked (Caller by)))) a.deadline next.generation) (sym (still.uses k))
          (subst (λ n. IsNextUse (uses_at s w k) n a.deadline next.generation) now
          (subst (λ (y : Use). IsNextUse (uses_at s w k) (now_in a) a.deadline y.generation) (sym next_same) can.0));
      deadline = subst (λ (u : Uses). next.deadline ≡ deadline_in (turned u).since (natural (down g (t.looked (Caller by)))) a.deadline) (sym (still.uses k))
          (subst (λ n. next.deadline ≡ deadline_in (turned (uses_at s w k)).since n a.deadline) now
          (ap (λ (y : Use). y.deadline) next_same ∙ can.1));
    }

-- a use is one still after such a step
pub use_still : (g : Settings) (s t : State) (by w k : ℕ) (start : Start) (next : Use) → IsToldStill g s t by w → IsUseFor g s by w k start next
    → IsUseFor g t by w k start next
use_still g s t by w k start next still is = record {
  wanted = is.wanted;
  due = ap (deadline_of g start) still.look ∙ is.due;
  can = subst (λ (u : Uses). IsNextUse u (natural (down g (t.looked (Caller by)))) is.wanted next.generation) (sym (still.uses k))
      (subst (λ x. IsNextUse (uses_at s w k) (natural (down g x)) is.wanted next.generation) (sym still.look) is.can);
  deadline = subst (λ (u : Uses). next.deadline ≡ deadline_in (turned u).since (natural (down g (t.looked (Caller by)))) is.wanted) (sym (still.uses k))
      (subst (λ x. next.deadline ≡ deadline_in (turned (uses_at s w k)).since (natural (down g x)) is.wanted) (sym still.look) is.deadline);
}

-- so the step of both may be made
pub may_renew : (g : Settings) (v : View) (by : ℕ) (p : Part) (timer : TimerRef) (start : Start) (next : Use) → PartStands g v.front p → HoldsCaller g v by p.number
    → MayStay p timer → IsStanding p timer → IsUseFor g (state g v.front) by p.number timer.slot start next → start.dest < g.processes
    → MayRenew g v by timer next.generation start
may_renew g v by p timer start next stands holds stay standing is dest =
    let k : ℕ = timer.slot in
    let wheel : p.number ≡ timer.wheel = sym stay.wheel in
    record {
      caller = holds.caller;
      wheel = subst (λ w. is_held v.actors (Wheel w) ≡ true) wheel holds.wheel;
      by_high = holds.by_high;
      slot = subst (λ w. IsSlot g w k) wheel
          (record { wheel_high = stands.holds.number; slot_high = subst (λ n. k < n) stands.holds.many standing.last.low });
      dest = dest;
      wanted = is.wanted;
      due = is.due;
      next_use = subst (λ w. IsNextUse (uses_at (state g v.front) w k) (natural (down g ((state g v.front).looked (Caller by)))) is.wanted next.generation) wheel is.can;
      few = subst (λ w. length ((state g v.front).rows w) < 9007199254740992) wheel (omega (arith, stay.few, stands.holds.arms));
    }

-- both entries were made, and the row gave way
pub record RenewsTwice (g : Settings) (v : View) (by : ℕ) (p q : Part) (timer : TimerRef) (start : Start) (next : Use) (named : TimerRef) (left : ℕ) (u : View) : Type 0 where
  pub mid : View
  pub one : Appends g v (cancel_entry (Caller by) timer (Some left)) mid
  pub other : Arms g mid by (dropped p timer.slot) q timer.slot next start named u
  pub gone : IsHeld q timer → ⊥

pub renews_twice : (g : Settings) (v : View) (by : ℕ) (p q : Part) (timer : TimerRef) (start : Start) (next : Use) (named : TimerRef) (left : ℕ) (u : View)
    → PartStands g v.front p → HoldsCaller g v by p.number → MayStay p timer → IsStanding p timer → IsUseFor g (state g v.front) by p.number timer.slot start next
    → q ≡ kept p timer.slot start next q.stands → named ≡ last_timer q.number q.slots timer.slot
    → AppendsAll g v (cancel_entry (Caller by) timer (Some left) ∷ (arm_entry by (timer_at timer.wheel timer.slot next.generation) start ∷ [])) u
    → RenewsTwice g v by p q timer start next named left u
renews_twice g v by p q timer start next named left u stands holds stay standing is part named_is step =
    let k : ℕ = timer.slot in
    let w : ℕ = p.number in
    let twice = two_steps g v (cancel_entry (Caller by) timer (Some left)) (arm_entry by (timer_at timer.wheel k next.generation) start) u step in
    let m : View = twice.mid in
    let holds_m = still_caller g v m by w w holds twice.one.actors refl in
    let stands_m = cancel_calm g v by timer (Some left) m p stands holds twice.one in
    let settled = cancel_settles g v by timer (Some left) m twice.one in
    let can = stays_can p timer stay standing in
    let less = stands_again g m.front p timer stands_m standing.last can settled in
    let still = told_still g v (cancel_entry (Caller by) timer (Some left)) m by w twice.one holds refl refl (λ x. refl) in
    let use_m = use_still g (state g v.front) (state g m.front) by w k start next still is in
    let part' : q ≡ kept (dropped p k) k start next q.stands = part ∙ kept_again p k start next q.stands in
    let generation : named.generation ≡ next.generation = new_generation p q k start next named standing.last.low part named_is in
    let same : timer_at timer.wheel k next.generation ≡ named =
    ap (λ n. timer_at n k next.generation) (stay.wheel ∙ sym (ap (λ (t : TimerRef). t.wheel) named_is ∙ ap (λ (x : Part). x.number) part))
    ∙ (ap (λ n. timer_at named.wheel n next.generation) (sym (ap (λ (t : TimerRef). t.slot) named_is))
    ∙ ap (λ n. timer_at named.wheel named.slot n) (sym generation)) in
    record {
      mid = m;
      one = twice.one;
      other = arms g m by (dropped p k) q k next start named u less holds_m (free_again p k can) use_m part' named_is
          (subst (λ t. Appends g m (arm_entry by t start) u) same twice.other);
      gone = λ held. apart m stands_m use_m (held.named ∙ sym named_is) generation;
    }
  where
    -- the new name isn't the old one
    apart : (m : View) → PartStands g m.front p → (is : IsUseFor g (state g m.front) by p.number timer.slot start next) → timer ≡ named
        → named.generation ≡ next.generation → ⊥
    apart m stands_m is same generation =
        old_apart g m.front p.number timer.slot (use_of_model g (state g m.front) by p.number timer.slot start next is) timer stands_m.legal is.can refl
        (ap (λ (t : TimerRef). t.generation) same ∙ generation) standing.key.order _
        (stands_m.holds.rows.each timer.slot standing.key standing.held) (sym standing.last.named)

-- no row has come but that of the timer
pub gains_renewed : (g : Settings) (v : View) (by : ℕ) (p q r : Part) (timer : TimerRef) (start : Start) (next : Use) (named : TimerRef) (left : ℕ) (u x : View)
    → IsStanding p timer → RenewsTwice g v by p q timer start next named left u → Ends g u by q r start.dest named x
    → GainsOne {E = RestartErr} p r (Ok named)
gains_renewed g v by p q r timer start next named left u x standing renews ends j key is =
    let same : last_timer r.number r.slots j ≡ last_timer q.number q.slots j = same_last q r j ends.loses in
    elim (renews.other.rows j key (ends.loses.left j key is)) [
      | inl was ↦ inl (was_there j key was.0, same ∙ was.1)
      | inr new ↦ inr (ap (λ (t : TimerRef). Ok t) (named_same j new ∙ sym same))
    ]
  where
    was_there : (j : ℕ) (key : Key) → key_in (dropped p timer.slot).keys j ≡ Some key → key_in p.keys j ≡ Some key
    was_there j key is = (key_left p.keys timer.slot j key (key_low p.keys timer.slot standing.key standing.held) is).1

    named_same : (j : ℕ) → ◌≡◌ {A = Result TimerRef StartErr} (Ok named) (Ok (last_timer q.number q.slots j)) → named ≡ last_timer q.number q.slots j
    named_same j is = cc

pub gone_renewed : (q r : Part) (timer : TimerRef) → LosesRows q r → (IsHeld q timer → ⊥) → IsHeld r timer → ⊥
gone_renewed q r timer loses gone held =
    gone (record {
      low = subst (λ slots. timer.slot < length slots) loses.slots held.low;
      named = held.named ∙ (ap (λ n. last_timer n r.slots timer.slot) loses.number ∙ ap (λ slots. last_timer q.number slots timer.slot) loses.slots);
      row = λ none. held.row (lost (key_in r.keys timer.slot) refl none);
    })
  where
    lost : (o : Option Key) → key_in r.keys timer.slot ≡ o → key_in q.keys timer.slot ≡ None → key_in r.keys timer.slot ≡ None
    lost None is none = is
    lost (Some key) is none = absurd (let clash : None ≡ Some key = sym none ∙ loses.left timer.slot key is in cc)

-- and no row comes where no timer was started
pub gains_no : (p q : Part) (answer : Result TimerRef RestartErr) → HasFewerRows p q → GainsOne p q answer
gains_no p q answer fewer k key is = inl (fewer.left k key is, fewer_last p q k fewer)

-- how a restart ends that hits its timer
pub renewed : (g : Settings) (v u m x z : View) (by : ℕ) (p p' q r : Part) (timer : TimerRef) (slot : ℕ) (start : Start) (next : Use) (named : TimerRef) (left : ℕ)
    → Appends g v (peek_entry (Caller by) timer (Some left)) u → Appends g u (cancel_entry (Caller by) timer (Some left)) m
    → Arms g m by p' q slot next start named x → Ends g x by q r start.dest named z → p'.number ≡ p.number
    → IsMade g v (λ s es. RestartEnds true by p.number timer start (Ok named) es) z
renewed g v u m x z by p p' q r timer slot start next named left peek cancel arms ends number =
    let e : Entry = peek_entry (Caller by) timer (Some left) in
    let c : Entry = cancel_entry (Caller by) timer (Some left) in
    let a : Entry = arm_entry by named start in
    let tail : List Entry = mark_entry (Caller by) start.dest false ends.was ∷ ends.closing in
    let armed : TakesPlace g m (a ∷ tail) z = takes_place_then g m x z (a ∷ []) tail (step_takes_place g m a x arms.step) ends.call in
    let cancelled : TakesPlace g u (c ∷ (a ∷ tail)) z = takes_place_then g u m z (c ∷ []) (a ∷ tail) (step_takes_place g u c m cancel) armed in
    record {
      entries = e ∷ (c ∷ (a ∷ tail));
      allowed = record {
        left = left;
        was = ends.was;
        closing = ends.closing;
        on_wheel = ap (λ (t : TimerRef). t.wheel) arms.holds.named ∙ (ap (λ (b : Part). b.number) arms.part ∙ number);
        closes = ends.closes;
        entries = refl;
      };
      call = takes_place_then g v u z (e ∷ []) (c ∷ (a ∷ tail)) (step_takes_place g v e u peek) cancelled;
    }

-- where it isn't armed, or was settled since
pub missed_at : (g : Settings) (v u : View) (by w : ℕ) (timer : TimerRef) (start : Start) → Appends g v (peek_entry (Caller by) timer None) u
    → IsMade g v (λ s es. RestartEnds true by w timer start (Err NotArmed) es) u
missed_at g v u by w timer start peek = record {
  entries = peek_entry (Caller by) timer None ∷ [];
  allowed = (None, refl);
  call = step_takes_place g v (peek_entry (Caller by) timer None) u peek;
}

pub missed_then : (g : Settings) (v u x : View) (by w : ℕ) (timer : TimerRef) (start : Start) (left : ℕ) → Appends g v (peek_entry (Caller by) timer (Some left)) u
    → Appends g u (cancel_entry (Caller by) timer None) x → IsMade g v (λ s es. RestartEnds true by w timer start (Err NotArmed) es) x
missed_then g v u x by w timer start left peek cancel = record {
  entries = missed_entries by timer (Some left);
  allowed = (Some left, refl);
  call = takes_place_then g v u x (peek_entry (Caller by) timer (Some left) ∷ []) (cancel_entry (Caller by) timer None ∷ [])
      (step_takes_place g v (peek_entry (Caller by) timer (Some left)) u peek) (step_takes_place g u (cancel_entry (Caller by) timer None) x cancel);
}

-- a timer was read by a caller that holds its wheel, and is armed
pub record IsRead (g : Settings) (v u : View) (by : ℕ) (p : Part) (timer : TimerRef) (read : ArmedWord) : Type 0 where
  pub found : ℕ
  pub is : found ≡ left g (word_deadline read.word) ((state g v.front).looked (Caller by))
  pub step : Appends g v (peek_entry (Caller by) timer (Some found)) u
  pub stands : PartStands g u.front p
  pub holds : HoldsCaller g u by p.number
  pub word : IsWordOf (state g u.front) timer read
  pub armed : (state g u.front).status timer ≡ Some Armed
  pub still : IsToldStill g (state g v.front) (state g u.front) by p.number

pub is_read : (g : Settings) (v u : View) (by : ℕ) (p : Part) (timer : TimerRef) (answer : Option ArmedWord) (read : ArmedWord) → answer ≡ Some read
    → PeeksWord g v (Caller by) timer answer u → PartStands g v.front p → HoldsCaller g v by p.number → IsRead g v u by p timer read
is_read g v u by p timer answer read is peeks stands holds =
    let it = subst (λ a. PeeksWord g v (Caller by) timer a u) is peeks in
    let found : ℕ = left g (word_deadline read.word) ((state g v.front).looked (Caller by)) in
    record {
      found = found;
      is = refl;
      step = it.step;
      stands = peek_calm g v by timer (Some found) u p stands holds it.step;
      holds = still_caller g v u by p.number p.number holds it.step.actors refl;
      word = it.tells.0;
      armed = it.tells.1;
      still = told_still g v (peek_entry (Caller by) timer (Some found)) u by p.number it.step holds refl refl (λ x. refl);
    }

-- or isn't
pub not_read : (g : Settings) (v u : View) (by : ℕ) (timer : TimerRef) (answer : Option ArmedWord) → answer ≡ None → PeeksWord g v (Caller by) timer answer u
    → Appends g v (peek_entry (Caller by) timer None) u
not_read g v u by timer answer is peeks = (subst (λ a. PeeksWord g v (Caller by) timer a u) is peeks).step

-- and its slot serves the next one
pub record IsReady (g : Settings) (v u : View) (by : ℕ) (p : Part) (timer : TimerRef) (start : Start) (word : ArmedWord) (next : Use) : Type 0 where
  pub read : IsRead g v u by p timer word
  pub standing : IsStanding p timer
  pub coming : IsUseFor g (state g u.front) by p.number timer.slot start next

pub is_ready : (g : Settings) (v u : View) (by now : ℕ) (p : Part) (timer : TimerRef) (start : Start) (a : Ahead) (answer : Option ArmedWord) (read : ArmedWord) (next : Use)
    → answer ≡ Some read → PeeksWord g v (Caller by) timer answer u → PartStands g v.front p → HoldsCaller g v by p.number → HasLooked g (state g v.front) by start a
    → MayStay p timer → now ≡ now_in a → next ≡ next_use timer.generation now a.deadline → IsReady g v u by p timer start read next
is_ready g v u by now p timer start a answer read next is peeks stands holds looked stay same next_same =
    let it = is_read g v u by p timer answer read is peeks stands holds in
    let standing = armed_stands g u.front p timer (word_deadline read.word) it.stands stay.wheel it.word.row it.armed in
    record {
      read = it;
      standing = standing;
      coming = subst (λ (x : Use). IsUseFor g (state g u.front) by p.number timer.slot start x) (sym (next_same ∙ ap (λ n. next_use timer.generation n a.deadline) same))
          (use_here g v u by p timer start a stands looked it.still stay standing);
    }

-- what an exchange recorded that missed
pub renew_missed : (g : Settings) (v : View) (by : ℕ) (timer : TimerRef) (look : ℤ) (deadline generation : ℕ) (start : Start) (hit : Bool) (u : View) → hit ≡ false
    → AppendsAll g v (renewal g look by timer deadline generation start hit) u → Appends g v (cancel_entry (Caller by) timer None) u
renew_missed g v by timer look deadline generation start hit u missed step =
    one_step g v (cancel_entry (Caller by) timer None) u (subst (λ b. AppendsAll g v (renewal g look by timer deadline generation start b) u) missed step)

-- and one that hit
pub renew_hit : (g : Settings) (v u z : View) (by : ℕ) (p q : Part) (timer : TimerRef) (start : Start) (read : ArmedWord) (next : Use) (named : TimerRef) (hit : Bool)
    → (r : IsReady g v u by p timer start read next) → MayStay p timer → hit ≡ true
    → AppendsAll g u (renewal g ((state g u.front).looked (Caller by)) by timer (word_deadline read.word) next.generation start hit) z
    → q ≡ kept p timer.slot start next q.stands → named ≡ last_timer q.number q.slots timer.slot → RenewsTwice g u by p q timer start next named r.read.found z
renew_hit g v u z by p q timer start read next named hit r stay hits step part named_is =
    let look : ℤ = (state g u.front).looked (Caller by) in
    let two = subst (λ b. AppendsAll g u (renewal g look by timer (word_deadline read.word) next.generation start b) z) hits step in
    renews_twice g u by p q timer start next named r.read.found z r.read.stands r.read.holds stay r.standing r.coming part named_is
    (subst (λ l. AppendsAll g u (cancel_entry (Caller by) timer (Some l) ∷ (arm_entry by (timer_at timer.wheel timer.slot next.generation) start ∷ [])) z)
    (ap (left g (word_deadline read.word)) r.read.still.look ∙ sym r.read.is) two)
