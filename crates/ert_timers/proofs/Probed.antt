-- Slots that have a row are probed, and the rows of settled timers go.

use Rattle.std.proofs.Common.{◌≡◌, ◌≢◌, ℕ, ◌+◌, ◌<◌, ◌≤◌, Bool, true, false, cond, List, [], ◌∷◌, ◌++◌, length, count_by, Option, Some, None, option_map, inl, inr, refl, sym, ap, subst, ◌∙◌, arith, append-nil, length-append, IfNone, IsSome}
use Rattle.std.proofs.lemmas.Bool.{cases_eq}
use Rattle.std.specs.Option.{is_some}
use Rattle.std.specs.Prelude.{MatchBool}
use Rattle.ert_defs.specs.{Entries.probe_entry, Laws.is_armed, States.{State, state}, declared.entry.Actor.TheVariants.{Sched, Wheel}, declared.entry.Entry.Entry, declared.settings.Settings.Settings, declared.timer.Status.Status}
use Rattle.ert_defs.specs.{declared.timer.Status.TheVariants.Armed}
use Rattle.ert_effects.specs.Sleeping.{Probed, probed_entries, ProbesInOrder, AreSettledButLast, FindsArmed, settled_of}
use Rattle.ert_table.proofs.Calls.{step_takes_place, takes_place_then}
use Rattle.ert_table.specs.{Held.is_held, Settlings.ShownWord, Takes.{Appends, TakesPlace}, declared.view.View.View}
use Rattle.ert_timers.proofs.{Dropped.{armed_is, told_none, told_some}, Freed.{frees_given, frees_none, frees_then, given_keeps}, Lookings.{found_is, status_is}, Passing.{loses_none, loses_row, loses_then}, Rows.key_left}
use Rattle.ert_timers.proofs.{Standing.stands_step}
use Rattle.ert_timers.specs.{Asking.{AsksOn, IsFoundWithin}, Changes.given_back, NextDue.{IsArmed, IsNearest, IsNextHeld}, Parts.{FitsState, HoldsSched, Part, PartStands, held_row, last_timer}, Passed.LosesRows, Sleeping.AreSettled}
use Rattle.ert_timers.specs.{Sleeping.{AsksNext, DropsNext, HasLost, IsFoundNext, ProbesRow, ProbesRows, ProbesSome}, Starting.status_shown}
use Rattle.ert_wheel.proofs.{Looking.key_low, Views.counts_less}
use Rattle.ert_wheel.specs.{NextDue.TellsNext, Rows.{key_in, told_at}, declared.row.HeldRow.HeldRow, declared.row.Key.Key}

-- what a load of a slot found, by its scheduler
pub probed_is : (g : Settings) (v : View) (w w' k : ℕ) (shown : Option ShownWord) (u : View) → w' ≡ w
    → Appends g v (probe_entry (Sched w') w' k (option_map (λ (x : ShownWord). x.0) shown)) u
    → Appends g v (probe_entry (Sched w) w k (status_shown shown)) u
probed_is g v w w' k shown u number step =
    subst (λ n. Appends g v (probe_entry (Sched n) n k (status_shown shown)) u) number
    (subst (λ x. Appends g v (probe_entry (Sched w') w' k x) u) (status_is shown) step)

unarmed : (x : Option Status) → is_armed x ≡ false → x ≢ Some Armed
unarmed x not is = (let bad : true ≡ false = sym (ap is_armed is) ∙ not in cc)

-- the part stands after a probe
pub probed_stands : (g : Settings) (v : View) (p : Part) (k : ℕ) (found : Option Status) (u : View) → PartStands g v.front p → HoldsSched v p.number
    → Appends g v (probe_entry (Sched p.number) p.number k found) u → PartStands g u.front p
probed_stands g v p k found u stands holds step =
    stands_step g v (probe_entry (Sched p.number) p.number k found) u p stands step holds.wheel (record { arm = refl; expire = refl; orphan = refl })

pub probed_status : (g : Settings) (v : View) (p : Part) (k : ℕ) (found : Option Status) (u : View) → PartStands g v.front p → HoldsSched v p.number
    → k < length p.slots → Appends g v (probe_entry (Sched p.number) p.number k found) u
    → found ≡ (state g u.front).status (last_timer p.number p.slots k)
probed_status g v p k found u stands holds low step =
    found_is g v (Sched p.number) p k found u stands holds.wheel (subst (λ n. k < n) stands.holds.many low) step

-- a timer was found armed: its row stays
pub probes_armed : (g : Settings) (v : View) (p : Part) (k : ℕ) (found : Option Status) (u : View) → PartStands g v.front p → HoldsSched v p.number
    → k < length p.slots → Appends g v (probe_entry (Sched p.number) p.number k found) u → is_armed found ≡ true → ProbesRow g v p p k true u
probes_armed g v p k found u stands holds low step armed = record {
  found = found;
  step = step;
  told = sym armed;
  status = probed_status g v p k found u stands holds low step;
  stands = probed_stands g v p k found u stands holds step;
  part = refl;
}

-- one was found settled
pub probed_settled : (g : Settings) (v : View) (p : Part) (k : ℕ) (found : Option Status) (u : View) → PartStands g v.front p → HoldsSched v p.number
    → k < length p.slots → Appends g v (probe_entry (Sched p.number) p.number k found) u → is_armed found ≡ false
    → (state g u.front).status (last_timer p.number p.slots k) ≢ Some Armed
probed_settled g v p k found u stands holds low step not =
    subst (λ x. x ≢ Some Armed) (probed_status g v p k found u stands holds low step) (unarmed found not)

-- its row goes
pub probes_settled : (g : Settings) (v : View) (p q : Part) (k : ℕ) (found : Option Status) (u : View) → PartStands g v.front p → HoldsSched v p.number
    → k < length p.slots → Appends g v (probe_entry (Sched p.number) p.number k found) u → is_armed found ≡ false
    → PartStands g u.front q → q ≡ given_back p k false → ProbesRow g v p q k false u
probes_settled g v p q k found u stands holds low step not left is = record {
  found = found;
  step = step;
  told = sym not;
  status = probed_status g v p k found u stands holds low step;
  stands = left;
  part = is;
}

-- what a slot's row tells, whose timer is armed
pub nearest_by : (g : Settings) (s : State) (p : Part) (time k : ℕ) → FitsState g s p → TellsNext p.keys p.stands p.passed time k
    → s.status (last_timer p.number p.slots k) ≡ Some Armed → IsNearest s p.number p.passed (Some time)
nearest_by g s p time k fits tells armed =
    let is : IsArmed s p.number (held_row p.number p.slots k tells.key) = record {
      place = tells.key.order;
      is = fits.rows.each k tells.key tells.has;
      armed = armed;
    } in
    elim tells.told [
      | inl at ↦ inl (record { row = held_row p.number p.slots k tells.key; armed = is; at = at })
      | inr b ↦ inr (record {
        later = b.later;
        level = b.level;
        above = b.above;
        highest = b.highest;
        window = b.window;
        begin = b.begin;
        row = held_row p.number p.slots k tells.key;
        armed = is;
      })
    ]

-- the row of a slot goes, and its slot is held free
given_loses : (p q : Part) (k : ℕ) (key : Key) → key_in p.keys k ≡ Some key → q ≡ given_back p k false → LosesRows p q
given_loses p q k key has is =
    subst (LosesRows p) (sym is) (loses_row p (given_back p k false) k (key_low p.keys k key has) refl refl refl refl refl (given_keeps p (given_back p k false) k false refl))

given_fewer : (p q : Part) (k : ℕ) (key : Key) → key_in p.keys k ≡ Some key → q ≡ given_back p k false → HasLost 1 p q
given_fewer p q k key has is =
    ap (λ (x : Part). count_by is_some x.keys + 1) is ∙ counts_less p.keys k key (key_low p.keys k key has) has

-- the entries of one probe more
entries_push : (w : ℕ) (probes : List Probed) (one : Probed)
    → probed_entries w (probes ++ one ∷ []) ≡ probed_entries w probes ++ probe_entry (Sched w) w one.slot one.found ∷ []
entries_push w [] one = refl
entries_push w (p ∷ probes) one = ap (λ es. probe_entry (Sched w) w p.slot p.found ∷ es) (entries_push w probes one)

call_push : (g : Settings) (v u x : View) (w : ℕ) (probes : List Probed) (one : Probed) → TakesPlace g v (probed_entries w probes) u
    → Appends g u (probe_entry (Sched w) w one.slot one.found) x → TakesPlace g v (probed_entries w (probes ++ one ∷ [])) x
call_push g v u x w probes one call step =
    let e : Entry = probe_entry (Sched w) w one.slot one.found in
    subst (λ es. TakesPlace g v es x) (sym (entries_push w probes one))
    (takes_place_then g v u x (probed_entries w probes) (e ∷ []) call (step_takes_place g u e x step))

-- a step on the wheel of this number
step_of : (g : Settings) (u : View) (p q : Part) (k : ℕ) (found : Option Status) (x : View) → LosesRows p q
    → Appends g u (probe_entry (Sched q.number) q.number k found) x → Appends g u (probe_entry (Sched p.number) p.number k found) x
step_of g u p q k found x loses = subst (λ n. Appends g u (probe_entry (Sched n) n k found) x) loses.number

settled_push : (probes : List Probed) (one : Probed) → AreSettled probes → one.found ≢ Some Armed → AreSettled (probes ++ one ∷ [])
settled_push [] one all last = (last, tt)
settled_push (p ∷ probes) one all last = (all.0, settled_push probes one all.1 last)

pub settled_but : (probes : List Probed) → AreSettled probes → AreSettledButLast probes
settled_but [] all = tt
settled_but (p ∷ []) all = tt
settled_but (p ∷ (q ∷ probes)) all = (all.0, settled_but (q ∷ probes) all.1)

settled_but_push : (probes : List Probed) (one : Probed) → AreSettled probes → AreSettledButLast (probes ++ one ∷ [])
settled_but_push [] one all = tt
settled_but_push (p ∷ []) one all = (all.0, tt)
settled_but_push (p ∷ (q ∷ probes)) one all = (all.0, settled_but_push (q ∷ probes) one all.1)

none_probed : (g : Settings) (v : View) (p : Part) → PartStands g v.front p → TakesPlace g v [] v
none_probed g v p stands = record { actors = refl; legal = stands.legal; later = []; grown = sym (append-nil v.front); ours = refl }

-- no slot was probed yet
pub drops_none : (g : Settings) (v : View) (p : Part) → PartStands g v.front p → DropsNext g v p p 0 v
drops_none g v p stands = record {
  probes = [];
  many = refl;
  settled = tt;
  call = none_probed g v p stands;
  stands = stands;
  loses = loses_none p;
  frees = frees_none p;
  time = refl;
  fewer = omega arith;
}

-- one more was, of a settled timer
pub drops_more : (g : Settings) (v u x : View) (p q r : Part) (n k : ℕ) (key : Key) → DropsNext g v p q n u → key_in q.keys k ≡ Some key
    → ProbesRow g u q r k false x → DropsNext g v p r (n + 1) x
drops_more g v u x p q r n k key some has one =
    let last : Probed = record { slot = k; found = one.found } in
    let loses : LosesRows q r = given_loses q r k key has one.part in
    record {
      probes = some.probes ++ last ∷ [];
      many = length-append some.probes (last ∷ []) ∙ ap (λ m. m + 1) some.many;
      settled = settled_push some.probes last some.settled (unarmed one.found (sym one.told));
      call = call_push g v u x p.number some.probes last some.call (step_of g u p q k one.found x some.loses one.step);
      stands = one.stands;
      loses = loses_then p q r some.loses loses;
      frees = frees_then p q r some.loses loses.frees some.frees (frees_given q r k false one.part);
      time = ap (λ (y : Part). y.passed) one.part ∙ some.time;
      fewer = omega (arith, some.fewer, given_fewer q r k key has one.part);
    }

-- the answer is found, where so many rows have gone
found_end : (most : ℕ) (s : State) (p q : Part) (answer : Option ℕ) → HasLost most p q → IsFoundWithin most s p q answer
found_end most s p q None lost = tt
found_end most s p q (Some time) lost = inr (inl lost)

-- the answer, where no probe follows
asks_there : (g : Settings) (v u : View) (p q r : Part) (n most : ℕ) (answer : Option ℕ) → DropsNext g v p q n u → n ≤ most → r ≡ q → IsNextHeld q answer
    → IsFoundWithin most (state g u.front) p q answer → AsksOn g v p r most answer u
asks_there g v u p q r n most answer some low is held found =
    subst (λ (x : Part). AsksOn g v p x most answer u) (sym is) (record {
      probes = some.probes;
      few = omega (arith, low, some.many);
      settled = settled_but some.probes some.settled;
      call = some.call;
      stands = some.stands;
      held = held;
      found = found;
      loses = some.loses;
      frees = some.frees;
      time = some.time;
    })

-- there is no row
pub asks_none : (g : Settings) (v u : View) (p q r : Part) (n most : ℕ) (answer : Option ℕ) → DropsNext g v p q n u → n < most → r ≡ q → IsNextHeld q answer
    → answer ≡ None → AsksOn g v p r most None u
asks_none g v u p q r n most answer some low is held none =
    asks_there g v u p q r n most None some (omega (arith, low)) is (subst (IsNextHeld q) none held) tt

-- its time is before the first that wasn't passed
pub asks_late : (g : Settings) (v u : View) (p q r : Part) (n most time : ℕ) (answer : Option ℕ) → DropsNext g v p q n u → n < most → r ≡ q → IsNextHeld q answer
    → answer ≡ Some time → (slot : Option ℕ) → slot ≡ None → IfNone slot (time < r.passed) → AsksOn g v p r most (Some time) u
asks_late g v u p q r n most time answer some low is held told slot none late =
    asks_there g v u p q r n most (Some time) some (omega (arith, low)) is (subst (IsNextHeld q) told held)
    (inr (inr (subst (λ (x : Part). time < x.passed) is (subst (λ o. IfNone o (time < r.passed)) none late))))

-- so many rows have gone
pub asks_last : (g : Settings) (v u : View) (p q r : Part) (n most : ℕ) (answer : Option ℕ) → DropsNext g v p q n u → n ≡ most → r ≡ q → IsNextHeld q answer
    → AsksOn g v p r most answer u
asks_last g v u p q r n most answer some all is held =
    asks_there g v u p q r n most answer some (omega (arith, all)) is held
    (found_end most (state g u.front) p q answer (subst (λ m. HasLost m p q) all some.fewer))

-- what is known of a slot that tells the answer, where its timer was found armed
pub record IsAnswered (g : Settings) (q t : Part) (time : ℕ) (x : View) : Type 0 where
  pub same : t ≡ q
  pub stands : PartStands g x.front q
  pub near : IsNearest (state g x.front) q.number q.passed (Some time)

answered : (g : Settings) (u x : View) (q t : Part) (time k : ℕ) → TellsNext q.keys q.stands q.passed time k → ProbesRow g u q t k true x → IsAnswered g q t time x
answered g u x q t time k tells one =
    let found : one.found ≡ Some Armed = armed_is one.found (sym one.told) in
    let left : PartStands g x.front q = subst (PartStands g x.front) one.part one.stands in
    record {
      same = one.part;
      stands = left;
      near = nearest_by g (state g x.front) q time k left.holds tells (sym one.status ∙ found);
    }

-- its timer was found armed
pub asks_armed : (g : Settings) (v u x : View) (p q r t : Part) (n most time k : ℕ) (answer : Option ℕ) → DropsNext g v p q n u → n < most → r ≡ q
    → IsNextHeld q answer → answer ≡ Some time → TellsNext r.keys r.stands r.passed time k → (b : Bool) → b ≡ true → ProbesRow g u r t k b x
    → AsksOn g v p t most (Some time) x
asks_armed g v u x p q r t n most time k answer some low is held told tells b armed probed =
    let at : TellsNext q.keys q.stands q.passed time k = subst (λ (y : Part). TellsNext y.keys y.stands y.passed time k) is tells in
    let one : ProbesRow g u q t k true x = subst (λ (a : Bool). ProbesRow g u q t k a x) armed (subst (λ (y : Part). ProbesRow g u y t k b x) is probed) in
    let done : IsAnswered g q t time x = answered g u x q t time k at one in
    let last : Probed = record { slot = k; found = one.found } in
    subst (λ (y : Part). AsksOn g v p y most (Some time) x) (sym done.same) (record {
      probes = some.probes ++ last ∷ [];
      few = omega (arith, low, some.many, length-append some.probes (last ∷ []));
      settled = settled_but_push some.probes last some.settled;
      call = call_push g v u x p.number some.probes last some.call (step_of g u p q k one.found x some.loses one.step);
      stands = done.stands;
      held = subst (IsNextHeld q) told held;
      found = inl done.near;
      loses = some.loses;
      frees = some.frees;
      time = some.time;
    })

within_next : (s : State) (p q : Part) (answer : Option ℕ) → IsFoundWithin 1024 s p q answer → IsFoundNext s p q answer
within_next s p q None found = tt
within_next s p q (Some time) found = found

within_more : (s : State) (p q r : Part) (answer : Option ℕ) → HasLost 1 p q → IsFoundWithin 1023 s q r answer → IsFoundNext s p r answer
within_more s p q r None one found = tt
within_more s p q r (Some time) one (inl near) = inl near
within_more s p q r (Some time) one (inr (inl lost)) = inr (inl (omega (arith, one, lost)))
within_more s p q r (Some time) one (inr (inr late)) = inr (inr late)

-- nothing was kept
pub asks_anew : (g : Settings) (v u : View) (p q : Part) (answer : Option ℕ) → AsksOn g v p q 1024 answer u → AsksNext g v p q answer u
asks_anew g v u p q answer on = record {
  call = record {
    entries = probed_entries p.number on.probes;
    allowed = record { probes = on.probes; few = on.few; settled = on.settled; entries = refl };
    call = on.call;
  };
  stands = on.stands;
  held = on.held;
  found = within_next (state g u.front) p q answer on.found;
  loses = on.loses;
  frees = on.frees;
  time = on.time;
}

-- the timer of the answer that was kept was found armed
pub asks_kept : (g : Settings) (v x : View) (p t : Part) (time k : ℕ) → PartStands g v.front p → IsNextHeld p (Some time) → TellsNext p.keys p.stands p.passed time k
    → (b : Bool) → b ≡ true → ProbesRow g v p t k b x → AsksNext g v p t (Some time) x
asks_kept g v x p t time k stands held tells b armed probed =
    asks_anew g v x p t (Some time)
    (asks_armed g v v x p p p t 0 1024 time k (Some time) (drops_none g v p stands) (omega arith) refl held refl tells b armed probed)

-- it was found settled, and others were asked for
pub asks_more : (g : Settings) (v u x : View) (p q r : Part) (time k : ℕ) (answer : Option ℕ) → TellsNext p.keys p.stands p.passed time k → (b : Bool) → b ≡ false
    → ProbesRow g v p q k b u → AsksOn g u q r 1023 answer x → AsksNext g v p r answer x
asks_more g v u x p q r time k answer tells b not probed on =
    let one : ProbesRow g v p q k false u = subst (λ (a : Bool). ProbesRow g v p q k a u) not probed in
    let first : Probed = record { slot = k; found = one.found } in
    let loses : LosesRows p q = given_loses p q k tells.key tells.has one.part in
    let e : Entry = probe_entry (Sched p.number) p.number k one.found in
    record {
      call = record {
        entries = probed_entries p.number (first ∷ on.probes);
        allowed = record {
          probes = first ∷ on.probes;
          few = omega (arith, on.few);
          settled = settled_first first on.probes (unarmed one.found (sym one.told)) on.settled;
          entries = refl;
        };
        call = takes_place_then g v u x (e ∷ []) (probed_entries p.number on.probes) (step_takes_place g v e u one.step)
            (subst (λ n. TakesPlace g u (probed_entries n on.probes) x) loses.number on.call);
      };
      stands = on.stands;
      held = on.held;
      found = within_more (state g x.front) p q r answer (given_fewer p q k tells.key tells.has one.part) on.found;
      loses = loses_then p q r loses on.loses;
      frees = frees_then p q r loses on.loses.frees (frees_given p q k false one.part) on.frees;
      time = on.time ∙ ap (λ (y : Part). y.passed) one.part;
    }
  where
    settled_first : (one : Probed) (probes : List Probed) → one.found ≢ Some Armed → AreSettledButLast probes → AreSettledButLast (one ∷ probes)
    settled_first one [] settled all = tt
    settled_first one (p ∷ probes) settled all = (settled, all)

-- it was found settled
pub drops_next : (g : Settings) (v u x : View) (p q r t : Part) (n time k : ℕ) → DropsNext g v p q n u → r ≡ q
    → TellsNext r.keys r.stands r.passed time k → (b : Bool) → b ≡ false → ProbesRow g u r t k b x → DropsNext g v p t (n + 1) x
drops_next g v u x p q r t n time k some is tells b not probed =
    let at : TellsNext q.keys q.stands q.passed time k = subst (λ (y : Part). TellsNext y.keys y.stands y.passed time k) is tells in
    let one : ProbesRow g u q t k false x = subst (λ (a : Bool). ProbesRow g u q t k a x) not (subst (λ (y : Part). ProbesRow g u y t k b x) is probed) in
    drops_more g v u x p q t n k at.key some at.has one

-- the slot of a row that is told is one of the part
pub told_low : (g : Settings) (h : List Entry) (p q : Part) (time k : ℕ) → PartStands g h p → q ≡ p → TellsNext q.keys q.stands q.passed time k → k < length q.slots
told_low g h p q time k stands is tells =
    let low : k < length q.keys = key_low q.keys k tells.key tells.has in
    omega (arith, low, ap (λ (y : Part). length y.keys) is, ap (λ (y : Part). length y.slots) is, stands.holds.wide, stands.holds.many)

pub told_has : (keys : List (Option Key)) (stands : List (Option ℕ)) (passed time k : ℕ) → TellsNext keys stands passed time k → IsSome (key_in keys k)
told_has keys stands passed time k tells = subst IsSome (sym tells.has) refl

-- a pass that holds the scheduler and its wheel does so still
pub still_sched : (v u : View) (p q r : Part) → HoldsSched v p.number → u.actors ≡ v.actors → q.number ≡ p.number → r ≡ q → HoldsSched u r.number
still_sched v u p q r holds actors number is =
    subst (λ (n : ℕ). HoldsSched u n) (sym (ap (λ (y : Part). y.number) is ∙ number))
    (record {
      sched = subst (λ l. is_held l (Sched p.number) ≡ true) (sym actors) holds.sched;
      wheel = subst (λ l. is_held l (Wheel p.number) ≡ true) (sym actors) holds.wheel;
    })

order_push : (from : ℕ) (probes : List Probed) (n : ℕ) (one : Probed) → ProbesInOrder from probes n → one.slot ≡ n → ProbesInOrder from (probes ++ one ∷ []) (n + 1)
order_push from [] n one order is = (omega (arith, order, is), omega (arith, is))
order_push from (p ∷ probes) n one order is = (order.0, order_push (p.slot + 1) probes n one order.1 is)

order_wide : (from : ℕ) (probes : List Probed) (n : ℕ) → ProbesInOrder from probes n → ProbesInOrder from probes (n + 1)
order_wide from [] n order = omega (arith, order)
order_wide from (p ∷ probes) n order = (order.0, order_wide (p.slot + 1) probes n order.1)

count_push : (probes : List Probed) (one : Probed) → settled_of (probes ++ one ∷ []) ≡ settled_of probes + cond (is_armed one.found) 0 1
count_push [] one = omega arith
count_push (p ∷ probes) one = omega (arith, count_push probes one)

finds_before : (k : ℕ) (probes : List Probed) (one : Probed) → FindsArmed k probes → FindsArmed k (probes ++ one ∷ [])
finds_before k [] one finds = absurd finds
finds_before k (p ∷ probes) one (inl here) = inl here
finds_before k (p ∷ probes) one (inr later) = inr (finds_before k probes one later)

finds_last : (k : ℕ) (probes : List Probed) (one : Probed) → one.slot ≡ k → one.found ≡ Some Armed → FindsArmed k (probes ++ one ∷ [])
finds_last k [] one slot armed = inl (slot, armed)
finds_last k (p ∷ probes) one slot armed = inr (finds_last k probes one slot armed)

-- none was probed yet
pub probes_none : (g : Settings) (v : View) (p : Part) → PartStands g v.front p → ProbesSome g v p p 0 0 v
probes_none g v p stands = record {
  probes = [];
  order = omega arith;
  settled = refl;
  few = omega arith;
  call = none_probed g v p stands;
  stands = stands;
  loses = loses_none p;
  frees = frees_none p;
  time = refl;
  fewer = omega arith;
  armed = λ k key low has. absurd (omega (arith, low));
}

-- the next has no row
pub probes_vacant : (g : Settings) (v u : View) (p q : Part) (n m : ℕ) → ProbesSome g v p q n m u → key_in q.keys n ≡ None → ProbesSome g v p q (n + 1) m u
probes_vacant g v u p q n m some none = record {
  probes = some.probes;
  order = order_wide 0 some.probes n some.order;
  settled = some.settled;
  few = omega (arith, some.few);
  call = some.call;
  stands = some.stands;
  loses = some.loses;
  frees = some.frees;
  time = some.time;
  fewer = some.fewer;
  armed = λ k key low has.
      elim (cases_eq k n) [
        | inl here ↦ (let bad : None ≡ Some key = sym none ∙ (ap (key_in q.keys) (sym here) ∙ has) in absurd cc)
        | inr other ↦ some.armed k key (omega (arith, low, other)) has
      ];
}

-- the timer of the next was found armed
pub probes_stay : (g : Settings) (v u x : View) (p q r : Part) (n m : ℕ) → ProbesSome g v p q n m u → ProbesRow g u q r n true x
    → ProbesSome g v p r (n + 1) m x
probes_stay g v u x p q r n m some one =
    let last : Probed = record { slot = n; found = one.found } in
    let armed : one.found ≡ Some Armed = armed_is one.found (sym one.told) in
    subst (λ (y : Part). ProbesSome g v p y (n + 1) m x) (sym one.part) (record {
      probes = some.probes ++ last ∷ [];
      order = order_push 0 some.probes n last some.order refl;
      settled = omega (arith, some.settled, count_push some.probes last, ap {B = ℕ} (λ b. cond b 0 1) (sym one.told));
      few = omega (arith, some.few);
      call = call_push g v u x p.number some.probes last some.call (step_of g u p q n one.found x some.loses one.step);
      stands = subst (PartStands g x.front) one.part one.stands;
      loses = some.loses;
      frees = some.frees;
      time = some.time;
      fewer = some.fewer;
      armed = λ k key low has.
          elim (cases_eq k n) [
            | inl here ↦ finds_last k some.probes last (sym here) armed
            | inr other ↦ finds_before k some.probes last (some.armed k key (omega (arith, low, other)) has)
          ];
    })

-- it was found settled
pub probes_drop : (g : Settings) (v u x : View) (p q r : Part) (n m : ℕ) (key : Key) → ProbesSome g v p q n m u → key_in q.keys n ≡ Some key
    → ProbesRow g u q r n false x → ProbesSome g v p r (n + 1) (m + 1) x
probes_drop g v u x p q r n m key some has one =
    let last : Probed = record { slot = n; found = one.found } in
    let loses : LosesRows q r = given_loses q r n key has one.part in
    record {
      probes = some.probes ++ last ∷ [];
      order = order_push 0 some.probes n last some.order refl;
      settled = omega (arith, some.settled, count_push some.probes last, ap {B = ℕ} (λ b. cond b 0 1) (sym one.told));
      few = omega (arith, some.few);
      call = call_push g v u x p.number some.probes last some.call (step_of g u p q n one.found x some.loses one.step);
      stands = one.stands;
      loses = loses_then p q r some.loses loses;
      frees = frees_then p q r some.loses loses.frees some.frees (frees_given q r n false one.part);
      time = ap (λ (y : Part). y.passed) one.part ∙ some.time;
      fewer = omega (arith, some.fewer, given_fewer q r n key has one.part);
      armed = λ k seen low is.
          elim (cases_eq k n) [
            | inl here ↦ absurd ((key_left q.keys n k seen (key_low q.keys n key has) (ap (λ (y : Part). key_in y.keys k) (sym one.part) ∙ is)).0 here)
            | inr other ↦ finds_before k some.probes last (some.armed k seen (omega (arith, low, other)) (loses.left k seen is))
          ];
    }

-- where every slot was looked at, all rows were probed
pub probes_all : (g : Settings) (v u : View) (p q : Part) (n m : ℕ) → ProbesSome g v p q n m u → n ≡ g.slots → ProbesRows g v p q m u
probes_all g v u p q n m some all = record {
  probes = some.probes;
  order = subst (ProbesInOrder 0 some.probes) all some.order;
  settled = some.settled;
  call = some.call;
  fewer = some.fewer;
  armed = λ k key has. some.armed k key (omega (arith, key_low q.keys k key has, some.stands.holds.wide, all)) has;
}

-- whether a slot has a row, as it is asked
pub vacant_is : (keys : List (Option Key)) (k : ℕ) (row : Option HeldRow) → row ≡ option_map (told_at k) (key_in keys k) → is_some row ≡ false
    → key_in keys k ≡ None
vacant_is keys k None told none = told_none (told_at k) (key_in keys k) None told refl
vacant_is keys k (Some row) told none = absurd cc

pub held_is : (keys : List (Option Key)) (k : ℕ) (row : Option HeldRow) → row ≡ option_map (told_at k) (key_in keys k) → is_some row ≡ true
    → (key : Key) × (key_in keys k ≡ Some key)
held_is keys k None told some = absurd cc
held_is keys k (Some row) told some =
    let has = told_some (told_at k) (key_in keys k) (Some row) row told refl in (has.0, has.1)

-- the next is probed
pub probes_more : (g : Settings) (v u x : View) (p q r : Part) (n m l : ℕ) (row : Option HeldRow) (b : Bool) → ProbesSome g v p q n m u
    → row ≡ option_map (told_at n) (key_in q.keys n) → is_some row ≡ true → ProbesRow g u q r n b x → l ≡ m + cond b 0 1
    → ProbesSome g v p r (n + 1) l x
probes_more g v u x p q r n m l row true some told has one count =
    let same : l ≡ m = omega (arith, count) in
    subst (λ (k : ℕ). ProbesSome g v p r (n + 1) k x) (sym same) (probes_stay g v u x p q r n m some one)
probes_more g v u x p q r n m l row false some told has one count =
    let held = held_is q.keys n row told has in
    subst (λ (k : ℕ). ProbesSome g v p r (n + 1) k x) (sym count) (probes_drop g v u x p q r n m held.0 some held.1 one)

-- and after a probe
pub probed_sched : (g : Settings) (v u : View) (p q : Part) (k : ℕ) (b : Bool) → HoldsSched v p.number → ProbesRow g v p q k b u → HoldsSched u q.number
probed_sched g v u p q k b holds one = still_sched v u p q q holds one.step.actors (number b one.part) refl
  where
    number : (b : Bool) → MatchBool b (q ≡ p) (q ≡ given_back p k false) → q.number ≡ p.number
    number true is = ap (λ (y : Part). y.number) is
    number false is = ap (λ (y : Part). y.number) is
