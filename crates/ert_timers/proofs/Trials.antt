-- The loop over the due rows of an advance, and the whole call.

use Rattle.std.proofs.Common.{◌≡◌, ℕ, ◌+◌, ◌≤◌, true, false, ◌||◌, nat_eq, List, [], ◌∷◌, ◌++◌, length, All, drop, Some, Result, Ok, Err, inr, refl, sym, ap, subst, ◌∙◌, arith, Option}
use Rattle.std.proofs.lemmas.{Bool.Decides.nat_tests, List.Sorted.sorted_far}
use Rattle.std.specs.{Cmp.IsStrictWeakOrder, Result.IsErr, List.Sorted.IsSortedBy}
use Rattle.ert_defs.specs.{Entries.{look_entry, advanced_entry}, Milliseconds.down, declared.entry.Actor.TheVariants.{Wheel, Sched}, declared.entry.Entry.Entry, declared.memory.NoMemory.NoMemory, declared.settings.Settings.Settings}
use Rattle.ert_effects.specs.WheelCalls.{expiry_entries, AllDue}
use Rattle.ert_table.proofs.{Looks.look_stepped, Calls.{step_takes_place, takes_place_then}}
use Rattle.ert_table.specs.{Calls.IsMade, Held.is_held, Takes.{Appends, MayStep}, declared.view.View.View}
use Rattle.ert_timers.specs.{Changes.gone_on, Expiring.{Expires, ExpiresSome, HasExpired, HasNotExpired, HasTried, HasNotTried, IsTried, IsReady, AreDue, TriesHeld}, ExpiredLists.Queue, Looking.LooksDown, Parts.{HoldsSched, Part}}
use Rattle.ert_timers.specs.{Parts.PartStands, Passed.LosesRows}
use Rattle.ert_timers.proofs.{Passing.loses_none, Later.later_step, Dues.{due_left, first_due, first_held, no_row, none_due}, Standing.stands_step, Tried.{self, waits_by}, Trying.{tries_none, tries_more, looked_more, stands_come_to}}
use Rattle.ert_timers.proofs.{Trying.tries_come_to}
use Rattle.ert_wheel.specs.{Rows.{key_in, key_of, times, due_count, comes_before}, declared.row.Row.Row as WheelRow, Standing.StayOrFall}

-- nothing was tried yet
pub expires_none : (g : Settings) (v : View) (p : Part) (to : ℕ) (due : List WheelRow) (q : Queue) → IsReady g v.front p to due
    → ExpiresSome g v p p to due 0 q q v
expires_none g v p to due q ready = record { done = tries_none g v p to q ready.stands.legal; ready = ready; room = omega arith }

-- one more was tried
pub expires_more : (g : Settings) (v : View) (p q r : Part) (to : ℕ) (due : List WheelRow) (n : ℕ) (row : WheelRow) (old mid new : Queue) (u w : View)
    → ExpiresSome g v p q to due n old mid u → is_held u.actors (Sched q.number) ≡ true → drop n due ≡ row ∷ drop (n + 1) due
    → is_held u.actors (Wheel q.number) ≡ true → Expires g u q r row mid new w → ExpiresSome g v p r to due (n + 1) old new w
expires_more g v p q r to due n row old mid new u w some held next wheel one =
    let ready : IsReady g u.front q to (row ∷ drop (n + 1) due) = subst (IsReady g u.front q to) next some.ready in
    record {
      done = tries_more g v p q r to n row old mid new u w some.done some.ready.stands (first_held g u.front q to row (drop (n + 1) due) ready)
          (first_due g u.front q to row (drop (n + 1) due) ready) wheel one;
      ready = record {
        stands = one.stands;
        told = looked_more g q r to row mid new u w some.ready.told held one;
        due = subst (λ (x : Part). AreDue x to (drop (n + 1) due)) (sym one.part) (due_left g u.front q to row (drop (n + 1) due) ready _);
      };
      room = omega (arith, some.room, one.room);
    }

-- and what was tried before a wheel passed a time was tried
pub expires_gone_on : (g : Settings) (v : View) (p q : Part) (to : ℕ) (there : List (Option ℕ)) (due : List WheelRow) (n : ℕ) (old new : Queue) (u : View)
    → StayOrFall q.keys (gone_on q to there).passed q.stands there
    → ExpiresSome g v p q to due n old new u → ExpiresSome g v p (gone_on q to there) to due n old new u
expires_gone_on g v p q to there due n old new u falls some = record {
  done = tries_come_to g v p q to n (gone_on q to there).passed there old new u some.done (omega arith) falls;
  ready = record {
    stands = stands_come_to g u.front q (gone_on q to there).passed there some.ready.stands;
    told = some.ready.told;
    due = record { each = some.ready.due.each; held = some.ready.due.held; in_order = some.ready.due.in_order };
  };
  room = some.room;
}

-- the part stands after the look
pub looked_stands : (g : Settings) (v : View) (p : Part) (to : ℕ) (u : View) → PartStands g v.front p → HoldsSched v p.number
    → LooksDown g v (Sched p.number) to u → PartStands g u.front p
looked_stands g v p to u stands holds looks =
    stands_step g v (look_entry (Sched p.number) looks.now) u p stands looks.step holds.wheel
    (record { arm = refl; expire = refl; orphan = refl })

-- what is ready after the look
pub ready_looked : (g : Settings) (v : View) (p : Part) (to : ℕ) (due : List WheelRow) (u : View) → PartStands g v.front p → HoldsSched v p.number
    → LooksDown g v (Sched p.number) to u → AreDue p to due → IsReady g u.front p to due
ready_looked g v p to due u stands holds looks due_are = record {
  stands = looked_stands g v p to u stands holds looks;
  told = looks.told ∙ ap (down g) (sym (look_stepped g v (look_entry (Sched p.number) looks.now) u looks.step holds.sched));
  due = due_are;
}

-- the part stands when the end is recorded
pub stands_ended : (g : Settings) (v : View) (p q : Part) (w to : ℕ) (u : View) → PartStands g v.front p → q ≡ p → p.number ≡ w
    → is_held v.actors (Wheel w) ≡ true → Appends g v (advanced_entry w to) u → PartStands g u.front q
stands_ended g v p q w to u stands same number held step =
    subst (λ (x : Part). PartStands g u.front x) (sym same)
    (stands_step g v (advanced_entry w to) u p stands step (subst (λ n. is_held v.actors (Wheel n) ≡ true) (sym number) held)
    (record { arm = refl; expire = refl; orphan = refl }))

-- a pass holds the same actors after a step
pub still_held : (v u : View) (w k : ℕ) → HoldsSched v w → u.actors ≡ v.actors → k ≡ w → HoldsSched u k
still_held v u w k holds same number =
    subst (HoldsSched u) (sym number) (record {
      sched = subst (λ actors. is_held actors (Sched w) ≡ true) (sym same) holds.sched;
      wheel = subst (λ actors. is_held actors (Wheel w) ≡ true) (sym same) holds.wheel;
    })

-- the end may be recorded
pub may_end : (g : Settings) (v : View) (p : Part) (to k : ℕ) (rows : List WheelRow) → IsReady g v.front p to rows → rows ≡ []
    → HoldsSched v p.number → k ≡ p.number → MayStep g v (advanced_entry k to)
may_end g v p to k rows ready none holds number =
    let done : IsReady g v.front p to [] = subst (IsReady g v.front p to) none ready in
    subst (λ n. MayStep g v (advanced_entry n to)) (sym number) (record {
      ours = (holds.sched, holds.wheel);
      keeps = (refl, refl, done.stands.holds.number);
      known = (done.told, none_due g v.front p to done);
    })

-- all due rows were tried, of what the code has
pub has_tried : (g : Settings) (v : View) (p p' q q' : Part) (k to : ℕ) (due : List WheelRow) (n : ℕ) (old old' new : Queue) (u w : View)
    → k ≡ p.number → p' ≡ p → q' ≡ q → old'.rows ≡ old.rows → LooksDown g v (Sched k) to u → ExpiresSome g u p' q to due n old' new w
    → length due ≤ n → HoldsSched v p.number → HasTried g v p q' to old new w
has_tried g v p p' q q' k to due n old old' new u w number first last rows down tried high holds =
    let looks : LooksDown g v (Sched p.number) to u = subst (λ m. LooksDown g v (Sched m) to u) number down in
    let some : ExpiresSome g u p q to due n old' new w = subst (λ (y : Part). ExpiresSome g u y q to due n old' new w) first tried in
    let look : Entry = look_entry (Sched p.number) looks.now in
    let has : (nat_eq p.number p.number || false) ≡ true = ap (λ b. b || false) (self p.number) in
    record {
      now = looks.now;
      tries = some.done.tries;
      gained = some.done.gained;
      settled = some.done.settled;
      due = subst (λ rows. AllDue rows to some.done.tries)
          (later_step g v look u p.number looks.step holds.wheel refl).rows some.done.due;
      once = some.done.once;
      held = some.done.held;
      loses = subst (LosesRows p) (sym last) some.done.loses;
      call = takes_place_then g v u w (look ∷ []) (expiry_entries p.number some.done.tries) (step_takes_place g v look u looks.step) some.done.call;
      number = ap (λ (x : Part). x.number) last ∙ some.done.number;
      ready = subst (λ (x : Part). IsReady g w.front x to []) (sym last) (subst (IsReady g w.front q to) (no_row due n high) some.ready);
      count = some.done.count;
      expired = some.done.expired ∙ ap (λ l. l ++ some.done.gained) rows;
      waits = some.done.waits ∙ ap (λ l. l ++ some.done.gained) (waits_by g v look u p.number looks.step holds.sched has);
    }

-- where none is due, all were tried
pub has_idled : (g : Settings) (v : View) (p q : Part) (k to : ℕ) (list : Queue) (u : View) → k ≡ p.number → q ≡ gone_on p to q.stands
    → StayOrFall p.keys q.passed p.stands q.stands
    → LooksDown g v (Sched k) to u → AreDue p to [] → PartStands g v.front p → HoldsSched v p.number → HasTried g v p q to list list u
has_idled g v p q k to list u number gone falls looks none stands holds =
    let ready = ready_looked g v p to [] u stands holds (subst (λ n. LooksDown g v (Sched n) to u) number looks) none in
    has_tried g v p p (gone_on p to q.stands) q k to [] 0 list list list u u number refl gone refl looks
    (expires_gone_on g u p p to q.stands [] 0 list list u (subst (λ n. StayOrFall p.keys n p.stands q.stands) (ap (λ (x : Part). x.passed) gone) falls) (expires_none g u p to [] list ready)) (omega arith) holds

-- the end is recorded after the tries
pub has_expired : (g : Settings) (v : View) (p q : Part) (k to : ℕ) (old new : Queue) (u x : View) → k ≡ p.number → HasTried g v p q to old new u
    → Appends g u (advanced_entry k to) x → HoldsSched v p.number → HasExpired g v p.number to old new x
has_expired g v p q k to old new u x number tried step holds =
    let w : ℕ = p.number in
    let es : List Entry = look_entry (Sched w) tried.now ∷ expiry_entries w tried.tries in
    let last : Appends g u (advanced_entry w to) x = subst (λ m. Appends g u (advanced_entry m to) x) number step in
    let has : (nat_eq w w || false) ≡ true = ap (λ b. b || false) (self w) in
    record {
      gained = tried.gained;
      call = record {
        entries = es ++ advanced_entry w to ∷ [];
        allowed = record {
          now = tried.now;
          tries = tried.tries;
          expired = tried.count;
          settled = tried.settled;
          due = tried.due;
          once = tried.once;
          entries = refl;
        };
        call = takes_place_then g v u x es (advanced_entry w to ∷ []) tried.call (step_takes_place g u (advanced_entry w to) x last);
      };
      expired = tried.expired;
      waits = waits_by g u (advanced_entry w to) x w last (subst (λ actors. is_held actors (Sched w) ≡ true) (sym tried.call.actors) holds.sched) has ∙ tried.waits;
    }

-- and only timers were tried that had a row before
pub tries_held : (g : Settings) (v : View) (p q : Part) (k to : ℕ) (old new : Queue) (u x : View) → k ≡ p.number → HasTried g v p q to old new u
    → Appends g u (advanced_entry k to) x → IsMade g v (TriesHeld p to) x
tries_held g v p q k to old new u x number tried step =
    let w : ℕ = p.number in
    let es : List Entry = look_entry (Sched w) tried.now ∷ expiry_entries w tried.tries in
    let last : Appends g u (advanced_entry w to) x = subst (λ m. Appends g u (advanced_entry m to) x) number step in
    record {
      entries = es ++ advanced_entry w to ∷ [];
      allowed = record { now = tried.now; tries = tried.tries; held = tried.held; entries = refl };
      call = takes_place_then g v u x es (advanced_entry w to ∷ []) tried.call (step_takes_place g u (advanced_entry w to) x last);
    }

-- there was no memory
pub not_expired : (g : Settings) (v : View) (w k to : ℕ) (e : NoMemory) (old new : Queue) (u : View) → k ≡ w → LooksDown g v (Sched k) to u
    → new.rows ≡ old.rows → HasNotExpired g v w e old new u
not_expired g v w k to e old new u number looks rows =
    let here = subst (λ m. LooksDown g v (Sched m) to u) number looks in
    record {
      call = record {
        entries = look_entry (Sched w) here.now ∷ [];
        allowed = inr (here.now, refl);
        call = step_takes_place g v (look_entry (Sched w) here.now) u here.step;
      };
      expired = rows;
    }

-- nothing was tried then
pub has_not_tried : (g : Settings) (v : View) (p q : Part) (k to : ℕ) (e : NoMemory) (old new : Queue) (u : View) → PartStands g v.front p
    → HoldsSched v p.number → k ≡ p.number → q ≡ p → LooksDown g v (Sched k) to u → new.rows ≡ old.rows → HasNotTried g v p q e old new u
has_not_tried g v p q k to e old new u stands holds number same down rows =
    let looks : LooksDown g v (Sched p.number) to u = subst (λ m. LooksDown g v (Sched m) to u) number down in
    record {
      call = not_expired g v p.number k to e old new u number down rows;
      loses = subst (LosesRows p) (sym same) (loses_none p);
      number = ap (λ (x : Part). x.number) same;
      stands = subst (λ (x : Part). PartStands g u.front x) (sym same) (looked_stands g v p to u stands holds looks);
    }

pub when_none : (g : Settings) (v : View) (p q : Part) (r : Result ℕ NoMemory) (old new : Queue) (u : View) → IsErr r
    → ((e : NoMemory) → HasNotTried g v p q e old new u) → IsTried g v p q r old new u
when_none g v p q (Ok to) old new u is f = absurd cc
when_none g v p q (Err e) old new u is f = f e

-- the due rows that the wheel tells
pub are_due : (p : Part) (to : ℕ) (rows : List WheelRow) → ((k : ℕ) → times k rows ≡ due_count to (key_in p.keys k))
    → All (λ row. key_in p.keys row.slot ≡ Some (key_of row)) rows → IsSortedBy comes_before rows → AreDue p to rows
are_due p to rows each held sorted = record {
  each = each;
  held = held;
  in_order = λ i j d less low. sorted_far comes_before weak rows sorted i j d (omega (arith, less)) low;
}
  where
    weak : IsStrictWeakOrder comes_before
    weak = record {
      one_way = λ x y. grind (arith, nat_tests);
      chain = λ x y z. grind (arith, nat_tests);
    }
