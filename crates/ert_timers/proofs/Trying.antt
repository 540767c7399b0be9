-- Timers are tried one after the other, and their rows go.

use Rattle.std.proofs.Common.{◌≡◌, ℕ, ◌+◌, ◌≤◌, ℤ, pos, true, false, List, [], ◌∷◌, ◌++◌, ◌<◌, length, set, count_by, Option, Some, None, refl, sym, ap, subst, ◌∙◌, arith, append_assoc, append-nil, length-append}
use Rattle.std.proofs.lemmas.List.{map-append}
use Rattle.std.specs.FinSet as sets
use Rattle.std.specs.Option.{is_some}
use Rattle.ert_table.proofs.{Looks.look_stepped, Calls.{step_takes_place, takes_place_then}}
use Rattle.ert_defs.specs.{Legal.Legal, Milliseconds.down, States.{look_after, state}, Timers.{Row, row_of}, declared.entry.Actor.TheVariants.{Wheel, Sched}, declared.entry.Entry.Entry, declared.settings.Settings.Settings}
use Rattle.ert_defs.specs.{declared.timer.Status.Status, declared.timer.TimerRef.TimerRef}
use Rattle.ert_effects.specs.WheelCalls.{Try, expires_by, expiry_entries, hit_by, hits, IsSettled, AllMissesSettled}
use Rattle.ert_laws.specs.Counts.{is_arm}
use Rattle.ert_table.specs.{Held.is_held, Takes.{Appends, TakesPlace}, declared.view.View.View}
use Rattle.ert_timers.specs.{Expiring.{Expires, expired_as, timer_of}, ExpiredLists.Queue, Parts.{Part, PartStands, last_timer}, Passed.LosesRows, Trying.{TriesRows, come_to, expired_after}}
use Rattle.ert_timers.proofs.{Later.later_step, Passing.{due_push, fewer_rows, held_push, holds_less, loses_none, loses_row, loses_then, none_more, once_more, was_held}, Standing.stands_with, Tried.held_found}
use Rattle.ert_wheel.specs.{Rows.{key_in, key_of}, declared.row.Row.Row as WheelRow, Standing.StayOrFall}
use Rattle.ert_wheel.proofs.{Looking.key_low, Views.counts_less}

-- no step took place
pub no_step : (g : Settings) (v : View) → Legal g v.front → TakesPlace g v [] v
no_step g v legal = record { actors = refl; legal = legal; later = []; grown = sym (append-nil v.front); ours = refl }

-- nothing was tried yet
pub tries_none : (g : Settings) (v : View) (p : Part) (to : ℕ) (q : Queue) → Legal g v.front → TriesRows g v p p to 0 q q v
tries_none g v p to q legal = record {
  tries = [];
  gained = [];
  tried = refl;
  settled = tt;
  due = tt;
  once = tt;
  held = tt;
  none = tt;
  loses = loses_none p;
  fewer = omega arith;
  rows = refl;
  call = no_step g v legal;
  number = refl;
  count = refl;
  expired = sym (append-nil q.rows);
  waits = sym (append-nil (expired_after g v.front p.number));
}

-- the entry of a try is no look
no_look : (w : ℕ) (timer : _) (missed : Option (Option Status)) (last : ℤ) → look_after last (expires_by w timer missed).event ≡ last
no_look w timer None last = refl
no_look w timer (Some found) last = refl

by_sched : (w : ℕ) (timer : _) (missed : Option (Option Status)) → (expires_by w timer missed).by ≡ Sched w
by_sched w timer None = refl
by_sched w timer (Some found) = refl

expired_count : (row : Row) (missed : Option (Option Status)) → length (expired_as row missed) ≡ hit_by missed
expired_count row None = refl
expired_count row (Some found) = refl

settled-push : (tries : List Try) (t : Try) → AllMissesSettled tries → IsSettled t.missed → AllMissesSettled (tries ++ t ∷ [])
settled-push [] t all one = (one, tt)
settled-push (x ∷ tries) t all one = (all.0, settled-push tries t all.1 one)

hits-push : (tries : List Try) (t : Try) → hits (tries ++ t ∷ []) ≡ hits tries + hit_by t.missed
hits-push [] t = omega arith
hits-push (x ∷ tries) t = omega (arith, hits-push tries t)

no_arm : (w : ℕ) (timer : TimerRef) (missed : Option (Option Status)) → is_arm (expires_by w timer missed).event ≡ false
no_arm w timer None = refl
no_arm w timer (Some found) = refl

-- a row that is held is counted, and when it has gone there is one less
pub row_counted : (p q : Part) (row : WheelRow) → key_in p.keys row.slot ≡ Some (key_of row) → q.keys ≡ set p.keys row.slot None
    → count_by is_some q.keys + 1 ≡ count_by is_some p.keys
row_counted p q row held keys =
    ap (λ ks. count_by is_some ks + 1) keys ∙ counts_less p.keys row.slot (key_of row) (key_low p.keys row.slot (key_of row) held) held

-- one more was tried
pub tries_more : (g : Settings) (v : View) (p q r : Part) (to n : ℕ) (row : WheelRow) (old mid new : Queue) (u w : View)
    → TriesRows g v p q to n old mid u → PartStands g u.front q → key_in q.keys row.slot ≡ Some (key_of row) → row.deadline ≤ to
    → is_held u.actors (Wheel q.number) ≡ true → Expires g u q r row mid new w → TriesRows g v p r to (n + 1) old new w
tries_more g v p q r to n row old mid new u w some stands its due wheel one =
    let t : Try = record { timer = last_timer q.number q.slots row.slot; missed = one.missed } in
    let step : Appends g u (expires_by p.number t.timer t.missed) w =
    subst (λ k. Appends g u (expires_by k t.timer t.missed) w) some.number one.step in
    let mine : r.number ≡ q.number = ap (λ (x : Part). x.number) one.part in
    let low : row.slot < length q.keys = key_low q.keys row.slot (key_of row) its in
    let keys : r.keys ≡ set q.keys row.slot None = ap (λ (x : Part). x.keys) one.part in
    let slots : r.slots ≡ q.slots = ap (λ (x : Part). x.slots) one.part in
    let time : r.passed ≡ q.passed = ap (λ (x : Part). x.passed) one.part in
    let rows : (state g u.front).rows q.number ≡ (state g v.front).rows p.number =
    ap (state g u.front).rows some.number ∙ some.rows in
    record {
      tries = some.tries ++ t ∷ [];
      gained = some.gained ++ expired_as (timer_of q row) one.missed;
      tried = length-append some.tries (t ∷ []) ∙ ap (λ m. m + 1) some.tried;
      settled = settled-push some.tries t some.settled one.settled;
      due = due_push ((state g v.front).rows p.number) to some.tries t some.due (record {
        row = timer_of q row;
        stands = ap (λ l. row_of l t.timer) (sym rows) ∙ held_found g u.front q row.slot (key_of row) stands its;
        due = due;
      });
      once = once_more q row.slot (key_of row) some.tries t its refl some.none some.once;
      held = held_push p some.tries t some.held (was_held p q row.slot (key_of row) some.loses (stands.holds.wide ∙ sym stands.holds.many) its);
      none = none_more q r row.slot some.tries t low refl mine slots keys time some.none;
      loses = loses_then p q r some.loses (loses_row q r row.slot low mine slots keys time (ap (λ (x : Part). x.stands) one.part) (λ k was. ap (λ (x : Part). sets.contains x.free k) one.part ∙ was));
      fewer = omega (arith, some.fewer, row_counted q r row its keys);
      rows = (later_step g u (expires_by p.number t.timer t.missed) w p.number step
          (subst (λ k. is_held u.actors (Wheel k) ≡ true) some.number wheel) (no_arm p.number t.timer t.missed)).rows ∙ some.rows;
      call = subst (λ es. TakesPlace g v es w) (sym (map-append (λ (x : Try). expires_by p.number x.timer x.missed) some.tries (t ∷ [])))
          (takes_place_then g v u w (expiry_entries p.number some.tries) (expires_by p.number t.timer t.missed ∷ []) some.call
          (step_takes_place g u (expires_by p.number t.timer t.missed) w step));
      number = mine ∙ some.number;
      count = length-append some.gained (expired_as (timer_of q row) one.missed)
          ∙ omega (arith, some.count, expired_count (timer_of q row) one.missed, hits-push some.tries t);
      expired = one.expired ∙ (ap (λ l. l ++ expired_as (timer_of q row) one.missed) some.expired
          ∙ append_assoc old.rows some.gained (expired_as (timer_of q row) one.missed));
      waits = subst (λ k. expired_after g w.front k ≡ expired_after g u.front k ++ expired_as (timer_of q row) one.missed) some.number one.waits
          ∙ (ap (λ l. l ++ expired_as (timer_of q row) one.missed) some.waits
          ∙ append_assoc (expired_after g v.front p.number) some.gained (expired_as (timer_of q row) one.missed));
    }

-- the last look of the scheduler is as before
pub looked_more : (g : Settings) (q r : Part) (to : ℕ) (row : WheelRow) (mid new : Queue) (u w : View)
    → pos to ≡ down g ((state g u.front).looked (Sched q.number)) → is_held u.actors (Sched q.number) ≡ true
    → Expires g u q r row mid new w → pos to ≡ down g ((state g w.front).looked (Sched r.number))
looked_more g q r to row mid new u w told held one =
    let timer : TimerRef = last_timer q.number q.slots row.slot in
    let e : Entry = expires_by q.number timer one.missed in
    let look : (state g w.front).looked (Sched q.number) ≡ (state g u.front).looked (Sched q.number) =
    subst (λ a. (state g w.front).looked a ≡ (state g u.front).looked a) (by_sched q.number timer one.missed)
    (look_stepped g u e w one.step (subst (λ a. is_held u.actors a ≡ true) (sym (by_sched q.number timer one.missed)) held)
    ∙ no_look q.number timer one.missed ((state g u.front).looked e.by)) in
    told ∙ (ap (down g) (sym look) ∙ ap (λ k. down g ((state g w.front).looked (Sched k))) (sym (ap (λ (x : Part). x.number) one.part)))

-- a part stands as before where the time of its wheel goes on
pub stands_come_to : (g : Settings) (h : List Entry) (p : Part) (passed : ℕ) (there : List (Option ℕ)) → PartStands g h p
    → PartStands g h (come_to p passed there)
stands_come_to g h p passed there stands = stands_with g h p p.free passed there stands (λ k held. held)

-- it has lost no row
pub loses_come_to : (p : Part) (passed : ℕ) (there : List (Option ℕ)) → p.passed ≤ passed → StayOrFall p.keys passed p.stands there
    → LosesRows p (come_to p passed there)
loses_come_to p passed there up falls = record { number = refl; slots = refl; left = λ k key is. is; time = up; frees = λ k was. was; stands = falls }

-- and what was tried before that was tried
pub tries_come_to : (g : Settings) (v : View) (p q : Part) (to n passed : ℕ) (there : List (Option ℕ)) (old new : Queue) (u : View)
    → TriesRows g v p q to n old new u → q.passed ≤ passed → StayOrFall q.keys passed q.stands there
    → TriesRows g v p (come_to q passed there) to n old new u
tries_come_to g v p q to n passed there old new u some up falls = record {
  tries = some.tries;
  gained = some.gained;
  tried = some.tried;
  settled = some.settled;
  due = some.due;
  once = some.once;
  held = some.held;
  none = holds_less q (come_to q passed there) some.tries (fewer_rows (loses_come_to q passed there up falls)) some.none;
  loses = loses_then p q (come_to q passed there) some.loses (loses_come_to q passed there up falls);
  fewer = some.fewer;
  rows = some.rows;
  call = some.call;
  number = some.number;
  count = some.count;
  expired = some.expired;
  waits = some.waits;
}
