-- An advance that tries so many timers at most.

use Rattle.std.proofs.Common.{◌≡◌, ℕ, ◌≤◌, true, false, ◌||◌, nat_eq, length, List, [], ◌∷◌, ◌++◌, refl, sym, ap, subst, ◌∙◌, arith, append-nil}
use Rattle.ert_table.proofs.{Looks.look_stepped, Calls.{step_takes_place, takes_place_then}}
use Rattle.ert_defs.specs.{Entries.{look_entry, advanced_entry}, Milliseconds.down, States.state, declared.entry.Actor.TheVariants.Sched, declared.entry.Entry.Entry, declared.settings.Settings.Settings}
use Rattle.ert_effects.specs.{SomeCalls.{AreTried, end_entries, is_more}, WheelCalls.{AllDue, expiry_entries}, declared.answers.Left.Left, declared.answers.Left.TheVariants.{Nothing, Due, Moving}}
use Rattle.ert_table.specs.{Held.is_held, Takes.{Appends, MayStep, TakesPlace}, declared.view.View.View}
use Rattle.ert_timers.proofs.{Dues.none_armed_due, Later.later_step, Tried.{self, waits_by}, Trials.looked_stands, Trying.{stands_come_to, tries_come_to}}
use Rattle.ert_timers.specs.{ExpiredLists.Queue, Looking.LooksDown, Parts.{HoldsSched, Part, PartStands}, Trying.{HasDue, HasExpiredSome, IsLooked, IsTriedSome, LosesSome, TriesRows, come_to}}
use Rattle.ert_wheel.specs.{FirstDue.{NoRowDue, IsFirstRowDue}, Rows.key_of, declared.row.Row.Row as WheelRow, Standing.StayOrFall}

-- the look with which it begins
pub is_looked : (g : Settings) (v : View) (p : Part) (to : ℕ) (u : View) → PartStands g v.front p → HoldsSched v p.number
    → LooksDown g v (Sched p.number) to u → IsLooked g u.front p to
is_looked g v p to u stands holds looks = record {
  stands = looked_stands g v p to u stands holds looks;
  told = looks.told ∙ ap (down g) (sym (look_stepped g v (look_entry (Sched p.number) looks.now) u looks.step holds.sched));
}

-- a part for which this holds, where the time of its wheel goes on
pub looked_come_to : (g : Settings) (h : List Entry) (p q : Part) (to passed : ℕ) → q ≡ come_to p passed q.stands → IsLooked g h p to → IsLooked g h q to
looked_come_to g h p q to passed is looked =
    subst (λ (x : Part). IsLooked g h x to) (sym is) (record { stands = stands_come_to g h p passed q.stands looked.stands; told = looked.told })

pub tried_come_to : (g : Settings) (v : View) (p q r : Part) (to n : ℕ) (old new : Queue) (u : View) → r ≡ come_to q r.passed r.stands → q.passed ≤ r.passed
    → StayOrFall q.keys r.passed q.stands r.stands
    → TriesRows g v p q to n old new u → TriesRows g v p r to n old new u
tried_come_to g v p q r to n old new u is up falls some =
    subst (λ (x : Part). TriesRows g v p x to n old new u) (sym is) (tries_come_to g v p q to n r.passed r.stands old new u some up falls)

-- so many rows fewer are held then
pub loses_some : (g : Settings) (v : View) (p q : Part) (to most : ℕ) (left : Left) (old new : Queue) (u : View) → IsTriedSome g v p q to most left old new u
    → LosesSome left most p q
loses_some g v p q to most Nothing old new u some =
    let tried : some.count ≤ most = some.tried in
    omega (arith, tried, some.done.fewer)
loses_some g v p q to most Due old new u some =
    let tried : some.count ≡ most = some.tried in
    omega (arith, tried, some.done.fewer)
loses_some g v p q to most Moving old new u some =
    let tried : some.count ≤ most = some.tried in
    omega (arith, tried, some.done.fewer)

-- where the next advance goes on with nothing, nothing is left
pub nothing_more : (left : Left) → is_more left ≡ false → left ≡ Nothing
nothing_more Nothing none = refl
nothing_more Due none = absurd cc
nothing_more Moving none = absurd cc

-- the first row that is due is one that is
pub has_due : (p : Part) (to : ℕ) (row : WheelRow) → IsFirstRowDue p.keys to row → HasDue p to
has_due p to row first = record { slot = row.slot; key = key_of row; has = first.held; due = first.due }

-- the end may be recorded where no row is due
pub may_end_some : (g : Settings) (v : View) (p : Part) (to k : ℕ) → IsLooked g v.front p to → NoRowDue p.keys to → HoldsSched v p.number
    → k ≡ p.number → MayStep g v (advanced_entry k to)
may_end_some g v p to k looked none holds number =
    subst (λ n. MayStep g v (advanced_entry n to)) (sym number) (record {
      ours = (holds.sched, holds.wheel);
      keeps = (refl, refl, looked.stands.holds.number);
      known = (looked.told, none_armed_due g v.front p to looked.stands none);
    })

module _ (g : Settings) (v : View) (p q : Part) (k most to : ℕ) (old mid new : Queue) (u w : View) (number : k ≡ p.number) (rows : mid.rows ≡ old.rows)
    (looks : LooksDown g v (Sched k) to u) (holds : HoldsSched v p.number) where
  abbrev looked : LooksDown g v (Sched p.number) to u
  looked = subst (λ m. LooksDown g v (Sched m) to u) number looks

  abbrev look : Entry
  look = look_entry (Sched p.number) looked.now

  has : (nat_eq p.number p.number || false) ≡ true
  has = ap (λ b. b || false) (self p.number)

  same_rows : (state g u.front).rows p.number ≡ (state g v.front).rows p.number
  same_rows = (later_step g v look u p.number looked.step holds.wheel refl).rows

  -- so many were tried, as it is told
  are_tried : (left : Left) (count n : ℕ) → n ≡ count → AreTried left most count → AreTried left most n
  are_tried left count n same tried = subst (AreTried left most) (sym same) tried

  stopped : (left : Left) → end_entries p.number to left ≡ [] → IsTriedSome g u p q to most left mid new w → HasExpiredSome g v p q most to left old new w
  stopped left no_end some = record {
    gained = some.done.gained;
    call = record {
      entries = look ∷ (expiry_entries p.number some.done.tries ++ []);
      allowed = record {
        now = looked.now;
        told = looked.told;
        tries = some.done.tries;
        expired = some.done.count;
        settled = some.done.settled;
        due = subst (λ (l : _). AllDue l to some.done.tries) same_rows some.done.due;
        once = some.done.once;
        tried = are_tried left some.count (length some.done.tries) some.done.tried some.tried;
        entries = ap (λ es. look ∷ (expiry_entries p.number some.done.tries ++ es)) (sym no_end);
      };
      call = subst (λ es. TakesPlace g v (look ∷ es) w) (sym (append-nil (expiry_entries p.number some.done.tries)))
          (takes_place_then g v u w (look ∷ []) (expiry_entries p.number some.done.tries) (step_takes_place g v look u looked.step) some.done.call);
    };
    held = some.done.held;
    none = some.done.none;
    expired = some.done.expired ∙ ap (λ l. l ++ some.done.gained) rows;
    waits = some.done.waits ∙ ap (λ l. l ++ some.done.gained) (waits_by g v look u p.number looked.step holds.sched has);
  }

  -- it stops before it has come to the time, or where more are due
  pub stopped_some : (left : Left) → is_more left ≡ true → IsTriedSome g u p q to most left mid new w → HasExpiredSome g v p q most to left old new w
  stopped_some Nothing more some = absurd cc
  stopped_some Due more some = stopped Due refl some
  stopped_some Moving more some = stopped Moving refl some

  -- none is, and that is recorded
  pub ended_some : (x : View) → IsTriedSome g u p q to most Nothing mid new w → Appends g w (advanced_entry p.number to) x
      → HasExpiredSome g v p q most to Nothing old new x
  ended_some x some step = record {
    gained = some.done.gained;
    call = record {
      entries = look ∷ (expiry_entries p.number some.done.tries ++ advanced_entry p.number to ∷ []);
      allowed = record {
        now = looked.now;
        told = looked.told;
        tries = some.done.tries;
        expired = some.done.count;
        settled = some.done.settled;
        due = subst (λ (l : _). AllDue l to some.done.tries) same_rows some.done.due;
        once = some.done.once;
        tried = subst (λ n. n ≤ most) (sym some.done.tried) some.tried;
        entries = refl;
      };
      call = takes_place_then g v w x (look ∷ expiry_entries p.number some.done.tries) (advanced_entry p.number to ∷ [])
          (takes_place_then g v u w (look ∷ []) (expiry_entries p.number some.done.tries) (step_takes_place g v look u looked.step) some.done.call)
          (step_takes_place g w (advanced_entry p.number to) x step);
    };
    held = some.done.held;
    none = some.done.none;
    expired = some.done.expired ∙ ap (λ l. l ++ some.done.gained) rows;
    waits = waits_by g w (advanced_entry p.number to) x p.number step
        (subst (λ actors. is_held actors (Sched p.number) ≡ true) (sym (some.done.call.actors ∙ looked.step.actors)) holds.sched) has
        ∙ (some.done.waits ∙ ap (λ l. l ++ some.done.gained) (waits_by g v look u p.number looked.step holds.sched has));
  }
