-- An exit is possible after each legal history: every wheel is swept, row by row.

use Rattle.std.proofs.Common.{◌≡◌, ◌≢◌, ℕ, zero, suc, ◌<◌, Bool, true, false, cond, ◌||◌, ◌&&◌, nat_eq, List, [], ◌∷◌, ◌++◌, All, AllPairs, Option, Some, None, refl, sym, ap, ◌∙◌, subst, append_assoc, eqb-true, eq-eqb}
use Rattle.std.proofs.lemmas.List.Elements.{All-head, All-tail}
use Rattle.ert_defs.proofs.{ExpiredTimers.{cond_same, same_timer_self}, Rows.Differ, Runs.{exit_stays, state-append}}
use Rattle.ert_defs.specs.{Actors.has_actor, Entries.{mark_entry, orphan_entry}, Laws.is_armed, Legal.{Can, LegalFrom, Legal}, Settings.IsChecked, States.{State, next, run, state}, Timers.{Row, row_of, same_timer, settled_as}}
use Rattle.ert_defs.specs.{declared.entry.Actor.TheVariants.{Wheel, Caller}, declared.entry.Entry.Entry, declared.settings.Settings.Settings, declared.timer.Status.Status, declared.timer.Status.TheVariants.{Armed, Orphaned}}
use Rattle.ert_defs.specs.{declared.timer.TimerRef.TimerRef}
use Rattle.ert_effects.specs.{Chains.{SweepsWheel, SweepsWheels, Exits}, Ways.alone, WheelCalls.{Try, orphans_by, orphan_entries, AllMaySweep, IsUntried, AreOnce, AreSwept, MarksExit}}
use Rattle.ert_laws.proofs.StandingRows.{row_stands}
use Rattle.ert_laws.specs.Ranges.{IsPlaced}
use Rattle.ert_ops.proofs.{Due.is_armed_some, Following.{follow_none, follow_then, legal_with}, PossibleAdvances.AllArmed, PossibleCalls.can_mark, Reached.{IsReached, reached}}
use Rattle.ert_ops.specs.Existence.{CanFollow}

-- rows that stand in a wheel
abbrev AllStandIn : Settings → ℕ → List Row → List Row → Type 0
AllStandIn g w rows [] = Unit {0}
AllStandIn g w rows (x ∷ xs) = (row_of rows x.timer ≡ Some x) × IsPlaced g w x × AllStandIn g w rows xs

stand_in : (g : Settings) (w : ℕ) (rows before xs : List Row) → rows ≡ before ++ xs → AllPairs Differ rows → All (IsPlaced g w) xs → AllStandIn g w rows xs
stand_in g w rows before [] is apart placed = tt
stand_in g w rows before (x ∷ xs) is apart placed = (
  ap (λ (l : List Row). row_of l x.timer) is ∙ row_stands before x xs (subst (AllPairs Differ) is apart),
  All-head (IsPlaced g w) x xs placed,
  stand_in g w rows (before ++ x ∷ []) xs (is ∙ sym (append_assoc before (x ∷ []) xs)) apart (All-tail (IsPlaced g w) x xs placed),
)

-- the statuses after timers were cancelled for an exit

not_armed_now : (b : Bool) (x : Option Status) → x ≢ Some Armed → cond b (settled_as Orphaned x) x ≢ Some Armed
not_armed_now false x not is = not is
not_armed_now true None not is = let clash : None ≡ Some Armed = is in absurd cc
not_armed_now true (Some Armed) not is = not refl
not_armed_now true (Some _) not is = not is

armed_before : (b : Bool) (x : Option Status) → cond b (settled_as Orphaned x) x ≡ Some Armed → x ≡ Some Armed
armed_before false x is = is
armed_before true None is = let clash : None ≡ Some Armed = is in absurd cc
armed_before true (Some Armed) is = refl
armed_before true (Some _) is = is

stays_unarmed : (g : Settings) (n w : ℕ) (r : TimerRef) (tries : List Try) (z : State) → z.status r ≢ Some Armed
    → (run g z (orphan_entries n w tries)).status r ≢ Some Armed
stays_unarmed g n w r [] z not = not
stays_unarmed g n w r (t ∷ tries) z not = stays_unarmed g n w r tries _ (one t.timer t.missed)
  where
    one : (u : TimerRef) (missed : Option (Option Status)) → (next g z (orphans_by n w u missed)).status r ≢ Some Armed
    one u None = not_armed_now (same_timer u r) (z.status r) not
    one u (Some found) = not

all_armed_before : (t : TimerRef) (status : TimerRef → Option Status) (tries : List Try)
    → AllArmed (λ r. cond (same_timer t r) (settled_as Orphaned (status r)) (status r)) tries → AllArmed status tries
all_armed_before t status [] h = tt
all_armed_before t status (u ∷ tries) h = (armed_before (same_timer t u.timer) (status u.timer) h.0, all_armed_before t status tries h.1)

untried : (t : TimerRef) (status : TimerRef → Option Status) (tries : List Try) → status t ≡ Some Orphaned → AllArmed status tries → IsUntried t tries
untried t status [] gone h = tt
untried t status (u ∷ tries) gone h = (
  (λ same. let clash : Some Orphaned ≡ Some Armed = sym gone ∙ (ap status (sym same) ∙ h.0) in absurd cc),
  untried t status tries gone h.1,
)

-- the rows of a wheel, from one on

record AreSweptOf (g : Settings) (n w p : ℕ) (rows xs : List Row) (z : State) : Type 0 where
  tries : List Try
  may : AllMaySweep rows p tries
  once : AreOnce tries
  armed : AllArmed z.status tries
  legal : LegalFrom g z (orphan_entries n w tries)
  swept : AreSwept (run g z (orphan_entries n w tries)).status p xs
  same : (run g z (orphan_entries n w tries)).rows w ≡ z.rows w
  undue : z.clock.due ≡ None → (run g z (orphan_entries n w tries)).clock.due ≡ None

abbrev SweepsFrom : Settings → ℕ → ℕ → ℕ → List Row → List Row → Type 0
SweepsFrom g n w p rows xs = (z : State) → z.rows w ≡ rows → z.exited p ≡ true → AreSweptOf g n w p rows xs z

row_skipped : (g : Settings) (n w p : ℕ) (rows xs : List Row) (x : Row) (z : State) → (x.dest ≡ p → z.status x.timer ≢ Some Armed)
    → AreSweptOf g n w p rows xs z → AreSweptOf g n w p rows (x ∷ xs) z
row_skipped g n w p rows xs x z not more = record {
  tries = more.tries;
  may = more.may;
  once = more.once;
  armed = more.armed;
  legal = more.legal;
  swept = ((λ dest. stays_unarmed g n w x.timer more.tries z (not dest)), more.swept);
  same = more.same;
  undue = more.undue;
}

row_swept : (g : Settings) (n w p : ℕ) (rows xs : List Row) (x : Row) (z : State) → n < g.callers → z.rows w ≡ rows → z.exited p ≡ true
    → row_of rows x.timer ≡ Some x → IsPlaced g w x → x.dest ≡ p → z.status x.timer ≡ Some Armed → SweepsFrom g n w p rows xs
    → AreSweptOf g n w p rows (x ∷ xs) z
row_swept g n w p rows xs x z caller are exited stands placed dest armed later =
    let t : TimerRef = x.timer in
    let e : Entry = orphan_entry n w t in
    let s : State = next g z e in
    let rows_are : s.rows w ≡ z.rows w = cond_same (has_actor e (Wheel w)) (z.rows w) in
    let gone : s.status t ≡ Some Orphaned =
    ap (λ (b : Bool). cond b (settled_as Orphaned (z.status t)) (z.status t)) (same_timer_self t) ∙ ap (settled_as Orphaned) armed in
    let more = later s (rows_are ∙ are) exited in
    let can : Can g z e = record {
      keeps = (caller, ap (λ (v : ℕ). Some (Wheel v)) (sym placed.wheel), placed.place);
      known = record {
        row = x;
        stands = ap (λ (l : List Row). row_of l t) (ap z.rows placed.wheel ∙ are) ∙ stands;
        exited = ap z.exited dest ∙ exited;
      };
      found = armed;
    } in
    let not : s.status t ≢ Some Armed = λ is. let clash : Some Orphaned ≡ Some Armed = sym gone ∙ is in absurd cc in
    record {
      tries = (record { timer = t; missed = None }) ∷ more.tries;
      may = ((record { row = x; stands = stands; dest = dest }, tt), more.may);
      once = (untried t s.status more.tries gone more.armed, more.once);
      armed = (armed, all_armed_before t z.status more.tries more.armed);
      legal = (can, more.legal);
      swept = ((λ _. stays_unarmed g n w t more.tries s not), more.swept);
      same = more.same ∙ rows_are;
      undue = more.undue;
    }

row_by : (g : Settings) (n w p : ℕ) (rows xs : List Row) (x : Row) (z : State) → n < g.callers → z.rows w ≡ rows → z.exited p ≡ true
    → row_of rows x.timer ≡ Some x → IsPlaced g w x → SweepsFrom g n w p rows xs → (a b : Bool) → nat_eq x.dest p ≡ a → is_armed (z.status x.timer) ≡ b
    → AreSweptOf g n w p rows (x ∷ xs) z
row_by g n w p rows xs x z caller are exited stands placed later true true dest armed =
    row_swept g n w p rows xs x z caller are exited stands placed (eqb-true x.dest p dest) (is_armed_some (z.status x.timer) armed) later
row_by g n w p rows xs x z caller are exited stands placed later true false dest armed =
    row_skipped g n w p rows xs x z (λ _ is. let clash : true ≡ false = sym (ap is_armed is) ∙ armed in absurd cc) (later z are exited)
row_by g n w p rows xs x z caller are exited stands placed later false b other armed =
    row_skipped g n w p rows xs x z (λ dest. let clash : true ≡ false = sym (eq-eqb x.dest p dest) ∙ other in absurd cc) (later z are exited)

sweep_rows : (g : Settings) (n w p : ℕ) (rows xs : List Row) → n < g.callers → AllStandIn g w rows xs → SweepsFrom g n w p rows xs
sweep_rows g n w p rows [] caller stand z are exited = record {
  tries = [];
  may = tt;
  once = tt;
  armed = tt;
  legal = tt;
  swept = tt;
  same = refl;
  undue = λ idle. idle;
}
sweep_rows g n w p rows (x ∷ xs) caller stand z are exited =
    row_by g n w p rows xs x z caller are exited stand.0 stand.1 (sweep_rows g n w p rows xs caller stand.2) _ _ refl refl

-- a wheel, and then all

sweep_wheel : (g : Settings) (h : List Entry) (n w p : ℕ) → IsReached g (state g h) → n < g.callers → (state g h).exited p ≡ true
    → CanFollow g h (SweepsWheel g (alone g) n p w)
sweep_wheel g h n w p reached caller exited =
    let s : State = state g h in
    let all = sweep_rows g n w p (s.rows w) (s.rows w) caller
    (stand_in g w (s.rows w) [] (s.rows w) refl (reached.kept.rows w).apart (reached.placed w)) s refl exited in
    let es : List Entry = orphan_entries n w all.tries in
    let after : state g (h ++ es) ≡ run g s es = state-append g h es in
    record {
      piece = es;
      made = record {
        steps = record { tries = all.tries; may = all.may; once = all.once; entries = refl };
        swept = subst (λ (z : State). AreSwept z.status p (z.rows w)) (sym after)
            (subst (AreSwept (run g s es).status p) (sym all.same) all.swept);
      };
      legal = all.legal;
      undue = λ idle. subst (λ (z : State). z.clock.due ≡ None) (sym after) (all.undue idle);
    }

sweep_wheels : (g : Settings) (h : List Entry) (n p w count : ℕ) → IsChecked g → Legal g h → n < g.callers → (state g h).exited p ≡ true
    → CanFollow g h (SweepsWheels g (alone g) n p w count)
sweep_wheels g h n p w zero checked legal caller exited = follow_none g h (SweepsWheels g (alone g) n p w zero) refl
sweep_wheels g h n p w (suc count) checked legal caller exited =
    let one = sweep_wheel g h n w p (reached g h checked legal) caller exited in
    let gone : (state g (h ++ one.piece)).exited p ≡ true =
    ap (λ (z : State). z.exited p) (state-append g h one.piece) ∙ exit_stays g p (state g h) one.piece exited in
    follow_then g h (SweepsWheel g (alone g) n p w) (SweepsWheels g (alone g) n p (suc w) count) one
    (sweep_wheels g (h ++ one.piece) n p (suc w) count checked (legal_with g h (SweepsWheel g (alone g) n p w) legal one) caller gone)

or_self : (x b : Bool) → b ≡ true → (x || (b && true)) ≡ true
or_self true b is = refl
or_self false true is = refl
or_self false false is = let clash : false ≡ true = is in absurd cc

exit_by : (g : Settings) (h : List Entry) (n p : ℕ) → IsChecked g → Legal g h → n < g.callers → p < g.processes → (b : Bool) → (state g h).exited p ≡ b
    → (was_alive : Bool) × CanFollow g h (Exits g (alone g) n p was_alive)
exit_by g h n p checked legal caller process true gone = (
  false,
  record {
    piece = mark_entry (Caller n) p true true ∷ [];
    made = refl;
    legal = (can_mark g (state g h) (Caller n) p true caller process true (sym gone), tt);
    undue = λ idle. subst (λ (z : State). z.clock.due ≡ None) (sym (state-append g h (mark_entry (Caller n) p true true ∷ []))) idle;
  },
)
exit_by g h n p checked legal caller process false alive =
    let mark : Entry = mark_entry (Caller n) p true false in
    let one : CanFollow g h (alone g [] (MarksExit g (Caller n) p true)) = record {
      piece = mark ∷ [];
      made = refl;
      legal = (can_mark g (state g h) (Caller n) p true caller process false (sym alive), tt);
      undue = λ idle. subst (λ (z : State). z.clock.due ≡ None) (sym (state-append g h (mark ∷ []))) idle;
    } in
    let gone : (state g (h ++ mark ∷ [])).exited p ≡ true =
    ap (λ (z : State). z.exited p) (state-append g h (mark ∷ [])) ∙ or_self ((state g h).exited p) (nat_eq p p) (eq-eqb p p refl) in (
      true,
      follow_then g h (alone g [] (MarksExit g (Caller n) p true)) (SweepsWheels g (alone g) n p 0 g.schedulers) one
          (sweep_wheels g (h ++ mark ∷ []) n p 0 g.schedulers checked (legal_with g h (alone g [] (MarksExit g (Caller n) p true)) legal one) caller gone),
    )

pub possible_exit : (g : Settings) (h : List Entry) (n p : ℕ) → IsChecked g → Legal g h → n < g.callers → p < g.processes
    → (was_alive : Bool) × CanFollow g h (Exits g (alone g) n p was_alive)
possible_exit g h n p checked legal caller process = exit_by g h n p checked legal caller process _ refl
