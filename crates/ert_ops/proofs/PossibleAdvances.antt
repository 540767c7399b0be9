-- An advance is possible in each state that a legal history comes to: as long as a timer is due, the earliest one expires.

use Rattle.std.proofs.Common.{◌≡◌, ◌≢◌, ◌⊎◌, inl, inr, ℕ, ℤ, pos, ◌<◌, ◌≤◌, ◌≤ℤ◌, Bool, true, false, cond, nat_lt, nat_le, List, [], ◌∷◌, ◌++◌, All, AllPairs, Option, Some, None, refl, sym, ap, ◌∙◌, subst, arith, eq-eqb}
use Rattle.std.proofs.lemmas.{Int.ints, Bool.Decides.nat_tests, List.Elements.{All-head, All-tail}}
use Rattle.ert_defs.proofs.{ExpiredTimers.{cond_same, same_timer_self}, Rows.Differ}
use Rattle.ert_defs.specs.{Actors.has_actor, Entries.{look_entry, expire_entry, advanced_entry}, Laws.is_armed, Legal.{AllSettled, Can, LegalFrom}, Milliseconds.{natural, down}, States.{State, next, run}, Timers.{Row, row_of, same_timer}}
use Rattle.ert_defs.specs.{Timers.settled_as, declared.entry.Actor.TheVariants.{Wheel, Sched}, declared.entry.Entry.Entry, declared.settings.Settings.Settings, declared.timer.Status.Status, declared.timer.Status.TheVariants.Armed}
use Rattle.ert_defs.specs.{declared.timer.Status.TheVariants.Expired, declared.timer.TimerRef.TimerRef}
use Rattle.ert_effects.specs.WheelCalls.{Try, expiry_entries, hits, AllMissesSettled, IsDueBy, AllDue, IsUntried, AreOnce, HasAdvanced}
use Rattle.ert_laws.proofs.StandingRows.{row_stands}
use Rattle.ert_laws.specs.Ranges.{IsPlaced}
use Rattle.ert_ops.proofs.{Advances.{ExpiresFirst, expires_first, look_stays}, Due.is_armed_some, PossibleCalls.can_look, Reached.{IsReached, milliseconds, reached_next}}
use Rattle.ert_ops.specs.{Existence.IsPossible, PlainTurns.due_rows}

-- the earliest of the rows that are armed and due

pub record IsPicked (status : TimerRef → Option Status) (to : ℕ) (rows : List Row) : Type 0 where
  pub before : List Row
  pub row : Row
  pub behind : List Row
  pub stands : rows ≡ before ++ (row ∷ behind)
  pub armed : status row.timer ≡ Some Armed
  pub low : row.deadline ≤ to
  pub first_before : AllSettled status (λ d. nat_le d row.deadline) before
  pub first_behind : AllSettled status (λ d. nat_lt d row.deadline) behind

settled_weaker : (status : TimerRef → Option Status) (p q : ℕ → Bool) (rows : List Row) → ((d : ℕ) → q d ≡ true → p d ≡ true)
    → AllSettled status p rows → AllSettled status q rows
settled_weaker status p q [] less h = tt
settled_weaker status p q (r ∷ rows) less h = ((λ is. h.0 (less r.deadline is)), settled_weaker status p q rows less h.1)

settled_all : (status : TimerRef → Option Status) (q : ℕ → Bool) (before : List Row) (row : Row) (behind : List Row) → AllSettled status q before
    → (q row.deadline ≡ true → status row.timer ≢ Some Armed) → AllSettled status q behind → AllSettled status q (before ++ (row ∷ behind))
settled_all status q [] row behind h here k = (here, k)
settled_all status q (r ∷ before) row behind h here k = (h.0, settled_all status q before row behind h.1 here k)

with_first : (status : TimerRef → Option Status) (to : ℕ) (x : Row) (xs : List Row) → (p : IsPicked status to xs)
    → (nat_le x.deadline p.row.deadline ≡ true → status x.timer ≢ Some Armed) → IsPicked status to (x ∷ xs)
with_first status to x xs p here = record {
  before = x ∷ p.before;
  row = p.row;
  behind = p.behind;
  stands = ap (λ (l : List Row). x ∷ l) p.stands;
  armed = p.armed;
  low = p.low;
  first_before = (here, p.first_before);
  first_behind = p.first_behind;
}

below_if : (d x y : ℕ) → x ≤ y → nat_lt d x ≡ true → nat_le d y ≡ true
below_if d x y le is = grind (arith, nat_tests)

less_if : (d x y : ℕ) → x ≤ y → nat_lt d x ≡ true → nat_lt d y ≡ true
less_if d x y le is = grind (arith, nat_tests)

-- the first row is armed and due, and another is picked of those behind it
pick_earlier : (status : TimerRef → Option Status) (to : ℕ) (x : Row) (xs : List Row) → status x.timer ≡ Some Armed → x.deadline ≤ to
    → (p : IsPicked status to xs) → (b : Bool) → nat_le x.deadline p.row.deadline ≡ b → IsPicked status to (x ∷ xs)
pick_earlier status to x xs armed low p true is =
    let le : x.deadline ≤ p.row.deadline = grind (arith, nat_tests) in
    record {
      before = [];
      row = x;
      behind = xs;
      stands = refl;
      armed = armed;
      low = low;
      first_before = tt;
      first_behind = subst (AllSettled status (λ d. nat_lt d x.deadline)) (sym p.stands)
          (settled_all status (λ d. nat_lt d x.deadline) p.before p.row p.behind
          (settled_weaker status (λ d. nat_le d p.row.deadline) (λ d. nat_lt d x.deadline) p.before (λ d lt. below_if d x.deadline p.row.deadline le lt) p.first_before)
          (λ lt. let less : p.row.deadline < x.deadline = grind (arith, nat_tests) in absurd (omega arith))
          (settled_weaker status (λ d. nat_lt d p.row.deadline) (λ d. nat_lt d x.deadline) p.behind (λ d lt. less_if d x.deadline p.row.deadline le lt) p.first_behind));
    }
pick_earlier status to x xs armed low p false is = with_first status to x xs p (λ le. let clash : true ≡ false = sym le ∙ is in absurd cc)

abbrev pub Picks : (TimerRef → Option Status) → ℕ → List Row → Type 0
Picks status to rows = AllSettled status (λ d. nat_le d to) rows ⊎ IsPicked status to rows

pick_with : (status : TimerRef → Option Status) (to : ℕ) (x : Row) (xs : List Row) (a b : Bool) → is_armed (status x.timer) ≡ a → nat_le x.deadline to ≡ b
    → Picks status to xs → Picks status to (x ∷ xs)
pick_with status to x xs false b not due (inl settled) =
    inl ((λ _ armed. let clash : true ≡ false = sym (ap is_armed armed) ∙ not in absurd cc), settled)
pick_with status to x xs false b not due (inr p) =
    inr (with_first status to x xs p (λ _ armed. let clash : true ≡ false = sym (ap is_armed armed) ∙ not in absurd cc))
pick_with status to x xs true false armed late (inl settled) = inl ((λ due. let clash : true ≡ false = sym due ∙ late in absurd cc), settled)
pick_with status to x xs true false armed late (inr p) =
    inr (with_first status to x xs p (λ le.
    let low = p.low in
    let due : nat_le x.deadline to ≡ true = grind (arith, nat_tests) in
    let clash : true ≡ false = sym due ∙ late in
    absurd cc))
pick_with status to x xs true true armed due (inl settled) =
    let low : x.deadline ≤ to = grind (arith, nat_tests) in
    inr (record {
      before = [];
      row = x;
      behind = xs;
      stands = refl;
      armed = is_armed_some (status x.timer) armed;
      low = low;
      first_before = tt;
      first_behind = settled_weaker status (λ d. nat_le d to) (λ d. nat_lt d x.deadline) xs (λ d lt. below_if d x.deadline to low lt) settled;
    })
pick_with status to x xs true true armed due (inr p) =
    let low : x.deadline ≤ to = grind (arith, nat_tests) in
    inr (pick_earlier status to x xs (is_armed_some (status x.timer) armed) low p _ refl)

pub pick : (status : TimerRef → Option Status) (to : ℕ) (rows : List Row) → Picks status to rows
pick status to [] = inl tt
pick status to (x ∷ xs) = pick_with status to x xs _ _ refl refl (pick status to xs)

-- it can expire

all_at : (P : Row → Type 0) (before : List Row) (row : Row) (behind : List Row) → All P (before ++ (row ∷ behind)) → P row
all_at P [] row behind all = All-head P row behind all
all_at P (x ∷ before) row behind all = all_at P before row behind (All-tail P x (before ++ (row ∷ behind)) all)

pub expires_can : (g : Settings) (w to : ℕ) (z : State) → w < g.schedulers → IsReached g z → pos to ≡ down g (z.looked (Sched w)) → (p : IsPicked z.status to (z.rows w))
    → Can g z (expire_entry w p.row.timer)
expires_can g w to z sched h is p =
    let placed : IsPlaced g w p.row = all_at (IsPlaced g w) p.before p.row p.behind (subst (All (IsPlaced g w)) p.stands (h.placed w)) in
    let low = p.low in
    let le : pos p.row.deadline ≤ℤ pos to = omega (arith, ints, low) in
    record {
      keeps = (ap Sched (sym placed.wheel), ap (λ (v : ℕ). Some (Wheel v)) (sym placed.wheel), placed.place);
      known = record {
        before = p.before;
        row = p.row;
        behind = p.behind;
        stands = ap z.rows placed.wheel ∙ p.stands;
        named = refl;
        due = subst (λ (x : ℤ). pos p.row.deadline ≤ℤ x) is le;
        first_before = p.first_before;
        first_behind = p.first_behind;
      };
      found = p.armed;
    }

-- all that are due expire, one after the other

abbrev pub AllArmed : (TimerRef → Option Status) → List Try → Type 0
AllArmed status [] = Unit {0}
AllArmed status (t ∷ tries) = (status t.timer ≡ Some Armed) × AllArmed status tries

record AreExpired (g : Settings) (w to : ℕ) (z : State) : Type 0 where
  tries : List Try
  settled : AllMissesSettled tries
  due : AllDue (z.rows w) to tries
  armed : AllArmed z.status tries
  once : AreOnce tries
  legal : LegalFrom g z (expiry_entries w tries ++ advanced_entry w to ∷ [])
  undue : z.clock.due ≡ None → (run g z (expiry_entries w tries ++ advanced_entry w to ∷ [])).clock.due ≡ None

armed_before : (b : Bool) (x : Option Status) → cond b (settled_as Expired x) x ≡ Some Armed → x ≡ Some Armed
armed_before false x is = is
armed_before true None is = let clash : None ≡ Some Armed = is in absurd cc
armed_before true (Some Armed) is = refl
armed_before true (Some _) is = is

pub all_armed_before : (t : TimerRef) (status : TimerRef → Option Status) (tries : List Try)
    → AllArmed (λ r. cond (same_timer t r) (settled_as Expired (status r)) (status r)) tries → AllArmed status tries
all_armed_before t status [] h = tt
all_armed_before t status (u ∷ tries) h = (armed_before (same_timer t u.timer) (status u.timer) h.0, all_armed_before t status tries h.1)

pub untried : (t : TimerRef) (status : TimerRef → Option Status) (tries : List Try) → status t ≡ Some Expired → AllArmed status tries → IsUntried t tries
untried t status [] expired h = tt
untried t status (u ∷ tries) expired h = (
  (λ same. let clash : Some Expired ≡ Some Armed = sym expired ∙ (ap status (sym same) ∙ h.0) in absurd cc),
  untried t status tries expired h.1,
)

one_expires : (g : Settings) (w to : ℕ) (z : State) → w < g.schedulers → IsReached g z → (p : IsPicked z.status to (z.rows w))
    → Can g z (expire_entry w p.row.timer) → AreExpired g w to (next g z (expire_entry w p.row.timer)) → AreExpired g w to z
one_expires g w to z sched h p can more =
    let t : TimerRef = p.row.timer in
    let e : Entry = expire_entry w t in
    let rows : (next g z e).rows w ≡ z.rows w = cond_same (has_actor e (Wheel w)) (z.rows w) in
    let apart : AllPairs Differ (p.before ++ (p.row ∷ p.behind)) = subst (AllPairs Differ) p.stands (h.kept.rows w).apart in
    let here : IsDueBy (z.rows w) to t = record {
      row = p.row;
      stands = ap (λ (l : List Row). row_of l t) p.stands ∙ row_stands p.before p.row p.behind apart;
      due = p.low;
    } in
    let expired : (next g z e).status t ≡ Some Expired =
    ap (λ (b : Bool). cond b (settled_as Expired (z.status t)) (z.status t)) (same_timer_self t) ∙ ap (settled_as Expired) p.armed in
    record {
      tries = (record { timer = t; missed = None }) ∷ more.tries;
      settled = (tt, more.settled);
      due = (here, subst (λ (l : List Row). AllDue l to more.tries) rows more.due);
      armed = (p.armed, all_armed_before t z.status more.tries more.armed);
      once = (untried t (next g z e).status more.tries expired more.armed, more.once);
      legal = (can, more.legal);
      undue = more.undue;
    }

expire_more : (g : Settings) (w to : ℕ) (ys : List Row) (z : State) → w < g.schedulers → IsReached g z → pos to ≡ down g (z.looked (Sched w))
    → due_rows z.status to (z.rows w) ≡ ys → Picks z.status to (z.rows w)
    → ((y : Row) (rest : List Row) → ys ≡ y ∷ rest → (x : State) → IsReached g x → pos to ≡ down g (x.looked (Sched w))
    → due_rows x.status to (x.rows w) ≡ rest → AreExpired g w to x) → AreExpired g w to z
expire_more g w to ys z sched h is due (inl settled) later = record {
  tries = [];
  settled = tt;
  due = tt;
  armed = tt;
  once = tt;
  legal = (record { keeps = (refl, refl, sched); known = (is, settled); found = tt }, tt);
  undue = λ idle. idle;
}
expire_more g w to ys z sched h is due (inr p) later =
    let t : TimerRef = p.row.timer in
    let e : Entry = expire_entry w t in
    let can : Can g z e = expires_can g w to z sched h is p in
    let first : ExpiresFirst g w to t z = expires_first g w to t z h.kept can is in
    one_expires g w to z sched h p can
    (later first.row (due_rows (next g z e).status to ((next g z e).rows w)) (sym due ∙ first.due) (next g z e) (reached_next g z e h can)
    (is ∙ ap (down g) (sym (look_stays w t None g z))) refl)

all_expire : (g : Settings) (w to : ℕ) (ys : List Row) (z : State) → w < g.schedulers → IsReached g z → pos to ≡ down g (z.looked (Sched w))
    → due_rows z.status to (z.rows w) ≡ ys → AreExpired g w to z
all_expire g w to [] z sched h is due =
    expire_more g w to [] z sched h is due (pick z.status to (z.rows w)) (λ y rest same. let clash : [] ≡ y ∷ rest = same in absurd cc)
all_expire g w to (y ∷ ys) z sched h is due =
    expire_more g w to (y ∷ ys) z sched h is due (pick z.status to (z.rows w))
    (λ x rest same s reached_s is_s due_s. let rest_is : rest ≡ ys = cc in all_expire g w to ys s sched reached_s is_s (due_s ∙ rest_is))

pub possible_advance : (g : Settings) (s : State) (w : ℕ) → IsReached g s → w < g.schedulers
    → (answer : ℕ × ℕ) × IsPossible g s (HasAdvanced w answer)
possible_advance g s w h sched =
    let look : Entry = look_entry (Sched w) s.clock.now in
    let z : State = next g s look in
    let to : ℕ = natural (down g s.clock.now) in
    let looked : z.looked (Sched w) ≡ s.clock.now = ap (λ (b : Bool). cond b s.clock.now (s.looked (Sched w))) (eq-eqb w w refl) in
    let can : Can g s look = can_look g s (Sched w) sched in
    let all = all_expire g w to (due_rows z.status to (z.rows w)) z sched (reached_next g s look h can)
    ((milliseconds g s h).is ∙ ap (down g) (sym looked)) refl in (
      (to, hits all.tries),
      record {
        entries = look ∷ (expiry_entries w all.tries ++ advanced_entry w to ∷ []);
        allowed = record {
          now = s.clock.now;
          tries = all.tries;
          expired = refl;
          settled = all.settled;
          due = all.due;
          once = all.once;
          entries = refl;
        };
        legal = (can, all.legal);
        undue = all.undue;
      },
    )
