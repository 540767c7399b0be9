-- An advance: the timers that expire are the due ones, in order of deadline and then of starting, whatever
-- else was tried.

use Rattle.std.proofs.Common.{◌≡◌, ◌≢◌, ℕ, ℤ, pos, ◌≤◌, ◌≤ℤ◌, Bool, true, false, cond, ◌&&◌, nat_eq, nat_le, List, [], ◌∷◌, ◌++◌, All, AllPairs, length, Option, Some, None, refl, sym, ap, ◌∙◌, subst, arith, eq-eqb}
use Rattle.std.proofs.lemmas.{Int.ints, Bool.Decides.nat_tests, List.Elements.{All-head, All-tail}}
use Rattle.ert_effects.specs.WheelCalls.{Try, expires_by, expiry_entries, hits, HasAdvanced}
use Rattle.ert_defs.proofs.{ExpiredTimers.{cond_same, same_timer_self, same_timer-false}, Lists.{pairs_head, pairs_tail}, Rows.Differ}
use Rattle.ert_defs.specs.{Actors.has_actor, Clocks.Clock, Entries.{look_entry, expire_entry, probe_entry, advanced_entry}, Laws.is_armed, Legal.{Can, IsNext, LegalFrom}, Milliseconds.{down, natural}, States.{State, next, run}, Timers.Row}
use Rattle.ert_defs.specs.{Timers.{same_timer, settled_as}, declared.entry.Actor.TheVariants.{Wheel, Sched}, declared.entry.Entry.Entry, declared.settings.Settings.Settings, declared.timer.Status.Status}
use Rattle.ert_defs.specs.{declared.timer.Status.TheVariants.Expired, declared.timer.TimerRef.TimerRef}
use Rattle.ert_laws.proofs.StandingRows.{differs_from}
use Rattle.ert_ops.proofs.{Bound.IsName, Due.{IsFirstDue, SameArmed, due_first, due_none, due_pairs}, Meets.{IsKept, Meets, meets_next, meets_probed}, Shown.{Pairs, SameRow}, Steps.{as_look, as_expire, as_advanced}}
use Rattle.ert_ops.specs.{Labels.Labels, PlainTurns.{due_rows, expiries, advance_now}}

-- the milliseconds of the record are those of the look

pub look_stays : (w : ℕ) (timer : TimerRef) (missed : Option (Option Status)) (g : Settings) (z : State)
    → (next g z (expires_by w timer missed)).looked (Sched w) ≡ z.looked (Sched w)
look_stays w timer None g z = cond_same (nat_eq w w) (z.looked (Sched w))
look_stays w timer (Some found) g z = cond_same (nat_eq w w) (z.looked (Sched w))

to_is : (g : Settings) (w to : ℕ) (tries : List Try) (z : State) → LegalFrom g z (expiry_entries w tries ++ advanced_entry w to ∷ [])
    → pos to ≡ down g (z.looked (Sched w))
to_is g w to [] z legal = legal.0.known.0
to_is g w to (t ∷ tries) z legal =
    to_is g w to tries (next g z (expires_by w t.timer t.missed)) legal.1 ∙ ap (down g) (look_stays w t.timer t.missed g z)

-- the timer that expires is the first that is due

other_armed : (t r : TimerRef) (x : Option Status) → r ≢ t → is_armed x ≡ is_armed (cond (same_timer t r) (settled_as Expired x) x)
other_armed t r x apart = sym (ap (λ (b : Bool). is_armed (cond b (settled_as Expired x) x)) (same_timer-false t r (λ same. apart (sym same))))

-- the statuses after a timer has expired
abbrev status_after_expiry : TimerRef → (TimerRef → Option Status) → TimerRef → Option Status
status_after_expiry t status r = cond (same_timer t r) (settled_as Expired (status r)) (status r)

others_before : (t : TimerRef) (status : TimerRef → Option Status) (before : List Row) (row : Row) (behind : List Row) → row.timer ≡ t
    → AllPairs Differ (before ++ (row ∷ behind)) → SameArmed status (status_after_expiry t status) before
others_before t status [] row behind named apart = tt
others_before t status (x ∷ before) row behind named apart = (
  other_armed t x.timer (status x.timer)
      (λ same. differs_from x before row behind (pairs_head Differ x (before ++ (row ∷ behind)) apart) (same ∙ sym named)),
  others_before t status before row behind named (pairs_tail Differ x (before ++ (row ∷ behind)) apart),
)

all_others : (t : TimerRef) (status : TimerRef → Option Status) (row : Row) (xs : List Row) → row.timer ≡ t → All (Differ row) xs
    → SameArmed status (status_after_expiry t status) xs
all_others t status row [] named all = tt
all_others t status row (x ∷ xs) named all = (
  other_armed t x.timer (status x.timer) (λ same. All-head (Differ row) x xs all (named ∙ sym same)),
  all_others t status row xs named (All-tail (Differ row) x xs all),
)

others_behind : (t : TimerRef) (status : TimerRef → Option Status) (before : List Row) (row : Row) (behind : List Row) → row.timer ≡ t
    → AllPairs Differ (before ++ (row ∷ behind)) → SameArmed status (status_after_expiry t status) behind
others_behind t status [] row behind named apart = all_others t status row behind named (pairs_head Differ row behind apart)
others_behind t status (x ∷ before) row behind named apart =
    others_behind t status before row behind named (pairs_tail Differ x (before ++ (row ∷ behind)) apart)

and-gone : (b : Bool) → (b && false) ≡ false
and-gone true = refl
and-gone false = refl

-- a row of a wheel expires, and the due ones are it and those that are due then
pub record ExpiresFirst (g : Settings) (w to : ℕ) (t : TimerRef) (z : State) : Type 0 where
  pub row : Row
  pub named : row.timer ≡ t
  pub due : due_rows z.status to (z.rows w) ≡ row ∷ due_rows (next g z (expire_entry w t)).status to ((next g z (expire_entry w t)).rows w)

due_at_look : (g : Settings) (to d : ℕ) (look : ℤ) → pos to ≡ down g look → pos d ≤ℤ down g look → nat_le d to ≡ true
due_at_look g to d look is due =
    let le : pos d ≤ℤ pos to = subst (λ (x : ℤ). pos d ≤ℤ x) (sym is) due in
    let low : d ≤ to = omega (arith, ints) in
    grind (arith, nat_tests)

expires_here : (g : Settings) (to : ℕ) (t : TimerRef) (z : State) → IsKept z → Can g z (expire_entry t.wheel t) → pos to ≡ down g (z.looked (Sched t.wheel))
    → ExpiresFirst g t.wheel to t z
expires_here g to t z kept can is =
    let known : IsNext g z (Sched t.wheel) t = can.known in
    let row : Row = known.row in
    let rows : z.rows t.wheel ≡ known.before ++ (row ∷ known.behind) = known.stands in
    let apart : AllPairs Differ (known.before ++ (row ∷ known.behind)) = subst (AllPairs Differ) rows (kept.rows t.wheel).apart in
    let armed : is_armed (z.status row.timer) ≡ true = ap (λ (x : TimerRef). is_armed (z.status x)) known.named ∙ ap is_armed can.found in
    let due : nat_le row.deadline to ≡ true = due_at_look g to row.deadline (z.looked (Sched t.wheel)) is known.due in
    let later : TimerRef → Option Status = status_after_expiry t z.status in
    let over : is_armed (later row.timer) ≡ false =
    ap (λ (x : TimerRef). is_armed (later x)) known.named
    ∙ ap (λ (b : Bool). is_armed (cond b (settled_as Expired (z.status t)) (z.status t))) (same_timer_self t)
    ∙ ap (λ (x : Option Status). is_armed (settled_as Expired x)) can.found in
    let first : IsFirstDue z.status later to known.before row known.behind = record {
      due = ap (λ (b : Bool). b && is_armed (z.status row.timer)) due ∙ armed;
      gone = ap (λ (b : Bool). nat_le row.deadline to && b) over ∙ and-gone (nat_le row.deadline to);
      same_before = others_before t z.status known.before row known.behind known.named apart;
      same_behind = others_behind t z.status known.before row known.behind known.named apart;
      first_before = known.first_before;
      first_behind = known.first_behind;
    } in
    let after : (next g z (expire_entry t.wheel t)).rows t.wheel ≡ known.before ++ (row ∷ known.behind) =
    cond_same (has_actor (expire_entry t.wheel t) (Wheel t.wheel)) (z.rows t.wheel) ∙ rows in
    record {
      row = row;
      named = known.named;
      due = ap (due_rows z.status to) rows ∙ due_first z.status later to known.before row known.behind first
          ∙ ap (λ (xs : List Row). row ∷ due_rows later to xs) (sym after);
    }

wheel_of : (w v : ℕ) → Sched w ≡ Sched v → v ≡ w
wheel_of w v is = cc

pub expires_first : (g : Settings) (w to : ℕ) (t : TimerRef) (z : State) → IsKept z → Can g z (expire_entry w t) → pos to ≡ down g (z.looked (Sched w))
    → ExpiresFirst g w to t z
expires_first g w to t z kept can is =
    let P : ℕ → Type 0 = λ v. Can g z (expire_entry v t) → pos to ≡ down g (z.looked (Sched v)) → ExpiresFirst g v to t z in
    subst P (wheel_of w t.wheel can.keeps.0) (expires_here g to t z kept) can is

-- the tries and the record, beside the expiries of as many rows

pub record AreTried (g : Settings) (n : ℕ) (ls : Labels) (w to : ℕ) (tries : List Try) (z c : State) (ys : List Row) : Type 0 where
  pub expired : hits tries ≡ length ys
  pub meets : Meets g n ls (run g z (expiry_entries w tries ++ advanced_entry w to ∷ [])) (run g c (expiries w ys ++ advanced_entry w to ∷ []))

none_tried : (g : Settings) (n : ℕ) (ls : Labels) (w to : ℕ) (z c : State) (ys : List Row) → Meets g n ls z c → Can g z (advanced_entry w to)
    → Pairs (SameRow (IsName g ls)) [] ys → AreTried g n ls w to [] z c ys
none_tried g n ls w to z c [] h can same = record { expired = refl; meets = meets_next g n ls (as_advanced w to) (Sched w) (Some (Wheel w)) z c h can }
none_tried g n ls w to z c (y ∷ ys) h can same = absurd same

hit_tried : (g : Settings) (n : ℕ) (ls : Labels) (w to : ℕ) (t : TimerRef) (tries : List Try) (z c : State) (row : Row) (rest ys : List Row) → Meets g n ls z c
    → Can g z (expire_entry w t) → row.timer ≡ t → Pairs (SameRow (IsName g ls)) (row ∷ rest) ys
    → ((d : State) (ws : List Row) → Meets g n ls (next g z (expire_entry w t)) d → Pairs (SameRow (IsName g ls)) rest ws
    → AreTried g n ls w to tries (next g z (expire_entry w t)) d ws)
    → AreTried g n ls w to ((record { timer = t; missed = None }) ∷ tries) z c ys
hit_tried g n ls w to t tries z c row rest [] h can named same later = absurd same
hit_tried g n ls w to t tries z c row rest (y ∷ ys) h can named same later =
    let name : IsName g ls t y.timer = subst (λ (x : TimerRef). IsName g ls x y.timer) named same.0.timer in
    let after = meets_next g n ls (as_expire t y.timer name) (Sched w) (Some (Wheel w)) z c h can in
    let more = later (next g c (expire_entry w y.timer)) ys after same.1 in
    record { expired = omega (arith, more.expired); meets = more.meets }

abbrev TriedLater : Settings → ℕ → Labels → ℕ → ℕ → List Try → Type 0
TriedLater g n ls w to tries =
    (z c : State) (ys : List Row) → Meets g n ls z c → LegalFrom g z (expiry_entries w tries ++ advanced_entry w to ∷ [])
    → pos to ≡ down g (z.looked (Sched w)) → Pairs (SameRow (IsName g ls)) (due_rows z.status to (z.rows w)) ys → AreTried g n ls w to tries z c ys

one_tried : (g : Settings) (n : ℕ) (ls : Labels) (w to : ℕ) (t : TimerRef) (missed : Option (Option Status)) (tries : List Try) → TriedLater g n ls w to tries
    → TriedLater g n ls w to ((record { timer = t; missed = missed }) ∷ tries)
one_tried g n ls w to t None tries later z c ys h legal is same =
    let first = expires_first g w to t z h.kept legal.0 is in
    let later_look : pos to ≡ down g ((next g z (expire_entry w t)).looked (Sched w)) = is ∙ ap (down g) (sym (look_stays w t None g z)) in
    hit_tried g n ls w to t tries z c first.row (due_rows (next g z (expire_entry w t)).status to ((next g z (expire_entry w t)).rows w)) ys h legal.0 first.named
    (subst (λ (xs : List Row). Pairs (SameRow (IsName g ls)) xs ys) first.due same)
    (λ d ws after pairs. later (next g z (expire_entry w t)) d ws after legal.1 later_look pairs)
one_tried g n ls w to t (Some found) tries later z c ys h legal is same =
    let probe : Entry = probe_entry (Sched w) w t.slot found in
    let after = meets_probed g n ls (Sched w) w t.slot found z c h legal.0 in
    let later_look : pos to ≡ down g ((next g z probe).looked (Sched w)) = is ∙ ap (down g) (sym (look_stays w t (Some found) g z)) in
    let rows : (next g z probe).rows w ≡ z.rows w = cond_same (has_actor probe (Wheel w)) (z.rows w) in
    let more = later (next g z probe) c ys after legal.1 later_look
    (subst (λ (xs : List Row). Pairs (SameRow (IsName g ls)) (due_rows z.status to xs) ys) (sym rows) same) in
    record { expired = omega (arith, more.expired); meets = more.meets }

all_tried : (g : Settings) (n : ℕ) (ls : Labels) (w to : ℕ) (tries : List Try) → TriedLater g n ls w to tries
all_tried g n ls w to [] z c ys h legal is same =
    none_tried g n ls w to z c ys h legal.0
    (subst (λ (xs : List Row). Pairs (SameRow (IsName g ls)) xs ys) (due_none z.status to (z.rows w) legal.0.known.1) same)
all_tried g n ls w to (t ∷ tries) z c ys h legal is same =
    one_tried g n ls w to t.timer t.missed tries (all_tried g n ls w to tries) z c ys h legal is same

-- an advance of both
pub record AreAdvanced (g : Settings) (n : ℕ) (ls : Labels) (w to expired : ℕ) (s c : State) (es : List Entry) : Type 0 where
  pub to_is : to ≡ (advance_now g c w).to
  pub expired_is : expired ≡ (advance_now g c w).expired
  pub meets : Meets g n ls (run g s es) (run g c (advance_now g c w).entries)

pub advance_meets : (g : Settings) (n : ℕ) (ls : Labels) (w to expired : ℕ) (s c : State) (es : List Entry) → Meets g n ls s c → LegalFrom g s es
    → HasAdvanced w (to, expired) s es → AreAdvanced g n ls w to expired s c es
advance_meets g n ls w to expired s c es h legal does =
    let lawful = subst (λ (x : List Entry). LegalFrom g s x) does.entries legal in
    let time : does.now ≡ c.clock.now = lawful.0.found ∙ ap (λ (k : Clock). k.now) h.shows.clock in
    let z : State = next g s (look_entry (Sched w) does.now) in
    let look = meets_next g n ls (as_look does.now) (Sched w) None s c h lawful.0 in
    let own : z.looked (Sched w) ≡ does.now = ap (λ (b : Bool). cond b does.now (s.looked (Sched w))) (eq-eqb w w refl) in
    let at_look : pos to ≡ down g (z.looked (Sched w)) = to_is g w to does.tries z lawful.1 in
    let same : to ≡ natural (down g c.clock.now) = ap natural (at_look ∙ ap (down g) (own ∙ time)) in
    let plain : State = next g c (look_entry (Sched w) does.now) in
    let ys : List Row = due_rows plain.status to (plain.rows w) in
    let tried = all_tried g n ls w to does.tries z plain ys look lawful.1 at_look
    (due_pairs (IsName g ls) z.status plain.status to look.shows.status (z.rows w) (plain.rows w) (look.shows.rows w)) in
    let P : List Row → ℕ → ℤ → Type 0 = λ xs k now.
    Meets g n ls (run g s (look_entry (Sched w) does.now ∷ (expiry_entries w does.tries ++ advanced_entry w to ∷ [])))
    (run g c (look_entry (Sched w) now ∷ (expiries w xs ++ advanced_entry w k ∷ []))) in
    record {
      to_is = same;
      expired_is = does.expired ∙ tried.expired ∙ ap (λ (k : ℕ). length (due_rows c.status k (c.rows w))) same;
      meets = subst (λ (x : List Entry). Meets g n ls (run g s x) (run g c (advance_now g c w).entries)) (sym does.entries)
          (subst (λ (k : ℕ). P (due_rows c.status k (c.rows w)) k c.clock.now) same
          (subst (λ (now : ℤ). P (due_rows c.status to (c.rows w)) to now) time tried.meets));
    }
