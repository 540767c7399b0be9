-- A sweep of a wheel for a process: in whatever order its timers are cancelled, and whatever else was looked
-- at, both services end with the same statuses.

use Rattle.std.proofs.Common.{◌≡◌, ◌≢◌, ℕ, Bool, true, false, cond, ◌&&◌, ◌||◌, nat_eq, List, [], ◌∷◌, map, filter, Option, Some, None, refl, sym, ap, ◌∙◌, subst, arith, eqb-true, eq-eqb}
use Rattle.std.proofs.lemmas.Bool.{and_parts}
use Rattle.ert_effects.specs.WheelCalls.{Try, orphans_by, orphan_entries, MaySweep, AllMaySweep, Sweeps, AreSwept, IsSwept}
use Rattle.ert_defs.proofs.{ExpiredTimers.cond_same, Runs.kept_from, Slots.same_timer-true}
use Rattle.ert_defs.specs.{Actors.{same_actor, has_actor}, Entries.{orphan_entry, probe_entry}, Laws.is_armed, Legal.LegalFrom, Mails.{MailState, SchedState}, States.{State, next, run}, Timers.{Row, row_of, same_timer, settled_as}}
use Rattle.ert_defs.specs.{declared.entry.Actor.Actor, declared.entry.Actor.TheVariants.{Wheel, Caller}, declared.entry.Entry.Entry, declared.mail.Request.Request, declared.settings.Settings.Settings, declared.timer.Status.Status}
use Rattle.ert_defs.specs.{declared.timer.Status.TheVariants.{Armed, Orphaned}, declared.timer.TimerRef.TimerRef}
use Rattle.ert_ops.proofs.{Bound.{IsName, names_are}, Meets.{IsKept, Meets, few_same, kept_next, used_later}, Shown.{Names, AreNames, Pairs, SameRow, SameRequest, SameMails, SameSched, Shows}}
use Rattle.ert_ops.specs.{Labels.Labels, PlainMail.{is_swept, orphans}}

-- all but the statuses stay
pub record SameRest (s z : State) : Type 0 where
  pub clock : z.clock ≡ s.clock
  pub looked : (a : Actor) → z.looked a ≡ s.looked a
  pub exited : (p : ℕ) → z.exited p ≡ s.exited p
  pub rows : (w : ℕ) → z.rows w ≡ s.rows w
  pub last : (w k : ℕ) → z.last w k ≡ s.last w k
  pub mails : (p : ℕ) → z.mails p ≡ s.mails p
  pub inboxes : (w : ℕ) → z.inboxes w ≡ s.inboxes w
  pub scheds : (w : ℕ) → z.scheds w ≡ s.scheds w

rest_self : (s : State) → SameRest s s
rest_self s = record {
  clock = refl;
  looked = λ a. refl;
  exited = λ p. refl;
  rows = λ w. refl;
  last = λ w k. refl;
  mails = λ p. refl;
  inboxes = λ w. refl;
  scheds = λ w. refl;
}

rest_then : (s z x : State) → SameRest s z → SameRest z x → SameRest s x
rest_then s z x h k = record {
  clock = k.clock ∙ h.clock;
  looked = λ a. k.looked a ∙ h.looked a;
  exited = λ p. k.exited p ∙ h.exited p;
  rows = λ w. k.rows w ∙ h.rows w;
  last = λ w j. k.last w j ∙ h.last w j;
  mails = λ p. k.mails p ∙ h.mails p;
  inboxes = λ w. k.inboxes w ∙ h.inboxes w;
  scheds = λ w. k.scheds w ∙ h.scheds w;
}

rest_tried : (g : Settings) (w : ℕ) (timer : TimerRef) (missed : Option (Option Status)) (s : State) → SameRest s (next g s (orphans_by 0 w timer missed))
rest_tried g w timer None s =
    let e : Entry = orphan_entry 0 w timer in
    record {
      clock = refl;
      looked = λ a. cond_same (same_actor (Caller 0) a) (s.looked a);
      exited = λ p. refl;
      rows = λ v. cond_same (has_actor e (Wheel v)) (s.rows v);
      last = λ v j. cond_same (has_actor e (Wheel v)) (s.last v j);
      mails = λ p. refl;
      inboxes = λ v. refl;
      scheds = λ v. refl;
    }
rest_tried g w timer (Some found) s =
    let e : Entry = probe_entry (Caller 0) w timer.slot found in
    record {
      clock = refl;
      looked = λ a. cond_same (same_actor (Caller 0) a) (s.looked a);
      exited = λ p. refl;
      rows = λ v. cond_same (has_actor e (Wheel v)) (s.rows v);
      last = λ v j. cond_same (has_actor e (Wheel v)) (s.last v j);
      mails = λ p. refl;
      inboxes = λ v. refl;
      scheds = λ v. refl;
    }

-- a status after a sweep, of a timer that is swept or not
abbrev settle : Bool → Option Status → Option Status
settle b x = cond b (settled_as Orphaned x) x

settle_twice : (x : Option Status) → settled_as Orphaned (settled_as Orphaned x) ≡ settled_as Orphaned x
settle_twice (Some Armed) = refl
settle_twice None = refl
settle_twice (Some _) = refl

settled_stays : (x : Option Status) → x ≢ Some Armed → settled_as Orphaned x ≡ x
settled_stays (Some Armed) not = absurd (not refl)
settled_stays None not = refl
settled_stays (Some _) not = refl

-- whether a timer has a row for the process
abbrev has_row : ℕ → TimerRef → List Row → Bool
has_row p r [] = false
has_row p r (x ∷ xs) = (nat_eq x.dest p && same_timer x.timer r) || has_row p r xs

or_later : (a : Bool) → (a || true) ≡ true
or_later true = refl
or_later false = refl

row_at : (p : ℕ) (t : TimerRef) (x row : Row) (rest : Option Row) (more : Bool) (b : Bool) → same_timer x.timer t ≡ b → cond b (Some x) rest ≡ Some row → row.dest ≡ p
    → (rest ≡ Some row → more ≡ true) → ((nat_eq x.dest p && same_timer x.timer t) || more) ≡ true
row_at p t x row rest more true same is dest later =
    let own : x ≡ row = let e : Some x ≡ Some row = is in cc in
    let goes : nat_eq x.dest p ≡ true = eq-eqb x.dest p (ap (λ (r : Row). r.dest) own ∙ dest) in
    ap (λ (b : Bool). (b && same_timer x.timer t) || more) goes ∙ ap (λ (b : Bool). b || more) same
row_at p t x row rest more false same is dest later =
    ap (λ (b : Bool). (nat_eq x.dest p && same_timer x.timer t) || b) (later is) ∙ or_later (nat_eq x.dest p && same_timer x.timer t)

row_for : (p : ℕ) (t : TimerRef) (xs : List Row) (row : Row) → row_of xs t ≡ Some row → row.dest ≡ p → has_row p t xs ≡ true
row_for p t [] row is dest = let clash : None ≡ Some row = is in cc
row_for p t (x ∷ xs) row is dest =
    row_at p t x row (row_of xs t) (has_row p t xs) (same_timer x.timer t) refl is dest (λ found. row_for p t xs row found dest)

-- a timer for the process is cancelled: after the sweep that is as if it had not been

moves_within : (b same : Bool) (x : Option Status) → (same ≡ true → b ≡ true) → settle b (cond same (settled_as Orphaned x) x) ≡ settle b x
moves_within true true x within = settle_twice x
moves_within false true x within = let clash : false ≡ true = within refl in cc
moves_within b false x within = refl

swept_one : (g : Settings) (w p : ℕ) (rows : List Row) (timer : TimerRef) (missed : Option (Option Status)) (z : State) (r : TimerRef) → MaySweep rows p timer missed
    → settle (has_row p r rows) ((next g z (orphans_by 0 w timer missed)).status r) ≡ settle (has_row p r rows) (z.status r)
swept_one g w p rows timer None z r may =
    moves_within (has_row p r rows) (same_timer timer r) (z.status r)
    (λ is. subst (λ (t : TimerRef). has_row p t rows ≡ true) (same_timer-true timer r is) (row_for p timer rows may.0.row may.0.stands may.0.dest))
swept_one g w p rows timer (Some found) z r may = refl

-- all tries of a sweep
pub record AreTriedAll (g : Settings) (w p : ℕ) (rows : List Row) (z : State) (es : List Entry) : Type 0 where
  pub rest : SameRest z (run g z es)
  pub status : (r : TimerRef) → settle (has_row p r rows) ((run g z es).status r) ≡ settle (has_row p r rows) (z.status r)

tried_all : (g : Settings) (w p : ℕ) (rows : List Row) (tries : List Try) (z : State) → AllMaySweep rows p tries → AreTriedAll g w p rows z (orphan_entries 0 w tries)
tried_all g w p rows [] z may = record { rest = rest_self z; status = λ r. refl }
tried_all g w p rows (t ∷ tries) z may =
    let x : State = next g z (orphans_by 0 w t.timer t.missed) in
    let more = tried_all g w p rows tries x may.1 in
    record {
      rest = rest_then z x (run g x (orphan_entries 0 w tries)) (rest_tried g w t.timer t.missed z) more.rest;
      status = λ r. more.status r ∙ swept_one g w p rows t.timer t.missed z r may.0;
    }

-- at its end no timer for the process is armed

swept_row : (status : TimerRef → Option Status) (p : ℕ) (r : TimerRef) (x : Row) (a b : Bool) → nat_eq x.dest p ≡ a → same_timer x.timer r ≡ b
    → (x.dest ≡ p → status x.timer ≢ Some Armed) → (a && b) ≡ true → status r ≢ Some Armed
swept_row status p r x true true dest same not both =
    subst (λ (t : TimerRef). status t ≢ Some Armed) (same_timer-true x.timer r same) (not (eqb-true x.dest p dest))
swept_row status p r x true false dest same not both = let clash : false ≡ true = both in cc
swept_row status p r x false b dest same not both = let clash : false ≡ true = both in cc

one_of_two : (a b : Bool) (P : Type 0) → (a || b) ≡ true → (a ≡ true → P) → (b ≡ true → P) → P
one_of_two true b P is one other = one refl
one_of_two false b P is one other = other is

swept_not_armed : (status : TimerRef → Option Status) (p : ℕ) (r : TimerRef) (xs : List Row) → AreSwept status p xs → has_row p r xs ≡ true → status r ≢ Some Armed
swept_not_armed status p r [] swept has = let clash : false ≡ true = has in cc
swept_not_armed status p r (x ∷ xs) swept has =
    one_of_two (nat_eq x.dest p && same_timer x.timer r) (has_row p r xs) (status r ≢ Some Armed) has
    (λ both. swept_row status p r x (nat_eq x.dest p) (same_timer x.timer r) refl refl swept.0 both)
    (λ later. swept_not_armed status p r xs swept.1 later)

settled_by : (b : Bool) (x : Option Status) → (b ≡ true → x ≢ Some Armed) → settle b x ≡ x
settled_by true x not = settled_stays x (not refl)
settled_by false x not = refl

swept_status : (status : TimerRef → Option Status) (p : ℕ) (r : TimerRef) (xs : List Row) → AreSwept status p xs → settle (has_row p r xs) (status r) ≡ status r
swept_status status p r xs swept = settled_by (has_row p r xs) (status r) (swept_not_armed status p r xs swept)

-- the plain service

abbrev is_named : TimerRef → List Row → Bool
is_named n [] = false
is_named n (y ∷ ys) = same_timer y.timer n || is_named n ys

abbrev orphans_of : ℕ → List Row → List Entry
orphans_of w ys = map (λ (r : Row). orphan_entry 0 w r.timer) ys

settled_in_turn : (a b : Bool) (x : Option Status) → settle b (settle a x) ≡ settle (a || b) x
settled_in_turn true true x = settle_twice x
settled_in_turn true false x = refl
settled_in_turn false b x = refl

pub record AreOrphaned (g : Settings) (w : ℕ) (c : State) (ys : List Row) : Type 0 where
  pub rest : SameRest c (run g c (orphans_of w ys))
  pub status : (n : TimerRef) → (run g c (orphans_of w ys)).status n ≡ settle (is_named n ys) (c.status n)

orphaned_all : (g : Settings) (w : ℕ) (ys : List Row) (c : State) → AreOrphaned g w c ys
orphaned_all g w [] c = record { rest = rest_self c; status = λ n. refl }
orphaned_all g w (y ∷ ys) c =
    let d : State = next g c (orphan_entry 0 w y.timer) in
    let more = orphaned_all g w ys d in
    record {
      rest = rest_then c d (run g d (orphans_of w ys)) (rest_tried g w y.timer None c) more.rest;
      status = λ n. more.status n ∙ settled_in_turn (same_timer y.timer n) (is_named n ys) (c.status n);
    }

-- of the rows for the process those are swept that are armed, and the others are settled

not_both : (dest armed same : Bool) → (dest && armed) ≡ false → (same ≡ true → armed ≡ true) → (dest && same) ≡ false
not_both true true same is own = let clash : true ≡ false = is in cc
not_both true false true is own = let clash : false ≡ true = own refl in cc
not_both true false false is own = refl
not_both false armed same is own = refl

swept_here : (status : TimerRef → Option Status) (p : ℕ) (n : TimerRef) (y : Row) (b : Bool) (rest : List Row) → status n ≡ Some Armed → is_swept status p y ≡ b
    → is_named n (cond b (y ∷ rest) rest) ≡ ((nat_eq y.dest p && same_timer y.timer n) || is_named n rest)
swept_here status p n y true rest armed is =
    let dest : nat_eq y.dest p ≡ true = (and_parts (nat_eq y.dest p) (is_armed (status y.timer)) is).0 in
    sym (ap (λ (b : Bool). (b && same_timer y.timer n) || is_named n rest) dest)
swept_here status p n y false rest armed is =
    let none : (nat_eq y.dest p && same_timer y.timer n) ≡ false =
    not_both (nat_eq y.dest p) (is_armed (status y.timer)) (same_timer y.timer n) is
    (λ same. ap (λ (t : TimerRef). is_armed (status t)) (same_timer-true y.timer n same) ∙ ap is_armed armed) in
    sym (ap (λ (b : Bool). b || is_named n rest) none)

named_swept : (status : TimerRef → Option Status) (p : ℕ) (n : TimerRef) (ys : List Row) → status n ≡ Some Armed
    → is_named n (filter (is_swept status p) ys) ≡ has_row p n ys
named_swept status p n [] armed = refl
named_swept status p n (y ∷ ys) armed =
    swept_here status p n y (is_swept status p y) (filter (is_swept status p) ys) armed refl
    ∙ ap (λ (b : Bool). (nat_eq y.dest p && same_timer y.timer n) || b) (named_swept status p n ys armed)

armed_or : (x : Option Status) (P : Type 0) → (x ≡ Some Armed → P) → (x ≢ Some Armed → P) → P
armed_or (Some Armed) P yes_case other = yes_case refl
armed_or None P yes_case other = other (λ e. cc)
armed_or (Some _) P yes_case other = other (λ e. cc)

settled_alike : (status : TimerRef → Option Status) (p : ℕ) (n : TimerRef) (ys : List Row)
    → settle (is_named n (filter (is_swept status p) ys)) (status n) ≡ settle (has_row p n ys) (status n)
settled_alike status p n ys =
    armed_or (status n) (settle (is_named n (filter (is_swept status p) ys)) (status n) ≡ settle (has_row p n ys) (status n))
    (λ armed. ap (λ (b : Bool). settle b (status n)) (named_swept status p n ys armed))
    (λ not. settled_by (is_named n (filter (is_swept status p) ys)) (status n) (λ _. not) ∙ sym (settled_by (has_row p n ys) (status n) (λ _. not)))

-- both have the same rows for the process

has_pairs : (R : Names) → AreNames R → (p : ℕ) (r n : TimerRef) → R r n → (xs ys : List Row) → Pairs (SameRow R) xs ys → has_row p r xs ≡ has_row p n ys
has_pairs R names p r n is [] [] h = refl
has_pairs R names p r n is (x ∷ xs) (y ∷ ys) h =
    let timer : same_timer y.timer n ≡ same_timer x.timer r = names.same x.timer y.timer r n h.0.timer is in
    let dest : nat_eq x.dest p ≡ nat_eq y.dest p = ap (λ (d : ℕ). nat_eq d p) h.0.dest in
    let rest : has_row p r xs ≡ has_row p n ys = has_pairs R names p r n is xs ys h.1 in
    ap (λ (b : Bool). (b && same_timer x.timer r) || has_row p r xs) dest
    ∙ ap (λ (b : Bool). (nat_eq y.dest p && b) || has_row p r xs) (sym timer)
    ∙ ap (λ (b : Bool). (nat_eq y.dest p && same_timer y.timer n) || b) rest
has_pairs R names p r n is [] (y ∷ ys) h = absurd h
has_pairs R names p r n is (x ∷ xs) [] h = absurd h

shows_rest : (R : Names) (s c z d : State) → Shows R s c → SameRest s z → SameRest c d → ((r n : TimerRef) → R r n → z.status r ≡ d.status n) → Shows R z d
shows_rest R s c z d h one other status = record {
  clock = one.clock ∙ h.clock ∙ sym other.clock;
  looked = λ a. one.looked a ∙ h.looked a ∙ sym (other.looked a);
  exited = λ p. one.exited p ∙ h.exited p ∙ sym (other.exited p);
  rows = λ w. subst (λ (xs : List Row). Pairs (SameRow R) xs (d.rows w)) (sym (one.rows w))
      (subst (λ (ys : List Row). Pairs (SameRow R) (s.rows w) ys) (sym (other.rows w)) (h.rows w));
  mails = λ p. subst (λ (x : MailState). SameMails R x (d.mails p)) (sym (one.mails p))
      (subst (λ (y : MailState). SameMails R (s.mails p) y) (sym (other.mails p)) (h.mails p));
  inboxes = λ w. subst (λ (xs : List Request). Pairs (SameRequest R) xs (d.inboxes w)) (sym (one.inboxes w))
      (subst (λ (ys : List Request). Pairs (SameRequest R) (s.inboxes w) ys) (sym (other.inboxes w)) (h.inboxes w));
  scheds = λ w. subst (λ (x : SchedState). SameSched R x (d.scheds w)) (sym (one.scheds w))
      (subst (λ (y : SchedState). SameSched R (s.scheds w) y) (sym (other.scheds w)) (h.scheds w));
  status = status;
}

-- a sweep of both
pub sweep_meets : (g : Settings) (n : ℕ) (ls : Labels) (w p : ℕ) (s c : State) (es : List Entry) → Meets g n ls s c → LegalFrom g s es
    → Sweeps g 0 w p s es → IsSwept (run g s es) w p → Meets g n ls (run g s es) (run g c (orphans c p w))
sweep_meets g n ls w p s c es h legal does swept =
    let rows : List Row = s.rows w in
    let ys : List Row = filter (is_swept c.status p) (c.rows w) in
    let all : AreTriedAll g w p rows s es =
    subst (λ (x : List Entry). AreTriedAll g w p rows s x) (sym does.entries) (tried_all g w p rows does.tries s does.may) in
    let z : State = run g s es in
    let plain = orphaned_all g w ys c in
    let over : AreSwept z.status p rows = subst (AreSwept z.status p) (all.rest.rows w) swept in
    let status : (r m : TimerRef) → IsName g ls r m → z.status r ≡ (run g c (orphans c p w)).status m = λ r m named.
    sym (swept_status z.status p r rows over) ∙ all.status r
    ∙ ap (λ (b : Bool). settle b (s.status r)) (has_pairs (IsName g ls) (names_are g ls) p r m named rows (c.rows w) (h.shows.rows w))
    ∙ ap (settle (has_row p m (c.rows w))) (h.shows.status r m named)
    ∙ sym (settled_alike c.status p m (c.rows w)) ∙ sym (plain.status m) in
    record {
      kept = kept_from g IsKept (kept_next g) s es h.kept legal;
      shows = shows_rest (IsName g ls) s c z (run g c (orphans c p w)) h.shows all.rest plain.rest status;
      used = used_later s.last z.last (λ v k. omega (arith, all.rest.last v k)) ls h.used;
      lasts = λ v k. omega (arith, all.rest.last v k, h.lasts v k);
      few = λ v. few_same n (s.rows v) (z.rows v) (all.rest.rows v) (h.few v);
    }
