-- The message of a timer that is due is put once, in order of deadline.

use Rattle.std.proofs.Common.{◌≡◌, ◌≢◌, ◌⊎◌, inl, inr, ℕ, ◌<◌, ◌≤◌, Bool, true, false, cond, ◌&&◌, ◌||◌, nat_eq, nat_lt, nat_le, List, [], ◌∷◌, ◌++◌, All, AllPairs, filter, map, get_or, Option, Some, None, refl, sym, ap, ◌∙◌, subst, arith, append_assoc, eq-eqb, ne_eqb}
use Rattle.std.proofs.lemmas.{Bool.Decides.nat_tests, List.map-append, List.Elements.Contains-get_or}
use Rattle.std.specs.Option.{option_to_list}
use Rattle.ert_defs.specs.{Actors.has_actor, Laws.{MayMove, has_settled}, Legal.{AllSettled, Can, IsNext, Known, LegalFrom, Legal}, States.{State, opening, next, run, state}, Timers.{Row, row_of, same_timer, status_after, settled_as}}
use Rattle.ert_defs.specs.{Timers.handed_as, declared.entry.Actor.Actor, declared.entry.Actor.TheVariants.Wheel, declared.entry.Entry.Entry, declared.entry.Event.Event, declared.entry.Event.TheVariants.{Arm, Cancel, Expire, Orphan}}
use Rattle.ert_defs.specs.{declared.entry.Event.TheVariants.{Deliver, Drop}, declared.settings.Settings.Settings, declared.timer.Status.Status, declared.timer.Status.TheVariants.{Armed, Expired, Delivered, Cancelled, Orphaned, Dropped}}
use Rattle.ert_defs.specs.{declared.timer.TimerRef.TimerRef}
use Rattle.ert_defs.proofs.{ExpiredLists.{IsKept, kept_after, made}, ExpiredTimers.{row_kept, row_named}, Lists.{pairs_head, pairs_tail}, Rows.{Differ, rows_hold}, Runs.{carry, exit_stays, legal_first, legal_then, state-append}}
use Rattle.ert_defs.proofs.{Settlings.{moves_next, row_was_armed, settled_timers_stay}, Slots.{IsOrdered, ordered, ordered_next, same_timer-true}, Standing.{all_stand, of_row}}
use Rattle.ert_laws.specs.MailOrder.{Sent, sent_by_row, sent_to, gathered_from, expired_in, expired_of, is_delivered, is_of_wheel, is_from, is_delivered_to}
use Rattle.ert_laws.specs.Punctual.{is_timer, is_sent_by, StandsAmong, IsEarlier, LawOfPutMessages, LawOfDueTimers, LawOfPutOrder}
use Rattle.ert_laws.proofs.{Expiries.in_order, ExpiredOnce.{has_expired, NoneOf, EachExpired, AreSingle, have_expired}, Histories.{by_entries, gathered-append, gathered-more, state-more}, Mailboxes.first_row, StandingRows.differs_from}
use Rattle.ert_laws.proofs.{StandingRows.row_stands, Waiting.{all_wait, waits_in}}

-- one message of those of a wheel

cons_if : {X : Type 0} (b : Bool) (x : X) (xs ys : List X) → xs ≡ ys → cond b (x ∷ xs) xs ≡ cond b (x ∷ ys) ys
cons_if true x xs ys same = ap (λ l. x ∷ l) same
cons_if false x xs ys same = same

of_timer : (r : TimerRef) (rows : List Row) → filter (is_sent_by r) (map sent_by_row rows) ≡ map sent_by_row (filter (λ (row : Row). same_timer row.timer r) rows)
of_timer r [] = refl
of_timer r (x ∷ rows) = at (same_timer x.timer r) (of_timer r rows)
  where
    at : (b : Bool) → filter (is_sent_by r) (map sent_by_row rows) ≡ map sent_by_row (filter (λ (row : Row). same_timer row.timer r) rows)
        → cond b (sent_by_row x ∷ filter (is_sent_by r) (map sent_by_row rows)) (filter (is_sent_by r) (map sent_by_row rows))
        ≡ map sent_by_row (cond b (x ∷ filter (λ (row : Row). same_timer row.timer r) rows) (filter (λ (row : Row). same_timer row.timer r) rows))
    at true same = ap (λ l. sent_by_row x ∷ l) same
    at false same = same

other_wheel : (r : TimerRef) (w : ℕ) (o : Option TimerRef) → r.wheel ≡ w → is_of_wheel w o ≡ false → is_timer r o ≡ false
other_wheel r w None wheel is = refl
other_wheel r w (Some t) wheel is = at (same_timer t r) refl
  where
    at : (b : Bool) → same_timer t r ≡ b → b ≡ false
    at true same =
        let clash : true ≡ false = sym (eq-eqb t.wheel w (ap (λ (x : TimerRef). x.wheel) (same_timer-true t r same) ∙ wheel)) ∙ is in
        absurd cc
    at false same = refl

within_wheel : (r : TimerRef) (w : ℕ) (sent : List Sent) → r.wheel ≡ w → filter (is_sent_by r) sent ≡ filter (is_sent_by r) (filter (is_from w) sent)
within_wheel r w [] wheel = refl
within_wheel r w (x ∷ sent) wheel = at (is_from w x) refl (within_wheel r w sent wheel)
  where
    at : (b : Bool) → is_from w x ≡ b → filter (is_sent_by r) sent ≡ filter (is_sent_by r) (filter (is_from w) sent)
        → filter (is_sent_by r) (x ∷ sent) ≡ filter (is_sent_by r) (cond b (x ∷ filter (is_from w) sent) (filter (is_from w) sent))
    at true is same = cons_if (is_sent_by r x) x (filter (is_sent_by r) sent) (filter (is_sent_by r) (filter (is_from w) sent)) same
    at false is same =
        ap (λ (b : Bool). cond b (x ∷ filter (is_sent_by r) sent) (filter (is_sent_by r) sent)) (other_wheel r w x.timer wheel is) ∙ same

-- of the rows that expired one is of the timer

abbrev own : TimerRef → Row → Bool
own r row = same_timer row.timer r

not_own : (r : TimerRef) (row : Row) → row.timer ≢ r → own r row ≡ false
not_own r row not = at (own r row) refl
  where
    at : (b : Bool) → own r row ≡ b → b ≡ false
    at true is = absurd (not (same_timer-true row.timer r is))
    at false is = refl

none_out : (r : TimerRef) (q : Row → Bool) (rows : List Row) → NoneOf r rows → filter (own r) (filter q rows) ≡ []
none_out r q [] none = refl
none_out r q (x ∷ rows) none = at (q x) (none_out r q rows none.1)
  where
    at : (b : Bool) → filter (own r) (filter q rows) ≡ [] → filter (own r) (cond b (x ∷ filter q rows) (filter q rows)) ≡ []
    at true rest = ap (λ (b : Bool). cond b (x ∷ filter (own r) (filter q rows)) (filter (own r) (filter q rows))) (not_own r x none.0) ∙ rest
    at false rest = rest

one_out : (s : State) (w : ℕ) (r : TimerRef) (row : Row) (q : Row → Bool) (b : Bool) (rows : List Row) → row_of (s.rows w) r ≡ Some row → q row ≡ b
    → EachExpired s w rows → AreSingle rows → waits_in r rows ≡ true → filter (own r) (filter q rows) ≡ cond b (row ∷ []) []
one_out s w r row q b [] stands is each single waits = let clash : false ≡ true = waits in absurd cc
one_out s w r row q b (x ∷ rows) stands is each single waits =
    at (own r x) refl (λ later. one_out s w r row q b rows stands is each.2 single.1 later)
  where
    here : own r x ≡ true → (c : Bool) → q row ≡ c → filter (own r) (filter q (x ∷ rows)) ≡ cond c (row ∷ []) []
    here same c passes =
        let timer : x.timer ≡ r = same_timer-true x.timer r same in
        let x_is : Some x ≡ Some row = sym each.0 ∙ (ap (row_of (s.rows w)) timer ∙ stands) in
        let row_is : x ≡ row = cc in
        let rest : filter (own r) (filter q rows) ≡ [] = none_out r q rows (subst (λ (t : TimerRef). NoneOf t rows) timer single.0) in
        ap (λ (d : Bool). filter (own r) (cond d (x ∷ filter q rows) (filter q rows))) (ap q row_is ∙ passes)
        ∙ by c row_is rest
      where
        by : (c : Bool) → x ≡ row → filter (own r) (filter q rows) ≡ [] → filter (own r) (cond c (x ∷ filter q rows) (filter q rows)) ≡ cond c (row ∷ []) []
        by true row_is rest =
            ap (λ (d : Bool). cond d (x ∷ filter (own r) (filter q rows)) (filter (own r) (filter q rows))) same
            ∙ (ap (λ (l : List Row). x ∷ l) rest ∙ ap (λ (y : Row). y ∷ []) row_is)
        by false row_is rest = rest

    there : own r x ≡ false → (c : Bool) → filter (own r) (filter q rows) ≡ cond b (row ∷ []) [] → filter (own r) (cond c (x ∷ filter q rows) (filter q rows)) ≡ cond b (row ∷ []) []
    there other true rest = ap (λ (d : Bool). cond d (x ∷ filter (own r) (filter q rows)) (filter (own r) (filter q rows))) other ∙ rest
    there other false rest = rest

    at : (c : Bool) → own r x ≡ c → (waits_in r rows ≡ true → filter (own r) (filter q rows) ≡ cond b (row ∷ []) [])
        → filter (own r) (filter q (x ∷ rows)) ≡ cond b (row ∷ []) []
    at true same more = here same b is
    at false other more =
        let later : waits_in r rows ≡ true = sym (ap (λ (d : Bool). cond d true (waits_in r rows)) other) ∙ (cond_or (own r x) (waits_in r rows) ∙ waits) in
        there other (q x) (more later)
      where
        cond_or : (c d : Bool) → cond c true d ≡ (c || d)
        cond_or true d = refl
        cond_or false d = refl

messages_of : (g : Settings) (h : List Entry) (w p : ℕ) (r : TimerRef) (row : Row) (b : Bool) → Legal g h → r.wheel ≡ w → row_of ((state g h).rows w) r ≡ Some row
    → (state g h).status r ≡ Some Delivered → is_delivered_to (state g h) p row ≡ b → filter (is_sent_by r) (sent_to g p h) ≡ map sent_by_row (cond b (row ∷ []) [])
messages_of g h w p r row b legal wheel stands status is =
    let have = have_expired g h w legal in
    within_wheel r w (sent_to g p h) wheel
    ∙ (ap (filter (is_sent_by r)) (in_order g h w p legal)
    ∙ (of_timer r (filter (is_delivered_to (state g h) p) (expired_of g w h))
    ∙ ap (map sent_by_row) (one_out (state g h) w r row (is_delivered_to (state g h) p) b (expired_of g w h) stands is have.each have.single
    (have.all r wheel (ap has_expired status)))))

pub put_once : LawOfPutMessages
put_once g h w timer row legal wheel stands status =
    let named : row.timer ≡ timer = row_named ((state g h).rows w) row timer stands in
    let delivered : is_delivered ((state g h).status row.timer) ≡ true = ap (λ (x : TimerRef). is_delivered ((state g h).status x)) named ∙ ap is_delivered status in
    record {
      once = ap (λ (x : TimerRef). filter (is_sent_by x) (sent_to g row.dest h)) named
          ∙ messages_of g h w row.dest timer row true legal wheel stands status
          (ap (λ (b : Bool). b && nat_eq row.dest row.dest) delivered ∙ eq-eqb row.dest row.dest refl);
      elsewhere = λ p other. ap (λ (x : TimerRef). filter (is_sent_by x) (sent_to g p h)) named
          ∙ messages_of g h w p timer row false legal wheel stands status
          (ap (λ (b : Bool). b && nat_eq row.dest p) delivered ∙ ne_eqb row.dest p (λ same. other (sym same)));
    }

-- a timer that was dropped had a destination that has exited

abbrev drops : Event → TimerRef → Bool
drops (Drop timer) r = same_timer timer r
drops _ r = false

settled_was : (to : Status) (b : Bool) (x : Option Status) → to ≢ Dropped → cond b (settled_as to x) x ≡ Some Dropped → x ≡ Some Dropped
settled_was to false x not is = is
settled_was to true None not is = is
settled_was to true (Some Armed) not is = let same : to ≡ Dropped = cc in absurd (not same)
settled_was to true (Some _) not is = is

handed_was : (b : Bool) (x : Option Status) → cond b (handed_as Delivered x) x ≡ Some Dropped → x ≡ Some Dropped
handed_was false x is = is
handed_was true None is = is
handed_was true (Some Expired) is = let clash : Some Delivered ≡ Some Dropped = is in absurd cc
handed_was true (Some _) is = is

armed_was : (b : Bool) (x : Option Status) → cond b (Some Armed) x ≡ Some Dropped → x ≡ Some Dropped
armed_was true x is = let clash : Some Armed ≡ Some Dropped = is in absurd cc
armed_was false x is = is

dropped_here : (b : Bool) (x y : Option Status) → cond b y x ≡ Some Dropped → (x ≡ Some Dropped) ⊎ (b ≡ true)
dropped_here true x y is = inr refl
dropped_here false x y is = inl is

was_dropped : (r : TimerRef) (b : Bool) (x : Option Status) (event : Event) → status_after r b x event ≡ Some Dropped → (x ≡ Some Dropped) ⊎ (drops event r ≡ true)
was_dropped r b x (Arm timer start) is = inl (armed_was (b && same_timer timer r) x is)
was_dropped r b x (Cancel timer left) is = inl (settled_was Cancelled (same_timer timer r) x (λ same. cc) is)
was_dropped r b x (Expire timer) is = inl (settled_was Expired (same_timer timer r) x (λ same. cc) is)
was_dropped r b x (Orphan timer) is = inl (settled_was Orphaned (same_timer timer r) x (λ same. cc) is)
was_dropped r b x (Deliver timer) is = inl (handed_was (same_timer timer r) x is)
was_dropped r b x (Drop timer) is = dropped_here (same_timer timer r) x (handed_as Dropped x) is
was_dropped r b x _ is = inl is

abbrev HasGone : State → TimerRef → Type 0
HasGone s r = (row : Row) → s.status r ≡ Some Dropped → row_of (s.rows r.wheel) r ≡ Some row → s.exited row.dest ≡ true

drop_gone : (g : Settings) (s : State) (by : Actor) (with : Option Actor) (event : Event) (r : TimerRef) (row : Row) → IsKept s → Can g s (made by with event)
    → drops event r ≡ true → row_of ((next g s (made by with event)).rows r.wheel) r ≡ Some row → (next g s (made by with event)).exited row.dest ≡ true
drop_gone g s by with (Drop timer) r row kept can is stands =
    let e : Entry = made by with (Drop timer) in
    let same : timer ≡ r = same_timer-true timer r is in
    let first : Row = can.known.0.row in
    let before : row_of (s.rows r.wheel) r ≡ Some first = subst (λ (t : TimerRef). row_of (s.rows t.wheel) t ≡ Some first) same (first_row s timer kept can.known.0) in
    let after = row_kept g (s.looked by) r.wheel (s.rows r.wheel) first r (has_actor e (Wheel r.wheel)) (Drop timer) before in
    let rows : Some first ≡ Some row = sym after ∙ stands in
    let row_is : first ≡ row = cc in
    ap (λ (x : Row). s.exited x.dest) (sym row_is) ∙ can.known.1
drop_gone g s by with _ r row kept can is stands = let clash : false ≡ true = is in absurd cc

pub dropped_are_gone : (g : Settings) (h : List Entry) (r : TimerRef) → Legal g h → HasGone (state g h) r
dropped_are_gone g h r legal =
    by_entries g (λ h. HasGone (state g h) r)
    (λ h e legal can gone. carry (λ s. HasGone s r) (state-more g h e) (λ row status stands.
    let s : State = state g h in
    elim (was_dropped r (has_actor e (Wheel r.wheel)) (s.status r) e.event status) [
      | inl before ↦
          let stood = all_stand g h legal r (λ none. let clash : Some Dropped ≡ None = sym before ∙ none in cc) in
          let after = row_kept g (s.looked e.by) r.wheel (s.rows r.wheel) stood.row r (has_actor e (Wheel r.wheel)) e.event stood.is in
          let rows : Some stood.row ≡ Some row = sym after ∙ stands in
          let row_is : stood.row ≡ row = cc in
          exit_stays g row.dest s (e ∷ []) (ap (λ (x : Row). s.exited x.dest) (sym row_is) ∙ gone stood.row before stood.is)
      | inr now ↦ drop_gone g s e.by e.with e.event r row (kept_after g h legal) can now stands
    ]))
    (λ row status stands. let clash : None ≡ Some Dropped = status in absurd cc) h legal

-- a timer that is due is delivered

settled_row : (status : TimerRef → Option Status) (test : ℕ → Bool) (rows : List Row) (t : TimerRef) (row : Row) → AllSettled status test rows
    → row_of rows t ≡ Some row → test row.deadline ≡ true → status row.timer ≢ Some Armed
settled_row status test [] t row settled stands is = let clash : None ≡ Some row = stands in absurd cc
settled_row status test (x ∷ rows) t row settled stands is = at (same_timer x.timer t) stands (λ later. settled_row status test rows t row settled.1 later is)
  where
    at : (b : Bool) → cond b (Some x) (row_of rows t) ≡ Some row → (row_of rows t ≡ Some row → status row.timer ≢ Some Armed) → status row.timer ≢ Some Armed
    at true same more =
        let row_is : x ≡ row = cc in
        subst (λ (y : Row). status y.timer ≢ Some Armed) row_is (settled.0 (ap (λ (y : Row). test y.deadline) row_is ∙ is))
    at false later more = more later

was_armed : (g : Settings) (h : List Entry) (w : ℕ) (timer : TimerRef) (row : Row) → Legal g h → row_of ((state g h).rows w) timer ≡ Some row
    → (state g h).status row.timer ≢ None
was_armed g h w timer row legal stands =
    of_row (λ (x : Row). (state g h).status x.timer ≢ None) ((state g h).rows w) timer row
    (λ k d lt. row_was_armed g h w (get_or ((state g h).rows w) k d) legal (Contains-get_or ((state g h).rows w) k d lt)) stands

is_settled : (x : Option Status) → x ≢ None → x ≢ Some Armed → has_settled x ≡ true
is_settled None some other = absurd (some refl)
is_settled (Some Armed) some other = absurd (other refl)
is_settled (Some _) some other = refl

delivered_of : (x : Option Status) → has_settled x ≡ true → x ≢ Some Expired → x ≢ Some Cancelled → x ≢ Some Orphaned → x ≢ Some Dropped → x ≡ Some Delivered
delivered_of None settled a b c d = let clash : false ≡ true = settled in absurd cc
delivered_of (Some Armed) settled a b c d = let clash : false ≡ true = settled in absurd cc
delivered_of (Some Expired) settled a b c d = absurd (a refl)
delivered_of (Some Cancelled) settled a b c d = absurd (b refl)
delivered_of (Some Orphaned) settled a b c d = absurd (c refl)
delivered_of (Some Dropped) settled a b c d = absurd (d refl)
delivered_of (Some Delivered) settled a b c d = refl

-- the row of a timer stays
pub row_stays : (g : Settings) (w : ℕ) (timer : TimerRef) (row : Row) (s : State) (m : List Entry) → row_of (s.rows w) timer ≡ Some row → row_of ((run g s m).rows w) timer ≡ Some row
row_stays g w timer row s [] stands = stands
row_stays g w timer row s (e ∷ m) stands =
    row_stays g w timer row (next g s e) m (row_kept g (s.looked e.by) w (s.rows w) row timer (has_actor e (Wheel w)) e.event stands)

pub due_delivered : LawOfDueTimers
due_delivered g f m e w to timer row legal event wheel stands due none not_cancelled not_orphaned alive =
    let h : List Entry = f ++ e ∷ [] in
    let whole : List Entry = h ++ m in
    let front : Legal g h = legal_first g (opening g) h m legal in
    let early : Legal g f = legal_first g (opening g) f (e ∷ []) front in
    let can = (legal_then g (opening g) f (e ∷ []) front).0 in
    let known = subst (Known g (state g f) e.by e.with) event can.known in
    let test : nat_le row.deadline to ≡ true = grind (arith, nat_tests) in
    let named : row.timer ≡ timer = row_named ((state g f).rows w) row timer stands in
    let settled : has_settled ((state g f).status timer) ≡ true =
    subst (λ (t : TimerRef). has_settled ((state g f).status t) ≡ true) named
    (is_settled ((state g f).status row.timer) (was_armed g f w timer row early stands)
    (settled_row (state g f).status (λ d. nat_le d to) ((state g f).rows w) timer row known.1 stands test)) in
    let place : f ++ (e ∷ m) ≡ whole = sym (append_assoc f (e ∷ []) m) in
    let later : has_settled ((state g whole).status timer) ≡ true =
    subst (λ (l : List Entry). has_settled ((state g l).status timer) ≡ true) place
    (settled_timers_stay g f (e ∷ m) timer (subst (Legal g) (sym place) legal) settled) in
    let stands_still : row_of ((state g whole).rows timer.wheel) timer ≡ Some row =
    subst (λ (v : ℕ). row_of ((state g whole).rows v) timer ≡ Some row) (sym wheel)
    (subst (λ (l : List Entry). row_of ((state g l).rows w) timer ≡ Some row) place
    (ap (λ (s : State). row_of (s.rows w) timer) (state-append g f (e ∷ m)) ∙ row_stays g w timer row (state g f) (e ∷ m) stands)) in
    delivered_of ((state g whole).status timer) later
    (λ expired.
    let waits : waits_in timer ((state g whole).scheds timer.wheel).expired ≡ true = all_wait g whole legal timer expired in
    let empty : ((state g whole).scheds timer.wheel).expired ≡ [] = ap (λ (v : ℕ). ((state g whole).scheds v).expired) wheel ∙ none in
    let clash : false ≡ true = sym (ap (waits_in timer) empty) ∙ waits in
    cc)
    not_cancelled not_orphaned
    (λ dropped. let clash : true ≡ false = sym (dropped_are_gone g whole timer legal row dropped stands_still) ∙ alive in cc)

-- the messages of a wheel's timers come in order of deadline

-- what settled before, in a list that goes on
settled_at : (status : TimerRef → Option Status) (test : ℕ → Bool) (ahead : List Row) (row : Row) (after : List Row)
    → AllSettled status test (ahead ++ (row ∷ after)) → test row.deadline ≡ true → status row.timer ≢ Some Armed
settled_at status test [] row after settled is = settled.0 is
settled_at status test (x ∷ ahead) row after settled is = settled_at status test ahead row after settled.1 is

-- a list with no timer twice is parted at a timer in one way
record IsSplit (before behind ahead after : List Row) (a b : Row) : Type 0 where
  first : before ≡ ahead
  same : a ≡ b
  last : behind ≡ after

one_split : (before behind ahead after : List Row) (a b : Row) → AllPairs Differ (before ++ (a ∷ behind)) → before ++ (a ∷ behind) ≡ ahead ++ (b ∷ after) → a.timer ≡ b.timer
    → IsSplit before behind ahead after a b
one_split [] behind [] after a b apart is named = let head : a ≡ b = cc in let tail : behind ≡ after = cc in record { first = refl; same = head; last = tail }
one_split [] behind (x ∷ ahead) after a b apart is named =
    let head : a ≡ x = cc in
    let tail : behind ≡ ahead ++ (b ∷ after) = cc in
    absurd (differs_from a ahead b after (subst (All (Differ a)) tail (pairs_head Differ a behind apart)) named)
one_split (x ∷ before) behind [] after a b apart is named =
    let head : x ≡ b = cc in
    absurd (differs_from x before a behind (pairs_head Differ x (before ++ (a ∷ behind)) apart) (ap (λ (y : Row). y.timer) head ∙ sym named))
one_split (x ∷ before) behind (y ∷ ahead) after a b apart is named =
    let head : x ≡ y = cc in
    let tail : before ++ (a ∷ behind) ≡ ahead ++ (b ∷ after) = cc in
    let rest = one_split before behind ahead after a b (pairs_tail Differ x (before ++ (a ∷ behind)) apart) tail named in
    record { first = ap (λ (l : List Row). x ∷ l) rest.first ∙ ap (λ (z : Row). z ∷ ahead) head; same = rest.same; last = rest.last }

-- the earlier one is armed no more when the other expires
earlier_settled : (g : Settings) (s : State) (w : ℕ) (by : Actor) (first second : Row) → AllPairs Differ (s.rows w) → second.timer.wheel ≡ w
    → IsNext g s by second.timer → IsEarlier (s.rows w) first second → s.status first.timer ≢ Some Armed
earlier_settled g s w by first second apart wheel next earlier =
    let rows : s.rows w ≡ next.before ++ (next.row ∷ next.behind) = ap s.rows (sym wheel) ∙ next.stands in
    let parts = one_split next.before next.behind earlier.before earlier.behind next.row second (subst (AllPairs Differ) rows apart) (sym rows ∙ earlier.stands) next.named in
    let low : next.row.deadline ≡ second.deadline = ap (λ (x : Row). x.deadline) parts.same in
    by_place parts.first parts.last low earlier.either
  where
    by_place : next.before ≡ earlier.before → next.behind ≡ earlier.behind → next.row.deadline ≡ second.deadline
        → (StandsAmong earlier.before first × (first.deadline ≤ second.deadline)) ⊎ (StandsAmong earlier.behind first × (first.deadline < second.deadline))
        → s.status first.timer ≢ Some Armed
    by_place before behind low (inl place) =
        let in_order : first.deadline ≤ second.deadline = place.1 in
        let test : nat_le first.deadline next.row.deadline ≡ true = grind (arith, nat_tests) in
        settled_at s.status (λ d. nat_le d next.row.deadline) place.0.ahead first place.0.after
        (subst (AllSettled s.status (λ d. nat_le d next.row.deadline)) (before ∙ place.0.is) next.first_before) test
    by_place before behind low (inr place) =
        let in_order : first.deadline < second.deadline = place.1 in
        let test : nat_lt first.deadline next.row.deadline ≡ true = grind (arith, nat_tests) in
        settled_at s.status (λ d. nat_lt d next.row.deadline) place.0.ahead first place.0.after
        (subst (AllSettled s.status (λ d. nat_lt d next.row.deadline)) (behind ∙ place.0.is) next.first_behind) test

-- a timer that is delivered in the end had expired by when it was armed no more

pub final_stays : (g : Settings) (r : TimerRef) (c : Status) (s : State) (m : List Entry) → ((y : Option Status) → MayMove (Some c) y → y ≡ Some c) → IsOrdered s → LegalFrom g s m
    → s.status r ≡ Some c → (run g s m).status r ≡ Some c
final_stays g r c s [] final order legal is = is
final_stays g r c s (e ∷ m) final order legal is =
    final_stays g r c (next g s e) m final (ordered_next g s e order legal.0) legal.1
    (final ((next g s e).status r) (subst (λ (x : Option Status). MayMove x ((next g s e).status r)) is (moves_next g s e r order legal.0)))

had_expired : (g : Settings) (r : TimerRef) (s : State) (m : List Entry) (x : Option Status) → IsOrdered s → LegalFrom g s m → s.status r ≡ x → x ≢ None → x ≢ Some Armed
    → (run g s m).status r ≡ Some Delivered → has_expired x ≡ true
had_expired g r s m None order legal is some other end = absurd (some refl)
had_expired g r s m (Some Armed) order legal is some other end = absurd (other refl)
had_expired g r s m (Some Expired) order legal is some other end = refl
had_expired g r s m (Some Delivered) order legal is some other end = refl
had_expired g r s m (Some Dropped) order legal is some other end = refl
had_expired g r s m (Some Cancelled) order legal is some other end =
    let clash : Some Cancelled ≡ Some Delivered = sym (final_stays g r Cancelled s m (λ y may. may) order legal is) ∙ end in absurd cc
had_expired g r s m (Some Orphaned) order legal is some other end =
    let clash : Some Orphaned ≡ Some Delivered = sym (final_stays g r Orphaned s m (λ y may. may) order legal is) ∙ end in absurd cc

-- its row stands among those that expired
expired_among : (s : State) (w : ℕ) (r : TimerRef) (row : Row) (rows : List Row) → row_of (s.rows w) r ≡ Some row → EachExpired s w rows → waits_in r rows ≡ true
    → StandsAmong rows row
expired_among s w r row [] stands each waits = let clash : false ≡ true = waits in absurd cc
expired_among s w r row (x ∷ rows) stands each waits = at (own r x) refl waits (λ later. expired_among s w r row rows stands each.2 later)
  where
    at : (b : Bool) → own r x ≡ b → (b || waits_in r rows) ≡ true → (waits_in r rows ≡ true → StandsAmong rows row) → StandsAmong (x ∷ rows) row
    at true same is more =
        let x_is : Some x ≡ Some row = sym each.0 ∙ (ap (row_of (s.rows w)) (same_timer-true x.timer r same) ∙ stands) in
        let row_is : x ≡ row = cc in
        record { ahead = []; after = rows; is = ap (λ (y : Row). y ∷ rows) row_is }
    at false other is more =
        let rest = more is in
        record { ahead = x ∷ rest.ahead; after = rest.after; is = ap (λ (l : List Row). x ∷ l) rest.is }

-- two that pass a test keep their order

filter_two : (q : Row → Bool) (x : Row) (xs ys zs : List Row) → filter q xs ≡ filter q ys ++ zs → filter q (x ∷ xs) ≡ filter q (x ∷ ys) ++ zs
filter_two q x xs ys zs same = at (q x)
  where
    at : (b : Bool) → cond b (x ∷ filter q xs) (filter q xs) ≡ cond b (x ∷ filter q ys) (filter q ys) ++ zs
    at true = ap (λ (l : List Row). x ∷ l) same
    at false = same

one_kept : (q : Row → Bool) (u : List Row) (a : Row) (rest : List Row) → q a ≡ true → filter q (u ++ (a ∷ rest)) ≡ filter q u ++ (a ∷ filter q rest)
one_kept q [] a rest is = ap (λ (b : Bool). cond b (a ∷ filter q rest) (filter q rest)) is
one_kept q (x ∷ u) a rest is = filter_two q x (u ++ (a ∷ rest)) u (a ∷ filter q rest) (one_kept q u a rest is)

pub put_in_order : LawOfPutOrder
put_in_order g f m e w p first second legal event wheel earlier to_p of_p first_is second_is =
    let h : List Entry = f ++ e ∷ [] in
    let whole : List Entry = h ++ m in
    let s : State = state g f in
    let z : State = state g whole in
    let front : Legal g h = legal_first g (opening g) h m legal in
    let early : Legal g f = legal_first g (opening g) f (e ∷ []) front in
    let can = (legal_then g (opening g) f (e ∷ []) front).0 in
    let next : IsNext g s e.by second.timer = subst (Known g s e.by e.with) event can.known in
    let apart : AllPairs Differ (s.rows w) = (rows_hold g f w early).apart in
    let place : f ++ (e ∷ m) ≡ whole = sym (append_assoc f (e ∷ []) m) in
    let later : LegalFrom g s (e ∷ m) = legal_then g (opening g) f (e ∷ m) (subst (Legal g) (sym place) legal) in
    let stands : row_of (s.rows w) first.timer ≡ Some first = first_stands s w first second apart earlier in
    let second_stands : row_of (s.rows w) second.timer ≡ Some second =
    ap (λ (l : List Row). row_of l second.timer) earlier.stands
    ∙ row_stands earlier.before second earlier.behind (subst (AllPairs Differ) earlier.stands apart) in
    let of_wheel : first.timer.wheel ≡ w =
    of_row (λ (x : Row). x.timer.wheel ≡ w) (s.rows w) first.timer first (λ k d lt. ((rows_hold g f w early).each k d lt).wheel) stands in
    let end : (run g s (e ∷ m)).status first.timer ≡ Some Delivered =
    ap (λ (x : State). x.status first.timer) (sym (state-append g f (e ∷ m)) ∙ ap (state g) place) ∙ first_is in
    let gone : has_expired (s.status first.timer) ≡ true =
    had_expired g first.timer s (e ∷ m) (s.status first.timer) (ordered g f early) later refl (was_armed g f w first.timer first early stands)
    (earlier_settled g s w e.by first second apart wheel next earlier) end in
    let have = have_expired g f w early in
    let among = expired_among s w first.timer first (expired_of g w f) stands have.each (have.all first.timer of_wheel gone) in
    let give = λ (x : State) (e : Entry). expired_in w x e.event in
    let rest : List Row = gathered_from g give (state g h) m in
    let here : expired_in w s e.event ≡ second ∷ [] =
    ap (expired_in w s) event
    ∙ (ap (λ (b : Bool). cond b (option_to_list (row_of (s.rows w) second.timer)) []) (eq-eqb second.timer.wheel w wheel)
    ∙ ap option_to_list second_stands) in
    let all : expired_of g w whole ≡ among.ahead ++ (first ∷ (among.after ++ (second ∷ rest))) =
    gathered-append g give (opening g) h m
    ∙ (ap (λ (l : List Row). l ++ rest) (gathered-more g give f e ∙ (ap (λ (l : List Row). expired_of g w f ++ l) here ∙ ap (λ (l : List Row). l ++ second ∷ []) among.is))
    ∙ (append_assoc (among.ahead ++ (first ∷ among.after)) (second ∷ []) rest
    ∙ append_assoc among.ahead (first ∷ among.after) (second ∷ rest))) in
    let q : Row → Bool = is_delivered_to z p in
    let first_passes : q first ≡ true = ap (λ (x : Option Status). is_delivered x && nat_eq first.dest p) first_is ∙ eq-eqb first.dest p to_p in
    let second_passes : q second ≡ true = ap (λ (x : Option Status). is_delivered x && nat_eq second.dest p) second_is ∙ eq-eqb second.dest p of_p in
    record {
      before = map sent_by_row (filter q among.ahead);
      between = map sent_by_row (filter q among.after);
      behind = map sent_by_row (filter q rest);
      stands = in_order g whole w p legal
          ∙ (ap (λ (l : List Row). map sent_by_row (filter q l)) all
          ∙ (ap (map sent_by_row) (one_kept q among.ahead first (among.after ++ (second ∷ rest)) first_passes
          ∙ ap (λ (l : List Row). filter q among.ahead ++ (first ∷ l)) (one_kept q among.after second rest second_passes))
          ∙ (map-append sent_by_row (filter q among.ahead) (first ∷ (filter q among.after ++ (second ∷ filter q rest)))
          ∙ ap (λ (l : List Sent). map sent_by_row (filter q among.ahead) ++ (sent_by_row first ∷ l))
          (map-append sent_by_row (filter q among.after) (second ∷ filter q rest)))));
    }
  where
    first_stands : (s : State) (w : ℕ) (first second : Row) → AllPairs Differ (s.rows w) → IsEarlier (s.rows w) first second → row_of (s.rows w) first.timer ≡ Some first
    first_stands s w first second apart earlier = by_place earlier.either
      where
        at : (before behind : List Row) → s.rows w ≡ before ++ (first ∷ behind) → row_of (s.rows w) first.timer ≡ Some first
        at before behind is = ap (λ (l : List Row). row_of l first.timer) is ∙ row_stands before first behind (subst (AllPairs Differ) is apart)

        by_place : (StandsAmong earlier.before first × (first.deadline ≤ second.deadline)) ⊎ (StandsAmong earlier.behind first × (first.deadline < second.deadline))
            → row_of (s.rows w) first.timer ≡ Some first
        by_place (inl place) =
            at place.0.ahead (place.0.after ++ (second ∷ earlier.behind))
            (earlier.stands ∙ (ap (λ (l : List Row). l ++ (second ∷ earlier.behind)) place.0.is ∙ append_assoc place.0.ahead (first ∷ place.0.after) (second ∷ earlier.behind)))
        by_place (inr place) =
            at (earlier.before ++ (second ∷ place.0.ahead)) place.0.after
            (earlier.stands ∙ (ap (λ (l : List Row). earlier.before ++ (second ∷ l)) place.0.is
            ∙ sym (append_assoc earlier.before (second ∷ place.0.ahead) (first ∷ place.0.after))))
