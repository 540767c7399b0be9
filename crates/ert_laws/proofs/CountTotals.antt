-- How many timers of a service have which status, by the entries of a history.

use Rattle.std.proofs.Common.{◌≡◌, ℕ, ◌+◌, Bool, true, false, cond, ◌&&◌, nat_eq, List, [], ◌∷◌, ◌++◌, length, filter, Option, Some, refl, sym, ap, ◌∙◌, arith}
use Rattle.std.proofs.{Math.Bool.{and-false, and-true}, lemmas.List.length-append, lemmas.List.Elements.filter-append}
use Rattle.ert_defs.proofs.ExpiredLists.{made}
use Rattle.ert_defs.specs.{Actors.is_with, Legal.{Can, IsWithMail, Keeps, Legal}, States.{State, next, state}, declared.entry.Actor.Actor, declared.entry.Actor.TheVariants.MailOf, declared.entry.Entry.Entry, declared.entry.Event.Event}
use Rattle.ert_defs.specs.{declared.entry.Event.TheVariants.{Cancel, Deliver}, declared.settings.Settings.Settings, declared.timer.Status.Status, declared.timer.Status.TheVariants.{Armed, Expired, Delivered, Cancelled, Orphaned, Dropped}}
use Rattle.ert_laws.proofs.{Counted.one_if, CountSteps.{come, gone, counted, count_step}, Counting.{arms_counted, expiries_counted, orphans_counted, six_statuses}, ExpiredCounts.expired_wait, Histories.{by_entries, state-more}, Totals.only}
use Rattle.ert_laws.proofs.{Totals.{total_only, total_same, total_sum, total_zero}}
use Rattle.ert_laws.specs.Counts.{total, has_status, count_at, count_in, Counts, counts_of, is_arm, is_expire, is_orphan, entries_of, delivers_to, deliveries, Agrees, LawOfDeliveries, LawOfCounts, LawOfOneCount}

kept_length : (b : Bool) (e : Entry) → length (cond b (e ∷ []) []) ≡ one_if b
kept_length true e = refl
kept_length false e = refl

deliveries-more : (p : ℕ) (h : List Entry) (e : Entry) → deliveries p (h ++ e ∷ []) ≡ deliveries p h + one_if (delivers_to p e)
deliveries-more p h e =
    ap length (filter-append (delivers_to p) h (e ∷ []))
    ∙ (length-append (filter (delivers_to p) h) (filter (delivers_to p) (e ∷ []))
    ∙ ap (λ n. deliveries p h + n) (kept_length (delivers_to p e) e))

-- the mailbox of a delivery is that of one process in range
in_one_mailbox : (g : Settings) (with : Option Actor) → IsWithMail g with → total (λ p. one_if (is_with with (MailOf p) && true)) g.processes ≡ 1
in_one_mailbox g (Some (MailOf q)) mail =
    total_same (λ p. one_if (nat_eq q p && true)) (only 1 q) g.processes (λ p. ap one_if (and-true (nat_eq q p)))
    ∙ total_only 1 q g.processes mail
in_one_mailbox g _ mail = absurd mail

-- an entry that isn't one is in none
in_no_mailbox : (n : ℕ) (with : Option Actor) → total (λ p. one_if (is_with with (MailOf p) && false)) n ≡ 0
in_no_mailbox n with =
    total_same (λ p. one_if (is_with with (MailOf p) && false)) (λ p. 0) n (λ p. ap one_if (and-false (is_with with (MailOf p))))
    ∙ total_zero n

-- each delivery brings one timer of all wheels to delivered, and takes none from it
delivery_brings : (g : Settings) (by : Actor) (with : Option Actor) (event : Event) → Keeps g by with event
    → total (λ p. one_if (delivers_to p (made by with event))) g.processes ≡ total (λ w. come (has_status Delivered) w event) g.schedulers
delivery_brings g by with (Deliver timer) keeps = in_one_mailbox g with keeps.1 ∙ sym (total_only 1 timer.wheel g.schedulers keeps.2.wheel_high)
delivery_brings g by with (Cancel timer (Some left)) keeps = in_no_mailbox g.processes with ∙ sym (total_zero g.schedulers)
delivery_brings g by with event keeps = in_no_mailbox g.processes with ∙ sym (total_zero g.schedulers)

none_leaves : (w : ℕ) (event : Event) → gone (has_status Delivered) w event ≡ 0
none_leaves w (Cancel timer (Some left)) = refl
none_leaves w _ = refl

pub deliveries_counted : LawOfDeliveries
deliveries_counted g h legal =
    by_entries g (λ h. total (λ p. deliveries p h) g.processes ≡ count_in (state g h) Delivered g.schedulers) more
    (total_zero g.processes ∙ sym (total_zero g.schedulers)) h legal
  where
    more : (h : List Entry) (e : Entry) → Legal g h → Can g (state g h) e
        → total (λ p. deliveries p h) g.processes ≡ count_in (state g h) Delivered g.schedulers
        → total (λ p. deliveries p (h ++ e ∷ [])) g.processes ≡ count_in (state g (h ++ e ∷ [])) Delivered g.schedulers
    more h e legal can is =
        let s : State = state g h in
        let test : Option Status → Bool = has_status Delivered in
        let mail : total (λ p. deliveries p (h ++ e ∷ [])) g.processes
        ≡ total (λ p. deliveries p h) g.processes + total (λ p. one_if (delivers_to p e)) g.processes =
        total_same (λ p. deliveries p (h ++ e ∷ [])) (λ p. deliveries p h + one_if (delivers_to p e)) g.processes (λ p. deliveries-more p h e)
        ∙ total_sum (λ p. deliveries p h) (λ p. one_if (delivers_to p e)) g.processes in
        let one : (w : ℕ) → counted test w (next g s e) ≡ counted test w s + come test w e.event = λ w.
        let step : counted test w (next g s e) + gone test w e.event ≡ counted test w s + come test w e.event =
        count_step g h e.by e.with e.event w test legal can in
        omega (arith, none_leaves w e.event) in
        let rows : total (λ w. counted test w (next g s e)) g.schedulers
        ≡ total (λ w. counted test w s) g.schedulers + total (λ w. come test w e.event) g.schedulers =
        total_same (λ w. counted test w (next g s e)) (λ w. counted test w s + come test w e.event) g.schedulers one
        ∙ total_sum (λ w. counted test w s) (λ w. come test w e.event) g.schedulers in
        let brings : total (λ p. one_if (delivers_to p e)) g.processes ≡ total (λ w. come test w e.event) g.schedulers =
        delivery_brings g e.by e.with e.event can.keeps in
        let now : count_in (state g (h ++ e ∷ [])) Delivered g.schedulers ≡ count_in (next g s e) Delivered g.schedulers =
        ap (λ (x : State). count_in x Delivered g.schedulers) (state-more g h e) in
        mail ∙ (ap (λ n. n + total (λ p. one_if (delivers_to p e)) g.processes) is
        ∙ (ap (λ n. count_in s Delivered g.schedulers + n) brings ∙ (sym rows ∙ sym now)))

-- the sums over all wheels

total_three : (f a b c : ℕ → ℕ) (n : ℕ) → ((i : ℕ) → f i ≡ a i + b i + c i) → total f n ≡ total a n + total b n + total c n
total_three f a b c n each =
    total_same f (λ i. a i + b i + c i) n each
    ∙ (total_sum (λ i. a i + b i) c n ∙ ap (λ x. x + total c n) (total_sum a b n))

total_four : (f a b c d : ℕ → ℕ) (n : ℕ) → ((i : ℕ) → f i ≡ a i + b i + c i + d i)
    → total f n ≡ total a n + total b n + total c n + total d n
total_four f a b c d n each =
    total_same f (λ i. a i + b i + c i + d i) n each
    ∙ (total_sum (λ i. a i + b i + c i) d n ∙ ap (λ x. x + total d n) (total_three (λ i. a i + b i + c i) a b c n (λ i. refl)))

-- each timer that was armed is so, or was cancelled, or has expired
arms_split : (g : Settings) (h : List Entry) → Legal g h → (w : ℕ)
    → entries_of is_arm w h
    ≡ count_at (state g h) Armed w + count_at (state g h) Cancelled w + count_at (state g h) Orphaned w + entries_of is_expire w h
arms_split g h legal w =
    let arms : entries_of is_arm w h ≡ length ((state g h).rows w) = arms_counted g h w legal in
    let six = six_statuses g h w legal in
    let expiries = expiries_counted g h w legal in
    omega arith

pub counts_agree : LawOfCounts
counts_agree g h legal =
    let s : State = state g h in
    record {
      armed = refl;
      expired = total_same (count_at s Expired) (λ w. length (s.scheds w).expired) g.schedulers (λ w. sym (expired_wait g h w legal));
      delivered = sym (deliveries_counted g h legal);
      orphaned = total_same (count_at s Orphaned) (λ w. entries_of is_orphan w h) g.schedulers (λ w. sym (orphans_counted g h w legal));
      expiries = total_three (λ w. entries_of is_expire w h) (count_at s Expired) (count_at s Delivered) (count_at s Dropped) g.schedulers
          (λ w. expiries_counted g h w legal);
      arms = total_four (λ w. entries_of is_arm w h) (count_at s Armed) (count_at s Cancelled) (count_at s Orphaned) (λ w. entries_of is_expire w h)
          g.schedulers (arms_split g h legal);
    }

-- counts whose fields are equal are equal
abbrev with_fields : ℕ → ℕ → ℕ → ℕ → ℕ → ℕ → Counts
with_fields a b c d e f = record { armed = a; expired = b; delivered = c; dropped = d; cancelled = e; orphaned = f }

same_fields : (a b c d e f i j k l m n : ℕ) → a ≡ i → b ≡ j → c ≡ k → d ≡ l → e ≡ m → f ≡ n
    → with_fields a b c d e f ≡ with_fields i j k l m n
same_fields a b c d e f i j k l m n first second third fourth fifth sixth = cc

same_counts : (n c : Counts) → n.armed ≡ c.armed → n.expired ≡ c.expired → n.delivered ≡ c.delivered → n.dropped ≡ c.dropped
    → n.cancelled ≡ c.cancelled → n.orphaned ≡ c.orphaned → n ≡ c
same_counts n c armed expired delivered dropped cancelled orphaned =
    same_fields n.armed n.expired n.delivered n.dropped n.cancelled n.orphaned
    c.armed c.expired c.delivered c.dropped c.cancelled c.orphaned armed expired delivered dropped cancelled orphaned

same_rest : (expiries a b c x y z : ℕ) → expiries ≡ a + b + c → expiries ≡ x + y + z → a ≡ x → b ≡ y → c ≡ z
same_rest expiries a b c x y z one other first second = omega arith

same_cancelled : (arms a b c e x y z : ℕ) → arms ≡ a + b + c + e → arms ≡ x + y + z + e → a ≡ x → c ≡ z → b ≡ y
same_cancelled arms a b c e x y z one other first third = omega arith

pub counts_alone : LawOfOneCount
counts_alone g h n legal is =
    let c : Counts = counts_of g (state g h) in
    let own : Agrees g h c = counts_agree g h legal in
    let armed : n.armed ≡ c.armed = is.armed in
    let expired : n.expired ≡ c.expired = is.expired ∙ sym own.expired in
    let delivered : n.delivered ≡ c.delivered = is.delivered ∙ sym own.delivered in
    let orphaned : n.orphaned ≡ c.orphaned = is.orphaned ∙ sym own.orphaned in
    let expiries : ℕ = total (λ w. entries_of is_expire w h) g.schedulers in
    let arms : ℕ = total (λ w. entries_of is_arm w h) g.schedulers in
    same_counts n c armed expired delivered
    (same_rest expiries n.expired n.delivered n.dropped c.expired c.delivered c.dropped is.expiries own.expiries expired delivered)
    (same_cancelled arms n.armed n.cancelled n.orphaned expiries c.armed c.cancelled c.orphaned is.arms own.arms armed orphaned)
    orphaned
