-- Few messages wait for the registrar: no more than timers were ever delivered.

use Rattle.std.proofs.Common.{◌^◌, ◌≡◌, ℕ, ◌+◌, ◌≤◌, Bool, true, false, cond, List, [], ◌∷◌, length, filter, Option, refl, arith, append-nil}
use Rattle.std.proofs.lemmas.List.{length-append}
use Rattle.ert_defs.specs.{Actors.{is_with, has_actor}, Legal.{Can, Keeps, LegalFrom}, Mails.{MailState, others_of, message_in, mail_after}, States.{State, opening, next, run}, Timers.Row, declared.entry.Actor.Actor}
use Rattle.ert_defs.specs.{declared.entry.Actor.TheVariants.{Sched, MailOf}, declared.entry.Entry.Entry, declared.entry.Event.Event, declared.entry.Event.TheVariants.{Deliver, Answer, Take, Tell}, declared.settings.Settings.Settings}
use Rattle.ert_laws.specs.Counts.{delivers_to, deliveries}
use Rattle.ert_names.proofs.Registrars.{IsKept, kept_next, kept_opening}
use Rattle.ert_names.specs.{Fits.{EventFits, AllFit, FitsRows}, Handing.waiting}
use Rattle.ert_world.proofs.Totals.{delivered_few}
use Rattle.ert_world.specs.Worlds.{Seen, StandsFor}

message_one : (expired : List Row) → length (message_in expired) ≤ 1
message_one [] = omega arith
message_one (r ∷ rows) = omega arith

others_fewer : {X : Type 0} (xs : List X) → length (others_of xs) ≤ length xs
others_fewer [] = omega arith
others_fewer (x ∷ xs) = omega arith

abbrev counts : ℕ → Entry → ℕ
counts p e = cond (delivers_to p e) 1 0

same_or : (n m : ℕ) → n ≤ n + m
same_or n m = omega arith

-- what is delivered into the mailbox counts as delivered there
counts_one : (by : Actor) (with : Option Actor) (timer : _) (wheel : ℕ) → by ≡ Sched wheel
    → has_actor (record { by = by; with = with; event = Deliver timer }) (MailOf 0) ≡ true
    → counts 0 (record { by = by; with = with; event = Deliver timer }) ≡ 1
counts_one by with timer wheel sched has =
    let in_with : is_with with (MailOf 0) ≡ true = rw sched at has in
    rw in_with refl

queue_grows : (g : Settings) (n : ℕ) (s : State) (by : Actor) (with : Option Actor) (event : Event) (x : MailState) → IsKept n s → Keeps g by with event
    → EventFits n 0 event → has_actor (record { by = by; with = with; event = event }) (MailOf 0) ≡ true
    → length (mail_after s.scheds x event).queue ≤ length x.queue + counts 0 (record { by = by; with = with; event = event })
queue_grows g n s by with (Deliver timer) x kept keeps fits has =
    let one = message_one (s.scheds timer.wheel).expired in
    let both = length-append x.queue (message_in (s.scheds timer.wheel).expired) in
    rw (counts_one by with timer timer.wheel keeps.0 has) (omega (arith, one, both))
queue_grows g n s by with (Answer wheel left) x kept keeps fits has = rw (kept.hands wheel, append-nil) (same_or (length x.queue) _)
queue_grows g n s by with (Take process got) x kept keeps fits has =
    let fewer = others_fewer x.queue in
    omega (arith, fewer)
queue_grows g n s by with (Tell process offset) x kept keeps fits has = absurd fits
queue_grows g n s by with _ x kept keeps fits has = same_or (length x.queue) _

next_grows : (g : Settings) (n : ℕ) (s : State) (e : Entry) → IsKept n s → Can g s e → EventFits n 0 e.event
    → length ((next g s e).mails 0).queue ≤ length (s.mails 0).queue + counts 0 e
next_grows g n s e kept can fits = at (has_actor e (MailOf 0)) refl
  where
    at : (b : Bool) → has_actor e (MailOf 0) ≡ b → length (cond b (mail_after s.scheds (s.mails 0) e.event) (s.mails 0)).queue ≤ length (s.mails 0).queue + counts 0 e
    at true has = queue_grows g n s e.by e.with e.event (s.mails 0) kept can.keeps fits has
    at false has = same_or (length (s.mails 0).queue) (counts 0 e)

counted : (p : ℕ) (e : Entry) (es : List Entry) → deliveries p (e ∷ es) ≡ counts p e + deliveries p es
counted p e es = at (delivers_to p e)
  where
    at : (b : Bool) → length (cond b (e ∷ filter (delivers_to p) es) (filter (delivers_to p) es)) ≡ cond b 1 0 + length (filter (delivers_to p) es)
    at true = omega arith
    at false = omega arith

run_grows : (g : Settings) (n : ℕ) (s : State) (es : List Entry) → IsKept n s → LegalFrom g s es → AllFit n 0 es
    → length ((run g s es).mails 0).queue ≤ length (s.mails 0).queue + deliveries 0 es
run_grows g n s [] kept legal fit = same_or (length (s.mails 0).queue) _
run_grows g n s (e ∷ es) kept legal fit =
    let one = next_grows g n s e kept legal.0 fit.0 in
    let rest = run_grows g n (next g s e) es (kept_next g n s e kept legal.0 fit.0) legal.1 fit.1 in
    let sum = counted 0 e es in
    omega (arith, one, rest, sum)

-- so they can be counted
pub few_waiting : (n : ℕ) (w : Seen) → StandsFor w.settings w.history w → FitsRows n w → length (waiting w) ≤ 2 ^ 63
few_waiting n w stands fits =
    let grown = run_grows w.settings n (opening w.settings) w.history (kept_opening w.settings n) stands.clock.legal fits.entries in
    let two = fits.processes in
    let few = delivered_few w.settings w.history stands.checked stands.clock.legal 1 (omega (arith, two)) in
    omega (arith, grown, few)
