-- The sum of a number of each event over what a scheduler makes in its calls.

use Rattle.std.proofs.Common.{◌≡◌, ℕ, zero, suc, ◌+◌, ◌*◌, Bool, true, false, cond, List, [], ◌∷◌, ◌++◌, Option, Some, None, Result, Ok, Err, refl, ap, ◌∙◌, arith}
use Rattle.std.specs.Prelude.{nat_lt}
use Rattle.ert_effects.proofs.{Advanced.IsAdvance, Sums.{sum-cons, sum-append, IsSum, step_sum, then_sum, none_sum}}
use Rattle.ert_effects.specs.{Chains.{HoldsBy, Serves, HasServed, ServesAll, ServesMany, AdvancesWheel, Hands, HandsMany, Delivers, HasTurned, put_by, puts, dropped_by, drops}, MailCalls.{handed_entries, HandsOver}, RequestCalls.Picks}
use Rattle.ert_effects.specs.{RequestCalls.{Answers, DoesAsked, HasAnswered}, TimerCalls.{read_entries, cancel_entries}, Ways.{Way, Then}, WheelCalls.{Try, expires_by, expiry_entries, hit_by, hits}, declared.answers.Handed.Handed}
use Rattle.ert_effects.specs.{declared.answers.Handed.TheVariants.{Put, Dropped}, declared.answers.Turned.Turned, Told.{sum_of, served_by}}
use Rattle.ert_defs.specs.{Entries.{look_entry, peek_entry, cancel_entry, pick_entry, mark_entry, deliver_entry, drop_entry, answer_entry, advanced_entry}, Legal.names_timer, States.{State, state}, Timers.Row, declared.entry.Actor.Actor}
use Rattle.ert_defs.specs.{declared.entry.Actor.TheVariants.{Inbox, MailOf, Sched}, declared.entry.Entry.Entry, declared.entry.Event.Event, declared.entry.Event.TheVariants.{Look, Probe, Peek, Cancel, Expire, Deliver, Drop, Mark, Advanced}}
use Rattle.ert_defs.specs.{declared.entry.Event.TheVariants.{Pick, Answer}, declared.mail.Request.Request, declared.mail.RequestKind.RequestKind, declared.mail.RequestKind.TheVariants.{Cancel as ToCancel, Read as ToRead}}
use Rattle.ert_defs.specs.{declared.memory.NoMemory.NoMemory, declared.settings.Settings.Settings, declared.timer.Status.Status, declared.timer.TimerRef.TimerRef}

-- what an event of a scheduler's calls counts: an answer, an expiry, a message that is put or thrown away, and the
-- record of an advance; all others nothing
abbrev pub weight : ℕ → ℕ → ℕ → ℕ → (ℕ → ℕ) → Event → ℕ
weight answer expiry put thrown to (Answer wheel left) = answer
weight answer expiry put thrown to (Expire timer) = expiry
weight answer expiry put thrown to (Deliver timer) = put
weight answer expiry put thrown to (Drop timer) = thrown
weight answer expiry put thrown to (Advanced wheel time) = to time
weight answer expiry put thrown to _ = 0

-- a number of each event counts them so
abbrev pub Weighs : (Event → ℕ) → ℕ → ℕ → ℕ → ℕ → (ℕ → ℕ) → Type 0
Weighs f answer expiry put thrown to = (event : Event) → f event ≡ weight answer expiry put thrown to event

module _ (f : Event → ℕ) (answer expiry put thrown : ℕ) (to : ℕ → ℕ) (is : Weighs f answer expiry put thrown to) where
  read_none : (names : Bool) (by : Actor) (timer : TimerRef) (left : Option ℕ) → sum_of f (read_entries names by timer left) ≡ 0
  read_none false by timer left = refl
  read_none true by timer left = sum-cons f (peek_entry by timer left) [] ∙ omega (arith, is (Peek timer left))

  cancel_none : (names : Bool) (by : Actor) (timer : TimerRef) (found left : Option ℕ) → sum_of f (cancel_entries names by timer found left) ≡ 0
  cancel_none false by timer found left = refl
  cancel_none true by timer None left = sum-cons f (peek_entry by timer None) [] ∙ omega (arith, is (Peek timer None))
  cancel_none true by timer (Some found) left =
      sum-cons f (peek_entry by timer (Some found)) (cancel_entry by timer left ∷ [])
      ∙ omega (arith, is (Peek timer (Some found)), sum-cons f (cancel_entry by timer left) [], is (Cancel timer left))

  asked_none : (kind : RequestKind) (g : Settings) (w : ℕ) (timer : TimerRef) (left : Option ℕ) (s : State) (es : List Entry)
      → DoesAsked kind g w timer left s es → sum_of f es ≡ 0
  asked_none ToCancel g w timer left s es done =
      ap (λ (l : List Entry). sum_of f l) done.entries
      ∙ (sum-cons f (look_entry (Sched w) done.now) (cancel_entries (names_timer g timer) (Sched w) timer done.found left)
      ∙ omega (arith, is (Look done.now), cancel_none (names_timer g timer) (Sched w) timer done.found left))
  asked_none ToRead g w timer left s es done =
      ap (λ (l : List Entry). sum_of f l) done.entries
      ∙ (sum-cons f (look_entry (Sched w) done.now) (read_entries (names_timer g timer) (Sched w) timer left)
      ∙ omega (arith, is (Look done.now), read_none (names_timer g timer) (Sched w) timer left))

  answered_sum : (g : Settings) (w : ℕ) (request : Request) (left : Option ℕ) (s : State) (es : List Entry) → HasAnswered g w request left s es
      → sum_of f es ≡ answer
  answered_sum g w request left s es answered =
      let last : Entry = answer_entry w request.reply_to left in
      ap (λ (l : List Entry). sum_of f l) answered.entries ∙ (sum-append f answered.steps (last ∷ [])
      ∙ omega (
        arith,
        asked_none request.kind g w request.timer left s answered.steps answered.done,
        sum-cons f last [],
        is (Answer w left),
      ))

  handed_sum : (w : ℕ) (expired : Row) (how : Handed) → sum_of f (handed_entries w expired how) ≡ put_by how * put + dropped_by how * thrown
  handed_sum w expired Put =
      let last : Entry = deliver_entry w expired.dest expired.timer in
      sum-cons f (mark_entry (Sched w) expired.dest false false) (last ∷ [])
      ∙ omega (arith, is (Mark expired.dest false false), sum-cons f last [], is (Deliver expired.timer))
  handed_sum w expired Dropped =
      let last : Entry = drop_entry w expired.timer in
      sum-cons f (mark_entry (Sched w) expired.dest false true) (last ∷ [])
      ∙ omega (arith, is (Mark expired.dest false true), sum-cons f last [], is (Drop expired.timer))

  try_sum : (w : ℕ) (timer : TimerRef) (missed : Option (Option Status)) → f (expires_by w timer missed).event ≡ hit_by missed * expiry
  try_sum w timer None = is (Expire timer) ∙ omega arith
  try_sum w timer (Some found) = is (Probe w timer.slot found) ∙ omega arith

  tries_sum : (w : ℕ) (tries : List Try) → sum_of f (expiry_entries w tries) ≡ hits tries * expiry
  tries_sum w [] = omega arith
  tries_sum w (t ∷ tries) =
      sum-cons f (expires_by w t.timer t.missed) (expiry_entries w tries)
      ∙ omega (arith, try_sum w t.timer t.missed, tries_sum w tries)

  pub advance_sum : (w : ℕ) (answer : ℕ × ℕ) (es : List Entry) → IsAdvance w answer es → sum_of f es ≡ to answer.0 + answer.1 * expiry
  advance_sum w answer es advance =
      let tries : List Entry = expiry_entries w advance.tries in
      let last : Entry = advanced_entry w answer.0 in
      ap (λ (l : List Entry). sum_of f l) advance.entries
      ∙ (sum-cons f (look_entry (Sched w) advance.now) (tries ++ last ∷ [])
      ∙ omega (
        arith,
        is (Look advance.now),
        sum-append f tries (last ∷ []),
        sum-cons f last [],
        is (Advanced w answer.0),
        tries_sum w advance.tries,
        ap (λ n. n * expiry) advance.expired,
      ))

  module _ (g : Settings) (w : ℕ) (way : Way) (count : List Entry → ℕ) (sums : IsSum f way count) where
    holds_none : (hand got : Option Request) (h m : List Entry) → HoldsBy hand way g w got h m → count m ≡ 0
    holds_none (Some request) got h m held = none_sum f way count sums m held.1
    holds_none None got h m held =
        step_sum f way count sums (Inbox w ∷ []) (Picks g w got) h m 0
        (λ s es picks. ap (λ (l : List Entry). sum_of f l) picks ∙ (sum-cons f (pick_entry w got) [] ∙ omega (arith, is (Pick w got)))) held

    served_sum : (h m : List Entry) → HasServed g way w h m → count m ≡ answer
    served_sum h m served =
        then_sum f way count sums _ _ h m 0 answer (λ h m held. holds_none ((state g h).scheds w).hand (Some served.request) h m held)
        (λ h m made. step_sum f way count sums (MailOf served.request.reply_to ∷ []) (Answers g w served.request (Ok served.left)) h m answer
        (λ s es answered. answered_sum g w served.request served.left s es answered) made) served.steps
        ∙ omega arith

    pub serve_sum : (r : Result Bool NoMemory) (h m : List Entry) → Serves g way w r h m → count m ≡ served_by r * answer
    serve_sum (Ok true) h m served = served_sum h m served ∙ omega arith
    serve_sum (Ok false) h m held = holds_none ((state g h).scheds w).hand None h m held ∙ omega arith
    serve_sum (Err e) h m not =
        then_sum f way count sums _ _ h m 0 0 (λ h m held. holds_none ((state g h).scheds w).hand (Some not.request) h m held)
        (λ h m made. step_sum f way count sums (MailOf not.request.reply_to ∷ []) (Answers g w not.request (Err e)) h m 0
        (λ s es none. ap (λ (l : List Entry). sum_of f l) none) made) not.steps
        ∙ omega arith

    serves_many_sum : (n : ℕ) (h m : List Entry) → ServesMany g way w n h m → count m ≡ n * answer
    serves_many_sum zero h m made = none_sum f way count sums m made ∙ omega arith
    serves_many_sum (suc n) h m made =
        then_sum f way count sums (Serves g way w (Ok true)) (ServesMany g way w n) h m answer (n * answer) (λ h m served. served_sum h m served)
        (λ h m many. serves_many_sum n h m many) made
        ∙ omega arith

    serves_all_sum : (n : ℕ) (h m : List Entry) → ServesAll g way w (Ok n) h m → count m ≡ n * answer
    serves_all_sum n h m served = at (nat_lt n 64) served.1
      where
        at : (b : Bool) → cond b (Then (ServesMany g way w n) (Serves g way w (Ok false)) h m) (ServesMany g way w n h m) → count m ≡ n * answer
        at true made =
            then_sum f way count sums (ServesMany g way w n) (Serves g way w (Ok false)) h m (n * answer) 0 (λ h m many. serves_many_sum n h m many)
            (λ h m held. holds_none ((state g h).scheds w).hand None h m held) made
            ∙ omega arith
        at false made = serves_many_sum n h m made

    hands_sum : (how : Handed) (h m : List Entry) → Hands g way w (Ok how) h m → count m ≡ put_by how * put + dropped_by how * thrown
    hands_sum how h m hands =
        step_sum f way count sums (MailOf hands.expired.dest ∷ []) (HandsOver g w hands.expired (Ok how)) h m (put_by how * put + dropped_by how * thrown)
        (λ s es handed. ap (λ (l : List Entry). sum_of f l) handed ∙ handed_sum w hands.expired how) hands.step

    hands_many_sum : (hows : List Handed) (h m : List Entry) → HandsMany g way w hows h m → count m ≡ puts hows * put + drops hows * thrown
    hands_many_sum [] h m made = none_sum f way count sums m made ∙ omega arith
    hands_many_sum (how ∷ hows) h m made =
        then_sum f way count sums (Hands g way w (Ok how)) (HandsMany g way w hows) h m (put_by how * put + dropped_by how * thrown)
        (puts hows * put + drops hows * thrown) (λ h m hands. hands_sum how h m hands) (λ h m many. hands_many_sum hows h m many) made
        ∙ omega arith

    pub delivers_sum : (answer : ℕ × ℕ) (h m : List Entry) → Delivers g way w (Ok answer) h m → count m ≡ answer.0 * put + answer.1 * thrown
    delivers_sum answer h m delivered =
        hands_many_sum delivered.hows h m delivered.runs
        ∙ omega (arith, ap (λ n. n * put) delivered.put_is, ap (λ n. n * thrown) delivered.dropped_is)

    pub turn_sum : (t : Turned) (h m : List Entry)
        → ((answer : ℕ × ℕ) (h m : List Entry) → AdvancesWheel g way w (Ok answer) h m → count m ≡ to answer.0 + answer.1 * expiry) → HasTurned g way w t h m
        → count m ≡ t.served * answer + ((to t.to + t.expired * expiry) + (t.put * put + t.dropped * thrown))
    turn_sum t h m each turned =
        then_sum f way count sums (ServesAll g way w (Ok t.served)) (Then (AdvancesWheel g way w (Ok (t.to, t.expired))) (Delivers g way w (Ok (t.put, t.dropped)))) h m
        (t.served * answer) ((to t.to + t.expired * expiry) + (t.put * put + t.dropped * thrown)) (λ h m served. serves_all_sum t.served h m served)
        (λ h m rest. then_sum f way count sums (AdvancesWheel g way w (Ok (t.to, t.expired))) (Delivers g way w (Ok (t.put, t.dropped))) h m (to t.to + t.expired * expiry)
        (t.put * put + t.dropped * thrown) (each (t.to, t.expired)) (λ h m delivered. delivers_sum (t.put, t.dropped) h m delivered) rest)
        turned
