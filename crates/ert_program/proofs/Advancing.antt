-- In each turn a scheduler records once that its wheel was advanced.

use Rattle.std.proofs.Common.{◌≡◌, ℕ, suc, ◌+◌, Bool, true, false, cond, List, [], ◌∷◌, ◌++◌, length, length-append, filter, Option, Some, None, Ok, refl, sym, ap, ◌∙◌, arith}
use Rattle.std.specs.Prelude.{nat_lt}
use Rattle.std.proofs.lemmas.List.Elements.{filter-append}
use Rattle.ert_effects.proofs.{Growing.whole_own, Advanced.{IsAdvance, advance_is}}
use Rattle.ert_effects.specs.{Chains.{HoldsBy, Serves, ServesAll, ServesMany, AdvancesWheel, Hands, Delivers, HasTurned, Turns, units}, MailCalls.{handed_entries, HandsOver}, RequestCalls.{Picks, Answers, DoesAsked, HasAnswered}}
use Rattle.ert_effects.specs.{TimerCalls.{read_entries, cancel_entries}, Ways.{Step, Growth, Way, Then, Many, alone, beside}, WheelCalls.{Try, expires_by, expiry_entries, Advances}, declared.answers.Handed.Handed}
use Rattle.ert_effects.specs.{declared.answers.Handed.TheVariants.{Put, Dropped}, declared.answers.Turned.Turned}
use Rattle.ert_defs.specs.{Actors.{of, has_actor}, Entries.{is_ours, answer_entry, advanced_entry}, Legal.names_timer, States.{State, state}, Timers.Row, declared.entry.Actor.Actor, declared.entry.Actor.TheVariants.{Wheel, Inbox, MailOf}}
use Rattle.ert_defs.specs.{declared.entry.Actor.TheVariants.Sched, declared.entry.Entry.Entry, declared.mail.Request.Request, declared.mail.RequestKind.RequestKind, declared.mail.RequestKind.TheVariants.{Cancel, Read}}
use Rattle.ert_defs.specs.{declared.settings.Settings.Settings, declared.timer.Status.Status, declared.timer.TimerRef.TimerRef}
use Rattle.ert_program.proofs.Kept.{in_pieces}
use Rattle.ert_program.specs.{Laws.{is_advance, advances, LawOfAdvancesInTurns, LawOfAdvancesInRound}, Made.RoundOfTurns}

advances-append : (a b : List Entry) → advances (a ++ b) ≡ advances a + advances b
advances-append a b =
    ap (λ (l : List Entry). length l) (filter-append (λ (e : Entry). is_advance e.event) a b)
    ∙ length-append (filter (λ (e : Entry). is_advance e.event) a) (filter (λ (e : Entry). is_advance e.event) b)

-- no step of a turn records it but the advance
read_none : (names : Bool) (by : Actor) (timer : TimerRef) (left : Option ℕ) → advances (read_entries names by timer left) ≡ 0
read_none false by timer left = refl
read_none true by timer left = refl

cancel_none : (names : Bool) (by : Actor) (timer : TimerRef) (found left : Option ℕ) → advances (cancel_entries names by timer found left) ≡ 0
cancel_none false by timer found left = refl
cancel_none true by timer None left = refl
cancel_none true by timer (Some found) left = refl

asked_none : (kind : RequestKind) (g : Settings) (w : ℕ) (timer : TimerRef) (left : Option ℕ) (s : State) (es : List Entry)
    → DoesAsked kind g w timer left s es → advances es ≡ 0
asked_none Cancel g w timer left s es done =
    ap (λ (l : List Entry). advances l) done.entries ∙ cancel_none (names_timer g timer) (Sched w) timer done.found left
asked_none Read g w timer left s es done =
    ap (λ (l : List Entry). advances l) done.entries ∙ read_none (names_timer g timer) (Sched w) timer left

answered_none : (g : Settings) (w : ℕ) (request : Request) (left : Option ℕ) (s : State) (es : List Entry) → HasAnswered g w request left s es
    → advances es ≡ 0
answered_none g w request left s es answered =
    let last : List Entry = answer_entry w request.reply_to left ∷ [] in
    ap (λ (l : List Entry). advances l) answered.entries ∙ (advances-append answered.steps last
    ∙ ap (λ n. n + 0) (asked_none request.kind g w request.timer left s answered.steps answered.done))

handed_none : (w : ℕ) (expired : Row) (how : Handed) → advances (handed_entries w expired how) ≡ 0
handed_none w expired Put = refl
handed_none w expired Dropped = refl

expiry_none : (w : ℕ) (tries : List Try) → advances (expiry_entries w tries) ≡ 0
expiry_none w [] = refl
expiry_none w (t ∷ tries) = at t.missed (expiry_none w tries)
  where
    at : (missed : Option (Option Status)) → advances (expiry_entries w tries) ≡ 0
        → advances (expires_by w t.timer missed ∷ expiry_entries w tries) ≡ 0
    at None rest = rest
    at (Some found) rest = rest

-- the advance records it once
advanced_once : (w : ℕ) (answer : ℕ × ℕ) (es : List Entry) → IsAdvance w answer es → advances es ≡ 1
advanced_once w answer es advance =
    ap (λ (l : List Entry). advances l) advance.entries
    ∙ (advances-append (expiry_entries w advance.tries) (advanced_entry w answer.0 ∷ [])
    ∙ ap (λ n. n + 1) (expiry_none w advance.tries))

-- a count of the records in pieces that come about by a way
record IsCount (way : Way) (count : List Entry → ℕ) : Type 1 where
  none : count [] ≡ 0
  both : (a b : List Entry) → count (a ++ b) ≡ count a + count b
  step : (parts : List Actor) (allows : Step) (h m : List Entry) → way parts allows h m
      → (s : State) × (es : List Entry) × allows s es × (count m ≡ advances es)

step_count : (way : Way) (count : List Entry → ℕ) → IsCount way count → (parts : List Actor) (allows : Step) (h m : List Entry) (n : ℕ)
    → ((s : State) (es : List Entry) → allows s es → advances es ≡ n) → way parts allows h m → count m ≡ n
step_count way count is parts allows h m n all made =
    let told = is.step parts allows h m made in told.3 ∙ all told.0 told.1 told.2

then_count : (way : Way) (count : List Entry → ℕ) → IsCount way count → (first second : Growth) (h m : List Entry) (a b : ℕ)
    → ((h m : List Entry) → first h m → count m ≡ a) → ((h m : List Entry) → second h m → count m ≡ b) → Then first second h m → count m ≡ a + b
then_count way count is first second h m a b one other made =
    ap (λ (l : List Entry). count l) made.joined ∙ (is.both made.before made.after
    ∙ (ap (λ n. n + count made.after) (one h made.before made.one) ∙ ap (λ n. a + n) (other (h ++ made.before) made.after made.other)))

many_none : (way : Way) (count : List Entry → ℕ) → IsCount way count → {A : Type 0} (call : A → Growth) (answers : List A) (h m : List Entry)
    → ((x : A) (h m : List Entry) → call x h m → count m ≡ 0) → Many call answers h m → count m ≡ 0
many_none way count is call [] h m each made = ap (λ (l : List Entry). count l) made ∙ is.none
many_none way count is call (x ∷ xs) h m each made =
    then_count way count is (call x) (Many call xs) h m 0 0 (each x) (λ h m rest. many_none way count is call xs h m each rest) made

module _ (g : Settings) (w : ℕ) (way : Way) (count : List Entry → ℕ) (is : IsCount way count) where
  holds_none : (hand got : Option Request) (h m : List Entry) → HoldsBy hand way g w got h m → count m ≡ 0
  holds_none (Some request) got h m held = ap (λ (l : List Entry). count l) held.1 ∙ is.none
  holds_none None got h m held =
      step_count way count is (Inbox w ∷ []) (Picks g w got) h m 0 (λ s es picks. ap (λ (l : List Entry). advances l) picks) held

  serves_none : (h m : List Entry) → Serves g way w (Ok true) h m → count m ≡ 0
  serves_none h m served =
      then_count way count is _ _ h m 0 0 (λ h m held. holds_none ((state g h).scheds w).hand (Some served.request) h m held)
      (λ h m made. step_count way count is (MailOf served.request.reply_to ∷ []) (Answers g w served.request (Ok served.left)) h m 0
      (λ s es answered. answered_none g w served.request served.left s es answered) made) served.steps

  serves_many_none : (n : ℕ) (h m : List Entry) → ServesMany g way w n h m → count m ≡ 0
  serves_many_none n h m made =
      many_none way count is (λ (one : Unit {0}). Serves g way w (Ok true)) (units n) h m (λ one h m served. serves_none h m served) made

  serves_all_none : (n : ℕ) (h m : List Entry) → ServesAll g way w (Ok n) h m → count m ≡ 0
  serves_all_none n h m served = at (nat_lt n 64) served.1
    where
      at : (b : Bool) → cond b (Then (ServesMany g way w n) (Serves g way w (Ok false)) h m) (ServesMany g way w n h m) → count m ≡ 0
      at true made =
          then_count way count is (ServesMany g way w n) (Serves g way w (Ok false)) h m 0 0 (λ h m many. serves_many_none n h m many)
          (λ h m held. holds_none ((state g h).scheds w).hand None h m held) made
      at false made = serves_many_none n h m made

  hands_none : (how : Handed) (h m : List Entry) → Hands g way w (Ok how) h m → count m ≡ 0
  hands_none how h m hands =
      step_count way count is (MailOf hands.expired.dest ∷ []) (HandsOver g w hands.expired (Ok how)) h m 0
      (λ s es handed. ap (λ (l : List Entry). advances l) handed ∙ handed_none w hands.expired how) hands.step

  turn_count : (t : Turned) (h m : List Entry) → HasTurned g way w t h m → count m ≡ 1
  turn_count t h m turned =
      then_count way count is (ServesAll g way w (Ok t.served)) (Then (AdvancesWheel g way w (Ok (t.to, t.expired))) (Delivers g way w (Ok (t.put, t.dropped)))) h m 0 1
      (λ h m served. serves_all_none t.served h m served)
      (λ h m rest. then_count way count is (AdvancesWheel g way w (Ok (t.to, t.expired))) (Delivers g way w (Ok (t.put, t.dropped))) h m 1 0
      (λ h m made. step_count way count is (Wheel w ∷ []) (Advances g w (Ok (t.to, t.expired))) h m 1
      (λ s es advanced. advanced_once w (t.to, t.expired) es (advance_is w (t.to, t.expired) es advanced)) made)
      (λ h m delivered. many_none way count is (λ how. Hands g way w (Ok how)) delivered.hows h m (λ how h m hands. hands_none how h m hands) delivered.runs) rest)
      turned

  turns_count : (turns : List Turned) (h m : List Entry) → Many (λ t. Turns g way w (Ok t)) turns h m → count m ≡ length turns
  turns_count [] h m made = ap (λ (l : List Entry). count l) made ∙ is.none
  turns_count (t ∷ turns) h m made =
      let both : count m ≡ 1 + length turns =
      then_count way count is (Turns g way w (Ok t)) (Many (λ t. Turns g way w (Ok t)) turns) h m 1 (length turns) (λ h m one. turn_count t h m one)
      (λ h m rest. turns_count turns h m rest) made in
      omega (arith, both)

-- the entries of an actor alone
own_of : (a : Actor) (es : List Entry) → filter (is_ours (a ∷ [])) es ≡ of es a
own_of a [] = refl
own_of a (e ∷ es) = at (has_actor e a) refl (own_of a es)
  where
    at : (b : Bool) → has_actor e a ≡ b → filter (is_ours (a ∷ [])) es ≡ of es a → filter (is_ours (a ∷ [])) (e ∷ es) ≡ of (e ∷ es) a
    at true is rest = rw is (ap (λ (l : List Entry). e ∷ l) rest)
    at false is rest = rw is rest

beside_count : (g : Settings) (w : ℕ) → IsCount (beside g (Sched w)) (λ m. advances (filter (is_ours (Sched w ∷ [])) m))
beside_count g w = record {
  none = refl;
  both = λ a b. ap (λ (l : List Entry). advances l) (filter-append (is_ours (Sched w ∷ [])) a b)
      ∙ advances-append (filter (is_ours (Sched w ∷ [])) a) (filter (is_ours (Sched w ∷ [])) b);
  step = λ parts allows h m made.
      (state g (h ++ made.before), made.entries, made.allowed, ap (λ (l : List Entry). advances l) (whole_own g (Sched w) parts allows h m made));
}

alone_count : (g : Settings) → IsCount (alone g) (λ m. advances m)
alone_count g = record {
  none = refl;
  both = advances-append;
  step = λ parts allows h m made. (state g h, m, made, refl);
}

pub turns_advance : LawOfAdvancesInTurns
turns_advance g w count h stretch turns =
    ap (λ (l : List Entry). advances l) (in_pieces (Sched w) _ h stretch turns.makes ∙ sym (own_of (Sched w) turns.makes.pieces))
    ∙ (turns_count g w (beside g (Sched w)) (λ m. advances (filter (is_ours (Sched w ∷ [])) m)) (beside_count g w) turns.turns h turns.makes.pieces turns.makes.made
    ∙ turns.counted)

round_count : (g : Settings) (w : ℕ) (turns : List Turned) (h m : List Entry) → RoundOfTurns g w turns h m → advances m ≡ length turns
round_count g w [] h m made = ap (λ (l : List Entry). advances l) made
round_count g w (t ∷ turns) h m made =
    let both : advances m ≡ 1 + length turns =
    then_count (alone g) (λ m. advances m) (alone_count g) (Turns g (alone g) w (Ok t)) (RoundOfTurns g (suc w) turns) h m 1 (length turns)
    (λ h m one. turn_count g w (alone g) (λ m. advances m) (alone_count g) t h m one) (λ h m rest. round_count g (suc w) turns h m rest) made in
    omega (arith, both)

pub rounds_advance : LawOfAdvancesInRound
rounds_advance g count h m round = round_count g 0 round.turns h m round.made ∙ round.counted
