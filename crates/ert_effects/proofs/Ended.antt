-- What the entries of the calls tell, alone and beside others.

use Rattle.std.proofs.Common.{◌≡◌, ℕ, zero, suc, ◌+◌, ◌*◌, Bool, true, false, not, cond, List, [], ◌∷◌, filter, Option, Some, None, Result, Ok, Err, is_ok, refl, sym, ap, ◌∙◌, arith}
use Rattle.ert_effects.proofs.{Advanced.advance_is, Sums.{sum-cons, IsSum, alone_sum, beside_sum, step_sum, then_sum, none_sum}, Turning.{Weighs, advance_sum, serve_sum, delivers_sum, turn_sum}}
use Rattle.ert_effects.specs.{Chains.{Serves, Delivers, HasTurned, SweepsWheel, SweepsWheels, Exits}, RequestCalls.Asks, Ways.{Way, alone, beside}, WheelCalls.{Try, Advances, MarksExit, Sweeps, orphans_by, orphan_entries}}
use Rattle.ert_effects.specs.{declared.answers.Turned.Turned, Told.{by_answer, by_expiry, by_delivery, by_drop, by_advance, by_exit, by_ask, sum_of, served_by, turn_in, LawOfToldServes, LawOfToldDeliveries, LawOfToldTurns, LawOfToldExits}}
use Rattle.ert_effects.specs.{Told.LawOfToldAsks}
use Rattle.ert_defs.specs.{Entries.{is_ours, mark_entry}, declared.entry.Actor.TheVariants.{Wheel, Inbox, Caller}, declared.entry.Entry.Entry, declared.entry.Event.Event, declared.entry.Event.TheVariants.{Expire, Deliver, Drop, Advanced}}
use Rattle.ert_defs.specs.{declared.entry.Event.TheVariants.Answer, declared.mail.Request.Request, declared.memory.NoMemory.NoMemory, declared.settings.Settings.Settings, declared.timer.Status.Status, declared.timer.TimerRef.TimerRef}

answers_weigh : Weighs by_answer 1 0 0 0 (λ _. 0)
answers_weigh (Answer wheel left) = refl
answers_weigh _ = refl

expiries_weigh : Weighs by_expiry 0 1 0 0 (λ _. 0)
expiries_weigh (Expire timer) = refl
expiries_weigh _ = refl

deliveries_weigh : Weighs by_delivery 0 0 1 0 (λ _. 0)
deliveries_weigh (Deliver timer) = refl
deliveries_weigh _ = refl

drops_weigh : Weighs by_drop 0 0 0 1 (λ _. 0)
drops_weigh (Drop timer) = refl
drops_weigh _ = refl

advances_weigh : Weighs by_advance 0 0 0 0 (λ time. time)
advances_weigh (Advanced wheel time) = refl
advances_weigh _ = refl

-- the answer of a turn
abbrev turned_of : ℕ → ℕ → ℕ → ℕ → ℕ → Turned
turned_of served to expired put dropped = record { served = served; to = to; expired = expired; put = put; dropped = dropped }

turned_same : (a b : Turned) → a.served ≡ b.served → a.to ≡ b.to → a.expired ≡ b.expired → a.put ≡ b.put → a.dropped ≡ b.dropped → a ≡ b
turned_same a b served to expired put dropped =
    ap (λ (x : ℕ). turned_of x a.to a.expired a.put a.dropped) served
    ∙ (ap (λ (x : ℕ). turned_of b.served x a.expired a.put a.dropped) to
    ∙ (ap (λ (x : ℕ). turned_of b.served b.to x a.put a.dropped) expired
    ∙ (ap (λ (x : ℕ). turned_of b.served b.to b.expired x a.dropped) put
    ∙ ap (λ (x : ℕ). turned_of b.served b.to b.expired b.put x) dropped)))

-- a pair of answers
pair_same : (a b : ℕ × ℕ) → a.0 ≡ b.0 → a.1 ≡ b.1 → a ≡ b
pair_same a b first second = grind arith

-- of a call made in a way, where `own` gives what it has in a piece
module _ (g : Settings) (w : ℕ) (way : Way) (own : List Entry → List Entry)
    (sums : (f : Event → ℕ) → IsSum f way (λ m. sum_of f (own m))) where
  serve_tells : (r : Result Bool NoMemory) (h m : List Entry) → Serves g way w r h m → served_by r ≡ sum_of by_answer (own m)
  serve_tells r h m made =
      let sum = serve_sum by_answer 1 0 0 0 (λ _. 0) answers_weigh g w way (λ m. sum_of by_answer (own m)) (sums by_answer) r h m made in
      omega (arith, sum)

  deliver_tells : (answer : ℕ × ℕ) (h m : List Entry) → Delivers g way w (Ok answer) h m
      → answer ≡ (sum_of by_delivery (own m), sum_of by_drop (own m))
  deliver_tells answer h m made =
      let put = delivers_sum by_delivery 0 0 1 0 (λ _. 0) deliveries_weigh g w way (λ m. sum_of by_delivery (own m)) (sums by_delivery) answer h m made in
      let thrown = delivers_sum by_drop 0 0 0 1 (λ _. 0) drops_weigh g w way (λ m. sum_of by_drop (own m)) (sums by_drop) answer h m made in
      pair_same answer (sum_of by_delivery (own m), sum_of by_drop (own m)) (omega (arith, put)) (omega (arith, thrown))

-- a turn
module _ (g : Settings) (w : ℕ) (way : Way) (own : List Entry → List Entry)
    (sums : (f : Event → ℕ) → IsSum f way (λ m. sum_of f (own m))) where
  sum_in_turn : (f : Event → ℕ) (answer expiry put thrown : ℕ) (to : ℕ → ℕ) → Weighs f answer expiry put thrown to → (t : Turned) (h m : List Entry)
      → HasTurned g way w t h m
      → sum_of f (own m) ≡ t.served * answer + ((to t.to + t.expired * expiry) + (t.put * put + t.dropped * thrown))
  sum_in_turn f answer expiry put thrown to weighs t h m made =
      turn_sum f answer expiry put thrown to weighs g w way (λ m. sum_of f (own m)) (sums f) t h m
      (λ a h m step. step_sum f way (λ m. sum_of f (own m)) (sums f) (Wheel w ∷ []) (Advances g w (Ok a)) h m (to a.0 + a.1 * expiry)
      (λ s es made. advance_sum f answer expiry put thrown to weighs w a es (advance_is w a es made)) step)
      made

  turn_tells : (t : Turned) (h m : List Entry) → HasTurned g way w t h m → t ≡ turn_in (own m)
  turn_tells t h m made =
      turned_same t (turn_in (own m)) (omega (arith, sum_in_turn by_answer 1 0 0 0 (λ _. 0) answers_weigh t h m made))
      (omega (arith, sum_in_turn by_advance 0 0 0 0 (λ time. time) advances_weigh t h m made))
      (omega (arith, sum_in_turn by_expiry 0 1 0 0 (λ _. 0) expiries_weigh t h m made))
      (omega (arith, sum_in_turn by_delivery 0 0 1 0 (λ _. 0) deliveries_weigh t h m made))
      (omega (arith, sum_in_turn by_drop 0 0 0 1 (λ _. 0) drops_weigh t h m made))

pub serves_tell : LawOfToldServes
serves_tell w g r h m = (
  serve_tells g w (alone g) (λ m. m) (λ f. alone_sum f g) r h m,
  λ a. serve_tells g w (beside g a) (filter (is_ours (a ∷ []))) (λ f. beside_sum f g a) r h m,
)

pub deliveries_tell : LawOfToldDeliveries
deliveries_tell w g answer h m = (
  deliver_tells g w (alone g) (λ m. m) (λ f. alone_sum f g) answer h m,
  λ a. deliver_tells g w (beside g a) (filter (is_ours (a ∷ []))) (λ f. beside_sum f g a) answer h m,
)

pub turns_tell : LawOfToldTurns
turns_tell w g t h m = (
  turn_tells g w (alone g) (λ m. m) (λ f. alone_sum f g) t h m,
  λ a. turn_tells g w (beside g a) (filter (is_ours (a ∷ []))) (λ f. beside_sum f g a) t h m,
)

-- an exit marks once, and then sweeps
module _ (g : Settings) (by process : ℕ) (way : Way) (count : List Entry → ℕ) (sums : IsSum by_exit way count) where
  orphan_none : (w : ℕ) (timer : TimerRef) (missed : Option (Option Status)) → by_exit (orphans_by by w timer missed).event ≡ 0
  orphan_none w timer None = refl
  orphan_none w timer (Some found) = refl

  orphans_none : (w : ℕ) (tries : List Try) → sum_of by_exit (orphan_entries by w tries) ≡ 0
  orphans_none w [] = refl
  orphans_none w (t ∷ tries) =
      sum-cons by_exit (orphans_by by w t.timer t.missed) (orphan_entries by w tries)
      ∙ omega (arith, orphan_none w t.timer t.missed, orphans_none w tries)

  sweeps_none : (w n : ℕ) (h m : List Entry) → SweepsWheels g way by process w n h m → count m ≡ 0
  sweeps_none w zero h m made = none_sum by_exit way count sums m made
  sweeps_none w (suc n) h m made =
      then_sum by_exit way count sums (SweepsWheel g way by process w) (SweepsWheels g way by process (suc w) n) h m 0 0
      (λ h m one. step_sum by_exit way count sums (Wheel w ∷ []) (Sweeps g by w process) h m 0
      (λ s es sweeps. ap (λ (l : List Entry). sum_of by_exit l) sweeps.entries ∙ orphans_none w sweeps.tries) one.steps)
      (λ h m rest. sweeps_none (suc w) n h m rest) made

  mark_sum : (answer : Bool) → sum_of by_exit (mark_entry (Caller by) process true (not answer) ∷ []) ≡ cond answer 1 0
  mark_sum true = refl
  mark_sum false = refl

  marks_sum : (answer : Bool) (h m : List Entry) → way [] (MarksExit g (Caller by) process answer) h m → count m ≡ cond answer 1 0
  marks_sum answer h m made =
      step_sum by_exit way count sums [] (MarksExit g (Caller by) process answer) h m (cond answer 1 0)
      (λ s es marks. ap (λ (l : List Entry). sum_of by_exit l) marks ∙ mark_sum answer) made

  exit_sum : (answer : Bool) (h m : List Entry) → Exits g way by process answer h m → count m ≡ cond answer 1 0
  exit_sum true h m made =
      then_sum by_exit way count sums (way [] (MarksExit g (Caller by) process true)) (SweepsWheels g way by process 0 g.schedulers) h m 1 0
      (λ h m marks. marks_sum true h m marks) (λ h m sweeps. sweeps_none 0 g.schedulers h m sweeps) made
  exit_sum false h m made = marks_sum false h m made

pub exits_tell : LawOfToldExits
exits_tell by process g answer h m = (
  λ made. sym (exit_sum g by process (alone g) (sum_of by_exit) (alone_sum by_exit g) answer h m made),
  λ a made.
      sym (exit_sum g by process (beside g a) (λ m. sum_of by_exit (filter (is_ours (a ∷ [])) m)) (beside_sum by_exit g a) answer h m made),
)

-- an ask asks, or makes no entry
ask_sum : (way : Way) (count : List Entry → ℕ) → IsSum by_ask way count → (g : Settings) (by w : ℕ) (request : Request)
    (answer : Result (Unit {0}) NoMemory) (h m : List Entry) → way (Inbox w ∷ []) (Asks g by w request answer) h m → count m ≡ cond (is_ok answer) 1 0
ask_sum way count sums g by w request (Ok one) h m made =
    step_sum by_ask way count sums (Inbox w ∷ []) (Asks g by w request (Ok one)) h m 1 (λ s es asks. ap (λ (l : List Entry). sum_of by_ask l) asks) made
ask_sum way count sums g by w request (Err e) h m made =
    step_sum by_ask way count sums (Inbox w ∷ []) (Asks g by w request (Err e)) h m 0 (λ s es none. ap (λ (l : List Entry). sum_of by_ask l) none) made

pub asks_tell : LawOfToldAsks
asks_tell by w request g answer h m = (
  λ made. sym (ask_sum (alone g) (sum_of by_ask) (alone_sum by_ask g) g by w request answer h m made),
  λ a made.
      sym (ask_sum (beside g a) (λ m. sum_of by_ask (filter (is_ours (a ∷ [])) m)) (beside_sum by_ask g a) g by w request answer h m made),
)
