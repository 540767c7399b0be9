-- Which answer the entries of a call tell, and the laws that each call answers so. The functions of src/laws.rt
-- carry the laws as contracts, so that they are proved.

use Rattle.std.specs.Prelude.{◌≡◌, ℕ, Bool, true, false, cond, sum_by, filter, List, [], ◌∷◌, Result, Ok, Err, is_ok}
use Rattle.ert_effects.specs.{Chains.{Serves, Delivers, Turns, Exits}, RequestCalls.Asks, Ways.{Growth, Way, alone, beside}, declared.answers.Turned.Turned}
use Rattle.ert_defs.specs.{Entries.is_ours, declared.entry.Actor.Actor, declared.entry.Actor.TheVariants.Inbox, declared.entry.Entry.Entry, declared.entry.Event.Event, declared.entry.Event.TheVariants.{Expire, Deliver, Drop, Mark}}
use Rattle.ert_defs.specs.{declared.entry.Event.TheVariants.{Advanced, Ask, Answer}, declared.mail.Request.Request, declared.memory.NoMemory.NoMemory, declared.settings.Settings.Settings}

-- 1 for an event that answers a request
abbrev pub by_answer : Event → ℕ
by_answer (Answer wheel left) = 1
by_answer _ = 0

-- 1 for a timer that expires
abbrev pub by_expiry : Event → ℕ
by_expiry (Expire timer) = 1
by_expiry _ = 0

-- 1 for a message that is put into a mailbox
abbrev pub by_delivery : Event → ℕ
by_delivery (Deliver timer) = 1
by_delivery _ = 0

-- 1 for a message that is thrown away
abbrev pub by_drop : Event → ℕ
by_drop (Drop timer) = 1
by_drop _ = 0

-- the milliseconds to which a wheel was advanced, by the event that records it
abbrev pub by_advance : Event → ℕ
by_advance (Advanced wheel to) = to
by_advance _ = 0

-- 1 for the exit of a process that hadn't exited before
abbrev pub by_exit : Event → ℕ
by_exit (Mark process true false) = 1
by_exit _ = 0

-- 1 for a request that is put into an inbox
abbrev pub by_ask : Event → ℕ
by_ask (Ask wheel request) = 1
by_ask _ = 0

-- the sum of a number of each event
abbrev pub sum_of : (Event → ℕ) → List Entry → ℕ
sum_of f es = sum_by (λ (e : Entry). f e.event) es

-- what the entries of a turn tell
abbrev pub turn_in : List Entry → Turned
turn_in es = record {
  served = sum_of by_answer es;
  to = sum_of by_advance es;
  expired = sum_of by_expiry es;
  put = sum_of by_delivery es;
  dropped = sum_of by_drop es;
}

-- what a call answers is told by its entries, alone and beside others: `told` has what is seen of the answer
abbrev pub EntriesTell : (A B : Type 0) → (Settings → Way → A → Growth) → (A → B) → (List Entry → B) → Type 0
EntriesTell A B call seen told = (g : Settings) (answer : A) (h m : List Entry)
    → (call g (alone g) answer h m → seen answer ≡ told m)
    × ((a : Actor) → call g (beside g a) answer h m → seen answer ≡ told (filter (is_ours (a ∷ [])) m))

-- 1 for a request that was served, and 0 where there was none, or no memory
abbrev pub served_by : Result Bool NoMemory → ℕ
served_by (Ok true) = 1
served_by (Ok false) = 0
served_by (Err e) = 0

-- as many entries of `serve` answer a request
abbrev pub LawOfToldServes : Type 0
LawOfToldServes = (w : ℕ) → EntriesTell (Result Bool NoMemory) ℕ (λ g way answer. Serves g way w answer) served_by (sum_of by_answer)

-- the answer of `deliver` is how many of its entries put a message, and how many throw one away
abbrev pub LawOfToldDeliveries : Type 0
LawOfToldDeliveries = (w : ℕ) → EntriesTell (ℕ × ℕ) (ℕ × ℕ) (λ g way answer. Delivers g way w (Ok answer)) (λ answer. answer)
    (λ es. (sum_of by_delivery es, sum_of by_drop es))

-- that of `turn` is what its entries tell
abbrev pub LawOfToldTurns : Type 0
LawOfToldTurns = (w : ℕ) → EntriesTell Turned Turned (λ g way t. Turns g way w (Ok t)) (λ t. t) turn_in

-- `exit` answers whether one of its entries marks an exit of a process that hadn't exited before
abbrev pub LawOfToldExits : Type 0
LawOfToldExits = (by process : ℕ) → EntriesTell Bool ℕ (λ g way answer. Exits g way by process answer) (λ answer. cond answer 1 0) (sum_of by_exit)

-- `ask` answers whether one of its entries puts a request into an inbox
abbrev pub LawOfToldAsks : Type 0
LawOfToldAsks = (by w : ℕ) (request : Request)
    → EntriesTell (Result (Unit {0}) NoMemory) ℕ (λ g way answer. way (Inbox w ∷ []) (Asks g by w request answer)) (λ answer. cond (is_ok answer) 1 0) (sum_of by_ask)
