-- The calls that make several locked steps, one after the other: of a scheduler `serve`, `advance`, `deliver`
-- and `turn`, and of a caller `exit`. Each is said once, over a way.

use Rattle.std.specs.Prelude.{◌≡◌, ◌⊎◌, ℕ, zero, suc, ◌+◌, ◌<◌, ◌≤◌, Bool, true, false, cond, nat_lt, List, [], ◌∷◌, ◌++◌, Option, Some, None, Result, Ok, Err}
use Rattle.ert_defs.specs.{Mails.first_of, States.state, Timers.Row, declared.entry.Actor.TheVariants.{Wheel, Inbox, MailOf, Caller}, declared.entry.Entry.Entry, declared.mail.Request.Request, declared.memory.NoMemory.NoMemory}
use Rattle.ert_defs.specs.{declared.settings.Settings.Settings}
use Rattle.ert_effects.specs.{MailCalls.HandsOver, RequestCalls.{Picks, HasAnswered, Answers}, Ways.{Growth, Way, Then, Many}, WheelCalls.{HasAdvanced, Advances, Sweeps, AreSwept, MarksExit}, declared.answers.Handed.Handed}
use Rattle.ert_effects.specs.{declared.answers.Handed.TheVariants.{Put, Dropped}, declared.answers.Turned.Turned}

-- a scheduler has a request in its hand: the one that was there, or else the one that it picks
abbrev pub HoldsBy : Option Request → Way → Settings → ℕ → Option Request → Growth
HoldsBy (Some request) way g w got h m = (got ≡ Some request) × (m ≡ [])
HoldsBy None way g w got h m = way (Inbox w ∷ []) (Picks g w got) h m

-- so a scheduler has a request in its hand, by what was there after a history
abbrev pub HoldsRequest : Settings → Way → ℕ → Option Request → Growth
HoldsRequest g way w got h m = HoldsBy ((state g h).scheds w).hand way g w got h m

-- a request is held and answered
pub record HasServed (g : Settings) (way : Way) (w : ℕ) (h m : List Entry) : Type 0 where
  pub request : Request
  pub left : Option ℕ
  pub steps : Then (HoldsRequest g way w (Some request)) (way (MailOf request.reply_to ∷ []) (HasAnswered g w request left)) h m

-- a request is held, and there is no memory to answer it: it stays in the hand
pub record CannotServe (g : Settings) (way : Way) (w : ℕ) (e : NoMemory) (h m : List Entry) : Type 0 where
  pub request : Request
  pub steps : Then (HoldsRequest g way w (Some request)) (way (MailOf request.reply_to ∷ []) (Answers g w request (Err e))) h m

-- where the hand is empty `pick`, and where there is a request then `answer`, with the mailbox that it names. False
-- where the hand was empty and nothing was picked
abbrev pub HasServedOne : Settings → Way → ℕ → Bool → Growth
HasServedOne g way w true h m = HasServed g way w h m
HasServedOne g way w false h m = HoldsRequest g way w None h m

-- `serve`: one request is served where there is one, or there is no memory to answer it
abbrev pub Serves : Settings → Way → ℕ → Result Bool NoMemory → Growth
Serves g way w (Ok served) h m = HasServedOne g way w served h m
Serves g way w (Err e) h m = CannotServe g way w e h m

-- so many units
abbrev pub units : ℕ → List (Unit {0})
units zero = []
units (suc n) = tt ∷ units n

-- so many requests are served
abbrev pub ServesMany : Settings → Way → ℕ → ℕ → Growth
ServesMany g way w n h m = Many (λ (one : Unit {0}). HasServed g way w) (units n) h m

-- requests are served until there is none, 64 at most
abbrev pub HasServedAll : Settings → Way → ℕ → ℕ → Growth
HasServedAll g way w n h m =
    (n ≤ 64) × cond (nat_lt n 64) (Then (ServesMany g way w n) (HoldsRequest g way w None) h m) (ServesMany g way w n h m)

-- the same, or there is no memory to answer one of them
abbrev pub ServesAll : Settings → Way → ℕ → Result ℕ NoMemory → Growth
ServesAll g way w (Ok n) h m = HasServedAll g way w n h m
ServesAll g way w (Err e) h m = (n : ℕ) × (n < 64) × Then (ServesMany g way w n) (Serves g way w (Err e)) h m

-- `advance`, of a scheduler
abbrev pub AdvancesWheel : Settings → Way → ℕ → Result (ℕ × ℕ) NoMemory → Growth
AdvancesWheel g way w answer = way (Wheel w ∷ []) (Advances g w answer)

-- the first expired timer of a scheduler is handed over
pub record Hands (g : Settings) (way : Way) (w : ℕ) (how : Result Handed NoMemory) (h m : List Entry) : Type 0 where
  pub expired : Row
  pub first : first_of ((state g h).scheds w).expired ≡ Some expired
  pub step : way (MailOf expired.dest ∷ []) (HandsOver g w expired how) h m

-- expired timers of a scheduler are handed over one after the other, each in this way
abbrev pub HandsMany : Settings → Way → ℕ → List Handed → Growth
HandsMany g way w hows h m = Many (λ how. Hands g way w (Ok how)) hows h m

-- 1 where a message was put, and 0 where it was thrown away
abbrev pub put_by : Handed → ℕ
put_by Put = 1
put_by Dropped = 0

-- how many messages were put
abbrev pub puts : List Handed → ℕ
puts [] = 0
puts (how ∷ hows) = put_by how + puts hows

-- 1 where a message was thrown away, and 0 where it was put
abbrev pub dropped_by : Handed → ℕ
dropped_by Put = 0
dropped_by Dropped = 1

-- how many messages were thrown away
abbrev pub drops : List Handed → ℕ
drops [] = 0
drops (how ∷ hows) = dropped_by how + drops hows

-- expired timers are handed over until none is left: so many are put, and so many thrown away
pub record HasDelivered (g : Settings) (way : Way) (w : ℕ) (answer : ℕ × ℕ) (h m : List Entry) : Type 0 where
  pub hows : List Handed
  pub runs : Many (λ how. Hands g way w (Ok how)) hows h m
  pub put_is : answer.0 ≡ puts hows
  pub dropped_is : answer.1 ≡ drops hows
  pub done : ((state g (h ++ m)).scheds w).expired ≡ []

-- some are handed over, and there is no memory for the next: it stays in the list
pub record CannotDeliver (g : Settings) (way : Way) (w : ℕ) (e : NoMemory) (h m : List Entry) : Type 0 where
  pub hows : List Handed
  pub runs : Then (HandsMany g way w hows) (Hands g way w (Err e)) h m

-- `deliver`, of all expired timers of a scheduler: the first of them, again and again, until there is none.
-- The answer: how many were put, and how many thrown away
abbrev pub Delivers : Settings → Way → ℕ → Result (ℕ × ℕ) NoMemory → Growth
Delivers g way w (Ok answer) h m = HasDelivered g way w answer h m
Delivers g way w (Err e) h m = CannotDeliver g way w e h m

-- a turn is done: requests are served, the wheel is advanced, and expired timers are handed over
abbrev pub HasTurned : Settings → Way → ℕ → Turned → Growth
HasTurned g way w t = Then (HasServedAll g way w t.served)
    (Then (way (Wheel w ∷ []) (HasAdvanced w (t.to, t.expired))) (HasDelivered g way w (t.put, t.dropped)))

-- there is no memory to serve, to advance or to deliver; what was done before stays
abbrev pub CannotTurn : Settings → Way → ℕ → NoMemory → Growth
CannotTurn g way w e h m =
    ServesAll g way w (Err e) h m
    ⊎ ((served : ℕ) × Then (ServesAll g way w (Ok served)) (AdvancesWheel g way w (Err e)) h m)
    ⊎ ((served : ℕ) × (advanced : ℕ × ℕ)
    × Then (ServesAll g way w (Ok served)) (Then (AdvancesWheel g way w (Ok advanced)) (Delivers g way w (Err e))) h m)

-- `turn`: `serve` until it answers false, 64 times at most; `advance`; `deliver`. Out of memory: some of their
-- steps in this order, and then that of the one for which there was none; what was done stays
abbrev pub Turns : Settings → Way → ℕ → Result Turned NoMemory → Growth
Turns g way w (Ok t) h m = HasTurned g way w t h m
Turns g way w (Err e) h m = CannotTurn g way w e h m

-- a wheel is swept for a process: then none of its timers for that is armed
pub record SweepsWheel (g : Settings) (way : Way) (by process w : ℕ) (h m : List Entry) : Type 0 where
  pub steps : way (Wheel w ∷ []) (Sweeps g by w process) h m
  pub swept : AreSwept (state g (h ++ m)).status process ((state g (h ++ m)).rows w)

-- so many wheels from one on
abbrev pub SweepsWheels : Settings → Way → ℕ → ℕ → ℕ → ℕ → Growth
SweepsWheels g way by process w zero h m = m ≡ []
SweepsWheels g way by process w (suc n) h m =
    Then (SweepsWheel g way by process w) (SweepsWheels g way by process (suc w) n) h m

-- `exit`, by a caller: the process exits (`mark_exit`), and where it hadn't before, every wheel is swept, by
-- number; after each sweep no timer of that wheel for the process is armed
abbrev pub Exits : Settings → Way → ℕ → ℕ → Bool → Growth
Exits g way by process true h m =
    Then (way [] (MarksExit g (Caller by) process true)) (SweepsWheels g way by process 0 g.schedulers) h m
Exits g way by process false h m = way [] (MarksExit g (Caller by) process false) h m
