-- What is so of every legal history, in one record.

use Rattle.std.specs.Prelude.{◌≡◌, ℕ, ◌≤ℤ◌, All, List, [], ◌∷◌, ◌++◌, map, filter}
use Rattle.ert_defs.specs.{Legal.Legal, Settings.IsChecked, States.state, declared.entry.Entry.Entry, declared.entry.Event.TheVariants.Expire, declared.settings.Settings.Settings, declared.timer.TimerRef.TimerRef}
use Rattle.ert_laws.specs.{Changes.IsTold, ClockLaws.HasDeadlineCome, Lives.{life, life_to}, MailOrder.{sent_to, taken_from, is_from, is_delivered_to, expired_of, sent_by_row}, Permitted.Permitted}

-- a history is legal, and keeps the laws of time, of timers and of mail
pub record KeepsLaws (g : Settings) (h : List Entry) : Type 0 where
  pub legal : Legal g h
  -- monotonic time never falls
  pub time : (f m : List Entry) → h ≡ f ++ m → (state g f).clock.now ≤ℤ (state g h).clock.now
  -- the clock moves only as it may, and the offset only as the mode permits
  pub clock : Permitted g h
  -- no timer expires before its deadline
  pub expiry : (f m : List Entry) (e : Entry) (timer : TimerRef) → h ≡ (f ++ e ∷ []) ++ m → e.event ≡ Expire timer
      → HasDeadlineCome g ((state g f).rows timer.wheel) timer (state g f).clock.now
  -- each timer settles once at most: its life is that of its status, one of six
  pub lives : (r : TimerRef) → life r h ≡ life_to ((state g h).status r)
  -- what was put into a mailbox is, in order, what was taken from it and then what stands in it
  pub mailboxes : (p : ℕ) → map (λ x. x.mail) (sent_to g p h) ≡ taken_from p h ++ ((state g h).mails p).queue
  -- the messages of the timers of one wheel are put in order of expiry
  pub order : (w p : ℕ) → filter (is_from w) (sent_to g p h) ≡ map sent_by_row (filter (is_delivered_to (state g h) p) (expired_of g w h))
  -- each message of a change names the offset at a Tell of its own, and the offset last told was another
  pub told : (p : ℕ) → All (IsTold g h p) (taken_from p h ++ ((state g h).mails p).queue)

-- every legal history keeps them
abbrev pub LawOfHistories : Type 0
LawOfHistories = (g : Settings) (h : List Entry) → IsChecked g → Legal g h → KeepsLaws g h
