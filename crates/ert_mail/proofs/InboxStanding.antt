-- An inbox stands on after a step of the pass that holds it.

use Rattle.std.proofs.Common.{◌≡◌, ℕ, true, List, [], ◌∷◌, ◌++◌, Option, Ok, refl, sym, ap, ◌∙◌, eq-eqb}
use Rattle.ert_defs.specs.{Entries.{ask_entry, pick_entry}, Mails.others_of, States.{State, next, state}, declared.entry.Actor.TheVariants.{Inbox, Sched}, declared.entry.Entry.Entry, declared.mail.Request.Request}
use Rattle.ert_defs.specs.{declared.settings.Settings.Settings}
use Rattle.ert_effects.specs.RequestCalls.{Asks, Picks}
use Rattle.ert_table.specs.{Calls.IsMade, Held.is_held, Takes.Appends, declared.view.View.View}
use Rattle.ert_table.proofs.{Makings.step_made, Parts.{part_before, stepped}}
use Rattle.ert_mail.specs.Inboxes.{Waiting, InboxStands, sched_after_pick}

-- an entry makes this of the requests that wait for a scheduler
abbrev Turns : Settings → ℕ → Entry → (List Request → List Request) → Type 0
Turns g w e f = (s : State) → (next g s e).inboxes w ≡ f (s.inboxes w)

stands_step : (g : Settings) (v : View) (e : Entry) (w : View) (q r : Waiting) (f : List Request → List Request)
    → is_held v.actors (Inbox q.wheel) ≡ true → InboxStands g v.front q → Appends g v e w → Turns g q.wheel e f
    → r.wheel ≡ q.wheel → r.requests ≡ f q.requests → InboxStands g w.front r
stands_step g v e w q r f held stands step makes wheel requests =
    let before = part_before g v e w (Inbox q.wheel) (λ (s : State). s.inboxes q.wheel) (λ s e none. rw none refl) held step in
    let after = ap (λ (s : State). s.inboxes q.wheel) (stepped g v e w step) in
    record {
      in_range = rw wheel stands.in_range;
      requests = requests ∙ (ap f (stands.requests ∙ sym before) ∙ (sym (makes (state g (v.front ++ step.between)))
          ∙ (sym after ∙ ap (λ n. (state g w.front).inboxes n) (sym wheel))));
    }

pub ask_made : (g : Settings) (v w : View) (by n : ℕ) (request : Request) (done : Unit {0}) → Appends g v (ask_entry by n request) w
    → IsMade g v (Asks g by n request (Ok done)) w
ask_made g v w by n request done step = step_made g v (ask_entry by n request) w (Asks g by n request (Ok done)) refl step

pub stands_asked : (g : Settings) (v w : View) (by : ℕ) (request : Request) (q r : Waiting) → is_held v.actors (Inbox q.wheel) ≡ true
    → InboxStands g v.front q → Appends g v (ask_entry by q.wheel request) w → r.wheel ≡ q.wheel → r.requests ≡ q.requests ++ request ∷ []
    → InboxStands g w.front r
stands_asked g v w by request q r held stands step wheel requests =
    stands_step g v (ask_entry by q.wheel request) w q r (λ xs. xs ++ request ∷ []) held stands step
    (λ s. rw (eq-eqb q.wheel q.wheel refl) refl) wheel requests

pub pick_made : (g : Settings) (v w : View) (n : ℕ) (got : Option Request) → Appends g v (pick_entry n got) w → IsMade g v (Picks g n got) w
pick_made g v w n got step = step_made g v (pick_entry n got) w (Picks g n got) refl step

pub stands_picked : (g : Settings) (v w : View) (got : Option Request) (q r : Waiting) → is_held v.actors (Inbox q.wheel) ≡ true
    → InboxStands g v.front q → Appends g v (pick_entry q.wheel got) w → r.wheel ≡ q.wheel → r.requests ≡ others_of q.requests
    → InboxStands g w.front r
stands_picked g v w got q r held stands step wheel requests =
    stands_step g v (pick_entry q.wheel got) w q r others_of held stands step
    (λ s. rw (eq-eqb q.wheel q.wheel refl) refl) wheel requests

-- what the scheduler has then
pub sched_picked : (g : Settings) (v w : View) (n : ℕ) (got : Option Request) → is_held v.actors (Sched n) ≡ true
    → Appends g v (pick_entry n got) w → (state g w.front).scheds n ≡ sched_after_pick got ((state g v.front).scheds n)
sched_picked g v w n got held step =
    let e : Entry = pick_entry n got in
    let before = part_before g v e w (Sched n) (λ (s : State). s.scheds n) (λ s e none. rw none refl) held step in
    let after = ap (λ (s : State). s.scheds n) (stepped g v e w step) in
    let made : (s : State) → (next g s e).scheds n ≡ sched_after_pick got (s.scheds n) = λ s. rw (eq-eqb n n refl) refl in
    after ∙ (made (state g (v.front ++ step.between)) ∙ ap (sched_after_pick got) before)
