-- The requests in inboxes and hands after a legal history name processes in range.

use Rattle.std.proofs.Common.{ℕ, List, [], ◌∷◌, All, Option, Some, None, subst}
use Rattle.std.proofs.lemmas.{Bool.cond_both, List.Elements.{All-nil, All-push, All-head, All-tail}}
use Rattle.ert_defs.specs.{Actors.has_actor, Legal.{Can, Keeps, Known, Legal}, Mails.{SchedState, first_of, others_of, inbox_after, sched_after}, States.{State, opening, next, state}, declared.entry.Actor.Actor}
use Rattle.ert_defs.specs.{declared.entry.Actor.TheVariants.{Inbox, Sched}, declared.entry.Entry.Entry, declared.entry.Event.Event, declared.entry.Event.TheVariants.{Ask, Pick, Answer}, declared.mail.Request.Request}
use Rattle.ert_defs.specs.{declared.settings.Settings.Settings}
use Rattle.ert_defs.proofs.Runs.{carry, kept_from}
use Rattle.ert_laws.specs.Ranges.{HasAsker, LawOfInboxes, LawOfHands}

-- a request that may be in a hand names a process in range
abbrev pub HeldHasAsker : Settings → Option Request → Type 0
HeldHasAsker g None = Unit {0}
HeldHasAsker g (Some q) = HasAsker g q

pub record HaveAskers (g : Settings) (s : State) : Type 0 where
  pub inboxes : (w : ℕ) → All (HasAsker g) (s.inboxes w)
  pub hands : (w : ℕ) → HeldHasAsker g (s.scheds w).hand

others_ask : (g : Settings) (qs : List Request) → All (HasAsker g) qs → All (HasAsker g) (others_of qs)
others_ask g [] h = h
others_ask g (q ∷ qs) h = All-tail (HasAsker g) q qs h

first_asks : (g : Settings) (qs : List Request) → All (HasAsker g) qs → HeldHasAsker g (first_of qs)
first_asks g [] h = tt
first_asks g (q ∷ qs) h = All-head (HasAsker g) q qs h

inbox_event : (g : Settings) (by : Actor) (with : Option Actor) (event : Event) (qs : List Request) → Keeps g by with event
    → All (HasAsker g) qs → All (HasAsker g) (inbox_after qs event)
inbox_event g by with (Ask wheel request) qs keeps h = All-push (HasAsker g) qs request h keeps.3
inbox_event g by with (Pick wheel got) qs keeps h = others_ask g qs h
inbox_event g by with _ qs keeps h = h

hand_event : (g : Settings) (s : State) (by : Actor) (with : Option Actor) (event : Event) (x : SchedState) → Known g s by with event
    → HaveAskers g s → HeldHasAsker g x.hand → HeldHasAsker g (sched_after s.rows x event).hand
hand_event g s by with (Pick wheel got) x known h held =
    carry (HeldHasAsker g) known.1 (first_asks g (s.inboxes wheel) (h.inboxes wheel))
hand_event g s by with (Answer wheel left) x known h held = tt
hand_event g s by with _ x known h held = held

pub askers_next : (g : Settings) (s : State) (e : Entry) → HaveAskers g s → Can g s e → HaveAskers g (next g s e)
askers_next g s e h can = record {
  inboxes = λ w. cond_both (has_actor e (Inbox w)) (inbox_after (s.inboxes w) e.event) (s.inboxes w) (All (HasAsker g))
      (λ is. inbox_event g e.by e.with e.event (s.inboxes w) can.keeps (h.inboxes w)) (λ not. h.inboxes w);
  hands = λ w. cond_both (has_actor e (Sched w)) (sched_after s.rows (s.scheds w) e.event) (s.scheds w) (λ (x : SchedState). HeldHasAsker g x.hand)
      (λ is. hand_event g s e.by e.with e.event (s.scheds w) can.known h (h.hands w)) (λ not. h.hands w);
}

pub have_askers : (g : Settings) (h : List Entry) → Legal g h → HaveAskers g (state g h)
have_askers g h legal =
    kept_from g (HaveAskers g) (askers_next g) (opening g) h (record { inboxes = λ w. All-nil (HasAsker g); hands = λ w. tt }) legal

pub waiting_have_askers : LawOfInboxes
waiting_have_askers g h w legal = (have_askers g h legal).inboxes w

pub held_have_askers : LawOfHands
held_have_askers g h w q legal is = subst (HeldHasAsker g) is ((have_askers g h legal).hands w)
