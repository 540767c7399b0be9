-- Serving: both services answer the same requests, and as many.

use Rattle.std.proofs.Common.{◌≡◌, ℕ, Bool, true, false, cond, nat_eq, List, [], ◌∷◌, ◌++◌, Option, Some, None, Ok, refl, sym, ap, ◌∙◌, subst}
use Rattle.ert_effects.specs.{Chains.{HoldsBy, HasServed, Serves}, RequestCalls.{DoesAsked, HasAnswered}, Ways.alone}
use Rattle.ert_defs.proofs.Runs.{run-append, state-append, legal_first, legal_then}
use Rattle.ert_defs.specs.{Entries.{look_entry, pick_entry, answer_entry}, Legal.LegalFrom, Mails.first_of, States.{State, next, run, state}, declared.entry.Actor.TheVariants.{Inbox, Sched, MailOf}, declared.entry.Entry.Entry}
use Rattle.ert_defs.specs.{declared.mail.Request.Request, declared.mail.RequestKind.RequestKind, declared.mail.RequestKind.TheVariants.{Cancel as ToCancel, Read as ToRead}, declared.settings.Settings.Settings}
use Rattle.ert_defs.specs.{declared.timer.TimerRef.TimerRef}
use Rattle.ert_ops.proofs.{Bound.IsName, Cancels.{AreCancelled, cancels_meet, reads_meet}, Meets.{Meets, meets_next}, Shown.{Both, SameRequest, pairs_first}, Steps.{as_pick, as_answer}}
use Rattle.ert_ops.specs.{Labels.Labels, PlainTimers.{is_bound, left_now, left_if}, PlainTurns.{request_entries, answer_entries, Served, pick_piece, serve_piece, serve_one, has_served}}

-- one request is answered

asked_meets : (g : Settings) (n : ℕ) (ls : Labels) (w : ℕ) (kind : RequestKind) (s c : State) (t m : TimerRef) (left : Option ℕ) (es : List Entry)
    → IsName g ls t m → Meets g n ls s c → LegalFrom g s es → DoesAsked kind g w t left s es
    → AreCancelled g n ls s c es (look_entry (Sched w) c.clock.now ∷ request_entries kind w m (is_bound m) (left_now g c m)) left (left_if (is_bound m) (left_now g c m))
asked_meets g n ls w ToCancel s c t m left es is h legal does = cancels_meet g n ls (Sched w) s c t m left es is h legal does
asked_meets g n ls w ToRead s c t m left es is h legal does = reads_meet g n ls (Sched w) s c t m left es is h legal does

answer_meets : (g : Settings) (n : ℕ) (ls : Labels) (w : ℕ) (s c : State) (q k : Request) (left : Option ℕ) (es : List Entry) → SameRequest (IsName g ls) q k
    → Meets g n ls s c → LegalFrom g s es → HasAnswered g w q left s es → Meets g n ls (run g s es) (run g c (answer_entries g c w k))
answer_meets g n ls w s c q k left es same h legal does =
    let last : List Entry = answer_entry w q.reply_to left ∷ [] in
    let lawful = subst (λ (x : List Entry). LegalFrom g s x) does.entries legal in
    let asked = asked_meets g n ls w q.kind s c q.timer k.timer left does.steps same.timer h (legal_first g s does.steps last lawful) does.done in
    let body : List Entry = look_entry (Sched w) c.clock.now ∷ request_entries q.kind w k.timer (is_bound k.timer) (left_now g c k.timer) in
    let after = meets_next g n ls (as_answer w left) (Sched w) (Some (MailOf q.reply_to)) _ _ asked.meets (legal_then g s does.steps last lawful).0 in
    let P : State → State → Type 0 = λ z d. Meets g n ls z d in
    let whole : P (run g s (does.steps ++ last)) (run g c (body ++ last)) =
    subst (λ (z : State). P z (run g c (body ++ last))) (sym (run-append g s does.steps last))
    (subst (λ (d : State). P (run g (run g s does.steps) last) d) (sym (run-append g c body last)) after) in
    let Q : RequestKind → ℕ → Option ℕ → Type 0 = λ kind p x.
    P (run g s (does.steps ++ last)) (run g c ((look_entry (Sched w) c.clock.now ∷ request_entries kind w k.timer (is_bound k.timer) (left_now g c k.timer)) ++ answer_entry w p x ∷ [])) in
    subst (λ (x : List Entry). P (run g s x) (run g c (answer_entries g c w k))) (sym does.entries)
    (subst (λ (x : RequestKind). Q x k.reply_to (left_if (is_bound k.timer) (left_now g c k.timer))) same.kind
    (subst (λ (p : ℕ). Q q.kind p (left_if (is_bound k.timer) (left_now g c k.timer))) same.reply_to
    (subst (λ (x : Option ℕ). Q q.kind q.reply_to x) asked.answers whole)))

-- one serving

pub record AreServed (g : Settings) (n : ℕ) (ls : Labels) (s c : State) (es : List Entry) (count : ℕ) (plain : Served) : Type 0 where
  pub counts : plain.count ≡ count
  pub meets : Meets g n ls (run g s es) (run g c plain.entries)

-- what a serving does, after the request is held
pub record AnswersIt (g : Settings) (w : ℕ) (h before : List Entry) (q : Request) (m : List Entry) : Type 0 where
  pub left : Option ℕ
  pub after : List Entry
  pub joined : m ≡ before ++ after
  pub answers : HasAnswered g w q left (run g (state g h) before) after

picked : (g : Settings) (n : ℕ) (ls : Labels) (w : ℕ) (h m : List Entry) (c : State) (q : Request) (got : Option Request) → Meets g n ls (state g h) c
    → LegalFrom g (state g h) m → AnswersIt g w h (pick_entry w (Some q) ∷ []) q m → Both (SameRequest (IsName g ls)) (Some q) got
    → AreServed g n ls (state g h) c m 1 (pick_piece g c w got)
picked g n ls w h m c q None meets legal does same = absurd same
picked g n ls w h m c q (Some k) meets legal does same =
    let s : State = state g h in
    let pick : List Entry = pick_entry w (Some q) ∷ [] in
    let lawful = subst (λ (x : List Entry). LegalFrom g s x) does.joined legal in
    let held = meets_next g n ls (as_pick w (Some q) (Some k) same) (Sched w) (Some (Inbox w)) s c meets (legal_first g s pick does.after lawful).0 in
    let after = answer_meets g n ls w (run g s pick) (next g c (pick_entry w (Some k))) q k does.left does.after same held
    (legal_then g s pick does.after lawful) does.answers in
    record {
      counts = refl;
      meets = subst (λ (x : List Entry). Meets g n ls (run g s x) (run g c (pick_piece g c w (Some k)).entries)) (sym does.joined) after;
    }

served_by : (g : Settings) (n : ℕ) (ls : Labels) (w : ℕ) (h m before : List Entry) (c : State) (q : Request) (a b : Option Request) → Meets g n ls (state g h) c
    → LegalFrom g (state g h) m → HoldsBy a (alone g) g w (Some q) h before → AnswersIt g w h before q m → Both (SameRequest (IsName g ls)) a b
    → AreServed g n ls (state g h) c m 1 (serve_piece g c w b)
served_by g n ls w h m before c q (Some p) (Some k) meets legal holds does same =
    let own : q ≡ p = let e : Some q ≡ Some p = holds.0 in cc in
    let here : SameRequest (IsName g ls) q k = subst (λ (x : Request). SameRequest (IsName g ls) x k) (sym own) same in
    let all : m ≡ does.after = does.joined ∙ ap (λ (x : List Entry). x ++ does.after) holds.1 in
    let answers : HasAnswered g w q does.left (state g h) does.after =
    subst (λ (x : List Entry). HasAnswered g w q does.left (run g (state g h) x) does.after) holds.1 does.answers in
    let after = answer_meets g n ls w (state g h) c q k does.left does.after here meets (subst (λ (x : List Entry). LegalFrom g (state g h) x) all legal) answers in
    record {
      counts = refl;
      meets = subst (λ (x : List Entry). Meets g n ls (run g (state g h) x) (run g c (answer_entries g c w k))) (sym all) after;
    }
served_by g n ls w h m before c q None None meets legal holds does same =
    let it : AnswersIt g w h (pick_entry w (Some q) ∷ []) q m = subst (λ (x : List Entry). AnswersIt g w h x q m) holds does in
    let lawful = subst (λ (x : List Entry). LegalFrom g (state g h) x) it.joined legal in
    let first : Some q ≡ first_of ((state g h).inboxes w) = (legal_first g (state g h) (pick_entry w (Some q) ∷ []) it.after lawful).0.known.1 in
    picked g n ls w h m c q (first_of (c.inboxes w)) meets legal it
    (subst (λ (x : Option Request). Both (SameRequest (IsName g ls)) x (first_of (c.inboxes w))) (sym first)
    (pairs_first (SameRequest (IsName g ls)) ((state g h).inboxes w) (c.inboxes w) (meets.shows.inboxes w)))
served_by g n ls w h m before c q None (Some k) meets legal holds does same = absurd same
served_by g n ls w h m before c q (Some p) None meets legal holds does same = absurd same

serve_meets : (g : Settings) (n : ℕ) (ls : Labels) (w : ℕ) (h m : List Entry) (c : State) → Meets g n ls (state g h) c → LegalFrom g (state g h) m
    → HasServed g (alone g) w h m → AreServed g n ls (state g h) c m 1 (serve_one g c w)
serve_meets g n ls w h m c meets legal does =
    served_by g n ls w h m does.steps.before c does.request ((state g h).scheds w).hand (c.scheds w).hand meets legal does.steps.one
    (record {
      left = does.left;
      after = does.steps.after;
      joined = does.steps.joined;
      answers = subst (λ (z : State). HasAnswered g w does.request does.left z does.steps.after) (state-append g h does.steps.before) does.steps.other;
    })
    (meets.shows.scheds w).hand

-- nothing to serve

nothing_picked : (g : Settings) (n : ℕ) (ls : Labels) (w : ℕ) (s c : State) (m : List Entry) (got : Option Request) → Meets g n ls s c → LegalFrom g s m
    → m ≡ pick_entry w None ∷ [] → Both (SameRequest (IsName g ls)) None got → AreServed g n ls s c m 0 (pick_piece g c w got)
nothing_picked g n ls w s c m None meets legal is same =
    let lawful = subst (λ (x : List Entry). LegalFrom g s x) is legal in
    record {
      counts = refl;
      meets = subst (λ (x : List Entry). Meets g n ls (run g s x) (next g c (pick_entry w None))) (sym is)
          (meets_next g n ls (as_pick w None None tt) (Sched w) (Some (Inbox w)) s c meets lawful.0);
    }
nothing_picked g n ls w s c m (Some k) meets legal is same = absurd same

unserved_by : (g : Settings) (n : ℕ) (ls : Labels) (w : ℕ) (h m : List Entry) (c : State) (a b : Option Request) → Meets g n ls (state g h) c
    → LegalFrom g (state g h) m → HoldsBy a (alone g) g w None h m → Both (SameRequest (IsName g ls)) a b
    → AreServed g n ls (state g h) c m 0 (serve_piece g c w b)
unserved_by g n ls w h m c (Some p) b meets legal holds same = let clash : None ≡ Some p = holds.0 in cc
unserved_by g n ls w h m c None None meets legal holds same =
    let lawful = subst (λ (x : List Entry). LegalFrom g (state g h) x) holds legal in
    let first : None ≡ first_of ((state g h).inboxes w) = lawful.0.known.1 in
    nothing_picked g n ls w (state g h) c m (first_of (c.inboxes w)) meets legal holds
    (subst (λ (x : Option Request). Both (SameRequest (IsName g ls)) x (first_of (c.inboxes w))) (sym first)
    (pairs_first (SameRequest (IsName g ls)) ((state g h).inboxes w) (c.inboxes w) (meets.shows.inboxes w)))
unserved_by g n ls w h m c None (Some k) meets legal holds same = absurd same

unserved_meets : (g : Settings) (n : ℕ) (ls : Labels) (w : ℕ) (h m : List Entry) (c : State) → Meets g n ls (state g h) c → LegalFrom g (state g h) m
    → Serves g (alone g) w (Ok false) h m → AreServed g n ls (state g h) c m 0 (serve_one g c w)
unserved_meets g n ls w h m c meets legal does =
    unserved_by g n ls w h m c ((state g h).scheds w).hand (c.scheds w).hand meets legal does (meets.shows.scheds w).hand

-- a serving tells whether it served
abbrev one_served : Bool → ℕ
one_served b = cond b 1 0

pub serves_meet : (g : Settings) (n : ℕ) (ls : Labels) (w : ℕ) (b : Bool) (h m : List Entry) (c : State) → Meets g n ls (state g h) c
    → LegalFrom g (state g h) m → Serves g (alone g) w (Ok b) h m → AreServed g n ls (state g h) c m (one_served b) (serve_one g c w)
serves_meet g n ls w true h m c meets legal does = serve_meets g n ls w h m c meets legal does
serves_meet g n ls w false h m c meets legal does = unserved_meets g n ls w h m c meets legal does

pub tells_served : (b : Bool) (a : Served) → a.count ≡ one_served b → has_served a ≡ b
tells_served true a is = ap (λ (k : ℕ). nat_eq k 1) is
tells_served false a is = ap (λ (k : ℕ). nat_eq k 1) is
