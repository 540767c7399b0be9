-- Delivering: both services put and drop the same messages, in the order of expiry.

use Rattle.std.proofs.Common.{◌≡◌, ℕ, Bool, true, false, cond, ◌&&◌, ◌||◌, nat_eq, List, [], ◌∷◌, ◌++◌, Some, None, refl, sym, ap, ◌∙◌, subst, eq-eqb, append_assoc, append-nil}
use Rattle.ert_effects.specs.{Chains.{HandsMany, HasDelivered, puts, drops}, MailCalls.handed_entries, Ways.alone, declared.answers.Handed.Handed, declared.answers.Handed.TheVariants.{Put, Dropped}}
use Rattle.ert_defs.proofs.{ExpiredTimers.cond_same, Runs.{run-append, state-append}}
use Rattle.ert_defs.specs.{Actors.has_actor, Entries.{mark_entry, deliver_entry, drop_entry}, Legal.LegalFrom, Mails.{SchedState, first_of, others_of}, States.{State, next, run, state}, Timers.Row, declared.entry.Actor.TheVariants.Sched}
use Rattle.ert_defs.specs.{declared.entry.Actor.TheVariants.MailOf, declared.entry.Entry.Entry, declared.settings.Settings.Settings}
use Rattle.ert_ops.proofs.{Bound.IsName, Many.{legal_before, legal_after, meets_after}, Meets.{Meets, meets_next}, Shown.{Pairs, SameRow}, Steps.{as_mark, as_deliver, as_drop}}
use Rattle.ert_ops.specs.{Labels.Labels, PlainTurns.{how_by, hows_of, hand_entries, handing}}

-- one that is handed over

pub record IsHanded (g : Settings) (n : ℕ) (ls : Labels) (w : ℕ) (s c : State) (how : Handed) (row y : Row) (es : List Entry) : Type 0 where
  pub how_is : how ≡ how_by (c.exited y.dest)
  pub meets : Meets g n ls (run g s es) (run g c (handed_entries w y how))
  pub expired : ((run g s es).scheds w).expired ≡ others_of (s.scheds w).expired
  pub exited : (p : ℕ) → (run g c (handed_entries w y how)).exited p ≡ c.exited p

-- a look at an exit changes none
unmarked : (x b : Bool) → (x || (b && false)) ≡ x
unmarked true b = refl
unmarked false true = refl
unmarked false false = refl

-- the scheduler keeps the others
pub kept_others : (g : Settings) (w p : ℕ) (was : Bool) (s : State) (e : Entry) → e.by ≡ Sched w
    → ((z : State) → ((next g z e).scheds w).expired ≡ (cond (has_actor e (Sched w)) (others_of (z.scheds w).expired) (z.scheds w).expired))
    → has_actor e (Sched w) ≡ true
    → ((next g (next g s (mark_entry (Sched w) p false was)) e).scheds w).expired ≡ others_of (s.scheds w).expired
kept_others g w p was s e by goes has =
    let z : State = next g s (mark_entry (Sched w) p false was) in
    let same : z.scheds w ≡ s.scheds w = cond_same (has_actor (mark_entry (Sched w) p false was) (Sched w)) (s.scheds w) in
    goes z ∙ ap (λ (b : Bool). cond b (others_of (z.scheds w).expired) (z.scheds w).expired) has
    ∙ ap (λ (x : SchedState). others_of x.expired) same

pub expired_if : (b : Bool) (x y : SchedState) → (cond b x y).expired ≡ cond b x.expired y.expired
expired_if true x y = refl
expired_if false x y = refl

-- a message is put
put_meets : (g : Settings) (n : ℕ) (ls : Labels) (w : ℕ) (s c : State) (row y : Row) (es : List Entry) → SameRow (IsName g ls) row y → Meets g n ls s c
    → LegalFrom g s es → es ≡ handed_entries w row Put → IsHanded g n ls w s c Put row y es
put_meets g n ls w s c row y es same h legal is =
    let lawful = subst (λ (x : List Entry). LegalFrom g s x) is legal in
    let deliver : Entry = deliver_entry w row.dest row.timer in
    let marked = meets_next g n ls (as_mark row.dest false false) (Sched w) None s c h lawful.0 in
    let handed = meets_next g n ls (as_deliver row.timer y.timer same.timer) (Sched w) (Some (MailOf row.dest)) _ _ marked lawful.1.0 in
    let alive : c.exited y.dest ≡ false = ap c.exited (sym same.dest) ∙ sym (h.shows.exited row.dest) ∙ sym lawful.0.found in
    let has : has_actor deliver (Sched w) ≡ true = ap (λ (b : Bool). b || false) (eq-eqb w w refl) in
    record {
      how_is = sym (ap how_by alive);
      meets = subst (λ (x : List Entry). Meets g n ls (run g s x) (run g c (handed_entries w y Put))) (sym is)
          (subst (λ (p : ℕ). Meets g n ls (run g s (handed_entries w row Put)) (run g c (mark_entry (Sched w) p false false ∷ deliver_entry w p y.timer ∷ [])))
          same.dest handed);
      expired = subst (λ (x : List Entry). ((run g s x).scheds w).expired ≡ others_of (s.scheds w).expired) (sym is)
          (kept_others g w row.dest false s deliver refl (λ z. expired_if (has_actor deliver (Sched w)) _ _) has);
      exited = λ p. unmarked (c.exited p) (nat_eq y.dest p);
    }

-- or dropped
drop_meets : (g : Settings) (n : ℕ) (ls : Labels) (w : ℕ) (s c : State) (row y : Row) (es : List Entry) → SameRow (IsName g ls) row y → Meets g n ls s c
    → LegalFrom g s es → es ≡ handed_entries w row Dropped → IsHanded g n ls w s c Dropped row y es
drop_meets g n ls w s c row y es same h legal is =
    let lawful = subst (λ (x : List Entry). LegalFrom g s x) is legal in
    let drop : Entry = drop_entry w row.timer in
    let marked = meets_next g n ls (as_mark row.dest false true) (Sched w) None s c h lawful.0 in
    let handed = meets_next g n ls (as_drop row.timer y.timer same.timer) (Sched w) None _ _ marked lawful.1.0 in
    let gone : c.exited y.dest ≡ true = ap c.exited (sym same.dest) ∙ sym (h.shows.exited row.dest) ∙ sym lawful.0.found in
    let has : has_actor drop (Sched w) ≡ true = ap (λ (b : Bool). b || false) (eq-eqb w w refl) in
    record {
      how_is = sym (ap how_by gone);
      meets = subst (λ (x : List Entry). Meets g n ls (run g s x) (run g c (handed_entries w y Dropped))) (sym is)
          (subst (λ (p : ℕ). Meets g n ls (run g s (handed_entries w row Dropped)) (run g c (mark_entry (Sched w) p false true ∷ drop_entry w y.timer ∷ [])))
          same.dest handed);
      expired = subst (λ (x : List Entry). ((run g s x).scheds w).expired ≡ others_of (s.scheds w).expired) (sym is)
          (kept_others g w row.dest true s drop refl (λ z. expired_if (has_actor drop (Sched w)) _ _) has);
      exited = λ p. unmarked (c.exited p) (nat_eq y.dest p);
    }

hand_meets : (g : Settings) (n : ℕ) (ls : Labels) (w : ℕ) (s c : State) (how : Handed) (row y : Row) (es : List Entry) → SameRow (IsName g ls) row y
    → Meets g n ls s c → LegalFrom g s es → es ≡ handed_entries w row how → IsHanded g n ls w s c how row y es
hand_meets g n ls w s c Put row y es same h legal is = put_meets g n ls w s c row y es same h legal is
hand_meets g n ls w s c Dropped row y es same h legal is = drop_meets g n ls w s c row y es same h legal is

-- all of them, one after the other; `gone` are the processes that have exited

pub record AreHanded (g : Settings) (n : ℕ) (ls : Labels) (w : ℕ) (gone : ℕ → Bool) (s c : State) (hows : List Handed) (ys : List Row) (es : List Entry) : Type 0 where
  pub hows_are : hows ≡ hows_of gone ys
  pub meets : Meets g n ls (run g s es) (run g c (hand_entries gone w ys))

none_handed : (g : Settings) (n : ℕ) (ls : Labels) (w : ℕ) (gone : ℕ → Bool) (s c : State) (xs ys : List Row) (es : List Entry) → Meets g n ls s c
    → es ≡ [] → xs ≡ [] → Pairs (SameRow (IsName g ls)) xs ys → AreHanded g n ls w gone s c [] ys es
none_handed g n ls w gone s c xs [] es h is none same =
    record { hows_are = refl; meets = subst (λ (x : List Entry). Meets g n ls (run g s x) c) (sym is) h }
none_handed g n ls w gone s c xs (y ∷ ys) es h is none same = absurd (subst (λ (x : List Row). Pairs (SameRow (IsName g ls)) x (y ∷ ys)) none same)

abbrev HandedLater : Settings → ℕ → Labels → ℕ → (ℕ → Bool) → List Handed → Type 0
HandedLater g n ls w gone hows =
    (h m : List Entry) (c : State) (ys : List Row) → Meets g n ls (state g h) c → LegalFrom g (state g h) m → HandsMany g (alone g) w hows h m
    → ((state g (h ++ m)).scheds w).expired ≡ [] → ((p : ℕ) → c.exited p ≡ gone p)
    → Pairs (SameRow (IsName g ls)) ((state g h).scheds w).expired ys → AreHanded g n ls w gone (state g h) c hows ys m

first_handed : (g : Settings) (n : ℕ) (ls : Labels) (w : ℕ) (gone : ℕ → Bool) (how : Handed) (hows : List Handed) → HandedLater g n ls w gone hows
    → (h m : List Entry) (c : State) (xs ys : List Row) → xs ≡ ((state g h).scheds w).expired → Meets g n ls (state g h) c → LegalFrom g (state g h) m
    → (steps : HandsMany g (alone g) w (how ∷ hows) h m) → first_of xs ≡ Some steps.one.expired
    → ((state g (h ++ m)).scheds w).expired ≡ [] → ((p : ℕ) → c.exited p ≡ gone p)
    → Pairs (SameRow (IsName g ls)) xs ys → AreHanded g n ls w gone (state g h) c (how ∷ hows) ys m
first_handed g n ls w gone how hows later h m c [] ys here meets legal steps first done exited same = let clash : None ≡ Some steps.one.expired = first in cc
first_handed g n ls w gone how hows later h m c (x ∷ xs) [] here meets legal steps first done exited same = absurd same
first_handed g n ls w gone how hows later h m c (x ∷ xs) (y ∷ ys) here meets legal steps first done exited same =
    let R = IsName g ls in
    let row : Row = steps.one.expired in
    let own : x ≡ row = let e : Some x ≡ Some row = first in cc in
    let named : SameRow R row y = subst (λ (r : Row). SameRow R r y) own same.0 in
    let one = hand_meets g n ls w (state g h) c how row y steps.before named meets
    (legal_before g h m steps.before steps.after steps.joined legal) steps.one.step in
    let d : State = run g c (handed_entries w y how) in
    let left : ((state g (h ++ steps.before)).scheds w).expired ≡ xs =
    ap (λ (z : State). (z.scheds w).expired) (state-append g h steps.before) ∙ one.expired ∙ ap others_of (sym here) in
    let over : ((state g ((h ++ steps.before) ++ steps.after)).scheds w).expired ≡ [] =
    ap (λ (e : List Entry). ((state g e).scheds w).expired) (append_assoc h steps.before steps.after ∙ ap (λ (e : List Entry). h ++ e) (sym steps.joined)) ∙ done in
    let rest = later (h ++ steps.before) steps.after d ys (meets_after g n ls h steps.before d one.meets)
    (legal_after g h m steps.before steps.after steps.joined legal) steps.other over (λ p. one.exited p ∙ exited p)
    (subst (λ (r : List Row). Pairs (SameRow R) r ys) (sym left) same.1) in
    let how_is : how ≡ how_by (gone y.dest) = one.how_is ∙ ap how_by (exited y.dest) in
    let entries : run g d (hand_entries gone w ys) ≡ run g c (hand_entries gone w (y ∷ ys)) =
    sym (run-append g c (handed_entries w y how) (hand_entries gone w ys))
    ∙ ap (λ (x : Handed). run g c (handed_entries w y x ++ hand_entries gone w ys)) how_is in
    record {
      hows_are = ap (λ (x : Handed). x ∷ hows) how_is ∙ ap (λ (xs : List Handed). how_by (gone y.dest) ∷ xs) rest.hows_are;
      meets = subst (λ (e : List Entry). Meets g n ls (run g (state g h) e) (run g c (hand_entries gone w (y ∷ ys)))) (sym steps.joined)
          (subst (λ (z : State). Meets g n ls z (run g c (hand_entries gone w (y ∷ ys))))
          (ap (λ (z : State). run g z steps.after) (state-append g h steps.before) ∙ sym (run-append g (state g h) steps.before steps.after))
          (subst (λ (d : State). Meets g n ls (run g (state g (h ++ steps.before)) steps.after) d) entries rest.meets));
    }

all_handed : (g : Settings) (n : ℕ) (ls : Labels) (w : ℕ) (gone : ℕ → Bool) (hows : List Handed) → HandedLater g n ls w gone hows
all_handed g n ls w gone [] h m c ys meets legal steps done exited same =
    let none : ((state g h).scheds w).expired ≡ [] =
    ap (λ (e : List Entry). ((state g e).scheds w).expired) (sym (append-nil h) ∙ ap (λ (e : List Entry). h ++ e) (sym steps)) ∙ done in
    none_handed g n ls w gone (state g h) c ((state g h).scheds w).expired ys m meets steps none same
all_handed g n ls w gone (how ∷ hows) h m c ys meets legal steps done exited same =
    first_handed g n ls w gone how hows (all_handed g n ls w gone hows) h m c ((state g h).scheds w).expired ys refl meets legal steps steps.one.first done exited same

-- a delivery of both
pub record AreDelivered (g : Settings) (n : ℕ) (ls : Labels) (w put dropped : ℕ) (s c : State) (es : List Entry) : Type 0 where
  pub put_is : put ≡ puts (hows_of c.exited (c.scheds w).expired)
  pub dropped_is : dropped ≡ drops (hows_of c.exited (c.scheds w).expired)
  pub meets : Meets g n ls (run g s es) (run g c (handing c w))

pub deliver_meets : (g : Settings) (n : ℕ) (ls : Labels) (w put dropped : ℕ) (h m : List Entry) (c : State) → Meets g n ls (state g h) c
    → LegalFrom g (state g h) m → HasDelivered g (alone g) w (put, dropped) h m → AreDelivered g n ls w put dropped (state g h) c m
deliver_meets g n ls w put dropped h m c meets legal does =
    let all = all_handed g n ls w c.exited does.hows h m c (c.scheds w).expired meets legal does.runs does.done (λ p. refl) (meets.shows.scheds w).expired in
    record {
      put_is = does.put_is ∙ ap puts all.hows_are;
      dropped_is = does.dropped_is ∙ ap drops all.hows_are;
      meets = all.meets;
    }
