-- What a scheduler does is possible after each legal history: it serves, hands over, and makes a turn.

use Rattle.std.proofs.Common.{◌≡◌, ◌⊎◌, inl, inr, ℕ, ℤ, zero, suc, ◌<◌, Bool, true, false, cond, ◌||◌, nat_eq, nat_lt, List, [], ◌∷◌, ◌++◌, Option, Some, None, Ok, refl, sym, ap, ◌∙◌, subst, arith, append_assoc, append-nil, eq-eqb}
use Rattle.std.proofs.lemmas.Bool.Decides.{nat_tests}
use Rattle.ert_defs.proofs.{ExpiredTimers.{cond_same, same_timer_self}, Runs.{legal-append, run-append, state-append}}
use Rattle.ert_defs.specs.{Actors.has_actor, Entries.{entry_by, look_entry, peek_entry, cancel_entry, pick_entry, answer_entry, mark_entry, deliver_entry, drop_entry}, Legal.{Can, LegalFrom, Legal, IsResult, names_timer}, Mails.SchedState}
use Rattle.ert_defs.specs.{Mails.{first_of, others_of, is_about, sched_after}, Settings.IsChecked, States.{State, next, run, state}, Timers.Row, declared.entry.Actor.TheVariants.{Wheel, Sched, MailOf}, declared.entry.Entry.Entry}
use Rattle.ert_defs.specs.{declared.entry.Event.Event, declared.entry.Event.TheVariants.{Look, Peek, Cancel}, declared.mail.Request.Request, declared.mail.RequestKind.RequestKind, declared.mail.RequestKind.TheVariants.Cancel as ToCancel}
use Rattle.ert_defs.specs.{declared.mail.RequestKind.TheVariants.Read as ToRead, declared.settings.Settings.Settings}
use Rattle.ert_effects.specs.{Chains.{HoldsRequest, HoldsBy, Serves, ServesMany, ServesAll, AdvancesWheel, Hands, HandsMany, Delivers, Turns, puts, drops}, MailCalls.handed_entries, RequestCalls.{DoesAsked, Answers}}
use Rattle.ert_effects.specs.{TimerCalls.{read_entries, cancel_entries, Reads, Cancels}, Ways.{Then, alone}, WheelCalls.HasAdvanced, declared.answers.Handed.Handed, declared.answers.Handed.TheVariants.{Put, Dropped}}
use Rattle.ert_effects.specs.{declared.answers.Turned.Turned}
use Rattle.ert_laws.proofs.{Requests.{HeldHasAsker, have_askers}, RowRanges.first_placed}
use Rattle.ert_laws.specs.Ranges.{IsPlaced}
use Rattle.ert_ops.proofs.{Following.{follow_as, follow_none, follow_step, follow_then, legal_with, then_before}, Hands.{expired_if, kept_others}, PossibleAdvances.possible_advance, PossibleStarts.or_not, PossibleCalls.can_mark}
use Rattle.ert_ops.proofs.{PossibleCalls.{possible_read, possible_cancel}, Reached.reached}
use Rattle.ert_ops.specs.Existence.{IsPossible, CanFollow}

-- what a scheduler does for the request in its hand leaves that there, with its result

-- an entry that it makes alone
sched_alone : (g : Settings) (w : ℕ) (z : State) (event : Event) → (next g z (entry_by (Sched w) None event)).scheds w ≡ sched_after z.rows (z.scheds w) event
sched_alone g w z event = ap (λ (b : Bool). cond (b || false) (sched_after z.rows (z.scheds w) event) (z.scheds w)) (eq-eqb w w refl)

record HasDone (q : Request) (named : Bool) (left : Option ℕ) (x : SchedState) : Type 0 where
  hand : x.hand ≡ Some q
  result : IsResult named x.result left

about_self : (q : Request) (x : SchedState) → x.hand ≡ Some q → is_about q.timer x.hand ≡ true
about_self q x hand = ap (is_about q.timer) hand ∙ same_timer_self q.timer

-- after a look the hand is as it was
look_hand : (g : Settings) (w : ℕ) (now : ℤ) (z : State) (q : Request) → (z.scheds w).hand ≡ Some q → ((next g z (look_entry (Sched w) now)).scheds w).hand ≡ Some q
look_hand g w now z q hand = ap (λ (x : SchedState). x.hand) (sched_alone g w z (Look now)) ∙ hand

peek_done : (g : Settings) (w : ℕ) (z : State) (q : Request) (left : Option ℕ) → (z.scheds w).hand ≡ Some q
    → HasDone q true left ((next g z (peek_entry (Sched w) q.timer left)).scheds w)
peek_done g w z q left hand =
    subst (HasDone q true left) (sym (sched_alone g w z (Peek q.timer left)))
    (record { hand = hand; result = ap (λ (b : Bool). cond b (Some left) (z.scheds w).result) (about_self q (z.scheds w) hand) })

cancel_done : (g : Settings) (w : ℕ) (z : State) (q : Request) (left : Option ℕ) → (z.scheds w).hand ≡ Some q
    → HasDone q true left ((next g z (cancel_entry (Sched w) q.timer left)).scheds w)
cancel_done g w z q left hand =
    subst (HasDone q true left) (sym (sched_alone g w z (Cancel q.timer left)))
    (record { hand = hand; result = ap (λ (b : Bool). cond b (Some left) (z.scheds w).result) (about_self q (z.scheds w) hand) })

cancels_done : (g : Settings) (w : ℕ) (z : State) (q : Request) (now : ℤ) (b : Bool) (found left : Option ℕ) → (z.scheds w).hand ≡ Some q
    → (b ≡ false → found ≡ None) → (found ≡ None → left ≡ None)
    → HasDone q b left ((run g z (look_entry (Sched w) now ∷ cancel_entries b (Sched w) q.timer found left)).scheds w)
cancels_done g w z q now false found left hand unread quiet = record { hand = look_hand g w now z q hand; result = quiet (unread refl) }
cancels_done g w z q now true None left hand unread quiet =
    let s : State = next g z (look_entry (Sched w) now) in
    subst (λ (x : Option ℕ). HasDone q true x ((next g s (peek_entry (Sched w) q.timer None)).scheds w)) (sym (quiet refl))
    (peek_done g w s q None (look_hand g w now z q hand))
cancels_done g w z q now true (Some n) left hand unread quiet =
    let s : State = next g z (look_entry (Sched w) now) in
    let peeked = peek_done g w s q (Some n) (look_hand g w now z q hand) in
    cancel_done g w (next g s (peek_entry (Sched w) q.timer (Some n))) q left peeked.hand

reads_done : (g : Settings) (w : ℕ) (z : State) (q : Request) (now : ℤ) (b : Bool) (left : Option ℕ) → (z.scheds w).hand ≡ Some q
    → (b ≡ false → left ≡ None)
    → HasDone q b left ((run g z (look_entry (Sched w) now ∷ read_entries b (Sched w) q.timer left)).scheds w)
reads_done g w z q now false left hand quiet = record { hand = look_hand g w now z q hand; result = quiet refl }
reads_done g w z q now true left hand quiet = peek_done g w (next g z (look_entry (Sched w) now)) q left (look_hand g w now z q hand)

-- it does what it was asked for
record IsAsked (g : Settings) (w : ℕ) (q : Request) (s : State) : Type 0 where
  left : Option ℕ
  steps : IsPossible g s (DoesAsked q.kind g w q.timer left)
  done : HasDone q (names_timer g q.timer) left ((run g s steps.entries).scheds w)

asked_by : (g : Settings) (w : ℕ) (q : Request) (s : State) → w < g.schedulers → (s.scheds w).hand ≡ Some q → (kind : RequestKind) → q.kind ≡ kind → IsAsked g w q s
asked_by g w q s sched hand ToCancel is =
    let a = possible_cancel g s (Sched w) q.timer sched in
    let does : Cancels g (Sched w) q.timer a.0 s a.1.entries = a.1.allowed in
    record {
      left = a.0;
      steps = record {
        entries = a.1.entries;
        allowed = subst (λ (k : RequestKind). DoesAsked k g w q.timer a.0 s a.1.entries) (sym is) does;
        legal = a.1.legal;
        undue = a.1.undue;
      };
      done = subst (λ (es : List Entry). HasDone q (names_timer g q.timer) a.0 ((run g s es).scheds w)) (sym does.entries)
          (cancels_done g w s q does.now (names_timer g q.timer) does.found a.0 hand does.unread does.quiet);
    }
asked_by g w q s sched hand ToRead is =
    let a = possible_read g s (Sched w) q.timer sched in
    let does : Reads g (Sched w) q.timer a.0 s a.1.entries = a.1.allowed in
    record {
      left = a.0;
      steps = record {
        entries = a.1.entries;
        allowed = subst (λ (k : RequestKind). DoesAsked k g w q.timer a.0 s a.1.entries) (sym is) does;
        legal = a.1.legal;
        undue = a.1.undue;
      };
      done = subst (λ (es : List Entry). HasDone q (names_timer g q.timer) a.0 ((run g s es).scheds w)) (sym does.entries)
          (reads_done g w s q does.now (names_timer g q.timer) a.0 hand does.quiet);
    }

-- and answers
possible_answer : (g : Settings) (h : List Entry) (w : ℕ) (q : Request) → Legal g h → w < g.schedulers → ((state g h).scheds w).hand ≡ Some q
    → (left : Option ℕ) × CanFollow g h (alone g (MailOf q.reply_to ∷ []) (Answers g w q (Ok left)))
possible_answer g h w q legal sched hand =
    let s : State = state g h in
    let asked = asked_by g w q s sched hand q.kind refl in
    let es : List Entry = asked.steps.entries in
    let answer : Entry = answer_entry w q.reply_to asked.left in
    let asker : q.reply_to < g.processes = subst (HeldHasAsker g) hand ((have_askers g h legal).hands w) in
    let can : Can g (run g s es) answer = record {
      keeps = (refl, asker, sched);
      known = record { request = q; hand = asked.done.hand; asker = refl; result = asked.done.result };
      found = tt;
    } in
    let after : run g s (es ++ answer ∷ []) ≡ next g (run g s es) answer = run-append g s es (answer ∷ []) in (
      asked.left,
      follow_step g h (MailOf q.reply_to ∷ []) (Answers g w q (Ok asked.left)) (record {
        entries = es ++ answer ∷ [];
        allowed = record { steps = es; done = asked.steps.allowed; entries = refl };
        legal = legal-append g s es (answer ∷ []) asked.steps.legal (can, tt);
        undue = λ idle. subst (λ (z : State). z.clock.due ≡ None) (sym after) (asked.steps.undue idle);
      }),
    )

-- a request is served, or there is none

abbrev Serving : Settings → List Entry → ℕ → Type 0
Serving g h w = CanFollow g h (Serves g (alone g) w (Ok true)) ⊎ CanFollow g h (Serves g (alone g) w (Ok false))

serve_held : (g : Settings) (h : List Entry) (w : ℕ) (q : Request) → Legal g h → w < g.schedulers → (first : CanFollow g h (HoldsRequest g (alone g) w (Some q)))
    → ((state g (h ++ first.piece)).scheds w).hand ≡ Some q → CanFollow g h (Serves g (alone g) w (Ok true))
serve_held g h w q legal sched first hand =
    let held = HoldsRequest g (alone g) w (Some q) in
    let a = possible_answer g (h ++ first.piece) w q (legal_with g h held legal first) sched hand in
    follow_as g h (Then held (alone g (MailOf q.reply_to ∷ []) (Answers g w q (Ok a.0)))) (Serves g (alone g) w (Ok true))
    (λ m made. record { request = q; left = a.0; steps = made })
    (follow_then g h held (alone g (MailOf q.reply_to ∷ []) (Answers g w q (Ok a.0))) first a.1)

picks_can : (g : Settings) (s : State) (w : ℕ) (got : Option Request) → w < g.schedulers → (s.scheds w).hand ≡ None → got ≡ first_of (s.inboxes w)
    → LegalFrom g s (pick_entry w got ∷ [])
picks_can g s w got sched hand is = (record { keeps = (refl, refl, sched); known = (hand, is); found = tt }, tt)

picked_follows : (g : Settings) (h : List Entry) (w : ℕ) (got : Option Request) → w < g.schedulers → ((state g h).scheds w).hand ≡ None
    → got ≡ first_of ((state g h).inboxes w) → CanFollow g h (HoldsRequest g (alone g) w got)
picked_follows g h w got sched hand is = record {
  piece = pick_entry w got ∷ [];
  made = subst (λ (x : Option Request). HoldsBy x (alone g) g w got h (pick_entry w got ∷ [])) (sym hand) refl;
  legal = picks_can g (state g h) w got sched hand is;
  undue = λ idle. subst (λ (z : State). z.clock.due ≡ None) (sym (state-append g h (pick_entry w got ∷ []))) idle;
}

picked_hand : (g : Settings) (h : List Entry) (w : ℕ) (got : Option Request) → ((state g (h ++ pick_entry w got ∷ [])).scheds w).hand ≡ got
picked_hand g h w got =
    ap (λ (z : State). (z.scheds w).hand) (state-append g h (pick_entry w got ∷ []))
    ∙ ap (λ (b : Bool). (cond (b || false) (let x : SchedState = record { hand = got; result = None; expired = ((state g h).scheds w).expired } in x) ((state g h).scheds w)).hand)
    (eq-eqb w w refl)

serve_picked : (g : Settings) (h : List Entry) (w : ℕ) → Legal g h → w < g.schedulers → ((state g h).scheds w).hand ≡ None → (got : Option Request)
    → got ≡ first_of ((state g h).inboxes w) → Serving g h w
serve_picked g h w legal sched hand None is = inr (picked_follows g h w None sched hand is)
serve_picked g h w legal sched hand (Some q) is =
    let first : CanFollow g h (HoldsRequest g (alone g) w (Some q)) = record {
      piece = pick_entry w (Some q) ∷ [];
      made = subst (λ (x : Option Request). HoldsBy x (alone g) g w (Some q) h (pick_entry w (Some q) ∷ [])) (sym hand) refl;
      legal = picks_can g (state g h) w (Some q) sched hand is;
      undue = λ idle. subst (λ (z : State). z.clock.due ≡ None) (sym (state-append g h (pick_entry w (Some q) ∷ []))) idle;
    } in
    inl (serve_held g h w q legal sched first (picked_hand g h w (Some q)))

serve_by : (g : Settings) (h : List Entry) (w : ℕ) → Legal g h → w < g.schedulers → (hand : Option Request) → ((state g h).scheds w).hand ≡ hand → Serving g h w
serve_by g h w legal sched None is = serve_picked g h w legal sched is _ refl
serve_by g h w legal sched (Some q) is =
    let first : CanFollow g h (HoldsRequest g (alone g) w (Some q)) = record {
      piece = [];
      made = subst (λ (x : Option Request). HoldsBy x (alone g) g w (Some q) h []) (sym is) (refl, refl);
      legal = tt;
      undue = λ idle. subst (λ (l : List Entry). (state g l).clock.due ≡ None) (sym (append-nil h)) idle;
    } in
    inl (serve_held g h w q legal sched first (ap (λ (l : List Entry). ((state g l).scheds w).hand) (append-nil h) ∙ is))

serving : (g : Settings) (h : List Entry) (w : ℕ) → Legal g h → w < g.schedulers → Serving g h w
serving g h w legal sched = serve_by g h w legal sched _ refl

pub possible_serve : (g : Settings) (h : List Entry) (w : ℕ) → Legal g h → w < g.schedulers → (served : Bool) × CanFollow g h (Serves g (alone g) w (Ok served))
possible_serve g h w legal sched = elim (serving g h w legal sched) [ inl served ↦ (true, served) | inr none ↦ (false, none) ]

-- so many at most, and then none

record ServesFew (g : Settings) (h : List Entry) (w most : ℕ) : Type 0 where
  count : ℕ
  few : count < most
  follows : CanFollow g h (Then (ServesMany g (alone g) w count) (Serves g (alone g) w (Ok false)))

abbrev ServingAll : Settings → List Entry → ℕ → ℕ → Type 0
ServingAll g h w most = CanFollow g h (ServesMany g (alone g) w most) ⊎ ServesFew g h w most

serve_more : (g : Settings) (h : List Entry) (w most : ℕ) → (x : CanFollow g h (Serves g (alone g) w (Ok true))) → ServingAll g (h ++ x.piece) w most
    → ServingAll g h w (suc most)
serve_more g h w most x (inl all) =
    inl (follow_as g h (Then (Serves g (alone g) w (Ok true)) (ServesMany g (alone g) w most)) (ServesMany g (alone g) w (suc most)) (λ m made. made)
    (follow_then g h (Serves g (alone g) w (Ok true)) (ServesMany g (alone g) w most) x all))
serve_more g h w most x (inr some) =
    let one = Serves g (alone g) w (Ok true) in
    let many = ServesMany g (alone g) w some.count in
    let none = Serves g (alone g) w (Ok false) in
    inr (record {
      count = suc some.count;
      few = omega (arith, some.few);
      follows = follow_as g h (Then one (Then many none)) (Then (ServesMany g (alone g) w (suc some.count)) none) (then_before one many none h)
          (follow_then g h one (Then many none) x some.follows);
    })

serve_all : (g : Settings) (h : List Entry) (w most : ℕ) → Legal g h → w < g.schedulers → ServingAll g h w most
serve_all g h w zero legal sched = inl (follow_none g h (ServesMany g (alone g) w 0) refl)
serve_all g h w (suc most) legal sched = elim (serving g h w legal sched) [
  | inl x ↦ serve_more g h w most x (serve_all g (h ++ x.piece) w most (legal_with g h (Serves g (alone g) w (Ok true)) legal x) sched)
  | inr x ↦ inr (record {
    count = 0;
    few = omega arith;
    follows = follow_as g h (Serves g (alone g) w (Ok false)) (Then (ServesMany g (alone g) w 0) (Serves g (alone g) w (Ok false)))
        (λ m made. record {
          before = [];
          after = m;
          joined = refl;
          one = refl;
          other = subst (λ (l : List Entry). Serves g (alone g) w (Ok false) l m) (sym (append-nil h)) made;
        }) x;
  })
]

possible_requests : (g : Settings) (h : List Entry) (w : ℕ) → Legal g h → w < g.schedulers → (n : ℕ) × CanFollow g h (ServesAll g (alone g) w (Ok n))
possible_requests g h w legal sched = elim (serve_all g h w 64 legal sched) [
  | inl all ↦ (64, follow_as g h (ServesMany g (alone g) w 64) (ServesAll g (alone g) w (Ok 64)) (λ m made. (omega arith, made)) all)
  | inr some ↦
      let few = some.few in
      let test : nat_lt some.count 64 ≡ true = grind (arith, nat_tests) in
      let than = Then (ServesMany g (alone g) w some.count) (Serves g (alone g) w (Ok false)) in (
        some.count,
        follow_as g h than (ServesAll g (alone g) w (Ok some.count))
            (λ m made. (omega (arith, few), subst (λ (b : Bool). cond b (than h m) (ServesMany g (alone g) w some.count h m)) (sym test) made)) some.follows,
      )
]

-- all expired timers are handed over

record IsHandedNext (g : Settings) (w : ℕ) (y : Row) (s : State) : Type 0 where
  how : Handed
  legal : LegalFrom g s (handed_entries w y how)
  left : ((run g s (handed_entries w y how)).scheds w).expired ≡ others_of (s.scheds w).expired
  undue : s.clock.due ≡ None → (run g s (handed_entries w y how)).clock.due ≡ None

hands_by : (g : Settings) (w : ℕ) (y : Row) (s : State) → w < g.schedulers → first_of (s.scheds w).expired ≡ Some y → IsPlaced g w y
    → (was : Bool) → s.exited y.dest ≡ was → IsHandedNext g w y s
hands_by g w y s sched first placed false alive =
    let mark : Entry = mark_entry (Sched w) y.dest false false in
    let deliver : Entry = deliver_entry w y.dest y.timer in
    let z : State = next g s mark in
    let same : (v : ℕ) → z.scheds v ≡ s.scheds v = λ v. cond_same (has_actor mark (Sched v)) (s.scheds v) in
    let has : has_actor deliver (Sched w) ≡ true = ap (λ (b : Bool). b || false) (eq-eqb w w refl) in
    record {
      how = Put;
      legal = (
        can_mark g s (Sched w) y.dest false sched placed.dest false (sym alive),
        (
          record {
            keeps = (ap Sched (sym placed.wheel), placed.dest, placed.place);
            known = (
              record {
                row = y;
                first = ap (λ (v : ℕ). first_of (z.scheds v).expired) placed.wheel ∙ (ap (λ (x : SchedState). first_of x.expired) (same w) ∙ first);
                named = refl;
              },
              refl,
            );
            found = tt;
          },
          tt,
        ),
      );
      left = kept_others g w y.dest false s deliver refl (λ x. expired_if (has_actor deliver (Sched w)) _ _) has;
      undue = λ idle. idle;
    }
hands_by g w y s sched first placed true gone =
    let mark : Entry = mark_entry (Sched w) y.dest false true in
    let drop : Entry = drop_entry w y.timer in
    let z : State = next g s mark in
    let same : (v : ℕ) → z.scheds v ≡ s.scheds v = λ v. cond_same (has_actor mark (Sched v)) (s.scheds v) in
    let has : has_actor drop (Sched w) ≡ true = ap (λ (b : Bool). b || false) (eq-eqb w w refl) in
    record {
      how = Dropped;
      legal = (
        can_mark g s (Sched w) y.dest false sched placed.dest true (sym gone),
        (
          record {
            keeps = (ap Sched (sym placed.wheel), refl, placed.place);
            known = (
              record {
                row = y;
                first = ap (λ (v : ℕ). first_of (z.scheds v).expired) placed.wheel ∙ (ap (λ (x : SchedState). first_of x.expired) (same w) ∙ first);
                named = refl;
              },
              or_not (s.exited y.dest) (nat_eq y.dest y.dest) ∙ gone,
            );
            found = tt;
          },
          tt,
        ),
      );
      left = kept_others g w y.dest true s drop refl (λ x. expired_if (has_actor drop (Sched w)) _ _) has;
      undue = λ idle. idle;
    }

record AreAllHanded (g : Settings) (h : List Entry) (w : ℕ) : Type 0 where
  hows : List Handed
  follows : CanFollow g h (HandsMany g (alone g) w hows)
  done : ((state g (h ++ follows.piece)).scheds w).expired ≡ []

hand_all : (g : Settings) (h : List Entry) (w : ℕ) (ys : List Row) → Legal g h → w < g.schedulers → ((state g h).scheds w).expired ≡ ys → AreAllHanded g h w
hand_all g h w [] legal sched is = record {
  hows = [];
  follows = record {
    piece = [];
    made = refl;
    legal = tt;
    undue = λ idle. subst (λ (l : List Entry). (state g l).clock.due ≡ None) (sym (append-nil h)) idle;
  };
  done = ap (λ (l : List Entry). ((state g l).scheds w).expired) (append-nil h) ∙ is;
}
hand_all g h w (y ∷ ys) legal sched is =
    let s : State = state g h in
    let first : first_of (s.scheds w).expired ≡ Some y = ap first_of is in
    let one = hands_by g w y s sched first (first_placed g h w y legal first) _ refl in
    let es : List Entry = handed_entries w y one.how in
    let call = Hands g (alone g) w (Ok one.how) in
    let x : CanFollow g h call = record {
      piece = es;
      made = record { expired = y; first = first; step = refl };
      legal = one.legal;
      undue = λ idle. subst (λ (z : State). z.clock.due ≡ None) (sym (state-append g h es)) (one.undue idle);
    } in
    let left : ((state g (h ++ es)).scheds w).expired ≡ ys =
    ap (λ (z : State). (z.scheds w).expired) (state-append g h es) ∙ (one.left ∙ ap others_of is) in
    let more = hand_all g (h ++ es) w ys (legal_with g h call legal x) sched left in
    record {
      hows = one.how ∷ more.hows;
      follows = record {
        piece = es ++ more.follows.piece;
        made = record { before = es; after = more.follows.piece; joined = refl; one = x.made; other = more.follows.made };
        legal = legal-append g s es more.follows.piece one.legal (subst (λ (z : State). LegalFrom g z more.follows.piece) (state-append g h es) more.follows.legal);
        undue = λ idle. subst (λ (l : List Entry). (state g l).clock.due ≡ None) (append_assoc h es more.follows.piece) (more.follows.undue (x.undue idle));
      };
      done = ap (λ (l : List Entry). ((state g l).scheds w).expired) (sym (append_assoc h es more.follows.piece)) ∙ more.done;
    }

pub possible_deliver : (g : Settings) (h : List Entry) (w : ℕ) → Legal g h → w < g.schedulers → (answer : ℕ × ℕ) × CanFollow g h (Delivers g (alone g) w (Ok answer))
possible_deliver g h w legal sched =
    let all = hand_all g h w _ legal sched refl in (
      (puts all.hows, drops all.hows),
      record {
        piece = all.follows.piece;
        made = record { hows = all.hows; runs = all.follows.made; put_is = refl; dropped_is = refl; done = all.done };
        legal = all.follows.legal;
        undue = all.follows.undue;
      },
    )

pub can_advance : (g : Settings) (h : List Entry) (w : ℕ) → IsChecked g → Legal g h → w < g.schedulers
    → (answer : ℕ × ℕ) × CanFollow g h (AdvancesWheel g (alone g) w (Ok answer))
can_advance g h w checked legal sched =
    let a = possible_advance g (state g h) w (reached g h checked legal) sched in
    (a.0, follow_step g h (Wheel w ∷ []) (HasAdvanced w a.0) a.1)

-- a turn

pub possible_turn : (g : Settings) (h : List Entry) (w : ℕ) → IsChecked g → Legal g h → w < g.schedulers
    → (turned : Turned) × CanFollow g h (Turns g (alone g) w (Ok turned))
possible_turn g h w checked legal sched =
    let served = possible_requests g h w legal sched in
    let serves = ServesAll g (alone g) w (Ok served.0) in
    let then : List Entry = h ++ served.1.piece in
    let legal_then = legal_with g h serves legal served.1 in
    let advanced = can_advance g then w checked legal_then sched in
    let advances = AdvancesWheel g (alone g) w (Ok advanced.0) in
    let last : List Entry = then ++ advanced.1.piece in
    let delivered = possible_deliver g last w (legal_with g then advances legal_then advanced.1) sched in
    let delivers = Delivers g (alone g) w (Ok delivered.0) in (
      record { served = served.0; to = advanced.0.0; expired = advanced.0.1; put = delivered.0.0; dropped = delivered.0.1 },
      follow_then g h serves (Then advances delivers) served.1 (follow_then g then advances delivers advanced.1 delivered.1),
    )
