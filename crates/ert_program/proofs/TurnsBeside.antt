-- The turns of a scheduler, made alone after others, are made beside them.

use Rattle.std.proofs.Common.{◌≡◌, ℕ, Bool, true, false, nat_lt, cond, List, [], ◌∷◌, ◌++◌, Option, Some, None, Ok, inl, inr, refl, sym, ap, ◌∙◌, subst, append_assoc, append-nil}
use Rattle.ert_defs.proofs.Runs.{sched_stays, state-append}
use Rattle.ert_defs.specs.{Actors.IsFree, Mails.{SchedState, first_of}, States.{State, state}, declared.entry.Actor.TheVariants.{Wheel, Inbox, Sched, MailOf}, declared.entry.Entry.Entry, declared.mail.Request.Request}
use Rattle.ert_defs.specs.{declared.settings.Settings.Settings}
use Rattle.ert_effects.specs.{Chains.{HoldsBy, HoldsRequest, HasServed, Serves, units, ServesMany, ServesAll, AdvancesWheel, Hands, HandsMany, Delivers, Turns}, MailCalls.HandsOver, RequestCalls.{Picks, Answers}, Ways.{Way, Then, Many}}
use Rattle.ert_effects.specs.{Ways.{alone, beside}, WheelCalls.Advances, declared.answers.Handed.Handed, declared.answers.Turned.Turned}
use Rattle.ert_program.proofs.{Delays.{Late, Delays, step_beside, delay_step, delay_then, delay_many, delay_cond, late_as}, Having.as_these}
use Rattle.ert_locks.proofs.Own.{advances_have, picks_have, answers_have, hands_have}

-- what a scheduler has stays while others step
sched_same : (g : Settings) (w : ℕ) (h x p : List Entry) → p ≡ h ++ x → IsFree x (Sched w) → (state g p).scheds w ≡ (state g h).scheds w
sched_same g w h x p is free =
    ap (λ (l : List Entry). (state g l).scheds w) is ∙ (ap (λ (s : State). s.scheds w) (state-append g h x) ∙ sched_stays g w (state g h) x free)

delay_held : (g : Settings) (w : ℕ) (got hand : Option Request)
    → Delays (Sched w) (HoldsBy hand (alone g) g w got) (HoldsBy hand (beside g (Sched w)) g w got)
delay_held g w got (Some request) = λ h x p m is free made. (inr (made.1, (made.0, refl)), as_these (Sched w) m [] made.1 tt)
delay_held g w got None = delay_step g (Sched w) (Inbox w ∷ []) (Picks g w got) (picks_have g w got)

delay_holds : (g : Settings) (w : ℕ) (got : Option Request) → Delays (Sched w) (HoldsRequest g (alone g) w got) (HoldsRequest g (beside g (Sched w)) w got)
delay_holds g w got h x p m is free made =
    delay_held g w got ((state g h).scheds w).hand h x p m is free
    (subst (λ (s : SchedState). HoldsBy s.hand (alone g) g w got p m) (sched_same g w h x p is free) made)

delay_has_served : (g : Settings) (w : ℕ) → Delays (Sched w) (HasServed g (alone g) w) (HasServed g (beside g (Sched w)) w)
delay_has_served g w h x p m is free made =
    let first = λ (way : Way). HoldsRequest g way w (Some made.request) in
    let second = λ (way : Way). way (MailOf made.request.reply_to ∷ []) (Answers g w made.request (Ok made.left)) in
    let steps = delay_then (Sched w) (first (alone g)) (second (alone g)) (first (beside g (Sched w))) (second (beside g (Sched w))) (delay_holds g w (Some made.request))
    (delay_step g (Sched w) (MailOf made.request.reply_to ∷ []) (Answers g w made.request (Ok made.left)) (answers_have g w made.request (Ok made.left)))
    h x p m is free made.steps in (
      late_as (Then (first (beside g (Sched w))) (second (beside g (Sched w)))) (HasServed g (beside g (Sched w)) w) h x m
          (λ n told. record { request = made.request; left = made.left; steps = told }) steps.0,
      steps.1,
    )

delay_serve : (g : Settings) (w : ℕ) (served : Bool) → Delays (Sched w) (Serves g (alone g) w (Ok served)) (Serves g (beside g (Sched w)) w (Ok served))
delay_serve g w true = delay_has_served g w
delay_serve g w false = delay_holds g w None

delay_many_serves : (g : Settings) (w n : ℕ) → Delays (Sched w) (ServesMany g (alone g) w n) (ServesMany g (beside g (Sched w)) w n)
delay_many_serves g w n =
    delay_many (Sched w) (λ (one : Unit {0}). Serves g (alone g) w (Ok true)) (λ (one : Unit {0}). Serves g (beside g (Sched w)) w (Ok true))
    (λ one. delay_serve g w true) (units n)

delay_serves : (g : Settings) (w n : ℕ) → Delays (Sched w) (ServesAll g (alone g) w (Ok n)) (ServesAll g (beside g (Sched w)) w (Ok n))
delay_serves g w n h x p m is free made =
    let some = λ (way : Way). ServesMany g way w n in
    let none = λ (way : Way). Serves g way w (Ok false) in
    let all = delay_cond (Sched w) (nat_lt n 64) (Then (some (alone g)) (none (alone g))) (Then (some (beside g (Sched w))) (none (beside g (Sched w))))
    (some (alone g)) (some (beside g (Sched w)))
    (delay_then (Sched w) (some (alone g)) (none (alone g)) (some (beside g (Sched w))) (none (beside g (Sched w))) (delay_many_serves g w n) (delay_serve g w false))
    (delay_many_serves g w n) h x p m is free made.1 in (
      late_as (λ k l. cond (nat_lt n 64) (Then (some (beside g (Sched w))) (none (beside g (Sched w))) k l) (some (beside g (Sched w)) k l))
          (ServesAll g (beside g (Sched w)) w (Ok n)) h x m (λ l told. (made.0, told)) all.0,
      all.1,
    )

delay_hands : (g : Settings) (w : ℕ) (how : Handed) → Delays (Sched w) (Hands g (alone g) w (Ok how)) (Hands g (beside g (Sched w)) w (Ok how))
delay_hands g w how h x p m is free made =
    let step = step_beside g (Sched w) (MailOf made.expired.dest ∷ []) (HandsOver g w made.expired (Ok how)) (hands_have g w made.expired (Ok how)) h x p m is free made.step in (
      inl (record {
        expired = made.expired;
        first = subst (λ (s : SchedState). first_of s.expired ≡ Some made.expired) (sched_same g w h x p is free) made.first;
        step = step.0;
      }),
      step.1,
    )

delay_delivers : (g : Settings) (w : ℕ) (answer : ℕ × ℕ) → Delays (Sched w) (Delivers g (alone g) w (Ok answer)) (Delivers g (beside g (Sched w)) w (Ok answer))
delay_delivers g w answer h x p m is free made =
    let runs = delay_many (Sched w) (λ (how : Handed). Hands g (alone g) w (Ok how)) (λ (how : Handed). Hands g (beside g (Sched w)) w (Ok how)) (delay_hands g w) made.hows
    h x p m is free made.runs in
    (at runs.0, runs.1)
  where
    is_done : (l : List Entry) → (state g (p ++ m)).scheds w ≡ (state g l).scheds w → ((state g l).scheds w).expired ≡ []
    is_done l same = subst (λ (s : SchedState). s.expired ≡ []) same made.done

    at : Late (HandsMany g (beside g (Sched w)) w made.hows) h x m → Late (Delivers g (beside g (Sched w)) w (Ok answer)) h x m
    at (inl all) = inl (record {
      hows = made.hows;
      runs = all;
      put_is = made.put_is;
      dropped_is = made.dropped_is;
      done = is_done (h ++ (x ++ m)) (ap (λ (l : List Entry). (state g l).scheds w) (ap (λ (l : List Entry). l ++ m) is ∙ append_assoc h x m));
    })
    at (inr none) = inr (
      none.0,
      record {
        hows = made.hows;
        runs = none.1;
        put_is = made.put_is;
        dropped_is = made.dropped_is;
        done = is_done (h ++ []) (ap (λ (l : List Entry). (state g l).scheds w) (ap (λ (l : List Entry). p ++ l) none.0 ∙ append-nil p)
            ∙ (sched_same g w h x p is free ∙ ap (λ (l : List Entry). (state g l).scheds w) (sym (append-nil h))));
      },
    )

delay_turn : (g : Settings) (w : ℕ) (t : Turned) → Delays (Sched w) (Turns g (alone g) w (Ok t)) (Turns g (beside g (Sched w)) w (Ok t))
delay_turn g w t =
    delay_then (Sched w)
    (ServesAll g (alone g) w (Ok t.served)) (Then (AdvancesWheel g (alone g) w (Ok (t.to, t.expired))) (Delivers g (alone g) w (Ok (t.put, t.dropped))))
    (ServesAll g (beside g (Sched w)) w (Ok t.served))
    (Then (AdvancesWheel g (beside g (Sched w)) w (Ok (t.to, t.expired))) (Delivers g (beside g (Sched w)) w (Ok (t.put, t.dropped))))
    (delay_serves g w t.served)
    (delay_then (Sched w)
    (AdvancesWheel g (alone g) w (Ok (t.to, t.expired))) (Delivers g (alone g) w (Ok (t.put, t.dropped)))
    (AdvancesWheel g (beside g (Sched w)) w (Ok (t.to, t.expired))) (Delivers g (beside g (Sched w)) w (Ok (t.put, t.dropped)))
    (delay_step g (Sched w) (Wheel w ∷ []) (Advances g w (Ok (t.to, t.expired))) (advances_have g w (Ok (t.to, t.expired))))
    (delay_delivers g w (t.put, t.dropped)))

pub delay_turns : (g : Settings) (w : ℕ) (turns : List Turned)
    → Delays (Sched w) (Many (λ t. Turns g (alone g) w (Ok t)) turns) (Many (λ t. Turns g (beside g (Sched w)) w (Ok t)) turns)
delay_turns g w turns =
    delay_many (Sched w) (λ (t : Turned). Turns g (alone g) w (Ok t)) (λ (t : Turned). Turns g (beside g (Sched w)) w (Ok t)) (delay_turn g w) turns
