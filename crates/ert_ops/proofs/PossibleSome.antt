-- An advance that tries so many timers at most has an answer in each state that a legal history comes to.

use Rattle.std.proofs.Common.{◌≡◌, ℕ, zero, suc, pos, ◌<◌, Bool, cond, List, [], ◌∷◌, ◌++◌, AllPairs, length, None, Some, inl, inr, refl, sym, ap, ◌∙◌, subst, arith, eq-eqb}
use Rattle.ert_defs.proofs.{ExpiredTimers.{cond_same, same_timer_self}, Rows.Differ}
use Rattle.ert_defs.specs.{Actors.has_actor, Entries.{look_entry, expire_entry}, Legal.{Can, LegalFrom}, Milliseconds.{natural, down}, States.{State, next, run}, Timers.{Row, row_of, settled_as}, declared.entry.Actor.TheVariants.Wheel}
use Rattle.ert_defs.specs.{declared.entry.Actor.TheVariants.Sched, declared.entry.Entry.Entry, declared.settings.Settings.Settings, declared.timer.Status.TheVariants.Expired, declared.timer.TimerRef.TimerRef}
use Rattle.ert_effects.specs.{SomeCalls.{AreTried, HasAdvancedSome, end_entries}, WheelCalls.{Try, expiry_entries, hits, AllMissesSettled, IsDueBy, AllDue, AreOnce}, declared.answers.Left.Left, declared.answers.Left.TheVariants.Nothing}
use Rattle.ert_effects.specs.{declared.answers.Left.TheVariants.{Due, Moving}}
use Rattle.ert_laws.proofs.StandingRows.{row_stands}
use Rattle.ert_ops.proofs.{Advances.look_stays, PossibleAdvances.{AllArmed, IsPicked, Picks, all_armed_before, expires_can, pick, untried}, PossibleCalls.can_look, Reached.{IsReached, milliseconds, reached_next}}
use Rattle.ert_ops.specs.Existence.{IsPossible}

record AreSomeExpired (g : Settings) (w to most : ℕ) (z : State) : Type 0 where
  tries : List Try
  left : Left
  settled : AllMissesSettled tries
  due : AllDue (z.rows w) to tries
  armed : AllArmed z.status tries
  once : AreOnce tries
  tried : AreTried left most (length tries)
  legal : LegalFrom g z (expiry_entries w tries ++ end_entries w to left)
  undue : z.clock.due ≡ None → (run g z (expiry_entries w tries ++ end_entries w to left)).clock.due ≡ None

one_more_tried : (left : Left) (most count : ℕ) → AreTried left most count → AreTried left (suc most) (suc count)
one_more_tried Nothing most count tried = omega (arith, tried)
one_more_tried Due most count tried = omega (arith, tried)
one_more_tried Moving most count tried = omega (arith, tried)

some_more : (g : Settings) (w to most : ℕ) (z : State) → IsReached g z → (p : IsPicked z.status to (z.rows w)) → Can g z (expire_entry w p.row.timer)
    → AreSomeExpired g w to most (next g z (expire_entry w p.row.timer)) → AreSomeExpired g w to (suc most) z
some_more g w to most z h p can more =
    let t : TimerRef = p.row.timer in
    let e : Entry = expire_entry w t in
    let rows : (next g z e).rows w ≡ z.rows w = cond_same (has_actor e (Wheel w)) (z.rows w) in
    let apart : AllPairs Differ (p.before ++ (p.row ∷ p.behind)) = subst (AllPairs Differ) p.stands (h.kept.rows w).apart in
    let here : IsDueBy (z.rows w) to t = record {
      row = p.row;
      stands = ap (λ (l : List Row). row_of l t) p.stands ∙ row_stands p.before p.row p.behind apart;
      due = p.low;
    } in
    let expired : (next g z e).status t ≡ Some Expired =
    ap (λ (b : Bool). cond b (settled_as Expired (z.status t)) (z.status t)) (same_timer_self t) ∙ ap (settled_as Expired) p.armed in
    record {
      tries = (record { timer = t; missed = None }) ∷ more.tries;
      left = more.left;
      settled = (tt, more.settled);
      due = (here, subst (λ (l : List Row). AllDue l to more.tries) rows more.due);
      armed = (p.armed, all_armed_before t z.status more.tries more.armed);
      once = (untried t (next g z e).status more.tries expired more.armed, more.once);
      tried = one_more_tried more.left most (length more.tries) more.tried;
      legal = (can, more.legal);
      undue = more.undue;
    }

some_by : (g : Settings) (w to most : ℕ) (z : State) → w < g.schedulers → IsReached g z → pos to ≡ down g (z.looked (Sched w)) → Picks z.status to (z.rows w)
    → ((x : State) → IsReached g x → pos to ≡ down g (x.looked (Sched w)) → AreSomeExpired g w to most x) → AreSomeExpired g w to (suc most) z
some_by g w to most z sched h is (inl settled) later = record {
  tries = [];
  left = Nothing;
  settled = tt;
  due = tt;
  armed = tt;
  once = tt;
  tried = omega arith;
  legal = (record { keeps = (refl, refl, sched); known = (is, settled); found = tt }, tt);
  undue = λ idle. idle;
}
some_by g w to most z sched h is (inr p) later =
    let e : Entry = expire_entry w p.row.timer in
    let can : Can g z e = expires_can g w to z sched h is p in
    some_more g w to most z h p can (later (next g z e) (reached_next g z e h can) (is ∙ ap (down g) (sym (look_stays w p.row.timer None g z))))

some_expire : (g : Settings) (w to most : ℕ) (z : State) → w < g.schedulers → IsReached g z → pos to ≡ down g (z.looked (Sched w)) → AreSomeExpired g w to most z
some_expire g w to zero z sched h is = record {
  tries = [];
  left = Due;
  settled = tt;
  due = tt;
  armed = tt;
  once = tt;
  tried = refl;
  legal = tt;
  undue = λ idle. idle;
}
some_expire g w to (suc most) z sched h is =
    some_by g w to most z sched h is (pick z.status to (z.rows w)) (λ x reached_x is_x. some_expire g w to most x sched reached_x is_x)

pub possible_advance_some : (g : Settings) (s : State) (w most : ℕ) → IsReached g s → w < g.schedulers
    → (answer : ℕ × ℕ × Left) × IsPossible g s (HasAdvancedSome g w most answer)
possible_advance_some g s w most h sched =
    let look : Entry = look_entry (Sched w) s.clock.now in
    let z : State = next g s look in
    let to : ℕ = natural (down g s.clock.now) in
    let looked : z.looked (Sched w) ≡ s.clock.now = ap (λ (b : Bool). cond b s.clock.now (s.looked (Sched w))) (eq-eqb w w refl) in
    let can : Can g s look = can_look g s (Sched w) sched in
    let told = (milliseconds g s h).is in
    let all = some_expire g w to most z sched (reached_next g s look h can) (told ∙ ap (down g) (sym looked)) in (
      (to, hits all.tries, all.left),
      record {
        entries = look ∷ (expiry_entries w all.tries ++ end_entries w to all.left);
        allowed = record {
          now = s.clock.now;
          told = told;
          tries = all.tries;
          expired = refl;
          settled = all.settled;
          due = all.due;
          once = all.once;
          tried = all.tried;
          entries = refl;
        };
        legal = (can, all.legal);
        undue = all.undue;
      },
    )
