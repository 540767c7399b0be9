-- The entries that a pass finds of its own after a call are those that no seat made.

use Rattle.std.proofs.Common.{◌≡◌, ℕ, ◌<◌, ◌≤◌, Bool, true, false, ◌&&◌, List, [], ◌∷◌, filter, inl, inr, refl, sym, ap, subst, ◌∙◌, arith, ltb-false, nat_lt}
use Rattle.ert_defs.proofs.Runs.{legal_then}
use Rattle.ert_defs.specs.{Actors.same_actor, Entries.is_ours, Legal.{Legal, LegalFrom}, States.{State, opening, next, state}, declared.entry.Actor.Actor, declared.entry.Actor.TheVariants.{Keeper, Wheel, Inbox, Sched, MailOf, Caller}}
use Rattle.ert_defs.specs.{declared.entry.Entry.Entry, declared.settings.Settings.Settings}
use Rattle.ert_table.proofs.{Calls.made_ours, Closings.maker_in_range, Holders.{held_maker, same_actor-true}}
use Rattle.ert_table.specs.{Calls.AreOnlyOf, Held.{is_held, IsActor}, Takes.TakesPlace, declared.view.View.View}
use Rattle.ert_world.specs.{Worlds.{IsUnseated, HoldsRest}, Ways.{has_seat, is_unseated}}

-- none of these actors has a seat
abbrev pub AreUnseated : ℕ → List Actor → Type 0
AreUnseated next [] = Unit {0}
AreUnseated next (a ∷ actors) = (has_seat next a ≡ false) × AreUnseated next actors

held_unseated : (next : ℕ) (actors : List Actor) (a : Actor) → AreUnseated next actors → is_held actors a ≡ true → has_seat next a ≡ false
held_unseated next [] a unseated held = absurd cc
held_unseated next (b ∷ actors) a unseated held = at (same_actor b a) refl (held_unseated next actors a unseated.1)
  where
    at : (t : Bool) → same_actor b a ≡ t → (is_held actors a ≡ true → has_seat next a ≡ false) → has_seat next a ≡ false
    at true is more = subst (λ c. has_seat next c ≡ false) (same_actor-true b a is) unseated.0
    at false is more = more (rw is at held)

-- an actor in range that a world doesn't hold has a seat
module _ (g : Settings) (actors : List Actor) (number : ℕ) (holds : HoldsRest g actors number) where
  caller_seated : (n : ℕ) → n < g.callers → is_held actors (Caller n) ≡ false → (nat_lt 0 n && nat_lt n number) ≡ true
  caller_seated n ranged none = at (nat_lt 0 n) (nat_lt n number) refl refl
    where
      held_not : IsUnseated number (Caller n) → ⊥
      held_not unseated =
          let held : is_held actors (Caller n) ≡ true = holds.rest (Caller n) ranged unseated in
          let clash : true ≡ false = sym held ∙ none in
          cc

      at : (b c : Bool) → nat_lt 0 n ≡ b → nat_lt n number ≡ c → (b && c) ≡ true
      at true true some below = refl
      at false c some below =
          let low : n ≤ 0 = ltb-false 0 n some in
          absurd (held_not (inl (omega (arith, low))))
      at true false some below = absurd (held_not (inr (ltb-false n number below)))

  seated : (a : Actor) → IsActor g a → is_held actors a ≡ false → has_seat number a ≡ true
  seated Keeper ranged none = let held : is_held actors Keeper ≡ true = holds.rest Keeper ranged tt in absurd cc
  seated (Wheel n) ranged none = let held : is_held actors (Wheel n) ≡ true = holds.rest (Wheel n) ranged tt in absurd cc
  seated (Inbox n) ranged none = let held : is_held actors (Inbox n) ≡ true = holds.rest (Inbox n) ranged tt in absurd cc
  seated (Sched n) ranged none = let held : is_held actors (Sched n) ≡ true = holds.rest (Sched n) ranged tt in absurd cc
  seated (MailOf n) ranged none = let held : is_held actors (MailOf n) ≡ true = holds.rest (MailOf n) ranged tt in absurd cc
  seated (Caller n) ranged none = caller_seated n ranged none

  not_held : (e : Entry) → is_ours actors e ≡ false → is_held actors e.by ≡ false
  not_held e theirs = at (is_held actors e.by) refl
    where
      at : (b : Bool) → is_held actors e.by ≡ b → is_held actors e.by ≡ false
      at true is = let mine : is_ours actors e ≡ true = made_ours actors e is in absurd cc
      at false is = is

  same_own : (lent : List Actor) (s : State) (m : List Entry) → AreUnseated number lent → LegalFrom g s m → AreOnlyOf lent (filter (is_ours actors) m)
      → filter (is_unseated number) m ≡ filter (is_ours actors) m
  same_own lent s [] unseated legal only = refl
  same_own lent s (e ∷ m) unseated legal only = at (is_ours actors e) refl (same_own lent (next g s e) m unseated legal.1)
    where
      at : (b : Bool) → is_ours actors e ≡ b → (AreOnlyOf lent (filter (is_ours actors) m) → filter (is_unseated number) m ≡ filter (is_ours actors) m)
          → filter (is_unseated number) (e ∷ m) ≡ filter (is_ours actors) (e ∷ m)
      at true is more =
          let mine : filter (is_ours actors) (e ∷ m) ≡ e ∷ filter (is_ours actors) m = rw is refl in
          let all = subst (AreOnlyOf lent) mine only in
          let none : has_seat number e.by ≡ false = held_unseated number lent e.by unseated (held_maker lent e.by e.with all.0) in
          rw (is, none) (ap (λ l. e ∷ l) (more all.1))
      at false is more =
          let theirs : filter (is_ours actors) (e ∷ m) ≡ filter (is_ours actors) m = rw is refl in
          let one : has_seat number e.by ≡ true = seated e.by (maker_in_range g e.by e.with e.event legal.0.keeps) (not_held e is) in
          rw (is, one) (more (subst (AreOnlyOf lent) theirs only))

pub own_unseated : (g : Settings) (v : View) (es : List Entry) (w : View) (number : ℕ) (lent : List Actor) → HoldsRest g v.actors number
    → (takes : TakesPlace g v es w) → AreOnlyOf lent es → AreUnseated number lent → filter (is_unseated number) takes.later ≡ es
own_unseated g v es w number lent holds takes only unseated =
    let legal = legal_then g (opening g) v.front takes.later (subst (Legal g) takes.grown takes.legal) in
    same_own g v.actors number holds lent (state g v.front) takes.later unseated legal (subst (AreOnlyOf lent) (sym takes.ours) only) ∙ takes.ours
