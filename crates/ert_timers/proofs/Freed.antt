-- What is left of the slots that are held free.

use Rattle.std.proofs.Common.{◌≡◌, ◌⊎◌, ℕ, Bool, true, false, cond, not, ◌&&◌, get_or-set_other, List, Option, Some, None, Result, Ok, Err, MatchResult, inl, inr, refl, sym, ap, subst, ◌∙◌, ne_eqb}
use Rattle.std.proofs.lemmas.Bool.{cases_eq}
use Rattle.std.specs.FinSet as sets
use Rattle.ert_defs.specs.declared.{settings.Settings.Settings, timer.Start.Start, timer.TimerRef.TimerRef}
use Rattle.ert_table.specs.declared.view.View.{View}
use Rattle.ert_timers.specs.{Changes.{freed, given_back, has_uses, picked, reused}, Frees.{FreesRows, HoldsNoneFree, KeepsFree, TakesFree, UsesFree}, Parts.{Part, last_timer, slot_at}, Passed.LosesRows, Slots.Slot, Starting.{Arms, Ends}}
use Rattle.ert_timers.specs.{Starting.TakesSlot, declared.part.Use.Use}
use Rattle.ert_timers.proofs.{Fit.{put_keeps, taken_and}, Lookings.put_here, Passing.same_last}
use Rattle.ert_wheel.specs.{Rows.key_in, declared.row.Key.Key}

-- a slot was taken out
pub taken_free : (p q : Part) (k j : ℕ) → q ≡ picked p k → sets.contains p.free j ≡ true → (sets.contains q.free j ≡ true) ⊎ (Some k ≡ Some j)
taken_free p q k j is was =
    elim (cases_eq j k) [
      | inl same ↦ inr (ap (λ n. Some n) (sym same))
      | inr other ↦ inl (ap (λ (x : Part). sets.contains x.free j) is
          ∙ (taken_and p.free k j ∙ (ap (λ b. not b && sets.contains p.free j) (ne_eqb j k other) ∙ was)))
    ]

-- a slot was given back
pub given_keeps : (p q : Part) (k : ℕ) (hit : Bool) → q ≡ given_back p k hit → KeepsFree p q
given_keeps p q k hit is j was = ap (λ (x : Part). sets.contains x.free j) is ∙ at (has_uses (slot_at p.slots k))
  where
    at : (b : Bool) → sets.contains (cond b (sets.insert p.free k) p.free) j ≡ true
    at true = put_keeps p.free k j was
    at false = was

-- a slot was put in
pub freed_keeps : (p q : Part) (k : ℕ) → q ≡ freed p k → KeepsFree p q
freed_keeps p q k is j was = ap (λ (x : Part). sets.contains x.free j) is ∙ put_keeps p.free k j was

pub freed_there : (p q : Part) (k : ℕ) → q ≡ freed p k → sets.contains q.free k ≡ true
freed_there p q k is = ap (λ (x : Part). sets.contains x.free k) is ∙ put_here p.free k

-- none was taken where none is named
pub keeps_uses : {E : Type 0} → (p q : Part) (answer : Result TimerRef E) → KeepsFree p q → UsesFree p q answer
keeps_uses p q answer keeps j was = inl (keeps j was)

-- none was taken after looks that found none
pub none_uses : {E : Type 0} → (p q : Part) (slot : Option ℕ) (answer : Result TimerRef E) → slot ≡ None → TakesFree p q slot → UsesFree p q answer
none_uses p q slot answer none takes j was =
    elim (takes j was) [
      | inl still ↦ inl still
      | inr named ↦ absurd (let clash : None ≡ Some j = sym none ∙ named in cc)
    ]

-- no slot is held free then
pub found_none : (g : Settings) (v : View) (by now : ℕ) (p q : Part) (slot : Option ℕ) (u : View) → slot ≡ None → TakesSlot g v by now p q slot u → HoldsNoneFree q
found_none g v by now p q (Some k) u none takes = absurd (let clash : Some k ≡ None = none in cc)
found_none g v by now p q None u none takes = takes.finds.none

-- only the slot was taken in which a timer was armed
pub started_uses : {E : Type 0} → (g : Settings) (by : ℕ) (p q r s : Part) (slot : Option ℕ) (k : ℕ) (next : Use) (start : Start) (timer : TimerRef) (x y z : View)
    → slot ≡ Some k → TakesFree p q slot → Arms g x by q r k next start timer y → Ends g y by r s start.dest timer z → UsesFree {E = E} p s (Ok timer)
started_uses g by p q r s slot k next start timer x y z found takes arms ends j was =
    elim (takes j was) [
      | inl still ↦ inl (ends.loses.frees j (ap (λ (a : Part). sets.contains a.free j) arms.part ∙ still))
      | inr named ↦ inr (ap (λ (t : TimerRef). Ok t)
          (arms.named ∙ (ap (λ n. last_timer r.number r.slots n) (same_slot named) ∙ sym (same_last r s j ends.loses))))
    ]
  where
    same_slot : {j : ℕ} → slot ≡ Some j → k ≡ j
    same_slot named = (let both : Some k ≡ Some _ = sym found ∙ named in cc)

-- and that in which a timer was moved, or none
pub moved_uses : {E : Type 0} → (p q r : Part) (slot : Option ℕ) (k : ℕ) (answer : Result TimerRef E) → slot ≡ Some k → TakesFree p q slot → KeepsFree q r
    → MatchResult answer (λ named. named ≡ last_timer r.number r.slots k) (λ _. sets.contains r.free k ≡ true) → UsesFree p r answer
moved_uses p q r slot k (Ok named) found takes keeps back j was =
    elim (takes j was) [
      | inl still ↦ inl (keeps j still)
      | inr is ↦ inr (ap (λ (t : TimerRef). Ok t)
          (back ∙ ap (last_timer r.number r.slots) (let both : Some k ≡ Some j = sym found ∙ is in let same : k ≡ j = cc in same)))
    ]
moved_uses p q r slot k (Err e) found takes keeps back j was =
    elim (takes j was) [
      | inl still ↦ inl (keeps j still)
      | inr is ↦ inl (subst (λ n. sets.contains r.free n ≡ true) (let both : Some k ≡ Some j = sym found ∙ is in let same : k ≡ j = cc in same) back)
    ]

-- a slot is held free again
pub reused_keeps : (p q : Part) (k : ℕ) → q ≡ reused p k → KeepsFree p q
reused_keeps p q k is j was = ap (λ (x : Part). sets.contains x.free j) is ∙ at (has_uses (slot_at p.slots k))
  where
    at : (b : Bool) → sets.contains (cond b (sets.insert p.free k) p.free) j ≡ true
    at true = put_keeps p.free k j was
    at false = was

-- no row has gone
pub frees_none : (p : Part) → FreesRows p p
frees_none p k some none uses = absurd (some none)

-- rows go, and then others
pub frees_then : (p q r : Part) → LosesRows p q → KeepsFree q r → FreesRows p q → FreesRows q r → FreesRows p r
frees_then p q r loses keeps one other k some none uses = at (key_in q.keys k) refl
  where
    at : (o : Option Key) → key_in q.keys k ≡ o → sets.contains r.free k ≡ true
    at None is = keeps k (one k some is uses)
    at (Some key) is =
        other k (λ gone. (let clash : Some key ≡ None = sym is ∙ gone in cc)) none (ap (λ (slots : List Slot). has_uses (slot_at slots k)) loses.slots ∙ uses)

-- the row of a slot goes, and the slot is given back
pub frees_given : (p q : Part) (k : ℕ) (hit : Bool) → q ≡ given_back p k hit → FreesRows p q
frees_given p q k hit is j some none uses =
    elim (cases_eq j k) [
      | inl here ↦ subst (λ n. sets.contains q.free n ≡ true) (sym here)
          (ap (λ (x : Part). sets.contains x.free k) is ∙ at (has_uses (slot_at p.slots k)) (subst (λ n. has_uses (slot_at p.slots n) ≡ true) here uses))
      | inr there ↦ absurd (some (sym (get_or-set_other p.keys k j None None there) ∙ (ap (λ (x : Part). key_in x.keys j) (sym is) ∙ none)))
    ]
  where
    at : (b : Bool) → b ≡ true → sets.contains (cond b (sets.insert p.free k) p.free) k ≡ true
    at true uses = put_here p.free k
    at false uses = absurd cc
