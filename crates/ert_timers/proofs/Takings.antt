-- A slot is taken: one that is held free, or one that is found by looks at the slots of a round.

use Rattle.std.proofs.Common.{◌≡◌, ℕ, ◌<◌, ◌≤◌, inl, true, false, [], length, Option, Some, None, IfNone, IfSome, refl, sym, ap, subst, ◌∙◌, arith, append-nil}
use Rattle.std.specs.FinSet as sets
use Rattle.ert_defs.specs.{States.{uses_at, state}, Timers.{turned, is_taken}, declared.settings.Settings.Settings}
use Rattle.ert_table.specs.declared.view.View.{View}
use Rattle.ert_timers.specs.{Changes.{MayBecomeFree, picked}, Parts.{Part, PartStands, slot_at, last_timer}, Starting.{FindsRound, GoesRound, LooksAround, TakesSlot}, Passed.HasFewerRows}
use Rattle.ert_laws.proofs.Since.{rounds_begun}
use Rattle.ert_effects.specs.TimerCalls.{IsInRound, Round}
use Rattle.ert_timers.proofs.{Fit.taken_was, Freed.taken_free, Resting.rested_by, Standing.{clock_at, stands_with}, Passing.{fewer_rows, fewer_then}, Rounds.round_are_probes}

-- the part stands when a slot is held free no more
picked_stands : (g : Settings) (v : View) (p q : Part) (k : ℕ) → PartStands g v.front p → q ≡ picked p k → PartStands g v.front q
picked_stands g v p q k stands is =
    subst (λ (x : Part). PartStands g v.front x) (sym is) (stands_with g v.front p (picked p k).free p.passed p.stands stands (λ j held. taken_was p.free k j held))

-- it has lost no row
fewer_picked : (p : Part) (k : ℕ) → HasFewerRows p (picked p k)
fewer_picked p k = record { number = refl; slots = refl; left = λ j key is. is; time = omega arith }

-- a slot was held free
pub takes_first : (g : Settings) (v : View) (by now : ℕ) (p q : Part) (k : ℕ) → PartStands g v.front p → now ≡ clock_at g (state g v.front)
    → q ≡ picked p k → MayBecomeFree q k → sets.contains p.free k ≡ true → TakesSlot g v by now p q (Some k) v
takes_first g v by now p q k stands told is free held = record {
  probes = [];
  are_probes = tt;
  call = record { actors = refl; legal = stands.legal; later = []; grown = sym (append-nil v.front); ours = refl };
  stands = picked_stands g v p q k stands is;
  number = ap (λ (x : Part). x.number) is;
  slots = ap (λ (x : Part). x.slots) is;
  arms = ap (λ (x : Part). x.arms) is;
  finds = free;
  usable = ap (λ (x : Part). is_taken ((state g v.front).status (last_timer x.number x.slots k))) is ∙ stands.holds.free k held;
  rested = subst (λ (x : Part). (turned (uses_at (state g v.front) x.number k)).since ≤ now) (sym is)
      (subst (λ n. (turned (uses_at (state g v.front) p.number k)).since ≤ n) (sym told) (stands.holds.ready k held));
  look = refl;
  fewer = subst (HasFewerRows p) (sym is) (fewer_picked p k);
  frees = λ j was. taken_free p q k j is was;
  meets = λ low none awake is. (let no : Some k ≡ None = is in cc);
}

-- a slot that is held free after the looks doesn't rest
rested_then : (g : Settings) (v : View) (by now : ℕ) (p q : Part) (k : ℕ) (u : View) → PartStands g v.front p → now ≡ clock_at g (state g v.front)
    → LooksAround g v by now p q u → k < g.slots → sets.contains q.free k ≡ true → (turned (uses_at (state g u.front) q.number k)).since ≤ now
rested_then g v by now p q k u stands told some low held =
    rested_by (state g u.front) q.number k now (slot_at q.slots k) (some.stands.holds.lasts k low) (some.stands.holds.aboves k low)
    (begun q.number some.number) (some.rested k held)
  where
    begun : (w : ℕ) → w ≡ p.number → (state g u.front).since w k ≤ now
    begun w same =
        subst (λ m. (state g u.front).since m k ≤ now) (sym same)
        (omega (arith, told, some.since k, rounds_begun g v.front p.number k stands.checked stands.legal))

-- a slot isn't held free where none is
none_was : (p p' : Part) (j : ℕ) → p' ≡ p → sets.contains p'.free j ≡ false → sets.contains p.free j ≡ true → ⊥
none_was p p' j same empty was =
    let clash : false ≡ true = sym empty ∙ (ap (λ (x : Part). sets.contains x.free j) same ∙ was) in
    cc

-- the slot at which the looks begin is one of the round
begins : (g : Settings) (p q : Part) (round : Round (length p.slots) g.looks) → GoesRound p q round → p.next_look < length p.slots
    → IsInRound round p.next_look
begins g p q round on low =
    let from : round.from ≡ p.next_look = omega (arith, on.from, low) in
    inl (omega (arith, from), omega (arith, from, on.some low))

-- none was, and those of a round were looked at
pub takes_then : (g : Settings) (v : View) (by now : ℕ) (p p' q r : Part) (slot : Option ℕ) (u : View) → PartStands g v.front p
    → now ≡ clock_at g (state g v.front) → p' ≡ p → ((k : ℕ) → sets.contains p'.free k ≡ false) → LooksAround g v by now p' q u
    → IfNone slot ((k : ℕ) → sets.contains q.free k ≡ false) → IfNone slot (r ≡ q)
    → IfSome slot (λ k. sets.contains q.free k ≡ true) → IfSome slot (λ k. r ≡ picked q k) → IfSome slot (MayBecomeFree r)
    → TakesSlot g v by now p r slot u
takes_then g v by now p p' q r None u stands told same empty some none left held is free =
    let here = subst (λ (x : Part). LooksAround g v by now x q u) same some in
    record {
      probes = here.probes;
      are_probes = round_are_probes by now p.number q here.round here.probes here.finds;
      call = here.call;
      stands = subst (λ (x : Part). PartStands g u.front x) (sym left) here.stands;
      number = ap (λ (x : Part). x.number) left ∙ here.number;
      slots = ap (λ (x : Part). x.slots) left ∙ here.slots;
      arms = ap (λ (x : Part). x.arms) left ∙ here.arms;
      finds = record {
        round = here.round;
        finds = subst (λ (x : Part). FindsRound by now p.number x here.round here.probes) (sym left) here.finds;
        none = λ j. ap (λ (x : Part). sets.contains x.free j) left ∙ none j;
        goes_on = subst (λ (x : Part). GoesRound p x here.round) (sym left) here.goes_on;
      };
      usable = tt;
      rested = tt;
      look = here.look;
      fewer = subst (HasFewerRows p) (sym left) (fewer_rows here.loses);
      frees = λ j was. absurd (none_was p p' j same (empty j) was);
      meets = λ low untaken awake is.
          (let met : sets.contains q.free p.next_look ≡ true = here.meets p.next_look (begins g p q here.round here.goes_on low) untaken awake in
          let no : true ≡ false = sym met ∙ none p.next_look in cc);
    }
takes_then g v by now p p' q r (Some k) u stands told same empty some none left held is free =
    let here = subst (λ (x : Part). LooksAround g v by now x q u) same some in
    let low : k < g.slots =
    omega (arith, free.low, ap (λ (x : Part). length x.slots) is, here.stands.holds.many) in
    record {
      probes = here.probes;
      are_probes = round_are_probes by now p.number q here.round here.probes here.finds;
      call = here.call;
      stands = picked_stands g u q r k here.stands is;
      number = ap (λ (x : Part). x.number) is ∙ here.number;
      slots = ap (λ (x : Part). x.slots) is ∙ here.slots;
      arms = ap (λ (x : Part). x.arms) is ∙ here.arms;
      finds = free;
      usable = ap (λ (x : Part). is_taken ((state g u.front).status (last_timer x.number x.slots k))) is ∙ here.stands.holds.free k held;
      rested = subst (λ (x : Part). (turned (uses_at (state g u.front) x.number k)).since ≤ now) (sym is)
          (rested_then g v by now p q k u stands told here low held);
      look = here.look;
      fewer = fewer_then p q r (fewer_rows here.loses) (subst (HasFewerRows q) (sym is) (fewer_picked q k));
      frees = λ j was. absurd (none_was p p' j same (empty j) was);
      meets = λ low none awake is. (let no : Some k ≡ None = is in cc);
    }
