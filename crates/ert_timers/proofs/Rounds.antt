-- The slots of a round are looked at.

use Rattle.std.proofs.Common.{◌≡◌, ◌≢◌, ◌⊎◌, ℕ, suc, ◌+◌, ◌<◌, ◌≤◌, min, true, false, List, [], ◌∷◌, ◌++◌, length, Option, inl, inr, refl, sym, ap, subst, ◌∙◌, arith, append-nil, length-append}
use Rattle.std.proofs.lemmas.Bool.{cases_eq}
use Rattle.std.specs.FinSet as sets
use Rattle.ert_defs.specs.{Entries.probe_entry, Legal.Legal, Settings.IsChecked, States.state, Timers.is_taken, declared.entry.Actor.TheVariants.Caller, declared.entry.Entry.Entry, declared.settings.Settings.Settings}
use Rattle.ert_defs.specs.{declared.timer.Status.Status}
use Rattle.ert_table.proofs.{Looks.look_stepped, Calls.{step_takes_place, takes_place_then}}
use Rattle.ert_effects.proofs.Told.{probes-append}
use Rattle.ert_effects.specs.TimerCalls.{AreProbes, IsInRound, Round}
use Rattle.ert_table.specs.{Takes.{Appends, TakesPlace}, declared.view.View.View}
use Rattle.ert_timers.specs.{Changes.is_resting, Parts.{HoldsCaller, Part, PartStands, last_timer, slot_at}, Passed.LosesRows, Starting.{IsUntaken, LooksAt, LooksAtSome, FindsRound, LooksAround, AreFull, round_end, probes_from}}
use Rattle.ert_timers.proofs.{Standing.{clock_at, clock_rises}, Passing.{loses_none, loses_then}}

-- nothing was looked at yet
pub looks_none : (g : Settings) (v : View) (by now : ℕ) (p : Part) (from : ℕ) → PartStands g v.front p → LooksAtSome g v by now p p from from v
looks_none g v by now p from stands = record {
  founds = [];
  call = record { actors = refl; legal = stands.legal; later = []; grown = sym (append-nil v.front); ours = refl };
  count = omega arith;
  stands = stands;
  number = refl;
  slots = refl;
  arms = refl;
  full = tt;
  rested = λ j held. inl held;
  since = λ j. refl;
  others = λ j out. refl;
  look = refl;
  loses = loses_none p;
  still = λ j none. none;
  meets = λ j low high none awake. absurd (omega (arith, low, high));
  next = refl;
}

pub probes-push : (by w k : ℕ) (founds : List (Option Status)) (found : Option Status)
    → probes_from by w k (founds ++ found ∷ []) ≡ probes_from by w k founds ++ probe_entry (Caller by) w (k + length founds) found ∷ []
probes-push by w k [] found =
    let e : k ≡ k + 0 = omega arith in
    ap (λ n. probe_entry (Caller by) w n found ∷ []) e
probes-push by w k (x ∷ founds) found =
    let e : (k + 1) + length founds ≡ k + suc (length founds) = omega arith in
    ap (λ l. probe_entry (Caller by) w k x ∷ l)
    (probes-push by w (k + 1) founds found
    ∙ ap (λ n. probes_from by w (k + 1) founds ++ probe_entry (Caller by) w n found ∷ []) e)

-- a slot that isn't held free was found taken, or rests
abbrev IsFullAt : Part → ℕ → ℕ → Option Status → Type 0
IsFullAt r now k found = sets.contains r.free k ≡ false → (is_taken found ≡ true) ⊎ (is_resting (slot_at r.slots k) now ≡ true)

full-push : (q r : Part) (now k : ℕ) (founds : List (Option Status)) (found : Option Status) → r.slots ≡ q.slots
    → ((j : ℕ) → j < k + length founds → sets.contains r.free j ≡ sets.contains q.free j)
    → AreFull q now k founds → IsFullAt r now (k + length founds) found → AreFull r now k (founds ++ found ∷ [])
full-push q r now k [] found slots same full last =
    let e : k + 0 ≡ k = omega arith in
    (subst (λ n. IsFullAt r now n found) e last, tt)
full-push q r now k (x ∷ founds) found slots same full last =
    let e : k + suc (length founds) ≡ (k + 1) + length founds = omega arith in (
      λ away. subst (λ s. (is_taken x ≡ true) ⊎ (is_resting (slot_at s k) now ≡ true)) (sym slots) (full.0 (sym (same k (omega arith)) ∙ away)),
      full-push q r now (k + 1) founds found slots (λ j low. same j (omega (arith, low, e))) full.1 (subst (λ n. IsFullAt r now n found) e last),
    )

-- a slot outside of a range is outside of one that is less by one
out_before : (from n j : ℕ) → from ≤ n → (j < from) ⊎ (n + 1 ≤ j) → (j ≢ n) × ((j < from) ⊎ (n ≤ j))
out_before from n j order (inl low) = (λ same. omega (arith, order, low, same), inl low)
out_before from n j order (inr high) = (λ same. omega (arith, high, same), inr (omega (arith, high)))

-- whether a slot isn't taken is the same of a part of the same wheel and slots
pub same_untaken : (g : Settings) (v : View) (p q : Part) (j : ℕ) → p.number ≡ q.number → p.slots ≡ q.slots → IsUntaken g v p j → IsUntaken g v q j
same_untaken g v p q j number slots none =
    subst (λ n. is_taken ((state g v.front).status (last_timer n q.slots j)) ≡ false) number
    (subst (λ s. is_taken ((state g v.front).status (last_timer p.number s j)) ≡ false) slots none)

-- one more was looked at
pub looks_more : (g : Settings) (v : View) (by now : ℕ) (p q r : Part) (from n : ℕ) (u w : View) → LooksAtSome g v by now p q from n u
    → HoldsCaller g u by q.number → LooksAt g u by now q r n w → LooksAtSome g v by now p r from (n + 1) w
looks_more g v by now p q r from n u w some holds one =
    let e : Entry = probe_entry (Caller by) p.number n one.found in
    let step : Appends g u e w = subst (λ m. Appends g u (probe_entry (Caller by) m n one.found) w) some.number one.step in
    let order : from ≤ n = omega (arith, some.count) in
    record {
      founds = some.founds ++ one.found ∷ [];
      call = subst (λ es. TakesPlace g v es w)
          (ap (λ m. probes_from by p.number from some.founds ++ probe_entry (Caller by) p.number m one.found ∷ []) (sym some.count)
          ∙ sym (probes-push by p.number from some.founds one.found))
          (takes_place_then g v u w (probes_from by p.number from some.founds) (e ∷ []) some.call (step_takes_place g u e w step));
      count = omega (arith, length-append some.founds (one.found ∷ []), some.count);
      stands = one.stands;
      number = one.number ∙ some.number;
      slots = one.slots ∙ some.slots;
      arms = one.arms ∙ some.arms;
      full = full-push q r now from some.founds one.found one.slots (λ j low. one.others j (λ same. omega (arith, low, some.count, same))) some.full
          (subst (λ m. IsFullAt r now m one.found) (sym some.count)
          (λ away. subst (λ s. (is_taken one.found ≡ true) ⊎ (is_resting (slot_at s n) now ≡ true)) (sym one.slots) (one.full away)));
      rested = λ j held.
          elim (cases_eq j n) [
            | inl same ↦ inr (subst (λ m. is_resting (slot_at r.slots m) now ≡ false) (sym same)
                (ap (λ s. is_resting (slot_at s n) now) one.slots ∙ one.rested (ap (sets.contains r.free) (sym same) ∙ held)))
            | inr other ↦ elim (some.rested j (sym (one.others j other) ∙ held)) [
              | inl was ↦ inl was
              | inr awake ↦ inr (ap (λ s. is_resting (slot_at s j) now) one.slots ∙ awake)
            ]
          ];
      since = λ j. subst (λ m. (state g w.front).since m j ≡ (state g u.front).since m j) some.number (one.since j) ∙ some.since j;
      others = λ j out.
          let before = out_before from n j order out in
          one.others j before.0 ∙ some.others j before.1;
      look = look_stepped g u (probe_entry (Caller by) q.number n one.found) w one.step holds.caller ∙ some.look;
      loses = loses_then p q r some.loses one.loses;
      still = λ j none. same_untaken g w q p j some.number some.slots
          (one.still j (same_untaken g u p q j (sym some.number) (sym some.slots) (some.still j none)));
      meets = λ j low high none awake.
          elim (cases_eq j n) [
            | inl same ↦ subst (λ m. sets.contains r.free m ≡ true) (sym same)
                (one.meets (subst (λ m. IsUntaken g u q m) same (same_untaken g u p q j (sym some.number) (sym some.slots) (some.still j none)))
                (ap (λ s. is_resting (slot_at s n) now) some.slots ∙ subst (λ m. is_resting (slot_at p.slots m) now ≡ false) same awake))
            | inr other ↦ one.others j other ∙ some.meets j low (omega (arith, high, other)) none awake
          ];
      next = one.next ∙ some.next;
    }

-- what was found of slots that are held free as before
full-same : (q r : Part) (now k : ℕ) (founds : List (Option Status)) → r.slots ≡ q.slots
    → ((j : ℕ) → k ≤ j → sets.contains r.free j ≡ sets.contains q.free j) → AreFull q now k founds → AreFull r now k founds
full-same q r now k [] slots same full = tt
full-same q r now k (x ∷ founds) slots same full = (
  λ away. subst (λ s. (is_taken x ≡ true) ⊎ (is_resting (slot_at s k) now ≡ true)) (sym slots) (full.0 (sym (same k (omega arith)) ∙ away)),
  full-same q r now (k + 1) founds slots (λ j low. same j (omega (arith, low))) full.1,
)

-- what LooksAround says of a given round, but where it begins and ends
pub record HasLookedAround (g : Settings) (v : View) (by now : ℕ) (p q : Part) (round : Round (length p.slots) g.looks) (u : View) : Type 0 where
  pub probes : List Entry
  pub finds : FindsRound by now p.number q round probes
  pub call : TakesPlace g v probes u
  pub stands : PartStands g u.front q
  pub number : q.number ≡ p.number
  pub slots : q.slots ≡ p.slots
  pub arms : q.arms ≡ p.arms
  pub rested : (j : ℕ) → sets.contains q.free j ≡ true → is_resting (slot_at q.slots j) now ≡ false
  pub since : (j : ℕ) → (state g u.front).since p.number j ≡ (state g v.front).since p.number j
  pub look : (state g u.front).looked (Caller by) ≡ (state g v.front).looked (Caller by)
  pub loses : LosesRows p q
  pub next : q.next_look ≡ p.next_look
  pub meets : (j : ℕ) → IsInRound round j → IsUntaken g v p j → is_resting (slot_at p.slots j) now ≡ false → sets.contains q.free j ≡ true

-- the slots of a round were looked at
pub looks_around : (g : Settings) (v : View) (by now : ℕ) (p q r : Part) (round : Round (length p.slots) g.looks) (u w : View)
    → ((k : ℕ) → sets.contains p.free k ≡ false) → LooksAtSome g v by now p q round.from (round.from + round.ahead) u
    → LooksAtSome g u by now q r 0 round.behind w → HasLookedAround g v by now p r round w
looks_around g v by now p q r round u w none first second =
    let front : List Entry = probes_from by p.number round.from first.founds in
    let back : List Entry = probes_from by p.number 0 second.founds in
    let call : TakesPlace g u back w = subst (λ n. TakesPlace g u (probes_from by n 0 second.founds) w) first.number second.call in
    let apart : (j : ℕ) → round.from ≤ j → sets.contains r.free j ≡ sets.contains q.free j = λ j low.
    second.others j (inr (omega (arith, low, round.apart))) in
    record {
      probes = front ++ back;
      finds = record {
        ahead = first.founds;
        behind = second.founds;
        many_ahead = omega (arith, first.count);
        many_behind = omega (arith, second.count);
        full_ahead = full-same q r now round.from first.founds second.slots apart first.full;
        full_behind = second.full;
        probes_are = refl;
      };
      call = takes_place_then g v u w front back first.call call;
      stands = second.stands;
      number = second.number ∙ first.number;
      slots = second.slots ∙ first.slots;
      arms = second.arms ∙ first.arms;
      rested = λ j held. elim (second.rested j held) [
        | inl was ↦ elim (first.rested j was) [
          | inl before ↦ (let no : true ≡ false = sym before ∙ none j in absurd cc)
          | inr awake ↦ ap (λ s. is_resting (slot_at s j) now) second.slots ∙ awake
        ]
        | inr awake ↦ awake
      ];
      since = λ j. subst (λ n. (state g w.front).since n j ≡ (state g u.front).since n j) first.number (second.since j) ∙ first.since j;
      look = second.look ∙ first.look;
      loses = loses_then p q r first.loses second.loses;
      next = second.next ∙ first.next;
      meets = λ j among none awake.
          elim among [
            | inl ahead ↦ apart j ahead.0 ∙ first.meets j ahead.0 ahead.1 none awake
            | inr behind ↦ second.meets j (omega arith) behind (same_untaken g u p q j (sym first.number) (sym first.slots) (first.still j none))
                (ap (λ s. is_resting (slot_at s j) now) first.slots ∙ awake)
          ];
    }

-- and where the next looks begin was told before
pub around_from : (g : Settings) (v : View) (by now : ℕ) (p r : Part) (next : ℕ) (u : View) (round : Round (length p.slots) g.looks)
    → round.from ≡ min p.next_look (length p.slots) → (p.next_look < length p.slots → 1 ≤ round.ahead) → next ≡ round_end round
    → HasLookedAround g v by now (record p { next_look = next }) r round u → LooksAround g v by now p r u
around_from g v by now p r next u round from some end all = record {
  round = round;
  probes = all.probes;
  finds = all.finds;
  call = all.call;
  stands = all.stands;
  number = all.number;
  slots = all.slots;
  arms = all.arms;
  rested = all.rested;
  since = all.since;
  look = all.look;
  loses = record { number = all.loses.number; slots = all.loses.slots; left = all.loses.left; time = all.loses.time; frees = all.loses.frees; stands = all.loses.stands };
  goes_on = record { from = from; some = some; next = all.next ∙ end };
  meets = all.meets;
}

-- the entries of looks at slots are such looks
pub are_probes : (by w k : ℕ) (founds : List (Option Status)) → AreProbes (Caller by) w (probes_from by w k founds)
are_probes by w k [] = tt
are_probes by w k (found ∷ founds) = (k, found, refl, are_probes by w (k + 1) founds)

pub round_are_probes : (by now w : ℕ) (q : Part) {slots looks : ℕ} (round : Round slots looks) (probes : List Entry) → FindsRound by now w q round probes
    → AreProbes (Caller by) w probes
round_are_probes by now w q round probes finds =
    subst (AreProbes (Caller by) w) (sym finds.probes_are)
    (probes-append (Caller by) w (probes_from by w round.from finds.ahead) (probes_from by w 0 finds.behind) (are_probes by w round.from finds.ahead)
    (are_probes by w 0 finds.behind))

-- the clock doesn't go back while looks take place
pub clock_taken : (g : Settings) (v : View) (es : List Entry) (u : View) → IsChecked g → TakesPlace g v es u
    → clock_at g (state g v.front) ≤ clock_at g (state g u.front)
clock_taken g v es u checked takes =
    subst (λ (h : List Entry). clock_at g (state g v.front) ≤ clock_at g (state g h)) (sym takes.grown)
    (clock_rises g v.front takes.later checked (subst (Legal g) takes.grown takes.legal))
