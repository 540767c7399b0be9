-- The part of a new desk.

use Rattle.std.proofs.Common.{◌≡◌, ℕ, ◌<◌, ◌≤◌, cond, nat_lt, List, [], length, replicate, count_by, Option, Some, None, refl, sym, ap, subst, ◌∙◌, arith, inl, inr}
use Rattle.std.proofs.{lemmas.Bool.{cases_lt, lt-ltb, ltb-true}, lemmas.List.{get_or-replicate, length-replicate}, Math.ListN.get_or-eq_default, lemmas.List.Folds.sum_by-replicate}
use Rattle.std.specs.FinSet as sets
use Rattle.std.specs.Option.{is_some}
use Rattle.ert_defs.specs.{Settings.IsChecked, declared.settings.Settings.Settings, declared.settings.TheConstants.{MOST_SLOTS, MOST_PROCESSES}}
use Rattle.ert_timers.specs.{Parts.{AreFieldsFit, Part, PartStands, slot_at, unused}, Slots.Slot, Free.FreeSet}
use Rattle.ert_wheel.specs.{Rings.{Rings, AreChains}, Rows.key_in, declared.row.Key.Key}

-- there is no key
pub key_nowhere : (n k : ℕ) → key_in (replicate n None) k ≡ None
key_nowhere n k =
    elim (cases_lt k n) [
      | inl low ↦ get_or-replicate n k None None low
      | inr high ↦ get_or-eq_default (replicate n None) None (omega (arith, length-replicate n (let o : Option Key = None in o)))
    ]

-- no slot was used
slot_nowhere : (n k : ℕ) → slot_at (replicate n unused) k ≡ unused
slot_nowhere n k =
    elim (cases_lt k n) [
      | inl low ↦ get_or-replicate n k unused unused low
      | inr high ↦ get_or-eq_default (replicate n unused) unused (omega (arith, length-replicate n unused))
    ]

no_keys : (n : ℕ) → count_by is_some (let keys : List (Option Key) = replicate n None in keys) ≡ 0
no_keys n = omega (arith, sum_by-replicate (λ (o : Option Key). cond (is_some o) 1 0) n None)

pub fit_open : (n : ℕ) (slots : List Slot) (keys : List (Option Key)) (free : FreeSet) (owners : Rings) → n ≤ MOST_SLOTS → owners.homes ≤ MOST_PROCESSES
    → slots ≡ replicate n unused → keys ≡ replicate n None → free.slots ≡ n
    → ((k : ℕ) → sets.contains free.held k ≡ nat_lt k n) → owners.slots ≡ n
    → AreChains owners (λ _. None) → AreFieldsFit slots keys free owners 0 0 0
fit_open n slots keys free owners few few_homes slots_are keys_are all every owned chains =
    let wide : length slots ≡ n = ap length slots_are ∙ length-replicate n unused in
    let none : (k : ℕ) → key_in keys k ≡ None = λ k. ap (λ ks. key_in ks k) keys_are ∙ key_nowhere n k in
    record {
      few = omega (arith, wide, few);
      wide = ap length keys_are ∙ (length-replicate n None ∙ sym wide);
      all_slots = all ∙ sym wide;
      owned = owned ∙ sym wide;
      few_homes = few_homes;
      vacant = λ k is. none k;
      below = λ k is. omega (arith, wide, ltb-true k n (sym (every k) ∙ is));
      unwritten = λ k high low. every k ∙ lt-ltb k n (omega (arith, wide, low));
      few_arms = omega arith;
      tally = omega (arith, ap (count_by is_some) keys_are, no_keys n);
      orders = λ k key is. (let e : None ≡ Some key = sym (none k) ∙ is in absurd cc);
      dests = λ k key is. (let e : None ≡ Some key = sym (none k) ∙ is in absurd cc);
      chained = record {
        places = λ _. None;
        are = chains;
        held = λ k key is. (let e : None ≡ Some key = sym (none k) ∙ is in absurd cc);
        lasts = λ k place is. (let e : None ≡ Some place = is in absurd cc);
        orders = λ k place is. (let e : None ≡ Some place = is in absurd cc);
      };
    }

pub stands_open : (g : Settings) (w n : ℕ) (p : Part) → IsChecked g → w < g.schedulers → g.slots ≡ n → p.number ≡ w → p.processes ≡ g.processes
    → p.slots ≡ replicate n unused → p.keys ≡ replicate n None → p.arms ≡ 0 → p.expires ≡ 0 → p.orphans ≡ 0 → PartStands g [] p
stands_open g w n p checked low many number processes slots keys arms expires orphans =
    let none : (k : ℕ) → key_in p.keys k ≡ None = λ k. ap (λ ks. key_in ks k) keys ∙ key_nowhere n k in
    record {
      checked = checked;
      legal = tt;
      holds = record {
        number = subst (λ m. m < g.schedulers) (sym number) low;
        processes = processes;
        many = ap length slots ∙ (length-replicate n unused ∙ sym many);
        wide = ap length keys ∙ (length-replicate n None ∙ sym many);
        rows = record {
          each = λ k key is. (let e : None ≡ Some key = sym (none k) ∙ is in absurd cc);
          live = λ k key is. (let e : None ≡ Some key = sym (none k) ∙ is in absurd cc);
          armed = λ m row at is. absurd cc;
        };
        lasts = λ k high. ap (λ (s : Slot). s.generation) (ap (λ ss. slot_at ss k) slots ∙ slot_nowhere n k);
        aboves = λ k high. ap (λ (s : Slot). s.above) (ap (λ ss. slot_at ss k) slots ∙ slot_nowhere n k);
        arms = arms;
        free = λ k is. refl;
        ready = λ k is. omega arith;
      };
      counted = record { arms = arms; expires = expires; orphans = orphans };
    }
