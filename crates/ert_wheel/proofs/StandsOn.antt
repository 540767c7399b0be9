-- What becomes of where rows stand: they stay, or come to the bucket of their own deadlines.

use Rattle.std.proofs.Common.{◌≡◌, ℕ, ◌<◌, ◌≤◌, max, List, Option, Some, None, length, sym, subst, ◌∙◌, ap, inl, inr, refl, arith, get_or-set_same, get_or-set_other}
use Rattle.std.proofs.lemmas.Bool.{cases_eq, cases_lt}
use Rattle.ert_wheel.proofs.Times.{later}
use Rattle.ert_wheel.specs.{Levels.bucket_on, Rows.{Held, key_in}, Standing.{bucket_in, StandsDue, ComesTo, StayOrFall}, declared.row.Key.Key}

-- at first each stays
pub stay_all : (keys : List (Option Key)) (passed : ℕ) (stands : List (Option ℕ)) → StayOrFall keys passed stands stands
stay_all keys passed stands = record { each = λ slot key has. inl refl }

-- what stays in a bucket of its deadline is there later too
stands_still : {old new : List (Option ℕ)} {passed passed' slot deadline : ℕ} → passed ≤ passed' → bucket_in new slot ≡ bucket_in old slot
    → StandsDue old passed slot deadline → StandsDue new passed' slot deadline
stands_still {old} {new} {passed} {passed'} {slot} up same s = record {
  level = s.level;
  highest = s.highest;
  time = s.time;
  in_window = record { near = omega (arith, s.in_window.near, later s.level passed passed' up); at = same ∙ s.in_window.at };
  due = elim s.due [ inl is ↦ inl is | inr late ↦ inr (late.0, late.1, omega (arith, late.2, up)) ];
}

-- one after the other, where no row came between
pub stay_then : {first keys : List (Option Key)} {between passed : ℕ} {old mid new : List (Option ℕ)} → between ≤ passed
    → ((slot : ℕ) (key : Key) → key_in keys slot ≡ Some key → key_in first slot ≡ Some key)
    → StayOrFall first between old mid → StayOrFall keys passed mid new → StayOrFall keys passed old new
stay_then {first} {keys} {between} {passed} {old} {mid} {new} up left one other = record {
  each = λ slot key has.
      elim (other.each slot key has) [
        | inr falls ↦ inr falls
        | inl stays ↦ elim (one.each slot key (left slot key has)) [
          | inl stood ↦ inl (stays ∙ stood)
          | inr fell ↦ inr (stands_still up stays fell)
        ]
      ];
}

-- at one time, with the same rows
pub stay_on : {keys : List (Option Key)} {passed : ℕ} {old mid new : List (Option ℕ)}
    → StayOrFall keys passed old mid → StayOrFall keys passed mid new → StayOrFall keys passed old new
stay_on first second = stay_then (omega arith) (λ slot key has. has) first second

-- and from one time to another
pub stay_more : {first now : List (Option Key)} {between passed : ℕ} {old mid new : List (Option ℕ)} → now ≡ first → between ≤ passed
    → StayOrFall first between old mid → StayOrFall now passed mid new → StayOrFall first passed old new
stay_more {first} {now} {between} {passed} {old} {mid} {new} same up stayed falls =
    stay_then up (λ slot key has. has) stayed (subst (λ (keys : List (Option Key)). StayOrFall keys passed mid new) same falls)

-- as seen from a later time
pub stay_till : {keys : List (Option Key)} {between passed : ℕ} {old new : List (Option ℕ)} → between ≤ passed
    → StayOrFall keys between old new → StayOrFall keys passed old new
stay_till {keys} {between} {passed} {old} {new} up first = stay_then up (λ slot key has. has) first (stay_all keys passed new)

-- a row comes to a bucket of its deadline
pub comes_due : {passed slot deadline : ℕ} {old new : List (Option ℕ)} → slot < length old → ComesTo old new passed slot (max deadline passed)
    → StandsDue new passed slot deadline
comes_due {passed} {slot} {deadline} {old} {new} low c = record {
  level = c.level;
  highest = c.highest;
  time = max deadline passed;
  in_window = record {
    near = c.near;
    at = ap (λ (s : List (Option ℕ)). bucket_in s slot) c.is ∙ get_or-set_same old slot (Some (bucket_on c.level (max deadline passed))) None low;
  };
  due = elim (cases_lt passed deadline) [
    | inl less ↦ inl (omega (arith, less))
    | inr more ↦ inr (c.lowest (omega (arith, more)), omega arith, omega (arith, more))
  ];
}

-- and the others stay
pub comes_falls : {keys : List (Option Key)} {passed slot : ℕ} {key : Key} {old new : List (Option ℕ)} → slot < length old → key_in keys slot ≡ Some key
    → ComesTo old new passed slot (max key.deadline passed) → StayOrFall keys passed old new
comes_falls {keys} {passed} {slot} {key} {old} {new} low has c = record {
  each = λ j k is.
      elim (cases_eq j slot) [
        | inl e ↦
            let some : Some k ≡ Some key = sym is ∙ ap (key_in keys) e ∙ has in
            let same : k ≡ key = cc in
            inr (subst (λ (x : Key). StandsDue new passed j x.deadline) (sym same)
            (subst (λ (i : ℕ). StandsDue new passed i key.deadline) (sym e) (comes_due low c)))
        | inr ne ↦
            inl (ap (λ (s : List (Option ℕ)). bucket_in s j) c.is ∙ get_or-set_other old slot j (Some (bucket_on c.level (max key.deadline passed))) None ne)
      ];
}

-- Rows were taken out, and those that are left stand where they stood.
abbrev pub HaveStood : {T : Type 0} → Held T → Held T → Type 0
HaveStood old now = (slot : ℕ) (key : Key) → key_in now.keys slot ≡ Some key → bucket_in now.stands slot ≡ bucket_in old.stands slot
