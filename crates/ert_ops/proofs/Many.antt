-- Serving until no request waits, a limited number of times: both services serve as many.

use Rattle.std.proofs.Common.{◌≡◌, ℕ, zero, suc, ◌≤◌, Bool, true, false, cond, nat_lt, List, [], ◌++◌, Ok, refl, sym, ap, ◌∙◌, subst, arith, append-nil, append_assoc}
use Rattle.std.proofs.lemmas.Bool.Decides.{nat_tests}
use Rattle.ert_effects.specs.{Chains.{Serves, ServesMany, ServesAll}, Ways.{Then, alone}}
use Rattle.ert_defs.proofs.Runs.{run-append, state-append, legal_first, legal_then}
use Rattle.ert_defs.specs.{Legal.LegalFrom, States.{State, run, state}, declared.entry.Entry.Entry, declared.settings.Settings.Settings}
use Rattle.ert_ops.proofs.{Meets.Meets, Serves.{AreServed, serves_meet, tells_served}}
use Rattle.ert_ops.specs.{Labels.Labels, PlainTurns.{Served, serve_one, has_served, and_then, serve_many}}

-- n requests are served of at most so many, and where there could be more, none waits
abbrev ServesUpTo : Settings → ℕ → ℕ → ℕ → List Entry → List Entry → Type 0
ServesUpTo g w zero zero h m = m ≡ []
ServesUpTo g w zero (suc most) h m = Serves g (alone g) w (Ok false) h m
ServesUpTo g w (suc n) zero h m = ⊥
ServesUpTo g w (suc n) (suc most) h m = Then (Serves g (alone g) w (Ok true)) (ServesUpTo g w n most) h m

abbrev StopsBy : Bool → Settings → ℕ → ℕ → List Entry → List Entry → Type 0
StopsBy b g w n h m = cond b (Then (ServesMany g (alone g) w n) (Serves g (alone g) w (Ok false)) h m) (ServesMany g (alone g) w n h m)

lt_both : (n k : ℕ) → nat_lt (suc n) (suc k) ≡ nat_lt n k
lt_both n k = grind (arith, nat_tests)

up_to : (g : Settings) (w : ℕ) (b : Bool) (n most : ℕ) (h m : List Entry) → nat_lt n most ≡ b → n ≤ most → StopsBy b g w n h m → ServesUpTo g w n most h m
up_to g w true zero zero h m is le does = let clash : false ≡ true = is in cc
up_to g w false zero zero h m is le does = does
up_to g w true zero (suc most) h m is le does =
    let none : does.before ≡ [] = does.one in
    let all : m ≡ does.after = does.joined ∙ ap (λ (x : List Entry). x ++ does.after) none in
    let here : Serves g (alone g) w (Ok false) (h ++ []) does.after =
    subst (λ (x : List Entry). Serves g (alone g) w (Ok false) (h ++ x) does.after) none does.other in
    subst (λ (x : List Entry). Serves g (alone g) w (Ok false) h x) (sym all)
    (subst (λ (x : List Entry). Serves g (alone g) w (Ok false) x does.after) (append-nil h) here)
up_to g w false zero (suc most) h m is le does =
    let more : nat_lt zero (suc most) ≡ true = grind (arith, nat_tests) in
    let clash : true ≡ false = sym more ∙ is in
    cc
up_to g w b (suc n) zero h m is le does = absurd (omega arith)
up_to g w true (suc n) (suc most) h m is le does = record {
  before = does.one.before;
  after = does.one.after ++ does.after;
  joined = does.joined ∙ ap (λ (x : List Entry). x ++ does.after) does.one.joined ∙ append_assoc does.one.before does.one.after does.after;
  one = does.one.one;
  other = up_to g w true n most (h ++ does.one.before) (does.one.after ++ does.after) (sym (lt_both n most) ∙ is) (omega arith)
      (record {
        before = does.one.after;
        after = does.after;
        joined = refl;
        one = does.one.other;
        other = subst (λ (x : List Entry). Serves g (alone g) w (Ok false) x does.after)
            (ap (λ (x : List Entry). h ++ x) does.one.joined ∙ sym (append_assoc h does.one.before does.one.after)) does.other;
      });
}
up_to g w false (suc n) (suc most) h m is le does = record {
  before = does.before;
  after = does.after;
  joined = does.joined;
  one = does.one;
  other = up_to g w false n most (h ++ does.before) does.after (sym (lt_both n most) ∙ is) (omega arith) does.other;
}

-- the plain service goes on where it served, and else stops

abbrev goes_on : Bool → Served → Served → Served
goes_on b first rest = elim b [ true ↦ and_then first rest | false ↦ first ]

many_more : (g : Settings) (c : State) (w n : ℕ) → has_served (serve_one g c w) ≡ true
    → serve_many g c w (suc n) ≡ and_then (serve_one g c w) (serve_many g (run g c (serve_one g c w).entries) w n)
many_more g c w n is = ap (λ (b : Bool). goes_on b (serve_one g c w) (serve_many g (run g c (serve_one g c w).entries) w n)) is

many_last : (g : Settings) (c : State) (w n : ℕ) → has_served (serve_one g c w) ≡ false → serve_many g c w (suc n) ≡ serve_one g c w
many_last g c w n is = ap (λ (b : Bool). goes_on b (serve_one g c w) (serve_many g (run g c (serve_one g c w).entries) w n)) is

served_as : (g : Settings) (n : ℕ) (ls : Labels) (s c : State) (es : List Entry) (count : ℕ) (a b : Served) → a ≡ b → AreServed g n ls s c es count b
    → AreServed g n ls s c es count a
served_as g n ls s c es count a b is h = subst (λ (x : Served). AreServed g n ls s c es count x) (sym is) h

both_served : (g : Settings) (n : ℕ) (ls : Labels) (count : ℕ) (h before after : List Entry) (c : State) (first rest : Served)
    → AreServed g n ls (state g h) c before 1 first
    → AreServed g n ls (state g (h ++ before)) (run g c first.entries) after count rest
    → AreServed g n ls (state g h) c (before ++ after) (suc count) (and_then first rest)
both_served g n ls count h before after c first rest one other = record {
  counts = omega (arith, one.counts, other.counts);
  meets = subst (λ (z : State). Meets g n ls z (run g c (first.entries ++ rest.entries)))
      (ap (λ (z : State). run g z after) (state-append g h before) ∙ sym (run-append g (state g h) before after))
      (subst (λ (d : State). Meets g n ls (run g (state g (h ++ before)) after) d) (sym (run-append g c first.entries rest.entries)) other.meets);
}

-- a piece that is legal after a history, in two
pub legal_before : (g : Settings) (h m before after : List Entry) → m ≡ before ++ after → LegalFrom g (state g h) m → LegalFrom g (state g h) before
legal_before g h m before after is legal = legal_first g (state g h) before after (subst (λ (x : List Entry). LegalFrom g (state g h) x) is legal)

pub legal_after : (g : Settings) (h m before after : List Entry) → m ≡ before ++ after → LegalFrom g (state g h) m → LegalFrom g (state g (h ++ before)) after
legal_after g h m before after is legal =
    subst (λ (z : State). LegalFrom g z after) (sym (state-append g h before))
    (legal_then g (state g h) before after (subst (λ (x : List Entry). LegalFrom g (state g h) x) is legal))

-- and both services in two
pub meets_after : (g : Settings) (n : ℕ) (ls : Labels) (h before : List Entry) (d : State) → Meets g n ls (run g (state g h) before) d
    → Meets g n ls (state g (h ++ before)) d
meets_after g n ls h before d meets = subst (λ (z : State). Meets g n ls z d) (sym (state-append g h before)) meets

many_meet : (g : Settings) (k : ℕ) (ls : Labels) (w n most : ℕ) (h m : List Entry) (c : State) → Meets g k ls (state g h) c → LegalFrom g (state g h) m
    → ServesUpTo g w n most h m → AreServed g k ls (state g h) c m n (serve_many g c w most)
many_meet g k ls w zero zero h m c meets legal does =
    subst (λ (x : List Entry). AreServed g k ls (state g h) c x 0 (serve_many g c w 0)) (sym does) (record { counts = refl; meets = meets })
many_meet g k ls w zero (suc most) h m c meets legal does =
    let one = serves_meet g k ls w false h m c meets legal does in
    served_as g k ls (state g h) c m 0 (serve_many g c w (suc most)) (serve_one g c w)
    (many_last g c w most (tells_served false (serve_one g c w) one.counts)) one
many_meet g k ls w (suc n) zero h m c meets legal does = absurd does
many_meet g k ls w (suc n) (suc most) h m c meets legal does =
    let one = serves_meet g k ls w true h does.before c meets (legal_before g h m does.before does.after does.joined legal) does.one in
    let d : State = run g c (serve_one g c w).entries in
    let rest = many_meet g k ls w n most (h ++ does.before) does.after d (meets_after g k ls h does.before d one.meets)
    (legal_after g h m does.before does.after does.joined legal) does.other in
    served_as g k ls (state g h) c m (suc n) (serve_many g c w (suc most)) (and_then (serve_one g c w) (serve_many g d w most))
    (many_more g c w most (tells_served true (serve_one g c w) one.counts))
    (subst (λ (x : List Entry). AreServed g k ls (state g h) c x (suc n) (and_then (serve_one g c w) (serve_many g d w most))) (sym does.joined)
    (both_served g k ls n h does.before does.after c (serve_one g c w) (serve_many g d w most) one rest))

pub all_served : (g : Settings) (k : ℕ) (ls : Labels) (w n : ℕ) (h m : List Entry) (c : State) → Meets g k ls (state g h) c → LegalFrom g (state g h) m
    → ServesAll g (alone g) w (Ok n) h m → AreServed g k ls (state g h) c m n (serve_many g c w 64)
all_served g k ls w n h m c meets legal does =
    many_meet g k ls w n 64 h m c meets legal (up_to g w (nat_lt n 64) n 64 h m refl does.0 does.1)
