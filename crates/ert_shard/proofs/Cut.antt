-- Whose the timers of a wheel are that is left, and of one that is cut.

use Rattle.std.proofs.Common.{◌≡◌, ℕ, ◌+◌, ◌-◌, ◌<◌, ◌≤◌, Bool, true, false, cond, ◌&&◌, nat_lt, List, [], ◌∷◌, take, length, slice_index_or, Some, inl, inr, refl, sym, ap, subst, ◌∙◌, arith}
use Rattle.std.proofs.{Math.Nat.{le_trans, lt_of_lt_of_le}, lemmas.Bool.ltb-true, lemmas.Bool.Decides.nat_tests, lemmas.List.Sums.sum_by-cons, lemmas.List.{get_or-take, length-take-le}, lemmas.Option.slice_get_within}
use Rattle.std.proofs.{lemmas.Option.get_or_from_slice_get}
use Rattle.std.specs.List.{slice_get}
use Rattle.std.specs.Prelude.{IsTrue, ◌↔◌}
use Rattle.ert_defs.specs.{Actors.{has_actor, of}, declared.entry.Actor.TheVariants.Wheel, declared.entry.Entry.Entry, declared.entry.Event.Event, declared.entry.Event.TheVariants.Arm}
use Rattle.ert_laws.specs.Counts.{entries_of, is_arm}
use Rattle.ert_shard.specs.{Hubs.{Rest, share_at, share_below, HaveHomes, IsRest, AreKnown, IsAtHome}, Shards.{Share, share_of, IsHomeEvent, AreHome}, declared.hub.Home.Home}
use Rattle.ert_table.specs.{Desks.{settings_of, front_of}, declared.desk.Desk.Desk, declared.desk.Pass.Pass}
use Rattle.ert_timers.specs.Parts.{Part, PartStands as WheelStands}
use Rattle.ert_world.specs.Parts.{AllParts}

-- a wheel that has had no timer has none for a process of another share
pub unarmed_home : (s : Share) (w : ℕ) (h : List Entry) → entries_of is_arm w h ≡ 0 → AreHome s (of h (Wheel w))
unarmed_home s w [] none = tt
unarmed_home s w (e ∷ h) none =
    let sum : ◌≡◌ {A = ℕ} (cond (has_actor e (Wheel w) && is_arm e.event) 1 0 + entries_of is_arm w h) 0 =
    sym (sum_by-cons (λ (x : Entry). cond (has_actor x (Wheel w) && is_arm x.event) 1 0) e h) ∙ none in
    let later : entries_of is_arm w h ≡ 0 = omega (arith, sum) in
    let first : ◌≡◌ {A = ℕ} (cond (has_actor e (Wheel w) && is_arm e.event) 1 0) 0 = omega (arith, sum) in
    at (has_actor e (Wheel w)) refl first (unarmed_home s w h later)
  where
    home : (event : Event) → ◌≡◌ {A = ℕ} (cond (is_arm event) 1 0) 0 → IsHomeEvent s event
    home (Arm timer start) is = absurd (let clash : ◌≡◌ {A = ℕ} 1 0 = is in omega (arith, clash))
    home _ is = tt

    at : (b : Bool) → has_actor e (Wheel w) ≡ b → ◌≡◌ {A = ℕ} (cond (has_actor e (Wheel w) && is_arm e.event) 1 0) 0 → AreHome s (of h (Wheel w)) → AreHome s (of (e ∷ h) (Wheel w))
    at true is first more = rw is (home e.event (rw is at first), more)
    at false is first more = rw is more

-- what is for processes of a share is for those of a greater one
event_wider : (s t : Share) → t.from ≤ s.from → s.to ≤ t.to → (event : Event) → IsHomeEvent s event → IsHomeEvent t event
event_wider s t low high (Arm timer start) home = (le_trans low home.0, lt_of_lt_of_le home.1 high)
event_wider s t low high _ home = tt

home_wider : (s t : Share) → t.from ≤ s.from → s.to ≤ t.to → (es : List Entry) → AreHome s es → AreHome t es
home_wider s t low high [] home = tt
home_wider s t low high (e ∷ es) home = (event_wider s t low high e.event home.0, home_wider s t low high es home.1)

-- the home law stands on while the wheels that are left have no more entries
pub homes_on : (f h : List Entry) (left : ℕ) (homes : List Home) → ((w : ℕ) → w < left → of h (Wheel w) ≡ of f (Wheel w)) → HaveHomes f left homes
    → HaveHomes h left homes
homes_on f h left homes same have = record {
  base = have.base;
  counted = have.counted;
  home = λ i d low.
      let counted = have.counted in
      subst (AreHome (share_at (have.base + i) (slice_index_or homes i d))) (sym (same (have.base + i) (omega (arith, counted, low)))) (have.home i d low);
}

-- once the last wheel is given away
pub homes_left : (h : List Entry) (left n : ℕ) (homes : List Home) → left ≡ n + 1 → HaveHomes h left homes → HaveHomes h n (take (length homes - 1) homes)
homes_left h left n [] next have = record { base = n; counted = omega arith; home = λ i d low. absurd (omega (arith, low)) }
homes_left h left n (x ∷ xs) next have =
    let homes : List Home = x ∷ xs in
    let k : ℕ = length homes - 1 in
    let counted = have.counted in
    let less : k ≤ length homes = omega arith in
    let size : length (take k homes) ≡ k = length-take-le k homes less in
    let some : k + 1 ≡ length homes = omega arith in
    record {
      base = have.base;
      counted = omega (arith, counted, size, next, some);
      home = λ i d low.
          let below : i < k = omega (arith, low, size) in
          subst (λ y. AreHome (share_at (have.base + i) y) (of h (Wheel (have.base + i)))) (sym (get_or-take k homes i d below)) (have.home i d (omega (arith, below, some)));
    }

-- all timers of a wheel are for processes that are known to have them
pub known_home : (h : List Entry) (left w from to : ℕ) (homes : List Home) (r : Rest) → r.history ≡ h → r.left ≡ left → r.homes ≡ homes
    → w < left → HaveHomes h left homes → AreKnown r w from to → AreHome (share_of w from to) (of h (Wheel w))
known_home h left w from to homes r history left_is homes_is below have known =
    elim known [
      | inl none ↦ unarmed_home (share_of w from to) w h (subst (λ l. entries_of is_arm w l ≡ 0) history none)
      | inr some ↦ within some.0 (subst (λ k. k - w ≤ length homes) left_is (subst (λ (l : List Home). r.left - w ≤ length l) homes_is some.1))
          (subst (λ k. slice_get homes (length homes - (k - w)) ≡ Some some.0) left_is
          (subst (λ (l : List Home). slice_get l (length l - (r.left - w)) ≡ Some some.0) homes_is some.2)) some.3 some.4
    ]
  where
    within : (home : Home) → left - w ≤ length homes → slice_get homes (length homes - (left - w)) ≡ Some home → from ≤ home.from → home.to ≤ to
        → AreHome (share_of w from to) (of h (Wheel w))
    within home few is low high =
        let i : ℕ = length homes - (left - w) in
        let in_range : i < length homes = slice_get_within homes i home is in
        let counted = have.counted in
        let place : have.base + i ≡ w = omega (arith, counted, few, below) in
        home_wider (share_at w home) (share_of w from to) low high (of h (Wheel w))
        (subst (λ v. AreHome (share_at v home) (of h (Wheel v))) place
        (subst (λ x. AreHome (share_at (have.base + i) x) (of h (Wheel (have.base + i)))) (get_or_from_slice_get homes i home home is) (have.home i home in_range)))

-- so are those of the last wheel that is left, once it is at home
pub home_last : (h : List Entry) (left n first processes : ℕ) (homes : List Home) (r : Rest) → r.history ≡ h → r.left ≡ left → r.first ≡ first → r.homes ≡ homes
    → left ≡ n + 1 → HaveHomes h left homes → IsAtHome r processes → AreHome (share_of n (first - processes) first) (of h (Wheel n))
home_last h left n first processes homes r history left_is first_is homes_is next have home =
    let place : r.left - 1 ≡ n = omega (arith, left_is, next) in
    known_home h left n (first - processes) first homes r history left_is homes_is (omega (arith, next)) have
    (subst (λ w. AreKnown r w (first - processes) first) place (subst (λ f. AreKnown r (r.left - 1) (f - processes) f) first_is home.own))

-- and those of the wheels that stay
pub homes_stay : (h : List Entry) (left n first processes : ℕ) (homes : List Home) (r : Rest) → r.history ≡ h → r.left ≡ left → r.first ≡ first → r.homes ≡ homes
    → left ≡ n + 1 → HaveHomes h left homes → IsAtHome r processes → (w : ℕ) → w < n → AreHome (share_below w (first - processes)) (of h (Wheel w))
homes_stay h left n first processes homes r history left_is first_is homes_is next have home w low =
    known_home h left w 0 (first - processes) homes r history left_is homes_is (omega (arith, next, low)) have
    (subst (λ f. AreKnown r w 0 (f - processes)) first_is (home.others w (omega (arith, left_is, next, low))))

-- what a hub tells of that: the wheel has had no timer
pub told_unarmed : (r : Rest) (w from to : ℕ) → entries_of is_arm w r.history ≡ 0 → IsTrue true ↔ AreKnown r w from to
told_unarmed r w from to none = (λ so. inl none, λ known. refl)

-- it has had some, and was no shard's
pub told_few : (r : Rest) (w from to : ℕ) → (entries_of is_arm w r.history ≡ 0 → ⊥) → length r.homes < r.left - w → IsTrue false ↔ AreKnown r w from to
told_few r w from to some few =
    (λ so. absurd cc, λ known. elim known [ inl none ↦ absurd (some none) | inr other ↦ absurd (let more = other.1 in omega (arith, few, more)) ])

-- or was a shard's
pub told_home : (r : Rest) (w from to : ℕ) (home : Home) (answer : Bool) → (entries_of is_arm w r.history ≡ 0 → ⊥) → r.left - w ≤ length r.homes
    → slice_get r.homes (length r.homes - (r.left - w)) ≡ Some home → (IsTrue answer ↔ ((from ≤ home.from) × (home.to ≤ to)))
    → IsTrue answer ↔ AreKnown r w from to
told_home r w from to home answer some few is within =
    (λ so. inr (home, few, is, (within.0 so).0, (within.0 so).1), λ known. elim known [ inl none ↦ absurd (some none) | inr other ↦ at other.0 other.2 other.3 other.4 ])
  where
    at : (x : Home) → slice_get r.homes (length r.homes - (r.left - w)) ≡ Some x → from ≤ x.from → x.to ≤ to → IsTrue answer
    at x found low high =
        let both : Some home ≡ Some x = sym is ∙ found in
        let same : x ≡ home = cc in
        within.1 (subst (λ (y : Home). from ≤ y.from) same low, subst (λ (y : Home). y.to ≤ to) same high)

-- the timers of one wheel that stays aren't known to be for the processes that stay
pub told_one : (r : Rest) (processes w : ℕ) (answer : Bool) → answer ≡ false → w < r.left - 1 → (IsTrue answer ↔ AreKnown r w 0 (r.first - processes)) → IsTrue false ↔ IsAtHome r processes
told_one r processes w answer is low known =
    (λ so. absurd cc, λ home. absurd (let said : answer ≡ true = known.1 (home.others w low) in let both : true ≡ false = sym said ∙ is in cc))

-- those of all that stay are, and those of the last are or aren't for its processes
pub told_all : (r : Rest) (processes : ℕ) (answer : Bool) → ((w : ℕ) → w < r.left - 1 → AreKnown r w 0 (r.first - processes))
    → (IsTrue answer ↔ AreKnown r (r.left - 1) (r.first - processes) r.first) → IsTrue answer ↔ IsAtHome r processes
told_all r processes answer others own = (λ so. record { own = own.0 so; others = others }, λ home. own.1 home.own)

-- one wheel more is known
pub known_more : (r : Rest) (k to : ℕ) (answer : Bool) → ((w : ℕ) → w < k → AreKnown r w 0 to) → answer ≡ true → (IsTrue answer ↔ AreKnown r k 0 to)
    → (w : ℕ) → w < k + 1 → AreKnown r w 0 to
known_more r k to answer before is known w low = at (nat_lt w k) refl
  where
    at : (b : Bool) → nat_lt w k ≡ b → AreKnown r w 0 to
    at true below = before w (ltb-true w k below)
    at false above =
        let same : k ≡ w = grind (arith, nat_tests, above, low) in
        subst (λ v. AreKnown r v 0 to) same (known.0 is)

-- how many timers a wheel has had that is left
pub wheel_arms : (e : Desk) (p : Pass) (left first seat : ℕ) (homes : List Home) (parts : AllParts) (w : ℕ) (x : Part) → IsRest e p left first seat homes parts → w < left
    → x ≡ slice_index_or parts.wheels w x → x.arms ≡ entries_of is_arm w (front_of p)
wheel_arms e p left first seat homes parts w x rest low is =
    let stands : WheelStands (settings_of e) (front_of p) x = subst (WheelStands (settings_of e) (front_of p)) (sym is) (rest.stand.wheels.stand w x low refl) in
    let named : x.number ≡ w = ap (λ (y : Part). y.number) is ∙ rest.stand.wheels.named w x low in
    subst (λ k. x.arms ≡ entries_of is_arm k (front_of p)) named stands.counted.arms
