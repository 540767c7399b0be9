-- How a call through the handle of a hub or of a shard is shown.

use Rattle.std.proofs.Common.{◌≡◌, ℕ, ◌<◌, ◌≤◌, ◌+◌, ◌-◌, ◌↔◌, ℤ, Bool, true, IsTrue, Option, Some, None, Ok, inl, inr, refl, ap, ◌∙◌, subst, sym, false, arith}
use Rattle.ert_c.specs.{HubCalls.OpensHub, Opened.ReadsSettings, Places.is_there, ShardCalls.{GivesOrRefuses, CutsShard, OpensShard, IfHome}, Through.Through, declared.opening.ErtSettings.ErtSettings, declared.status.TheConstants.OK}
use Rattle.ert_c.specs.{declared.status.TheConstants.NO_MEMORY}
use Rattle.ert_defs.specs.declared.settings.Settings.{Settings}
use Rattle.ert_shard.specs.{Hubs.{Rest, IsFresh, GivesShard, TakesBack, IsLastOut}, Shards.{Share, IsHome, Owned}}
use Rattle.ert_world.proofs.Given.{longer_same}
use Rattle.ert_world.specs.{Openings.IsOpened, Worlds.Seen}

-- a call is made by what was lent
pub made_through : {W : Type 0} (kept : Type 0) (call : W → W → Type 0) (old new : Option W) (status : ℤ) (was now : W) → old ≡ Some was
    → new ≡ Some now → call was now → Through kept call old status new
made_through {W} kept call old new status was now is becomes made =
    subst (λ (o : Option W). Through kept call o status new) (sym is) (now, becomes, made)

-- a process below the first of a share isn't of it
pub below_home : (call refused : Type 0) (s : Share) (p from : ℕ) → p < from → from ≡ s.from → refused → IfHome s p call refused
below_home call refused s p from lower is r =
    record { home = λ h. absurd (omega (arith, lower, is, h.0)); below = λ _. r; above = λ _. r }

-- nor is one from the end of the share on
pub above_home : (call refused : Type 0) (s : Share) (p to : ℕ) → to ≤ p → to ≡ s.to → refused → IfHome s p call refused
above_home call refused s p to higher is r =
    record { home = λ h. absurd (omega (arith, higher, is, h.1)); below = λ _. r; above = λ _. r }

-- and all between are
pub at_home : (call refused : Type 0) (s : Share) (p from to : ℕ) → from ≤ p → from ≡ s.from → p < to → to ≡ s.to → call
    → IfHome s p call refused
at_home call refused s p from to low from_is high to_is made = record {
  home = λ _. made;
  below = λ h. absurd (omega (arith, low, from_is, h));
  above = λ h. absurd (omega (arith, high, to_is, h));
}

-- so a process is or isn't of a share, as the shard tells
pub is_at_home : (call refused : Type 0) (s : Share) (p : ℕ) (told : Bool) → told ≡ true → (IsTrue told ↔ IsHome s p) → call → IfHome s p call refused
is_at_home call refused s p told is home made =
    let at = home.0 is in
    record { home = λ _. made; below = λ h. absurd (let low = at.0 in omega (arith, low, h)); above = λ h. absurd (let high = at.1 in omega (arith, high, h)) }

pub not_at_home : (call refused : Type 0) (s : Share) (p : ℕ) (told : Bool) → told ≡ false → (IsTrue told ↔ IsHome s p) → refused → IfHome s p call refused
not_at_home call refused s p told is home r = record {
  home = λ h. absurd (let said : told ≡ true = home.1 h in let both : true ≡ false = sym said ∙ is in cc);
  below = λ _. r;
  above = λ _. r;
}

-- when out of memory a closed handle of a hub stays closed
pub opens_no_hub : (c : ErtSettings) (o : Option Rest) (g : Settings) → is_there o ≡ false → ReadsSettings c (Ok g) → g.schedulers < g.callers
    → OpensHub c o NO_MEMORY o
opens_no_hub c None g h read few = record {
  read = Ok g;
  meant = read;
  opens = record { below = λ _. inr (refl, refl); above = λ m. absurd (omega (arith, few, m)) };
}
opens_no_hub c (Some r) g h read few = cc

-- and a hub of a service that was opened stands behind it
pub opens_new_hub : (c : ErtSettings) (o : Option Rest) (g : Settings) (w : Seen) (h : Rest) (new : Option Rest) → is_there o ≡ false → ReadsSettings c (Ok g)
    → g.schedulers < g.callers → IsOpened g w → IsFresh w h → new ≡ Some h → OpensHub c o OK new
opens_new_hub c None g w h new closed read few opened fresh is = record {
  read = Ok g;
  meant = read;
  opens = record {
    below = λ _. inl (record { world = w; hub = h; is = is; opened = opened; fresh = fresh; told = refl });
    above = λ m. absurd (omega (arith, few, m));
  };
}
opens_new_hub c (Some r) g w h new closed read few opened fresh is = cc

-- what an open hub does for a closed handle of a shard
pub opens_shard : (processes : ℕ) (hub : Option Rest) (shard : Option Owned) (old : Rest) (status : ℤ) (left : Option Rest)
    (given : Option Owned) → hub ≡ Some old → is_there shard ≡ false → CutsShard processes old status left given
    → OpensShard processes hub shard status left given
opens_shard processes hub None old status left given is h cuts =
    subst (λ (o : Option Rest). OpensShard processes o None status left given) (sym is) cuts
opens_shard processes hub (Some s) old status left given is h cuts = cc

-- a handle behind which nothing stands
pub none_there : (o : Option Owned) → is_there o ≡ false → o ≡ None
none_there None h = refl
none_there (Some s) h = cc

-- a hub cuts a shard, where it has as much left
pub cuts_some : (processes : ℕ) (old : Rest) (status : ℤ) (hub : Option Rest) (shard : Option Owned) → 0 < old.left → processes ≤ old.first
    → GivesOrRefuses processes old status hub shard
    → CutsShard processes old status hub shard
cuts_some processes old status hub shard some few made = record {
  below = λ _. record { below = λ h. absurd (omega (arith, few, h)); above = λ _. made };
  above = λ h. absurd (omega (arith, some, h));
}

-- two rests of a world are the same, where each of their fields is
rest_same : (a b : Rest) → a.table ≡ b.table → a.settings ≡ b.settings → a.history ≡ b.history → a.clock ≡ b.clock → a.left ≡ b.left → a.first ≡ b.first
    → a.next ≡ b.next → a.homes ≡ b.homes → a ≡ b
rest_same a b table settings history clock left first seat homes = λ i. record {
  table = table i;
  settings = settings i;
  history = history i;
  clock = clock i;
  left = left i;
  first = first i;
  next = seat i;
  homes = homes i;
}

-- a shard that comes back at once leaves the hub as it was, but for what it remembers of the wheel
pub taken_back : (processes : ℕ) (old mid again : Rest) (shard : Owned) → 0 < old.left → GivesShard old processes mid shard → TakesBack mid shard again
    → again ≡ record old { homes = again.homes }
taken_back processes old mid again shard some gives takes =
    let left_is : mid.left ≡ old.left - 1 = ap (λ (r : Rest). r.left) gives.rest in
    let left_back : again.left ≡ mid.left + 1 = takes.left in
    rest_same again (record old { homes = again.homes })
    (takes.table ∙ ap (λ (r : Rest). r.table) gives.rest)
    (takes.settings ∙ ap (λ (r : Rest). r.settings) gives.rest)
    (takes.history ∙ longer_same mid.history shard.history old.history (ap (λ (r : Rest). r.history) gives.rest) gives.history)
    (takes.clock ∙ ap (λ (r : Rest). r.clock) gives.rest)
    (omega (arith, left_is, left_back, some))
    (takes.first ∙ ap (λ (s : Share). s.to) gives.share)
    (takes.next ∙ ap (λ (r : Rest). r.next) gives.rest)
    refl

-- such a shard is the next
pub given_next : (processes : ℕ) (old mid : Rest) (shard : Owned) → GivesShard old processes mid shard → IsLastOut mid shard
given_next processes old mid shard gives = (
  ap (λ (s : Share). s.number) gives.share ∙ sym (ap (λ (r : Rest). r.left) gives.rest),
  ap (λ (s : Share). s.from) gives.share ∙ sym (ap (λ (r : Rest). r.first) gives.rest),
)
