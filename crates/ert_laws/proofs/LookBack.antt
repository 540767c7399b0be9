-- The line of a clock is found by looking back: the last tick that was a base, or the first reading.

use Rattle.std.proofs.Common.{◌≡◌, ◌⊎◌, inl, inr, refl, ap, Bool, true, false, cond, List, [], ◌∷◌}
use Rattle.std.proofs.lemmas.List.{append-nil}
use Rattle.ert_laws.specs.ClockLaws.{was_base, HasBase, HasNoBase}
use Rattle.ert_defs.specs.{Clocks.{Ticked, last_mono, last_base}, Lines.base_from, declared.settings.Settings.Settings}

-- the base after one more tick
pub base_with : (g : Settings) (t : Ticked) (ts : List Ticked) (b : Bool) → was_base g t ts ≡ b
    → last_base g (t ∷ ts) ≡ cond b (base_from t.reading t.act (last_mono g (t ∷ ts)) t.now t.offset t.state) (last_base g ts)
base_with g t ts b is = rw is refl

-- looking back after one more tick, which was a base or none
pub looks_after : (g : Settings) (t : Ticked) (ts : List Ticked) (b : Bool) → was_base g t ts ≡ b
    → HasNoBase g ts ⊎ HasBase g ts → HasNoBase g (t ∷ ts) ⊎ HasBase g (t ∷ ts)
looks_after g t ts true is before = inr (record {
  newer = [];
  tick = t;
  older = ts;
  stands = refl;
  none_newer = tt;
  was = is;
  base = base_with g t ts true is;
})
looks_after g t ts false is (inl before) = inl (record {
  none = (rw append-nil is, before.none);
  base = rw (base_with g t ts false is) before.base;
})
looks_after g t ts false is (inr before) = inr (record {
  newer = t ∷ before.newer;
  tick = before.tick;
  older = before.older;
  stands = ap (λ older. t ∷ older) before.stands;
  none_newer = (rw (← before.stands) is, before.none_newer);
  was = before.was;
  base = rw (base_with g t ts false is) before.base;
})

-- looking back at any ticks
pub look_back : (g : Settings) (ticks : List Ticked) → HasNoBase g ticks ⊎ HasBase g ticks
look_back g [] = inl (record { none = tt; base = refl })
look_back g (t ∷ ts) = looks_after g t ts (was_base g t ts) refl (look_back g ts)
