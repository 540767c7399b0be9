-- The bounds of a clock hold at the opening, and each tick and each shift keeps them.

use Rattle.std.proofs.Common.{◌≡◌, refl, sym, arith, cond, Bool, true, false, Option, Some, None}
use Rattle.std.proofs.lemmas.Int.{ints, clamps}
use Rattle.std.specs.Prelude.{ℤ, pos, negsuc, ◌+ℤ◌, ◌-ℤ◌, ◌*ℤ◌, ◌≤ℤ◌, ◌<ℤ◌, int_lt, nat_lt, unsigned_abs, FitsSigned}
use Rattle.std.specs.Int.{int_max, w64}
use Rattle.ert_defs.specs.{Clocks.{face, first_clock}, Lines.{Face, first_base, end_time, Due, IsInRange, line_time, mono_after, time_after, is_base, base_from, rate_of, rate_after, due_at, due_from, due_after, ticked, shifted}}
use Rattle.ert_defs.specs.{ClockMoves.GrowsWithinPercent, Readings.IsValid, Settings.IsChecked, Sound.{IsRate, OnLine, Reaches, Sound, DueFits, MayShift}, declared.entry.Act.Act, declared.entry.Act.TheVariants.{Plain, Force, Finalize}}
use Rattle.ert_defs.specs.{declared.settings.OffsetState.OffsetState, declared.settings.OffsetState.TheVariants.{Preliminary, Final, Volatile}, declared.settings.Reading.Reading, declared.settings.Settings.Settings}
use Rattle.ert_defs.proofs.Numbers.{line_grows, line_base, line_far}

-- the time after a tick, with correction or without
abbrev pub time_with : Bool → Face → Reading → ℤ
time_with c f r = cond c (line_time f.base (mono_after f r)) (int_max f.time (r.sys -ℤ f.offset))

-- each rate that follows a base is at most one percent
pub one_rate : (a b c d : Bool)
    → IsRate (cond a (pos 10000) (cond b (pos 500) (cond c (negsuc 9999) (cond d (negsuc 499) (pos 0)))))
one_rate true b c d = omega (arith, ints)
one_rate false true c d = omega (arith, ints)
one_rate false false true d = omega (arith, ints)
one_rate false false false true = omega (arith, ints)
one_rate false false false false = omega (arith, ints)

pub rate_is : (state : OffsetState) (error : ℤ) → IsRate (rate_of state error)
rate_is Final error =
    one_rate (int_lt (pos 100000000) error) (int_lt (pos 1000000) error)
    (int_lt error (negsuc 99999999)) (int_lt error (negsuc 999999))
rate_is Preliminary error = omega (arith, ints)
rate_is Volatile error = omega (arith, ints)

pub rate_after_is : (act : Act) (state : OffsetState) (error : ℤ) → IsRate (rate_after act state error)
rate_after_is Finalize state error = omega (arith, ints)
rate_after_is Plain state error = rate_is state error
rate_after_is Force state error = rate_is state error

-- how far the clock has come at the opening
pub reach_opening : (c : Bool) (g : Settings) → IsChecked g → Reaches c g (face g (first_clock g))
reach_opening true g k = record {
  here = sym (line_base (first_base g));
  far = omega (arith, ints);
  sum = let high = k.first.sys_high in omega (arith, ints, high);
}
reach_opening false g k = record { sum = let high = k.first.sys_high in omega (arith, ints, high) }

-- the bounds hold at the opening
pub sound_opening : (g : Settings) → IsChecked g → Sound g (face g (first_clock g))
sound_opening g k =
    let start_low = k.start.low in
    let start_high = k.start.high in
    let sys_low = k.first.sys_low in
    let sys_high = k.first.sys_high in
    record {
      rate = omega (arith, ints);
      start = omega (arith, ints);
      first = omega (arith, ints);
      mono = omega (arith, ints);
      mono_high = k.first.mono_high;
      now = omega (arith, ints);
      offset = omega (arith, ints);
      reach = reach_opening g.correction g k;
    }

-- OS monotonic time never falls
pub mono_up : (f : Face) (r : Reading) → f.mono ≤ℤ mono_after f r
mono_up f r = omega (arith, ints, clamps)

-- and stays below what each reading stays below
pub mono_below : (f : Face) (r : Reading) (top : ℤ) → f.mono <ℤ top → r.mono <ℤ top → mono_after f r <ℤ top
mono_below f r top a b = omega (arith, ints, clamps)

-- on the line, time grows from tick to tick by 99 to 101 percent of OS monotonic time, also across a base
pub line_moves : (g : Settings) (f : Face) (r : Reading) → Sound g f → OnLine g f
    → GrowsWithinPercent f.mono (mono_after f r) f.time (line_time f.base (mono_after f r))
line_moves g f r s on = rw on.here (line_grows f.base f.mono (mono_after f r) s.rate s.mono (mono_up f r))

-- a tick never sets the time back
pub time_up : (c : Bool) (g : Settings) (f : Face) (r : Reading) → Sound g f → Reaches c g f
    → f.time ≤ℤ time_with c f r
time_up true g f r s on = let least = (line_moves g f r s on).least in omega (arith, ints, least)
time_up false g f r s off = omega (arith, ints, clamps)

pub no_fall : (g : Settings) (f : Face) (r : Reading) → Sound g f → f.time ≤ℤ time_after g f r
no_fall g f r s = time_up g.correction g f r s s.reach

-- what the clock shows after a tick that is a base, or none
abbrev pub ticked_with : Bool → Face → Reading → Act → ℤ → Face
ticked_with b f r act now = record {
  time = now;
  offset = f.offset;
  state = f.state;
  base = cond b (base_from r act (mono_after f r) now f.offset f.state) f.base;
  mono = mono_after f r;
}

-- a tick that is a base, or none, keeps how far the clock has come
pub reach_tick : (c b : Bool) (g : Settings) (f : Face) (r : Reading) (act : Act) → Sound g f → IsValid r
    → Reaches c g f → Reaches c g (ticked_with b f r act (time_with c f r))
reach_tick true true g f r act s v on =
    let up = mono_up f r in
    let low : f.base.mono ≤ℤ mono_after f r = omega (arith, ints, s.mono) in
    let far = line_far f.base (mono_after f r) s.rate low in
    record {
      here = sym (line_base (base_from r act (mono_after f r) (time_with true f r) f.offset f.state));
      far = omega (arith, ints, far, on.far);
      sum = omega (arith, ints, far, on.sum);
    }
reach_tick true false g f r act s v on = record { here = refl; far = on.far; sum = on.sum }
reach_tick false b g f r act s v off =
    let high = v.sys_high in
    record { sum = omega (arith, ints, clamps, off.sum, high) }

-- it keeps all bounds
pub sound_based : (b : Bool) (g : Settings) (f : Face) (r : Reading) (act : Act) → Sound g f → IsValid r
    → Sound g (ticked_with b f r act (time_after g f r))
sound_based true g f r act s v =
    let up = mono_up f r in
    let grown = no_fall g f r s in
    record {
      rate = rate_after_is act f.state (r.sys -ℤ (time_after g f r +ℤ f.offset));
      start = omega (arith, ints, grown, s.start, s.now);
      first = omega (arith, ints, up, s.first, s.mono);
      mono = omega (arith, ints);
      mono_high = mono_below f r (pos 4611686018427387904) s.mono_high v.mono_high;
      now = omega (arith, ints);
      offset = s.offset;
      reach = reach_tick g.correction true g f r act s v s.reach;
    }
sound_based false g f r act s v =
    let up = mono_up f r in
    let grown = no_fall g f r s in
    record {
      rate = s.rate;
      start = s.start;
      first = s.first;
      mono = omega (arith, ints, up, s.mono);
      mono_high = mono_below f r (pos 4611686018427387904) s.mono_high v.mono_high;
      now = omega (arith, ints, grown, s.now);
      offset = s.offset;
      reach = reach_tick g.correction false g f r act s v s.reach;
    }

-- so does each tick
pub sound_tick : (g : Settings) (f : Face) (r : Reading) (act : Act) → Sound g f → IsValid r
    → Sound g (ticked g f r act (time_after g f r))
sound_tick g f r act s v = sound_based (is_base act (due_at g f r)) g f r act s v

-- the shift that was due keeps how far the clock has come
pub reach_shift : (c : Bool) (g : Settings) (f : Face) (d : Due) → Sound g f → DueFits f d → Reaches c g f
    → Reaches c g (shifted f (Some d))
reach_shift true g f d s fits on = record {
  here = on.here;
  far = on.far;
  sum = omega (arith, ints, fits.base, fits.sum, s.first);
}
reach_shift false g f d s fits off = record { sum = omega (arith, ints, fits.sum) }

-- it keeps all bounds
pub sound_shift : (g : Settings) (f : Face) (d : Due) → Sound g f → DueFits f d → Sound g (shifted f (Some d))
sound_shift g f d s fits = record {
  rate = s.rate;
  start = s.start;
  first = s.first;
  mono = s.mono;
  mono_high = s.mono_high;
  now = s.now;
  offset = fits.offset;
  reach = reach_shift g.correction g f d s fits s.reach;
}

-- a shift that is due follows a base, and sets the offset to this
abbrev pub FollowsBase : Act → Bool → ℤ → Option Due → Type 0
FollowsBase act due x None = Unit {0}
FollowsBase act due x (Some d) = (is_base act due ≡ true) × (d.0 ≡ x)

pub follows_when : (act : Act) (due far : Bool) (x : ℤ) → is_base act due ≡ true
    → FollowsBase act due x (cond far (Some (x, Volatile)) None)
follows_when act due true x base = (base, refl)
follows_when act due false x base = tt

pub follows_base : (act : Act) (due : Bool) (state : OffsetState) (x offset : ℤ)
    → FollowsBase act due x (due_from act due state x offset)
follows_base Finalize due state x offset = (refl, refl)
follows_base act due Preliminary x offset = tt
follows_base act due Final x offset = tt
follows_base Plain true Volatile x offset =
    follows_when Plain true (nat_lt 1000000 (unsigned_abs (x -ℤ offset))) x refl
follows_base Plain false Volatile x offset = tt
follows_base Force due Volatile x offset =
    follows_when Force due (nat_lt 1000000 (unsigned_abs (x -ℤ offset))) x refl

-- such a shift keeps the bounds after a tick with a valid reading
pub fits_where : (g : Settings) (f : Face) (r : Reading) (act : Act) (due : Option Due) → IsValid r
    → FollowsBase act (due_at g f r) (r.sys -ℤ time_after g f r) due → IsInRange due
    → MayShift (ticked g f r act (time_after g f r)) due
fits_where g f r act None v follows k = tt
fits_where g f r act (Some d) v follows k = record {
  base = rw follows.0 refl;
  offset = k;
  sum = let high = v.sys_high in omega (arith, ints, follows.1, high);
}

-- the shift that a tick makes due keeps the bounds
pub due_fits : (g : Settings) (f : Face) (r : Reading) (act : Act) → IsValid r
    → IsInRange (due_after g f r act (time_after g f r))
    → MayShift (ticked g f r act (time_after g f r)) (due_after g f r act (time_after g f r))
due_fits g f r act v k =
    fits_where g f r act (due_after g f r act (time_after g f r)) v
    (follows_base act (due_at g f r) f.state (r.sys -ℤ time_after g f r) f.offset)
    k

-- the time is between the start and the end, and its sum with the offset is below 2^63
pub record IsWithin (g : Settings) (f : Face) : Type 0 where
  pub low : g.start ≤ℤ f.time
  pub high : f.time <ℤ end_time g
  pub sum : (f.time +ℤ f.offset) <ℤ pos 9223372036854775808

-- a clock within its bounds is there
pub in_range_by : (c : Bool) (g : Settings) (f : Face) → IsChecked g → Sound g f → Reaches c g f → IsWithin g f
in_range_by true g f k s on =
    let far = line_far f.base f.mono s.rate s.mono in
    let here : (pos 100 *ℤ f.time) ≤ℤ ((pos 100 *ℤ f.base.time) +ℤ (pos 101 *ℤ (f.mono -ℤ f.base.mono))) =
    rw on.here far in
    let first = k.first.mono_low in
    record {
      low = omega (arith, ints, s.start, s.now);
      high = omega (arith, ints, here, on.far, s.mono_high, first);
      sum = omega (arith, ints, here, on.sum, s.mono_high, first);
    }
in_range_by false g f k s off =
    let low = k.start.low in
    record {
      low = omega (arith, ints, s.start, s.now);
      high = omega (arith, ints, off.sum, s.offset.low, low);
      sum = omega (arith, ints, off.sum);
    }

pub in_range : (g : Settings) (f : Face) → IsChecked g → Sound g f → IsWithin g f
in_range g f k s = in_range_by g.correction g f k s s.reach

-- an earlier time and this offset have a sum of 64 bits
pub sum_fits : (g : Settings) (f : Face) (x : ℤ) → IsChecked g → Sound g f → g.start ≤ℤ x → x ≤ℤ f.time
    → FitsSigned w64 (x +ℤ f.offset)
sum_fits g f x k s low high =
    let least = k.start.low in
    let w = in_range g f k s in
    omega (arith, ints, least, s.offset.low, w.sum)

-- the time itself has 64 bits
pub time_fits : (g : Settings) (f : Face) → IsChecked g → Sound g f → FitsSigned w64 f.time
time_fits g f k s =
    let least = k.start.low in
    let most = k.start.high in
    let w = in_range g f k s in
    omega (arith, ints, least, most, w.low, w.high)
