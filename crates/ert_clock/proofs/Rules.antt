-- What the code computes in parts is what the rules on numbers say, over plain variables.

use Rattle.std.proofs.Common.{◌≡◌, refl, sym, ◌∙◌, true, false, FitsSigned, w64}
use Rattle.std.specs.Prelude.{ℤ, pos, ◌-ℤ◌, ◌+ℤ◌, int_le}
use Rattle.std.specs.Int.{int_max}
use Rattle.ert_defs.specs.{Lines.{Face, mono_after, time_after, due_at, rate_after, base_from, ticked}, Readings.IsValid, declared.entry.Act.Act, declared.entry.Act.TheVariants.Plain, declared.settings.Reading.Reading}
use Rattle.ert_defs.specs.{declared.settings.Settings.Settings}
use Rattle.ert_defs.proofs.Bounds.{sound_tick, time_fits}
use Rattle.ert_clock.specs.Shown.{IsKept}

-- the time after a tick has 64 bits
pub after_fits : (g : Settings) (f : Face) (r : Reading) → IsKept g f → IsValid r
    → FitsSigned w64 (time_after g f r)
after_fits g f r k v =
    time_fits g (ticked g f r Plain (time_after g f r)) k.checked (sound_tick g f r Plain k.sound v)

-- without it, OS system time less the offset, or the time before
pub off_line : (g : Settings) (f : Face) (r : Reading) (x : ℤ) → g.correction ≡ false
    → x ≡ int_max f.time (r.sys -ℤ f.offset) → x ≡ time_after g f r
off_line g f r x off k =
    let is : time_after g f r ≡ int_max f.time (r.sys -ℤ f.offset) = rw off refl in
    k ∙ sym is

-- with correction a check is due by the distance from the last one in OS monotonic time
pub due_is : (g : Settings) (f : Face) (r : Reading) (m : ℤ) → g.correction ≡ true → m ≡ mono_after f r
    → int_le (pos 60000000000) (m -ℤ f.base.mono) ≡ due_at g f r
due_is g f r m on e = rw (e, on) refl

-- the base that starts at a tick
pub base_is : (r : Reading) (act : Act) (f : Face) (now m rate : ℤ) → m ≡ mono_after f r
    → rate ≡ rate_after act f.state (r.sys -ℤ (now +ℤ f.offset))
    → record { time = now; mono = m; sys = r.sys; rate = rate }
    ≡ base_from r act (mono_after f r) now f.offset f.state
base_is r act f now m rate e k = rw (e, k) refl
