-- One step of a clock: what a tick answers and leaves follows from what the code computes one after the
-- other.

use Rattle.std.proofs.Common.{Bool, false, ◌≡◌, ℤ, ◌-ℤ◌, refl, sym, ap, ◌∙◌, subst, Option, Some, None}
use Rattle.std.specs.Prelude.{Ok, Err}
use Rattle.ert_defs.specs.{Lines.{Face, Due, IsInRange, time_after, due_after, due_at, due_from, is_base, ticked, shifted}, Readings.IsValid, Sound.{Sound, MayShift}, declared.entry.Act.Act, declared.settings.Reading.Reading}
use Rattle.ert_defs.specs.{declared.settings.Settings.Settings, declared.entry.Act.TheVariants.{Plain, Force, Finalize}, declared.settings.OffsetState.OffsetState, declared.settings.OffsetState.TheVariants.{Preliminary, Final, Volatile}}
use Rattle.ert_defs.proofs.Bounds.{sound_tick, sound_shift, due_fits}
use Rattle.std.proofs.lemmas.Bool.{true≢false}
use Rattle.ert_clock.specs.{Faces.runs_on, Shown.IsKept, Ticks.{offset_of, IsWide, Limits, Gives}, declared.clock.ClockErr.ClockErr, declared.clock.ClockErr.TheVariants.{BadReading, OffsetWide}}

-- what the code computed before the test of the limits: the time and the shift that is due
pub record Computed (g : Settings) (f : Face) (r : Reading) (act : Act) (now : ℤ) (due : Option Due) : Type 0 where
  pub valid : IsValid r
  pub told : now ≡ time_after g f r
  pub due_is : due ≡ due_after g f r act now

-- the shift is the one that is due at the time after the tick
due_then : (g : Settings) (f : Face) (r : Reading) (act : Act) (now : ℤ) (due : Option Due)
    → Computed g f r act now due → due ≡ due_after g f r act (time_after g f r)
due_then g f r act now due k = k.due_is ∙ ap (due_after g f r act) k.told

-- a tick is refused where the shift that is due was
pub refuses : (g : Settings) (f : Face) (r : Reading) (act : Act) (now : ℤ) (due : Option Due) (e : ClockErr)
    → Computed g f r act now due → Limits due (Err e)
    → Gives (record { settings = g; face = f }) r act (Err e) (record { settings = g; face = f })
refuses g f r act now due BadReading k limits = absurd limits
refuses g f r act now due (OffsetWide value) k limits =
    let wide = subst (λ (d : Option Due). IsWide d value) (due_then g f r act now due k) limits in
    record { valid = k.valid; wide = wide; unchanged = refl }

-- the bounds hold after a shift that may be, where they held before
sound_shifted : (g : Settings) (f : Face) (due : Option Due) → Sound g f → MayShift f due → Sound g (shifted f due)
sound_shifted g f None sound may = sound
sound_shifted g f (Some d) sound may = sound_shift g f d sound may

-- a tick and the shift that it makes due keep what a clock keeps
keeps : (g : Settings) (f : Face) (r : Reading) (act : Act) → IsKept g f → IsValid r
    → IsInRange (due_after g f r act (time_after g f r))
    → IsKept g (shifted (ticked g f r act (time_after g f r)) (due_after g f r act (time_after g f r)))
keeps g f r act kept valid in_range =
    let now : ℤ = time_after g f r in
    record {
      checked = kept.checked;
      sound = sound_shifted g (ticked g f r act now) (due_after g f r act now)
          (sound_tick g f r act kept.sound valid) (due_fits g f r act valid in_range);
    }

-- what the code computed in all: then the shift within its limits, and the next face
pub record Done (g : Settings) (f : Face) (r : Reading) (act : Act) (now : ℤ) (due shift : Option Due)
    (next : Face) : Type 0 where
  pub computed : Computed g f r act now due
  pub limits : Limits due (Ok shift)
  pub next_is : next ≡ shifted (ticked g f r act now) shift

-- the shift is then within the limits at the time after the tick
in_range_then : (g : Settings) (f : Face) (r : Reading) (act : Act) (now : ℤ) (due shift : Option Due) (next : Face)
    → Done g f r act now due shift next → IsInRange (due_after g f r act (time_after g f r))
in_range_then g f r act now due shift next d =
    subst IsInRange (due_then g f r act now due d.computed) d.limits.0

-- and the face is the one after the tick and its shift
next_then : (g : Settings) (f : Face) (r : Reading) (act : Act) (now : ℤ) (due shift : Option Due) (next : Face)
    → Done g f r act now due shift next
    → next ≡ shifted (ticked g f r act (time_after g f r)) (due_after g f r act (time_after g f r))
next_then g f r act now due shift next d =
    d.next_is
    ∙ ap (λ (t : ℤ). shifted (ticked g f r act t) shift) d.computed.told
    ∙ ap (shifted (ticked g f r act (time_after g f r))) (d.limits.1 ∙ due_then g f r act now due d.computed)

-- it keeps what a clock keeps
pub done_keeps : (g : Settings) (f : Face) (r : Reading) (act : Act) (now : ℤ) (due shift : Option Due)
    (next : Face) → IsKept g f → Done g f r act now due shift next → IsKept g next
done_keeps g f r act now due shift next kept d =
    subst (IsKept g) (sym (next_then g f r act now due shift next d))
    (keeps g f r act kept d.computed.valid (in_range_then g f r act now due shift next d))

-- and the tick answers the time and the offset of the shift
pub done_gives : (g : Settings) (f : Face) (r : Reading) (act : Act) (now : ℤ) (due shift : Option Due)
    (next : Face) (told : Option ℤ) → told ≡ offset_of shift → Done g f r act now due shift next
    → Gives (record { settings = g; face = f }) r act (Ok (record { now = now; shift = told }))
    (record { settings = g; face = next })
done_gives g f r act now due shift next told e d = record {
  valid = d.computed.valid;
  in_range = in_range_then g f r act now due shift next d;
  told = d.computed.told;
  shift = e ∙ ap offset_of (d.limits.1 ∙ due_then g f r act now due d.computed);
  shows = ap (λ (f : Face). record { settings = g; face = f }) (next_then g f r act now due shift next d);
}

-- where no line ends, no shift is due
quiet_due : (act : Act) (due : Bool) (state : OffsetState) (x offset : ℤ) → is_base act due ≡ false → due_from act due state x offset ≡ None
quiet_due Plain due Volatile x offset not = rw not refl
quiet_due Plain due Preliminary x offset not = refl
quiet_due Plain due Final x offset not = refl
quiet_due Force due state x offset not = absurd (true≢false not)
quiet_due Finalize due state x offset not = absurd (true≢false not)

-- where no line ends, time alone runs on
pub quiet : (g : Settings) (f : Face) (r : Reading) (act : Act) (now : ℤ) (next : Face) → IsValid r → now ≡ time_after g f r
    → is_base act (due_at g f r) ≡ false → next ≡ runs_on f r now → Done g f r act now None None next
quiet g f r act now next valid told not is = record {
  computed = record {
    valid = valid;
    told = told;
    due_is = sym (quiet_due act (due_at g f r) f.state (r.sys -ℤ now) f.offset not);
  };
  limits = (tt, refl);
  next_is = rw not is;
}
