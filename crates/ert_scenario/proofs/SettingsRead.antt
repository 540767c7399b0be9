-- The settings that the fields of a value give, field by field.

use Rattle.std.proofs.Common.{◌≡◌, ◌+◌, ◌≤◌, ℕ, ℤ, suc, Bool, true, Ok, codes, sym, subst, ap, ◌∙◌, arith, refl}
use Rattle.serde_json.specs.Data.{Data}
use Rattle.ert_defs.specs.declared.settings.{Mode.Mode, Reading.Reading, Settings.Settings}
use Rattle.ert_scenario.specs.{Acceptance.HasSettings, Fields.{is_field, only_named, field, one_or_two, start_time, time_warp_mode, time_correction, count, start_and_first, modes, clock_fields_of, sizes_of, head_of, settings_with}}
use Rattle.ert_scenario.specs.{Fields.settings_from, Ranges.is_checked, Scenarios.with_callers, declared.fields.ClockFields.ClockFields, declared.fields.Head.Head, declared.fields.Sizes.Sizes}
use Rattle.ert_scenario.specs.Kinds.{FoundOrFault, ◌>>=◌, read_both, if_in_range, listed_reading}
use Rattle.ert_scenario.proofs.{Checked.Decides-checked, Founds.{follows, in_range_parts, both_ok}, Valid.with_more}

-- ---- two readings that succeed together

pub both_are : {A B : Type 0} (a : FoundOrFault A) (b : FoundOrFault B) (x : A) (y : B) → a ≡ Ok x → b ≡ Ok y → read_both a b ≡ Ok (x, y)
unfolding read_both
both_are {A} {B} a b x y first second =
    ap (λ (r : FoundOrFault A). read_both r b) first ∙ ap (λ (r : FoundOrFault B). read_both (Ok x) r) second

pub nothing_else : (r : FoundOrFault (Unit {0})) (u : Unit {0}) → r ≡ Ok u → r ≡ Ok tt
nothing_else r tt h = h

-- ---- what the fields give

abbrev clock_by : ℤ → Reading → Mode → Bool → ClockFields
clock_by start first mode correction = record { start = start; first = first; mode = mode; correction = correction }

abbrev sizes_by : ℕ → ℕ → ℕ → Sizes
sizes_by schedulers processes slots = record { schedulers = schedulers; processes = processes; slots = slots }

abbrev head_by : ClockFields → Sizes → Head
head_by clock sizes = record { clock = clock; sizes = sizes }

record IsClock (d : Data) (c : ClockFields) : Type 0 where
  start : field (codes "start") start_time d ≡ Ok c.start
  first : field (codes "first") listed_reading d ≡ Ok c.first
  mode : field (codes "mode") time_warp_mode d ≡ Ok c.mode
  correction : field (codes "correction") time_correction d ≡ Ok c.correction

is_clock : (d : Data) (c : ClockFields) → clock_fields_of d ≡ Ok c → IsClock d c
unfolding clock_fields_of start_and_first modes
is_clock d c h =
    let f = follows (read_both (start_and_first d) (modes d)) _ c h in
    let both = both_ok (start_and_first d) (modes d) f.read f.was in
    let one = both_ok (field (codes "start") start_time d) (field (codes "first") listed_reading d) f.read.0 both.first in
    let two = both_ok (field (codes "mode") time_warp_mode d) (field (codes "correction") time_correction d) f.read.1 both.second in
    let made : Ok (clock_by f.read.0.0 f.read.0.1 f.read.1.0 f.read.1.1) ≡ Ok c = f.then in
    let same : clock_by f.read.0.0 f.read.0.1 f.read.1.0 f.read.1.1 ≡ c = cc in
    subst (IsClock d) same (record { start = one.first; first = one.second; mode = two.first; correction = two.second })

record AreSizes (d : Data) (s : Sizes) : Type 0 where
  schedulers : field (codes "schedulers") (count 1) d ≡ Ok s.schedulers
  processes : field (codes "processes") (count 1) d ≡ Ok s.processes
  slots : field (codes "slots") (count 1024) d ≡ Ok s.slots

are_sizes : (d : Data) (s : Sizes) → sizes_of d ≡ Ok s → AreSizes d s
unfolding sizes_of
are_sizes d s h =
    let others = read_both (field (codes "processes") (count 1) d) (field (codes "slots") (count 1024) d) in
    let f = follows (read_both (field (codes "schedulers") (count 1) d) others) _ s h in
    let both = both_ok (field (codes "schedulers") (count 1) d) others f.read f.was in
    let two = both_ok (field (codes "processes") (count 1) d) (field (codes "slots") (count 1024) d) f.read.1 both.second in
    let made : Ok (sizes_by f.read.0 f.read.1.0 f.read.1.1) ≡ Ok s = f.then in
    let same : sizes_by f.read.0 f.read.1.0 f.read.1.1 ≡ s = cc in
    subst (AreSizes d) same (record { schedulers = both.first; processes = two.first; slots = two.second })

record IsHead (race : Bool) (d : Data) (h : Head) : Type 0 where
  named : only_named (is_field race) d ≡ Ok tt
  format : field (codes "format") one_or_two d ≡ Ok tt
  clock : clock_fields_of d ≡ Ok h.clock
  sizes : sizes_of d ≡ Ok h.sizes

is_head : (race : Bool) (d : Data) (head : Head) → head_of race d ≡ Ok head → IsHead race d head
is_head race d head h =
    let names = read_both (only_named (is_field race) d) (field (codes "format") one_or_two d) in
    let parts = read_both (clock_fields_of d) (sizes_of d) in
    let f = follows (read_both names parts) _ head h in
    let both = both_ok names parts f.read f.was in
    let one = both_ok (only_named (is_field race) d) (field (codes "format") one_or_two d) f.read.0 both.first in
    let two = both_ok (clock_fields_of d) (sizes_of d) f.read.1 both.second in
    let made : Ok (head_by f.read.1.0 f.read.1.1) ≡ Ok head = f.then in
    let same : head_by f.read.1.0 f.read.1.1 ≡ head = cc in
    subst (IsHead race d) same
    (record {
      named = nothing_else _ f.read.0.0 one.first;
      format = nothing_else _ f.read.0.1 one.second;
      clock = two.first;
      sizes = two.second;
    })

pub has_settings : (race : Bool) (d : Data) (g : Settings) → settings_from race d ≡ Ok g → HasSettings race d 1 g
unfolding settings_from
has_settings race d g h =
    let f = follows (head_of race d) _ g h in
    let fits = in_range_parts (is_checked (settings_with f.read)) (settings_with f.read) g f.then in
    let head = is_head race d f.read f.was in
    let clock = is_clock d f.read.clock head.clock in
    let sizes = are_sizes d f.read.sizes head.sizes in
    subst (HasSettings race d 1) fits.1
    (record {
      named = head.named;
      format = head.format;
      start = clock.start;
      first = clock.first;
      mode = clock.mode;
      correction = clock.correction;
      schedulers = sizes.schedulers;
      processes = sizes.processes;
      slots = sizes.slots;
      looks = refl;
      for_callers = refl;
      in_range = fits.0;
    })

-- ---- such fields are read as the settings

clock_is : (d : Data) (c : ClockFields) → IsClock d c → clock_fields_of d ≡ Ok c
unfolding clock_fields_of start_and_first modes
clock_is d c h =
    ap (λ (r : FoundOrFault ((ℤ × Reading) × (Mode × Bool))). r >>= (λ p. Ok (clock_by p.0.0 p.0.1 p.1.0 p.1.1)))
    (both_are _ _ (c.start, c.first) (c.mode, c.correction) (both_are _ _ c.start c.first h.start h.first) (both_are _ _ c.mode c.correction h.mode h.correction))

sizes_are : (d : Data) (s : Sizes) → AreSizes d s → sizes_of d ≡ Ok s
unfolding sizes_of
sizes_are d s h =
    ap (λ (r : FoundOrFault (ℕ × (ℕ × ℕ))). r >>= (λ p. Ok (sizes_by p.0 p.1.0 p.1.1)))
    (both_are _ _ s.schedulers (s.processes, s.slots) h.schedulers (both_are _ _ s.processes s.slots h.processes h.slots))

head_is : (race : Bool) (d : Data) (head : Head) → IsHead race d head → head_of race d ≡ Ok head
head_is race d head h =
    ap (λ (r : FoundOrFault ((Unit {0} × Unit {0}) × (ClockFields × Sizes))). r >>= (λ p. Ok (head_by p.1.0 p.1.1)))
    (both_are _ _ (tt, tt) (head.clock, head.sizes) (both_are _ _ tt tt h.named h.format) (both_are _ _ head.clock head.sizes h.clock h.sizes))

fits_as : (g k : Settings) → g ≡ k → is_checked k ≡ true → if_in_range (is_checked g) g ≡ Ok k
unfolding if_in_range
fits_as g k same fits =
    ap (λ (x : Settings). if_in_range (is_checked x) x) same ∙ ap (λ (b : Bool). if_in_range b k) fits

pub settings_are : (race : Bool) (d : Data) (g : Settings) → HasSettings race d 1 g → settings_from race d ≡ Ok g
unfolding settings_from
settings_are race d g h =
    let clock = clock_by g.start g.first g.mode g.correction in
    let sizes = sizes_by g.schedulers g.processes g.slots in
    let head = head_by clock sizes in
    let read : head_of race d ≡ Ok head =
    head_is race d head
    (record {
      named = h.named;
      format = h.format;
      clock = clock_is d clock (record { start = h.start; first = h.first; mode = h.mode; correction = h.correction });
      sizes = sizes_are d sizes (record { schedulers = h.schedulers; processes = h.processes; slots = h.slots });
    }) in
    let same : settings_with head ≡ g =
    ap (λ (n : ℕ). record (record g { looks = n }) { callers = 1 }) (sym h.looks) ∙ ap (λ (n : ℕ). with_callers n g) (sym h.for_callers) in
    ap (λ (r : FoundOrFault Head). r >>= (λ head. if_in_range (is_checked (settings_with head)) (settings_with head))) read
    ∙ fits_as (settings_with head) g same h.in_range

-- ---- for another number of callers

checked_for : (g : Settings) (n : ℕ) → n ≤ 16 → is_checked g ≡ true → is_checked (with_callers (1 + n) g) ≡ true
checked_for g n few h =
    let c = (Decides-checked g).0 h in
    (Decides-checked (with_callers (1 + n) g)).1 (
      with_more g n few c.0,
      record {
        schedulers_low = c.1.schedulers_low;
        schedulers_high = c.1.schedulers_high;
        processes_low = c.1.processes_low;
        processes_high = c.1.processes_high;
        slots_low = c.1.slots_low;
        slots_high = c.1.slots_high;
        slots_in_all = c.1.slots_in_all;
        looks_low = c.1.looks_low;
        callers_low = omega arith;
        callers_high = omega arith;
      },
    )

-- the fields give the same settings for another number of callers
pub for_callers : (race : Bool) (d : Data) (n k : ℕ) (g : Settings) → k ≤ 16 → HasSettings race d n g → HasSettings race d (suc k) (with_callers (1 + k) g)
for_callers race d n k g few h = let count : (1 + k) ≡ suc k = omega arith in record {
  named = h.named;
  format = h.format;
  start = h.start;
  first = h.first;
  mode = h.mode;
  correction = h.correction;
  schedulers = h.schedulers;
  processes = h.processes;
  slots = h.slots;
  looks = h.looks;
  for_callers = count;
  in_range = checked_for g k few h.in_range;
}

-- as many callers as a scenario may have
pub few_callers : (g : Settings) (n : ℕ) → is_checked g ≡ true → g.callers ≡ suc n → n ≤ 16
few_callers g n h is = let few = ((Decides-checked g).0 h).1.callers_high in omega arith
