-- The ops of the clock: the service answers and does as the plain one.

use Rattle.std.proofs.Common.{◌≡◌, ℕ, ℤ, ◌≤ℤ◌, ◌<ℤ◌, Bool, true, false, cond, int_lt, int_le, List, [], Option, Some, None, refl, sym, ap, ◌∙◌, subst, arith}
use Rattle.std.proofs.lemmas.{Int.ints, Bool.Decides.{Decides-and, Decides-like}}
use Rattle.std.specs.Bool.{Decides}
use Rattle.ert_effects.specs.ClockCalls.{MovesClock, IsTooWide}
use Rattle.ert_clock.specs.{Ticks.{tick_entries, shift_entries, offset_of, IsWide, state_by}, declared.clock.Moved.Moved}
use Rattle.ert_defs.specs.{Clocks.{Clock, face}, Legal.LegalFrom, Lines.{Due, IsOffset, IsInRange, time_after, due_after}, States.{State, run}, declared.entry.Act.Act, declared.entry.Actor.TheVariants.{Keeper, Caller}}
use Rattle.ert_defs.specs.{declared.entry.Entry.Entry, declared.settings.Reading.Reading, declared.settings.Settings.Settings}
use Rattle.ert_ops.proofs.{Meets.{Meets, meets_next}, Steps.{as_tick, as_shift}}
use Rattle.ert_ops.specs.{Labels.{Labels, label_of}, Lines.line_of, Pieces.Piece, Plain.slot_of, PlainClock.{is_within, clock_piece, clocked}, declared.reply.Reply.Reply}

-- what an op does is what the plain service does: it prints the same, and both meet again
pub record IsDone (g : Settings) (n : ℕ) (ls : Labels) (s c : State) (reply : Reply) (es : List Entry) (piece : Piece) : Type 0 where
  pub line : line_of (label_of ls) reply ≡ line_of slot_of piece.reply
  pub meets : Meets g n ls (run g s es) (run g c piece.entries)

-- where the entries and the piece are known
pub done_as : (g : Settings) (n : ℕ) (ls : Labels) (s c : State) (reply : Reply) (es fs : List Entry) (piece other : Piece) → es ≡ fs → piece ≡ other
    → IsDone g n ls s c reply fs other → IsDone g n ls s c reply es piece
done_as g n ls s c reply es fs piece other is same h =
    subst (λ (x : List Entry). IsDone g n ls s c reply x piece) (sym is)
    (subst (λ (p : Piece). IsDone g n ls s c reply fs p) (sym same) h)

-- the tests of numbers

pub Decides-int_le : (a b : ℤ) → Decides (int_le a b) (a ≤ℤ b)
Decides-int_le a b = grind (arith, ints)

pub Decides-int_lt : (a b : ℤ) → Decides (int_lt a b) (a <ℤ b)
Decides-int_lt a b = grind (arith, ints)

-- what isn't so fails its test
pub decided_not : (b : Bool) (P : Type 0) → Decides b P → (P → ⊥) → b ≡ false
decided_not true P d fails = absurd (fails (d.0 refl))
decided_not false P d fails = refl

pub Decides-within : (x : ℤ) → Decides (is_within x) (IsOffset x)
Decides-within x =
    Decides-like _ (λ p. record { low = p.0; high = p.1 }) (λ h. (h.low, h.high))
    (Decides-and _ _ (Decides-int_lt _ _) (Decides-int_lt _ _))

-- a clock that moves

moved_shift : (g : Settings) (n : ℕ) (ls : Labels) (act : Act) (shift : Option ℤ) (s c : State) → Meets g n ls s c
    → LegalFrom g s (shift_entries 0 act shift) → Meets g n ls (run g s (shift_entries 0 act shift)) (run g c (shift_entries 0 act shift))
moved_shift g n ls act None s c h legal = h
moved_shift g n ls act (Some x) s c h legal = meets_next g n ls (as_shift x (state_by act)) Keeper (Some (Caller 0)) s c h legal.0

moved_piece : (r : Reading) (act : Act) (moved : ℤ → Option ℤ → Reply) (wide : ℤ → Reply) (now : ℤ) (d : Option Due) → IsInRange d
    → clock_piece r act moved wide now d ≡ record { entries = tick_entries 0 r act now (offset_of d); reply = moved now (offset_of d) }
moved_piece r act moved wide now None fits = refl
moved_piece r act moved wide now (Some d) fits =
    ap (λ (b : Bool). cond b (record { entries = tick_entries 0 r act now (Some d.0); reply = moved now (Some d.0) }) (record { entries = []; reply = wide d.0 }))
    ((Decides-within d.0).1 fits)

pub moves_done : (g : Settings) (n : ℕ) (ls : Labels) (s c : State) (r : Reading) (act : Act) (moved : ℤ → Option ℤ → Reply) (wide : ℤ → Reply)
    (m : Moved) (es : List Entry) → Meets g n ls s c → LegalFrom g s es
    → ((now : ℤ) (shift : Option ℤ) → line_of (label_of ls) (moved now shift) ≡ line_of slot_of (moved now shift))
    → MovesClock g 0 r act m s es → IsDone g n ls s c (moved m.now m.shift) es (clocked g c r act moved wide)
moves_done g n ls s c r act moved wide m es h legal plain does =
    let lawful = subst (λ (x : List Entry). LegalFrom g s x) does.entries legal in
    let clock = h.shows.clock in
    let time : m.now ≡ time_after g (face g c.clock) r = lawful.0.known.1.told ∙ ap (λ (k : Clock). time_after g (face g k) r) clock in
    let due : due_after g (face g s.clock) r act m.now ≡ due_after g (face g c.clock) r act (time_after g (face g c.clock) r) =
    ap (λ (k : Clock). due_after g (face g k) r act m.now) clock ∙ ap (λ (t : ℤ). due_after g (face g c.clock) r act t) time in
    let fits = subst IsInRange due lawful.0.known.1.in_range in
    let shift : m.shift ≡ offset_of (due_after g (face g c.clock) r act (time_after g (face g c.clock) r)) = does.shift ∙ ap offset_of due in
    let piece : clocked g c r act moved wide ≡ record { entries = tick_entries 0 r act m.now m.shift; reply = moved m.now m.shift } =
    moved_piece r act moved wide (time_after g (face g c.clock) r) (due_after g (face g c.clock) r act (time_after g (face g c.clock) r)) fits
    ∙ ap (λ (x : Option ℤ). record { entries = tick_entries 0 r act (time_after g (face g c.clock) r) x; reply = moved (time_after g (face g c.clock) r) x }) (sym shift)
    ∙ ap (λ (t : ℤ). record { entries = tick_entries 0 r act t m.shift; reply = moved t m.shift }) (sym time) in
    let ticked = meets_next g n ls (as_tick r act m.now) Keeper (Some (Caller 0)) s c h lawful.0 in
    done_as g n ls s c (moved m.now m.shift) es (tick_entries 0 r act m.now m.shift) (clocked g c r act moved wide) _ does.entries piece
    (record { line = plain m.now m.shift; meets = moved_shift g n ls act m.shift _ _ ticked lawful.1 })

-- a clock that refuses

refused_piece : (r : Reading) (act : Act) (moved : ℤ → Option ℤ → Reply) (wide : ℤ → Reply) (now value : ℤ) (d : Option Due) → IsWide d value
    → clock_piece r act moved wide now d ≡ record { entries = []; reply = wide value }
refused_piece r act moved wide now value None is = absurd is
refused_piece r act moved wide now value (Some d) is =
    let out : is_within d.0 ≡ false = decided_not (is_within d.0) (IsOffset d.0) (Decides-within d.0) is.1 in
    ap (λ (b : Bool). cond b (record { entries = tick_entries 0 r act now (Some d.0); reply = moved now (Some d.0) }) (record { entries = []; reply = wide d.0 })) out
    ∙ ap (λ (x : ℤ). record { entries = []; reply = wide x }) (sym is.0)

pub refuses_done : (g : Settings) (n : ℕ) (ls : Labels) (s c : State) (r : Reading) (act : Act) (moved : ℤ → Option ℤ → Reply) (wide : ℤ → Reply)
    (value : ℤ) (es : List Entry) → Meets g n ls s c
    → line_of (label_of ls) (wide value) ≡ line_of slot_of (wide value)
    → IsTooWide g r act value s es → IsDone g n ls s c (wide value) es (clocked g c r act moved wide)
refuses_done g n ls s c r act moved wide value es h plain does =
    let P : Clock → Type 0 = λ k. IsWide (due_after g (face g k) r act (time_after g (face g k) r)) value in
    let wide_here = subst P h.shows.clock does.wide in
    done_as g n ls s c (wide value) es [] (clocked g c r act moved wide) _ does.none
    (refused_piece r act moved wide (time_after g (face g c.clock) r) value (due_after g (face g c.clock) r act (time_after g (face g c.clock) r)) wide_here)
    (record { line = plain; meets = h })
