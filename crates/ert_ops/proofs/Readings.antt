-- Finalizations, and the ops that read the clock: the service answers and does as the plain one.

use Rattle.std.proofs.Common.{◌≡◌, ℕ, ℤ, pos, negsuc, ◌+ℤ◌, ◌≤ℤ◌, Bool, true, false, cond, List, [], ◌∷◌, Option, Some, None, refl, sym, ap, ◌∙◌, subst, arith}
use Rattle.std.proofs.lemmas.{Int.ints, Bool.Decides.{Decides-and, Decides-like}}
use Rattle.std.specs.Prelude.{FitsSigned}
use Rattle.std.specs.{Int.w64, Bool.Decides}
use Rattle.ert_effects.specs.ClockCalls.{OffsetStays, FinalizesFrom, IsTooWide, TellsSystemTime}
use Rattle.ert_clock.specs.declared.clock.Moved.{Moved}
use Rattle.ert_defs.specs.{Clocks.Clock, Entries.{look_entry, off_entry, keeper_entry}, Legal.LegalFrom, Lines.end_time, States.State, declared.entry.Act.TheVariants.Finalize as Finalizing, declared.entry.Actor.TheVariants.{Keeper, Caller}}
use Rattle.ert_defs.specs.{declared.entry.Entry.Entry, declared.entry.Event.TheVariants.Off, declared.settings.Mode.Mode, declared.settings.OffsetState.OffsetState, declared.settings.OffsetState.TheVariants.{Preliminary, Final, Volatile}}
use Rattle.ert_defs.specs.{declared.settings.Reading.Reading, declared.settings.Settings.Settings}
use Rattle.ert_ops.proofs.{Clocks.{IsDone, done_as, Decides-int_le, decided_not, moves_done, refuses_done}, Meets.{Meets, meets_next}, Steps.{as_look, as_off}}
use Rattle.ert_ops.specs.{Calls.{Converts, TellsSettings}, Labels.{Labels, label_of}, Lines.line_of, Pieces.Piece, Plain.slot_of, PlainClock.{finalize_piece, time_piece, system_piece, info_piece, fits_64_bits, convert_piece}}
use Rattle.ert_ops.specs.{declared.reply.Reply.Reply, declared.reply.Reply.TheVariants.{Finalize, FinalizeWide, Time, System, Info, Convert, ConvertTooWide}, Conversions.converted}

-- a finalization of what isn't preliminary
stays_piece : (s : State) (old : OffsetState) (now offset : ℤ) (shift : Option ℤ) → now ≡ s.clock.now → offset ≡ s.clock.offset → old ≡ s.clock.state
    → shift ≡ None
    → (let x : Piece = record { entries = keeper_entry 0 (Off s.clock.offset s.clock.state) ∷ []; reply = Finalize old s.clock.now None } in x)
    ≡ record { entries = keeper_entry 0 (Off offset old) ∷ []; reply = Finalize old now shift }
stays_piece s old now offset shift time same state none =
    ap (λ (x : ℤ). record { entries = keeper_entry 0 (Off x s.clock.state) ∷ []; reply = Finalize old s.clock.now None }) (sym same)
    ∙ ap (λ (x : OffsetState). record { entries = keeper_entry 0 (Off offset x) ∷ []; reply = Finalize old s.clock.now None }) (sym state)
    ∙ ap (λ (x : ℤ). record { entries = keeper_entry 0 (Off offset old) ∷ []; reply = Finalize old x None }) (sym time)
    ∙ ap (λ (x : Option ℤ). record { entries = keeper_entry 0 (Off offset old) ∷ []; reply = Finalize old now x }) (sym none)

stays_done : (g : Settings) (n : ℕ) (ls : Labels) (s c : State) (r : Reading) (old : OffsetState) (m : Moved) (es : List Entry) → Meets g n ls s c
    → LegalFrom g s es → OffsetStays 0 r old m s es
    → IsDone g n ls s c (Finalize old m.now m.shift) es (record { entries = keeper_entry 0 (Off c.clock.offset c.clock.state) ∷ []; reply = Finalize old c.clock.now None })
stays_done g n ls s c r old m es h legal does =
    let lawful = subst (λ (x : List Entry). LegalFrom g s x) does.entries legal in
    let found = lawful.0.found in
    let clock = h.shows.clock in
    done_as g n ls s c (Finalize old m.now m.shift) es (keeper_entry 0 (Off does.offset old) ∷ []) _ _ does.entries
    (stays_piece c old m.now does.offset m.shift (does.time ∙ ap (λ (k : Clock). k.now) clock) (found.0 ∙ ap (λ (k : Clock). k.offset) clock)
    (found.1 ∙ ap (λ (k : Clock). k.state) clock) does.unmoved)
    (record { line = refl; meets = meets_next g n ls (as_off does.offset old) Keeper (Some (Caller 0)) s c h lawful.0 })

final_from : (g : Settings) (n : ℕ) (ls : Labels) (s c : State) (r : Reading) (old : OffsetState) (m : Moved) (es : List Entry) → Meets g n ls s c
    → LegalFrom g s es → FinalizesFrom old g 0 r m s es → IsDone g n ls s c (Finalize old m.now m.shift) es (finalize_piece g c r old)
final_from g n ls s c r Preliminary m es h legal does =
    moves_done g n ls s c r Finalizing (Finalize Preliminary) FinalizeWide m es h legal (λ now shift. refl) does
final_from g n ls s c r Final m es h legal does = stays_done g n ls s c r Final m es h legal does
final_from g n ls s c r Volatile m es h legal does = stays_done g n ls s c r Volatile m es h legal does

pub finalizes_done : (g : Settings) (n : ℕ) (ls : Labels) (s c : State) (r : Reading) (old : OffsetState) (m : Moved) (es : List Entry) → Meets g n ls s c
    → LegalFrom g s es → old ≡ s.clock.state → FinalizesFrom old g 0 r m s es
    → IsDone g n ls s c (Finalize old m.now m.shift) es (finalize_piece g c r c.clock.state)
finalizes_done g n ls s c r old m es h legal is does =
    subst (λ (x : OffsetState). IsDone g n ls s c (Finalize old m.now m.shift) es (finalize_piece g c r x))
    (is ∙ ap (λ (k : Clock). k.state) h.shows.clock) (final_from g n ls s c r old m es h legal does)

pub final_refused : (g : Settings) (n : ℕ) (ls : Labels) (s c : State) (r : Reading) (value : ℤ) (es : List Entry) → Meets g n ls s c
    → IsTooWide g r Finalizing value s es → IsDone g n ls s c (FinalizeWide value) es (finalize_piece g c r c.clock.state)
final_refused g n ls s c r value es h does =
    subst (λ (x : OffsetState). IsDone g n ls s c (FinalizeWide value) es (finalize_piece g c r x))
    (sym does.may ∙ ap (λ (k : Clock). k.state) h.shows.clock)
    (refuses_done g n ls s c r Finalizing (Finalize Preliminary) FinalizeWide value es h refl does)

-- the ops that read
pub time_done : (g : Settings) (n : ℕ) (ls : Labels) (s c : State) (now : ℤ) (es : List Entry) → Meets g n ls s c
    → LegalFrom g s es → es ≡ look_entry (Caller 0) now ∷ [] → IsDone g n ls s c (Time now) es (time_piece c)
time_done g n ls s c now es h legal is =
    let lawful = subst (λ (x : List Entry). LegalFrom g s x) is legal in
    let time : now ≡ c.clock.now = lawful.0.found ∙ ap (λ (k : Clock). k.now) h.shows.clock in
    done_as g n ls s c (Time now) es (look_entry (Caller 0) now ∷ []) (time_piece c) _ is
    (ap (λ (t : ℤ). record { entries = look_entry (Caller 0) t ∷ []; reply = Time t }) (sym time))
    (record { line = refl; meets = meets_next g n ls (as_look now) (Caller 0) None s c h lawful.0 })

pub offset_done : (g : Settings) (n : ℕ) (ls : Labels) (s c : State) (offset : ℤ) (state : OffsetState) (es : List Entry)
    (reply : ℤ → OffsetState → Reply) → Meets g n ls s c → LegalFrom g s es → es ≡ off_entry (Caller 0) offset state ∷ []
    → line_of (label_of ls) (reply offset state) ≡ line_of slot_of (reply offset state)
    → IsDone g n ls s c (reply offset state) es
    (record { entries = off_entry (Caller 0) c.clock.offset c.clock.state ∷ []; reply = reply c.clock.offset c.clock.state })
offset_done g n ls s c offset state es reply h legal is plain =
    let lawful = subst (λ (x : List Entry). LegalFrom g s x) is legal in
    let one : offset ≡ c.clock.offset = lawful.0.found.0 ∙ ap (λ (k : Clock). k.offset) h.shows.clock in
    let two : state ≡ c.clock.state = lawful.0.found.1 ∙ ap (λ (k : Clock). k.state) h.shows.clock in
    done_as g n ls s c (reply offset state) es (off_entry (Caller 0) offset state ∷ []) _ _ is
    (ap (λ (x : ℤ). record { entries = off_entry (Caller 0) x c.clock.state ∷ []; reply = reply x c.clock.state }) (sym one)
    ∙ ap (λ (x : OffsetState). record { entries = off_entry (Caller 0) offset x ∷ []; reply = reply offset x }) (sym two))
    (record { line = plain; meets = meets_next g n ls (as_off offset state) (Caller 0) None s c h lawful.0 })

pub system_done : (g : Settings) (n : ℕ) (ls : Labels) (s c : State) (time : ℤ) (es : List Entry) → Meets g n ls s c
    → LegalFrom g s es → TellsSystemTime g (Caller 0) time s es → IsDone g n ls s c (System time) es (system_piece c)
system_done g n ls s c time es h legal does =
    let lawful = subst (λ (x : List Entry). LegalFrom g s x) does.entries legal in
    let now : does.now ≡ c.clock.now = lawful.0.found ∙ ap (λ (k : Clock). k.now) h.shows.clock in
    let offset : does.offset ≡ c.clock.offset = lawful.1.0.found.0 ∙ ap (λ (k : Clock). k.offset) h.shows.clock in
    let state : does.offset_state ≡ c.clock.state = lawful.1.0.found.1 ∙ ap (λ (k : Clock). k.state) h.shows.clock in
    let look = meets_next g n ls (as_look does.now) (Caller 0) None s c h lawful.0 in
    done_as g n ls s c (System time) es (look_entry (Caller 0) does.now ∷ off_entry (Caller 0) does.offset does.offset_state ∷ []) (system_piece c) _ does.entries
    (ap (λ (t : ℤ). record { entries = look_entry (Caller 0) t ∷ off_entry (Caller 0) c.clock.offset c.clock.state ∷ []; reply = System (t +ℤ c.clock.offset) }) (sym now)
    ∙ ap (λ (x : ℤ). record { entries = look_entry (Caller 0) does.now ∷ off_entry (Caller 0) x c.clock.state ∷ []; reply = System (does.now +ℤ x) }) (sym offset)
    ∙ ap (λ (x : OffsetState). record { entries = look_entry (Caller 0) does.now ∷ off_entry (Caller 0) does.offset x ∷ []; reply = System (does.now +ℤ does.offset) }) (sym state)
    ∙ ap (λ (x : ℤ). record { entries = look_entry (Caller 0) does.now ∷ off_entry (Caller 0) does.offset does.offset_state ∷ []; reply = System x }) (sym does.sum))
    (record { line = refl; meets = meets_next g n ls (as_off does.offset does.offset_state) (Caller 0) None _ _ look lawful.1.0 })

pub info_done : (g : Settings) (n : ℕ) (ls : Labels) (s c : State) (start end : ℤ) (mode : Mode) (correction : Bool) (offset : ℤ) (state : OffsetState)
    (es : List Entry) → Meets g n ls s c → LegalFrom g s es → TellsSettings g start end mode correction → es ≡ off_entry (Caller 0) offset state ∷ []
    → IsDone g n ls s c (Info start end mode correction offset state) es (info_piece g c)
info_done g n ls s c start end mode correction offset state es h legal told is =
    let P : ℤ → ℤ → Mode → Bool → Type 0 = λ a b d e.
    IsDone g n ls s c (Info start end mode correction offset state) es
    (record { entries = off_entry (Caller 0) c.clock.offset c.clock.state ∷ []; reply = Info a b d e c.clock.offset c.clock.state }) in
    subst (λ (x : Bool). P g.start (end_time g) g.mode x) told.corrects
    (subst (λ (x : Mode). P g.start (end_time g) x correction) told.of_mode
    (subst (λ (x : ℤ). P g.start x mode correction) told.ends
    (subst (λ (x : ℤ). P x end mode correction) told.starts
    (offset_done g n ls s c offset state es (Info start end mode correction) h legal is refl))))

-- conversions

pub Decides-fits : (x : ℤ) → Decides (fits_64_bits x) (FitsSigned w64 x)
Decides-fits x =
    Decides-like (fits_64_bits x)
    (λ (p : (negsuc 9223372036854775807 ≤ℤ x) × (x ≤ℤ pos 9223372036854775807)). omega (arith, ints))
    (λ (h : FitsSigned w64 x). (omega (arith, ints), omega (arith, ints)))
    (Decides-and _ _ (Decides-int_le _ _) (Decides-int_le _ _))

pub converts_done : (g : Settings) (n : ℕ) (ls : Labels) (s c : State) (time : ℤ) (from to : ℕ) (reply : Reply) (es : List Entry) → Meets g n ls s c
    → Converts time from to reply es → IsDone g n ls s c reply es (convert_piece time from to)
converts_done g n ls s c time from to (Convert value) es h does =
    let x = converted time from to in
    let fits : fits_64_bits x ≡ true = (Decides-fits x).1 (subst (FitsSigned w64) does.0 does.1) in
    done_as g n ls s c (Convert value) es [] (convert_piece time from to) _ does.2
    (ap (λ (b : Bool). record { entries = []; reply = cond b (Convert x) ConvertTooWide }) fits
    ∙ ap (λ (y : ℤ). record { entries = []; reply = Convert y }) (sym does.0))
    (record { line = refl; meets = h })
converts_done g n ls s c time from to ConvertTooWide es h does =
    let x = converted time from to in
    let wide : fits_64_bits x ≡ false = decided_not (fits_64_bits x) (FitsSigned w64 x) (Decides-fits x) does.0 in
    done_as g n ls s c ConvertTooWide es [] (convert_piece time from to) _ does.1
    (ap (λ (b : Bool). record { entries = []; reply = cond b (Convert x) ConvertTooWide }) wide)
    (record { line = refl; meets = h })
converts_done g n ls s c time from to _ es h does = absurd does
