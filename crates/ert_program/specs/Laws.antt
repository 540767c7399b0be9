-- Laws of what is done in a race. The functions of src/laws.rt carry them as contracts, so that they are proved.

use Rattle.std.specs.Prelude.{◌≡◌, ℕ, Bool, true, false, List, filter, length}
use Rattle.ert_defs.specs.{Actors.of, declared.entry.Actor.TheVariants.{Sched, Caller}, declared.entry.Entry.Entry, declared.entry.Event.Event, declared.entry.Event.TheVariants.Advanced, declared.settings.Settings.Settings}
use Rattle.ert_ops.specs.{declared.op.Op.Op, Labels.Labels}
use Rattle.ert_program.specs.{Made.{MakesTurns, MakesRound}, Outcomes.DoesList, Reports.Did}

-- of a stretch in which a caller does a list, all entries of the caller are in the pieces of the list's calls
abbrev pub LawOfPieces : Type 0
LawOfPieces = (g : Settings) (labels : Labels) (k : ℕ) (ops : List Op) (d : Did) (h stretch : List Entry)
    → (does : DoesList g labels k ops d h stretch) → of stretch (Caller k) ≡ of does.pieces (Caller k)

-- and those of a scheduler in the pieces of its turns
abbrev pub LawOfTurnPieces : Type 0
LawOfTurnPieces = (g : Settings) (w count : ℕ) (h stretch : List Entry) → (turns : MakesTurns g w count h stretch)
    → of stretch (Sched w) ≡ of turns.makes.pieces (Sched w)

-- each op of a list has one reply, and so one line
abbrev pub LawOfReplies : Type 0
LawOfReplies = (g : Settings) (labels : Labels) (k : ℕ) (ops : List Op) (d : Did) (h stretch : List Entry)
    → DoesList g labels k ops d h stretch → length d.replies ≡ length ops

-- whether an event records that a wheel was advanced
abbrev pub is_advance : Event → Bool
is_advance (Advanced wheel to) = true
is_advance _ = false

-- how often these entries record that a wheel was advanced
abbrev pub advances : List Entry → ℕ
advances es = length (filter (λ (e : Entry). is_advance e.event) es)

-- a scheduler advances its wheel once in each of its turns
abbrev pub LawOfAdvancesInTurns : Type 0
LawOfAdvancesInTurns = (g : Settings) (w count : ℕ) (h stretch : List Entry) → MakesTurns g w count h stretch → advances (of stretch (Sched w)) ≡ count

-- and each scheduler does once in the round of last turns
abbrev pub LawOfAdvancesInRound : Type 0
LawOfAdvancesInRound = (g : Settings) (count : ℕ) (h m : List Entry) → MakesRound g count h m → advances m ≡ count
