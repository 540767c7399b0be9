-- What a reason says of an entry and the state before it.

use Rattle.std.specs.Prelude.{◌≡◌, Some}
use Rattle.ert_defs.specs.{States.State, declared.entry.Entry.Entry, declared.settings.Settings.Settings}
use Rattle.ert_judge.specs.{Breaks.Breaks, Ranges.{maker_of, partner_of, IsMadeBy, IsMadeWith, MayBeInRange, too_high}, declared.reasons.Reason.Reason, declared.reasons.Reason.TheVariants.{NotBy, NotWith, TooHigh}}

-- the entry isn't in range: its event is made by others, or with others, or one of its numbers is too high, in this order
abbrev pub BreaksRange : Settings → Entry → Reason → Type 0
BreaksRange g e (NotBy maker) = (maker ≡ maker_of e.event) × (IsMadeBy maker e.by → ⊥)
BreaksRange g e (NotWith partner) =
    IsMadeBy (maker_of e.event) e.by × (partner ≡ partner_of e.by e.event) × (IsMadeWith partner e.with → ⊥)
BreaksRange g e (TooHigh thing number count) =
    IsMadeBy (maker_of e.event) e.by × IsMadeWith (partner_of e.by e.event) e.with
    × (too_high g e ≡ Some (TooHigh thing number count))
BreaksRange g e _ = ⊥

-- a reason holds of an entry in a state, and none before it in the order in which they are looked for: the entry isn't
-- in range; else it breaks the named condition of its event
pub data IsFirstReason (g : Settings) (s : State) (e : Entry) (r : Reason) : Type 0 where
  out_of_range : BreaksRange g e r → IsFirstReason g s e r
  breaks : MayBeInRange g e → Breaks g s e.by e.with e.event r → IsFirstReason g s e r
