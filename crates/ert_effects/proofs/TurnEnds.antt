-- What a turn leaves.

use Rattle.std.proofs.Common.{◌≡◌, ℕ, ◌≤◌, List, [], ◌++◌, sym, ap, ◌∙◌, append_assoc}
use Rattle.ert_effects.specs.{Chains.HasTurned, Laws.LawOfTurns, Ways.{Way, alone, beside}, declared.answers.Turned.Turned}
use Rattle.ert_defs.specs.{States.state, declared.entry.Entry.Entry, declared.settings.Settings.Settings}
use Rattle.ert_defs.proofs.Runs.{carry}

-- a history and two pieces, of which the second is two pieces
three : (h m before after rest last : List Entry) → m ≡ before ++ after → after ≡ rest ++ last
    → h ++ m ≡ ((h ++ before) ++ rest) ++ last
three h m before after rest last joined more =
    ap (λ l. h ++ l) (joined ∙ ap (λ l. before ++ l) more)
    ∙ (sym (append_assoc h before (rest ++ last)) ∙ sym (append_assoc (h ++ before) rest last))

ends_turn : (g : Settings) (way : Way) (w : ℕ) (t : Turned) (h m : List Entry) → HasTurned g way w t h m
    → (t.served ≤ 64) × (((state g (h ++ m)).scheds w).expired ≡ [])
ends_turn g way w t h m turn =
    let rest = turn.other in
    let place : h ++ m ≡ ((h ++ turn.before) ++ rest.before) ++ rest.after =
    three h m turn.before turn.after rest.before rest.after turn.joined rest.joined in
    (turn.one.0, carry (λ (l : List Entry). ((state g l).scheds w).expired ≡ []) place rest.other.done)

pub turns_end : LawOfTurns
turns_end g = (ends_turn g (alone g), λ a. ends_turn g (beside g a))
