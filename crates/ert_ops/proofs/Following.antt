-- Calls that follow one another: what is possible after one makes both possible.

use Rattle.std.proofs.Common.{◌≡◌, List, [], ◌++◌, None, refl, sym, ap, ◌∙◌, subst, append_assoc, append-nil}
use Rattle.ert_defs.proofs.Runs.{legal-append, state-append}
use Rattle.ert_defs.specs.{Legal.{LegalFrom, Legal}, States.{State, opening, state}, declared.entry.Actor.Actor, declared.entry.Entry.Entry, declared.settings.Settings.Settings}
use Rattle.ert_effects.specs.Ways.{Step, Growth, Then, alone}
use Rattle.ert_ops.specs.Existence.{IsPossible, CanFollow}

-- the history with the piece is legal
pub legal_with : (g : Settings) (h : List Entry) (call : Growth) → Legal g h → (x : CanFollow g h call) → Legal g (h ++ x.piece)
legal_with g h call legal x = legal-append g (opening g) h x.piece legal x.legal

-- a step that is possible in a state can follow the history
pub follow_step : (g : Settings) (h : List Entry) (parts : List Actor) (allows : Step) → IsPossible g (state g h) allows → CanFollow g h (alone g parts allows)
follow_step g h parts allows x = record {
  piece = x.entries;
  made = x.allowed;
  legal = x.legal;
  undue = λ idle. subst (λ (s : State). s.clock.due ≡ None) (sym (state-append g h x.entries)) (x.undue idle);
}

-- nothing can follow
pub follow_none : (g : Settings) (h : List Entry) (call : Growth) → call h [] → CanFollow g h call
follow_none g h call made = record {
  piece = [];
  made = made;
  legal = tt;
  undue = λ idle. subst (λ (l : List Entry). (state g l).clock.due ≡ None) (sym (append-nil h)) idle;
}

-- one call after another
pub follow_then : (g : Settings) (h : List Entry) (first second : Growth) → (x : CanFollow g h first) → CanFollow g (h ++ x.piece) second
    → CanFollow g h (Then first second)
follow_then g h first second x y = record {
  piece = x.piece ++ y.piece;
  made = record { before = x.piece; after = y.piece; joined = refl; one = x.made; other = y.made };
  legal = legal-append g (state g h) x.piece y.piece x.legal (subst (λ (s : State). LegalFrom g s y.piece) (state-append g h x.piece) y.legal);
  undue = λ idle. subst (λ (l : List Entry). (state g l).clock.due ≡ None) (append_assoc h x.piece y.piece) (y.undue (x.undue idle));
}

-- the same of what is told in another way
pub follow_as : (g : Settings) (h : List Entry) (call other : Growth) → ((m : List Entry) → call h m → other h m) → CanFollow g h call → CanFollow g h other
follow_as g h call other told x = record { piece = x.piece; made = told x.piece x.made; legal = x.legal; undue = x.undue }

-- calls in a row are one call after another, however they are taken together
pub then_before : (first second third : Growth) (h m : List Entry) → Then first (Then second third) h m → Then (Then first second) third h m
then_before first second third h m x = record {
  before = x.before ++ x.other.before;
  after = x.other.after;
  joined = x.joined ∙ (ap (λ (l : List Entry). x.before ++ l) x.other.joined ∙ sym (append_assoc x.before x.other.before x.other.after));
  one = record { before = x.before; after = x.other.before; joined = refl; one = x.one; other = x.other.one };
  other = subst (λ (l : List Entry). third l x.other.after) (append_assoc h x.before x.other.before) x.other.other;
}
