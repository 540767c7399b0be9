-- Calls of a world one after the other are a call.

use Rattle.std.proofs.Common.{◌≡◌, ℕ, List, [], ◌∷◌, ◌++◌, None, refl, sym, subst, ◌∙◌, append-nil}
use Rattle.ert_effects.proofs.Growing.{grows_then, grows_more}
use Rattle.ert_effects.specs.Ways.{Growth, Way, Grows, Then, Many}
use Rattle.ert_defs.specs.{Legal.Legal, Mails.first_of, declared.settings.Settings.Settings}
use Rattle.ert_world.proofs.Alone.{went}
use Rattle.ert_world.specs.{Stepping.{turns_same, turns_then}, Ways.beside_seats, Worlds.{Seen, Goes, way_of}}

pub none_first : {X : Type 0} (xs : List X) → first_of xs ≡ None → xs ≡ []
none_first [] none = refl
none_first (x ∷ xs) none = absurd cc

-- what is said of settings and seats is said of the same before another call
of_same : (a b c : Seen) (call : Settings → ℕ → Growth) → b.settings ≡ a.settings → b.next ≡ a.next
    → Grows (call b.settings b.next) b.history c.history → Grows (call a.settings a.next) b.history c.history
of_same a b c call settings next grows =
    subst (λ n. Grows (call a.settings n) b.history c.history) next (subst (λ g. Grows (call g b.next) b.history c.history) settings grows)

joined : (a b c : Seen) (first second call : Way → Growth) → Goes a first b → Goes b second c → Grows (call (way_of a)) a.history c.history → Goes a call c
joined a b c first second call one other grows =
    went a c call grows other.legal (other.table ∙ one.table) (other.settings ∙ one.settings) (other.clock ∙ one.clock) (other.next ∙ one.next)
    (turns_then a.turns b.turns c.turns one.turns other.turns)

-- calls that can be made in any way
pub goes_then : (a b c : Seen) (first : Way → Growth) (second : Settings → Way → Growth) → Goes a first b → Goes b (second b.settings) c
    → Goes a (λ way. Then (first way) (second a.settings way)) c
goes_then a b c first second one other =
    joined a b c first (second b.settings) (λ way. Then (first way) (second a.settings way)) one other
    (grows_then (first (way_of a)) (second a.settings (way_of a)) a.history b.history c.history one.grows
    (of_same a b c (λ g n. second g (beside_seats g n)) one.settings one.next other.grows))

pub goes_nothing : (a : Seen) (call : Way → Growth) → Legal a.settings a.history → call (way_of a) a.history [] → Goes a call a
goes_nothing a call legal none =
    went a a call (record { piece = []; grown = sym (append-nil a.history); made = none }) legal refl refl refl refl (turns_same a.turns)

pub goes_more : {A : Type 0} (a b c : Seen) (call : Settings → Way → A → Growth) (answers : List A) (answer : A)
    → Goes a (λ way. Many (call a.settings way) answers) b → Goes b (λ way. call b.settings way answer) c
    → Goes a (λ way. Many (call a.settings way) (answers ++ answer ∷ [])) c
goes_more a b c call answers answer one other =
    joined a b c (λ way. Many (call a.settings way) answers) (λ way. call b.settings way answer) (λ way. Many (call a.settings way) (answers ++ answer ∷ [])) one other
    (grows_more (call a.settings (way_of a)) answers answer a.history b.history c.history one.grows
    (of_same a b c (λ g n. call g (beside_seats g n) answer) one.settings one.next other.grows))
