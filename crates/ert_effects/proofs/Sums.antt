-- The sum of a number of each event, over pieces that come about by a way.

use Rattle.std.proofs.Common.{◌≡◌, ℕ, ◌+◌, List, [], ◌∷◌, ◌++◌, filter, refl, ap, ◌∙◌}
use Rattle.std.proofs.lemmas.List.{Elements.filter-append, Sums.{sum_by-append, sum_by-cons}}
use Rattle.ert_effects.proofs.Growing.{whole_own}
use Rattle.ert_effects.specs.{Ways.{Step, Growth, Way, Then, alone, beside}, Told.sum_of}
use Rattle.ert_defs.specs.{Entries.is_ours, States.{State, state}, declared.entry.Actor.Actor, declared.entry.Entry.Entry, declared.entry.Event.Event, declared.settings.Settings.Settings}

pub sum-cons : (f : Event → ℕ) (e : Entry) (es : List Entry) → sum_of f (e ∷ es) ≡ f e.event + sum_of f es
sum-cons f e es = sum_by-cons (λ (x : Entry). f x.event) e es

pub sum-append : (f : Event → ℕ) (es fs : List Entry) → sum_of f (es ++ fs) ≡ sum_of f es + sum_of f fs
sum-append f es fs = sum_by-append (λ (x : Entry). f x.event) es fs

-- a sum over what a call made in a way has in a piece
pub record IsSum (f : Event → ℕ) (way : Way) (count : List Entry → ℕ) : Type 1 where
  pub none : count [] ≡ 0
  pub both : (a b : List Entry) → count (a ++ b) ≡ count a + count b
  pub step : (parts : List Actor) (allows : Step) (h m : List Entry) → way parts allows h m
      → (s : State) × (es : List Entry) × allows s es × (count m ≡ sum_of f es)

pub alone_sum : (f : Event → ℕ) (g : Settings) → IsSum f (alone g) (sum_of f)
alone_sum f g = record { none = refl; both = sum-append f; step = λ parts allows h m made. (state g h, m, made, refl) }

pub beside_sum : (f : Event → ℕ) (g : Settings) (a : Actor) → IsSum f (beside g a) (λ m. sum_of f (filter (is_ours (a ∷ [])) m))
beside_sum f g a = record {
  none = refl;
  both = λ x y. ap (λ (l : List Entry). sum_of f l) (filter-append (is_ours (a ∷ [])) x y)
      ∙ sum-append f (filter (is_ours (a ∷ [])) x) (filter (is_ours (a ∷ [])) y);
  step = λ parts allows h m made.
      (state g (h ++ made.before), made.entries, made.allowed, ap (λ (l : List Entry). sum_of f l) (whole_own g a parts allows h m made));
}

pub step_sum : (f : Event → ℕ) (way : Way) (count : List Entry → ℕ) → IsSum f way count → (parts : List Actor) (allows : Step) (h m : List Entry) (n : ℕ)
    → ((s : State) (es : List Entry) → allows s es → sum_of f es ≡ n) → way parts allows h m → count m ≡ n
step_sum f way count is parts allows h m n all made = let told = is.step parts allows h m made in told.3 ∙ all told.0 told.1 told.2

pub then_sum : (f : Event → ℕ) (way : Way) (count : List Entry → ℕ) → IsSum f way count → (first second : Growth) (h m : List Entry) (a b : ℕ)
    → ((h m : List Entry) → first h m → count m ≡ a) → ((h m : List Entry) → second h m → count m ≡ b) → Then first second h m → count m ≡ a + b
then_sum f way count is first second h m a b one other made =
    ap (λ (l : List Entry). count l) made.joined ∙ (is.both made.before made.after
    ∙ (ap (λ n. n + count made.after) (one h made.before made.one) ∙ ap (λ n. a + n) (other (h ++ made.before) made.after made.other)))

-- no entry
pub none_sum : (f : Event → ℕ) (way : Way) (count : List Entry → ℕ) → IsSum f way count → (m : List Entry) → m ≡ [] → count m ≡ 0
none_sum f way count is m none = ap (λ (l : List Entry). count l) none ∙ is.none
