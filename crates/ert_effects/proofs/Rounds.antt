-- The looks of a round: how many there are, and what the first found.

use Rattle.std.proofs.Common.{◌≡◌, ◌⊎◌, ℕ, zero, suc, ◌+◌, true, List, [], ◌∷◌, ◌++◌, length, length-append, Option, inl, inr, sym, ap, subst, ◌∙◌, arith}
use Rattle.ert_effects.specs.TimerCalls.{AreTaken, Rests, Round, IsRoundTaken}
use Rattle.ert_effects.proofs.Told.{event_same}
use Rattle.ert_defs.specs.{Entries.probe_entry, States.State, Timers.is_taken, declared.entry.Actor.TheVariants.Caller, declared.entry.Entry.Entry, declared.entry.Event.TheVariants.Probe, declared.timer.Status.Status}

taken_many : (by w now : ℕ) (s : State) (slot n : ℕ) (es : List Entry) → AreTaken by w now s slot n es → length es ≡ n
taken_many by w now s slot zero es taken = ap length taken
taken_many by w now s slot (suc n) es taken =
    let later : length taken.1 ≡ n = taken_many by w now s (suc slot) n taken.1 taken.4 in
    ap length taken.2 ∙ ap suc later

-- as many as the round has slots
pub round_many : (by w now : ℕ) (s : State) {slots looks : ℕ} (round : Round slots looks) (es : List Entry) → IsRoundTaken by w now s round es
    → length es ≡ round.ahead + round.behind
round_many by w now s round es taken =
    omega (
      arith,
      ap length taken.entries ∙ length-append taken.first taken.second,
      taken_many by w now s round.from round.ahead taken.first taken.onward,
      taken_many by w now s 0 round.behind taken.second taken.around,
    )

-- a slot of which a look tells
pub same_look : (by w now : ℕ) (s : State) (k slot : ℕ) (x found : Option Status) → probe_entry (Caller by) w k x ≡ probe_entry (Caller by) w slot found
    → (is_taken x ≡ true) ⊎ Rests s now w k → (is_taken found ≡ true) ⊎ Rests s now w slot
same_look by w now s k slot x found same is =
    let event : Probe w k x ≡ Probe w slot found = event_same (probe_entry (Caller by) w k x) (probe_entry (Caller by) w slot found) same in
    let place : k ≡ slot = cc in
    let status : x ≡ found = cc in
    elim is [
      | inl taken ↦ inl (sym (ap is_taken status) ∙ taken)
      | inr rests ↦ inr (subst (Rests s now w) place rests)
    ]

first_taken : (by w now : ℕ) (s : State) (k n slot : ℕ) (found : Option Status) (es rest : List Entry) → AreTaken by w now s k n es
    → es ≡ probe_entry (Caller by) w slot found ∷ rest → (is_taken found ≡ true) ⊎ Rests s now w slot
first_taken by w now s k zero slot found es rest taken is = (let none : [] ≡ probe_entry (Caller by) w slot found ∷ rest = sym taken ∙ is in absurd cc)
first_taken by w now s k (suc n) slot found es rest taken is =
    let both : probe_entry (Caller by) w k taken.0 ∷ taken.1 ≡ probe_entry (Caller by) w slot found ∷ rest = sym taken.2 ∙ is in
    let heads : probe_entry (Caller by) w k taken.0 ≡ probe_entry (Caller by) w slot found = cc in
    same_look by w now s k slot taken.0 found heads taken.3

first_of_two : (by w now : ℕ) (s : State) (k n m slot : ℕ) (found : Option Status) (first second rest : List Entry) → AreTaken by w now s k n first
    → AreTaken by w now s 0 m second → first ++ second ≡ probe_entry (Caller by) w slot found ∷ rest → (is_taken found ≡ true) ⊎ Rests s now w slot
first_of_two by w now s k zero m slot found first second rest one other is =
    first_taken by w now s 0 m slot found second rest other (ap (λ (xs : List Entry). xs ++ second) (sym one) ∙ is)
first_of_two by w now s k (suc n) m slot found first second rest one other is =
    let both : probe_entry (Caller by) w k one.0 ∷ (one.1 ++ second) ≡ probe_entry (Caller by) w slot found ∷ rest =
    ap (λ (xs : List Entry). xs ++ second) (sym one.2) ∙ is in
    let heads : probe_entry (Caller by) w k one.0 ≡ probe_entry (Caller by) w slot found = cc in
    same_look by w now s k slot one.0 found heads one.3

-- the first slot that was looked at was taken, or rests
pub round_first : (by w now : ℕ) (s : State) {slots looks : ℕ} (round : Round slots looks) (slot : ℕ) (found : Option Status) (es rest : List Entry)
    → IsRoundTaken by w now s round es → es ≡ probe_entry (Caller by) w slot found ∷ rest → (is_taken found ≡ true) ⊎ Rests s now w slot
round_first by w now s round slot found es rest taken is =
    first_of_two by w now s round.from round.ahead round.behind slot found taken.first taken.second rest taken.onward taken.around
    (sym taken.entries ∙ is)
