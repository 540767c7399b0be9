-- The verdict on a text follows from what was read and what was judged.

use Rattle.std.proofs.Common.{◌≡◌, ◌+◌, ℕ, refl, ap, subst, List, length, Option, None}
use Rattle.std.specs.Prelude.{Result, Ok, Err}
use Rattle.ert_defs.specs.{Legal.Legal as IsLegalHistory, Settings.IsChecked, declared.entry.Entry.Entry, declared.memory.NoMemory.NoMemory, declared.settings.Settings.Settings}
use Rattle.ert_judge.specs.{Verdicts.StopsAtIllegal, declared.stops.Stop.Stop}
use Rattle.ert_audit.specs.{Findings.IsIllegalBy, Spelling.Spells, declared.spelling.history.History.History, declared.spelling.history.SpellingErr.SpellingErr, Verdicts.{IsHistory, IsLegalText}}

-- the answer of a judge
abbrev pub answer : Option Stop → Result (Option Stop) NoMemory
answer found = Ok found

-- what was read of a text
abbrev history : (text : List ℕ) (g : Settings) (h : List Entry) → Spells g h text × IsChecked g → IsHistory text
history text g h is = record { settings = g; entries = h; spelled = is.0; checked = is.1 }

-- nothing was found in it that isn't legal
pub legal_text : (text : List ℕ) (g : Settings) (h seen : List Entry) (found : Option Stop) (count : ℕ)
    → Spells g h text × IsChecked g → seen ≡ h
    → (answer found ≡ answer None → IsLegalHistory g seen) → found ≡ None → count ≡ length h → IsLegalText text count
legal_text text g h seen found count is same legal none all = record {
  history = history text g h is;
  legal = subst (λ (x : List Entry). IsLegalHistory g x) same (legal (ap answer none));
  all = all;
}

-- an entry was
pub illegal_text : (text : List ℕ) (g : Settings) (h seen : List Entry) (stop : Stop)
    → Spells g h text × IsChecked g → seen ≡ h → StopsAtIllegal g seen stop → IsIllegalBy text (stop.place + 2) stop.why
illegal_text text g h seen stop is same stops =
    let here : StopsAtIllegal g h stop = subst (λ (x : List Entry). StopsAtIllegal g x stop) same stops in
    record {
      history = history text g h is;
      place = stop.place;
      first = here.first;
      entry = here.entry;
      stands = here.stands;
      holds = here.holds;
      at = refl;
    }

-- no history was read
abbrev pub no_history : SpellingErr → Result History SpellingErr
no_history error = Err error
