-- What the entries of a start that searched are.

use Rattle.std.proofs.Common.{ℕ, List, inr, Err}
use Rattle.ert_defs.specs.{Milliseconds.{natural, down}, States.State, declared.entry.Entry.Entry, declared.settings.Settings.Settings, declared.timer.Start.Start}
use Rattle.ert_effects.proofs.Told.{round_probes}
use Rattle.ert_effects.specs.{TimerCalls.Starts, declared.answers.StartErr.TheVariants.NoMemory}
use Rattle.ert_timers.specs.{Parts.Part, Searching.Searches}

-- they are those that a start without memory may make
pub searches_probe : (g : Settings) (by : ℕ) (p q : Part) (start : Start) (s : State) (es : List Entry) → Searches g by p q s es
    → Starts g by p.number start (Err NoMemory) s es
searches_probe g by p q start s es searches = inr (record {
  now = searches.now;
  probes = searches.probes;
  are_probes = round_probes by p.number (natural (down g searches.now)) s searches.round searches.probes searches.taken;
  entries = searches.entries;
})
