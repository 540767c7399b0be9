-- Worked scenarios: settings and ops, of which the rules tell what they print. The functions of src/worked.rt
-- have the texts in their contracts, so that they are proved.

use Rattle.std.specs.Prelude.{◌≡◌, ℕ, zero, suc, pos, false, true, List, [], ◌∷◌, ◌++◌}
use Rattle.ert_defs.specs.declared.{settings.Mode.Mode, settings.Mode.TheVariants.No, settings.Settings.Settings, settings.TheConstants.SCENARIO_LOOKS, timer.When.TheVariants.After}
use Rattle.ert_ops.specs.{declared.op.Op.Op, declared.op.Op.TheVariants.{Start, Cancel}, Counts.settled_line, Plain.plain_text, PlainCounts.plain_counts, Scripts.IsTranscript}

-- settings and ops
pub record Scenario : Type 0 where
  pub settings : Settings
  pub ops : List Op

-- a text is a transcript of it
abbrev pub IsPrinted : Scenario → List ℕ → Type 0
IsPrinted s text = IsTranscript s.settings s.ops text

-- no time correction, the start time and the first reading 0, one scheduler and one process
abbrev pub plain : Settings
plain = record {
  mode = No;
  correction = false;
  start = pos 0;
  schedulers = 1;
  processes = 1;
  slots = 1024;
  looks = SCENARIO_LOOKS;
  callers = 1;
  first = record { mono = pos 0; sys = pos 0 };
}

-- a timer is started and cancelled at once
abbrev pub one_cancel : Scenario
one_cancel = record { settings = plain; ops = Start 1 0 (After (pos 5)) 0 7 ∷ Cancel 1 ∷ [] }

-- what a scenario prints
abbrev pub Prints : Scenario → List ℕ → Type 0
Prints s text = plain_text s.settings s.ops ≡ text

-- the end of what it prints
abbrev pub EndsWith : Scenario → List ℕ → Type 0
EndsWith s text = (front : List ℕ) × (plain_text s.settings s.ops ≡ front ++ text)

-- how many timers it leaves of each status, as a line
abbrev pub Leaves : Scenario → List ℕ → Type 0
Leaves s text = settled_line (plain_counts s.settings s.ops) ≡ text

-- a text so many times
abbrev pub repeated : ℕ → List ℕ → List ℕ
repeated zero text = []
repeated (suc n) text = text ++ repeated n text

-- time correction is on
abbrev pub corrected : Settings
corrected = record plain { correction = true }

-- the first reading of OS system time is 10 seconds
abbrev pub later : Mode → Settings
later mode = record plain { mode = mode; first = record { mono = pos 0; sys = pos 10000000000 } }
