-- The scenario of a seed.

use Rattle.std.specs.Prelude.{ℕ, pos, false, None}
use Rattle.ert_defs.specs.declared.settings.{Mode.TheVariants.Multi, Settings.Settings, TheConstants.SCENARIO_LOOKS}
use Rattle.ert_scenario.specs.Scenarios.{Plan}
use Rattle.ert_program.specs.Steps.{next_ops, first}

-- what each generated scenario is opened with
abbrev pub generated_settings : Settings
generated_settings = record {
  mode = Multi;
  correction = false;
  start = pos 0;
  schedulers = 4;
  processes = 8;
  slots = 4096;
  looks = SCENARIO_LOOKS;
  callers = 1;
  first = record { mono = pos 0; sys = pos 0 };
}

-- the scenario of a seed with n ops, and no race
abbrev pub generated : ℕ → ℕ → Plan
generated seed n = record { settings = generated_settings; ops = next_ops n (first seed); race = None }
