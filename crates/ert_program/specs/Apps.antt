-- The program's commands, as `clap` is told them.

use Rattle.std.specs.Prelude.{ℕ, Some, true, codes}
use Rattle.clap.specs.{Words.{App, Rule, Text, new_app, new_rule, with_rule, with_subcommand}, declared.builder.ValueParser.TheVariants.Unsigned}

-- an argument that is a number in a range
abbrev pub number : Text → ℕ → ℕ → Rule
number id low high = record (new_rule id) { parser = Some (Unsigned low high); required = true }

-- `live`, with the number of readings
abbrev pub live : App
live = with_rule (new_app (codes "live")) (number (codes "n") 1 1000)

-- `stress`, with the seed and the number of ops
abbrev pub stress : App
stress = with_rule (with_rule (new_app (codes "stress")) (number (codes "seed") 0 999999999)) (number (codes "n") 1 100000)

-- the program without commands yet: one is wanted, the first word isn't its own name, and there is no help
abbrev pub bare : App
bare =
    let made : App = new_app (codes "ertime") in
    record made {
      top = record made.top { no_binary_name = true; disable_help_flag = true; disable_help_subcommand = true; subcommand_required = true };
    }

-- the program with its four commands
abbrev pub app : App
app = with_subcommand (with_subcommand (with_subcommand (with_subcommand bare (new_app (codes "run")).top) (new_app (codes "race")).top) live.top) stress.top
