-- The command that matches of `clap` say.

use Rattle.std.specs.Prelude.{ℕ, ◌^◌, ◌&&◌, nat_lt, List, Option, Some, None, codes, if◌then◌else◌, option_and_then, option_map}
use Rattle.std.specs.Str.{bytes_eq, Parse.{digits_value, without_leading_plus}}
use Rattle.clap.specs.Words.{Row, Text, one_of}
use Rattle.ert_program.specs.{Commands.is_number, declared.command.Command.Command, declared.command.Command.TheVariants.{Run, Race, Live, Stress}}

-- the number that a text reads as, below 2^64
abbrev pub parsed : Text → Option ℕ
parsed text =
    let digits = without_leading_plus text in
    if is_number digits && nat_lt (digits_value 10 digits) (2 ^ 64) then Some (digits_value 10 digits) else None

-- the number of an argument
abbrev pub number_at : Text → List Row → Option ℕ
number_at id rows = option_and_then parsed (one_of id rows)

-- the command of a subcommand with these rows
abbrev pub command_named : Text → List Row → Option Command
command_named name rows =
    if bytes_eq (codes "run") name then Some Run
    else (if bytes_eq (codes "race") name then Some Race
    else (if bytes_eq (codes "live") name then option_map Live (number_at (codes "n") rows)
    else (if bytes_eq (codes "stress") name
    then option_and_then (λ seed. option_map (Stress seed) (number_at (codes "n") rows)) (number_at (codes "seed") rows)
    else None)))

-- the command of a subcommand, where there is one
abbrev pub command_in : Option (Text × List Row) → Option Command
command_in found = option_and_then (λ p. command_named p.0 p.1) found
