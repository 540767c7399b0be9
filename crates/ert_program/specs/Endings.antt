-- How the program ends.

use Rattle.std.specs.Prelude.{◌≡◌, ℕ, ◌⊎◌, Bool, true, false, List, Option, Some, None, IfSome, Result, Ok, Err, map, string_bytes, String}
use Rattle.std.specs.declared.alloc.Global.{Global}
use Rattle.ert_program.specs.{Commands.command_of, declared.command.Command.Command, declared.command.Command.TheVariants.{Run, Race, Live}, Refusals.usage_line, Streams.Output, declared.ending.EndStatus.EndStatus}
use Rattle.ert_program.specs.{declared.ending.Ended.Ended, declared.ending.EndStatus.TheVariants.{Done, Usage, Refused, ReadFault, WriteFault, ClockFault, NoMemory, TooLong}, Written.Returned}
use Rattle.ert_io.specs.{Faults.Rose, Told.{took, TakesFront}}
use Rattle.ert_script.specs.declared.output.RunErr.{RunErr, TheVariants.{WriteFault as OutputFailed, NoMemory as OutOfMemory}}
use Rattle.ert_scenario.specs.Scenarios.{HasRefusal}

-- the number of a status
abbrev pub code_of : EndStatus → ℕ
code_of Done = 0
code_of Usage = 2
code_of Refused = 3
code_of ReadFault = 4
code_of WriteFault = 5
code_of ClockFault = 6
code_of NoMemory = 7
code_of TooLong = 8

-- an end without a desk
abbrev pub without_desk : EndStatus → Ended
without_desk status = record { status = status; desk = None; refusal = None }

-- the end of a run: its desk is there where it is done
abbrev pub end_of : Result Returned RunErr → Ended
end_of (Ok returned) = record { status = Done; desk = Some returned; refusal = None }
end_of (Err OutputFailed) = without_desk WriteFault
end_of (Err OutOfMemory) = without_desk NoMemory

-- the command that the words of a command line are
abbrev pub command_asked : List (String Global) → Option Command
command_asked words = command_of (map string_bytes words)

-- whether a command reads the input
abbrev pub reads_input : Option Command → Bool
reads_input (Some Run) = true
reads_input (Some Race) = true
reads_input _ = false

-- whether a command takes readings of the clock
abbrev pub reads_clock : Option Command → Bool
reads_clock (Some (Live n)) = true
reads_clock _ = false

-- the refusal that is returned, where one is, is that of its bytes
abbrev pub HasItsRefusal : Ended → Type 0
HasItsRefusal e = IfSome e.refusal (λ r. HasRefusal r.race r.bytes.items r.why)

-- the usage line was written, or a first part of it
pub record UsageEnds (o p : Output) (e : Ended) : Type 0 where
  pub usage : e.status ≡ Usage → p.told ≡ took o.told usage_line
  pub write_fault : e.status ≡ WriteFault → Rose o.faults p.faults × TakesFront o.told p.told usage_line
  pub no_memory : e.status ≡ NoMemory → p ≡ o
  pub only : (e.status ≡ Usage) ⊎ (e.status ≡ WriteFault) ⊎ (e.status ≡ NoMemory)
  pub no_desk : e.desk ≡ None
