-- What a scheduler has after a step, and what its advance answers.

use Rattle.std.specs.Prelude.{ℕ, List, Option, None, Result, Ok, Err}
use Rattle.ert_effects.specs.declared.answers.Handed.{Handed}
use Rattle.ert_defs.specs.{Mails.others_of, Timers.Row, declared.mail.Request.Request, declared.memory.NoMemory.NoMemory}

-- nothing in the hand once the request in it was answered, and the same request where there was no memory
abbrev pub hand_left : Result (Option ℕ) NoMemory → Option Request → Option Request
hand_left (Ok left) hand = None
hand_left (Err e) hand = hand

-- the expired timers but the first once that was handed over, and all where there was no memory
abbrev pub rows_left : Result Handed NoMemory → List Row → List Row
rows_left (Ok how) rows = others_of rows
rows_left (Err e) rows = rows

-- the time of an advance, with the number of timers that expired
abbrev pub counted : Result ℕ NoMemory → ℕ → Result (ℕ × ℕ) NoMemory
counted (Ok to) n = Ok (to, n)
counted (Err e) n = Err e
