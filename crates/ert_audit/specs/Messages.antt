-- What the error output is told of a history that isn't legal.

use Rattle.std.specs.Prelude.{◌≡◌, ℕ, zero, suc, ◌+◌, ◌-◌, ◌/◌, ◌%◌, ◌==◌, Bool, ◌&&◌, not, nat_lt, nat_le, List, [], ◌∷◌, ◌++◌, length, take, drop, position, codes, Option, Some, None, if◌then◌else◌}
use Rattle.std.specs.{Fmt.decimal, List.flat_map}
use Rattle.ert_judge.specs.Texts.{◌⋅◌, reason_text}
use Rattle.ert_judge.specs.declared.reasons.Reason.{Reason}
use Rattle.ert_audit.specs.Findings.{IsIllegalBy}

-- the bytes after the first newline, where that stands at a place
abbrev pub after_at : List ℕ → Option ℕ → List ℕ
after_at bytes None = bytes
after_at bytes (Some place) = drop (place + 1) bytes

-- and those before it
abbrev pub before_at : List ℕ → Option ℕ → List ℕ
before_at bytes None = bytes
before_at bytes (Some place) = take place bytes

-- where the first newline stands
abbrev pub line_end : List ℕ → Option ℕ
line_end bytes = position (λ b. b == 10) bytes

-- the bytes after the first n lines
unfoldable pub lines_on : ℕ → List ℕ → List ℕ
lines_on zero text = text
lines_on (suc n) text = after_at (lines_on n text) (line_end (lines_on n text))

-- the line after the first n lines, without its newline
abbrev pub line_after : List ℕ → ℕ → List ℕ
line_after text n = before_at (lines_on n text) (line_end (lines_on n text))

-- the digit of a number below 16
abbrev pub hex_digit : ℕ → ℕ
hex_digit n = if nat_lt n 10 then 48 + n else 87 + n

-- whether a byte is shown as it is: a letter, a digit, a sign or a blank, and no backslash
abbrev pub is_shown_as_is : ℕ → Bool
is_shown_as_is b = nat_le 32 b && nat_lt b 127 && not (b == 92)

-- a byte as it is shown
unfoldable pub shown_byte : ℕ → List ℕ
shown_byte b = if is_shown_as_is b then b ∷ [] else 92 ∷ 120 ∷ hex_digit (b / 16) ∷ hex_digit (b % 16) ∷ []

-- what is shown of bytes: the first 60, and a mark where there are more
abbrev pub shortened : List ℕ → List ℕ
shortened bytes = flat_map shown_byte (take 60 bytes) ++ (if nat_lt 60 (length bytes) then codes ".." else [])

-- the front of a message: the line that it is about
abbrev pub line_front : ℕ → List ℕ
line_front line = codes "history:" ⋅ decimal line ⋅ codes ": "

-- the message on an entry that isn't legal, by its line and the reason
abbrev pub illegal_message : ℕ → List ℕ → Reason → List ℕ
illegal_message line bytes reason = line_front line ⋅ shortened bytes ⋅ codes ": " ⋅ reason_text reason ⋅ codes "\n"

-- the message on a text tells the first entry that isn't legal, its line and a reason that holds of it
pub record IsIllegalMessage (text message : List ℕ) : Type 0 where
  pub line : ℕ
  pub reason : Reason
  pub illegal : IsIllegalBy text line reason
  pub is : message ≡ illegal_message line (line_after text (line - 1)) reason
