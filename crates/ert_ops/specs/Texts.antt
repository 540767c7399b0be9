-- Words and parts of lines.

use Rattle.std.specs.Prelude.{ℕ, ℤ, Bool, true, false, List, ◌++◌, codes, Option, Some, None}
use Rattle.std.specs.Fmt.{signed_decimal}
use Rattle.ert_defs.specs.declared.settings.{Mode.Mode, Mode.TheVariants.{No, Single, Multi}, OffsetState.OffsetState, OffsetState.TheVariants.{Preliminary, Final, Volatile}}

-- one text, and then another
infixr 20 ◌⋅◌
abbrev pub ◌⋅◌ : List ℕ → List ℕ → List ℕ
xs ⋅ ys = xs ++ ys

-- the word for a state of the offset
unfoldable pub state_text : OffsetState → List ℕ
state_text Preliminary = codes "preliminary"
state_text Final = codes "final"
state_text Volatile = codes "volatile"

-- the word for a time warp mode
unfoldable pub mode_text : Mode → List ℕ
mode_text No = codes "no"
mode_text Single = codes "single"
mode_text Multi = codes "multi"

-- the word for whether something is so
unfoldable pub bool_text : Bool → List ℕ
bool_text true = codes "true"
bool_text false = codes "false"

-- the end of a line that tells a time, and the new offset where it moved
abbrev pub moved_text : ℤ → Option ℤ → List ℕ
moved_text now None = signed_decimal now ⋅ codes "\n"
moved_text now (Some offset) = signed_decimal now ⋅ codes " offset " ⋅ signed_decimal offset ⋅ codes "\n"

-- the first part of the line of the settings: the start time, the end time and the time warp mode
unfoldable pub info_front : ℤ → ℤ → Mode → List ℕ
info_front start end mode = codes "info start " ⋅ signed_decimal start ⋅ codes " end " ⋅ signed_decimal end ⋅ codes " mode " ⋅ mode_text mode

-- the middle part of that line: whether time correction is on
unfoldable pub info_middle : Bool → List ℕ
info_middle correction = codes " correction " ⋅ bool_text correction

-- the offset and its state, at the end of a line
abbrev pub offset_text : ℤ → OffsetState → List ℕ
offset_text offset state = signed_decimal offset ⋅ codes " " ⋅ state_text state ⋅ codes "\n"

-- the last part of the line of the settings: the offset and its state
unfoldable pub info_back : ℤ → OffsetState → List ℕ
info_back offset state = codes " offset " ⋅ signed_decimal offset ⋅ codes " state " ⋅ state_text state ⋅ codes "\n"

-- the last line of a transcript
abbrev pub end_line : ℤ → List ℕ
end_line now = codes "end " ⋅ signed_decimal now ⋅ codes "\n"
