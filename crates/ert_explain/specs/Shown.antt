-- What a message shows of the input.

use Rattle.std.specs.Prelude.{ℕ, ◌+◌, ◌-◌, ◌/◌, ◌%◌, ◌==◌, ◌&&◌, nat_lt, nat_le, List, [], ◌∷◌, ◌++◌, length, min, take, codes, if◌then◌else◌}

-- a hexadecimal digit
abbrev pub nibble : ℕ → ℕ
nibble n = if nat_lt n 10 then 48 + n else 97 + (n - 10)

-- a byte: a printable one of ASCII as it is, and else two hexadecimal digits
abbrev pub escaped_byte : ℕ → List ℕ
escaped_byte b = if nat_le 32 b && nat_lt b 127 then b ∷ [] else 92 ∷ 120 ∷ nibble (b / 16) ∷ nibble (b % 16) ∷ []

-- bytes, escaped
abbrev pub escaped : List ℕ → List ℕ
escaped [] = []
escaped (b ∷ bs) = escaped_byte b ++ escaped bs

-- at most 60 bytes, and dots where there are more
abbrev pub shown_part : List ℕ → List ℕ
shown_part bytes = if nat_le (length bytes) 60 then escaped bytes else escaped (take (min 60 (length bytes)) bytes) ++ codes ".."

-- a value or a name of the input: what an array or an object is, and else its bytes
abbrev pub shown_value : List ℕ → List ℕ
shown_value [] = []
shown_value (b ∷ bs) = if b == 91 then codes "an array" else (if b == 123 then codes "an object" else shown_part (b ∷ bs))
