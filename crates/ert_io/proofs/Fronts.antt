-- The first part of a text.

use Rattle.std.proofs.Common.{◌≡◌, [], ℕ, List, ◌++◌, take, drop}
use Rattle.std.proofs.lemmas.List.{take-append-drop, append-nil}
use Rattle.std.specs.Prelude.{Result, Ok, Err, OnOk, IfErr}
use Rattle.ert_io.specs.{Writing.{WritesFront, written_of}, declared.writing.WriteErr.WriteErr}

-- a write that took the first bytes of a text wrote its first part
pub taken_front : (old new : List ℕ) (n : ℕ) (text : List ℕ) → new ≡ old ++ take n text → WritesFront old new text
taken_front old new n text taken =
    record { front = take n text; others = drop n text; taken = taken; whole = take-append-drop n text }

-- so did one that took all of them
whole_front : (old new text : List ℕ) → new ≡ old ++ text → WritesFront old new text
whole_front old new text taken = record { front = text; others = []; taken = taken; whole = append-nil text }

-- and one that took all or so many
pub written_front : (old new text : List ℕ) (done : Result (Unit {0}) WriteErr)
    → OnOk done (new ≡ old ++ text) → IfErr done (λ e. new ≡ old ++ take (written_of e) text) → WritesFront old new text
written_front old new text (Ok x) all part = whole_front old new text all
written_front old new text (Err e) all part = taken_front old new (written_of e) text part
