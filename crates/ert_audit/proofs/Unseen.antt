-- Whether a reader reads, and whether a word is a name.

use Rattle.std.proofs.Common.{◌≡◌, ℕ, sym, ap, ◌∙◌, refl, Bool, true, false, cond, List, [], ◌∷◌, map, Option, Some, None}
use Rattle.std.specs.Prelude.{is_some, option_map, option_and_then}
use Rattle.std.specs.{Borrow.Bor, Str.bytes_eq}
use Rattle.ert_audit.specs.{Cuts.words_in, Events.event_rows, Faults.{meaning, turn_rows, mail_turn_rows}, Parts.Word, Readers.{value_and_rest, meant_by, read_text}, Reading.mail_rows, declared.spelling.wanted.Wanted.Wanted}

-- a reader reads where the function gave something
pub same_some : {A : Type 0} (r : Option A) (rest : Option (Bor (List ℕ))) (x : Option (A × List Word)) → value_and_rest r rest ≡ x → is_some r ≡ is_some x
same_some None rest x e = ap is_some e
same_some (Some a) rest x e = ap is_some e

-- whether a word is a name in a table, by the names alone
abbrev is_in : List Word → Word → Bool
is_in [] word = false
is_in (name ∷ names) word = cond (bytes_eq word name) true (is_in names word)

abbrev names_of : {A : Type 0} → List (Word × A) → List Word
names_of rows = map (λ row. row.0) rows

either : {A : Type 0} (b : Bool) (a : A) (o : Option A) (c : Bool) → is_some o ≡ c → is_some (cond b (Some a) o) ≡ cond b true c
either true a o c e = refl
either false a o c e = e

is_called : {A : Type 0} (rows : List (Word × A)) (word : Word) → is_some (meant_by word rows) ≡ is_in (names_of rows) word
is_called [] word = refl
is_called (row ∷ rows) word = either (bytes_eq word row.0) row.1 (meant_by word rows) (is_in (names_of rows) word) (is_called rows word)

meant_some : {A : Type 0} (o : Option A) (words : List Word) → is_some (option_map (λ (x : A × List Word). x.0) (option_map (λ a. (a, words)) o)) ≡ is_some o
meant_some None words = refl
meant_some (Some a) words = refl

-- two tables with one list of names
same_names : {A B : Type 0} (xs : List (Word × A)) (ys : List (Word × B)) → names_of xs ≡ names_of ys → (word : Word) → is_some (meant_by word xs) ≡ is_some (meant_by word ys)
same_names xs ys same word = is_called xs word ∙ ap (λ (names : List Word). is_in names word) same ∙ sym (is_called ys word)

by_text : {A B : Type 0} (xs : List (Word × A)) (ys : List (Word × B)) → names_of xs ≡ names_of ys
    → (text : Option (Word × List Word))
    → is_some (option_map (λ (x : A × List Word). x.0) (option_and_then (λ (x : Word × List Word). option_map (λ a. (a, x.1)) (meant_by x.0 xs)) text))
    ≡ is_some (option_map (λ (x : B × List Word). x.0) (option_and_then (λ (x : Word × List Word). option_map (λ a. (a, x.1)) (meant_by x.0 ys)) text))
by_text xs ys same None = refl
by_text xs ys same (Some x) =
    meant_some (meant_by x.0 xs) x.1 ∙ same_names xs ys same x.0 ∙ sym (meant_some (meant_by x.0 ys) x.1)

same_meaning : {A B : Type 0} (xs : List (Word × A)) (ys : List (Word × B)) → names_of xs ≡ names_of ys → (word : Word) → is_some (meaning xs word) ≡ is_some (meaning ys word)
same_meaning xs ys same word = by_text xs ys same (read_text (words_in word))

map_some : {A B : Type 0} (f : A → B) (o : Option A) (x : Option B) → option_map f o ≡ x → is_some o ≡ is_some x
map_some f None x e = ap is_some e
map_some f (Some a) x e = ap is_some e

-- a word that has turns is the name of an event, or of a message
pub is_event : (r : Option (Bor (List Wanted))) (word : Word) → option_map (λ x. x.now) r ≡ meaning turn_rows word → is_some r ≡ is_some (meaning event_rows word)
is_event r word e = map_some (λ x. x.now) r (meaning turn_rows word) e ∙ same_meaning turn_rows event_rows refl word

pub is_mail : (r : Option (Bor (List Wanted))) (word : Word) → option_map (λ x. x.now) r ≡ meaning mail_turn_rows word → is_some r ≡ is_some (meaning mail_rows word)
is_mail r word e = map_some (λ x. x.now) r (meaning mail_turn_rows word) e ∙ same_meaning mail_turn_rows mail_rows refl word
