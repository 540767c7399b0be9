-- Words that are names: tables of values, tables of readers, and the word none.

use Rattle.std.proofs.Common.{◌≡◌, Bool, true, false, cond, List, [], ◌∷◌, ◌++◌, Option, Some, None, refl, sym, ap, ◌∙◌, subst, inl, inr, ◌⊎◌}
use Rattle.std.specs.Prelude.{◌&&◌, nat_lt, codes, option_map, option_and_then, IfSome}
use Rattle.std.specs.{List.AllByRecursion, Str.{IsAscii, is_utf8, bytes_eq}}
use Rattle.std.proofs.lemmas.{Bool.{and_parts, ltb-true}, Option.{same_Some, none-some}, Slice.Eq.bytes_eq-Decides, Str.{IsUtf8-from_ascii, is_utf8-from_IsUtf8}, Str.Ascii.{IsAscii-nil, IsAscii-cons}}
use Rattle.ert_audit.specs.{Parts.{Word, option_words}, Readers.{Reader, read_word, meant, read_text, meant_by, keyword, read_named, choice, none_at, absent_or, optional}}
use Rattle.ert_audit.proofs.Formats.{is_ink, Reads, Gives, IsFormat, and_then_some, map_some}

ink-ascii : (word : Word) → is_ink word ≡ true → IsAscii word
ink-ascii [] h = IsAscii-nil
ink-ascii (b ∷ bs) h =
    let p = and_parts (nat_lt 32 b && nat_lt b 128) (is_ink bs) h in
    let q = and_parts (nat_lt 32 b) (nat_lt b 128) p.0 in
    IsAscii-cons b bs (ltb-true b 128 q.1) (ink-ascii bs p.1)

-- a name is text
pub text-ink : (name : Word) (words : List Word) → is_ink name ≡ true → read_text (name ∷ words) ≡ Some (name, words)
unfolding read_text
text-ink name words h = rw (is_utf8-from_IsUtf8 name (IsUtf8-from_ascii name (ink-ascii name h))) refl

guarded : {A : Type 0} (b : Bool) (x y : A) → cond b (Some x) None ≡ Some y → x ≡ y
guarded true x y e = cc
guarded false x y e = absurd cc

-- what is read as text stands first
pub text-takes : (words : List Word) (name : Word) (rest : List Word) → read_text words ≡ Some (name, rest) → words ≡ name ∷ rest
unfolding read_text
text-takes [] name rest e = absurd cc
text-takes (word ∷ words) name rest e =
    ap (λ (x : Word × List Word). x.0 ∷ x.1) (guarded (is_utf8 word) (word, words) (name, rest) e)

-- which way a test went
pub chosen : {A : Type 0} (b : Bool) (x y z : A) → cond b x y ≡ z → ((b ≡ true) × (x ≡ z)) ⊎ ((b ≡ false) × (y ≡ z))
chosen true x y z e = inl (refl, e)
chosen false x y z e = inr (refl, e)

pub same_word : (a b : Word) → bytes_eq a b ≡ true → a ≡ b
same_word a b e = (bytes_eq-Decides a b).0 e

-- the names of a table, each of which is the word of its value
abbrev pub IsTable : {A : Type 0} → (A → Word) → List (Word × A) → Type 0
IsTable word_of rows = AllByRecursion (λ row. (row.0 ≡ word_of row.1) × (is_ink row.0 ≡ true)) rows

called-takes : {A : Type 0} (word_of : A → Word) (rows : List (Word × A)) (name : Word) (a : A)
    → IsTable word_of rows → meant_by name rows ≡ Some a → (name ≡ word_of a) × (is_ink name ≡ true)
called-takes word_of [] name a table e = absurd cc
called-takes {A} word_of (row ∷ rows) name a table e =
    elim (chosen (bytes_eq name row.0) (Some row.1) (meant_by name rows) (Some a) e) [
      | inl this ↦
          let same : name ≡ row.0 = same_word name row.0 this.0 in
          let value : row.1 ≡ a = same_Some row.1 a this.1 in
          (same ∙ table.0.0 ∙ ap word_of value, ap is_ink same ∙ table.0.1)
      | inr other ↦ called-takes word_of rows name a table.1 other.1
    ]

pub keyword-format : {A : Type 0} (word_of : A → Word) (rows : List (Word × A)) → IsTable word_of rows
    → ((a : A) → meant_by (word_of a) rows ≡ Some a) → IsFormat (λ a. word_of a ∷ []) (λ _. Unit {0}) (keyword rows)
keyword-format {A} word_of rows table all = record {
  gives = record {
    takes = λ words a rest e.
        let p = and_then_some (read_text words) (λ x. option_map (λ a. (a, x.1)) (meant_by x.0 rows)) (a, rest) e in
        let q = map_some (meant_by p.0.0 rows) (λ a. (a, p.0.1)) (a, rest) p.2 in
        let name = called-takes word_of rows p.0.0 q.0 table q.1 in
        let there : A × List Word → Type 0 = λ x. Reads (λ a. word_of a ∷ []) (λ _. Unit {0}) [] words x.0 x.1 in
        subst there q.2 (record {
          text = text-takes words p.0.0 p.0.1 p.1 ∙ ap (λ (w : Word). w ∷ p.0.1) name.0;
          fits = tt;
          ink = λ _. (ap is_ink (sym name.0) ∙ name.1, tt);
        });
  };
  again = λ a rest fits.
      let ink = (called-takes word_of rows (word_of a) a table (all a)).1 in
      ap (λ o. option_and_then (λ x. option_map (λ a. (a, x.1)) (meant_by x.0 rows)) o) (text-ink (word_of a) rest ink)
      ∙ ap (λ o. option_map (λ a. (a, rest)) o) (all a);
}

-- a name that isn't in the table
pub keyword-none : {A : Type 0} (rows : List (Word × A)) (name : Word) (words : List Word) → is_ink name ≡ true → meant_by name rows ≡ None → keyword rows (name ∷ words) ≡ None
keyword-none rows name words ink absent =
    ap (λ o. option_and_then (λ x. option_map (λ a. (a, x.1)) (meant_by x.0 rows)) o) (text-ink name words ink)
    ∙ ap (λ o. option_map (λ a. (a, words)) o) absent

-- the readers of a table: each reads what is written after its name
abbrev pub AreRows : {A : Type 0} → (A → List Word) → (A → Type 0) → List (Word × Reader A) → Type 0
AreRows write Fits rows = AllByRecursion (λ row. (is_ink row.0 ≡ true) × Gives (row.0 ∷ []) write Fits row.1) rows

named-takes : {A : Type 0} (write : A → List Word) (Fits : A → Type 0) (rows : List (Word × Reader A)) (name : Word) (words : List Word) (a : A) (rest : List Word)
    → AreRows write Fits rows → read_named name rows words ≡ Some (a, rest) → Reads write Fits (name ∷ []) words a rest × (is_ink name ≡ true)
named-takes write Fits [] name words a rest rows e = absurd cc
named-takes {A} write Fits (row ∷ rows) name words a rest are e =
    elim (chosen (bytes_eq name row.0) (row.1 words) (read_named name rows words) (Some (a, rest)) e) [
      | inl this ↦
          let same : row.0 ≡ name = sym (same_word name row.0 this.0) in
          let there : Word → Type 0 = λ w. Reads write Fits (w ∷ []) words a rest × (is_ink w ≡ true) in
          subst there same (are.0.1.takes words a rest this.1, are.0.0)
      | inr other ↦ named-takes write Fits rows name words a rest are.1 other.1
    ]

pub choice-gives : {A : Type 0} (write : A → List Word) (Fits : A → Type 0) (rows : List (Word × Reader A)) → AreRows write Fits rows → Gives [] write Fits (choice rows)
choice-gives {A} write Fits rows are = record {
  takes = λ words a rest e.
      let p = and_then_some (read_text words) (λ x. read_named x.0 rows x.1) (a, rest) e in
      let r = named-takes write Fits rows p.0.0 p.0.1 a rest are p.2 in
      record {
        text = text-takes words p.0.0 p.0.1 p.1 ∙ r.0.text;
        fits = r.0.fits;
        ink = λ _. r.0.ink (r.1, tt);
      };
}

pub choice-again : {A : Type 0} (rows : List (Word × Reader A)) (name : Word) (words : List Word) (out : Option (A × List Word))
    → is_ink name ≡ true → read_named name rows words ≡ out → choice rows (name ∷ words) ≡ out
choice-again rows name words out ink e =
    ap (λ o. option_and_then (λ x. read_named x.0 rows x.1) o) (text-ink name words ink) ∙ e

none-takes : (words rest : List Word) → none_at words ≡ Some rest → words ≡ codes "none" ∷ rest
unfolding none_at
none-takes [] rest e = absurd cc
none-takes (word ∷ words) rest e =
    elim (chosen (bytes_eq word (codes "none")) (Some words) None (Some rest) e) [
      | inl this ↦
          let value : words ≡ rest = same_Some words rest this.1 in
          let same : word ≡ codes "none" = same_word word (codes "none") this.0 in
          ap (λ (w : Word). w ∷ words) same ∙ ap (λ (ws : List Word). codes "none" ∷ ws) value
      | inr other ↦ absurd (none-some rest other.1)
    ]

-- a value doesn't begin with the word none
value_stands : {A : Type 0} {write : A → List Word} {Fits : A → Type 0} {read : Reader A} → IsFormat write Fits read
    → ((words : List Word) → read (codes "none" ∷ words) ≡ None) → (a : A) (rest : List Word) → Fits a
    → (o : Option (List Word)) → none_at (write a ++ rest) ≡ o → o ≡ None
value_stands {A} {write} {Fits} {read} format rejects a rest fits None e = refl
value_stands {A} {write} {Fits} {read} format rejects a rest fits (Some later) e =
    let same = none-takes (write a ++ rest) later e in
    absurd (none-some (a, rest) (sym (rejects later) ∙ ap read (sym same) ∙ format.again a rest fits))

absent-takes : {A : Type 0} {write : A → List Word} {Fits : A → Type 0} {read : Reader A} → IsFormat write Fits read
    → (words : List Word) (found : Option (List Word)) (o : Option A) (rest : List Word)
    → none_at words ≡ found → absent_or read words found ≡ Some (o, rest)
    → Reads (option_words write) (λ o. IfSome o Fits) [] words o rest
absent-takes {A} {write} {Fits} {read} format words (Some later) o rest there e =
    let at : Option A × List Word → Type 0 = λ x. Reads (option_words write) (λ o. IfSome o Fits) [] words x.0 x.1 in
    let same : ◌≡◌ {A = Option A × List Word} (None, later) (o, rest) = same_Some (None, later) (o, rest) e in
    subst at same (record { text = none-takes words later there; fits = tt; ink = λ _. (refl, tt) })
absent-takes {A} {write} {Fits} {read} format words None o rest there e =
    let at : Option A × List Word → Type 0 = λ x. Reads (option_words write) (λ o. IfSome o Fits) [] words x.0 x.1 in
    let p = map_some (read words) (λ x. (Some x.0, x.1)) (o, rest) e in
    let r = format.gives.takes words p.0.0 p.0.1 p.1 in
    subst at p.2 (record { text = r.text; fits = r.fits; ink = r.ink })

optional-again : {A : Type 0} {write : A → List Word} {Fits : A → Type 0} {read : Reader A} → IsFormat write Fits read
    → ((words : List Word) → read (codes "none" ∷ words) ≡ None)
    → (o : Option A) (rest : List Word) → IfSome o Fits → optional read (option_words write o ++ rest) ≡ Some (o, rest)
unfolding none_at
optional-again format rejects None rest fits = refl
optional-again {A} {write} {Fits} {read} format rejects (Some a) rest fits =
    ap (λ o. absent_or read (write a ++ rest) o) (value_stands format rejects a rest fits (none_at (write a ++ rest)) refl)
    ∙ ap (λ o. option_map (λ x. (Some x.0, x.1)) o) (format.again a rest fits)

pub optional-format : {A : Type 0} {write : A → List Word} {Fits : A → Type 0} {read : Reader A} → IsFormat write Fits read
    → ((words : List Word) → read (codes "none" ∷ words) ≡ None) → IsFormat (option_words write) (λ o. IfSome o Fits) (optional read)
optional-format format rejects = record {
  gives = record { takes = λ words o rest e. absent-takes format words _ o rest refl e };
  again = optional-again format rejects;
}

-- a word that means something
pub meant-format : {A : Type 0} (word_of : A → Word) (Fits : A → Type 0) (meaning : Word → Option A)
    → ((word : Word) (a : A) → meaning word ≡ Some a → (word ≡ word_of a) × Fits a)
    → ((a : A) → Fits a → meaning (word_of a) ≡ Some a)
    → ((a : A) → Fits a → is_ink (word_of a) ≡ true) → IsFormat (λ a. word_of a ∷ []) Fits (meant meaning)
unfolding read_word
meant-format {A} word_of Fits meaning takes again ink = record {
  gives = record { takes = meant-takes };
  again = meant-again;
}
  where
    meant-takes : (words : List Word) (a : A) (rest : List Word) → meant meaning words ≡ Some (a, rest) → Reads (λ a. word_of a ∷ []) Fits [] words a rest
    meant-takes [] a rest e = absurd cc
    meant-takes (word ∷ words) a rest e =
        let p = map_some (meaning word) (λ a. (a, words)) (a, rest) e in
        let t = takes word p.0 p.1 in
        let there : A × List Word → Type 0 = λ x. Reads (λ a. word_of a ∷ []) Fits [] (word ∷ words) x.0 x.1 in
        subst there p.2 (record { text = ap (λ (w : Word). w ∷ words) t.0; fits = t.1; ink = λ _. (ink p.0 t.1, tt) })

    meant-again : (a : A) (rest : List Word) → Fits a → meant meaning (word_of a ∷ rest) ≡ Some (a, rest)
    meant-again a rest fits = ap (λ o. option_map (λ a. (a, rest)) o) (again a fits)
