-- What is read is what was written: how the two fit for a part, and for parts that are joined.

use Rattle.std.proofs.Common.{◌≡◌, ℕ, Bool, true, List, [], ◌∷◌, ◌++◌, Option, Some, None, refl, sym, ap, ◌∙◌, subst, append_assoc}
use Rattle.std.specs.Prelude.{◌&&◌, nat_lt, option_map, option_and_then}
use Rattle.std.specs.List.{AllByRecursion, list_all}
use Rattle.std.proofs.lemmas.List.{append-nil}
use Rattle.ert_audit.specs.Parts.{Word}
use Rattle.ert_audit.specs.Readers.{Reader, done, ◌>>=◌, all_read, whole}

-- each byte is a character of ASCII other than the blanks
abbrev pub is_ink : List ℕ → Bool
is_ink word = list_all (λ b. nat_lt 32 b && nat_lt b 128) word

abbrev pub AreInk : List Word → Type 0
AreInk words = AllByRecursion (λ word. is_ink word ≡ true) words

AreInk-append : (xs ys : List Word) → AreInk xs → AreInk ys → AreInk (xs ++ ys)
AreInk-append [] ys h k = k
AreInk-append (x ∷ xs) ys h k = (h.0, AreInk-append xs ys h.1 k)

-- what was read, after the words of the head
pub record Reads {A : Type 0} (write : A → List Word) (Fits : A → Type 0) (head words : List Word) (a : A) (rest : List Word) : Type 0 where
  pub text : head ++ words ≡ write a ++ rest
  pub fits : Fits a
  pub ink : AreInk head → AreInk (write a)

-- what a reader reads after the head is written with it
pub record Gives {A : Type 0} (head : List Word) (write : A → List Word) (Fits : A → Type 0) (read : Reader A) : Type 0 where
  pub takes : (words : List Word) (a : A) (rest : List Word) → read words ≡ Some (a, rest) → Reads write Fits head words a rest

-- what is written is read
pub record IsFormat {A : Type 0} (write : A → List Word) (Fits : A → Type 0) (read : Reader A) : Type 0 where
  pub gives : Gives [] write Fits read
  pub again : (a : A) (rest : List Word) → Fits a → read (write a ++ rest) ≡ Some (a, rest)

pub and_then_some : {A B : Type 0} (o : Option A) (f : A → Option B) (y : B) → option_and_then f o ≡ Some y → (x : A) × (o ≡ Some x) × (f x ≡ Some y)
and_then_some (Some x) f y e = (x, refl, e)
and_then_some None f y e = absurd cc

pub map_some : {A B : Type 0} (o : Option A) (f : A → B) (y : B) → option_map f o ≡ Some y → (x : A) × (o ≡ Some x) × (f x ≡ y)
map_some (Some x) f y e = (x, refl, cc)
map_some None f y e = absurd cc

pub written_ink : {A : Type 0} {write : A → List Word} {Fits : A → Type 0} {read : Reader A} → IsFormat write Fits read → (a : A) → Fits a → AreInk (write a)
written_ink {write = write} format a fits = (format.gives.takes (write a ++ []) a [] (format.again a [] fits)).ink tt

-- a value that takes no word
pub done-gives : {A : Type 0} {write : A → List Word} {Fits : A → Type 0} (head : List Word) (a : A) → head ≡ write a → Fits a → Gives head write Fits (done a)
done-gives {A} {write} {Fits} head a same fits = record {
  takes = λ words b rest e.
      let there : A × List Word → Type 0 = λ x. Reads write Fits head words x.0 x.1 in
      let p : (a, words) ≡ (b, rest) = cc in
      subst there p (record { text = ap (λ (h : List Word). h ++ words) same; fits = fits; ink = λ ink. subst AreInk same ink });
}

-- one part, and then the next
pub then-gives : {A B : Type 0} {first : A → List Word} {FitsFirst : A → Type 0} {read : Reader A} {write : B → List Word} {Fits : B → Type 0}
    → IsFormat first FitsFirst read → (head : List Word) (next : A → Reader B)
    → ((a : A) → FitsFirst a → Gives (head ++ first a) write Fits (next a)) → Gives head write Fits (read >>= next)
then-gives {A} {B} {first} {FitsFirst} {read} {write} {Fits} format head next later = record {
  takes = λ words b rest e.
      let p = and_then_some (read words) (λ x. next x.0 x.1) (b, rest) e in
      let a = p.0.0 in
      let front = format.gives.takes words a p.0.1 p.1 in
      let back = (later a front.fits).takes p.0.1 b rest p.2 in
      record {
        text = ap (λ (w : List Word). head ++ w) front.text ∙ sym (append_assoc head (first a) p.0.1) ∙ back.text;
        fits = back.fits;
        ink = λ ink. back.ink (AreInk-append head (first a) ink (front.ink tt));
      };
}

pub then-again : {A B : Type 0} {first : A → List Word} {FitsFirst : A → Type 0} {read : Reader A}
    → IsFormat first FitsFirst read → (next : A → Reader B) (a : A) (rest : List Word) (out : Option (B × List Word))
    → FitsFirst a → next a rest ≡ out → (read >>= next) (first a ++ rest) ≡ out
then-again {first = first} format next a rest out fits e =
    ap (λ o. option_and_then (λ x. next x.0 x.1) o) (format.again a rest fits) ∙ e

pub then-none : {A B : Type 0} (read : Reader A) (next : A → Reader B) (words : List Word) → read words ≡ None → (read >>= next) words ≡ None
then-none read next words e = ap (λ o. option_and_then (λ x. next x.0 x.1) o) e

-- a value that is all of the words
pub whole-again : {A : Type 0} {write : A → List Word} {Fits : A → Type 0} {read : Reader A} → IsFormat write Fits read → (a : A) → Fits a → whole read (write a) ≡ Some a
whole-again {write = write} {read = read} format a fits =
    ap (option_and_then all_read) (ap read (sym (append-nil (write a))) ∙ format.again a [] fits)

all_read_some : {A : Type 0} (x : A × List Word) (a : A) → all_read x ≡ Some a → (x.0 ≡ a) × (x.1 ≡ [])
all_read_some (b, []) a e = (cc, refl)
all_read_some (b, word ∷ words) a e = absurd cc

pub whole-takes : {A : Type 0} {write : A → List Word} {Fits : A → Type 0} {read : Reader A} → IsFormat write Fits read
    → (words : List Word) (a : A) → whole read words ≡ Some a → (words ≡ write a) × Fits a
whole-takes {A} {write} {Fits} {read} format words a e =
    let p = and_then_some (read words) all_read a e in
    let all = all_read_some p.0 a p.2 in
    let r = format.gives.takes words p.0.0 p.0.1 p.1 in
    let text : words ≡ write p.0.0 = r.text ∙ ap (λ (w : List Word). write p.0.0 ++ w) all.1 ∙ append-nil (write p.0.0) in
    let there : A → Type 0 = λ x. (words ≡ write x) × Fits x in
    subst there all.0 (text, r.fits)
