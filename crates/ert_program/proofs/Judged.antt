-- `clap` refuses the plain words that are no command, and reads the others as they are defined.

use Rattle.std.proofs.Common.{◌≡◌, ℕ, ◌<◌, ◌^◌, List, [], ◌∷◌, Bool, true, false, ◌&&◌, ◌⊎◌, inl, inr, Option, Some, None, refl, sym, ap, ap₂, subst, ◌∙◌, cond, codes, lit<, map}
use Rattle.std.specs.Prelude.{option_map, option_and_then}
use Rattle.std.specs.{List.list_all, Str.bytes_eq, Str.Parse.digits_value}
use Rattle.std.proofs.lemmas.{Bool.and_parts, List.Folds.list_all-map, Slice.Eq.bytes_eq-Decides}
use Rattle.clap.specs.{Kinds.{HasKind, Kinds, or_else}, Simple.{App, Shape}, declared.error.Error.Error, Values.{kind_of, refused_kind}, ValueTests.is_unsigned_in, Walk.{Row, Text, nothing_held, rows_after, subcommand_met, idle}}
use Rattle.clap.specs.{Faults.{fault_of, level_fault}, Words.subcommand_of, declared.builder.value_parser.ValueParser.TheVariants.Unsigned, declared.error.kind.ErrorKind.ErrorKind}
use Rattle.clap.specs.declared.error.kind.ErrorKind.TheVariants as kind
use Rattle.ert_program.specs.{declared.command.Command.Command, declared.command.Command.TheVariants.{Run, Race, Live, Stress}, Apps.app, Commands.{without_words, command_of, form_of, is_number_in, is_plain_word, live_of, stress_of}}
use Rattle.ert_program.specs.{Matches.{command_in, command_named}}
use Rattle.ert_program.proofs.{Plain.IsWord, Words.{number_is, parsed_is, plain_is_word}, Levels.{run, race, live, stress, run_alone, race_alone, run_more, race_more, live_alone, live_taken, live_refused, live_more, live_read}}
use Rattle.ert_program.proofs.{Levels.{stress_alone, stress_one, stress_one_refused, stress_taken, stress_seed_refused, stress_n_refused, stress_more, stress_more_refused, stress_read}, Shapes.{IsNamed, names, no_words, below, below_rows}}
use Rattle.ert_program.proofs.{Shapes.{unknown, named_run, named_race, named_live, named_stress}}

-- the words are refused, and are no command
pub record Refused (words : List Text) (wanted : Option Command) : Type 0 where
  pub first : ErrorKind
  pub others : Kinds
  pub fault : fault_of app words ≡ first ∷ others
  pub none : wanted ≡ None

-- the words are taken, and are the command that the matches say
pub record Taken (words : List Text) (wanted : Option Command) : Type 0 where
  pub fault : fault_of app words ≡ []
  pub reads : command_in (subcommand_of app words) ≡ wanted

abbrev pub Judged : List Text → Option Command → Type 0
Judged words wanted = Refused words wanted ⊎ Taken words wanted

-- ---- below a subcommand

refused : (name : Text) (s : Shape) (rest : List Text) (k : ErrorKind) (wanted : Option Command) → IsNamed name s → level_fault s [] nothing_held rest false [] ≡ k ∷ []
    → wanted ≡ None → Judged (name ∷ rest) wanted
refused name s rest k wanted is fault none =
    inl (record { first = k; others = []; fault = below name s rest is ∙ ap (λ ks. or_else ks []) fault; none = none })

taken : (name : Text) (s : Shape) (rest : List Text) (wanted : Option Command) → IsNamed name s → level_fault s [] nothing_held rest false [] ≡ []
    → command_in (Some (s.name, rows_after s.rules [] rest)) ≡ wanted → Judged (name ∷ rest) wanted
taken name s rest wanted is fault reads =
    inr (record { fault = below name s rest is ∙ ap (λ ks. or_else ks []) fault; reads = ap command_in (below_rows name s rest is) ∙ reads })

abbrev ArePlain : List Text → Type 0
ArePlain words = list_all is_plain_word words ≡ true

head_plain : (word : Text) (words : List Text) → ArePlain (word ∷ words) → is_plain_word word ≡ true
head_plain word words h = (and_parts (is_plain_word word) (list_all is_plain_word words) h).0

tail_plain : (word : Text) (words : List Text) → ArePlain (word ∷ words) → ArePlain words
tail_plain word words h = (and_parts (is_plain_word word) (list_all is_plain_word words) h).1

head_word : (word : Text) (words : List Text) → ArePlain (word ∷ words) → IsWord word
head_word word words h = plain_is_word word (head_plain word words h)

run_judged : (rest : List Text) → ArePlain rest → Judged (codes "run" ∷ rest) (without_words Run rest)
run_judged [] h = taken (codes "run") run [] (Some Run) named_run run_alone refl
run_judged (word ∷ rest) h = refused (codes "run") run (word ∷ rest) kind.UnknownArgument None named_run (run_more word rest (head_word word rest h)) refl

race_judged : (rest : List Text) → ArePlain rest → Judged (codes "race" ∷ rest) (without_words Race rest)
race_judged [] h = taken (codes "race") race [] (Some Race) named_race race_alone refl
race_judged (word ∷ rest) h = refused (codes "race") race (word ∷ rest) kind.UnknownArgument None named_race (race_more word rest (head_word word rest h)) refl

n_high : 1000 < 2 ^ 64
n_high = lit< tt

seed_high : 999999999 < 2 ^ 64
seed_high = lit< tt

count_high : 100000 < 2 ^ 64
count_high = lit< tt

live_one : (n : Text) (fits : Bool) → is_plain_word n ≡ true → is_number_in 1 1000 n ≡ fits → Judged (codes "live" ∷ n ∷ []) (cond fits (Some (Live (digits_value 10 n))) None)
live_one n true plain fits =
    taken (codes "live") live (n ∷ []) (Some (Live (digits_value 10 n))) named_live (live_taken n (plain_is_word n plain) (number_is n 1 1000 n_high plain ∙ fits))
    (live_read n (plain_is_word n plain) ∙ ap (λ x. option_map Live x) (parsed_is n 1 1000 n_high plain fits))
live_one n false plain fits =
    refused (codes "live") live (n ∷ []) (refused_kind (Unsigned 1 1000)) None named_live (live_refused n (plain_is_word n plain) (number_is n 1 1000 n_high plain ∙ fits)) refl

live_judged : (rest : List Text) → ArePlain rest → Judged (codes "live" ∷ rest) (live_of rest)
live_judged [] h = refused (codes "live") live [] kind.MissingRequiredArgument None named_live live_alone refl
live_judged (n ∷ []) h = live_one n (is_number_in 1 1000 n) (head_plain n [] h) refl
live_judged (n ∷ other ∷ rest) h =
    refused (codes "live") live (n ∷ other ∷ rest) kind.UnknownArgument None named_live
    (live_more n other rest (head_word n (other ∷ rest) h) (head_word other rest (tail_plain n (other ∷ rest) h))) refl

stress_alone_judged : (seed : Text) (fits : Bool) → is_plain_word seed ≡ true → is_unsigned_in 0 999999999 seed ≡ fits → Judged (codes "stress" ∷ seed ∷ []) None
stress_alone_judged seed true plain fits =
    refused (codes "stress") stress (seed ∷ []) kind.MissingRequiredArgument None named_stress (stress_one seed (plain_is_word seed plain) fits) refl
stress_alone_judged seed false plain fits =
    refused (codes "stress") stress (seed ∷ []) (refused_kind (Unsigned 0 999999999)) None named_stress (stress_one_refused seed (plain_is_word seed plain) fits) refl

stress_two_judged : (seed n : Text) (seed_fits n_fits : Bool) → is_plain_word seed ≡ true → is_plain_word n ≡ true → is_number_in 0 999999999 seed ≡ seed_fits
    → is_number_in 1 100000 n ≡ n_fits
    → Judged (codes "stress" ∷ seed ∷ n ∷ []) (cond (seed_fits && n_fits) (Some (Stress (digits_value 10 seed) (digits_value 10 n))) None)
stress_two_judged seed n true true seed_plain n_plain seed_is n_is =
    taken (codes "stress") stress (seed ∷ n ∷ []) (Some (Stress (digits_value 10 seed) (digits_value 10 n))) named_stress
    (stress_taken seed n (plain_is_word seed seed_plain) (plain_is_word n n_plain) (number_is seed 0 999999999 seed_high seed_plain ∙ seed_is) (number_is n 1 100000 count_high n_plain ∙ n_is))
    (stress_read seed n (plain_is_word seed seed_plain) (plain_is_word n n_plain)
    ∙ ap₂ (λ (x y : Option ℕ). option_and_then (λ s. option_map (Stress s) y) x) (parsed_is seed 0 999999999 seed_high seed_plain seed_is) (parsed_is n 1 100000 count_high n_plain n_is))
stress_two_judged seed n true false seed_plain n_plain seed_is n_is =
    refused (codes "stress") stress (seed ∷ n ∷ []) (refused_kind (Unsigned 1 100000)) None named_stress
    (stress_n_refused seed n (plain_is_word seed seed_plain) (plain_is_word n n_plain) (number_is seed 0 999999999 seed_high seed_plain ∙ seed_is) (number_is n 1 100000 count_high n_plain ∙ n_is)) refl
stress_two_judged seed n false n_fits seed_plain n_plain seed_is n_is =
    refused (codes "stress") stress (seed ∷ n ∷ []) (refused_kind (Unsigned 0 999999999)) None named_stress
    (stress_seed_refused seed n (plain_is_word seed seed_plain) (plain_is_word n n_plain) (number_is seed 0 999999999 seed_high seed_plain ∙ seed_is)) refl

stress_many_judged : (seed n other : Text) (rest : List Text) (fits : Bool) → IsWord seed → IsWord n → IsWord other → is_unsigned_in 0 999999999 seed ≡ fits
    → Judged (codes "stress" ∷ seed ∷ n ∷ other ∷ rest) None
stress_many_judged seed n other rest true seed_is n_is other_is fits =
    refused (codes "stress") stress (seed ∷ n ∷ other ∷ rest) kind.UnknownArgument None named_stress (stress_more seed n other rest seed_is n_is other_is fits) refl
stress_many_judged seed n other rest false seed_is n_is other_is fits =
    refused (codes "stress") stress (seed ∷ n ∷ other ∷ rest) (refused_kind (Unsigned 0 999999999)) None named_stress
    (stress_more_refused seed n other rest seed_is n_is other_is fits) refl

stress_judged : (rest : List Text) → ArePlain rest → Judged (codes "stress" ∷ rest) (stress_of rest)
stress_judged [] h = refused (codes "stress") stress [] kind.MissingRequiredArgument None named_stress stress_alone refl
stress_judged (seed ∷ []) h = stress_alone_judged seed (is_unsigned_in 0 999999999 seed) (head_plain seed [] h) refl
stress_judged (seed ∷ n ∷ []) h =
    stress_two_judged seed n (is_number_in 0 999999999 seed) (is_number_in 1 100000 n) (head_plain seed (n ∷ []) h) (head_plain n [] (tail_plain seed (n ∷ []) h)) refl refl
stress_judged (seed ∷ n ∷ other ∷ rest) h =
    let after = tail_plain seed (n ∷ other ∷ rest) h in
    stress_many_judged seed n other rest (is_unsigned_in 0 999999999 seed) (head_word seed (n ∷ other ∷ rest) h) (head_word n (other ∷ rest) after)
    (head_word other rest (tail_plain n (other ∷ rest) after)) refl

-- ---- the first word

-- a word that is one of the names, or none of them
same : (name word : Text) → bytes_eq name word ≡ true → name ≡ word
same name word e = (bytes_eq-Decides name word).0 e

abbrev chosen : Bool → Bool → Bool → Bool → List Text → Option Command
chosen a b c d rest = cond a (without_words Run rest) (cond b (without_words Race rest) (cond c (live_of rest) (cond d (stress_of rest) None)))

first_judged : (word : Text) (rest : List Text) (a b c d : Bool) → is_plain_word word ≡ true → ArePlain rest → bytes_eq (codes "run") word ≡ a
    → bytes_eq (codes "race") word ≡ b → bytes_eq (codes "live") word ≡ c → bytes_eq (codes "stress") word ≡ d → Judged (word ∷ rest) (chosen a b c d rest)
first_judged word rest true b c d plain h a_is b_is c_is d_is = subst (λ w. Judged (w ∷ rest) (without_words Run rest)) (same (codes "run") word a_is) (run_judged rest h)
first_judged word rest false true c d plain h a_is b_is c_is d_is = subst (λ w. Judged (w ∷ rest) (without_words Race rest)) (same (codes "race") word b_is) (race_judged rest h)
first_judged word rest false false true d plain h a_is b_is c_is d_is = subst (λ w. Judged (w ∷ rest) (live_of rest)) (same (codes "live") word c_is) (live_judged rest h)
first_judged word rest false false false true plain h a_is b_is c_is d_is =
    subst (λ w. Judged (w ∷ rest) (stress_of rest)) (same (codes "stress") word d_is) (stress_judged rest h)
first_judged word rest false false false false plain h a_is b_is c_is d_is =
    let none : subcommand_met names idle word ≡ None = rw (a_is, b_is, c_is, d_is) in
    inl (record {
      first = kind.UnknownArgument;
      others = kind.InvalidSubcommand ∷ [];
      fault = unknown word rest (plain_is_word word plain) none;
      none = refl;
    })

pub judged : (words : List Text) → ArePlain words → Judged words (form_of words)
judged [] h = inl (record { first = kind.MissingSubcommand; others = []; fault = no_words; none = refl })
judged (word ∷ rest) h =
    first_judged word rest (bytes_eq (codes "run") word) (bytes_eq (codes "race") word) (bytes_eq (codes "live") word) (bytes_eq (codes "stress") word)
    (head_plain word rest h) (tail_plain word rest h) refl refl refl refl

-- ---- the answers

is_form : (words : List Text) → ArePlain words → command_of words ≡ form_of words
is_form words plain = ap (λ t. cond t (form_of words) None) plain

pub ok_read : (a : App) (words : List Text) (found : Option (Text × List Row)) (r : Option Command) → a ≡ app → ArePlain words → fault_of a words ≡ []
    → found ≡ subcommand_of a words → r ≡ command_in found → r ≡ command_of words
ok_read a words found r is plain faultless found_is r_is =
    elim (judged words plain) [
      | inl out ↦ let bad : out.first ∷ out.others ≡ [] = sym out.fault ∙ sym (ap (λ x. fault_of x words) is) ∙ faultless in absurd (cc)
      | inr fit ↦ r_is ∙ ap command_in (found_is ∙ ap (λ x. subcommand_of x words) is) ∙ fit.reads ∙ sym (is_form words plain)
    ]

pub err_read : (a : App) (words : List Text) (e : Error) → a ≡ app → ArePlain words → (kind_of e ≡ kind.OutOfMemory → ⊥) → HasKind (fault_of a words) e
    → None ≡ command_of words
err_read a words e is plain other has =
    elim (judged words plain) [
      | inl out ↦ sym (is_form words plain ∙ out.none)
      | inr fit ↦ absurd (impossible (subst (λ kinds. HasKind kinds e) (ap (λ x. fault_of x words) is ∙ fit.fault) has))
    ]
  where
    impossible : HasKind [] e → ⊥
    impossible (inl memory) = other memory
    impossible (inr among) = among

pub not_plain : {X : Type 0} (f : X → Text) (xs : List X) → list_all (λ x. is_plain_word (f x)) xs ≡ false → None ≡ command_of (map f xs)
not_plain f xs h = sym (ap (λ t. cond t (form_of (map f xs)) None) (list_all-map is_plain_word f xs ∙ h))

pub are_plain : {X : Type 0} (f : X → Text) (xs : List X) → list_all (λ x. is_plain_word (f x)) xs ≡ true → ArePlain (map f xs)
are_plain f xs h = list_all-map is_plain_word f xs ∙ h

-- ---- a name that is none of the four

unlike : (name word : Text) → (word ≡ name → ⊥) → bytes_eq name word ≡ false
unlike name word other = go (bytes_eq name word) refl
  where
    go : (t : Bool) → bytes_eq name word ≡ t → t ≡ false
    go false e = refl
    go true e = absurd (other (sym (same name word e)))

nameless : (name : Text) (rows : List Row) → (name ≡ codes "run" → ⊥) → (name ≡ codes "race" → ⊥) → (name ≡ codes "live" → ⊥) → (name ≡ codes "stress" → ⊥)
    → None ≡ command_named name rows
nameless name rows a b c d =
    let run_not = unlike (codes "run") name a in
    let race_not = unlike (codes "race") name b in
    let live_not = unlike (codes "live") name c in
    let stress_not = unlike (codes "stress") name d in
    rw (run_not, race_not, live_not, stress_not)

pub unnamed : {X : Type 0} (o : Option X) (name_of : X → Text) (rows : X → List Row) (name : Text) → Some name ≡ option_map name_of o
    → (name ≡ codes "run" → ⊥) → (name ≡ codes "race" → ⊥) → (name ≡ codes "live" → ⊥) → (name ≡ codes "stress" → ⊥)
    → None ≡ command_in (option_map (λ x. (name_of x, rows x)) o)
unnamed None name_of rows name is a b c d = absurd (cc)
unnamed (Some x) name_of rows name is a b c d =
    let same_name : name ≡ name_of x = cc in
    nameless (name_of x) (rows x) (λ e. a (same_name ∙ e)) (λ e. b (same_name ∙ e)) (λ e. c (same_name ∙ e)) (λ e. d (same_name ∙ e))
