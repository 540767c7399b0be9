-- The numbers of a command are within their limits.

use Rattle.std.proofs.Common.{◌≡◌, ℕ, ◌≤◌, List, [], ◌∷◌, Bool, true, false, ◌&&◌, nat_le, Option, Some, None, refl, arith, sym, ap, subst, codes, ◌∙◌}
use Rattle.std.specs.Prelude.{IfSome, if◌then◌else◌}
use Rattle.std.specs.{List.list_all, Str.bytes_eq, Str.Parse.digits_value}
use Rattle.std.proofs.lemmas.Grind.{common_steps}
use Rattle.ert_program.specs.{Commands.{is_plain_word, is_number, is_number_in, without_words, live_of, stress_of, form_of, command_of}, declared.command.Command.Command, declared.command.Command.TheVariants.{Run, Race, Live, Stress}}

-- the numbers of a command are within their limits
abbrev pub IsInLimits : Command → Type 0
IsInLimits Run = Unit {0}
IsInLimits Race = Unit {0}
IsInLimits (Live n) = (1 ≤ n) × (n ≤ 1000)
IsInLimits (Stress seed n) = n ≤ 100000

chosen : (b : Bool) (c d : Option Command) → (b ≡ true → IfSome c IsInLimits) → IfSome d IsInLimits → IfSome (if b then c else d) IsInLimits
chosen true c d f g = f refl
chosen false c d f g = g

both : (a b : Bool) → a && b ≡ true → (a ≡ true) × (b ≡ true)
both true b e = (refl, e)
both false b e = (e, cc)

low_of : (low high : ℕ) (word : List ℕ) → is_number_in low high word ≡ true → low ≤ digits_value 10 word
low_of low high word e =
    let v : ℕ = digits_value 10 word in
    let p = both (is_number word) (nat_le low v && nat_le v high) e in
    let q : nat_le low v ≡ true = (both (nat_le low v) (nat_le v high) p.1).0 in
    grind (arith, common_steps)

high_of : (low high : ℕ) (word : List ℕ) → is_number_in low high word ≡ true → digits_value 10 word ≤ high
high_of low high word e =
    let v : ℕ = digits_value 10 word in
    let p = both (is_number word) (nat_le low v && nat_le v high) e in
    let q : nat_le v high ≡ true = (both (nat_le low v) (nat_le v high) p.1).1 in
    grind (arith, common_steps)

of_live : (words : List (List ℕ)) → IfSome (live_of words) IsInLimits
of_live [] = tt
of_live (n ∷ []) = chosen (is_number_in 1 1000 n) (Some (Live (digits_value 10 n))) None (λ e. (low_of 1 1000 n e, high_of 1 1000 n e)) tt
of_live (n ∷ word ∷ words) = tt

of_stress : (words : List (List ℕ)) → IfSome (stress_of words) IsInLimits
of_stress [] = tt
of_stress (seed ∷ []) = tt
of_stress (seed ∷ n ∷ []) =
    chosen (is_number_in 0 999999999 seed && is_number_in 1 100000 n) (Some (Stress (digits_value 10 seed) (digits_value 10 n))) None
    (λ e. high_of 1 100000 n (both (is_number_in 0 999999999 seed) (is_number_in 1 100000 n) e).1) tt
of_stress (seed ∷ n ∷ word ∷ words) = tt

of_run : (words : List (List ℕ)) → IfSome (without_words Run words) IsInLimits
of_run [] = tt
of_run (word ∷ words) = tt

of_race : (words : List (List ℕ)) → IfSome (without_words Race words) IsInLimits
of_race [] = tt
of_race (word ∷ words) = tt

of_form : (words : List (List ℕ)) → IfSome (form_of words) IsInLimits
of_form [] = tt
of_form (word ∷ words) =
    chosen (bytes_eq (codes "run") word) (without_words Run words) _ (λ e. of_run words)
    (chosen (bytes_eq (codes "race") word) (without_words Race words) _ (λ e. of_race words)
    (chosen (bytes_eq (codes "live") word) (live_of words) _ (λ e. of_live words)
    (chosen (bytes_eq (codes "stress") word) (stress_of words) None (λ e. of_stress words) tt)))

in_limits : (words : List (List ℕ)) → IfSome (command_of words) IsInLimits
in_limits words = chosen (list_all is_plain_word words) (form_of words) None (λ e. of_form words) tt

pub of_command : (words : List (List ℕ)) (command : Command) → command_of words ≡ Some command → IsInLimits command
of_command words command e = subst (λ (c : Option Command). IfSome c IsInLimits) e (in_limits words)

-- the command that was found is the one that the words are
pub found_is : (words : List (List ℕ)) (found : Option Command) (command made : Command) → found ≡ command_of words → found ≡ Some command → command ≡ made
    → command_of words ≡ Some made
found_is words found command made asked is same = sym asked ∙ is ∙ ap (λ (x : Command). Some x) same

-- and no other
pub same_stress : (seed n other m : ℕ) → Some (Stress seed n) ≡ Some (Stress other m) → (seed ≡ other) × (n ≡ m)
same_stress seed n other m e = (cc, cc)

pub same_live : (n m : ℕ) → Some (Live n) ≡ Some (Live m) → n ≡ m
same_live n m e = cc
