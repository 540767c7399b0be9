-- What `clap` makes of the words after the first.

use Rattle.std.proofs.Common.{◌≡◌, List, [], ◌∷◌, true, false, Some, refl, ap, ap₂, ◌∙◌, codes, fold}
use Rattle.std.specs.Prelude.{option_map, option_and_then}
use Rattle.clap.specs.{Kinds.{Kinds, or_else}, Values.refused_kind, Simple.Shape, Walk.{Text, Walk, value, arg_by_index, finished, nothing_held, rows_after, to_positional, walk_from, walked}, Faults.{level_fault, step_fault, walk_fault}}
use Rattle.clap.specs.{ValueTests.is_unsigned_in, declared.builder.value_parser.ValueParser.TheVariants.Unsigned}
use Rattle.clap.specs.declared.error.kind.ErrorKind.TheVariants as kind
use Rattle.clap.proofs.OnLiterals.{clap_on_literals}
use Rattle.ert_program.specs.{declared.command.Command.TheVariants.{Live, Stress}, Matches.{command_in, parsed}}
use Rattle.ert_program.proofs.{Plain.{IsWord, fault_plain, walked_plain}, Shapes.{bare_shape, level}}

abbrev pub run : Shape
run = bare_shape (codes "run")

abbrev pub race : Shape
race = bare_shape (codes "race")

abbrev pub live : Shape
live = bare_shape (codes "live")

abbrev pub stress : Shape
stress = bare_shape (codes "stress")

abbrev faults : Shape → List Text → Kinds
faults s words = level_fault s [] nothing_held words false []

abbrev parts : Shape → Kinds → Walk → Kinds
parts s k w = level s k [] false w.held

abbrev start : Walk
start = walk_from nothing_held

-- after a first word and a second one
abbrev one : Shape → Text → Walk
one s first = to_positional s.rules (arg_by_index s.rules 1) first start nothing_held

abbrev two : Shape → Text → Text → Walk
two s first second = to_positional s.rules (arg_by_index s.rules 2) second (one s first) (one s first).held

leaf_is : (s : Shape) (words : List Text) → faults s words ≡ parts s (walk_fault s [] start words) (fold (walked s.rules []) start words)
leaf_is s words = refl

-- ---- no argument is taken

pub run_alone : faults run [] ≡ []
unfolding clap_on_literals
run_alone = refl

pub race_alone : faults race [] ≡ []
unfolding clap_on_literals
race_alone = refl

pub run_more : (word : Text) (rest : List Text) → IsWord word → faults run (word ∷ rest) ≡ kind.UnknownArgument ∷ []
unfolding clap_on_literals
run_more word rest is =
    leaf_is run (word ∷ rest) ∙ ap (λ k. parts run k (fold (walked run.rules []) start (word ∷ rest))) (fault_plain run [] 1 word rest nothing_held is refl)

pub race_more : (word : Text) (rest : List Text) → IsWord word → faults race (word ∷ rest) ≡ kind.UnknownArgument ∷ []
unfolding clap_on_literals
race_more word rest is =
    leaf_is race (word ∷ rest) ∙ ap (λ k. parts race k (fold (walked race.rules []) start (word ∷ rest))) (fault_plain race [] 1 word rest nothing_held is refl)

-- ---- one argument is taken

pub live_alone : faults live [] ≡ kind.MissingRequiredArgument ∷ []
unfolding clap_on_literals
live_alone = refl

live_parts : (n : Text) → IsWord n → faults live (n ∷ []) ≡ parts live [] (one live n)
unfolding clap_on_literals
live_parts n is =
    leaf_is live (n ∷ []) ∙ ap₂ (parts live) (fault_plain live [] 1 n [] nothing_held is refl) (walked_plain live.rules [] 1 n nothing_held is refl)

pub live_taken : (n : Text) → IsWord n → is_unsigned_in 1 1000 n ≡ true → faults live (n ∷ []) ≡ []
unfolding clap_on_literals
live_taken n is fits = live_parts n is ∙ rw fits

pub live_refused : (n : Text) → IsWord n → is_unsigned_in 1 1000 n ≡ false → faults live (n ∷ []) ≡ refused_kind (Unsigned 1 1000) ∷ []
unfolding clap_on_literals
live_refused n is fits = live_parts n is ∙ rw fits

pub live_more : (n other : Text) (rest : List Text) → IsWord n → IsWord other → faults live (n ∷ other ∷ rest) ≡ kind.UnknownArgument ∷ []
unfolding clap_on_literals
live_more n other rest is other_is =
    leaf_is live (n ∷ other ∷ rest) ∙ ap (λ k. parts live k (fold (walked live.rules []) start (n ∷ other ∷ rest)))
    (fault_plain live [] 1 n (other ∷ rest) nothing_held is refl
    ∙ fault_plain live [] 2 other rest (one live n).held other_is refl)

pub live_read : (n : Text) → IsWord n → command_in (Some (live.name, rows_after live.rules [] (n ∷ []))) ≡ option_map Live (parsed n)
unfolding clap_on_literals
live_read n is = ap (λ (w : Walk). command_in (Some (live.name, finished live.rules w.held))) (walked_plain live.rules [] 1 n nothing_held is refl)

-- ---- two arguments are taken

pub stress_alone : faults stress [] ≡ kind.MissingRequiredArgument ∷ []
unfolding clap_on_literals
stress_alone = refl

stress_parts : (seed : Text) → IsWord seed → faults stress (seed ∷ []) ≡ parts stress [] (one stress seed)
unfolding clap_on_literals
stress_parts seed is =
    leaf_is stress (seed ∷ []) ∙ ap₂ (parts stress) (fault_plain stress [] 1 seed [] nothing_held is refl) (walked_plain stress.rules [] 1 seed nothing_held is refl)

pub stress_one : (seed : Text) → IsWord seed → is_unsigned_in 0 999999999 seed ≡ true → faults stress (seed ∷ []) ≡ kind.MissingRequiredArgument ∷ []
unfolding clap_on_literals
stress_one seed is fits = stress_parts seed is ∙ rw fits

pub stress_one_refused : (seed : Text) → IsWord seed → is_unsigned_in 0 999999999 seed ≡ false
    → faults stress (seed ∷ []) ≡ refused_kind (Unsigned 0 999999999) ∷ []
unfolding clap_on_literals
stress_one_refused seed is fits = stress_parts seed is ∙ rw fits

stress_two : (seed n : Text) → IsWord seed → IsWord n
    → ◌≡◌ {A = Walk} (fold (walked stress.rules []) start (seed ∷ n ∷ [])) (two stress seed n)
unfolding clap_on_literals
stress_two seed n seed_is n_is =
    ap (λ w. walked stress.rules [] w n) (walked_plain stress.rules [] 1 seed nothing_held seed_is refl)
    ∙ walked_plain stress.rules [] 2 n (one stress seed).held n_is refl

stress_walk : (seed n : Text) (rest : List Text) → IsWord seed → IsWord n
    → walk_fault stress [] start (seed ∷ n ∷ rest) ≡ or_else (step_fault stress 2 (one stress seed).held value) (walk_fault stress [] (two stress seed n) rest)
unfolding clap_on_literals
stress_walk seed n rest seed_is n_is =
    fault_plain stress [] 1 seed (n ∷ rest) nothing_held seed_is refl ∙ fault_plain stress [] 2 n rest (one stress seed).held n_is refl

stress_both : (seed n : Text) → IsWord seed → IsWord n
    → faults stress (seed ∷ n ∷ []) ≡ parts stress (or_else (step_fault stress 2 (one stress seed).held value) []) (two stress seed n)
unfolding clap_on_literals
stress_both seed n seed_is n_is =
    leaf_is stress (seed ∷ n ∷ []) ∙ ap₂ (parts stress) (stress_walk seed n [] seed_is n_is) (stress_two seed n seed_is n_is)

pub stress_taken : (seed n : Text) → IsWord seed → IsWord n → is_unsigned_in 0 999999999 seed ≡ true → is_unsigned_in 1 100000 n ≡ true
    → faults stress (seed ∷ n ∷ []) ≡ []
unfolding clap_on_literals
stress_taken seed n seed_is n_is seed_fits n_fits = stress_both seed n seed_is n_is ∙ rw (seed_fits, n_fits)

pub stress_seed_refused : (seed n : Text) → IsWord seed → IsWord n → is_unsigned_in 0 999999999 seed ≡ false
    → faults stress (seed ∷ n ∷ []) ≡ refused_kind (Unsigned 0 999999999) ∷ []
unfolding clap_on_literals
stress_seed_refused seed n seed_is n_is seed_fits = stress_both seed n seed_is n_is ∙ rw seed_fits

pub stress_n_refused : (seed n : Text) → IsWord seed → IsWord n → is_unsigned_in 0 999999999 seed ≡ true → is_unsigned_in 1 100000 n ≡ false
    → faults stress (seed ∷ n ∷ []) ≡ refused_kind (Unsigned 1 100000) ∷ []
unfolding clap_on_literals
stress_n_refused seed n seed_is n_is seed_fits n_fits = stress_both seed n seed_is n_is ∙ rw (seed_fits, n_fits)

stress_three : (seed n other : Text) (rest : List Text) → IsWord seed → IsWord n → IsWord other
    → walk_fault stress [] start (seed ∷ n ∷ other ∷ rest) ≡ or_else (step_fault stress 2 (one stress seed).held value) (kind.UnknownArgument ∷ [])
unfolding clap_on_literals
stress_three seed n other rest seed_is n_is other_is =
    stress_walk seed n (other ∷ rest) seed_is n_is
    ∙ ap (or_else (step_fault stress 2 (one stress seed).held value)) (fault_plain stress [] 3 other rest (two stress seed n).held other_is refl)

stress_many : (seed n other : Text) (rest : List Text) (kinds : Kinds) → walk_fault stress [] start (seed ∷ n ∷ other ∷ rest) ≡ kinds
    → faults stress (seed ∷ n ∷ other ∷ rest) ≡ parts stress kinds (fold (walked stress.rules []) start (seed ∷ n ∷ other ∷ rest))
stress_many seed n other rest kinds is =
    leaf_is stress (seed ∷ n ∷ other ∷ rest) ∙ ap (λ k. parts stress k (fold (walked stress.rules []) start (seed ∷ n ∷ other ∷ rest))) is

pub stress_more : (seed n other : Text) (rest : List Text) → IsWord seed → IsWord n → IsWord other → is_unsigned_in 0 999999999 seed ≡ true
    → faults stress (seed ∷ n ∷ other ∷ rest) ≡ kind.UnknownArgument ∷ []
unfolding clap_on_literals
stress_more seed n other rest seed_is n_is other_is fits =
    stress_many seed n other rest (kind.UnknownArgument ∷ []) (stress_three seed n other rest seed_is n_is other_is ∙ rw fits)

pub stress_more_refused : (seed n other : Text) (rest : List Text) → IsWord seed → IsWord n → IsWord other → is_unsigned_in 0 999999999 seed ≡ false
    → faults stress (seed ∷ n ∷ other ∷ rest) ≡ refused_kind (Unsigned 0 999999999) ∷ []
unfolding clap_on_literals
stress_more_refused seed n other rest seed_is n_is other_is fits =
    stress_many seed n other rest (refused_kind (Unsigned 0 999999999) ∷ []) (stress_three seed n other rest seed_is n_is other_is ∙ rw fits)

pub stress_read : (seed n : Text) → IsWord seed → IsWord n
    → command_in (Some (stress.name, rows_after stress.rules [] (seed ∷ n ∷ []))) ≡ option_and_then (λ s. option_map (Stress s) (parsed n)) (parsed seed)
unfolding clap_on_literals
stress_read seed n seed_is n_is =
    ap (λ (w : Walk). command_in (Some (stress.name, finished stress.rules w.held))) (stress_two seed n seed_is n_is)
