-- What `clap` makes of the words of the program.

use Rattle.std.proofs.Common.{◌≡◌, List, [], ◌∷◌, Bool, false, Option, Some, None, refl, sym, ap, ap₂, ◌∙◌, codes, fold}
use Rattle.std.specs.Prelude.{is_some, find, option_map, unwrap_or}
use Rattle.std.specs.Option.{option_map_or}
use Rattle.clap.specs.{Kinds.{Kinds, or_else}, Simple.{App, Shape, label_of, names_of, entered, built, rows_at}, Walk.{Held, Names, Text, Walk, idle, answers_to, finished, nothing_held, rows_after, settled, subcommand_met, walk_from}}
use Rattle.clap.specs.{Walk.walked, Faults.{check_fault, defaults_fault, entered_fault, fault_of, level_fault, settle_fault, turn_fault, walk_fault}, Words.subcommand_of}
use Rattle.clap.specs.declared.error.kind.ErrorKind.TheVariants as kind
use Rattle.clap.proofs.{FaultLemmas.stopped_fault, OnLiterals.clap_on_literals, WalkLemmas.walk_stopped}
use Rattle.ert_program.specs.Apps.{app}
use Rattle.ert_program.proofs.Plain.{IsWord, fault_plain}

abbrev pub whole_app : App
whole_app = built app

abbrev pub top : Shape
top = whole_app.top

abbrev pub names : Names
names = names_of whole_app

-- the faults of a level, from those of its walk and where the walk ended
abbrev pub level : Shape → Kinds → Kinds → Bool → Held → Kinds
level s walk below entered end =
    or_else walk (or_else below (or_else (settle_fault s.rules s.args_override_self end)
    (or_else (defaults_fault (settled s.rules end).rows s.rules) (check_fault s (finished s.rules end) entered))))

abbrev pub whole : Kinds → Walk → Kinds
whole walk w = level top walk (entered_fault whole_app w.stopped) (is_some (entered whole_app w.stopped)) w.held

whole_is : (words : List Text) → fault_of app words ≡ whole (walk_fault top names (walk_from nothing_held) words) (fold (walked top.rules names) (walk_from nothing_held) words)
whole_is words = refl

-- the word names this subcommand
pub record IsNamed (name : Text) (s : Shape) : Type 0 where
  pub walks : walked top.rules names (walk_from nothing_held) name ≡ record (walk_from nothing_held) { stopped = Some (name, []) }
  pub turns : turn_fault top names (walk_from nothing_held) name ≡ []
  pub finds : find (λ (x : Shape). answers_to name (label_of x)) whole_app.subs ≡ Some s

-- where the walk ends, when the first word names a subcommand
ends : (name : Text) (s : Shape) (rest : List Text) → IsNamed name s
    → ◌≡◌ {A = Walk} (fold (walked top.rules names) (walk_from nothing_held) (name ∷ rest)) (record (walk_from nothing_held) { stopped = Some (name, rest) })
ends name s rest is =
    ap (λ w. fold (walked top.rules names) w rest) is.walks ∙ sym (walk_stopped top.rules names (walk_from nothing_held) name [] rest)

faults : (name : Text) (s : Shape) (rest : List Text) → IsNamed name s → walk_fault top names (walk_from nothing_held) (name ∷ rest) ≡ []
unfolding walk_fault
faults name s rest is =
    ap₂ (λ (k : Kinds) (w : Walk). or_else k (walk_fault top names w rest)) is.turns is.walks
    ∙ stopped_fault top names (walk_from nothing_held) (name, []) rest

-- the faults of the words are those of the subcommand
pub below : (name : Text) (s : Shape) (rest : List Text) → IsNamed name s → fault_of app (name ∷ rest) ≡ or_else (level_fault s [] nothing_held rest false []) []
unfolding defaults_fault
below name s rest is =
    whole_is (name ∷ rest) ∙ ap₂ whole (faults name s rest is) (ends name s rest is)
    ∙ ap (λ (found : Option Shape). level top [] (option_map_or (λ (x : Shape). level_fault x [] nothing_held rest false []) found [])
    (is_some (option_map (λ (x : Shape). rows_at x rest) found)) nothing_held) is.finds

-- and so are the matches
pub below_rows : (name : Text) (s : Shape) (rest : List Text) → IsNamed name s → subcommand_of app (name ∷ rest) ≡ Some (s.name, rows_after s.rules [] rest)
below_rows name s rest is =
    ap (λ (w : Walk). entered whole_app w.stopped) (ends name s rest is)
    ∙ ap (λ (found : Option Shape). option_map (λ (x : Shape). rows_at x rest) found) is.finds

-- a first word that names none is refused
pub unknown : (word : Text) (rest : List Text) → IsWord word → subcommand_met names idle word ≡ None
    → fault_of app (word ∷ rest) ≡ kind.UnknownArgument ∷ kind.InvalidSubcommand ∷ []
unfolding clap_on_literals
unknown word rest is none =
    whole_is (word ∷ rest) ∙ ap (λ k. whole k (fold (walked top.rules names) (walk_from nothing_held) (word ∷ rest))) (fault_plain top names 1 word rest nothing_held is none)

abbrev pub bare_shape : Text → Shape
bare_shape name = unwrap_or (find (λ (x : Shape). answers_to name (label_of x)) whole_app.subs) top

pub named_run : IsNamed (codes "run") (bare_shape (codes "run"))
unfolding clap_on_literals
named_run = record { walks = refl; turns = refl; finds = refl }

pub named_race : IsNamed (codes "race") (bare_shape (codes "race"))
unfolding clap_on_literals
named_race = record { walks = refl; turns = refl; finds = refl }

pub named_live : IsNamed (codes "live") (bare_shape (codes "live"))
unfolding clap_on_literals
named_live = record { walks = refl; turns = refl; finds = refl }

pub named_stress : IsNamed (codes "stress") (bare_shape (codes "stress"))
unfolding clap_on_literals
named_stress = record { walks = refl; turns = refl; finds = refl }

pub no_words : fault_of app [] ≡ kind.MissingSubcommand ∷ []
unfolding clap_on_literals
no_words = refl
