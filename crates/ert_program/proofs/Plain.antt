-- What `clap` makes of a word without a hyphen, where it names no subcommand.

use Rattle.std.proofs.Common.{◌≡◌, ℕ, List, [], ◌∷◌, false, None, ap, ap₂, ◌∙◌, cond}
use Rattle.std.specs.{Option.option_map_or, Str.bytes_eq}
use Rattle.clap.specs.{Lexer.{long_of, short_of}, Kinds.{Kinds, or_else}, Simple.Shape, Walk.{Held, Names, Rule, Step, Text, Walk, idle, value, trailing, subcommand_met, subcommand_or_other, long_or_other, short_or_plain, word_met}}
use Rattle.clap.specs.{Walk.{after_step, to_positional, arg_by_index, walked}, Faults.{bundle_fault, flag_word_fault, other_fault, step_fault, turn_fault, walk_fault}}

-- the word is no flag
pub record IsWord (word : Text) : Type 0 where
  pub dashes : bytes_eq word (45 ∷ 45 ∷ []) ≡ false
  pub long : long_of word ≡ None
  pub short : short_of word ≡ None

-- nothing waits for a value
abbrev pub at : Held → ℕ → Walk
at h position = record { held = h; waiting = idle; position = position; is_trailing = false; stopped = None }

met_value : (c : List Rule) (names : Names) (position : ℕ) (word : Text) (h : Held) → IsWord word → subcommand_met names idle word ≡ None
    → ◌≡◌ {A = Held × Step} (word_met c names false idle position word h) (h, value)
met_value c names position word h is none =
    ap (λ m. subcommand_or_other c m idle position word h) none
    ∙ ap (λ b. cond {A = Held × Step} b (h, trailing position) (long_or_other c idle word (long_of word) h)) is.dashes
    ∙ ap (λ l. long_or_other c idle word l h) is.long
    ∙ ap (λ s. short_or_plain c idle word s h) is.short

no_fault : (s : Shape) (names : Names) (word : Text) (h : Held) → IsWord word → subcommand_met names idle word ≡ None
    → other_fault s (subcommand_met names idle word) word h ≡ []
no_fault s names word h is none =
    ap (λ m. other_fault s m word h) none
    ∙ ap (λ b. cond {A = Kinds} b [] (flag_word_fault s.rules s.args_override_self (long_of word) word h)) is.dashes
    ∙ ap (λ l. flag_word_fault s.rules s.args_override_self l word h) is.long
    ∙ ap (λ o. option_map_or (λ flags. bundle_fault s.rules s.args_override_self flags h) o []) is.short

turn_plain : (s : Shape) (names : Names) (position : ℕ) (word : Text) (h : Held) → IsWord word → subcommand_met names idle word ≡ None
    → turn_fault s names (at h position) word ≡ step_fault s position h value
turn_plain s names position word h is none =
    ap₂ (λ (k : Kinds) (m : Held × Step). or_else k (step_fault s position m.0 m.1)) (no_fault s names word h is none) (met_value s.rules names position word h is none)

pub walked_plain : (c : List Rule) (names : Names) (position : ℕ) (word : Text) (h : Held) → IsWord word → subcommand_met names idle word ≡ None
    → walked c names (at h position) word ≡ to_positional c (arg_by_index c position) word (at h position) h
unfolding walked
walked_plain c names position word h is none =
    ap (λ (m : Held × Step). after_step c word (at h position) m.0 m.1) (met_value c names position word h is none)

pub fault_plain : (s : Shape) (names : Names) (position : ℕ) (word : Text) (rest : List Text) (h : Held) → IsWord word → subcommand_met names idle word ≡ None
    → walk_fault s names (at h position) (word ∷ rest)
    ≡ or_else (step_fault s position h value) (walk_fault s names (to_positional s.rules (arg_by_index s.rules position) word (at h position) h) rest)
unfolding walk_fault
fault_plain s names position word rest h is none =
    ap₂ or_else (turn_plain s names position word h is none) (ap (λ w. walk_fault s names w rest) (walked_plain s.rules names position word h is none))
