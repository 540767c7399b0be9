-- The formats of words: numbers, and names.

use Rattle.std.proofs.Common.{◌≡◌, Bool, true, false, [], ◌∷◌, Some, refl}
use Rattle.std.specs.Fmt.{decimal, signed_decimal}
use Rattle.ert_defs.specs.declared.{entry.Act.Act, entry.Act.TheVariants.{Plain, Force, Finalize}, mail.RequestKind.RequestKind, mail.RequestKind.TheVariants.{Cancel as ToCancel, Read as ToRead}, settings.Mode.Mode}
use Rattle.ert_defs.specs.declared.{settings.Mode.TheVariants.{No, Single, Multi}, settings.OffsetState.OffsetState, settings.OffsetState.TheVariants.{Preliminary, Final, Volatile}, timer.Kind.Kind, timer.Kind.TheVariants.{Wrapped, Bare}}
use Rattle.ert_defs.specs.declared.{timer.Status.Status, timer.Status.TheVariants.{Armed, Expired, Delivered, Cancelled, Orphaned, Dropped}}
use Rattle.ert_audit.specs.{Fits.{Fits32, Fits64, FitsInt}, Parts.{number_words, integer_words, bool_word, mode_word, state_word, act_word, status_word, kind_word, request_kind_word}, Readers.{small_of, natural_of, integer_of, meant_by}}
use Rattle.ert_audit.specs.{Reading.{read_small, read_natural, read_integer, bool_names, read_bool, mode_names, read_mode, state_names, read_state, act_names, read_act, status_names, read_status, kind_names, read_kind, request_kind_names}}
use Rattle.ert_audit.specs.{Reading.read_request_kind}
use Rattle.ert_audit.proofs.{Digits.{natural-takes, natural-again, natural-ink}, Formats.IsFormat, Integers.{small-takes, small-again, small-ink, integer-takes, integer-again, integer-ink}, Tables.{meant-format, keyword-format}}

-- numbers of 32 and of 64 bits, and one that may be negative
pub small : IsFormat number_words Fits32 read_small
unfolding read_small
small = meant-format decimal Fits32 small_of small-takes small-again small-ink

pub natural : IsFormat number_words Fits64 read_natural
unfolding read_natural
natural = meant-format decimal Fits64 natural_of natural-takes natural-again natural-ink

pub integer : IsFormat integer_words FitsInt read_integer
unfolding read_integer
integer = meant-format signed_decimal FitsInt integer_of integer-takes integer-again integer-ink

-- the names of each kind
truth_called : (b : Bool) → meant_by (bool_word b) bool_names ≡ Some b
truth_called true = refl
truth_called false = refl

pub truth : IsFormat (λ b. bool_word b ∷ []) (λ _. Unit {0}) read_bool
unfolding read_bool
truth = keyword-format bool_word bool_names ((refl, refl), ((refl, refl), tt)) truth_called

mode_called : (m : Mode) → meant_by (mode_word m) mode_names ≡ Some m
mode_called No = refl
mode_called Single = refl
mode_called Multi = refl

pub mode : IsFormat (λ m. mode_word m ∷ []) (λ _. Unit {0}) read_mode
unfolding read_mode
mode = keyword-format mode_word mode_names ((refl, refl), ((refl, refl), ((refl, refl), tt))) mode_called

state_called : (s : OffsetState) → meant_by (state_word s) state_names ≡ Some s
state_called Preliminary = refl
state_called Final = refl
state_called Volatile = refl

pub state : IsFormat (λ s. state_word s ∷ []) (λ _. Unit {0}) read_state
unfolding read_state
state = keyword-format state_word state_names ((refl, refl), ((refl, refl), ((refl, refl), tt))) state_called

act_called : (a : Act) → meant_by (act_word a) act_names ≡ Some a
act_called Plain = refl
act_called Force = refl
act_called Finalize = refl

pub act : IsFormat (λ a. act_word a ∷ []) (λ _. Unit {0}) read_act
unfolding read_act
act = keyword-format act_word act_names ((refl, refl), ((refl, refl), ((refl, refl), tt))) act_called

status_called : (s : Status) → meant_by (status_word s) status_names ≡ Some s
status_called Armed = refl
status_called Expired = refl
status_called Delivered = refl
status_called Cancelled = refl
status_called Orphaned = refl
status_called Dropped = refl

pub status : IsFormat (λ s. status_word s ∷ []) (λ _. Unit {0}) read_status
unfolding read_status
status = keyword-format status_word status_names ((refl, refl), ((refl, refl), ((refl, refl), ((refl, refl), ((refl, refl), ((refl, refl), tt)))))) status_called

kind_called : (k : Kind) → meant_by (kind_word k) kind_names ≡ Some k
kind_called Wrapped = refl
kind_called Bare = refl

pub kind : IsFormat (λ k. kind_word k ∷ []) (λ _. Unit {0}) read_kind
unfolding read_kind
kind = keyword-format kind_word kind_names ((refl, refl), ((refl, refl), tt)) kind_called

request_kind_called : (k : RequestKind) → meant_by (request_kind_word k) request_kind_names ≡ Some k
request_kind_called ToCancel = refl
request_kind_called ToRead = refl

pub request_kind : IsFormat (λ k. request_kind_word k ∷ []) (λ _. Unit {0}) read_request_kind
unfolding read_request_kind
request_kind = keyword-format request_kind_word request_kind_names ((refl, refl), ((refl, refl), tt)) request_kind_called
