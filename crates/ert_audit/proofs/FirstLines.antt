-- The first line of bytes: settings, or an entry.

use Rattle.std.proofs.Common.{◌≡◌, ℕ, List, Some, None, Result, Ok, Err, refl, sym, ◌∙◌, subst, ◌↔◌, IsTrue}
use Rattle.std.specs.Prelude.{is_ok}
use Rattle.ert_defs.specs.{Settings.{IsChecked, Checks}, declared.entry.Entry.Entry, declared.settings.Settings.Settings, declared.settings.SettingsFault.SettingsFault, declared.settings.SettingsFault.TheVariants.{Start, First, Count}}
use Rattle.ert_audit.specs.{Cuts.{IsNowhereIn, IsCutAt, words_in}, Entries.{entry_words, settings_words}, Events.{read_one_entry, read_settings}, Readers.whole, Spelling.{IsSettingsLine, BeginsWithSettings, IsEntryLine, BeginsWithEntry}}
use Rattle.ert_audit.proofs.{EntryFormats.{entry, settings}, LineFormats.{HasWords, free_line, front_line_of, line_read, line_none}}

pub entry_some : HasWords entry_words
entry_some e = (_, _, refl)

pub settings_some : HasWords settings_words
settings_some g = (_, _, refl)

pub entry_line_read : (bytes line rest : List ℕ) (e : Entry) → IsCutAt 10 bytes line rest → whole read_one_entry (words_in line) ≡ Some e → IsEntryLine bytes e rest
entry_line_read bytes line rest e cut read =
    let r = line_read entry bytes line rest e cut read in
    record { fits = r.1; text = r.0 }

pub entry_line_none : (bytes line rest : List ℕ) → IsCutAt 10 bytes line rest → whole read_one_entry (words_in line) ≡ None → BeginsWithEntry bytes → ⊥
entry_line_none bytes line rest cut read begins =
    line_none entry entry_some bytes line rest cut read begins.entry begins.rest begins.line.fits begins.line.text

pub settings_line_read : (bytes line rest : List ℕ) (g : Settings)
    → IsCutAt 10 bytes line rest → whole read_settings (words_in line) ≡ Some g → IsChecked g → IsSettingsLine bytes g rest
settings_line_read bytes line rest g cut read checked =
    let r = line_read settings bytes line rest g cut read in
    record { checked = checked; fits = r.1; text = r.0 }

pub settings_line_none : (bytes line rest : List ℕ) → IsCutAt 10 bytes line rest → whole read_settings (words_in line) ≡ None → BeginsWithSettings bytes → ⊥
settings_line_none bytes line rest cut read begins =
    line_none settings settings_some bytes line rest cut read begins.settings begins.rest begins.line.fits begins.line.text

pub settings_line_free : (bytes : List ℕ) → IsNowhereIn 10 bytes → BeginsWithSettings bytes → ⊥
settings_line_free bytes free begins = free_line bytes (settings_words begins.settings) begins.rest free begins.line.text

-- settings that are refused are no checked ones
pub unchecked : (g : Settings) (r : Result (Unit {0}) SettingsFault) → Checks g r → IsTrue (is_ok r) ↔ IsChecked g
unchecked g (Ok _) checks = (λ _. checks, λ _. refl)
unchecked g (Err Start) refused = (λ e. absurd cc, λ checked. absurd (refused checked.start))
unchecked g (Err First) refused = (λ e. absurd cc, λ checked. absurd (refused.1 checked.first))
unchecked g (Err Count) refused = (λ e. absurd cc, λ checked. absurd (refused.2 checked.counts))

-- settings that are refused: the bytes begin with no others
pub settings_line_refused : (bytes line rest : List ℕ) (g : Settings) → IsCutAt 10 bytes line rest → whole read_settings (words_in line) ≡ Some g
    → (IsChecked g → ⊥) → BeginsWithSettings bytes → ⊥
settings_line_refused bytes line rest g cut read refused begins =
    let r = line_read settings bytes line rest g cut read in
    let same = front_line_of settings settings_some g begins.settings rest begins.rest r.1 begins.line.fits (sym r.0 ∙ begins.line.text) in
    refused (subst IsChecked (sym same.0) begins.line.checked)
