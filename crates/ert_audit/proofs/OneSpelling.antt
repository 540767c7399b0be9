-- Bytes spell one history at most, or are misspelled at one line.

use Rattle.std.proofs.Common.{◌≡◌, ◌≢◌, ℕ, zero, suc, ◌+◌, ◌<◌, List, [], ◌∷◌, ◌++◌, length, length-append, refl, sym, ap, ◌∙◌, append_assoc, arith}
use Rattle.std.specs.List.{AllByRecursion, flat_map, join_with_byte}
use Rattle.std.proofs.lemmas.List.{append-nil}
use Rattle.ert_defs.specs.{Settings.IsChecked, declared.entry.Entry.Entry, declared.settings.Settings.Settings}
use Rattle.ert_audit.specs.{Entries.{entry_words, settings_words}, Fits.FitsEntry, Spelling.{line_of_words, entry_line, Spells, IsEntryLine, BeginsWithEntry, AreEntryLines, MisspelledAt}, Spelling.MisspelledAt.{in_settings, in_entries}}
use Rattle.ert_audit.proofs.{EntryFormats.{entry, settings}, FirstLines.{entry_some, settings_some}, LineFormats.{front_line_of, line_some}}

-- bytes that end, or go on with what is no line of an entry
abbrev Stops : List ℕ → Type 0
Stops rest = BeginsWithEntry rest → ⊥

nothing_stops : Stops []
nothing_stops begins = line_some (entry_words begins.entry) begins.rest (sym begins.line.text)

abbrev text_of : List Entry → List ℕ → List ℕ
text_of es rest = flat_map entry_line es ++ rest

-- the first line of such lines, and what follows
more_lines : (e : Entry) (es : List Entry) (rest : List ℕ) → text_of (e ∷ es) rest ≡ entry_line e ++ text_of es rest
more_lines e es rest = append_assoc (entry_line e) (flat_map entry_line es) rest

-- lines of entries that stop are the lines of one list of entries, with one rest
same_lines : (es fs : List Entry) (r s : List ℕ) → AllByRecursion FitsEntry es → AllByRecursion FitsEntry fs → Stops r → Stops s
    → text_of es r ≡ text_of fs s → (es ≡ fs) × (r ≡ s)
same_lines [] [] r s fit_es fit_fs stops_r stops_s e = (refl, e)
same_lines [] (f ∷ fs) r s fit_es fit_fs stops_r stops_s e =
    absurd (stops_r (record { entry = f; rest = text_of fs s; line = record { fits = fit_fs.0; text = e ∙ more_lines f fs s } }))
same_lines (e ∷ es) [] r s fit_es fit_fs stops_r stops_s same =
    absurd (stops_s (record { entry = e; rest = text_of es r; line = record { fits = fit_es.0; text = sym same ∙ more_lines e es r } }))
same_lines (e ∷ es) (f ∷ fs) r s fit_es fit_fs stops_r stops_s same =
    let p = front_line_of entry entry_some e f (text_of es r) (text_of fs s) fit_es.0 fit_fs.0 (sym (more_lines e es r) ∙ same ∙ more_lines f fs s) in
    let q = same_lines es fs r s fit_es.1 fit_fs.1 stops_r stops_s p.1 in
    (ap (λ (x : Entry). x ∷ es) p.0 ∙ ap (λ (xs : List Entry). f ∷ xs) q.0, q.1)

-- what is spelled begins with its settings
settings_first : (g : Settings) (h : List Entry) (bytes : List ℕ) → Spells g h bytes → bytes ≡ line_of_words (settings_words g) ++ text_of h []
settings_first g h bytes spelled = spelled.text ∙ ap (λ (t : List ℕ). line_of_words (settings_words g) ++ t) (sym (append-nil (flat_map entry_line h)))

pub unique : (g other : Settings) (h others : List Entry) (bytes : List ℕ) → Spells g h bytes → Spells other others bytes → (g ≡ other) × (h ≡ others)
unique g other h others bytes p q =
    let f = front_line_of settings settings_some g other (text_of h []) (text_of others []) p.settings q.settings (sym (settings_first g h bytes p) ∙ settings_first other others bytes q) in
    let t = same_lines h others [] [] p.entries q.entries nothing_stops nothing_stops f.1 in
    (f.0, t.0)

pub never_both : (g : Settings) (h : List Entry) (bytes : List ℕ) (k : ℕ) → Spells g h bytes → IsChecked g → MisspelledAt bytes k → ⊥
never_both g h bytes k p checked (in_settings first none) =
    none (record { settings = g; rest = text_of h []; line = record { checked = checked; fits = p.settings; text = settings_first g h bytes p } })
never_both g h bytes k p checked (in_entries other lines first missed) =
    let f = front_line_of settings settings_some g other (text_of h []) lines p.settings first.fits (sym (settings_first g h bytes p) ∙ first.text) in
    let t = same_lines h missed.before [] missed.rest p.entries missed.lines.fit nothing_stops missed.otherwise (f.1 ∙ missed.lines.text) in
    missed.more (sym t.1)

pub one_line : (bytes : List ℕ) (j k : ℕ) → MisspelledAt bytes j → MisspelledAt bytes k → j ≡ k
one_line bytes j k (in_settings first none) (in_settings second nothing) = first ∙ sym second
one_line bytes j k (in_settings first none) (in_entries g lines line missed) = absurd (none (record { settings = g; rest = lines; line = line }))
one_line bytes j k (in_entries g lines line missed) (in_settings first none) = absurd (none (record { settings = g; rest = lines; line = line }))
one_line bytes j k (in_entries g lines line missed) (in_entries other others second lost) =
    let f = front_line_of settings settings_some g other lines others line.fits second.fits (sym line.text ∙ second.text) in
    let t = same_lines missed.before lost.before missed.rest lost.rest missed.lines.fit lost.lines.fit missed.otherwise lost.otherwise (sym missed.lines.text ∙ f.1 ∙ lost.lines.text) in
    missed.place ∙ ap (λ (es : List Entry). length es + 2) t.0 ∙ sym lost.place

-- one more line before such lines
line_before : (bytes rest : List ℕ) (e : Entry) (es : List Entry) (r : List ℕ) → IsEntryLine bytes e rest → AreEntryLines rest es r → AreEntryLines bytes (e ∷ es) r
line_before bytes rest e es r line lines = record {
  fit = (line.fits, lines.fit);
  text = line.text ∙ ap (λ (t : List ℕ). entry_line e ++ t) lines.text ∙ sym (more_lines e es r);
}

-- a line takes bytes
shorter : (bytes : List ℕ) (e : Entry) (rest : List ℕ) (n : ℕ) → IsEntryLine bytes e rest → length bytes < suc n → length rest < n
shorter bytes e rest n line low =
    let long : length bytes ≡ length (entry_line e ++ rest) = ap length line.text in
    omega (arith, length-append (entry_line e) rest, length-append (join_with_byte 32 (entry_words e)) (10 ∷ []))

-- bytes can't fail to be lines of entries up to their end or to a line that is spelled otherwise
lines_end : (n : ℕ) (bytes : List ℕ) → length bytes < n
    → ((es : List Entry) → AreEntryLines bytes es [] → ⊥)
    → ((es : List Entry) (r : List ℕ) → AreEntryLines bytes es r → r ≢ [] → Stops r → ⊥) → ⊥
lines_end zero bytes low ended stopped = omega arith
lines_end (suc n) [] low ended stopped = ended [] (record { fit = tt; text = refl })
lines_end (suc n) (b ∷ bs) low ended stopped =
    stopped [] (b ∷ bs) (record { fit = tt; text = refl }) (λ none. absurd cc) (λ begins.
    lines_end n begins.rest (shorter (b ∷ bs) begins.entry begins.rest n begins.line low)
    (λ es lines. ended (begins.entry ∷ es) (line_before (b ∷ bs) begins.rest begins.entry es [] begins.line lines))
    (λ es r lines. stopped (begins.entry ∷ es) r (line_before (b ∷ bs) begins.rest begins.entry es r begins.line lines)))

pub never_neither : (bytes : List ℕ) → ((g : Settings) (h : List Entry) → Spells g h bytes → IsChecked g → ⊥) → ((k : ℕ) → MisspelledAt bytes k → ⊥) → ⊥
never_neither bytes unspelled faultless =
    faultless 1 (in_settings refl (λ begins.
    lines_end (suc (length begins.rest)) begins.rest (omega arith)
    (λ es lines. unspelled begins.settings es (record {
      settings = begins.line.fits;
      entries = lines.fit;
      text = begins.line.text ∙ ap (λ (t : List ℕ). line_of_words (settings_words begins.settings) ++ t) (lines.text ∙ append-nil (flat_map entry_line es));
    }) begins.line.checked)
    (λ es r lines more stops. faultless (length es + 2) (in_entries begins.settings begins.rest begins.line (record {
      before = es;
      rest = r;
      lines = lines;
      place = refl;
      more = more;
      otherwise = stops;
    })))))
