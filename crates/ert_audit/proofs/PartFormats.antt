-- The formats of readings, references, starts, requests and messages.

use Rattle.std.proofs.Common.{◌≡◌, List, [], ◌∷◌, ◌++◌, Option, Some, None, refl, ap, ◌∙◌, append_assoc}
use Rattle.std.specs.Prelude.{codes, IfSome}
use Rattle.ert_defs.specs.declared.{mail.Mail.Mail, mail.Mail.TheVariants.{Timeout, Bare as BareMail, CancelDone, ReadDone, Change}, timer.Status.Status, timer.When.When, timer.When.TheVariants.{After, At}}
use Rattle.ert_audit.specs.{Fits.{FitsReading, FitsTimer, FitsWhen, FitsStart, FitsRequest, FitsLeft, FitsMail}, Parts.{Word, reading_words, timer_words, when_words, start_words, request_words, left_words, mail_words, status_word}}
use Rattle.ert_audit.specs.{Parts.option_words, Readers.{optional, natural_of, read_word}, Reading.{read_natural, status_names, read_status, request_kind_names, read_request_kind, read_reading, read_timer, when_rows, read_when, read_start}}
use Rattle.ert_audit.specs.{Reading.{read_request, read_left, read_timeout, read_bare, read_cancel_done, read_read_done, read_change, mail_rows, read_mail}}
use Rattle.ert_audit.proofs.{Formats.{IsFormat, done-gives, then-gives, then-again, then-none}, Tables.{choice-gives, choice-again, keyword-none, optional-format}, WordFormats.{small, natural, integer, truth, status, kind, request_kind}}

pub reading : IsFormat reading_words FitsReading read_reading
unfolding read_reading
reading = record {
  gives = then-gives integer [] _ (λ mono f. then-gives integer _ _ (λ sys g. done-gives _ _ refl (f, g)));
  again = λ r rest f. then-again integer _ r.mono _ _ f.0 (then-again integer _ r.sys rest _ f.1 refl);
}

pub timer : IsFormat timer_words FitsTimer read_timer
unfolding read_timer
timer = record {
  gives = then-gives small [] _ (λ wheel f. then-gives small _ _ (λ slot g. then-gives natural _ _ (λ generation h. done-gives _ _ refl (f, g, h))));
  again = λ t rest f. then-again small _ t.wheel _ _ f.0 (then-again small _ t.slot _ _ f.1 (then-again natural _ t.generation rest _ f.2 refl));
}

when-again : (w : When) (rest : List Word) → FitsWhen w → read_when (when_words w ++ rest) ≡ Some (w, rest)
unfolding read_when
when-again (After z) rest f = choice-again when_rows (codes "after") _ _ refl (then-again integer _ z rest _ f refl)
when-again (At z) rest f = choice-again when_rows (codes "at") _ _ refl (then-again integer _ z rest _ f refl)

when : IsFormat when_words FitsWhen read_when
unfolding read_when
when = record {
  gives = choice-gives when_words FitsWhen when_rows (
    (refl, then-gives integer _ _ (λ z f. done-gives _ (After z) refl f)),
    ((refl, then-gives integer _ _ (λ z f. done-gives _ (At z) refl f)), tt),
  );
  again = when-again;
}

pub start : IsFormat start_words FitsStart read_start
unfolding read_start
start = record {
  gives = then-gives when [] _ (λ w f. then-gives small _ _ (λ dest g. then-gives natural _ _ (λ msg h. then-gives kind _ _ (λ k _. done-gives _ _ (simp append_assoc) (f, g, h)))));
  again = λ s rest f.
      ap read_start (append_assoc (when_words s.when) _ rest)
      ∙ then-again when _ s.when _ _ f.0 (then-again small _ s.dest _ _ f.1 (then-again natural _ s.msg _ _ f.2 (then-again kind _ s.kind rest _ tt refl)));
}

pub request : IsFormat request_words FitsRequest read_request
unfolding read_request
request = record {
  gives = then-gives request_kind [] _ (λ k _. then-gives timer _ _ (λ t f. then-gives small _ _ (λ reply_to g. then-gives truth _ _ (λ info _. done-gives _ _ refl (f, g)))));
  again = λ r rest f. then-again request_kind _ r.kind _ _ tt (then-again timer _ r.timer _ _ f.0 (then-again small _ r.reply_to _ _ f.1 (then-again truth _ r.info rest _ tt refl)));
}

-- what may be absent
no_natural : (words : List Word) → read_natural (codes "none" ∷ words) ≡ None
unfolding read_natural natural_of read_word
no_natural words = refl

pub left : IsFormat left_words FitsLeft read_left
unfolding read_left
left = optional-format natural no_natural

no_status : (words : List Word) → read_status (codes "none" ∷ words) ≡ None
unfolding read_status
no_status words = keyword-none status_names (codes "none") words refl refl

pub found : IsFormat (option_words (λ status. status_word status ∷ [])) (λ o. IfSome o (λ _. Unit {0})) (optional read_status)
found = optional-format status no_status

pub each_found : (o : Option Status) → IfSome o (λ _. Unit {0})
each_found None = tt
each_found (Some _) = tt

no_request : (words : List Word) → read_request (codes "none" ∷ words) ≡ None
unfolding read_request read_request_kind
no_request words = then-none read_request_kind _ (codes "none" ∷ words) (keyword-none request_kind_names (codes "none") words refl refl)

pub picked : IsFormat (option_words request_words) (λ o. IfSome o FitsRequest) (optional read_request)
picked = optional-format request no_request

mail-again : (m : Mail) (rest : List Word) → FitsMail m → read_mail (mail_words m ++ rest) ≡ Some (m, rest)
unfolding read_mail read_timeout read_bare read_cancel_done read_read_done read_change
mail-again (Timeout t n) rest f = choice-again mail_rows (codes "timeout") _ _ refl (then-again timer _ t _ _ f.0 (then-again natural _ n rest _ f.1 refl))
mail-again (BareMail n) rest f = choice-again mail_rows (codes "bare") _ _ refl (then-again natural _ n rest _ f refl)
mail-again (CancelDone t l) rest f = choice-again mail_rows (codes "cancel_done") _ _ refl (then-again timer _ t _ _ f.0 (then-again left _ l rest _ f.1 refl))
mail-again (ReadDone t l) rest f = choice-again mail_rows (codes "read_done") _ _ refl (then-again timer _ t _ _ f.0 (then-again left _ l rest _ f.1 refl))
mail-again (Change n z) rest f = choice-again mail_rows (codes "change") _ _ refl (then-again small _ n _ _ f.0 (then-again integer _ z rest _ f.1 refl))

mail : IsFormat mail_words FitsMail read_mail
unfolding read_mail read_timeout read_bare read_cancel_done read_read_done read_change
mail = record {
  gives = choice-gives mail_words FitsMail mail_rows (
    (refl, then-gives timer _ _ (λ t f. then-gives natural _ _ (λ n g. done-gives _ (Timeout t n) refl (f, g)))),
    (
      (refl, then-gives natural _ _ (λ n f. done-gives _ (BareMail n) refl f)),
      (
        (refl, then-gives timer _ _ (λ t f. then-gives left _ _ (λ l g. done-gives _ (CancelDone t l) refl (f, g)))),
        (
          (refl, then-gives timer _ _ (λ t f. then-gives left _ _ (λ l g. done-gives _ (ReadDone t l) refl (f, g)))),
          ((refl, then-gives small _ _ (λ n f. then-gives integer _ _ (λ z g. done-gives _ (Change n z) refl (f, g)))), tt),
        ),
      ),
    ),
  );
  again = mail-again;
}

no_mail : (words : List Word) → read_mail (codes "none" ∷ words) ≡ None
unfolding read_mail
no_mail words = choice-again mail_rows (codes "none") words None refl refl

pub taken : IsFormat (option_words mail_words) (λ o. IfSome o FitsMail) (optional read_mail)
taken = optional-format mail no_mail
