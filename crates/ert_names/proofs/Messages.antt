-- What is taken from the registrar: the message of a row, or nothing where nothing waits.

use Rattle.std.proofs.Common.{◌≡◌, ℕ, true, false, List, [], ◌∷◌, ◌++◌, All, Some, None, sym, ap, subst, ◌∙◌}
use Rattle.std.proofs.lemmas.List.Elements.{All-head}
use Rattle.ert_effects.specs.{MailCalls.Takes, Ways.{Grows, alone}, declared.answers.Taken.Taken, declared.answers.Taken.TheVariants.{Mail, Empty, Exited}}
use Rattle.ert_defs.proofs.Runs.{legal_first, legal_then, state-append}
use Rattle.ert_defs.specs.{Entries.{mark_entry, take_entry}, Legal.{Legal, LegalFrom}, Mails.{first_of, others_of}, States.{State, opening, run, state}, declared.entry.Actor.TheVariants.Caller, declared.entry.Entry.Entry}
use Rattle.ert_defs.specs.{declared.mail.Mail.TheVariants.{Timeout, Bare, CancelDone, ReadDone, Change}, declared.settings.Settings.Settings}
use Rattle.ert_names.proofs.{Fitting.{fits_by, takes_fit}, Registrars.{IsKept, kept_run, kept_opening}}
use Rattle.ert_names.specs.{Promised.IsNamed, Fits.FitsRows, Handing.{timeout_of, TakesNext}}
use Rattle.ert_world.proofs.Composed.{none_first}
use Rattle.ert_world.specs.Worlds.{Seen, Goes, By}

-- what is found in a list of which this is the first
first_is : {X : Type 0} (x : X) (xs : List X) → Some x ≡ first_of xs → xs ≡ x ∷ others_of xs
first_is x [] is = absurd cc
first_is x (y ∷ ys) is = let same : y ≡ x = cc in ap (λ z. z ∷ ys) same

-- what is so of a state and of that after a take
abbrev Took : ℕ → State → State → Taken → Type 0
Took n s t (Mail mail) = IsNamed n mail × ((s.mails 0).queue ≡ mail ∷ (t.mails 0).queue)
Took n s t Empty = (t.mails 0).queue ≡ []
Took n s t Exited = ⊥

took_from : (g : Settings) (n : ℕ) (s : State) (taken : Taken) (es : List Entry) → IsKept n s → LegalFrom g s es → Takes g 0 0 taken s es
    → Took n s (run g s es) taken
took_from g n s (Mail mail) es kept legal takes =
    let parts : LegalFrom g s (mark_entry (Caller 0) 0 false false ∷ (take_entry 0 0 (Some mail) ∷ [])) = subst (LegalFrom g s) takes legal in
    let first : (s.mails 0).queue ≡ mail ∷ others_of (s.mails 0).queue = first_is mail (s.mails 0).queue parts.1.0.known in
    let all : All (IsNamed n) (mail ∷ others_of (s.mails 0).queue) = subst (All (IsNamed n)) first kept.queue in
    subst (λ (l : List Entry). Took n s (run g s l) (Mail mail)) (sym takes)
    (All-head (IsNamed n) mail (others_of (s.mails 0).queue) all, first)
took_from g n s Empty es kept legal takes =
    let parts : LegalFrom g s (mark_entry (Caller 0) 0 false false ∷ (take_entry 0 0 None ∷ [])) = subst (LegalFrom g s) takes legal in
    let none : (s.mails 0).queue ≡ [] = none_first (s.mails 0).queue (sym parts.1.0.known) in
    subst (λ (l : List Entry). Took n s (run g s l) Empty) (sym takes) (ap others_of none)
took_from g n s Exited es kept legal takes =
    let parts : LegalFrom g s (mark_entry (Caller 0) 0 false true ∷ []) = subst (LegalFrom g s) takes legal in
    let no : true ≡ false = parts.0.found ∙ kept.lives in
    absurd cc

-- a world after a legal history that fits
pub kept_world : (n : ℕ) (w : Seen) → Legal w.settings w.history → FitsRows n w → IsKept n (state w.settings w.history)
kept_world n w legal fits = kept_run w.settings n (opening w.settings) w.history (kept_opening w.settings n) legal fits.entries

pub took : (n : ℕ) (a b : Seen) (taken : Taken) → Goes a (By a (λ g. Takes g 0 0 taken)) b → Legal b.settings b.history → FitsRows n a
    → Took n (state a.settings a.history) (state b.settings b.history) taken
took n a b taken goes legal fits =
    let g : Settings = a.settings in
    let grows : Grows (By a (λ g. Takes g 0 0 taken) (alone g)) a.history b.history = goes.lone fits.lone in
    let es : List Entry = grows.piece in
    let whole : Legal g (a.history ++ es) = subst (Legal g) grows.grown (subst (λ k. Legal k b.history) goes.settings legal) in
    let kept = kept_world n a (legal_first g (opening g) a.history es whole) fits in
    let after : state b.settings b.history ≡ run g (state g a.history) es =
    ap (λ k. state k b.history) goes.settings ∙ (ap (state g) grows.grown ∙ state-append g a.history es) in
    subst (λ (t : State). Took n (state g a.history) t taken) (sym after)
    (took_from g n (state g a.history) taken es kept (legal_then g (opening g) a.history es whole) grows.made)

-- the next message
pub takes_next : (n : ℕ) (a b : Seen) (taken : Taken) → Goes a (By a (λ g. Takes g 0 0 taken)) b → Legal b.settings b.history → FitsRows n a
    → TakesNext n a (timeout_of taken) b
takes_next n a b (Mail (Timeout timer msg)) goes legal fits =
    let is = took n a b (Mail (Timeout timer msg)) goes legal fits in (
      record { goes = record { goes = goes; lone = fits.lone }; known = is.0; first = is.1 },
      fits_by n a b (λ g. Takes g 0 0 (Mail (Timeout timer msg))) (λ s es. takes_fit n 0 a.settings 0 0 (Mail (Timeout timer msg)) s es) goes fits,
    )
takes_next n a b (Mail (Bare msg)) goes legal fits = absurd (took n a b (Mail (Bare msg)) goes legal fits).0
takes_next n a b (Mail (CancelDone timer left)) goes legal fits = absurd (took n a b (Mail (CancelDone timer left)) goes legal fits).0
takes_next n a b (Mail (ReadDone timer left)) goes legal fits = absurd (took n a b (Mail (ReadDone timer left)) goes legal fits).0
takes_next n a b (Mail (Change monitor offset)) goes legal fits = absurd (took n a b (Mail (Change monitor offset)) goes legal fits).0
takes_next n a b Empty goes legal fits = (
  record { goes = record { goes = goes; lone = fits.lone }; empty = took n a b Empty goes legal fits },
  fits_by n a b (λ g. Takes g 0 0 Empty) (λ s es. takes_fit n 0 a.settings 0 0 Empty s es) goes fits,
)
takes_next n a b Exited goes legal fits = absurd (took n a b Exited goes legal fits)
