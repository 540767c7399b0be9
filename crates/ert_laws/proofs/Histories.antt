-- What holds of the empty history, and of each legal one with one more entry where it holds of that without
-- it, holds of each legal history.

use Rattle.std.proofs.Common.{◌≡◌, List, [], ◌∷◌, ◌++◌, refl, sym, ap, subst, ◌∙◌, append-nil, append_assoc}
use Rattle.ert_defs.specs.{Legal.{Can, LegalFrom, Legal}, States.{State, opening, next, run, state}, declared.entry.Entry.Entry, declared.settings.Settings.Settings}
use Rattle.ert_defs.proofs.Runs.{carry, legal_more, state-append}
use Rattle.ert_laws.specs.MailOrder.{gathered_from, gathered}

-- the state after one more entry
pub state-more : (g : Settings) (h : List Entry) (e : Entry) → state g (h ++ e ∷ []) ≡ next g (state g h) e
state-more g h e = state-append g h (e ∷ [])

along : (g : Settings) (P : List Entry → Type 0) → ((h : List Entry) (e : Entry) → Legal g h → Can g (state g h) e → P h → P (h ++ e ∷ []))
    → (f es : List Entry) → Legal g f → LegalFrom g (state g f) es → P f → P (f ++ es)
along g P step f [] legal later h = rw append-nil h
along g P step f (e ∷ es) legal later h =
    let more : Legal g (f ++ e ∷ []) = legal_more g f e legal later.0 in
    let then : LegalFrom g (state g (f ++ e ∷ [])) es = carry (λ s. LegalFrom g s es) (state-more g f e) later.1 in
    subst P (append_assoc f (e ∷ []) es) (along g P step (f ++ e ∷ []) es more then (step f e legal later.0 h))

pub by_entries : (g : Settings) (P : List Entry → Type 0)
    → ((h : List Entry) (e : Entry) → Legal g h → Can g (state g h) e → P h → P (h ++ e ∷ []))
    → P [] → (h : List Entry) → Legal g h → P h
by_entries g P step none h legal = along g P step [] h tt legal none

pub gathered-append : {X : Type 0} (g : Settings) (give : State → Entry → List X) (s : State) (h m : List Entry)
    → gathered_from g give s (h ++ m) ≡ gathered_from g give s h ++ gathered_from g give (run g s h) m
gathered-append g give s [] m = refl
gathered-append g give s (e ∷ h) m =
    ap (λ x. give s e ++ x) (gathered-append g give (next g s e) h m)
    ∙ sym (append_assoc (give s e) (gathered_from g give (next g s e) h) (gathered_from g give (run g s (e ∷ h)) m))

-- what one more entry gives comes last
pub gathered-more : {X : Type 0} (g : Settings) (give : State → Entry → List X) (h : List Entry) (e : Entry)
    → gathered g give (h ++ e ∷ []) ≡ gathered g give h ++ give (state g h) e
gathered-more g give h e =
    gathered-append g give (opening g) h (e ∷ [])
    ∙ ap (λ x. gathered g give h ++ x) (append-nil (give (state g h) e))
