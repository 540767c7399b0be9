use Rattle.std.proofs.Common.{sym, subst, ◌∷◌, [], ◌∙◌, ◌≡◌, ap, List, ℕ}
use Rattle.ert_table.specs.{Held.IsWhole, Rule.Holds, Views.first_view}
use Rattle.ert_table.proofs.{FirstHolds.opens, Holders.whole_everyone}
use Rattle.ert_table.proofs.desk.Desk.open.Goals as goal

pub of_words-requires : goal.of_words-requires
of_words-requires c =
    let g = c.args.settings.now in
    subst (λ (words : List ℕ). Holds g words (first_view g ∷ [])) (sym (c.deref.ensures.value ∙ c.in_ok-words.ensures)) (opens g)

pub returns-clause-whole : goal.returns-clause-whole
returns-clause-whole c =
    let g = c.args.settings.now in
    let seat : c.in_ok-table.seat.me ≡ (first_view g, []) = c.in_ok-table.ensures.4 in
    subst (IsWhole g) (sym (ap (λ x. x.0.actors) seat)) (whole_everyone g)
