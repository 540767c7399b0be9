use Rattle.std.proofs.Common.{sym, ◌≡◌, true, [], ◌∷◌, subst}
use Rattle.ert_table.specs.Held.{is_held, actors_but}
use Rattle.ert_table.proofs.{Splits.{splits, one_shared}, OneStep.has_words}
use Rattle.ert_table.proofs.desk.Pass.split_as.Goals as goal

pub split_seat-requires : goal.split_seat-requires
split_seat-requires g c =
    let desk = c.args.desk.now in
    let view = c.args.self.now.seat.me.0 in
    let a = g.C.Chosen.actor in (
      c.requires.belongs.table,
      has_words _ desk.settings desk.counted,
      splits desk.table.shared.key c.args.self.now.seat.id view (actors_but view.actors a) (a ∷ [])
          (one_shared view.actors a (subst (λ b. is_held view.actors b ≡ true) (sym c.requires.pick) c.requires.held)),
    )
