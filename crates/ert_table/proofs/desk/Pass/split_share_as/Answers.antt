use Rattle.std.proofs.Common.{not, filter}
use Rattle.ert_table.proofs.{Dividing.divided_by, Splits.splits, OneStep.has_words}
use Rattle.ert_table.proofs.desk.Pass.split_share_as.Goals as goal

pub split_seat-requires : goal.split_seat-requires
split_seat-requires g c =
    let desk = c.args.desk.now in
    let view = c.args.self.now.seat.me.0 in
    let mine = g.C.Picked.mine in (
      c.requires.belongs.table,
      has_words _ desk.settings desk.counted,
      splits desk.table.shared.key c.args.self.now.seat.id view (filter (λ a. not (mine a)) view.actors) (filter mine view.actors) (divided_by mine view.actors),
    )
