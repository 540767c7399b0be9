use Rattle.std.proofs.Common.{[]}
use Rattle.ert_table.proofs.{Splits.{splits, all_shared}, OneStep.has_words}
use Rattle.ert_table.proofs.desk.Pass.take.Goals as goal

pub split_seat-requires : goal.split_seat-requires
split_seat-requires c =
    let desk = c.args.desk.now in
    let view = c.args.self.now.seat.me.0 in (
      c.requires.table,
      has_words _ desk.settings desk.counted,
      splits desk.table.shared.key c.args.self.now.seat.id view [] view.actors (all_shared view.actors),
    )
