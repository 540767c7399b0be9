use Rattle.std.proofs.Common.{sym, ◌≡◌, [], ◌∙◌, ap}
use Rattle.ert_table.proofs.{Joins.{joins, learns_at}, OneStep.{has_time, has_words}}
use Rattle.ert_table.specs.Acts.{Sitter}
use Rattle.ert_table.proofs.desk.Pass.join_as.Goals as goal

pub join_seat-requires : goal.join_seat-requires
join_seat-requires g c =
    let desk = c.args.desk.now in
    let me = c.args.self.now.seat in
    let other = c.args.other.seat in (
      c.requires.belongs.table,
      c.requires.other_belongs.table,
      c.args.other.bare,
      has_words _ desk.settings desk.counted,
      joins desk.table.shared.key me.id other.id me.me.0 other.me.0,
    )

pub load-requires : goal.load-requires
load-requires g c =
    let desk = c.args.desk.now in
    let me = c.join_seat.new.seat in
    let bare : me.me.1 ≡ [] = ap (λ (x : Sitter). x.1) c.join_seat.ensures.2 ∙ c.args.self.now.bare in (
      c.join_seat.ensures.0 ∙ c.requires.belongs.table,
      has_time _ desk.settings desk.counted,
      learns_at desk.table.shared.key g.C.Named.settings desk.table.shared.table_id.slots me.id me.me
          (desk.keyed ∙ sym c.requires.pick) bare,
    )
