use Rattle.std.proofs.Common.{arith, ap, ◌∙◌}
use Rattle.ert_unique.specs.Steps.{UniqueSitter}
use Rattle.ert_unique.proofs.Dividing.{divides, unites}
use Rattle.ert_unique.proofs.uniques.Uniques.meet.Goals as goal

pub split_seat-note-requires : goal.split_seat-note-requires
split_seat-note-requires c =
    let table = c.args.self.now.table in
    let other = c.args.other.now in (
      c.requires.other_belongs.table,
      omega (arith, c.args.self.now.one_word),
      divides table.shared.key other.seat.id other.seat.me.0 other.seat.me.0.share 0 c.requires.other_belongs.opened
          (omega arith) (omega (arith, other.share, other.counted, other.few)),
    )

pub join_seat-requires : goal.join_seat-requires
join_seat-requires c =
    let table = c.args.self.now.table in
    let pass = c.args.pass.now in
    let note = c.split_seat-note.result in (
      c.requires.belongs.table,
      c.split_seat-note.ensures.3 ∙ c.requires.other_belongs.table,
      ap (λ (x : UniqueSitter). x.1) c.split_seat-note.ensures.4,
      omega (arith, c.args.self.now.one_word),
      unites table.shared.key pass.seat.id pass.seat.me.0 note.id note.me.0 c.requires.belongs.opened,
    )
