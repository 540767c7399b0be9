use Rattle.std.proofs.Common.{arith}
use Rattle.ert_unique.proofs.Drawing.{draws}
use Rattle.ert_unique.proofs.uniques.Uniques.monotonic.Goals as goal

pub fetch_add-greatest-requires : goal.fetch_add-greatest-requires
fetch_add-greatest-requires c =
    let table = c.args.self.now.table in
    let pass = c.args.pass.now in (
      c.requires.belongs.table,
      omega (arith, c.args.self.now.one_word),
      draws table.shared.key table.shared.table_id.slots pass.seat.id pass.seat.me pass.bare c.requires.belongs.opened
          c.args.self.now.in_range.1 (grind (arith, pass.share, pass.counted, pass.few)),
    )
