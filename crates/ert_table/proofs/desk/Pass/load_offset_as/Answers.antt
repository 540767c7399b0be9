use Rattle.std.proofs.Common.{arith}
use mathlib.Core.Option.{none}
use Rattle.atomic_table.specs.Table.{step}
use Rattle.ert_table.specs.Entries.{offset_entry, offset_in, state_in}
use Rattle.ert_table.proofs.{ClockActs.offset_acts, OneStep.may_load_at}
use Rattle.ert_table.proofs.desk.Pass.load_offset_as.Goals as goal

pub load-requires : goal.load-requires
load-requires g c =
    let desk = c.args.desk.now in
    let seat = c.args.self.now.seat in (
      c.requires.belongs.table,
      omega (arith, desk.counted),
      may_load_at desk.table.shared.key desk.settings g.C.Carried.settings desk.table.shared.table_id.slots seat.id seat.me
          (step desk.table.shared.table_id.slots 16 0 0 none)
          (λ n. offset_entry desk.settings seat.me.0.actors c.args.by c.args.carry.now (offset_in n) (state_in desk.settings n)) g.C.Carried.entry
          desk.keyed c.requires.settings c.requires.entry c.args.self.now.bare (omega arith)
          (offset_acts desk.settings seat.me.0 c.args.by c.args.carry.now desk.checked c.requires.may),
    )
