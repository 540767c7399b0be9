use Rattle.std.proofs.Common.{arith}
use mathlib.Core.Option.{none}
use Rattle.atomic_table.specs.Table.{step}
use Rattle.ert_table.specs.Entries.{time_entry, time_in}
use Rattle.ert_table.proofs.{ClockActs.time_acts, OneStep.{has_time, may_load_at}}
use Rattle.ert_table.proofs.desk.Pass.load_time_as.Goals as goal

pub load-requires : goal.load-requires
load-requires g c =
    let desk = c.args.desk.now in
    let seat = c.args.self.now.seat in (
      c.requires.belongs.table,
      has_time _ desk.settings desk.counted,
      may_load_at desk.table.shared.key desk.settings g.C.Carried.settings desk.table.shared.table_id.slots seat.id seat.me
          (step desk.table.shared.table_id.slots 8 0 0 none)
          (λ n. time_entry c.args.by c.args.carry.now (time_in desk.settings n)) g.C.Carried.entry
          desk.keyed c.requires.settings c.requires.entry c.args.self.now.bare (omega arith)
          (time_acts desk.settings seat.me.0 c.args.by c.args.carry.now desk.checked c.requires.may),
    )
