use Rattle.std.proofs.Common.{◌∷◌, []}
use Rattle.ert_defs.specs.{Entries.keeper_entry, declared.entry.Event.TheVariants.Off}
use Rattle.ert_table.proofs.{Steps.{Published, off_published}, keeper.KeeperPart.read_offset.Goals.After-load_offset}
use Rattle.ert_table.proofs.keeper.KeeperPart.read_offset.Goals as goal

read : (c : After-load_offset) → Published c.args.desk.now.settings c.args.pass.now.seat.me.0
    (keeper_entry c.args.by (Off c.args.self.now.face.offset c.args.self.now.face.state) ∷ [])
    c.load_offset.new.self.seat.me.0 c.args.self.now
read c =
    let e = c.load_offset.ensures in
    off_published c.args.desk.now.settings c.args.pass.now.seat.me.0 c.load_offset.new.self.seat.me.0 c.args.by c.args.self.now
    c.load_offset.result.0 c.load_offset.result.1 c.requires.holds c.requires.still e.step e.offset e.state

pub returns-clause-takes : goal.returns-clause-takes
returns-clause-takes c = (read c).takes

pub returns-clause-stands : goal.returns-clause-stands
returns-clause-stands c = (read c).stands
