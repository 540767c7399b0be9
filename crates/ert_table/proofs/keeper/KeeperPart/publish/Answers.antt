use Rattle.std.proofs.Common.{rules, FitsSigned, w64}
use Rattle.std.proofs.lemmas.Int.{to_z-of_z}
use Rattle.ert_defs.specs.{Entries.{keeper_entry, tick_entry}, declared.entry.Event.TheVariants.Shift}
use Rattle.ert_clock.specs.Ticks.{state_by, tick_entries}
use Rattle.ert_table.specs.Takes.{Appends}
use Rattle.ert_table.proofs.{Steps.{Published, may_store_offset, tick_published, shift_published}, keeper.KeeperPart.publish.Goals.{After-state_by, After-store_offset, In_default}}
use Rattle.ert_table.proofs.keeper.KeeperPart.publish.Goals as goal

pub store_offset-requires-clause-may : goal.store_offset-requires-clause-may
store_offset-requires-clause-may c =
    let g = c.args.desk.now.settings in
    let v = c.args.pass.now.seat.me.0 in
    let w = c.store_time.new.self.seat.me.0 in
    let fits : FitsSigned w64 c.in-Some.offset = search rules in
    let now : FitsSigned w64 c.args.moved.now = search rules in
    let tick : Appends g v (tick_entry c.args.by c.args.reading c.args.act c.args.moved.now) w =
    rw (to_z-of_z w64 c.args.moved.now now) at c.store_time.ensures.step in
    rw (to_z-of_z w64 c.in-Some.offset fits, c.state_by.ensures)
    (may_store_offset g v w c.args.by c.args.reading c.args.act c.args.moved c.args.self.now c.in-Some.offset
    c.requires.holds c.requires.ahead c.in-Some.is tick)

-- the time and the offset are published
with_shift : (c : After-store_offset) → Published c.args.desk.now.settings c.args.pass.now.seat.me.0
    (tick_entries c.args.by c.args.reading c.args.act c.args.moved.now c.args.moved.shift)
    c.store_offset.new.self.seat.me.0 c.args.self.now
with_shift c =
    let g = c.args.desk.now.settings in
    let v = c.args.pass.now.seat.me.0 in
    let w = c.store_time.new.self.seat.me.0 in
    let x = c.store_offset.new.self.seat.me.0 in
    let fits : FitsSigned w64 c.in-Some.offset = search rules in
    let now : FitsSigned w64 c.args.moved.now = search rules in
    let tick : Appends g v (tick_entry c.args.by c.args.reading c.args.act c.args.moved.now) w =
    rw (to_z-of_z w64 c.args.moved.now now) at c.store_time.ensures.step in
    let shift : Appends g w (keeper_entry c.args.by (Shift c.in-Some.offset (state_by c.args.act))) x =
    rw (to_z-of_z w64 c.in-Some.offset fits, c.state_by.ensures) at c.store_offset.ensures.step in
    shift_published g v w x c.args.by c.args.reading c.args.act c.args.moved c.args.self.now c.in-Some.offset
    c.requires.holds c.requires.ahead c.in-Some.is tick shift

pub returns-in-Some-clause-takes : goal.returns-in-Some-clause-takes
returns-in-Some-clause-takes c = (with_shift c).takes

pub returns-in-Some-clause-stands : goal.returns-in-Some-clause-stands
returns-in-Some-clause-stands c = (with_shift c).stands

-- the time alone is
without_shift : (c : In_default) → Published c.args.desk.now.settings c.args.pass.now.seat.me.0
    (tick_entries c.args.by c.args.reading c.args.act c.args.moved.now c.args.moved.shift)
    c.store_time.new.self.seat.me.0 c.args.self.now
without_shift c =
    let g = c.args.desk.now.settings in
    let v = c.args.pass.now.seat.me.0 in
    let w = c.store_time.new.self.seat.me.0 in
    let now : FitsSigned w64 c.args.moved.now = search rules in
    let tick : Appends g v (tick_entry c.args.by c.args.reading c.args.act c.args.moved.now) w =
    rw (to_z-of_z w64 c.args.moved.now now) at c.store_time.ensures.step in
    tick_published g v w c.args.by c.args.reading c.args.act c.args.moved c.args.self.now
    c.requires.holds c.requires.ahead c.in_default.is tick

pub returns-in_default-clause-takes : goal.returns-in_default-clause-takes
returns-in_default-clause-takes c = (without_shift c).takes

pub returns-in_default-clause-stands : goal.returns-in_default-clause-stands
returns-in_default-clause-stands c = (without_shift c).stands
