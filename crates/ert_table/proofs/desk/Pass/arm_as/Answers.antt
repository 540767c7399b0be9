use Rattle.std.proofs.Common.{◌<◌, sym, subst, subst₂}
use Rattle.ert_defs.specs.{Words.word_count, declared.entry.Entry.Entry, Entries.arm_entry}
use Rattle.ert_table.specs.Acts.{Acts}
use Rattle.ert_table.proofs.{ArmActs.arm_acts, OneStep.may_store_at, WordPlaces.slot_place-high}
use Rattle.ert_table.proofs.desk.Pass.arm_as.Goals as goal

pub store-requires : goal.store-requires
store-requires g c =
    let desk = c.args.desk.now in
    let seat = c.args.self.now.seat in
    let timer = c.args.timer in
    let place = c.args.place.place in
    let place_is = sym c.requires.place in
    let slot = c.requires.may.keeps.2 in
    let entry : Entry = arm_entry c.args.by timer c.args.start.now in
    let within : place < word_count desk.settings =
    subst (λ i. i < word_count desk.settings) place_is (slot_place-high desk.settings timer.wheel timer.slot slot.wheel_high slot.slot_high) in
    let acts : Acts desk.settings seat.me.0 place (λ n. c.args.word) (λ n. entry) =
    subst₂ (λ i m. Acts desk.settings seat.me.0 i (λ n. m) (λ n. entry)) place_is (sym c.requires.word)
    (arm_acts desk.settings seat.me.0 c.args.by timer c.args.start.now c.args.deadline c.requires.may c.requires.deadline) in (
      c.requires.belongs.table,
      subst (λ n. place < n) (sym desk.counted) within,
      may_store_at desk.table.shared.key desk.settings g.C.Carried.settings desk.table.shared.table_id.slots seat.id seat.me
          place c.args.word entry g.C.Carried.entry
          desk.keyed c.requires.settings c.requires.entry c.args.self.now.bare within acts,
    )
