use Rattle.std.proofs.Common.{◌≡◌, ℕ, ◌<◌, ◌∙◌, None, sym, subst, subst₂}
use mathlib.Core.Option.{none}
use Rattle.atomic_table.specs.Table.{step}
use Rattle.ert_defs.specs.{States.state, Words.{word_count, word_of}}
use Rattle.ert_table.specs.{Acts.Acts, Places.slot_place, Settlings.{wheel_in, slot_in, read_entry, parts_in}}
use Rattle.ert_table.proofs.{OneStep.may_load_at, ReadActs.{read_slot, read_acts}, WordPlaces.{slot_place-high, word_of-slot}}
use Rattle.ert_table.proofs.desk.Pass.load_timer_as.Goals as goal

pub load-requires : goal.load-requires
load-requires g c =
    let desk = c.args.desk.now in
    let seat = c.args.self.now.seat in
    let carry = c.args.carry.now in
    let look = (state desk.settings seat.me.0.front).looked c.args.by in
    let place = c.args.place in
    let place_is : slot_place desk.settings (wheel_in carry) (slot_in carry) ≡ place = sym c.requires.place in
    let entry = λ (n : ℕ). read_entry desk.settings look c.args.by carry (parts_in n) in
    let slot = read_slot desk.settings look c.args.by carry None (c.requires.may None).keeps in
    let within : place < word_count desk.settings =
    subst (λ i. i < word_count desk.settings) place_is (slot_place-high desk.settings (wheel_in carry) (slot_in carry) slot.wheel_high slot.slot_high) in
    let acts : Acts desk.settings seat.me.0 place (λ n. n) entry =
    subst (λ i. Acts desk.settings seat.me.0 i (λ n. n) entry) place_is (read_acts desk.settings seat.me.0 c.args.by carry c.requires.may) in (
      c.requires.belongs.table,
      subst (λ n. place < n) (sym desk.counted) within,
      may_load_at desk.table.shared.key desk.settings g.C.Carried.settings desk.table.shared.table_id.slots seat.id seat.me
          (step desk.table.shared.table_id.slots place 0 0 none) entry g.C.Carried.entry
          desk.keyed c.requires.settings c.requires.entry c.args.self.now.bare within acts,
    )

pub returns-clause-word : goal.returns-clause-word
returns-clause-word g c =
    let desk = c.args.desk.now in
    let carry = c.args.carry.now in
    let front = c.load.new.seat.me.0.front in
    let n = c.load.result in
    let look = (state desk.settings c.args.self.now.seat.me.0.front).looked c.args.by in
    let slot = read_slot desk.settings look c.args.by carry None (c.requires.may None).keeps in
    let word = subst₂ (λ s i. word_of s (state s front) i ≡ n) c.requires.settings c.requires.place c.load.ensures.2.3 in
    sym (word_of-slot desk.settings (state desk.settings front) (wheel_in carry) (slot_in carry) slot.wheel_high slot.slot_high) ∙ word
