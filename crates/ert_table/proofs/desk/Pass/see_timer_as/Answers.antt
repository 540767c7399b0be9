use Rattle.std.proofs.Common.{◌≡◌, ◌<◌, ◌∙◌, sym, ap, subst}
use mathlib.Core.Option.{none}
use Rattle.atomic_table.specs.Table.{step}
use Rattle.ert_defs.specs.{States.state, Words.{word_count, word_of}}
use Rattle.ert_table.specs.Held.{IsWhole}
use Rattle.ert_table.proofs.{WholeLoads.sees_at, WordPlaces.{slot_place-high, word_of-slot}}
use Rattle.ert_table.proofs.desk.Pass.see_timer_as.Goals as goal

pub load-requires : goal.load-requires
load-requires g c =
    let desk = c.args.desk.now in
    let seat = c.args.self.now.seat in
    let place = c.slot_place-place.result in
    let within : place < word_count desk.settings =
    subst (λ i. i < word_count desk.settings) (sym c.slot_place-place.ensures)
    (slot_place-high desk.settings c.args.wheel c.args.slot c.requires.slot.wheel_high c.requires.slot.slot_high) in (
      c.requires.belongs.table,
      subst (λ n. place < n) (sym desk.counted) within,
      sees_at desk.table.shared.key g.C.Named.settings desk.table.shared.table_id.slots seat.id seat.me
          (step desk.table.shared.table_id.slots place 0 0 none)
          (desk.keyed ∙ sym c.requires.pick) c.args.self.now.bare
          (subst (λ k. IsWhole k seat.me.0.actors) (sym desk.keyed) c.requires.whole) (subst (λ k. place < word_count k) (sym desk.keyed) within),
    )

pub returns-clause-word : goal.returns-clause-word
returns-clause-word g c =
    let desk = c.args.desk.now in
    let front = c.args.self.now.seat.me.0.front in
    let n = c.load.result in
    sym (word_of-slot desk.settings (state desk.settings front) c.args.wheel c.args.slot c.requires.slot.wheel_high c.requires.slot.slot_high)
    ∙ (ap (λ i. word_of desk.settings (state desk.settings front) i) (sym c.slot_place-place.ensures)
    ∙ subst (λ s. word_of s (state s front) c.slot_place-place.result ≡ n) c.requires.pick c.load.ensures.2.2)
