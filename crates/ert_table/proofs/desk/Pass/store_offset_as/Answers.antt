use Rattle.std.proofs.Common.{◌≡◌, ◌∙◌, ap, subst, sym, arith}
use Rattle.std.specs.Int.{w64}
use Rattle.std.proofs.lemmas.Int.{to_z-of_z}
use Rattle.ert_defs.specs.{Words.{offset_word, is_final}, declared.entry.Entry.Entry, Entries.shift_entry}
use Rattle.ert_table.specs.Acts.{Acts}
use Rattle.ert_table.proofs.{ClockActs.{shift_is, shift_acts}, OneStep.may_store_at}
use Rattle.ert_table.proofs.desk.Pass.store_offset_as.Goals as goal

pub offset_word-word-requires : goal.offset_word-word-requires
offset_word-word-requires g c =
    let desk = c.args.desk.now in
    let pass = c.args.self.now in
    rw (to_z-of_z w64 c.args.offset c.ranges.offset)
    (shift_is desk.settings c.args.by c.args.offset c.args.state pass.seat.me.0 desk.checked c.requires.belongs.named c.requires.may pass.legal)

pub store-requires : goal.store-requires
store-requires g c =
    let desk = c.args.desk.now in
    let seat = c.args.self.now.seat in
    let made = rw (to_z-of_z w64 c.args.offset c.ranges.offset) at c.offset_word-word.ensures in
    let word : offset_word c.args.offset (is_final c.args.state) ≡ c.offset_word-word.result =
    ap (λ b. offset_word c.args.offset b) (sym c.state_is_final.ensures) ∙ sym made in
    let entry : Entry = shift_entry c.args.by c.args.offset c.args.state in
    let acts : Acts desk.settings seat.me.0 16 (λ n. c.offset_word-word.result) (λ n. entry) =
    subst (λ x. Acts desk.settings seat.me.0 16 (λ n. x) (λ n. entry)) word
    (shift_acts desk.settings seat.me.0 c.args.by c.args.offset c.args.state c.requires.may) in (
      c.requires.belongs.table,
      omega (arith, desk.counted),
      may_store_at desk.table.shared.key desk.settings g.C.Carried.settings desk.table.shared.table_id.slots seat.id seat.me
          16 c.offset_word-word.result entry g.C.Carried.entry
          desk.keyed c.requires.settings c.requires.entry c.args.self.now.bare (omega arith) acts,
    )
