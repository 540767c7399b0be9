use Rattle.std.proofs.Common.{◌≡◌, subst, sym, arith, rules, FitsSigned}
use Rattle.std.specs.Int.{w64}
use Rattle.std.proofs.lemmas.Int.{to_z-of_z}
use Rattle.ert_defs.specs.{Words.time_word, declared.entry.Entry.Entry, Entries.tick_entry}
use Rattle.ert_table.specs.Acts.{Acts}
use Rattle.ert_table.proofs.{ClockActs.{tick_is, tick_acts}, OneStep.{has_time, may_store_at}}
use Rattle.ert_table.proofs.desk.Pass.store_time_as.Goals as goal

pub time_word-word-requires : goal.time_word-word-requires
time_word-word-requires g c =
    let desk = c.args.desk.now in
    let pass = c.args.self.now in
    let start : FitsSigned w64 desk.settings.start = search rules in
    rw (to_z-of_z w64 c.args.now c.ranges.now, to_z-of_z w64 desk.settings.start start)
    (tick_is desk.settings c.args.by c.args.reading c.args.act c.args.now pass.seat.me.0 desk.checked c.requires.belongs.named c.requires.may pass.legal)

pub store-requires : goal.store-requires
store-requires g c =
    let desk = c.args.desk.now in
    let seat = c.args.self.now.seat in
    let start : FitsSigned w64 desk.settings.start = search rules in
    let word : time_word c.args.now desk.settings.start ≡ c.time_word-word.result =
    sym (rw (to_z-of_z w64 c.args.now c.ranges.now, to_z-of_z w64 desk.settings.start start) at c.time_word-word.ensures) in
    let entry : Entry = tick_entry c.args.by c.args.reading c.args.act c.args.now in
    let acts : Acts desk.settings seat.me.0 8 (λ n. c.time_word-word.result) (λ n. entry) =
    subst (λ x. Acts desk.settings seat.me.0 8 (λ n. x) (λ n. entry)) word
    (tick_acts desk.settings seat.me.0 c.args.by c.args.reading c.args.act c.args.now c.requires.may) in (
      c.requires.belongs.table,
      has_time _ desk.settings desk.counted,
      may_store_at desk.table.shared.key desk.settings g.C.Carried.settings desk.table.shared.table_id.slots seat.id seat.me
          8 c.time_word-word.result entry g.C.Carried.entry
          desk.keyed c.requires.settings c.requires.entry c.args.self.now.bare (omega arith) acts,
    )
