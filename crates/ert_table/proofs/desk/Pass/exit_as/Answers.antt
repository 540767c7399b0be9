use Rattle.std.proofs.Common.{ℕ, ◌<◌, true, false, nat_eq, sym, subst, bit_or}
use Rattle.ert_defs.specs.{Words.word_count, Entries.mark_entry}
use Rattle.ert_table.specs.Acts.{Acts}
use Rattle.ert_table.proofs.{OneStep.may_step_at, ProcessActs.exit_acts, WordPlaces.process_place-high}
use Rattle.ert_table.proofs.desk.Pass.exit_as.Goals as goal

pub process_place-place-requires : goal.process_place-place-requires
process_place-place-requires g c = (c.requires.may false).keeps.2

pub fetch_or-requires : goal.fetch_or-requires
fetch_or-requires g c =
    let desk = c.args.desk.now in
    let seat = c.args.self.now.seat in
    let place = c.process_place-place.result in
    let place_is = sym c.process_place-place.ensures in
    let entry = λ (n : ℕ). mark_entry c.args.by c.args.process true (nat_eq n 1) in
    let within : place < word_count desk.settings =
    subst (λ i. i < word_count desk.settings) place_is (process_place-high desk.settings c.args.process (c.requires.may false).keeps.2) in
    let acts : Acts desk.settings seat.me.0 place (λ n. bit_or n 1) entry =
    subst (λ i. Acts desk.settings seat.me.0 i (λ n. bit_or n 1) entry) place_is
    (exit_acts desk.settings seat.me.0 c.args.by c.args.process c.requires.may) in (
      c.requires.belongs.table,
      subst (λ n. place < n) (sym desk.counted) within,
      may_step_at desk.table.shared.key desk.settings g.C.Carried.settings desk.table.shared.table_id.slots seat.id seat.me
          place (λ n. bit_or n 1) entry g.C.Carried.entry
          desk.keyed c.requires.settings c.requires.entry c.args.self.now.bare within acts,
    )
