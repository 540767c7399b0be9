use Rattle.std.proofs.Common.{◌≡◌, ℕ, ◌<◌, List, nat_eq, sym, subst, subst₂}
use mathlib.Core.Option.{none}
use prog.Atomic.{either}
use Rattle.atomic_table.specs.Table.{step}
use Rattle.ert_defs.specs.{States.state, Words.{timer_word, word_count}, declared.entry.Actor.TheVariants.Caller, declared.entry.Entry.Entry, declared.timer.Status.TheVariants.Armed}
use Rattle.ert_table.specs.{Acts.ActsAll, Places.slot_place, Renewals.renewal, Ranges.word_deadline}
use Rattle.ert_table.proofs.{OneStep.{may_compare_all_at, finds_all_as}, RenewActs.renew_acts, WordPlaces.slot_place-high}
use Rattle.ert_table.proofs.desk.Pass.renew_as.Goals as goal

pub compare_exchange-found-requires : goal.compare_exchange-found-requires
compare_exchange-found-requires g c =
    let desk = c.args.desk.now in
    let seat = c.args.self.now.seat in
    let timer = c.args.timer in
    let start = c.args.start.now in
    let place = c.args.place.place in
    let word = c.args.read.word in
    let deadline = word_deadline word in
    let look = (state desk.settings seat.me.0.front).looked (Caller c.args.by) in
    let place_is = sym c.requires.place in
    let old : timer_word Armed deadline timer.generation ≡ word = sym c.requires.read.is in
    let new : timer_word Armed c.args.deadline c.args.generation ≡ c.args.word = sym c.requires.word in
    let entries : ℕ → List Entry = λ n. renewal desk.settings look c.args.by timer deadline c.args.generation start (nat_eq n word) in
    let within : place < word_count desk.settings =
    subst (λ i. i < word_count desk.settings) place_is
    (slot_place-high desk.settings timer.wheel timer.slot c.requires.may.slot.wheel_high c.requires.may.slot.slot_high) in
    let acts : ActsAll desk.settings seat.me.0 place (λ n. either (nat_eq n word) c.args.word n) entries =
    subst (λ i. ActsAll desk.settings seat.me.0 i (λ n. either (nat_eq n word) c.args.word n) entries) place_is
    (subst₂ (λ a b. ActsAll desk.settings seat.me.0 (slot_place desk.settings timer.wheel timer.slot) (λ n. either (nat_eq n a) b n)
    (λ n. renewal desk.settings look c.args.by timer deadline c.args.generation start (nat_eq n a))) old new
    (renew_acts desk.settings seat.me.0 c.args.by timer deadline c.args.generation start c.args.deadline c.requires.may c.requires.read.row
    c.requires.deadline)) in (
      c.requires.belongs.table,
      subst (λ n. place < n) (sym desk.counted) within,
      may_compare_all_at desk.table.shared.key desk.settings g.C.CarriedAll.settings desk.table.shared.table_id.slots seat.id seat.me
          (step desk.table.shared.table_id.slots place word c.args.word none)
          (λ n. either (nat_eq n word) c.args.word n) entries g.C.CarriedAll.entries
          desk.keyed c.requires.settings c.requires.entries c.args.self.now.bare within acts,
    )

pub returns-clause-step : goal.returns-clause-step
returns-clause-step g c =
    let desk = c.args.desk.now in
    let v = c.args.self.now.seat.me.0 in
    let w = c.compare_exchange-found.new.seat.me.0 in
    let word = c.args.read.word in
    let n = c.compare_exchange-found.result in
    let look = (state desk.settings v.front).looked (Caller c.args.by) in
    let finds = finds_all_as desk.settings g.C.CarriedAll.settings v c.args.place.place n
    (λ n. renewal desk.settings look c.args.by c.args.timer (word_deadline word) c.args.generation c.args.start.now (nat_eq n word)) g.C.CarriedAll.entries
    w c.requires.settings c.requires.entries c.compare_exchange-found.ensures.2.2 in
    finds.step
