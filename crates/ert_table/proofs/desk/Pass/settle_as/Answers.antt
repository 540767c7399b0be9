use Rattle.std.proofs.Common.{◌≡◌, ◌<◌, ◌∙◌, Bool, nat_eq, rules, sym, ap, subst, subst₂}
use mathlib.Core.Option.{none}
use prog.Atomic.{either}
use Rattle.atomic_table.specs.Table.{step}
use Rattle.ert_defs.specs.{States.state, Words.{timer_word, word_count}}
use Rattle.ert_table.specs.{Acts.Acts, Places.slot_place, Settlings.{status_from, status_to, settle_entry}}
use Rattle.ert_table.proofs.{OneStep.{may_compare_at, finds_as}, SlotFacts.timer_is, Hits.hit_slot, SettleActs.{settle_acts, settle_tells, settle_settles}, WordPlaces.slot_place-high}
use Rattle.ert_table.proofs.desk.Pass.settle_as.Goals as goal

pub compare_exchange-found-requires : goal.compare_exchange-found-requires
compare_exchange-found-requires g c =
    let desk = c.args.desk.now in
    let seat = c.args.self.now.seat in
    let how = c.args.how in
    let timer = c.args.timer in
    let deadline = c.args.deadline in
    let front = state desk.settings seat.me.0.front in
    let place = c.args.place in
    let word = c.args.word in
    let place_is = sym c.requires.place in
    let fits = timer_is desk.settings seat.me.0 timer deadline c.requires.belongs.named c.args.self.now.legal c.requires.row in
    let old : timer_word (status_from how) deadline timer.generation ≡ word = sym c.requires.word in
    let new : timer_word (status_to how) deadline timer.generation ≡ c.word_after-new.result =
    sym (c.word_after-new.ensures (status_from how) deadline fits c.requires.word
    ∙ ap (λ x. timer_word x deadline timer.generation) c.status_after.ensures) in
    let entry = settle_entry desk.settings front c.args.by timer deadline how in
    let slot = hit_slot desk.settings front c.args.by timer deadline how c.requires.may.keeps in
    let within : place < word_count desk.settings =
    subst (λ i. i < word_count desk.settings) place_is (slot_place-high desk.settings timer.wheel timer.slot slot.wheel_high slot.slot_high) in
    let acts : Acts desk.settings seat.me.0 place (λ n. either (nat_eq n word) c.word_after-new.result n) entry =
    subst (λ i. Acts desk.settings seat.me.0 i (λ n. either (nat_eq n word) c.word_after-new.result n) entry) place_is
    (subst₂ (λ a b. Acts desk.settings seat.me.0 (slot_place desk.settings timer.wheel timer.slot) (λ n. either (nat_eq n a) b n) entry) old new
    (settle_acts desk.settings seat.me.0 c.args.by timer deadline how c.requires.may c.requires.row)) in (
      c.requires.belongs.table,
      subst (λ n. place < n) (sym desk.counted) within,
      may_compare_at desk.table.shared.key desk.settings g.C.Carried.settings desk.table.shared.table_id.slots seat.id seat.me
          (step desk.table.shared.table_id.slots place word c.word_after-new.result none)
          (λ n. either (nat_eq n word) c.word_after-new.result n) entry g.C.Carried.entry
          desk.keyed c.requires.settings c.requires.entry c.args.self.now.bare within acts,
    )

pub returns : goal.returns
returns g c =
    let desk = c.args.desk.now in
    let v = c.args.self.now.seat.me.0 in
    let w = c.compare_exchange-found.new.seat.me.0 in
    let timer = c.args.timer in
    let how = c.args.how in
    let n = c.compare_exchange-found.result in
    let finds = finds_as desk.settings g.C.Carried.settings v (slot_place desk.settings timer.wheel timer.slot) c.args.place n
    (settle_entry desk.settings (state desk.settings v.front) c.args.by timer c.args.deadline how) g.C.Carried.entry
    w c.requires.settings c.requires.place c.requires.entry c.compare_exchange-found.ensures.2.2 in
    let old : timer_word (status_from how) c.args.deadline timer.generation ≡ c.args.word = sym c.requires.word in
    let hit : Bool = nat_eq n c.args.word in
    let is = ap (λ x. nat_eq n x) old in
    record {
      belongs = search rules;
      step = settle_tells desk.settings v c.args.by timer c.args.deadline how c.requires.may c.requires.row w n finds hit is;
      settled = settle_settles desk.settings v c.args.by timer c.args.deadline how c.requires.may c.requires.row w n finds hit is;
    }
