use Rattle.std.proofs.Common.{◌≡◌, ◌∙◌, ◌<◌, ◌/◌, ◌%◌, length, slice_index, arith, below_more, sym, ap, set, get_or-set_same, get_or-set_other, rules}
use Rattle.std.specs.Mem.Slots.{slots_items}
use Rattle.ert_table.specs.Places.{slot_place}
use Rattle.ert_table.proofs.Closings.{get_at}
use Rattle.ert_table.proofs.opening.read_timers.Goals as goal

pub loop-i-preserved : goal.loop-i-preserved
loop-i-preserved c =
    let timers = c.loop-i.timers.items in
    let i = c.loop-i.i in
    let g = c.args.settings.now in
    let found = slots_items c.args.closed.now.words in
    let within : i < length timers = omega (arith, c.loop-i.timers.ok.0, c.loop-i.invariant.length) in
    record {
      length = search rules;
      read = below_more (λ k. slice_index (set timers i c.word.result) k ≡ slice_index found (slot_place g (k / g.slots) (k % g.slots))) i
          (λ k lt. get_or-set_other timers i k c.word.result 0 (λ h. omega arith) ∙ c.loop-i.invariant.read k lt)
          (get_or-set_same timers i c.word.result 0 within
          ∙ (sym (get_at found c.slot_place.result c.word.result c.word.ensures) ∙ ap (λ x. slice_index found x) c.slot_place.ensures));
    }
