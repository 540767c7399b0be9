use Rattle.std.proofs.Common.{◌≡◌, ◌∙◌, ◌<◌, length, slice_index, arith, below_more, sym, ap, set, get_or-set_same, get_or-set_other, rules}
use Rattle.std.specs.Mem.Slots.{slots_items}
use Rattle.ert_table.specs.Places.{process_place}
use Rattle.ert_table.proofs.Closings.{get_at}
use Rattle.ert_table.proofs.opening.read_processes.Goals as goal

pub loop-p-preserved : goal.loop-p-preserved
loop-p-preserved c =
    let processes = c.loop-p.processes.items in
    let p = c.loop-p.p in
    let found = slots_items c.args.closed.now.words in
    let within : p < length processes = omega (arith, c.loop-p.processes.ok.0, c.loop-p.invariant.length) in
    record {
      length = search rules;
      read = below_more (λ k. slice_index (set processes p c.word.result) k ≡ slice_index found (process_place c.args.settings.now k)) p
          (λ k lt. get_or-set_other processes p k c.word.result 0 (λ h. omega arith) ∙ c.loop-p.invariant.read k lt)
          (get_or-set_same processes p c.word.result 0 within
          ∙ (sym (get_at found c.process_place.result c.word.result c.word.ensures) ∙ ap (λ x. slice_index found x) c.process_place.ensures));
    }
