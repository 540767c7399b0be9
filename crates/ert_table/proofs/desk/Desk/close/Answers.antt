use Rattle.std.proofs.Common.{◌≡◌, ◌∙◌, ◌*◌, slice_index, arith, sym, vec_len}
use Rattle.std.specs.Mem.Slots.{slots_items}
use Rattle.ert_defs.specs.States.{state}
use Rattle.ert_table.proofs.Closings.{get_at, closed_words, close_words}
use Rattle.ert_table.proofs.desk.Desk.close.Goals as goal

pub returns : goal.returns
returns c =
    let g = c.args.self.settings in
    let closed = c.close_with-closed in
    let found = slots_items closed.result.words in
    let timers_length : vec_len c.in_ok-timers.timers ≡ g.schedulers * g.slots = c.in_ok-timers.ensures.length in
    let processes_length : vec_len c.in_ok-processes.processes ≡ g.processes = c.in_ok-processes.ensures.length in
    close_words g (state g c.args.pass.seat.me.0.front) (λ i. slice_index found i) _
    (closed_words c.args.self.table.shared.key g c.args.pass.seat.id c.args.pass.seat.me.0 found (slots_items closed.result.slots)
    c.args.self.keyed closed.ensures.values.2 c.requires.whole)
    (sym (get_at found 8 c.word.result c.word.ensures))
    (sym (get_at found 16 c.word-2.result c.word-2.ensures))
    (c.read_timers.ensures.length ∙ timers_length)
    (λ i lt. c.read_timers.ensures.timers i (omega arith))
    (c.read_processes.ensures.length ∙ processes_length)
    (λ p lt. c.read_processes.ensures.processes p (omega arith))
