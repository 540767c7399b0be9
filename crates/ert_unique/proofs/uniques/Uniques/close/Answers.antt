use Rattle.std.proofs.Common.{subst}
use Rattle.std.specs.Mem.Slots.{slots_items}
use Rattle.ert_unique.specs.{Numbers.IsOneTo, Passes.draws_together}
use Rattle.ert_unique.proofs.{Closing.closes, Gathering.{first_at, one_to_rearranged}}
use Rattle.ert_unique.proofs.uniques.Uniques.close.Goals as goal

pub returns : goal.returns
returns c =
    let seat = c.gather-seat.result in
    let closed = c.close_with-closed in
    let words = slots_items closed.result.words in
    let greatest = c.word-greatest.result in
    one_to_rearranged greatest (draws_together c.args.passes.items) seat.me.0.draws c.gather-seat.ensures.draws
    (subst (λ n. IsOneTo n seat.me.0.draws) (first_at words greatest c.word-greatest.ensures)
    (closes c.args.self.table.shared.key seat.id seat.me.0 words (slots_items closed.result.slots) closed.ensures.values.2 c.gather-seat.ensures.share))
