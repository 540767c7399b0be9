use Rattle.std.proofs.Common.{◌≡◌, ◌+◌, ◌*◌, ◌%◌, inl, inr, bit_and, ap}
use Rattle.std.proofs.lemmas.Nat.{and_mask}
use Rattle.ert_wheel.proofs.{Turning.{near_window, far_window}, marked.MarkedChains.first_window.Goals.{then-found-last-via-then-found-last, then-found-last-via-else-found-last+then-stop-le1024}}
use Rattle.ert_wheel.proofs.marked.MarkedChains.first_window.Goals as goal

pub returns-then-found-last-clause-first : goal.returns-then-found-last-clause-first
returns-then-found-last-clause-first c = λ places are.
    let at : bit_and c.args.from 1023 ≡ c.args.from % 1024 = and_mask c.args.from 10 in
    let first = c.first_used-found in
    near_window c.args.self.now places c.args.level c.args.from c.args.end (bit_and c.args.from 1023) (c.args.level * 1024 + c.min.result) c.requires.from c.requires.few at
    (ap (λ n. c.args.level * 1024 + n) c.min.ensures)
    first.result (first.ensures.first places are) first.ensures.up first.ensures.low
    (elim c.then-found-last.branch [
      | then-found-last-via-then-found-last w ↦ inl w.if-found-last.true
      | then-found-last-via-else-found-last+then-stop-le1024 w ↦ inr w.if-stop-le1024.true
    ])

pub returns-clause-first : goal.returns-clause-first
returns-clause-first c = λ places are.
    let at : bit_and c.args.from 1023 ≡ c.args.from % 1024 = and_mask c.args.from 10 in
    let first = c.first_used-found in
    let then = c.first_used-found-2 in
    far_window c.args.self.now places c.args.level c.args.from c.args.end (bit_and c.args.from 1023) (c.args.level * 1024 + c.min.result) c.requires.from c.requires.few at
    (ap (λ n. c.args.level * 1024 + n) c.min.ensures)
    first.result then.result (first.ensures.first places are) c.if-found-last.false c.if-stop-le1024.false
    (then.ensures.first places are) then.ensures.up then.ensures.low
