use Rattle.std.proofs.Common.{ap, sym, ◌∙◌, arith}
use Rattle.std.proofs.lemmas.Bool.{true≢false}
use Rattle.ert_wheel.proofs.{Tellers.due_row, Views.key_stored, Writes.keys_of}
use Rattle.ert_wheel.proofs.wheel.Wheel.is_due_at.Goals as goal
use Rattle.ert_wheel.specs.Rows.{key_in}

pub returns-then-slot-len : goal.returns-then-slot-len
returns-then-slot-len g c = (
  λ yes. absurd (true≢false (sym yes)),
  λ due.
      let low = key_stored c.self.inside.buckets c.self.inside.kept.keys c.args.slot due.key (ap (λ ks. key_in ks c.args.slot) (ap keys_of c.self.view_is) ∙ due.has) in
      absurd (omega (arith, low, c.if-slot-len.true, c.len.ensures.keys)),
)

pub returns-in-Some : goal.returns-in-Some
returns-in-Some g c = due_row c.args.self.now.keys c.args.time c.args.slot c.in-Some.row (sym c.in-Some.is ∙ c.row.ensures)
