use Rattle.std.proofs.Common.{◌≡◌, ◌≤◌, List, ℕ, length, sym, ap, ◌∙◌, subst, arith}
use Rattle.std.proofs.lemmas.List.FromFn.{length-range_with_len}
use Rattle.std.specs.List.{range_with_len}
use Rattle.ert_mail.proofs.Rows.{all_turns, list_any-every, row_of}
use Rattle.ert_mail.specs.Turns.{AreTurns}
use Rattle.ert_mail.proofs.turns.Turns.new.Goals as goal

pub invariant_of-result : goal.invariant_of-result
invariant_of-result c =
    let held = c.in-Ok.held in
    let items : c.from_vec.result.items ≡ range_with_len 0 c.args.bound = c.from_vec.ensures.items ∙ c.in-Ok.ensures in
    let many : length held.items ≡ c.args.bound =
    ap (λ (xs : List ℕ). length xs) c.in-Ok.ensures ∙ length-range_with_len 0 c.args.bound in
    let room : c.args.bound ≤ c.from_vec.result.cap = omega (arith, many, held.ok.0, held.ok.1, c.from_vec.ensures.capacity) in
    subst (λ (xs : List ℕ). AreTurns (row_of c.args.bound xs) c.from_vec.result.cap) (sym items)
    (all_turns c.args.bound c.from_vec.result.cap room)

pub returns-in-Ok-clause-every : goal.returns-in-Ok-clause-every
returns-in-Ok-clause-every c number =
    rw (c.from_vec.ensures.items ∙ c.in-Ok.ensures) (list_any-every c.args.bound number)

pub returns-in-Ok-clause-order : goal.returns-in-Ok-clause-order
returns-in-Ok-clause-order c = c.from_vec.ensures.items ∙ c.in-Ok.ensures
