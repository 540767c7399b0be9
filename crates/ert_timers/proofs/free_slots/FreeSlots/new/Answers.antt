use Rattle.std.proofs.Common.{◌≡◌, List, ℕ, [], nat_lt, sym, subst, arith}
use Rattle.std.specs.FinSet as set
use Rattle.ert_timers.proofs.Stacks.{all_free, none_taken}
use Rattle.ert_timers.specs.Free.{Free, IsStacked, free_at, free_set}
use Rattle.ert_timers.proofs.free_slots.FreeSlots.new.Goals as goal

pub invariant_of-result : goal.invariant_of-result
invariant_of-result c =
    let short = c.in_ok-short in
    let long = c.in_ok-long in
    subst (λ (xs : List ℕ). IsStacked c.args.slots 0 xs long.long.items short.short.cap long.long.cap) (sym short.ensures.items)
    (subst (λ (ys : List ℕ). IsStacked c.args.slots 0 [] ys short.short.cap long.long.cap) (sym long.ensures.items)
    (none_taken c.args.slots short.short.cap long.long.cap (omega (arith, short.ensures.capacity)) (omega (arith, long.ensures.capacity))))

pub returns-clause-fresh : goal.returns-clause-fresh
returns-clause-fresh c = λ i. free_at c.args.slots 0 (c.in_ok-short.ensures.items i) (c.in_ok-long.ensures.items i)

pub returns-clause-every : goal.returns-clause-every
returns-clause-every c slot =
    subst (λ (f : Free). set.contains (free_set f).held slot ≡ nat_lt slot c.args.slots)
    (sym (λ i. free_at c.args.slots 0 (c.in_ok-short.ensures.items i) (c.in_ok-long.ensures.items i))) (all_free c.args.slots slot)
