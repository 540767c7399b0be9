use Rattle.std.proofs.Common.{◌≡◌, ℕ, Bool, true, false, not, Option, Some, None, IfSome, MatchBool, sym, ap, ◌∙◌, subst}
use Rattle.std.specs.FinSet as sets
use Rattle.ert_timers.proofs.Fit.{some_left}
use Rattle.ert_timers.proofs.part.changes.exchange.Goals as goal
use Rattle.ert_timers.specs.Free.{Free, FreeSet, free_set, with_short, with_long, TakesLong, TakesNextSlot}

-- one of two facts of an answer, as a test says
of_short : (long : Bool) (o : Option ℕ) (P Q : ℕ → Type 0) → long ≡ false → IfSome o Q → IfSome o (λ k. MatchBool long (P k) (Q k))
of_short long None P Q is has = tt
of_short true (Some k) P Q is has = absurd cc
of_short false (Some k) P Q is has = has

of_long : (long : Bool) (o : Option ℕ) (P Q : ℕ → Type 0) → long ≡ true → IfSome o P → IfSome o (λ k. MatchBool long (P k) (Q k))
of_long long None P Q is has = tt
of_long false (Some k) P Q is has = absurd cc
of_long true (Some k) P Q is has = has

-- what was put, as a test says
put_on : (long : Bool) (P Q : Type 0) → long ≡ true → MatchBool (not long) P Q → Q
put_on true P Q is has = has
put_on false P Q is has = absurd cc

put_off : (long : Bool) (P Q : Type 0) → long ≡ false → MatchBool (not long) P Q → P
put_off false P Q is has = has
put_off true P Q is has = absurd cc

pub returns-then-long-clause-some : goal.returns-then-long-clause-some
returns-then-long-clause-some c =
    some_left (free_set c.args.free.now).held c.args.slot c.pick_long.result
    (λ none. ap (λ (f : FreeSet). f.held) (sym c.put.ensures.held) ∙ ap (λ xs. sets.from_list xs) (c.pick_long.ensures.none.0 none))

pub returns-then-long-clause-which : goal.returns-then-long-clause-which
returns-then-long-clause-which c =
    of_long c.args.long c.pick_long.result (TakesLong (with_short c.args.free.now c.args.slot) c.pick_long.new.self)
    (TakesNextSlot (with_long c.args.free.now c.args.slot) c.pick_long.new.self) c.if-long.true
    (subst (λ (f : Free). IfSome c.pick_long.result (TakesLong f c.pick_long.new.self))
    (put_on c.args.long (c.put.new.free ≡ with_long c.args.free.now c.args.slot) (c.put.new.free ≡ with_short c.args.free.now c.args.slot) c.if-long.true c.put.ensures.stack)
    c.pick_long.ensures.next)

pub returns-else-long-clause-some : goal.returns-else-long-clause-some
returns-else-long-clause-some c =
    some_left (free_set c.args.free.now).held c.args.slot c.pick.result
    (λ none. ap (λ (f : FreeSet). f.held) (sym c.put.ensures.held) ∙ ap (λ xs. sets.from_list xs) (c.pick.ensures.none.0 none))

pub returns-else-long-clause-which : goal.returns-else-long-clause-which
returns-else-long-clause-which c =
    of_short c.args.long c.pick.result (TakesLong (with_short c.args.free.now c.args.slot) c.pick.new.self)
    (TakesNextSlot (with_long c.args.free.now c.args.slot) c.pick.new.self) c.if-long.false
    (subst (λ (f : Free). IfSome c.pick.result (TakesNextSlot f c.pick.new.self))
    (put_off c.args.long (c.put.new.free ≡ with_long c.args.free.now c.args.slot) (c.put.new.free ≡ with_short c.args.free.now c.args.slot) c.if-long.false c.put.ensures.stack)
    c.pick.ensures.next)
