use Rattle.std.proofs.Common.{◌≢◌, ℕ, List, Option, count_by, ap, subst, sym, rules, arith}
use Rattle.std.specs.Option.{is_some}
use Rattle.ert_wheel.proofs.{Least.{no_row, has_row}, Near.{due_by_next, near_due, above_near, above_none, early_next}, Standing.{wheel_stands, end_after}, Times.lowest, Writes.{sees, keys_of, passed_of}}
use Rattle.ert_wheel.proofs.wheel.Wheel.earliest.Goals as goal
use Rattle.ert_wheel.specs.{FirstDue.SomeRowDue, NextDue.{NoneBefore, IsEarlyOrNever, IsNextDue, MayLookAbove}, Wheels.{held_keys, stand_on, places}, declared.row.Key.Key, declared.row.TheConstants.NEVER, Rows.Held, Standing.homes_of}

pub returns-then-is_empty : goal.returns-then-is_empty
returns-then-is_empty g c = no_row c.args.self.now.keys (search rules)

pub due_at_once-requires : goal.due_at_once-requires
due_at_once-requires g c =
    let keys = c.args.self.now.keys in
    let next = c.self.inside.next_time in
    let look = wheel_stands (sees c.self.invariant.rows c.self.view_is).wheel in
    let first = c.first_window-near.ensures.first (places (stand_on next look.level look.stand.time look.stand.rank) keys) look.stand.are in
    subst (λ (n : ℕ). SomeRowDue keys n) (ap passed_of c.self.view_is)
    (due_by_next look.stand first c.first_window-near.ensures.up c.first_window-near.ensures.low (omega (arith, c.windows_end-end.ensures))
    (omega (arith, c.if-near-self.true, c.windows_end-end.ensures, end_after 0 next (omega arith) look.stand.fits, lowest next)) c.if-near-self.true)

pub early_above-requires-clause-may : goal.early_above-requires-clause-may
early_above-requires-clause-may g c =
    let keys = c.args.self.now.keys in
    let next = c.self.inside.next_time in
    let look = wheel_stands (sees c.self.invariant.rows c.self.view_is).wheel in
    let first = c.first_window-near.ensures.first (places (stand_on next look.level look.stand.time look.stand.rank) keys) look.stand.are in
    subst (λ (ks : List (Option Key)). MayLookAbove next c.self.inside.buckets ks NEVER) (sym (ap keys_of c.self.view_is))
    (above_none look.stand first c.first_window-near.ensures.up c.first_window-near.ensures.low (omega (arith, c.windows_end-end.ensures))
    (omega (arith, c.if-near-end.true)) c.windows_end-end.ensures)

pub returns-then-near-end : goal.returns-then-near-end
returns-then-near-end g c =
    let keys = c.args.self.now.keys in
    let next = c.self.inside.next_time in
    let some : count_by is_some keys ≢ 0 = λ none. (search (rules, none)) in
    let look = wheel_stands (sees c.self.invariant.rows c.self.view_is).wheel in
    let time = c.early_above.result.time in
    subst (λ (h : Held _). IsNextDue keys h.stands h.passed time) c.self.view_is
    (early_next time look.stand (has_row keys some)
    (subst (λ (ks : List (Option Key)). NoneBefore ks time) (ap keys_of c.self.view_is) c.early_above.ensures.none_before)
    (subst (λ (ks : List (Option Key)). IsEarlyOrNever ks (homes_of c.self.inside.buckets) next time) (ap keys_of c.self.view_is) c.early_above.ensures.early))

pub returns-then-near-self-2 : goal.returns-then-near-self-2
returns-then-near-self-2 g c =
    let keys = c.args.self.now.keys in
    let next = c.self.inside.next_time in
    let look = wheel_stands (sees c.self.invariant.rows c.self.view_is).wheel in
    let first = c.first_window-near.ensures.first (places (stand_on next look.level look.stand.time look.stand.rank) keys) look.stand.are in
    subst (λ (h : Held _). IsNextDue keys h.stands h.passed c.begin_in-first.result.time) c.self.view_is
    (subst (λ (n : ℕ). IsNextDue keys (homes_of c.self.inside.buckets) next n) (sym c.begin_in-first.ensures)
    (near_due look.stand first c.first_window-near.ensures.up c.first_window-near.ensures.low (omega (arith, c.windows_end-end.ensures))
    (homes_of c.self.inside.buckets) (omega (arith, c.if-near-self.false, c.first_window-near.ensures.up)) (omega (arith, c.if-near-self-2.true)) c.windows_end-end.ensures))

pub early_above-requires-2-clause-may : goal.early_above-requires-2-clause-may
early_above-requires-2-clause-may g c =
    let keys = c.args.self.now.keys in
    let next = c.self.inside.next_time in
    let look = wheel_stands (sees c.self.invariant.rows c.self.view_is).wheel in
    let first = c.first_window-near.ensures.first (places (stand_on next look.level look.stand.time look.stand.rank) keys) look.stand.are in
    subst (λ (n : ℕ). MayLookAbove next c.self.inside.buckets (held_keys c.self.inside.buckets c.self.inside.kept.keys) n) (sym c.begin_in-first.ensures)
    (subst (λ (ks : List (Option Key)). MayLookAbove next c.self.inside.buckets ks c.first_window-near.result) (sym (ap keys_of c.self.view_is))
    (above_near look.stand first c.first_window-near.ensures.up c.first_window-near.ensures.low (omega (arith, c.windows_end-end.ensures))
    (omega (arith, c.if-near-end.false, c.first_window-near.ensures.low))
    (omega (arith, c.if-near-self.false, c.first_window-near.ensures.up))))

pub returns : goal.returns
returns g c =
    let keys = c.args.self.now.keys in
    let next = c.self.inside.next_time in
    let some : count_by is_some keys ≢ 0 = λ none. (search (rules, none)) in
    let look = wheel_stands (sees c.self.invariant.rows c.self.view_is).wheel in
    let time = c.early_above-2.result.time in
    subst (λ (h : Held _). IsNextDue keys h.stands h.passed time) c.self.view_is
    (early_next time look.stand (has_row keys some)
    (subst (λ (ks : List (Option Key)). NoneBefore ks time) (ap keys_of c.self.view_is) c.early_above-2.ensures.none_before)
    (subst (λ (ks : List (Option Key)). IsEarlyOrNever ks (homes_of c.self.inside.buckets) next time) (ap keys_of c.self.view_is) c.early_above-2.ensures.early))
