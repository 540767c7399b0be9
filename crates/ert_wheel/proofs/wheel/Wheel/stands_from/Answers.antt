use Rattle.std.proofs.Common.{◌*◌, ◌^◌, ◌∙◌, ℕ, IfNone, IfSome, ap, inl, inr, subst, sym, arith}
use Rattle.ert_wheel.proofs.{Standing.wheel_stands, Tellers.{found_none, found_tells, none_begins, none_early}, Writes.sees, wheel.Wheel.stands_from.Goals.then-time-self-via-then-time-self}
use Rattle.ert_wheel.proofs.{wheel.Wheel.stands_from.Goals.then-time-self-via-else-time-self+then-begin_of-time}
use Rattle.ert_wheel.proofs.wheel.Wheel.stands_from.Goals as goal
use Rattle.ert_wheel.specs.{NextDue.{NoneBeginsOn, TellsNext}, Rings.Finds, Rows.Held, Wheels.{stand_on, places}}

pub returns-then-time-self-clause-none : goal.returns-then-time-self-clause-none
returns-then-time-self-clause-none g c =
    let keys = c.args.self.now.keys in
    let look = wheel_stands (sees c.self.invariant.rows c.self.view_is).wheel in
    subst (λ (h : Held _). NoneBeginsOn keys h.stands h.passed c.args.level c.args.time) c.self.view_is
    (elim c.then-time-self.branch [
      | then-time-self-via-then-time-self w ↦ none_early c.self.inside.next_time c.args.level c.args.time (omega (arith, w.if-time-self.true))
      | then-time-self-via-else-time-self+then-begin_of-time w ↦
          none_begins look.stand c.args.level c.args.time
          (inl (λ e. w.if-begin_of-time.true (w.begin_of.ensures ∙ ap (λ n. n * 512 ^ c.args.level) c.window_on-window.ensures ∙ e)))
    ])

pub returns-then-window-windows_end-clause-none : goal.returns-then-window-windows_end-clause-none
returns-then-window-windows_end-clause-none g c =
    let keys = c.args.self.now.keys in
    let look = wheel_stands (sees c.self.invariant.rows c.self.view_is).wheel in
    subst (λ (h : Held _). NoneBeginsOn keys h.stands h.passed c.args.level c.args.time) c.self.view_is
    (none_begins look.stand c.args.level c.args.time (inr (omega (arith, c.if-window-windows_end.true, c.windows_end.ensures, c.window_on-window.ensures))))

pub returns-clause-tells : goal.returns-clause-tells
returns-clause-tells g c =
    let keys = c.args.self.now.keys in
    let chains = c.self.inside.buckets in
    let look = wheel_stands (sees c.self.invariant.rows c.self.view_is).wheel in
    let spots = places (stand_on c.self.inside.next_time look.level look.stand.time look.stand.rank) keys in
    subst (λ (h : Held _). IfSome c.newest.result (TellsNext keys h.stands h.passed c.args.time)) c.self.view_is
    (found_tells look.stand c.args.level c.window_on-window.result c.args.time c.requires.level c.requires.highest c.if-time-self.false
    (sym c.if-begin_of-time.false ∙ c.begin_of.ensures) (omega (arith, c.if-window-windows_end.false, c.windows_end.ensures)) c.newest.result
    (subst (λ (b : ℕ). Finds chains spots b (2 ^ 64) c.newest.result) c.bucket_of_window.ensures.is (c.newest.ensures.finds spots look.stand.are)))

pub returns-clause-none : goal.returns-clause-none
returns-clause-none g c =
    let keys = c.args.self.now.keys in
    let chains = c.self.inside.buckets in
    let look = wheel_stands (sees c.self.invariant.rows c.self.view_is).wheel in
    let spots = places (stand_on c.self.inside.next_time look.level look.stand.time look.stand.rank) keys in
    subst (λ (h : Held _). IfNone c.newest.result (NoneBeginsOn keys h.stands h.passed c.args.level c.args.time)) c.self.view_is
    (found_none look.stand c.args.level c.window_on-window.result c.args.time c.requires.level c.requires.highest c.if-time-self.false
    (sym c.if-begin_of-time.false ∙ c.begin_of.ensures) (omega (arith, c.if-window-windows_end.false, c.windows_end.ensures)) c.newest.result
    (subst (λ (b : ℕ). Finds chains spots b (2 ^ 64) c.newest.result) c.bucket_of_window.ensures.is (c.newest.ensures.finds spots look.stand.are)))
