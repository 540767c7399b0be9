use Rattle.std.proofs.Common.{◌≡◌, ◌<◌, ◌∙◌, Some, None, inr, count_by, option_map, sym, ap, subst, refl, arith}
use Rattle.std.specs.Option.{is_some}
use Rattle.ert_table.specs.Desks.{settings_of, view_of}
use Rattle.ert_defs.specs.{States.state, Timers.Row}
use Rattle.ert_timers.specs.Parts.{HoldsCaller, Part, slot_at}
use Rattle.ert_timers.proofs.{Orphaned.still_caller, Swept.{sweeps_none, sweeps_same, sweeps_more, all_swept, sweeps_all, sweeps_held, next_held, fewer}}
use Rattle.ert_timers.proofs.part.WheelPart.sweep.Goals as goal
use Rattle.ert_wheel.specs.Rows.{key_of, row_told}

pub loop-row-init : goal.loop-row-init
loop-row-init c = record {
  belongs = c.requires.belongs;
  holds = c.requires.holds;
  call = sweeps_none (settings_of c.args.desk.now) (view_of c.args.pass.now) c.args.by c.args.process c.args.self.now c.requires.stands
      c.requires.exited;
}

pub newest_of-requires : goal.newest_of-requires
newest_of-requires c = subst (λ n. c.args.process < n) (sym c.loop-row.invariant.call.stands.holds.processes) c.requires.in_range

pub orphan-requires-clause-held : goal.orphan-requires-clause-held
orphan-requires-clause-held c =
    next_held c.newest_of.new.self c.args.process (row_told c.newest_of.new.self.keys c.in-Some.row) c.timer-timer.result c.in-Some.ensures.row c.timer-timer.ensures

pub orphan-requires-clause-exited : goal.orphan-requires-clause-exited
orphan-requires-clause-exited c =
    let g = settings_of c.args.desk.now in
    let u = view_of c.loop-row.pass in
    ap (λ (x : Row). (state g u.front).exited (slot_at c.newest_of.new.self.slots x.timer.slot).dest) c.timer-timer.ensures
    ∙ (ap (state g u.front).exited c.in-Some.ensures.row.2 ∙ c.loop-row.invariant.call.exited)

pub loop-row-preserved : goal.loop-row-preserved
loop-row-preserved c =
    let g = settings_of c.args.desk.now in
    let v = view_of c.args.pass.now in
    let u = view_of c.loop-row.pass in
    let part : c.newest_of.new.self ≡ c.loop-row.self = c.newest_of.ensures.part in
    let holds : HoldsCaller g u c.args.by c.newest_of.new.self.number =
    subst (λ (p : Part). HoldsCaller g u c.args.by p.number) (sym part) c.loop-row.invariant.holds in
    let one = c.orphan.ensures.call in
    record {
      belongs = c.orphan.ensures.belongs;
      holds = still_caller g u (view_of c.orphan.new.pass) c.args.by c.newest_of.new.self.number c.orphan.new.self.number holds
          one.step.actors (ap (λ (p : Part). p.number) one.part);
      call = sweeps_more g v c.args.by c.args.process c.args.self.now c.newest_of.new.self c.orphan.new.self (row_told c.newest_of.new.self.keys c.in-Some.row)
          c.timer-timer.result u (view_of c.orphan.new.pass)
          (sweeps_same g v c.args.by c.args.process c.args.self.now c.loop-row.self c.newest_of.new.self u part c.loop-row.invariant.call)
          holds c.in-Some.ensures.row c.timer-timer.ensures one;
    }

pub loop-row-smaller : goal.loop-row-smaller
loop-row-smaller c =
    let less =
    fewer (settings_of c.args.desk.now) (view_of c.loop-row.pass) c.args.by c.args.process c.newest_of.new.self c.orphan.new.self
    (row_told c.newest_of.new.self.keys c.in-Some.row) c.timer-timer.result (view_of c.orphan.new.pass) c.in-Some.ensures.row c.timer-timer.ensures c.orphan.ensures.call in
    omega (arith, less, ap (λ (p : Part). count_by is_some p.keys) c.newest_of.ensures.part)

pub returns-clause-number : goal.returns-clause-number
returns-clause-number c = ap (λ (p : Part). p.number) c.newest_of.ensures.part ∙ c.loop-row.invariant.call.number

pub returns-clause-stands : goal.returns-clause-stands
returns-clause-stands c =
    (sweeps_same (settings_of c.args.desk.now) (view_of c.args.pass.now) c.args.by c.args.process c.args.self.now c.loop-row.self
    c.newest_of.new.self (view_of c.loop-row.pass) c.newest_of.ensures.part c.loop-row.invariant.call).stands

pub returns-clause-swept : goal.returns-clause-swept
returns-clause-swept c =
    let g = settings_of c.args.desk.now in
    let v = view_of c.args.pass.now in
    let u = view_of c.loop-row.pass in
    all_swept g v c.args.by c.args.process c.args.self.now.number c.args.self.now c.newest_of.new.self (option_map (row_told c.newest_of.new.self.keys) c.newest_of.result) u refl
    (sweeps_same g v c.args.by c.args.process c.args.self.now c.loop-row.self c.newest_of.new.self u c.newest_of.ensures.part
    c.loop-row.invariant.call)
    (ap (option_map (row_told c.newest_of.new.self.keys)) c.in_default.is) c.newest_of.ensures.row

pub returns-clause-call : goal.returns-clause-call
returns-clause-call c =
    sweeps_all (settings_of c.args.desk.now) (view_of c.args.pass.now) c.args.by c.args.process c.args.self.now c.loop-row.self
    (view_of c.loop-row.pass) c.loop-row.invariant.call

pub returns-clause-loses : goal.returns-clause-loses
returns-clause-loses c =
    (sweeps_same (settings_of c.args.desk.now) (view_of c.args.pass.now) c.args.by c.args.process c.args.self.now c.loop-row.self
    c.newest_of.new.self (view_of c.loop-row.pass) c.newest_of.ensures.part c.loop-row.invariant.call).loses

pub returns-clause-frees : goal.returns-clause-frees
returns-clause-frees c =
    (sweeps_same (settings_of c.args.desk.now) (view_of c.args.pass.now) c.args.by c.args.process c.args.self.now c.loop-row.self
    c.newest_of.new.self (view_of c.loop-row.pass) c.newest_of.ensures.part c.loop-row.invariant.call).frees

pub timer-timer-requires-clause-used : goal.timer-timer-requires-clause-used
timer-timer-requires-clause-used c = inr (λ none. let no : Some (key_of (row_told c.newest_of.new.self.keys c.in-Some.row)) ≡ None = sym c.in-Some.ensures.row.1 ∙ none in cc)

pub returns-clause-held : goal.returns-clause-held
returns-clause-held c =
    sweeps_held (settings_of c.args.desk.now) (view_of c.args.pass.now) c.args.by c.args.process c.args.self.now c.loop-row.self
    (view_of c.loop-row.pass) c.loop-row.invariant.call
