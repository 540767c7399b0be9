use Rattle.std.proofs.Common.{◌≡◌, ℕ, ◌+◌, cond, not, sym, ap, ◌∙◌, arith}
use Rattle.ert_table.specs.Desks.{settings_of, view_of}
use Rattle.ert_timers.proofs.{Probed.{probes_all, probes_more, probes_none, probes_vacant, vacant_is}, part.WheelPart.probe_rows.Goals.{then-not-probe_row, else-not-probe_row}}
use Rattle.ert_timers.proofs.part.WheelPart.probe_rows.Goals as goal

pub loop-slot-init : goal.loop-slot-init
loop-slot-init c = record {
  belongs = c.requires.belongs;
  some = probes_none (settings_of c.args.desk.now) (view_of c.args.pass.now) c.args.self.now c.requires.stands;
}

pub loop-slot-preserved-then-is_none : goal.loop-slot-preserved-then-is_none
loop-slot-preserved-then-is_none c = record {
  belongs = c.loop-slot.invariant.belongs;
  some = probes_vacant (settings_of c.args.desk.now) (view_of c.args.pass.now) (view_of c.loop-slot.pass) c.args.self.now c.loop-slot.self c.loop-slot.slot
      c.loop-slot.dropped c.loop-slot.invariant.some
      (vacant_is c.loop-slot.self.keys c.loop-slot.slot c.row.result c.row.ensures (c.is_none.ensures ∙ ap not c.if-is_none.true));
}

pub loop-slot-preserved : goal.loop-slot-preserved
loop-slot-preserved c =
    let count : c.if-not-probe_row.dropped ≡ c.loop-slot.dropped + cond c.probe_row.result 0 1 =
    elim c.if-not-probe_row.branch [
      | then-not-probe_row w ↦ w.dropped-is ∙ ap {B = ℕ} (λ b. c.loop-slot.dropped + cond b 0 1) (sym w.if-not-probe_row.true)
      | else-not-probe_row w ↦
          let none : cond c.probe_row.result 0 1 ≡ 0 = ap {B = ℕ} (λ b. cond b 0 1) w.if-not-probe_row.false in
          omega (arith, w.dropped-is, none)
    ] in
    record {
      belongs = c.probe_row.ensures.belongs;
      some = probes_more (settings_of c.args.desk.now) (view_of c.args.pass.now) (view_of c.loop-slot.pass) (view_of c.probe_row.new.pass) c.args.self.now
          c.loop-slot.self c.probe_row.new.self c.loop-slot.slot c.loop-slot.dropped c.if-not-probe_row.dropped c.row.result c.probe_row.result
          c.loop-slot.invariant.some c.row.ensures (c.is_none.ensures ∙ ap not c.if-is_none.false) c.probe_row.ensures.call count;
    }

pub returns-clause-call : goal.returns-clause-call
returns-clause-call c =
    probes_all (settings_of c.args.desk.now) (view_of c.args.pass.now) (view_of c.loop-slot.pass) c.args.self.now c.loop-slot.self c.loop-slot.slot
    c.loop-slot.dropped c.loop-slot.invariant.some
    (omega (arith, c.loop-slot-test.false, c.loop-slot.auto.slot-end, c.slot_count-slot-end.ensures, c.requires.stands.holds.many))
