use Rattle.std.proofs.Common.{rules, subst, ◌∙◌, sym, ap, Some, FitsSigned, w64, to_z, of_z, to_z-of_z}
use Rattle.std.specs.Prelude.{ℤ}
use Rattle.std.specs.Int.{w128}
use Rattle.ert_clock.specs.Faces.{face_of}
use Rattle.ert_defs.specs.Lines.{due_after, IsInRange, IsOffset}
use Rattle.ert_judge.proofs.Seen.{refuted}
use Rattle.ert_judge.proofs.clocks.of_tick.Goals as goal

pub returns-then-not-is_time-clause-some : goal.returns-then-not-is_time-clause-some
returns-then-not-is_time-clause-some c = (search rules, search rules, search rules, search rules)

pub returns-else-is_offset-clause-some : goal.returns-else-is_offset-clause-some
returns-else-is_offset-clause-some c =
    let fits : FitsSigned w128 c.in_ok-offset.offset = search rules in
    let now = ap (due_after c.args.settings.now (face_of c.args.clock.now.face) c.args.reading c.args.act) (to_z-of_z c.ranges.now) in
    let due = sym now ∙ (sym c.due_after.ensures ∙ (c.in_ok-offset.was ∙ ap (λ (n : ℤ). Some (n, c.in_ok-offset.state)) (sym (to_z-of_z fits)))) in
    let in_now : FitsSigned w64 c.args.now = c.ranges.now in
    let in_time : FitsSigned w128 c.time_after-time.result = search rules in
    let told = (simp to_z-of_z at c.is_time.ensures).0 c.if-not-is_time.false ∙ c.time_after-time.ensures in (
      search rules,
      search rules,
      search rules,
      told,
      due,
      refuted (IsOffset (to_z w128 (of_z w128 c.in_ok-offset.offset))) c.is_offset.result c.is_offset.ensures c.if-is_offset.false,
    )

pub returns-then-is_offset-clause-none : goal.returns-then-is_offset-clause-none
returns-then-is_offset-clause-none c =
    let fits : FitsSigned w128 c.in_ok-offset.offset = search rules in
    let now = ap (due_after c.args.settings.now (face_of c.args.clock.now.face) c.args.reading c.args.act) (to_z-of_z c.ranges.now) in
    let due = sym now ∙ (sym c.due_after.ensures ∙ (c.in_ok-offset.was ∙ ap (λ (n : ℤ). Some (n, c.in_ok-offset.state)) (sym (to_z-of_z fits)))) in
    let in_now : FitsSigned w64 c.args.now = c.ranges.now in
    let in_time : FitsSigned w128 c.time_after-time.result = search rules in
    let told = (simp to_z-of_z at c.is_time.ensures).0 c.if-not-is_time.false ∙ c.time_after-time.ensures in (
      search rules,
      record {
        valid = search rules;
        may = search rules;
        told = told;
        in_range = subst IsInRange (sym due) (c.is_offset.ensures.0 c.if-is_offset.true);
      },
    )
