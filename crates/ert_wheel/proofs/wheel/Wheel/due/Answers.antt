use Rattle.std.proofs.Common.{◌≡◌, ℕ, Some, get_or, ap, subst, sym, ◌∙◌, arith}
use Rattle.ert_wheel.proofs.{Due.{near_start, far_start, level_may, level_more, due_each, due_rows, due_sorted, told_each}, Standing.wheel_stands, Writes.{sees, keys_of, row_written}, wheel.Wheel.due.Goals.{then-to-self, else-to-self}}
use Rattle.ert_wheel.proofs.wheel.Wheel.due.Goals as goal
use Rattle.ert_wheel.specs.{Rows.{key_in, key_of, row_told}, Walks.AreCollected, declared.row.HeldRow.HeldRow, declared.row.Row.Row}

pub loop-level-init : goal.loop-level-init
loop-level-init g c = record {
  highest = elim c.if-to-self.branch [
    | then-to-self w ↦ omega (arith, w.level-is)
    | else-to-self w ↦ omega (arith, w.level-is)
  ];
  capacity_stays = c.clear.ensures.capacity;
  so_far = λ levels stand.
      elim c.if-to-self.branch [
        | then-to-self w ↦
            subst (λ (l : ℕ). AreCollected c.args.self.now.keys levels l c.args.to c.clear.new.self.items) (sym w.level-is)
            (near_start c.args.to c.clear.new.self.items c.clear.ensures.items w.if-to-self.true stand)
        | else-to-self w ↦
            subst (λ (l : ℕ). AreCollected c.args.self.now.keys levels l c.args.to c.clear.new.self.items) (sym w.level-is)
            (far_start c.args.to c.clear.new.self.items c.clear.ensures.items stand)
      ];
}

pub collect_level-requires-clause-may : goal.collect_level-requires-clause-may
collect_level-requires-clause-may g c =
    level_may
    (record {
      look = wheel_stands (sees c.self.invariant.rows c.self.view_is).wheel;
      is = ap keys_of c.self.view_is;
      some = c.loop-level-test.true;
      so_far = c.loop-level.invariant.so_far;
    })

pub loop-level-preserved : goal.loop-level-preserved
loop-level-preserved g c = record {
  highest = omega (arith, c.loop-level.invariant.highest);
  capacity_stays = c.collect_level.ensures.capacity ∙ c.loop-level.invariant.capacity_stays;
  so_far = level_more
      (record {
        look = wheel_stands (sees c.self.invariant.rows c.self.view_is).wheel;
        is = ap keys_of c.self.view_is;
        some = c.loop-level-test.true;
        so_far = c.loop-level.invariant.so_far;
      })
      c.collect_level.ensures.collects;
}

pub returns-clause-each : goal.returns-clause-each
returns-clause-each g c =
    let look = wheel_stands (sees c.self.invariant.rows c.self.view_is).wheel in
    due_each c.args.to c.args.self.now.keys look.level c.loop-level.out.items c.sort_told.new.rows.items
    (subst (λ (l : ℕ). AreCollected c.args.self.now.keys look.level l c.args.to c.loop-level.out.items) (omega (arith, c.loop-level-test.false))
    (c.loop-level.invariant.so_far look.level look.stand))
    c.sort_told.ensures.permutation

pub returns-clause-rows : goal.returns-clause-rows
returns-clause-rows g c =
    let look = wheel_stands (sees c.self.invariant.rows c.self.view_is).wheel in
    due_rows c.args.self.now.keys c.loop-level.out.items c.sort_told.new.rows.items (c.loop-level.invariant.so_far look.level look.stand).are_rows
    c.sort_told.ensures.permutation

pub returns-clause-written : goal.returns-clause-written
returns-clause-written g c = λ k d low.
    let keys = c.args.self.now.keys in
    let new = c.sort_told.new.rows.items in
    let row : HeldRow = get_or new k d in
    row_written row.slot (key_of (row_told keys row)) c.self.invariant c.self.view_is
    (told_each (λ (row : Row). key_in keys row.slot ≡ Some (key_of row)) keys new (returns-clause-rows g c) k d low)

pub returns-clause-sorted : goal.returns-clause-sorted
returns-clause-sorted g c =
    let look = wheel_stands (sees c.self.invariant.rows c.self.view_is).wheel in
    due_sorted c.self.inside.kept.keys look.stand (ap keys_of c.self.view_is) c.sort_told.new.rows.items (returns-clause-rows g c) c.sort_told.ensures.sorted
