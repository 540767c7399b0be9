use Rattle.std.proofs.Common.{◌≡◌, ◌-◌, All, [], map}
use Rattle.ert_unique.specs.{Passes.{number_of, BelongsToUniques, IsNew, below}, Views.{first_share, keeping}}
use Rattle.ert_unique.proofs.uniques.Uniques.deal.Given as goal

abbrev pub invariant-loop-number : goal.invariant-loop-number
invariant-loop-number l = record {
  table : l.seat.table_id ≡ l.initial.seat.table_id;
  rest : l.seat.me ≡ (keeping (first_share l.count) (l.count - l.number), []);
  belong : All (BelongsToUniques l.self) l.passes.items;
  new : All IsNew l.passes.items;
  numbers : map number_of l.passes.items ≡ below l.number;
}
