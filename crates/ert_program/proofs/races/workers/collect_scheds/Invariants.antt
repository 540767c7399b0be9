use Rattle.std.proofs.Common.{◌≡◌, ◌+◌, ◌≤◌, ◌++◌, length, map}
use Rattle.std.specs.Vec.Iter.{into_iter_items, into_iter_len}
use Rattle.ert_program.specs.Worked.{turns_ok}
use Rattle.ert_program.proofs.races.workers.collect_scheds.Given as goal

abbrev pub invariant-loop-one : goal.invariant-loop-one
invariant-loop-one g l = record {
  seats : l.seats.items ++ map (λ d. d.seat) (into_iter_items l.one-iterator) ≡ map (λ d. d.seat) l.fn.all.items;
  done : map turns_ok l.seats.items ++ map (λ d. d.done) (into_iter_items l.one-iterator) ≡ map (λ d. d.done) l.fn.all.items;
  room : l.seats.len + length (into_iter_items l.one-iterator) ≤ l.seats.cap;
  remaining : into_iter_len l.one-iterator ≡ length (into_iter_items l.one-iterator);
}
