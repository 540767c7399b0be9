use Rattle.std.proofs.Common.{◌≡◌, ℕ, ◌<◌, ◌≤◌, true}
use Rattle.ert_defs.specs.declared.entry.Actor.TheVariants.{Caller}
use Rattle.ert_service.specs.Dividing.{AreSeated}
use Rattle.ert_table.specs.{Desks.{front_of, actors_of, Belongs}, Held.is_held}
use Rattle.ert_service.proofs.opening.seat_callers.Given as goal

abbrev pub invariant-loop-number : goal.invariant-loop-number
invariant-loop-number g l = record {
  belongs : Belongs l.desk l.pass;
  front : front_of l.pass ≡ front_of l.fn.pass;
  held : (i : ℕ) → l.number ≤ i → i < g.L.DeskName.settings.callers → is_held (actors_of l.pass) (Caller i) ≡ true;
  count : l.callers ≡ g.L.DeskName.settings.callers;
  len : l.seats.len ≡ l.number;
  room : l.callers ≤ l.seats.cap;
  seated : AreSeated (λ s. s.number) (λ s. front_of s.pass) l.number (front_of l.fn.pass) l.seats.items;
}
