use Rattle.std.proofs.Common.{sym, subst}
use Rattle.ert_table.specs.{Desks.actors_of, Held.IsWhole, declared.desk.Desk.Desk}
use Rattle.ert_tests.proofs.tests.worlds.close.Goals as goal

pub close-requires-clause-whole : goal.close-requires-clause-whole
close-requires-clause-whole g c =
    subst (λ (d : Desk). IsWhole d.settings (actors_of c.into_desk-desk.result.1)) (sym c.in-Ok.ensures.ok) c.into_desk-desk.ensures.history.whole
