use Rattle.std.proofs.Common.{IfSome, subst}
use Rattle.ert_names.specs.{Living.Lives, Registered.Registered}
use Rattle.ert_names.proofs.Living.{found_living}
use Rattle.ert_names.proofs.world.NameWorld.whereis.Goals as goal

pub returns-clause-lives : goal.returns-clause-lives
returns-clause-lives c =
    subst (λ (v : Registered). IfSome c.process.result (Lives v.world)) c.self.view_is
    (found_living c.self.inside.registry c.self.inside.world c.args.name.now c.process.result c.process.ensures c.self.invariant.living)
