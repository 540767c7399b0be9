use Rattle.std.proofs.Common.{sym, subst}
use Rattle.ert_names.specs.Handing.{TakesNext}
use Rattle.ert_names.proofs.Messages.{takes_next}
use Rattle.ert_names.proofs.turns.take_message.Goals as goal

pub returns : goal.returns
returns c =
    record {
      call = λ n fits.
          subst (λ m. TakesNext n c.args.world.now m c.take-taken.new.self) (sym c.timeout_of.ensures)
          (takes_next n c.args.world.now c.take-taken.new.self c.take-taken.result c.take-taken.ensures.call c.take-taken.ensures.call.legal fits);
    }
