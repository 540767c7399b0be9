use Rattle.std.proofs.Common.{ℕ, List, string_bytes, subst}
use Rattle.ert_defs.specs.declared.settings.Settings.{Settings}
use Rattle.ert_world.specs.Openings.{IsOpened}
use Rattle.ert_program.proofs.LivedThrough.{lived_first}
use Rattle.ert_program.specs.Lives.{TellsTimes}
use Rattle.ert_program.proofs.living.begin.Goals as goal

pub returns : goal.returns
returns c =
    lived_first c.args.first c.in_ok-world.world c.tell.new.world _
    (subst (λ (g : Settings). IsOpened g c.in_ok-world.world) c.live_settings.ensures c.in_ok-world.ensures)
    (subst (λ (t : List ℕ). TellsTimes c.in_ok-world.world c.tell.new.world t (string_bytes c.tell.new.page)) c.requires.empty c.in_ok-tell.ensures)
