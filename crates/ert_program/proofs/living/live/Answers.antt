use Rattle.std.proofs.Common.{string_bytes}
use Rattle.ert_program.proofs.LiveEndings.{written}
use Rattle.ert_program.proofs.living.live.Goals as goal

pub returns-in-Ok-write_page-clause-ends : goal.returns-in-Ok-write_page-clause-ends
returns-in-Ok-write_page-clause-ends g c =
    written c.args.n _ _ _ _ c.in-Ok.made (string_bytes c.watch.new.page) c.in-Ok.ensures.ok c.in-Ok-write_page.ensures.ok
