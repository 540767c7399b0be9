use Rattle.std.proofs.Common.{sym, ap, ◌∙◌}
use Rattle.std.specs.FinMap as map
use Rattle.ert_names.proofs.Books.{get_name}
use Rattle.ert_names.proofs.registry.Registry.process.Goals as goal

pub returns : goal.returns
returns c =
    c.copied.ensures ∙ (c.get.ensures.value
    ∙ (sym (get_name c.self.inside.processes.entries c.args.name.now) ∙ ap (λ m. map.get m c.args.name.now) c.self.view_is))
