use Rattle.std.proofs.Common.{sym, subst, ◌∙◌}
use Rattle.ert_names.specs.Names.{Unnamed}
use Rattle.ert_names.proofs.Books.{not_named, is_named}
use Rattle.ert_names.proofs.registry.Registry.has_name.Goals as goal

pub returns-clause-unnamed : goal.returns-clause-unnamed
returns-clause-unnamed c = λ none. subst (λ names. Unnamed names c.args.process) c.self.view_is
    (not_named c.self.inside.processes.entries c.self.inside.names.entries c.args.process c.self.invariant (sym c.contains_key.ensures ∙ none))

pub returns-clause-named : goal.returns-clause-named
returns-clause-named c = λ some unnamed. is_named c.self.inside.processes.entries c.self.inside.names.entries c.args.process c.self.invariant
    (sym c.contains_key.ensures ∙ some) (subst (λ names. Unnamed names c.args.process) (sym c.self.view_is) unnamed)
