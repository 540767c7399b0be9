use Rattle.std.proofs.Common.{◌≡◌, Some, rules, sym, ap, ◌∙◌}
use Rattle.std.specs.FinMap as map
use Rattle.ert_names.specs.Names.{processes_of, names_of}
use Rattle.ert_names.proofs.Books.{get_name, names_unset, named_unset, inverse_remove}
use Rattle.ert_names.proofs.registry.Registry.remove.Goals as goal

pub returns-in_err-process-clause-value : goal.returns-in_err-process-clause-value
returns-in_err-process-clause-value c =
    let result : c.from_residual.result ≡ c.remove.result = search rules in
    result ∙ (c.remove.ensures.value
    ∙ (sym (get_name c.self.inside.processes.entries c.args.name.now) ∙ ap (λ m. map.get m c.args.name.now) c.self.view_is))

pub returns-in_err-process-clause-removed : goal.returns-in_err-process-clause-removed
returns-in_err-process-clause-removed c =
    names_unset c.self.inside.processes c.remove.new.self c.args.name.now c.remove.ensures.updates
    ∙ ap (λ m. map.remove m c.args.name.now) c.self.view_is

pub invariant_of-self-2 : goal.invariant_of-self-2
invariant_of-self-2 c =
    let names = processes_of c.self.inside.processes.entries in
    let named = names_of c.self.inside.names.entries in
    let result : c.remove.result ≡ Some c.in_ok-process.process = search rules in
    let has = get_name c.self.inside.processes.entries c.args.name.now ∙ (sym c.remove.ensures.value ∙ result) in
    rw (
      names_unset c.self.inside.processes c.remove.new.self c.args.name.now c.remove.ensures.updates,
      named_unset c.self.inside.names c.remove-2.new.self c.in_ok-process.process c.remove-2.ensures.updates,
    )
    (inverse_remove names named c.args.name.now c.in_ok-process.process c.self.invariant has)

pub returns-clause-value : goal.returns-clause-value
returns-clause-value c =
    let result : Some c.in_ok-process.process ≡ c.remove.result = search rules in
    result ∙ (c.remove.ensures.value
    ∙ (sym (get_name c.self.inside.processes.entries c.args.name.now) ∙ ap (λ m. map.get m c.args.name.now) c.self.view_is))

pub returns-clause-removed : goal.returns-clause-removed
returns-clause-removed c =
    names_unset c.self.inside.processes c.remove.new.self c.args.name.now c.remove.ensures.updates
    ∙ ap (λ m. map.remove m c.args.name.now) c.self.view_is
