use Rattle.std.proofs.Common.{◌≡◌, None, Some, string_bytes, rules, sym, ap, subst, ◌∙◌}
use Rattle.std.specs.FinMap as map
use Rattle.std.specs.Option.{option_map}
use Rattle.ert_names.specs.Names.{IsWithout, processes_of, names_of}
use Rattle.ert_names.proofs.Books.{get_named, names_unset, named_unset, inverse_remove, without_name, without_none}
use Rattle.ert_names.proofs.registry.Registry.remove_process.Goals as goal

pub invariant_of-self : goal.invariant_of-self
invariant_of-self c =
    let name = string_bytes c.in-Some.name in
    let result : c.remove.result ≡ Some c.in-Some.name = search rules in
    let text : c.as_str.result.now ≡ name = search rules in
    let has : map.get (names_of c.self.inside.names.entries) c.args.process ≡ Some name =
    get_named c.self.inside.names.entries c.args.process ∙ ap (option_map string_bytes) (sym c.remove.ensures.value ∙ result) in
    rw (
      names_unset c.self.inside.processes c.remove-in-Some.new.self c.as_str.result.now c.remove-in-Some.ensures.updates,
      named_unset c.self.inside.names c.remove.new.self c.args.process c.remove.ensures.updates,
      text,
    )
    (inverse_remove (processes_of c.self.inside.processes.entries) (names_of c.self.inside.names.entries) name c.args.process c.self.invariant (c.self.invariant.back name c.args.process has))

pub returns-in-Some : goal.returns-in-Some
returns-in-Some c =
    let names = processes_of c.self.inside.processes.entries in
    let named = names_of c.self.inside.names.entries in
    let name = string_bytes c.in-Some.name in
    let result : c.remove.result ≡ Some c.in-Some.name = search rules in
    let text : c.as_str.result.now ≡ name = search rules in
    let has : map.get named c.args.process ≡ Some name =
    get_named c.self.inside.names.entries c.args.process ∙ ap (option_map string_bytes) (sym c.remove.ensures.value ∙ result) in
    let gone : processes_of c.remove-in-Some.new.self.entries ≡ map.remove names name =
    names_unset c.self.inside.processes c.remove-in-Some.new.self c.as_str.result.now c.remove-in-Some.ensures.updates
    ∙ ap (map.remove names) text in
    subst (λ old. IsWithout old c.args.process (processes_of c.remove-in-Some.new.self.entries)) c.self.view_is
    (subst (λ new. IsWithout names c.args.process new) (sym gone)
    (without_name names named name c.args.process c.self.invariant (c.self.invariant.back name c.args.process has)))

pub returns-in_default : goal.returns-in_default
returns-in_default c =
    let names = processes_of c.self.inside.processes.entries in
    let named = names_of c.self.inside.names.entries in
    let result : c.remove.result ≡ None = search rules in
    let none : map.get named c.args.process ≡ None =
    get_named c.self.inside.names.entries c.args.process ∙ ap (option_map string_bytes) (sym c.remove.ensures.value ∙ result) in
    subst (λ old. IsWithout old c.args.process names) c.self.view_is
    (without_none names named c.args.process c.self.invariant none)
