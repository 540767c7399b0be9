use Rattle.std.proofs.Common.{◌≡◌, None, string_bytes, sym, ap, subst, ◌∙◌}
use Rattle.std.proofs.lemmas.Result.{IfOk-at_ok}
use Rattle.std.specs.FinMap as map
use Rattle.ert_names.specs.Names.{Unnamed, processes_of, names_of}
use Rattle.ert_names.proofs.Books.{names_set, names_unset, named_set, inverse_insert, unset_again}
use Rattle.ert_names.proofs.registry.Registry.insert.Goals as goal

pub invariant_of-self-in-Ok-insert : goal.invariant_of-self-in-Ok-insert
invariant_of-self-in-Ok-insert c =
    let names = processes_of c.self.inside.processes.entries in
    let named = names_of c.self.inside.names.entries in
    let key = IfOk-at_ok (λ s. string_bytes s ≡ c.args.name.now) c.in_ok-key.was c.to_string.ensures.ok in
    let held = IfOk-at_ok (λ s. string_bytes s ≡ c.args.name.now) c.in_ok-held.was c.to_string-2.ensures.ok in
    let set = names_set c.self.inside.processes c.insert.new.self (string_bytes c.in_ok-key.key) c.args.process c.in-Ok.ensures.updates in
    let named_after = named_set c.self.inside.names c.insert-2.new.self c.args.process c.in_ok-held.held c.in-Ok-insert.ensures.updates in
    let free : map.get names c.args.name.now ≡ None = ap (λ m. map.get m c.args.name.now) c.self.view_is ∙ c.requires.free in
    let unnamed : Unnamed names c.args.process = subst (λ m. Unnamed m c.args.process) (sym c.self.view_is) c.requires.unnamed in
    rw (set, named_after, key, held)
    (inverse_insert names named c.args.name.now c.args.process c.self.invariant free unnamed)

pub invariant_of-self-in-Err : goal.invariant_of-self-in-Err
invariant_of-self-in-Err c =
    let names = processes_of c.self.inside.processes.entries in
    let key = IfOk-at_ok (λ s. string_bytes s ≡ c.args.name.now) c.in_ok-key.was c.to_string.ensures.ok in
    let set = names_set c.self.inside.processes c.insert.new.self (string_bytes c.in_ok-key.key) c.args.process c.in-Ok.ensures.updates in
    let free : map.get names c.args.name.now ≡ None = ap (λ m. map.get m c.args.name.now) c.self.view_is ∙ c.requires.free in
    let unset = names_unset c.insert.new.self c.remove.new.self c.args.name.now c.remove.ensures.updates in
    let same : processes_of c.remove.new.self.entries ≡ names =
    unset ∙ (ap (λ m. map.remove m c.args.name.now) (set ∙ ap (λ n. map.insert names n c.args.process) key)
    ∙ unset_again names c.args.name.now c.args.process free) in
    rw (same, c.in-Err.ensures.err) c.self.invariant

pub returns-clause-err : goal.returns-clause-err
returns-clause-err c =
    let names = processes_of c.self.inside.processes.entries in
    let key = IfOk-at_ok (λ s. string_bytes s ≡ c.args.name.now) c.in_ok-key.was c.to_string.ensures.ok in
    let set = names_set c.self.inside.processes c.insert.new.self (string_bytes c.in_ok-key.key) c.args.process c.in-Ok.ensures.updates in
    let free : map.get names c.args.name.now ≡ None = ap (λ m. map.get m c.args.name.now) c.self.view_is ∙ c.requires.free in
    let unset = names_unset c.insert.new.self c.remove.new.self c.args.name.now c.remove.ensures.updates in
    unset ∙ (ap (λ m. map.remove m c.args.name.now) (set ∙ ap (λ n. map.insert names n c.args.process) key)
    ∙ (unset_again names c.args.name.now c.args.process free ∙ c.self.view_is))

pub returns-in-Ok-insert-clause-ok : goal.returns-in-Ok-insert-clause-ok
returns-in-Ok-insert-clause-ok c =
    let names = processes_of c.self.inside.processes.entries in
    let key = IfOk-at_ok (λ s. string_bytes s ≡ c.args.name.now) c.in_ok-key.was c.to_string.ensures.ok in
    let set = names_set c.self.inside.processes c.insert.new.self (string_bytes c.in_ok-key.key) c.args.process c.in-Ok.ensures.updates in
    set ∙ (ap (λ n. map.insert names n c.args.process) key ∙ ap (λ m. map.insert m c.args.name.now c.args.process) c.self.view_is)
