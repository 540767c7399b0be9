use Rattle.std.proofs.Common.{◌≡◌, ℕ, suc, Some, refl}
use Rattle.json.specs.Json.{value}
use Rattle.serde_json.specs.{Read.{of_json, converted}, View.view}
use Rattle.ert_scenario.proofs.QuickMembers.{member_field}
use Rattle.ert_scenario.proofs.quick.members.read_field.Goals as goal

pub returns-clause-read : goal.returns-clause-read
returns-clause-read c = λ yes.
    let v = c.in-Some.value in
    let r = c.read_value.new.reader in
    let reads : (depth : ℕ) → converted of_json (value (suc depth) c.args.reader.now) ≡ Some (view v, r) = rw c.in-Some.is at c.in_ok-value.ensures.read in
    member_field c.args.name.now c.args.reader.now r (view v) c.args.seen.now _ c.requires reads c.in_ok-put.ensures refl refl
