use Rattle.std.proofs.Common.{◌≡◌, ◌∷◌, ap, ◌∙◌}
use Rattle.json.specs.{Json.value, Token.begin_object}
use Rattle.serde_json.specs.Read.{of_json, converted}
use Rattle.ert_scenario.proofs.QuickMembers.{object_read}
use Rattle.ert_scenario.proofs.quick.members.read_object.Goals as goal

pub returns : goal.returns
returns c =
    let ts = c.takes_begin_object.new.reader in
    let opened : c.args.reader.now ≡ begin_object ∷ ts = c.takes_begin_object.ensures c.if-not-takes_begin_object.false in
    let found = c.in_ok-read_members.ensures c.if-not-branch.false in
    (found.0, ap (λ us. converted of_json (value 127 us)) opened ∙ object_read ts c.read_members.new.reader found.0 found.1, found.2)
