use Rattle.std.proofs.Common.{◌≡◌, ◌<◌, ◌∷◌, ℕ, suc, length, Some, ap, ◌∙◌, arith}
use Rattle.json.specs.{Json.value, Reads.token_of}
use Rattle.serde_json.specs.{Read.{of_json, converted}, View.view}
use Rattle.ert_scenario.specs.Quick.{scalar_of}
use Rattle.ert_scenario.proofs.{QuickLemmas.scalar_read, QuickMembers.under}
use Rattle.ert_scenario.proofs.quick.tokens.read_value.Goals as goal

pub returns-in_default-token : goal.returns-in_default-token
returns-in_default-token c =
    let t = token_of c.in-Some.token in
    let r = c.next.new.self in
    let first : c.args.reader.now ≡ t ∷ r = grind arith in
    let size : length c.args.reader.now ≡ length (t ∷ r) = ap length first in
    let less : length r < length c.args.reader.now = omega arith in
    record {
      read = under (λ v. scalar_of t ≡ Some (view v)) (λ v. (depth : ℕ) → converted of_json (value (suc depth) c.args.reader.now) ≡ Some (view v, r)) c.scalar.result
          (λ v h depth. ap (λ ts. converted of_json (value (suc depth) ts)) first ∙ scalar_read (suc depth) t (view v) r h) c.scalar.ensures;
      shorter = under (λ v. scalar_of t ≡ Some (view v)) (λ v. length r < length c.args.reader.now) c.scalar.result (λ v h. less) c.scalar.ensures;
    }
