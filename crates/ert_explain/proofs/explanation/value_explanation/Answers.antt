use Rattle.std.proofs.Common.{refl, rules, inl, inr}
use Rattle.serde_json.specs.View.{view}
use Rattle.ert_explain.proofs.Positions.{position_in}
use Rattle.ert_explain.specs.OwnTexts.{IsOwnText}
use Rattle.ert_explain.proofs.explanation.value_explanation.Goals as goal

pub returns-then-is_own_text : goal.returns-then-is_own_text
returns-then-is_own_text c =
    let own : IsOwnText c.args.race (view c.args.value.now) c.args.refusal c.cause_of-cause.result c.part_at-part.result.now = search rules in
    record {
      same = refl;
      cause = c.cause_of-cause.ensures;
      position = position_in c.args.bytes.now c.find-piece.result.start c.position_at-position.result c.position_at-position.ensures;
      shown = inr (rw c.part_at-part.ensures at own);
    }

pub returns : goal.returns
returns c = record {
  same = refl;
  cause = c.cause_of-cause.ensures;
  position = position_in c.args.bytes.now c.find-piece.result.start c.position_at-position.result c.position_at-position.ensures;
  shown = inl refl;
}
