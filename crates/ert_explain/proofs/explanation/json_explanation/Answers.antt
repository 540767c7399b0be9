use Rattle.std.proofs.Common.{refl}
use Rattle.ert_explain.proofs.Positions.{position_in}
use Rattle.ert_explain.proofs.explanation.json_explanation.Goals as goal

pub returns : goal.returns
returns c = λ race. record {
  same = refl;
  cause = tt;
  position = position_in c.args.bytes.now c.json_stop-offset.result.0 c.position_at.result c.position_at.ensures;
  shown = refl;
}
