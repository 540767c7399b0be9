use Rattle.std.proofs.Common.{[], ◌∷◌}
use Rattle.ert_audit.proofs.Messages.{ok_map, joined}
use Rattle.ert_audit.proofs.lines.write_hex.Goals as goal

pub returns : goal.returns
returns c =
    ok_map c.push-4.result
    (joined _ _ _ (92 ∷ 120 ∷ c.args.high ∷ []) (c.args.low ∷ [])
    (joined _ _ _ (92 ∷ 120 ∷ []) (c.args.high ∷ [])
    (joined _ _ _ (92 ∷ []) (120 ∷ []) c.in_ok-push.ensures c.in_ok-push-2.ensures) c.in_ok-push-3.ensures))
    c.push-4.ensures
