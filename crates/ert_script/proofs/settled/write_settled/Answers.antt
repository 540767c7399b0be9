use Rattle.std.proofs.Common.{ap, ◌∙◌, List, ℕ, ◌++◌, string_bytes}
use Rattle.ert_script.proofs.{Texts.{ok_map, joined}, SixCounts.in_two}
use Rattle.ert_script.proofs.settled.write_settled.Goals as goal

pub returns : goal.returns
returns c =
    ok_map c.write_gone.result
    (λ e. joined _ _ _ _ _ c.in_ok-write_waiting.ensures e ∙ ap (λ (t : List ℕ). string_bytes c.args.page.now ++ t) (in_two c.args.counts.now))
    c.write_gone.ensures
