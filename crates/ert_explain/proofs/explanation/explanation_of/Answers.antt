use Rattle.ert_explain.proofs.explanation.explanation_of.Goals as goal

pub returns-in-Json : goal.returns-in-Json
returns-in-Json c = rw c.in-Json.is (c.json_explanation.ensures c.args.race)
