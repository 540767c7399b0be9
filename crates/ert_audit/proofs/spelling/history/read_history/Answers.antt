use Rattle.std.proofs.lemmas.Result.{err_from_is_err_and}
use Rattle.ert_audit.specs.Spelling.MisspelledAt.{in_entries}
use Rattle.ert_audit.proofs.spelling.history.read_history.Goals as goal

pub returns-in_err-entries-clause-err : goal.returns-in_err-entries-clause-err
returns-in_err-entries-clause-err c line e =
    let p = err_from_is_err_and c.from_residual.result c.from_residual.ensures.1 in
    in_entries c.in-Some.settings c.in-Some.lines.now c.in-Some.ensures.some (c.in_err-entries.ensures.err line (cc (p.1, p.2)))
