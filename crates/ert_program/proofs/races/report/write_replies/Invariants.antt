use Rattle.std.proofs.Common.{◌≡◌, ◌++◌, string_bytes, take}
use Rattle.ert_program.specs.Reports.{lines_by}
use Rattle.ert_program.proofs.races.report.write_replies.Given as goal

abbrev pub invariant-loop-reply : goal.invariant-loop-reply
invariant-loop-reply l = string_bytes l.page ≡ string_bytes l.fn.page ++ lines_by l.labels (take l.reply-index l.replies)
