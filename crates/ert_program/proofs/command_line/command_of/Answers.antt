use Rattle.std.proofs.Common.{◌≡◌, ◌∙◌, sym, ap, rules, true, false, map}
use Rattle.std.specs.String.{string_bytes}
use Rattle.clap.specs.Words.{app_of, is_simple, is_simple_and_free, subcommand_rows_of}
use Rattle.ert_program.specs.Apps.{app}
use Rattle.ert_program.proofs.Judged.{not_plain, are_plain, ok_read, err_read}
use Rattle.ert_program.proofs.command_line.command_of.Goals as goal

pub returns-then-not-are_plain : goal.returns-then-not-are_plain
returns-then-not-are_plain c =
    let no : c.are_plain.result ≡ false = search rules in
    not_plain string_bytes c.args.words.now (sym c.are_plain.ensures ∙ no)

pub returns-in-Ok : goal.returns-in-Ok
returns-in-Ok c =
    let yes : c.are_plain.result ≡ true = search rules in
    let is : app_of c.in_ok-parser.field-0 ≡ app = c.in_ok-parser.ensures in
    let simple : is_simple (app_of c.in_ok-parser.field-0) ≡ true = ap is_simple is in
    let free : is_simple_and_free (app_of c.in_ok-parser.field-0) ≡ true = ap is_simple_and_free is in
    ok_read (app_of c.in_ok-parser.field-0) (map string_bytes c.args.words.now) (subcommand_rows_of c.in-Ok.matches) c.command_in.result is
    (are_plain string_bytes c.args.words.now (sym c.are_plain.ensures ∙ yes)) (c.in-Ok.ensures.kinds free) (c.in-Ok.ensures.matches simple).1 c.command_in.ensures

pub returns : goal.returns
returns c =
    let yes : c.are_plain.result ≡ true = search rules in
    let is : app_of c.in_ok-parser.field-0 ≡ app = c.in_ok-parser.ensures in
    let free : is_simple_and_free (app_of c.in_ok-parser.field-0) ≡ true = ap is_simple_and_free is in
    err_read (app_of c.in_ok-parser.field-0) (map string_bytes c.args.words.now) c.in-Err.error is
    (are_plain string_bytes c.args.words.now (sym c.are_plain.ensures ∙ yes)) (λ e. c.in_default.not-OutOfMemory (c.kind.ensures ∙ e)) (c.in-Err.ensures.kinds free)
