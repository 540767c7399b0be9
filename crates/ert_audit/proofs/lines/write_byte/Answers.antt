use Rattle.std.proofs.Common.{sym, ◌∙◌}
use Rattle.ert_audit.proofs.Messages.{shown_plain, shown_hex}
use Rattle.ert_audit.proofs.lines.write_byte.Goals as goal

pub returns-then-is_plain : goal.returns-then-is_plain
returns-then-is_plain c = rw (shown_plain c.args.byte (sym c.is_plain.ensures ∙ c.if-is_plain.true)) c.push.ensures

pub returns-else-is_plain : goal.returns-else-is_plain
returns-else-is_plain c =
    rw (shown_hex c.args.byte (sym c.is_plain.ensures ∙ c.if-is_plain.false), ← c.hex_digit.ensures.digit, ← c.hex_digit-else-is_plain.ensures.digit)
    c.write_hex.ensures
