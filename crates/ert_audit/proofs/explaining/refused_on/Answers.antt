use Rattle.ert_audit.proofs.explaining.refused_on.Goals as goal

pub write_refusal-requires : goal.write_refusal-requires
write_refusal-requires c = rw (c.line_after-bytes.ensures, c.saturating_sub.ensures) c.refusal_of-refusal.ensures.lies

pub returns-in-Ok : goal.returns-in-Ok
returns-in-Ok c = record {
  line = c.args.line;
  misspelled = c.requires;
  refusal = c.refusal_of-refusal.result;
  why = c.refusal_of-refusal.ensures.why;
  is = rw (c.new-page.ensures.bytes, c.line_after-bytes.ensures, c.saturating_sub.ensures) at c.in-Ok.ensures;
}
