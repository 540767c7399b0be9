use Rattle.ert_ops.specs.Texts.{info_middle}
use Rattle.ert_script.proofs.clock_line.write_info_middle.Goals as goal

pub returns : goal.returns
unfolding info_middle
returns c = rw c.bool_word.ensures at c.write.ensures.bytes
