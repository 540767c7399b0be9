use Rattle.std.proofs.Common.{rules, FitsSigned, to_z-of_z}
use Rattle.std.specs.Int.{w128}
use Rattle.ert_judge.proofs.texts.write_timer_reason.Goals as goal

pub returns-in-SlotTaken : goal.returns-in-SlotTaken
returns-in-SlotTaken c = rw (c.in-SlotTaken.is, ← c.status_word.ensures) c.write.ensures.bytes

pub returns-in-NotDue : goal.returns-in-NotDue
returns-in-NotDue c =
    let looked : FitsSigned w128 c.in-NotDue.looked = search rules in
    rw c.in-NotDue.is (simp to_z-of_z at c.write-in-NotDue.ensures.bytes)

pub returns-in-OtherGeneration : goal.returns-in-OtherGeneration
returns-in-OtherGeneration c = rw c.in-OtherGeneration.is c.write-in-OtherGeneration.ensures.bytes

pub returns-in-Rests : goal.returns-in-Rests
returns-in-Rests c = rw c.in-Rests.is c.write-in-Rests.ensures.bytes

pub returns-in-WheelUsed : goal.returns-in-WheelUsed
returns-in-WheelUsed c = rw c.in-WheelUsed.is c.write-in-WheelUsed.ensures.bytes

pub returns-in-NoDeadline : goal.returns-in-NoDeadline
returns-in-NoDeadline c = rw c.in-NoDeadline.is c.write-in-NoDeadline.ensures.bytes

pub returns-in-NotNext : goal.returns-in-NotNext
returns-in-NotNext c = rw c.in-NotNext.is c.write-in-NotNext.ensures.bytes

pub returns-in-NotExited : goal.returns-in-NotExited
returns-in-NotExited c = rw c.in-NotExited.is c.write-in-NotExited.ensures.bytes
