use Rattle.std.proofs.Common.{rules, FitsSigned, w64, to_z-of_z}
use Rattle.std.specs.Int.{w128}
use Rattle.ert_judge.proofs.texts.write_reason.Goals as goal

pub returns-in-TooHigh : goal.returns-in-TooHigh
returns-in-TooHigh c = rw (c.in-TooHigh.is, ← c.thing_word.ensures) c.write.ensures.bytes

pub returns-in-OtherState : goal.returns-in-OtherState
returns-in-OtherState c = rw (c.in-OtherState.is, ← c.state_word-in-OtherState.ensures) c.write-in-OtherState.ensures.bytes

pub returns-in-OtherTick : goal.returns-in-OtherTick
returns-in-OtherTick c =
    let time : FitsSigned w128 c.in-OtherTick.time = search rules in
    rw c.in-OtherTick.is (simp to_z-of_z at c.write-in-OtherTick.ensures.bytes)

pub returns-in-OffsetPast : goal.returns-in-OffsetPast
returns-in-OffsetPast c =
    let offset : FitsSigned w128 c.in-OffsetPast.offset = search rules in
    rw c.in-OffsetPast.is (simp to_z-of_z at c.write-in-OffsetPast.ensures.bytes)

pub returns-in-OtherTime : goal.returns-in-OtherTime
returns-in-OtherTime c =
    let now : FitsSigned w64 c.in-OtherTime.now = search rules in
    rw c.in-OtherTime.is (simp to_z-of_z at c.write-in-OtherTime.ensures.bytes)

pub returns-in-BadReading : goal.returns-in-BadReading
returns-in-BadReading c = rw c.in-BadReading.is c.write-in-BadReading.ensures.bytes
