use Rattle.std.proofs.Common.{rules, FitsSigned, to_z-of_z}
use Rattle.std.specs.Int.{w128}
use Rattle.ert_judge.proofs.texts.write_last_reason.Goals as goal

pub returns-in-OtherMilliseconds : goal.returns-in-OtherMilliseconds
returns-in-OtherMilliseconds c =
    let looked : FitsSigned w128 c.in-OtherMilliseconds.looked = search rules in
    rw c.in-OtherMilliseconds.is (simp to_z-of_z at c.write-in-OtherMilliseconds.ensures.bytes)

pub returns-in-NoneWaits : goal.returns-in-NoneWaits
returns-in-NoneWaits c = rw c.in-NoneWaits.is c.write.ensures.bytes

pub returns-in-OtherDest : goal.returns-in-OtherDest
returns-in-OtherDest c = rw c.in-OtherDest.is c.write-in-OtherDest.ensures.bytes

pub returns-in-OtherNumber : goal.returns-in-OtherNumber
returns-in-OtherNumber c = rw c.in-OtherNumber.is c.write-in-OtherNumber.ensures.bytes
