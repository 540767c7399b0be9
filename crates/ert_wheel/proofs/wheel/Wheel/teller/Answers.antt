use Rattle.std.proofs.Common.{inl, inr}
use Rattle.ert_wheel.proofs.wheel.Wheel.teller.Goals as goal

pub find_due-requires : goal.find_due-requires
find_due-requires g c = elim c.requires.near [ inl due ↦ due | inr begins ↦ absurd (c.in_default.ensures.none begins) ]
