use Rattle.std.proofs.Common.{refl, arith}
use Rattle.ert_timers.proofs.part.changes.write.Goals as goal

pub write_more-requires-clause-high : goal.write_more-requires-clause-high
write_more-requires-clause-high c = omega (arith, c.if-slot-written.true, c.written.ensures.written)

pub returns-else-slot-written-clause-written : goal.returns-else-slot-written-clause-written
returns-else-slot-written-clause-written c = omega (arith, c.if-slot-written.false, c.written.ensures.written)

pub returns-else-slot-written-clause-more : goal.returns-else-slot-written-clause-more
returns-else-slot-written-clause-more c = record { more = omega arith; keys = refl; owners = refl; slots = λ n. refl; joined = λ joined. joined; passed = refl; stands = refl }
