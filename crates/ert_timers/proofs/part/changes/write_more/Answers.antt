use Rattle.std.proofs.Common.{◌-◌, ◌++◌, replicate, ap, subst₂, ◌∙◌, sym, arith}
use Rattle.ert_timers.specs.Parts.{AreJoined, all_slots}
use Rattle.ert_timers.proofs.{AllSlots.all_more, Joined.joined_more}
use Rattle.ert_timers.proofs.part.changes.write_more.Goals as goal
use Rattle.ert_wheel.specs.Rings.{Rings}

pub write_up_to-requires-clause-more : goal.write_up_to-requires-clause-more
write_up_to-requires-clause-more c = omega (arith, c.requires.high, c.requires.low, c.saturating_add.ensures, c.slots.ensures, c.min-count.ensures)

pub write_up_to-requires-clause-most : goal.write_up_to-requires-clause-most
write_up_to-requires-clause-most c = omega (arith, c.slots.ensures, c.min-count.ensures)

pub write_up_to-requires-clause-owned : goal.write_up_to-requires-clause-owned
write_up_to-requires-clause-owned c = omega (arith, c.requires.same, c.slots.ensures, c.min-count.ensures)

pub returns-clause-written : goal.returns-clause-written
returns-clause-written c =
    omega (arith, c.requires.low, c.saturating_add.ensures, c.slots.ensures, c.min-count.ensures, ap (λ (r : Rings). r.written) c.write_up_to.ensures.owners)

pub returns-clause-more : goal.returns-clause-more
returns-clause-more c =
    let old = c.args.wheel.now in
    let new = c.write_up_to.new.self in
    let written = ap (λ (r : Rings). r.written) c.write_up_to.ensures.owners in
    record {
      more = omega (arith, c.requires.high, c.requires.low, c.saturating_add.ensures, c.slots.ensures, c.min-count.ensures, written);
      keys = c.write_up_to.ensures.keys;
      owners = c.write_up_to.ensures.owners ∙ ap (λ n. let r : Rings = record old.owners { written = n } in r) (sym written);
      slots = λ n.
          ap (λ vs. all_slots vs n) (c.write_up_to.ensures.values ∙ ap (λ u. old.values ++ replicate (c.min-count.result - old.owners.written) u) c.unused.ensures)
          ∙ all_more old.values (c.min-count.result - old.owners.written) n;
      joined = λ joined.
          subst₂ (λ vs r. AreJoined vs r)
          (sym (c.write_up_to.ensures.values ∙ ap (λ u. old.values ++ replicate (c.min-count.result - old.owners.written) u) c.unused.ensures)) (sym c.write_up_to.ensures.owners)
          (joined_more old.values (c.min-count.result - old.owners.written) old.owners c.min-count.result joined);
      passed = c.write_up_to.ensures.passed;
      stands = c.write_up_to.ensures.stands;
    }
