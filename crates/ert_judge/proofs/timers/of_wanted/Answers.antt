use Rattle.std.proofs.Common.{sym}
use Rattle.ert_judge.specs.Uses.{uses_of}
use Rattle.ert_judge.proofs.NextUses.{past_limit, same_use, another}
use Rattle.ert_judge.proofs.timers.of_wanted.Goals as goal

pub returns-in-None : goal.returns-in-None
returns-in-None c = record {
  some = record {
    rested = c.requires.rested;
    next = c.requires.first;
    past = past_limit (uses_of c.args.uses.now) c.args.now c.args.wanted c.next.result c.next.ensures c.in-None.is c.requires.rested;
  };
  none = tt;
}

pub returns-then-next-generation : goal.returns-then-next-generation
returns-then-next-generation c = record {
  some = tt;
  none = same_use (uses_of c.args.uses.now) c.args.now c.args.wanted c.args.generation c.in-Some.next c.next.result c.next.ensures
      c.in-Some.is c.if-next-generation.true;
}

pub returns-else-next-generation : goal.returns-else-next-generation
returns-else-next-generation c = record {
  some = another (uses_of c.args.uses.now) c.args.now c.args.wanted c.args.generation c.in-Some.next c.next.result c.next.ensures
      c.in-Some.is (λ e. c.if-next-generation.false (sym e));
  none = tt;
}
