use Rattle.std.proofs.Common.{subst, sym}
use Rattle.ert_wheel.proofs.wheel.Wheel.first_due.Goals as goal
use Rattle.ert_wheel.specs.{Rows.Held, Standing.StayOrFall}

pub returns-in-Some-reach-clause-stands : goal.returns-in-Some-reach-clause-stands
returns-in-Some-reach-clause-stands g c =
    subst (λ (h : Held _). StayOrFall c.args.self.now.keys h.passed c.args.self.now.stands h.stands) (sym c.first_by.ensures.same)
    (subst (λ (h : Held _). StayOrFall h.keys c.reach.new.self.passed h.stands c.reach.new.self.stands) c.first_kept.ensures.same c.reach.ensures.stands)

pub returns-in-None-clause-stands : goal.returns-in-None-clause-stands
returns-in-None-clause-stands g c =
    subst (λ (h : Held _). StayOrFall h.keys c.reach.new.self.passed h.stands c.reach.new.self.stands) c.first_kept.ensures.same c.reach.ensures.stands
