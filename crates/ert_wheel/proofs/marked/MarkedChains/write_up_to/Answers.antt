use Rattle.std.proofs.Common.{◌∙◌, ap, subst, sym}
use Rattle.ert_wheel.proofs.marked.MarkedChains.write_up_to.Goals as goal
use Rattle.ert_wheel.specs.{Marks.AreMarked, Rings.Rings}

pub invariant_of-self : goal.invariant_of-self
invariant_of-self c =
    let m = c.self.inside in
    subst (λ (r : Rings). AreMarked r m.marks) (sym c.write_up_to.ensures)
    (record { homes = c.self.invariant.homes; used = c.self.invariant.used; clear = c.self.invariant.clear })

pub returns : goal.returns
returns c = c.write_up_to.ensures ∙ ap (λ (r : Rings). let n : Rings = record r { written = c.args.count } in n) c.self.view_is
