use Rattle.std.proofs.Common.{◌≡◌, None, refl, sym, ap, subst, ◌∙◌}
use Rattle.std.proofs.lemmas.Bool.{false≢true}
use Rattle.ert_defs.specs.States.{state}
use Rattle.ert_table.specs.Desks.{view_of}
use Rattle.ert_timers.specs.{Parts.{Part, PartStands}, Changes.{dropped, reused}, Passed.LosesRows}
use Rattle.ert_timers.proofs.{Fit.{some_key, none_key}, Forgotten.forgot, Freed.reused_keeps, Passing.{loses_none, loses_row}}
use Rattle.ert_wheel.proofs.Looking.{key_low}
use Rattle.ert_timers.proofs.part.WheelPart.forget.Goals as goal
use Rattle.ert_wheel.specs.Rows.{key_in}

pub returns-then-drop_row-clause-stands : goal.returns-then-drop_row-clause-stands
returns-then-drop_row-clause-stands c = λ g named.
    let p = c.args.self.now in
    let k = c.args.timer.slot in
    let h = (view_of c.args.pass.now).front in
    let has = some_key (key_in p.keys k) (c.drop_row.ensures.found.0 c.if-drop_row.true) in
    subst (λ (q : Part). PartStands g h q) (sym (c.free_after.ensures ∙ ap (λ (q : Part). reused q k) c.drop_row.ensures.left))
    (forgot g h p k has.0 (c.requires.stands g named) c.requires.last.low has.1
    (λ armed. c.requires.settled g named (ap (state g h).status c.requires.last.named ∙ armed)))

pub returns-else-drop_row-clause-stands : goal.returns-else-drop_row-clause-stands
returns-else-drop_row-clause-stands c = λ g named.
    let p = c.args.self.now in
    let k = c.args.timer.slot in
    let none : key_in p.keys k ≡ None =
    none_key (key_in p.keys k) (λ is. false≢true (sym c.if-drop_row.false ∙ c.drop_row.ensures.found.1 is)) in
    subst (λ (q : Part). PartStands g (view_of c.args.pass.now).front q)
    (sym (c.drop_row.ensures.none none)) (c.requires.stands g named)

pub returns-then-drop_row-clause-loses : goal.returns-then-drop_row-clause-loses
returns-then-drop_row-clause-loses c =
    let p = c.args.self.now in
    let k = c.args.timer.slot in
    let has = some_key (key_in p.keys k) (c.drop_row.ensures.found.0 c.if-drop_row.true) in
    subst (LosesRows p) (sym (c.free_after.ensures ∙ ap (λ (q : Part). reused q k) c.drop_row.ensures.left))
    (loses_row p (reused (dropped p k) k) k (key_low p.keys k has.0 has.1) refl refl refl refl refl (reused_keeps (dropped p k) (reused (dropped p k) k) k refl))

pub returns-else-drop_row-clause-loses : goal.returns-else-drop_row-clause-loses
returns-else-drop_row-clause-loses c =
    let p = c.args.self.now in
    let k = c.args.timer.slot in
    let none : key_in p.keys k ≡ None =
    none_key (key_in p.keys k) (λ is. false≢true (sym c.if-drop_row.false ∙ c.drop_row.ensures.found.1 is)) in
    subst (LosesRows p) (sym (c.drop_row.ensures.none none)) (loses_none p)

pub drop_row-requires-clause-used : goal.drop_row-requires-clause-used
drop_row-requires-clause-used c = c.requires.last.used
