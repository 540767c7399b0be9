use Rattle.std.proofs.Common.{◌≡◌, false, Some, None, inr, refl, sym, ap, subst, ◌∙◌}
use Rattle.ert_defs.specs.{States.state, declared.settings.Settings.Settings, declared.timer.Status.TheVariants.Armed, declared.timer.TimerRef.TimerRef}
use Rattle.ert_table.specs.Desks.{settings_of, front_of}
use Rattle.ert_timers.specs.{Changes.given_back, Freeing.{IsLast, IsHeld}, Parts.{PartStands, last_timer}}
use Rattle.ert_timers.proofs.Fit.{some_key}
use Rattle.ert_timers.proofs.part.WheelPart.forget_last.Goals as goal
use Rattle.ert_wheel.specs.Rows.{key_in}

pub forget-requires-clause-stands : goal.forget-requires-clause-stands
forget-requires-clause-stands c = λ g named.
    let same : Some (settings_of c.args.desk.now) ≡ Some g = sym c.requires.belongs.named ∙ named in
    let mine : settings_of c.args.desk.now ≡ g = cc in
    subst (λ (x : Settings). PartStands x (front_of c.args.pass.now) c.args.self.now) mine c.requires.stands

pub forget-requires-clause-last : goal.forget-requires-clause-last
forget-requires-clause-last c =
    let p = c.args.self.now in
    let has = some_key (key_in p.keys c.args.slot) c.requires.row in
    subst (λ (t : TimerRef). IsLast p t) (sym c.last_timer.ensures)
    (record { low = c.requires.low; named = refl; used = inr (λ none. let no : Some has.0 ≡ None = sym has.1 ∙ none in cc) })

pub forget-requires-clause-settled : goal.forget-requires-clause-settled
forget-requires-clause-settled c = λ g named armed.
    let p = c.args.self.now in
    let same : Some (settings_of c.args.desk.now) ≡ Some g = sym c.requires.belongs.named ∙ named in
    let mine : settings_of c.args.desk.now ≡ g = cc in
    c.requires.settled
    (subst (λ (x : Settings). (state x (front_of c.args.pass.now)).status (last_timer p.number p.slots c.args.slot) ≡ Some Armed) (sym mine)
    (ap (state g (front_of c.args.pass.now)).status (sym c.last_timer.ensures) ∙ armed))

pub returns-clause-part : goal.returns-clause-part
returns-clause-part c =
    let p = c.args.self.now in
    let has = some_key (key_in p.keys c.args.slot) c.requires.row in
    let held : IsHeld p c.last_timer.result =
    subst (λ (t : TimerRef). IsHeld p t) (sym c.last_timer.ensures)
    (record { low = c.requires.low; named = refl; row = λ none. (let no : Some has.0 ≡ None = sym has.1 ∙ none in cc) }) in
    c.forget.ensures.held held ∙ ap (λ (t : TimerRef). given_back p t.slot false) c.last_timer.ensures

pub returns-clause-stands : goal.returns-clause-stands
returns-clause-stands c = c.forget.ensures.stands (settings_of c.args.desk.now) c.requires.belongs.named
