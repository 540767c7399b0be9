use Rattle.std.proofs.Common.{◌≡◌, ◌<◌, false, Some, None, inr, refl, sym, ap, subst, ◌∙◌}
use Rattle.ert_defs.specs.{Laws.is_armed, States.state, Timers.Row, declared.settings.Settings.Settings, declared.timer.Status.TheVariants.Armed, declared.timer.TimerRef.TimerRef}
use Rattle.ert_table.specs.{Desks.{settings_of, front_of}, Settlings.shown_in, declared.view.View.View}
use Rattle.ert_timers.specs.{Changes.given_back, Freeing.{IsHeld, IsLast}, Parts.{PartStands, last_timer}, Starting.status_shown}
use Rattle.ert_timers.proofs.Dropped.{drops_none, drops_one, drops_empty, settled_seen, told_some, told_none}
use Rattle.ert_timers.proofs.part.WheelPart.drop_settled_row.Goals as goal
use Rattle.ert_wheel.specs.{Rows.{key_in, told_at}, declared.row.HeldRow.HeldRow}

pub see_timer-shown-requires-clause-slot : goal.see_timer-shown-requires-clause-slot
see_timer-shown-requires-clause-slot c = record {
  wheel_high = subst (λ n. n < (settings_of c.args.desk.now).schedulers) (sym c.number.ensures) c.requires.stands.holds.number;
  slot_high = subst (λ n. c.args.slot < n) c.requires.stands.holds.many c.requires.low;
}

pub returns-then-is_armed-clause-drops : goal.returns-then-is_armed-clause-drops
returns-then-is_armed-clause-drops c =
    let g = settings_of c.args.desk.now in
    let h = front_of c.args.pass.now in
    let p = c.args.self.now in
    let k = c.args.slot in
    let has = told_some (told_at k) (key_in p.keys k) c.row.result c.in-Some.row c.row.ensures c.in-Some.is in
    drops_none g h p k has.0 c.requires.stands has.1
    (ap (λ n. is_armed (status_shown (shown_in (state g h) n k))) (sym c.number.ensures)
    ∙ (ap (λ s. is_armed (status_shown s)) (sym c.see_timer-shown.ensures.shown) ∙ (sym c.is_armed.ensures ∙ c.if-is_armed.true)))

pub forget-requires-clause-stands : goal.forget-requires-clause-stands
forget-requires-clause-stands c = λ g named.
    let same : Some (settings_of c.args.desk.now) ≡ Some g = sym c.see_timer-shown.ensures.belongs.named ∙ named in
    let mine : settings_of c.args.desk.now ≡ g = cc in
    subst (λ (x : Settings). PartStands x (front_of c.see_timer-shown.new.self) c.args.self.now) mine
    (subst (λ (v : View). PartStands (settings_of c.args.desk.now) v.front c.args.self.now) (sym c.see_timer-shown.ensures.same) c.requires.stands)

pub forget-requires-clause-last : goal.forget-requires-clause-last
forget-requires-clause-last c =
    let p = c.args.self.now in
    let k = c.args.slot in
    let has = told_some (told_at k) (key_in p.keys k) c.row.result c.in-Some.row c.row.ensures c.in-Some.is in
    let last : c.timer.result.timer ≡ last_timer p.number p.slots k =
    ap (λ (r : Row). r.timer) c.timer.ensures ∙ ap (λ (r : HeldRow). last_timer p.number p.slots r.slot) (sym has.2) in
    subst (λ (t : TimerRef). IsLast p t) (sym last) (record { low = c.requires.low; named = refl; used = inr (λ none. let no : Some has.0 ≡ None = sym has.1 ∙ none in cc) })

pub forget-requires-clause-settled : goal.forget-requires-clause-settled
forget-requires-clause-settled c = λ g named armed.
    let d = c.args.desk.now in
    let h = front_of c.args.pass.now in
    let p = c.args.self.now in
    let k = c.args.slot in
    let same : Some (settings_of d) ≡ Some g = sym c.see_timer-shown.ensures.belongs.named ∙ named in
    let mine : settings_of d ≡ g = cc in
    let has = told_some (told_at k) (key_in p.keys k) c.row.result c.in-Some.row c.row.ensures c.in-Some.is in
    let last : c.timer.result.timer ≡ last_timer p.number p.slots k =
    ap (λ (r : Row). r.timer) c.timer.ensures ∙ ap (λ (r : HeldRow). last_timer p.number p.slots r.slot) (sym has.2) in
    let here : (state (settings_of d) h).status (last_timer p.number p.slots k) ≡ Some Armed =
    subst (λ (x : Settings). (state x h).status (last_timer p.number p.slots k) ≡ Some Armed) (sym mine)
    (subst (λ (v : View). (state g v.front).status (last_timer p.number p.slots k) ≡ Some Armed) c.see_timer-shown.ensures.same
    (subst (λ (t : TimerRef). (state g (front_of c.see_timer-shown.new.self)).status t ≡ Some Armed) last armed)) in
    settled_seen (settings_of d) h p k has.0 c.requires.stands has.1
    (ap (λ n. is_armed (status_shown (shown_in (state (settings_of d) h) n k))) (sym c.number.ensures)
    ∙ (ap (λ s. is_armed (status_shown s)) (sym c.see_timer-shown.ensures.shown) ∙ (sym c.is_armed.ensures ∙ c.if-is_armed.false))) here

pub returns-clause-drops : goal.returns-clause-drops
returns-clause-drops c =
    let g = settings_of c.args.desk.now in
    let p = c.args.self.now in
    let k = c.args.slot in
    let has = told_some (told_at k) (key_in p.keys k) c.row.result c.in-Some.row c.row.ensures c.in-Some.is in
    let last : c.timer.result.timer ≡ last_timer p.number p.slots k =
    ap (λ (r : Row). r.timer) c.timer.ensures ∙ ap (λ (r : HeldRow). last_timer p.number p.slots r.slot) (sym has.2) in
    drops_one g (front_of c.args.pass.now) p c.forget.new.self k c.timer.result.timer last c.requires.low
    (subst (λ (v : View). PartStands g v.front c.forget.new.self) c.see_timer-shown.ensures.same
    (c.forget.ensures.stands g c.see_timer-shown.ensures.belongs.named)) c.forget.ensures.loses c.forget.ensures.forgotten
    (c.forget.ensures.held (subst (λ (t : TimerRef). IsHeld p t) (sym last)
    (record { low = c.requires.low; named = refl; row = λ none. (let no : Some has.0 ≡ None = sym has.1 ∙ none in cc) }))
    ∙ ap (λ (t : TimerRef). given_back p t.slot false) last)

pub returns-in_default-clause-drops : goal.returns-in_default-clause-drops
returns-in_default-clause-drops c =
    let p = c.args.self.now in
    drops_empty (settings_of c.args.desk.now) (front_of c.args.pass.now) p c.args.slot c.requires.stands
    (told_none (told_at c.args.slot) (key_in p.keys c.args.slot) c.row.result c.row.ensures c.in_default.is)

pub timer-requires-clause-used : goal.timer-requires-clause-used
timer-requires-clause-used c =
    let p = c.args.self.now in
    let has = told_some (told_at c.args.slot) (key_in p.keys c.args.slot) c.row.result c.in-Some.row c.row.ensures c.in-Some.is in
    inr (λ none. let no : Some has.0 ≡ None = sym (ap (λ (r : HeldRow). key_in p.keys r.slot) (sym has.2) ∙ has.1) ∙ none in cc)
