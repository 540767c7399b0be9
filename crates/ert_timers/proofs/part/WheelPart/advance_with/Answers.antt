use Rattle.std.proofs.Common.{◌≡◌, refl, subst, sym, ◌∙◌}
use Rattle.ert_defs.specs.{Entries.advanced_entry, declared.entry.Actor.TheVariants.Sched}
use Rattle.ert_effects.specs.declared.answers.Left.{Left, TheVariants.Nothing}
use Rattle.ert_table.specs.{Desks.{settings_of, view_of}, Takes.Appends}
use Rattle.ert_timers.specs.{Looking.LooksDown, Trying.{HasExpiredSome, IsLeft, IsTriedSome}}
use Rattle.ert_timers.proofs.{SomeTried.{is_looked, loses_some, may_end_some, nothing_more, stopped_some, ended_some}, Trials.{still_held, stands_ended}}
use Rattle.ert_timers.proofs.part.WheelPart.advance_with.Goals as goal

pub try_some-left-requires-clause-holds : goal.try_some-left-requires-clause-holds
try_some-left-requires-clause-holds c =
    still_held (view_of c.args.pass.now) (view_of c.look_down-to.new.pass) c.args.self.now.number c.args.self.now.number c.requires.holds
    c.look_down-to.ensures.looks.step.actors refl

pub try_some-left-requires-clause-looked : goal.try_some-left-requires-clause-looked
try_some-left-requires-clause-looked c =
    let g = settings_of c.args.desk.now in
    let v = view_of c.args.pass.now in
    let u = view_of c.look_down-to.new.pass in
    is_looked g v c.args.self.now c.look_down-to.result u c.requires.stands c.requires.holds
    (subst (λ n. LooksDown g v (Sched n) c.look_down-to.result u) c.number.ensures c.look_down-to.ensures.looks)

pub returns-then-is_more-clause-call : goal.returns-then-is_more-clause-call
returns-then-is_more-clause-call c =
    stopped_some (settings_of c.args.desk.now) (view_of c.args.pass.now) c.args.self.now c.try_some-left.new.self c.number.result c.args.most c.look_down-to.result
    c.args.expired.now c.args.expired.now c.try_some-left.new.expired (view_of c.look_down-to.new.pass) (view_of c.try_some-left.new.pass) c.number.ensures
    refl c.look_down-to.ensures.looks c.requires.holds c.try_some-left.result (sym c.is_more.ensures ∙ c.if-is_more.true) c.try_some-left.ensures.call

pub returns-then-is_more-clause-stands : goal.returns-then-is_more-clause-stands
returns-then-is_more-clause-stands c = c.try_some-left.ensures.call.looked.stands

pub returns-then-is_more-clause-loses : goal.returns-then-is_more-clause-loses
returns-then-is_more-clause-loses c = c.try_some-left.ensures.call.done.loses

pub returns-then-is_more-clause-fewer : goal.returns-then-is_more-clause-fewer
returns-then-is_more-clause-fewer c =
    loses_some (settings_of c.args.desk.now) (view_of c.look_down-to.new.pass) c.args.self.now c.try_some-left.new.self c.look_down-to.result c.args.most
    c.try_some-left.result c.args.expired.now c.try_some-left.new.expired (view_of c.try_some-left.new.pass) c.try_some-left.ensures.call

pub load_time-requires-clause-may : goal.load_time-requires-clause-may
load_time-requires-clause-may c = λ now.
    let some = c.try_some-left.ensures.call in
    let q = c.try_some-left.new.self in
    let w = view_of c.try_some-left.new.pass in
    let left : c.try_some-left.result ≡ Nothing = nothing_more c.try_some-left.result (sym c.is_more.ensures ∙ c.if-is_more.false) in
    let passed = subst (IsLeft q c.look_down-to.result) left c.try_some-left.ensures.left in
    may_end_some (settings_of c.args.desk.now) w q c.look_down-to.result c.number-2.result some.looked passed.left
    (still_held (view_of c.args.pass.now) w c.args.self.now.number q.number c.requires.holds
    (some.done.call.actors ∙ c.look_down-to.ensures.looks.step.actors) some.done.number)
    c.number-2.ensures

pub returns-clause-stands : goal.returns-clause-stands
returns-clause-stands c =
    let some = c.try_some-left.ensures.call in
    let q = c.try_some-left.new.self in
    let w = view_of c.try_some-left.new.pass in
    let held =
    still_held (view_of c.args.pass.now) w c.args.self.now.number c.number-2.result c.requires.holds
    (some.done.call.actors ∙ c.look_down-to.ensures.looks.step.actors) (c.number-2.ensures ∙ some.done.number) in
    stands_ended (settings_of c.args.desk.now) w q q c.number-2.result c.look_down-to.result (view_of c.load_time.new.self)
    some.looked.stands refl (sym c.number-2.ensures) held.wheel c.load_time.ensures.step

pub returns-clause-call : goal.returns-clause-call
returns-clause-call c =
    let g = settings_of c.args.desk.now in
    let v = view_of c.args.pass.now in
    let u = view_of c.look_down-to.new.pass in
    let p = c.args.self.now in
    let q = c.try_some-left.new.self in
    let w = view_of c.try_some-left.new.pass in
    let x = view_of c.load_time.new.self in
    let to = c.look_down-to.result in
    let mid = c.args.expired.now in
    let new = c.try_some-left.new.expired in
    let some = c.try_some-left.ensures.call in
    let left : c.try_some-left.result ≡ Nothing = nothing_more c.try_some-left.result (sym c.is_more.ensures ∙ c.if-is_more.false) in
    let number : c.number-2.result ≡ p.number = c.number-2.ensures ∙ some.done.number in
    subst (λ (l : Left). HasExpiredSome g v p q c.args.most to l c.args.expired.now new x) (sym left)
    (ended_some g v p q c.number.result c.args.most to
    c.args.expired.now mid new u w c.number.ensures refl c.look_down-to.ensures.looks c.requires.holds x
    (subst (λ (l : Left). IsTriedSome g u p q to c.args.most l mid new w) left some)
    (subst (λ n. Appends g w (advanced_entry n to) x) number c.load_time.ensures.step))

pub returns-clause-fewer : goal.returns-clause-fewer
returns-clause-fewer c =
    loses_some (settings_of c.args.desk.now) (view_of c.look_down-to.new.pass) c.args.self.now c.try_some-left.new.self c.look_down-to.result c.args.most
    c.try_some-left.result c.args.expired.now c.try_some-left.new.expired (view_of c.try_some-left.new.pass) c.try_some-left.ensures.call

pub returns-clause-loses : goal.returns-clause-loses
returns-clause-loses c = c.try_some-left.ensures.call.done.loses
