use Rattle.std.proofs.Common.{◌<◌, true, [], Some, Err, inl, inr, refl, sym, ap, subst, ◌∙◌, arith}
use Rattle.ert_effects.specs.RestartCalls.{RestartEnds}
use Rattle.ert_table.specs.{Calls.IsMade, Desks.{settings_of, view_of}}
use Rattle.ert_timers.proofs.{Freed.{found_none, keeps_uses, moved_uses, none_uses, taken_free}, Moved.{ends_after, full_for, gains_after, has_slot, none_takes, not_full, spent}, Renewed.gains_no, Starts.round_taken, Takings.takes_first}
use Rattle.ert_timers.specs.{Frees.UsesFree, Changes.next_use, Looking.now_in, Parts.{Part, slot_at}, Passed.GainsOne, Starting.TakesSlot}
use Rattle.ert_timers.proofs.part.WheelPart.restart_elsewhere.Goals as goal

pub returns-in_default-clause-call : goal.returns-in_default-clause-call
returns-in_default-clause-call c =
    let g = settings_of c.args.desk.now in
    let u = view_of c.args.pass.now in
    let z = view_of c.restart_here.new.pass in
    let made = subst (λ (p : Part). IsMade g u (λ s es. RestartEnds true c.args.by p.number c.args.timer c.args.start c.restart_here.result es) z) c.in_default.ensures.unchanged c.restart_here.ensures.call in
    ends_after g u u z c.args.by c.args.self.now.number c.args.timer c.args.start (now_in c.args.ahead) c.restart_here.result [] tt
    (none_takes g u c.requires.stands.legal) made
    (not_full g c.args.by c.args.self.now.number c.args.timer _ c.restart_here.result _ [] c.restart_here.ensures.not_full)

pub returns-in_default-clause-rows : goal.returns-in_default-clause-rows
returns-in_default-clause-rows c = subst (λ (p : Part). GainsOne p c.restart_here.new.self c.restart_here.result) c.in_default.ensures.unchanged c.restart_here.ensures.rows

pub restart_in-requires-clause-stands : goal.restart_in-requires-clause-stands
restart_in-requires-clause-stands c =
    let takes = takes_first (settings_of c.args.desk.now) (view_of c.args.pass.now) c.args.by (now_in c.args.ahead) c.args.self.now c.pick.new.self c.in-Some.slot c.requires.stands c.requires.looked.clock
    c.in-Some.ensures.picked c.in-Some.ensures.usable c.in-Some.ensures.held in
    takes.stands

pub restart_in-requires-clause-found : goal.restart_in-requires-clause-found
restart_in-requires-clause-found c =
    let takes = takes_first (settings_of c.args.desk.now) (view_of c.args.pass.now) c.args.by (now_in c.args.ahead) c.args.self.now c.pick.new.self c.in-Some.slot c.requires.stands c.requires.looked.clock
    c.in-Some.ensures.picked c.in-Some.ensures.usable c.in-Some.ensures.held in
    let stay = c.may_stay.ensures.stays c.if-may_stay.true in
    let few : c.pick.new.self.arms < 9007199254740992 = subst (λ (p : Part). p.arms < 9007199254740992) (sym c.in-Some.ensures.picked) stay.few in
    has_slot (settings_of c.args.desk.now) (view_of c.args.pass.now) (view_of c.args.pass.now) c.args.by c.args.self.now c.pick.new.self c.args.start c.args.ahead c.in-Some.slot c.next_use-next.result c.requires.looked c.requires.stands takes
    (c.next_use-next.ensures ∙ ap (λ n. next_use (slot_at c.pick.new.self.slots c.in-Some.slot).generation n c.args.ahead.deadline) c.rounded_down-now.ensures) few

pub returns-then-may_stay-clause-call : goal.returns-then-may_stay-clause-call
returns-then-may_stay-clause-call c =
    let g = settings_of c.args.desk.now in
    let u = view_of c.args.pass.now in
    let z = view_of c.restart_in.new.pass in
    let takes = takes_first (settings_of c.args.desk.now) (view_of c.args.pass.now) c.args.by (now_in c.args.ahead) c.args.self.now c.pick.new.self c.in-Some.slot c.requires.stands c.requires.looked.clock
    c.in-Some.ensures.picked c.in-Some.ensures.usable c.in-Some.ensures.held in
    let made = subst (λ n. IsMade g u (λ s es. RestartEnds true c.args.by n c.args.timer c.args.start c.restart_in.result es) z) takes.number c.restart_in.ensures.call in
    ends_after g u u z c.args.by c.args.self.now.number c.args.timer c.args.start (now_in c.args.ahead) c.restart_in.result [] tt
    (none_takes g u c.requires.stands.legal) made
    (not_full g c.args.by c.args.self.now.number c.args.timer _ c.restart_in.result _ [] c.restart_in.ensures.not_full)

pub returns-then-may_stay-clause-rows : goal.returns-then-may_stay-clause-rows
returns-then-may_stay-clause-rows c =
    let takes = takes_first (settings_of c.args.desk.now) (view_of c.args.pass.now) c.args.by (now_in c.args.ahead) c.args.self.now c.pick.new.self c.in-Some.slot c.requires.stands c.requires.looked.clock
    c.in-Some.ensures.picked c.in-Some.ensures.usable c.in-Some.ensures.held in
    gains_after c.args.self.now c.pick.new.self c.restart_in.new.self c.restart_in.result takes.fewer c.restart_in.ensures.rows

pub returns-then-arms-ge-MOST_TIMERS-clause-call : goal.returns-then-arms-ge-MOST_TIMERS-clause-call
returns-then-arms-ge-MOST_TIMERS-clause-call c =
    let g = settings_of c.args.desk.now in
    let u = view_of c.args.pass.now in
    ends_after g u u (view_of c.refuse.new.pass) c.args.by c.args.self.now.number c.args.timer c.args.start (now_in c.args.ahead) (Err c.refuse.result) [] tt
    (none_takes g u c.requires.stands.legal) (c.refuse.ensures.call c.args.self.now.number c.args.start)
    (full_for g c.args.by c.args.self.now.number c.args.timer _ c.refuse.result _ []
    (spent g u.front c.args.by _ c.arms.result c.args.self.now c.args.timer c.requires.stands c.arms.ensures c.if-arms-ge-MOST_TIMERS.true))

pub returns-in_default-take_slot-clause-call : goal.returns-in_default-take_slot-clause-call
returns-in_default-take_slot-clause-call c =
    let g = settings_of c.args.desk.now in
    let u = view_of c.args.pass.now in
    let takes = c.take_slot.ensures.call in
    let few : c.args.self.now.arms < 9007199254740992 = omega (arith, c.arms.ensures, c.if-arms-ge-MOST_TIMERS.false) in
    ends_after g u (view_of c.take_slot.new.pass) (view_of c.refuse-in_default-take_slot.new.pass) c.args.by c.args.self.now.number c.args.timer c.args.start
    (now_in c.args.ahead) (Err c.refuse-in_default-take_slot.result) takes.probes takes.are_probes takes.call
    (c.refuse-in_default-take_slot.ensures.call c.args.self.now.number c.args.start)
    (full_for g c.args.by c.args.self.now.number c.args.timer _ c.refuse-in_default-take_slot.result _ takes.probes
    (inl (
      c.may_stay.ensures.needs c.if-may_stay.false few,
      round_taken g u.front u (view_of c.take_slot.new.pass) c.args.by (now_in c.args.ahead) c.args.self.now c.take_slot.new.self c.take_slot.result c.requires.stands
          c.in_default-take_slot.is takes,
    )))

pub returns-in_default-take_slot-clause-rows : goal.returns-in_default-take_slot-clause-rows
returns-in_default-take_slot-clause-rows c = gains_no c.args.self.now c.take_slot.new.self _ c.take_slot.ensures.call.fewer

pub restart_in-requires-2-clause-found : goal.restart_in-requires-2-clause-found
restart_in-requires-2-clause-found c =
    let takes = subst (λ o. TakesSlot (settings_of c.args.desk.now) (view_of c.args.pass.now) c.args.by (now_in c.args.ahead) c.args.self.now c.take_slot.new.self o (view_of c.take_slot.new.pass)) c.in-Some-take_slot.is c.take_slot.ensures.call in
    let few : c.take_slot.new.self.arms < 9007199254740992 = omega (arith, c.take_slot.ensures.call.arms, c.arms.ensures, c.if-arms-ge-MOST_TIMERS.false) in
    has_slot (settings_of c.args.desk.now) (view_of c.args.pass.now) (view_of c.take_slot.new.pass) c.args.by c.args.self.now c.take_slot.new.self c.args.start c.args.ahead c.in-Some-take_slot.slot c.next_use-next-2.result c.requires.looked
    c.requires.stands takes
    (c.next_use-next-2.ensures ∙ ap (λ n. next_use (slot_at c.take_slot.new.self.slots c.in-Some-take_slot.slot).generation n c.args.ahead.deadline) c.rounded_down-now-2.ensures) few

pub returns-clause-call : goal.returns-clause-call
returns-clause-call c =
    let g = settings_of c.args.desk.now in
    let u = view_of c.args.pass.now in
    let x = view_of c.take_slot.new.pass in
    let z = view_of c.restart_in-2.new.pass in
    let takes = c.take_slot.ensures.call in
    let made = subst (λ n. IsMade g x (λ s es. RestartEnds true c.args.by n c.args.timer c.args.start c.restart_in-2.result es) z) takes.number c.restart_in-2.ensures.call in
    ends_after g u x z c.args.by c.args.self.now.number c.args.timer c.args.start (now_in c.args.ahead) c.restart_in-2.result takes.probes takes.are_probes takes.call made
    (not_full g c.args.by c.args.self.now.number c.args.timer _ c.restart_in-2.result _ takes.probes c.restart_in-2.ensures.not_full)

pub returns-clause-rows : goal.returns-clause-rows
returns-clause-rows c =
    gains_after c.args.self.now c.take_slot.new.self c.restart_in-2.new.self c.restart_in-2.result c.take_slot.ensures.call.fewer c.restart_in-2.ensures.rows

pub returns-in_default-clause-full : goal.returns-in_default-clause-full
returns-in_default-clause-full c = λ is. absurd (c.restart_here.ensures.not_full is)

pub returns-in_default-clause-frees : goal.returns-in_default-clause-frees
returns-in_default-clause-frees c =
    subst (λ (p : Part). UsesFree p c.restart_here.new.self c.restart_here.result) c.in_default.ensures.unchanged c.restart_here.ensures.frees

pub returns-then-may_stay-clause-full : goal.returns-then-may_stay-clause-full
returns-then-may_stay-clause-full c = λ is. absurd (c.restart_in.ensures.not_full is)

pub returns-then-may_stay-clause-frees : goal.returns-then-may_stay-clause-frees
returns-then-may_stay-clause-frees c =
    moved_uses c.args.self.now c.pick.new.self c.restart_in.new.self (Some c.in-Some.slot) c.in-Some.slot c.restart_in.result refl
    (λ j was. taken_free c.args.self.now c.pick.new.self c.in-Some.slot j c.in-Some.ensures.picked was) c.restart_in.ensures.frees c.restart_in.ensures.back

pub returns-then-arms-ge-MOST_TIMERS-clause-full : goal.returns-then-arms-ge-MOST_TIMERS-clause-full
returns-then-arms-ge-MOST_TIMERS-clause-full c = λ is. inl (omega (arith, c.arms.ensures, c.if-arms-ge-MOST_TIMERS.true))

pub returns-then-arms-ge-MOST_TIMERS-clause-frees : goal.returns-then-arms-ge-MOST_TIMERS-clause-frees
returns-then-arms-ge-MOST_TIMERS-clause-frees c = keeps_uses c.args.self.now c.args.self.now _ (λ k was. was)

pub returns-in_default-take_slot-clause-full : goal.returns-in_default-take_slot-clause-full
returns-in_default-take_slot-clause-full c = λ is. inr (found_none _ _ _ _ _ _ _ _ c.in_default-take_slot.is c.take_slot.ensures.call)

pub returns-in_default-take_slot-clause-frees : goal.returns-in_default-take_slot-clause-frees
returns-in_default-take_slot-clause-frees c =
    none_uses c.args.self.now c.take_slot.new.self c.take_slot.result _ c.in_default-take_slot.is c.take_slot.ensures.call.frees

pub returns-clause-full : goal.returns-clause-full
returns-clause-full c = λ is. absurd (c.restart_in-2.ensures.not_full is)

pub returns-clause-frees : goal.returns-clause-frees
returns-clause-frees c =
    moved_uses c.args.self.now c.take_slot.new.self c.restart_in-2.new.self c.take_slot.result c.in-Some-take_slot.slot c.restart_in-2.result
    c.in-Some-take_slot.is c.take_slot.ensures.call.frees c.restart_in-2.ensures.frees c.restart_in-2.ensures.back
