use Rattle.std.proofs.Common.{◌≡◌, ◌<◌, ◌∙◌, sym, ap, subst, subst₂, arith}
use Rattle.ert_defs.specs.{Words.timer_word, declared.timer.Status.TheVariants.Armed, declared.timer.TimerRef.TimerRef}
use Rattle.ert_table.specs.{Desks.{settings_of, view_of, front_of}, Places.IsPlaceOf}
use Rattle.ert_timers.specs.Parts.{Part}
use Rattle.ert_timers.proofs.{Armings.{arms, may_arm}, NextUses.{deadline_is, has_word, new_generation}}
use Rattle.ert_timers.proofs.part.WheelPart.arm.Goals as goal

pub touch-place-requires : goal.touch-place-requires
touch-place-requires c =
    let holds = c.requires.stands.holds in
    record { wheel_high = omega (arith, c.number.ensures, holds.number); slot_high = omega (arith, c.requires.free.low, holds.many) }

pub keep-timer-requires-clause-dest : goal.keep-timer-requires-clause-dest
keep-timer-requires-clause-dest c =
    subst (λ n. c.args.start.now.dest < n) (sym c.requires.stands.holds.processes) c.requires.dest

pub keep-timer-requires-clause-timer : goal.keep-timer-requires-clause-timer
keep-timer-requires-clause-timer c =
    has_word (settings_of c.args.desk.now) (front_of c.args.pass.now) c.args.by c.args.self.now.number c.args.slot c.args.start.now c.args.next
    c.requires.stands.legal c.requires.next

pub armed_word-word-requires : goal.armed_word-word-requires
armed_word-word-requires c =
    has_word (settings_of c.args.desk.now) (front_of c.args.pass.now) c.args.by c.args.self.now.number c.args.slot c.args.start.now c.args.next
    c.requires.stands.legal c.requires.next

pub arm_at-requires-clause-word : goal.arm_at-requires-clause-word
arm_at-requires-clause-word c =
    let generation = new_generation c.args.self.now c.keep-timer.new.self c.args.slot c.args.start.now c.args.next c.keep-timer.result c.requires.free.low
    c.keep-timer.ensures.kept c.keep-timer.ensures.timer in
    c.armed_word-word.ensures ∙ ap (λ n. timer_word Armed c.args.next.deadline n) (sym generation)

pub arm_at-requires-clause-deadline : goal.arm_at-requires-clause-deadline
arm_at-requires-clause-deadline c =
    deadline_is (settings_of c.args.desk.now) (front_of c.args.pass.now) c.args.by c.args.self.now c.keep-timer.new.self c.args.slot c.args.next
    c.args.start.now c.keep-timer.result c.requires.stands.legal c.requires.free.low c.requires.next c.keep-timer.ensures.kept
    c.keep-timer.ensures.timer

pub arm_at-requires-clause-may : goal.arm_at-requires-clause-may
arm_at-requires-clause-may c =
    may_arm (settings_of c.args.desk.now) (view_of c.args.pass.now) c.args.by c.args.self.now c.keep-timer.new.self c.args.slot c.args.next
    c.args.start.now c.keep-timer.result c.requires.stands c.requires.holds c.requires.free c.requires.usable c.requires.dest
    c.requires.next c.requires.few c.keep-timer.ensures.kept c.keep-timer.ensures.timer

pub arm_at-requires-clause-place : goal.arm_at-requires-clause-place
arm_at-requires-clause-place c =
    let kept = c.keep-timer.ensures in
    let wheel : c.keep-timer.result.wheel ≡ c.number.result =
    ap (λ (t : TimerRef). t.wheel) kept.timer ∙ (ap (λ (p : Part). p.number) kept.kept ∙ sym c.number.ensures) in
    let slot : c.keep-timer.result.slot ≡ c.args.slot = ap (λ (t : TimerRef). t.slot) kept.timer in
    subst₂ (λ w k. IsPlaceOf (settings_of c.args.desk.now) w k c.touch-place.result) (sym wheel) (sym slot) c.touch-place.ensures

pub returns-clause-call : goal.returns-clause-call
returns-clause-call c =
    arms (settings_of c.args.desk.now) (view_of c.args.pass.now) c.args.by c.args.self.now c.keep-timer.new.self c.args.slot c.args.next
    c.args.start.now c.keep-timer.result (view_of c.arm_at.new.self) c.requires.stands c.requires.holds c.requires.free c.requires.next
    c.keep-timer.ensures.kept c.keep-timer.ensures.timer c.arm_at.ensures.step
