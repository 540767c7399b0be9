use Rattle.std.proofs.Common.{refl, ap, ◌∙◌}
use Rattle.std.specs.FinSet as sets
use Rattle.ert_defs.specs.Timers.{timer_at}
use Rattle.ert_table.specs.Desks.{settings_of, view_of}
use Rattle.ert_timers.proofs.{Freed.keeps_uses, NextUses.{has_word, told_deadline}, Orphaned.still_caller, Renewed.{cancel_calm, gains_renewed, gone_renewed, is_ready, may_renew, missed_at, missed_then, not_read, peek_calm, renew_hit}}
use Rattle.ert_timers.proofs.{Renewed.{renew_missed, renewed, stays_can}}
use Rattle.ert_timers.specs.Parts.{Part}
use Rattle.ert_timers.proofs.part.WheelPart.restart_here.Goals as goal

pub returns-in_default-clause-stands : goal.returns-in_default-clause-stands
returns-in_default-clause-stands c =
    let g = settings_of c.args.desk.now in
    let v = view_of c.args.pass.now in
    let u = view_of c.peek_word.new.self in
    peek_calm g v c.args.by c.args.timer _ u c.args.self.now c.requires.stands c.requires.holds
    (not_read g v u c.args.by c.args.timer c.peek_word.result c.in_default.is c.peek_word.ensures.step)

pub returns-in_default-clause-call : goal.returns-in_default-clause-call
returns-in_default-clause-call c =
    let g = settings_of c.args.desk.now in
    let v = view_of c.args.pass.now in
    let u = view_of c.peek_word.new.self in
    missed_at g v u c.args.by c.args.self.now.number c.args.timer c.args.start.now
    (not_read g v u c.args.by c.args.timer c.peek_word.result c.in_default.is c.peek_word.ensures.step)

pub renew-requires-clause-may : goal.renew-requires-clause-may
renew-requires-clause-may c =
    let ready = is_ready (settings_of c.args.desk.now) (view_of c.args.pass.now) (view_of c.peek_word.new.self) c.args.by c.rounded_down-now.result c.args.self.now c.args.timer
    c.args.start.now c.args.ahead c.peek_word.result c.in-Some.read c.after-next.result c.in-Some.is c.peek_word.ensures.step c.requires.stands c.requires.holds
    c.requires.looked c.requires.stays c.rounded_down-now.ensures c.after-next.ensures in
    may_renew (settings_of c.args.desk.now) (view_of c.peek_word.new.self) c.args.by c.args.self.now c.args.timer c.args.start.now c.after-next.result
    ready.read.stands ready.read.holds c.requires.stays ready.standing ready.coming c.requires.dest

pub renew-requires-clause-deadline : goal.renew-requires-clause-deadline
renew-requires-clause-deadline c =
    let ready = is_ready (settings_of c.args.desk.now) (view_of c.args.pass.now) (view_of c.peek_word.new.self) c.args.by c.rounded_down-now.result c.args.self.now c.args.timer
    c.args.start.now c.args.ahead c.peek_word.result c.in-Some.read c.after-next.result c.in-Some.is c.peek_word.ensures.step c.requires.stands c.requires.holds
    c.requires.looked c.requires.stays c.rounded_down-now.ensures c.after-next.ensures in
    let timer = c.args.timer in
    told_deadline (settings_of c.args.desk.now) (view_of c.peek_word.new.self).front c.args.by c.args.self.now.number timer.slot c.args.start.now
    c.after-next.result (timer_at timer.wheel timer.slot c.after-next.result.generation) ready.read.stands.legal ready.coming refl

pub returns-then-not-renew-clause-stands : goal.returns-then-not-renew-clause-stands
returns-then-not-renew-clause-stands c =
    let ready = is_ready (settings_of c.args.desk.now) (view_of c.args.pass.now) (view_of c.peek_word.new.self) c.args.by c.rounded_down-now.result c.args.self.now c.args.timer
    c.args.start.now c.args.ahead c.peek_word.result c.in-Some.read c.after-next.result c.in-Some.is c.peek_word.ensures.step c.requires.stands c.requires.holds
    c.requires.looked c.requires.stays c.rounded_down-now.ensures c.after-next.ensures in
    let g = settings_of c.args.desk.now in
    let u = view_of c.peek_word.new.self in
    let x = view_of c.renew.new.self in
    cancel_calm g u c.args.by c.args.timer _ x c.args.self.now ready.read.stands ready.read.holds
    (renew_missed g u c.args.by c.args.timer _ _ _ c.args.start.now c.renew.result x c.if-not-renew.true c.renew.ensures.step)

pub returns-then-not-renew-clause-call : goal.returns-then-not-renew-clause-call
returns-then-not-renew-clause-call c =
    let ready = is_ready (settings_of c.args.desk.now) (view_of c.args.pass.now) (view_of c.peek_word.new.self) c.args.by c.rounded_down-now.result c.args.self.now c.args.timer
    c.args.start.now c.args.ahead c.peek_word.result c.in-Some.read c.after-next.result c.in-Some.is c.peek_word.ensures.step c.requires.stands c.requires.holds
    c.requires.looked c.requires.stays c.rounded_down-now.ensures c.after-next.ensures in
    let g = settings_of c.args.desk.now in
    let u = view_of c.peek_word.new.self in
    let x = view_of c.renew.new.self in
    missed_then g (view_of c.args.pass.now) u x c.args.by c.args.self.now.number c.args.timer c.args.start.now ready.read.found ready.read.step
    (renew_missed g u c.args.by c.args.timer _ _ _ c.args.start.now c.renew.result x c.if-not-renew.true c.renew.ensures.step)

pub renew-named-requires-clause-can : goal.renew-named-requires-clause-can
renew-named-requires-clause-can c =
    let ready = is_ready (settings_of c.args.desk.now) (view_of c.args.pass.now) (view_of c.peek_word.new.self) c.args.by c.rounded_down-now.result c.args.self.now c.args.timer
    c.args.start.now c.args.ahead c.peek_word.result c.in-Some.read c.after-next.result c.in-Some.is c.peek_word.ensures.step c.requires.stands c.requires.holds
    c.requires.looked c.requires.stays c.rounded_down-now.ensures c.after-next.ensures in
    stays_can c.args.self.now c.args.timer c.requires.stays ready.standing

pub renew-named-requires-clause-timer : goal.renew-named-requires-clause-timer
renew-named-requires-clause-timer c =
    let ready = is_ready (settings_of c.args.desk.now) (view_of c.args.pass.now) (view_of c.peek_word.new.self) c.args.by c.rounded_down-now.result c.args.self.now c.args.timer
    c.args.start.now c.args.ahead c.peek_word.result c.in-Some.read c.after-next.result c.in-Some.is c.peek_word.ensures.step c.requires.stands c.requires.holds
    c.requires.looked c.requires.stays c.rounded_down-now.ensures c.after-next.ensures in
    has_word (settings_of c.args.desk.now) (view_of c.peek_word.new.self).front c.args.by c.args.self.now.number c.args.timer.slot c.args.start.now
    c.after-next.result ready.read.stands.legal ready.coming

pub armed_word-word-requires : goal.armed_word-word-requires
armed_word-word-requires c =
    let ready = is_ready (settings_of c.args.desk.now) (view_of c.args.pass.now) (view_of c.peek_word.new.self) c.args.by c.rounded_down-now.result c.args.self.now c.args.timer
    c.args.start.now c.args.ahead c.peek_word.result c.in-Some.read c.after-next.result c.in-Some.is c.peek_word.ensures.step c.requires.stands c.requires.holds
    c.requires.looked c.requires.stays c.rounded_down-now.ensures c.after-next.ensures in
    has_word (settings_of c.args.desk.now) (view_of c.peek_word.new.self).front c.args.by c.args.self.now.number c.args.timer.slot c.args.start.now
    c.after-next.result ready.read.stands.legal ready.coming

pub end-requires-clause-holds : goal.end-requires-clause-holds
end-requires-clause-holds c =
    let ready = is_ready (settings_of c.args.desk.now) (view_of c.args.pass.now) (view_of c.peek_word.new.self) c.args.by c.rounded_down-now.result c.args.self.now c.args.timer
    c.args.start.now c.args.ahead c.peek_word.result c.in-Some.read c.after-next.result c.in-Some.is c.peek_word.ensures.step c.requires.stands c.requires.holds
    c.requires.looked c.requires.stays c.rounded_down-now.ensures c.after-next.ensures in
    still_caller (settings_of c.args.desk.now) (view_of c.peek_word.new.self) (view_of c.renew.new.self) c.args.by c.args.self.now.number c.renew-named.new.self.number
    ready.read.holds c.renew.ensures.step.actors (ap (λ (p : Part). p.number) c.renew-named.ensures.kept)

pub end-requires-clause-stands : goal.end-requires-clause-stands
end-requires-clause-stands c =
    let ready = is_ready (settings_of c.args.desk.now) (view_of c.args.pass.now) (view_of c.peek_word.new.self) c.args.by c.rounded_down-now.result c.args.self.now c.args.timer
    c.args.start.now c.args.ahead c.peek_word.result c.in-Some.read c.after-next.result c.in-Some.is c.peek_word.ensures.step c.requires.stands c.requires.holds
    c.requires.looked c.requires.stays c.rounded_down-now.ensures c.after-next.ensures in
    let twice = renew_hit (settings_of c.args.desk.now) (view_of c.args.pass.now) (view_of c.peek_word.new.self) (view_of c.renew.new.self) c.args.by c.args.self.now
    c.renew-named.new.self c.args.timer c.args.start.now c.in-Some.read c.after-next.result c.renew-named.result c.renew.result ready c.requires.stays
    c.if-not-renew.false c.renew.ensures.step c.renew-named.ensures.kept c.renew-named.ensures.timer in
    twice.other.stands

pub end-requires-clause-held : goal.end-requires-clause-held
end-requires-clause-held c =
    let ready = is_ready (settings_of c.args.desk.now) (view_of c.args.pass.now) (view_of c.peek_word.new.self) c.args.by c.rounded_down-now.result c.args.self.now c.args.timer
    c.args.start.now c.args.ahead c.peek_word.result c.in-Some.read c.after-next.result c.in-Some.is c.peek_word.ensures.step c.requires.stands c.requires.holds
    c.requires.looked c.requires.stays c.rounded_down-now.ensures c.after-next.ensures in
    let twice = renew_hit (settings_of c.args.desk.now) (view_of c.args.pass.now) (view_of c.peek_word.new.self) (view_of c.renew.new.self) c.args.by c.args.self.now
    c.renew-named.new.self c.args.timer c.args.start.now c.in-Some.read c.after-next.result c.renew-named.result c.renew.result ready c.requires.stays
    c.if-not-renew.false c.renew.ensures.step c.renew-named.ensures.kept c.renew-named.ensures.timer in
    twice.other.holds

pub end-requires-clause-dest : goal.end-requires-clause-dest
end-requires-clause-dest c =
    let ready = is_ready (settings_of c.args.desk.now) (view_of c.args.pass.now) (view_of c.peek_word.new.self) c.args.by c.rounded_down-now.result c.args.self.now c.args.timer
    c.args.start.now c.args.ahead c.peek_word.result c.in-Some.read c.after-next.result c.in-Some.is c.peek_word.ensures.step c.requires.stands c.requires.holds
    c.requires.looked c.requires.stays c.rounded_down-now.ensures c.after-next.ensures in
    let twice = renew_hit (settings_of c.args.desk.now) (view_of c.args.pass.now) (view_of c.peek_word.new.self) (view_of c.renew.new.self) c.args.by c.args.self.now
    c.renew-named.new.self c.args.timer c.args.start.now c.in-Some.read c.after-next.result c.renew-named.result c.renew.result ready c.requires.stays
    c.if-not-renew.false c.renew.ensures.step c.renew-named.ensures.kept c.renew-named.ensures.timer in
    twice.other.dest

pub returns-clause-number : goal.returns-clause-number
returns-clause-number c = c.end.ensures.call.number ∙ ap (λ (p : Part). p.number) c.renew-named.ensures.kept

pub returns-clause-stands : goal.returns-clause-stands
returns-clause-stands c = c.end.ensures.call.stands

pub returns-clause-call : goal.returns-clause-call
returns-clause-call c =
    let ready = is_ready (settings_of c.args.desk.now) (view_of c.args.pass.now) (view_of c.peek_word.new.self) c.args.by c.rounded_down-now.result c.args.self.now c.args.timer
    c.args.start.now c.args.ahead c.peek_word.result c.in-Some.read c.after-next.result c.in-Some.is c.peek_word.ensures.step c.requires.stands c.requires.holds
    c.requires.looked c.requires.stays c.rounded_down-now.ensures c.after-next.ensures in
    let twice = renew_hit (settings_of c.args.desk.now) (view_of c.args.pass.now) (view_of c.peek_word.new.self) (view_of c.renew.new.self) c.args.by c.args.self.now
    c.renew-named.new.self c.args.timer c.args.start.now c.in-Some.read c.after-next.result c.renew-named.result c.renew.result ready c.requires.stays
    c.if-not-renew.false c.renew.ensures.step c.renew-named.ensures.kept c.renew-named.ensures.timer in
    renewed (settings_of c.args.desk.now) (view_of c.args.pass.now) (view_of c.peek_word.new.self) twice.mid (view_of c.renew.new.self) (view_of c.end.new.pass) c.args.by
    c.args.self.now _ c.renew-named.new.self c.end.new.self c.args.timer c.args.timer.slot c.args.start.now c.after-next.result c.renew-named.result ready.read.found
    ready.read.step twice.one twice.other c.end.ensures.call refl

pub returns-clause-rows : goal.returns-clause-rows
returns-clause-rows c =
    let ready = is_ready (settings_of c.args.desk.now) (view_of c.args.pass.now) (view_of c.peek_word.new.self) c.args.by c.rounded_down-now.result c.args.self.now c.args.timer
    c.args.start.now c.args.ahead c.peek_word.result c.in-Some.read c.after-next.result c.in-Some.is c.peek_word.ensures.step c.requires.stands c.requires.holds
    c.requires.looked c.requires.stays c.rounded_down-now.ensures c.after-next.ensures in
    let twice = renew_hit (settings_of c.args.desk.now) (view_of c.args.pass.now) (view_of c.peek_word.new.self) (view_of c.renew.new.self) c.args.by c.args.self.now
    c.renew-named.new.self c.args.timer c.args.start.now c.in-Some.read c.after-next.result c.renew-named.result c.renew.result ready c.requires.stays
    c.if-not-renew.false c.renew.ensures.step c.renew-named.ensures.kept c.renew-named.ensures.timer in
    gains_renewed (settings_of c.args.desk.now) (view_of c.peek_word.new.self) c.args.by c.args.self.now c.renew-named.new.self c.end.new.self c.args.timer
    c.args.start.now c.after-next.result c.renew-named.result ready.read.found (view_of c.renew.new.self) (view_of c.end.new.pass) ready.standing twice c.end.ensures.call

pub returns-clause-gone : goal.returns-clause-gone
returns-clause-gone c =
    let ready = is_ready (settings_of c.args.desk.now) (view_of c.args.pass.now) (view_of c.peek_word.new.self) c.args.by c.rounded_down-now.result c.args.self.now c.args.timer
    c.args.start.now c.args.ahead c.peek_word.result c.in-Some.read c.after-next.result c.in-Some.is c.peek_word.ensures.step c.requires.stands c.requires.holds
    c.requires.looked c.requires.stays c.rounded_down-now.ensures c.after-next.ensures in
    let twice = renew_hit (settings_of c.args.desk.now) (view_of c.args.pass.now) (view_of c.peek_word.new.self) (view_of c.renew.new.self) c.args.by c.args.self.now
    c.renew-named.new.self c.args.timer c.args.start.now c.in-Some.read c.after-next.result c.renew-named.result c.renew.result ready c.requires.stays
    c.if-not-renew.false c.renew.ensures.step c.renew-named.ensures.kept c.renew-named.ensures.timer in
    gone_renewed c.renew-named.new.self c.end.new.self c.args.timer c.end.ensures.call.loses twice.gone

pub returns-clause-frees : goal.returns-clause-frees
returns-clause-frees c =
    keeps_uses c.args.self.now c.end.new.self _ (λ k was. c.end.ensures.call.loses.frees k (ap (λ (p : Part). sets.contains p.free k) c.renew-named.ensures.kept ∙ was))

pub returns-in_default-clause-frees : goal.returns-in_default-clause-frees
returns-in_default-clause-frees c = keeps_uses c.args.self.now c.args.self.now _ (λ k was. was)

pub returns-then-not-renew-clause-frees : goal.returns-then-not-renew-clause-frees
returns-then-not-renew-clause-frees c = keeps_uses c.args.self.now c.args.self.now _ (λ k was. was)
