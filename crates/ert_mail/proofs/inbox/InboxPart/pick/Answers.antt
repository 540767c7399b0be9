use Rattle.std.proofs.Common.{◌≡◌, refl, sym, subst}
use Rattle.ert_effects.specs.RequestCalls.{Picks}
use Rattle.ert_defs.specs.States.{state}
use Rattle.ert_table.specs.{Calls.IsMade, Desks.{settings_of, view_of}}
use Rattle.ert_table.proofs.Parts.{popped}
use Rattle.ert_mail.specs.Inboxes.{Waiting, HoldsInboxAndSched, InboxStands, sched_after_pick}
use Rattle.ert_mail.specs.contracts.inbox.InboxPart.{the_view}
use Rattle.ert_mail.proofs.InboxStanding.{pick_made, stands_picked, sched_picked}
use Rattle.ert_mail.proofs.inbox.InboxPart.pick.Goals as goal

pub returns-clause-call : goal.returns-clause-call
returns-clause-call c =
    let g = settings_of c.args.desk.now in
    let v = view_of c.args.pass.now in
    let w = view_of c.load_time.new.self in
    subst (λ (q : Waiting). IsMade g v (Picks g q.wheel c.pop_front-got.result) w) c.self.view_is
    (pick_made g v w c.self.inside.wheel c.pop_front-got.result c.load_time.ensures.step)

pub returns-clause-sched : goal.returns-clause-sched
returns-clause-sched c =
    let g = settings_of c.args.desk.now in
    let v = view_of c.args.pass.now in
    let w = view_of c.load_time.new.self in
    let holds = subst (λ (q : Waiting). HoldsInboxAndSched g v q.wheel) (sym c.self.view_is) c.requires.holds in
    subst (λ (q : Waiting). (state g w.front).scheds q.wheel ≡ sched_after_pick c.pop_front-got.result ((state g v.front).scheds q.wheel)) c.self.view_is
    (sched_picked g v w c.self.inside.wheel c.pop_front-got.result holds.sched c.load_time.ensures.step)

pub returns-clause-stands : goal.returns-clause-stands
returns-clause-stands c =
    let g = settings_of c.args.desk.now in
    let v = view_of c.args.pass.now in
    let q : Waiting = the_view c.self.inside in
    let holds = subst (λ (q : Waiting). HoldsInboxAndSched g v q.wheel) (sym c.self.view_is) c.requires.holds in
    let stands = subst (InboxStands g v.front) (sym c.self.view_is) c.requires.stands in
    let first = popped c.self.inside.queue.items c.pop_front-got.new.self.items c.pop_front-got.result c.pop_front-got.ensures.items c.pop_front-got.ensures.rest in
    stands_picked g v (view_of c.load_time.new.self) c.pop_front-got.result q _ holds.inbox stands c.load_time.ensures.step refl first.1
