use Rattle.std.proofs.Common.{◌≡◌, List, Ok, sym, subst}
use Rattle.ert_defs.specs.{Mails.others_of, States.sched_of, declared.entry.Entry.Entry, declared.settings.Settings.Settings}
use Rattle.ert_effects.specs.{Chains.Hands, Ways.Grows}
use Rattle.ert_world.proofs.MoreLeft.{keeps_same, keep_then}
use Rattle.ert_world.specs.{Stepping.stay, Worlds.{way_of, world_sched}}
use Rattle.ert_world.proofs.world.World.hand_next.Goals as goal

pub returns-clause-call : goal.returns-clause-call
returns-clause-call c =
    let a = c.args.self.now in
    subst (λ h. Grows (Hands a.settings (way_of a) c.args.sched (Ok c.in_ok-handed.handed)) a.history h) (sym c.reuse.ensures.history) c.in_ok-handed.ensures.call.grows

pub returns-clause-expired : goal.returns-clause-expired
returns-clause-expired c =
    let rest = others_of (world_sched c.args.self.now c.args.sched).expired in
    subst (λ (g : Settings). (sched_of g c.reuse.new.self.history c.args.sched).expired ≡ rest) (sym c.reuse.ensures.stays.settings)
    (subst (λ (h : List Entry). (sched_of c.hand_over.new.self.settings h c.args.sched).expired ≡ rest) (sym c.reuse.ensures.history)
    c.in_ok-handed.ensures.expired)

pub returns-clause-legal : goal.returns-clause-legal
returns-clause-legal c =
    rw (c.reuse.ensures.stays.settings, c.reuse.ensures.history) c.in_ok-handed.ensures.call.legal

pub returns-clause-stays : goal.returns-clause-stays
returns-clause-stays c =
    stay c.args.self.now c.hand_over.new.self c.reuse.new.self c.hand_over.ensures.stays c.reuse.ensures.stays

pub returns-clause-kept : goal.returns-clause-kept
returns-clause-kept c =
    keep_then c.args.self.now c.hand_over.new.self c.reuse.new.self (keeps_same c.args.self.now c.hand_over.new.self c.hand_over.ensures.wheels) c.reuse.ensures.kept

pub returns-in_err-handed-clause-kept : goal.returns-in_err-handed-clause-kept
returns-in_err-handed-clause-kept c = keeps_same c.args.self.now c.hand_over.new.self c.hand_over.ensures.wheels
