use Rattle.std.proofs.Common.{◌≡◌, ◌∙◌, refl, sym, ap, subst, Ok, List, [], ◌∷◌, ◌++◌}
use Rattle.ert_effects.specs.RequestCalls.{Asks}
use Rattle.ert_defs.specs.declared.mail.Request.{Request}
use Rattle.ert_table.specs.{Calls.IsMade, Desks.{settings_of, view_of}}
use Rattle.ert_mail.specs.Inboxes.{Waiting, IsAskers, InboxStands}
use Rattle.ert_mail.specs.contracts.inbox.InboxPart.{the_view}
use Rattle.ert_mail.proofs.InboxStanding.{ask_made, stands_asked}
use Rattle.ert_mail.proofs.inbox.InboxPart.ask.Goals as goal

pub returns-clause-call : goal.returns-clause-call
returns-clause-call c =
    let g = settings_of c.args.desk.now in
    let v = view_of c.args.pass.now in
    let w = view_of c.load_time.new.self in
    subst (λ (q : Waiting). IsMade g v (Asks g c.args.by q.wheel c.args.request (Ok tt)) w) c.self.view_is
    (ask_made g v w c.args.by c.self.inside.wheel c.args.request tt c.load_time.ensures.step)

pub returns-clause-stands : goal.returns-clause-stands
returns-clause-stands c =
    let g = settings_of c.args.desk.now in
    let v = view_of c.args.pass.now in
    let q : Waiting = the_view c.self.inside in
    let holds = subst (λ (q : Waiting). IsAskers g v c.args.by q.wheel) (sym c.self.view_is) c.requires.holds in
    let stands = subst (InboxStands g v.front) (sym c.self.view_is) c.requires.stands in
    let more : c.push_back_reserved.new.self.items ≡ c.self.inside.queue.items ++ c.args.request ∷ [] =
    c.push_back_reserved.ensures.items ∙ ap (λ (xs : List Request). xs ++ c.args.request ∷ []) c.in_ok-reserve.ensures.items in
    stands_asked g v (view_of c.load_time.new.self) c.args.by c.args.request q _ holds.inbox stands c.load_time.ensures.step refl more
