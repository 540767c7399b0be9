use Rattle.std.proofs.Common.{◌≡◌, ◌<◌, sym, subst, ◌∙◌, true, false}
use Rattle.ert_mail.proofs.Listing.{flag_is, row_put, with_new, with_there}
use Rattle.ert_mail.specs.{Lists.with_listed, Turns.{TurnRow, is_listed}}
use Rattle.ert_mail.proofs.list.MailList.put.Goals as goal

pub put-requires-clause-away : goal.put-requires-clause-away
put-requires-clause-away c =
    flag_is c.self.inside.row c.self.inside.listed.items c.args.process c.index.result.now c.self.invariant
    (subst (λ n. c.args.process < n) c.self.invariant.counted (subst (λ (r : TurnRow). c.args.process < r.bound) (sym c.self.view_is) c.requires)) c.index.ensures
    ∙ c.if-index.false

pub invariant_of-self : goal.invariant_of-self
invariant_of-self c =
    rw c.put.ensures
    (row_put c.self.inside.row c.self.inside.listed.items c.args.process c.self.invariant
    (subst (λ n. c.args.process < n) c.self.invariant.counted (subst (λ (r : TurnRow). c.args.process < r.bound) (sym c.self.view_is) c.requires)))

pub returns-then-index : goal.returns-then-index
returns-then-index c =
    let low = subst (λ n. c.args.process < n) c.self.invariant.counted (subst (λ (r : TurnRow). c.args.process < r.bound) (sym c.self.view_is) c.requires) in
    let there : is_listed c.self.inside.row c.args.process ≡ true =
    flag_is c.self.inside.row c.self.inside.listed.items c.args.process c.index.result.now c.self.invariant low c.index.ensures ∙ c.if-index.true in
    subst (λ (r : TurnRow). r ≡ with_listed r c.args.process) c.self.view_is (sym (with_there c.self.inside.row c.args.process there))

pub returns : goal.returns
returns c =
    let low = subst (λ n. c.args.process < n) c.self.invariant.counted (subst (λ (r : TurnRow). c.args.process < r.bound) (sym c.self.view_is) c.requires) in
    let new : is_listed c.self.inside.row c.args.process ≡ false =
    flag_is c.self.inside.row c.self.inside.listed.items c.args.process c.index.result.now c.self.invariant low c.index.ensures ∙ c.if-index.false in
    subst (λ (r : TurnRow). c.put.new.self ≡ with_listed r c.args.process) c.self.view_is
    (c.put.ensures ∙ sym (with_new c.self.inside.row c.args.process new))
