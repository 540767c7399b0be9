use Rattle.std.proofs.Common.{◌≡◌, ◌+◌, ◌<◌, ◌∷◌, ◌++◌, [], true, false, refl, sym, ap, subst, ◌∙◌, arith}
use Rattle.ert_defs.specs.{Entries.mark_entry, declared.entry.Actor.TheVariants.Caller}
use Rattle.ert_table.specs.{Calls.IsMade, Desks.{settings_of, view_of, state_of}, Takes.Appends}
use Rattle.ert_mail.specs.{Lists.{AreListed, exited_from}, Turns.TurnRow}
use Rattle.ert_mail.proofs.{Listing.{listed_again, none_next, none_waits, some_next, still_listed, with_new}, Looked.{Passes, listed_then, look_found, looked_all, looked_last, looked_more, none_there, passed_more, some_there}}
use Rattle.ert_mail.proofs.list.MailList.next.Goals as goal

pub returns : goal.returns
returns c =
    let g = settings_of c.args.desk.now in
    let exited = exited_from c.args.first (state_of c.args.desk.now c.loop-process.pass).exited in
    let same = c.in_default.ensures.none in
    let none : c.pick.new.self.held ≡ [] = ap (λ (r : TurnRow). r.held) same ∙ c.in_default.ensures.empty in
    record {
      belongs = c.loop-process.invariant.belongs;
      call = looked_all g (view_of c.args.pass.now) (view_of c.loop-process.pass) c.args.first c.args.by c.args.self.now.held c.pick.new.self.held none
          (subst (λ (r : TurnRow). IsMade g (view_of c.args.pass.now) (Passes c.args.first c.args.by c.args.self.now.held r.held) (view_of c.loop-process.pass)) (sym same)
          c.loop-process.invariant.looked);
      listed = subst (λ (r : TurnRow). AreListed exited r c.args.mails.now) (sym same) c.loop-process.invariant.listed;
      bound = ap (λ (r : TurnRow). r.bound) same ∙ c.loop-process.invariant.bound;
      next = none_next exited c.loop-process.self c.args.mails.now c.loop-process.invariant.listed c.in_default.ensures.empty;
    }

pub returns-then-not-mark : goal.returns-then-not-mark
returns-then-not-mark c =
    let g = settings_of c.args.desk.now in
    let v = view_of c.args.pass.now in
    let u = view_of c.loop-process.pass in
    let w = view_of c.mark.new.self in
    let p = c.in-Some.process in
    let exited = exited_from c.args.first (state_of c.args.desk.now c.mark.new.self).exited in
    let step = subst (λ was. Appends g u (mark_entry (Caller c.args.by) (c.args.first + p) false was) w) c.if-not-mark.true c.mark.ensures.step in
    let held : c.loop-process.self.held ≡ p ∷ c.pick.new.self.held = ap (λ (r : TurnRow). r.held) c.in-Some.ensures.picked in
    let put : c.put.new.self ≡ record c.pick.new.self { held = c.pick.new.self.held ++ p ∷ [] } = c.put.ensures ∙ with_new c.pick.new.self p c.in-Some.ensures.away in
    let low : p < c.loop-process.self.bound = c.in-Some.ensures.in_range in
    let near = subst (λ n. p < n) c.loop-process.invariant.listed.counted low in
    record {
      belongs = c.mark.ensures.belongs;
      call = looked_last g v u w c.args.first c.args.by p c.args.self.now.held c.loop-process.self.held c.pick.new.self.held c.put.new.self.held held
          (ap (λ (r : TurnRow). r.held) put) c.loop-process.invariant.looked step;
      listed = subst (λ (r : TurnRow). AreListed exited r c.args.mails.now) (sym c.put.ensures)
          (listed_again exited c.loop-process.self c.pick.new.self c.args.mails.now p c.in-Some.ensures.picked
          (listed_then g u w c.args.first c.args.by p c.mark.result c.loop-process.self c.args.mails.now c.mark.ensures.step c.loop-process.invariant.listed));
      bound = ap (λ (r : TurnRow). r.bound) put ∙ (sym (ap (λ (r : TurnRow). r.bound) c.in-Some.ensures.picked) ∙ c.loop-process.invariant.bound);
      next = some_next exited c.args.mails.now p c.index-mails-process.result near c.index-mails-process.is
          (λ none. omega (arith, c.if-waiting-eq0.false, c.waiting.ensures, none)) (look_found g u w c.args.by (c.args.first + p) false step);
    }

pub loop-process-preserved-then-waiting-eq0 : goal.loop-process-preserved-then-waiting-eq0
loop-process-preserved-then-waiting-eq0 c =
    let g = settings_of c.args.desk.now in
    let v = view_of c.args.pass.now in
    let u = view_of c.loop-process.pass in
    let p = c.in-Some.process in
    let low : p < c.loop-process.self.bound = c.in-Some.ensures.in_range in
    let near = subst (λ n. p < n) c.loop-process.invariant.listed.counted low in
    let none = sym c.waiting.ensures ∙ c.if-waiting-eq0.true in
    let held : c.loop-process.self.held ≡ p ∷ c.pick.new.self.held = ap (λ (r : TurnRow). r.held) c.in-Some.ensures.picked in
    record {
      belongs = c.loop-process.invariant.belongs;
      bound = sym (ap (λ (r : TurnRow). r.bound) c.in-Some.ensures.picked) ∙ c.loop-process.invariant.bound;
      listed = still_listed (exited_from c.args.first (state_of c.args.desk.now c.loop-process.pass).exited) c.loop-process.self c.pick.new.self c.args.mails.now p
          c.in-Some.ensures.picked c.loop-process.invariant.listed
          (none_waits (exited_from c.args.first (state_of c.args.desk.now c.loop-process.pass).exited) c.args.mails.now p c.index-mails-process.result near
          c.index-mails-process.is none);
      looked = passed_more g v u c.args.first c.args.by p c.args.self.now.held c.loop-process.self.held c.pick.new.self.held (state_of c.args.desk.now c.args.pass.now) refl held
          (none_there c.args.first (state_of c.args.desk.now c.args.pass.now) c.args.mails.now p c.index-mails-process.result c.requires.mail near
          c.index-mails-process.is none) c.loop-process.invariant.looked;
    }

pub loop-process-preserved : goal.loop-process-preserved
loop-process-preserved c =
    let g = settings_of c.args.desk.now in
    let v = view_of c.args.pass.now in
    let u = view_of c.loop-process.pass in
    let w = view_of c.mark.new.self in
    let p = c.in-Some.process in
    let exited = exited_from c.args.first (state_of c.args.desk.now c.mark.new.self).exited in
    let step = subst (λ was. Appends g u (mark_entry (Caller c.args.by) (c.args.first + p) false was) w) c.if-not-mark.false c.mark.ensures.step in
    let gone : exited p ≡ true = look_found g u w c.args.by (c.args.first + p) true step in
    let low : p < c.loop-process.self.bound = c.in-Some.ensures.in_range in
    let near = subst (λ n. p < n) c.loop-process.invariant.listed.counted low in
    let held : c.loop-process.self.held ≡ p ∷ c.pick.new.self.held = ap (λ (r : TurnRow). r.held) c.in-Some.ensures.picked in
    record {
      belongs = c.mark.ensures.belongs;
      bound = sym (ap (λ (r : TurnRow). r.bound) c.in-Some.ensures.picked) ∙ c.loop-process.invariant.bound;
      listed = still_listed exited c.loop-process.self c.pick.new.self c.args.mails.now p c.in-Some.ensures.picked
          (listed_then g u w c.args.first c.args.by p c.mark.result c.loop-process.self c.args.mails.now c.mark.ensures.step c.loop-process.invariant.listed)
          (λ d some lives. (let clash : true ≡ false = sym gone ∙ lives in cc));
      looked = looked_more g v u w c.args.first c.args.by p c.args.self.now.held c.loop-process.self.held c.pick.new.self.held (state_of c.args.desk.now c.args.pass.now) refl held
          (some_there c.args.first (state_of c.args.desk.now c.args.pass.now) c.args.mails.now p c.index-mails-process.result c.requires.mail near
          c.index-mails-process.is (λ none. c.if-waiting-eq0.false (c.waiting.ensures ∙ none))) c.loop-process.invariant.looked step;
    }
