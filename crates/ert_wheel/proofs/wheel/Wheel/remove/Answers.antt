use Rattle.std.proofs.Common.{◌≡◌, Option, Some, None, set, subst, sym, refl, ◌∙◌}
use Rattle.std.proofs.lemmas.Bool.{true≢false}
use Rattle.ert_wheel.proofs.{Fallen.{stays_nowhere, take_leaves}, Writes.{sees, low_in, alike_after, is_held, is_kept, found_none, found_some, looks_alone, looks_apart, may_take, count_holds, removed, vacant_view}}
use Rattle.ert_wheel.proofs.wheel.Wheel.remove.Goals as goal
use Rattle.ert_wheel.specs.{Rows.Held, Standing.homes_of, declared.row.Key.Key}

no_some : {key : Key} {o : Option Key} → o ≡ None → o ≡ Some key → ⊥
no_some none some = let clash : None ≡ Some _ = sym none ∙ some in cc

pub is_alone-requires : goal.is_alone-requires
is_alone-requires g c = (low_in c.args.slot c.self.invariant c.self.view_is c.requires).low_bucket

pub returns-then-is_alone-clause-found : goal.returns-then-is_alone-clause-found
returns-then-is_alone-clause-found g c = found_none _ (looks_alone (sees c.self.invariant.rows c.self.view_is) (low_in c.args.slot c.self.invariant c.self.view_is c.requires).low_key (c.is_alone.ensures.0 c.if-is_alone.true))

pub returns-then-is_alone-clause-left : goal.returns-then-is_alone-clause-left
returns-then-is_alone-clause-left g c = vacant_view c.args.self.now.keys c.args.slot (looks_alone (sees c.self.invariant.rows c.self.view_is) (low_in c.args.slot c.self.invariant c.self.view_is c.requires).low_key (c.is_alone.ensures.0 c.if-is_alone.true))

pub take-requires-clause-may : goal.take-requires-clause-may
take-requires-clause-may g c = may_take (sees c.self.invariant.rows c.self.view_is) (low_in c.args.slot c.self.invariant c.self.view_is c.requires).low_key

pub take-requires-clause-written : goal.take-requires-clause-written
take-requires-clause-written g c = (low_in c.args.slot c.self.invariant c.self.view_is c.requires).low_bucket

pub overflow_sub-self : goal.overflow_sub-self
overflow_sub-self g c =
    count_holds (sees c.self.invariant.rows c.self.view_is) (low_in c.args.slot c.self.invariant c.self.view_is c.requires).low_key
    (looks_apart (sees c.self.invariant.rows c.self.view_is) (low_in c.args.slot c.self.invariant c.self.view_is c.requires).low_key (low_in c.args.slot c.self.invariant c.self.view_is c.requires).low_record (λ e. true≢false (sym (c.is_alone.ensures.1 e) ∙ c.if-is_alone.false)))

pub invariant_of-self : goal.invariant_of-self
invariant_of-self g c = record {
  rows = is_kept (removed (sees c.self.invariant.rows c.self.view_is) (low_in c.args.slot c.self.invariant c.self.view_is c.requires).low_key
      (looks_apart (sees c.self.invariant.rows c.self.view_is) (low_in c.args.slot c.self.invariant c.self.view_is c.requires).low_key (low_in c.args.slot c.self.invariant c.self.view_is c.requires).low_record (λ e. true≢false (sym (c.is_alone.ensures.1 e) ∙ c.if-is_alone.false)))
      c.take.ensures.slots c.take.ensures.homes c.take.ensures.chains);
  alike = alike_after c.self.invariant.alike refl refl c.take.ensures.slots c.take.ensures.written refl refl;
}

pub returns-clause-found : goal.returns-clause-found
returns-clause-found g c = found_some _ _ (looks_apart (sees c.self.invariant.rows c.self.view_is) (low_in c.args.slot c.self.invariant c.self.view_is c.requires).low_key (low_in c.args.slot c.self.invariant c.self.view_is c.requires).low_record (λ e. true≢false (sym (c.is_alone.ensures.1 e) ∙ c.if-is_alone.false)))

pub returns-clause-left : goal.returns-clause-left
returns-clause-left g c =
    is_held (removed (sees c.self.invariant.rows c.self.view_is) (low_in c.args.slot c.self.invariant c.self.view_is c.requires).low_key
    (looks_apart (sees c.self.invariant.rows c.self.view_is) (low_in c.args.slot c.self.invariant c.self.view_is c.requires).low_key (low_in c.args.slot c.self.invariant c.self.view_is c.requires).low_record (λ e. true≢false (sym (c.is_alone.ensures.1 e) ∙ c.if-is_alone.false)))
    c.take.ensures.slots c.take.ensures.homes c.take.ensures.chains)

pub returns-then-is_alone-clause-stands : goal.returns-then-is_alone-clause-stands
returns-then-is_alone-clause-stands g c =
    let s = sees c.self.invariant.rows c.self.view_is in
    let low = (low_in c.args.slot c.self.invariant c.self.view_is c.requires).low_key in
    subst (λ (h : Held _). h.stands ≡ set h.stands c.args.slot None) c.self.view_is
    (stays_nowhere s low (looks_alone s low (c.is_alone.ensures.0 c.if-is_alone.true)))

pub returns-clause-stands : goal.returns-clause-stands
returns-clause-stands g c =
    subst (λ (h : Held _). homes_of c.take.new.self ≡ set h.stands c.args.slot None) c.self.view_is
    (take_leaves (sees c.self.invariant.rows c.self.view_is) (low_in c.args.slot c.self.invariant c.self.view_is c.requires).low_key c.take.ensures.slots
    c.take.ensures.chains)

pub returns-clause-none : goal.returns-clause-none
returns-clause-none g c = λ none.
    let low = low_in c.args.slot c.self.invariant c.self.view_is c.requires in
    let has = looks_apart (sees c.self.invariant.rows c.self.view_is) low.low_key low.low_record (λ e. true≢false (sym (c.is_alone.ensures.1 e) ∙ c.if-is_alone.false)) in
    absurd (no_some none has)
