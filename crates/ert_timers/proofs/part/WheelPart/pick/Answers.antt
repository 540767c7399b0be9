use Rattle.std.proofs.Common.{◌≡◌, ℕ, true, false, length, Some, IfNone, refl, sym, ap, subst, ◌∙◌, arith}
use Rattle.std.specs.FinSet as sets
use Rattle.ert_timers.specs.{Changes.{MayBecomeFree, picked}, Parts.Part, Free.{FreeSet, free_set}}
use Rattle.ert_timers.specs.contracts.part.WheelPart.{the_view}
use Rattle.ert_timers.proofs.{Fit.{exchanged, taken_out}, Keeping.{fit_written, pick_none, pick_taken, pick_usable, seen_written, written_twice}}
use Rattle.ert_timers.proofs.part.WheelPart.pick.Goals as goal
use Rattle.ert_wheel.specs.Rings.{Rings}

pub returns-in_err-slot-clause-none : goal.returns-in_err-slot-clause-none
returns-in_err-slot-clause-none c =
    subst (λ (p : Part). IfNone c.from_residual.result ((slot : ℕ) → sets.contains p.free slot ≡ false)) c.self.view_is
    (pick_none (free_set c.self.inside.free).held c.from_residual.result (λ none. ap (λ xs. sets.from_list xs) (c.in_err-slot.ensures.none.0 refl)))

pub write-requires-clause-low : goal.write-requires-clause-low
write-requires-clause-low c = omega (arith, c.self.invariant.fit.wide, c.self.invariant.fit.below c.in_ok-slot.slot c.in_ok-slot.ensures.held)

pub write-requires-clause-same : goal.write-requires-clause-same
write-requires-clause-same c = c.self.invariant.fit.wide ∙ sym c.self.invariant.fit.owned

pub value-requires : goal.value-requires
value-requires c = c.write.ensures.written

pub invariant_of-self-then-are_short : goal.invariant_of-self-then-are_short
invariant_of-self-then-are_short c =
    record {
      fit =
          fit_written c.self.inside.wheel c.write.new.wheel (free_set c.self.inside.free) (free_set c.pick.new.self) c.self.inside.arms c.self.inside.expires c.self.inside.orphans c.in_ok-slot.slot c.write.new.wheel.owners.written
          c.self.invariant.fit c.in_ok-slot.ensures.taken c.write.ensures.more c.write.ensures.written;
      joined = c.write.ensures.more.joined c.self.invariant.joined;
    }

pub returns-then-are_short-clause-picked : goal.returns-then-are_short-clause-picked
returns-then-are_short-clause-picked c =
    (seen_written (the_view c.self.inside) c.self.inside.wheel c.write.new.wheel (free_set c.pick.new.self).held c.write.new.wheel.owners.written c.write.ensures.more refl refl refl refl refl)
    ∙ (pick_taken (the_view c.self.inside) (free_set c.self.inside.free) (free_set c.pick.new.self) (Some c.in_ok-slot.slot) refl c.in_ok-slot.ensures.taken
    ∙ ap (λ (p : Part). picked p c.in_ok-slot.slot) c.self.view_is)

pub returns-then-are_short-clause-usable : goal.returns-then-are_short-clause-usable
returns-then-are_short-clause-usable c =
    subst (λ (q : Part). MayBecomeFree q c.in_ok-slot.slot)
    (sym (seen_written (the_view c.self.inside) c.self.inside.wheel c.write.new.wheel (free_set c.pick.new.self).held c.write.new.wheel.owners.written c.write.ensures.more refl refl refl refl refl))
    (pick_usable (the_view c.self.inside) (free_set c.self.inside.free) (free_set c.pick.new.self) c.self.inside.wheel.owners (Some c.in_ok-slot.slot) c.self.invariant.fit refl c.in_ok-slot.ensures.held
    c.in_ok-slot.ensures.taken)

pub invariant_of-self-then-is_long-long : goal.invariant_of-self-then-is_long-long
invariant_of-self-then-is_long-long c =
    record {
      fit =
          fit_written c.self.inside.wheel c.write.new.wheel (free_set c.self.inside.free) (free_set c.pick.new.self) c.self.inside.arms c.self.inside.expires c.self.inside.orphans c.in_ok-slot.slot c.write.new.wheel.owners.written
          c.self.invariant.fit c.in_ok-slot.ensures.taken c.write.ensures.more c.write.ensures.written;
      joined = c.write.ensures.more.joined c.self.invariant.joined;
    }

pub returns-then-is_long-long-clause-picked : goal.returns-then-is_long-long-clause-picked
returns-then-is_long-long-clause-picked c =
    (seen_written (the_view c.self.inside) c.self.inside.wheel c.write.new.wheel (free_set c.pick.new.self).held c.write.new.wheel.owners.written c.write.ensures.more refl refl refl refl refl)
    ∙ (pick_taken (the_view c.self.inside) (free_set c.self.inside.free) (free_set c.pick.new.self) (Some c.in_ok-slot.slot) refl c.in_ok-slot.ensures.taken
    ∙ ap (λ (p : Part). picked p c.in_ok-slot.slot) c.self.view_is)

pub returns-then-is_long-long-clause-usable : goal.returns-then-is_long-long-clause-usable
returns-then-is_long-long-clause-usable c =
    subst (λ (q : Part). MayBecomeFree q c.in_ok-slot.slot)
    (sym (seen_written (the_view c.self.inside) c.self.inside.wheel c.write.new.wheel (free_set c.pick.new.self).held c.write.new.wheel.owners.written c.write.ensures.more refl refl refl refl refl))
    (pick_usable (the_view c.self.inside) (free_set c.self.inside.free) (free_set c.pick.new.self) c.self.inside.wheel.owners (Some c.in_ok-slot.slot) c.self.invariant.fit refl c.in_ok-slot.ensures.held
    c.in_ok-slot.ensures.taken)

pub exchange-requires-clause-away : goal.exchange-requires-clause-away
exchange-requires-clause-away c =
    ap (λ (f : FreeSet). sets.contains f.held c.in_ok-slot.slot) c.in_ok-slot.ensures.taken ∙ taken_out (free_set c.self.inside.free).held c.in_ok-slot.slot

pub write-requires-2-clause-low : goal.write-requires-2-clause-low
write-requires-2-clause-low c =
    let held = (exchanged (free_set c.self.inside.free) (free_set c.pick.new.self) (free_set c.exchange.new.free) c.in_ok-slot.slot (Some c.in_ok-other.other) c.in_ok-slot.ensures.held
    c.in_ok-slot.ensures.taken c.in_ok-other.ensures.held c.in_ok-other.ensures.taken).held in
    omega (arith, ap length c.write.ensures.more.keys, c.self.invariant.fit.wide, c.self.invariant.fit.below c.in_ok-other.other held)

pub write-requires-2-clause-same : goal.write-requires-2-clause-same
write-requires-2-clause-same c =
    ap length c.write.ensures.more.keys ∙ ((c.self.invariant.fit.wide ∙ sym c.self.invariant.fit.owned) ∙ sym (ap (λ (r : Rings). r.slots) c.write.ensures.more.owners))

pub invariant_of-self-2 : goal.invariant_of-self-2
invariant_of-self-2 c =
    record {
      fit =
          fit_written c.self.inside.wheel c.write-2.new.wheel (free_set c.self.inside.free) (free_set c.exchange.new.free) c.self.inside.arms c.self.inside.expires c.self.inside.orphans c.in_ok-other.other c.write-2.new.wheel.owners.written
          c.self.invariant.fit (exchanged (free_set c.self.inside.free) (free_set c.pick.new.self) (free_set c.exchange.new.free) c.in_ok-slot.slot (Some c.in_ok-other.other) c.in_ok-slot.ensures.held
          c.in_ok-slot.ensures.taken c.in_ok-other.ensures.held c.in_ok-other.ensures.taken).taken
          (written_twice c.self.inside.wheel c.write.new.wheel c.write-2.new.wheel c.write.new.wheel.owners.written c.write-2.new.wheel.owners.written c.write.ensures.more c.write-2.ensures.more) c.write-2.ensures.written;
      joined = c.write-2.ensures.more.joined (c.write.ensures.more.joined c.self.invariant.joined);
    }

pub returns-clause-held : goal.returns-clause-held
returns-clause-held c =
    subst (λ (p : Part). sets.contains p.free c.in_ok-other.other ≡ true) c.self.view_is
    (exchanged (free_set c.self.inside.free) (free_set c.pick.new.self) (free_set c.exchange.new.free) c.in_ok-slot.slot (Some c.in_ok-other.other) c.in_ok-slot.ensures.held
    c.in_ok-slot.ensures.taken c.in_ok-other.ensures.held c.in_ok-other.ensures.taken).held

pub returns-clause-picked : goal.returns-clause-picked
returns-clause-picked c =
    (seen_written (the_view c.self.inside) c.self.inside.wheel c.write-2.new.wheel (free_set c.exchange.new.free).held c.write-2.new.wheel.owners.written (written_twice c.self.inside.wheel c.write.new.wheel c.write-2.new.wheel c.write.new.wheel.owners.written c.write-2.new.wheel.owners.written c.write.ensures.more c.write-2.ensures.more) refl refl refl refl refl)
    ∙ (pick_taken (the_view c.self.inside) (free_set c.self.inside.free) (free_set c.exchange.new.free) (Some c.in_ok-other.other) refl
    (exchanged (free_set c.self.inside.free) (free_set c.pick.new.self) (free_set c.exchange.new.free) c.in_ok-slot.slot (Some c.in_ok-other.other) c.in_ok-slot.ensures.held
    c.in_ok-slot.ensures.taken c.in_ok-other.ensures.held c.in_ok-other.ensures.taken).taken
    ∙ ap (λ (p : Part). picked p c.in_ok-other.other) c.self.view_is)

pub returns-clause-usable : goal.returns-clause-usable
returns-clause-usable c =
    subst (λ (q : Part). MayBecomeFree q c.in_ok-other.other)
    (sym (seen_written (the_view c.self.inside) c.self.inside.wheel c.write-2.new.wheel (free_set c.exchange.new.free).held c.write-2.new.wheel.owners.written (written_twice c.self.inside.wheel c.write.new.wheel c.write-2.new.wheel c.write.new.wheel.owners.written c.write-2.new.wheel.owners.written c.write.ensures.more c.write-2.ensures.more) refl refl refl refl refl))
    (pick_usable (the_view c.self.inside) (free_set c.self.inside.free) (free_set c.exchange.new.free) c.self.inside.wheel.owners (Some c.in_ok-other.other) c.self.invariant.fit refl
    (exchanged (free_set c.self.inside.free) (free_set c.pick.new.self) (free_set c.exchange.new.free) c.in_ok-slot.slot (Some c.in_ok-other.other) c.in_ok-slot.ensures.held
    c.in_ok-slot.ensures.taken c.in_ok-other.ensures.held c.in_ok-other.ensures.taken).held
    (exchanged (free_set c.self.inside.free) (free_set c.pick.new.self) (free_set c.exchange.new.free) c.in_ok-slot.slot (Some c.in_ok-other.other) c.in_ok-slot.ensures.held
    c.in_ok-slot.ensures.taken c.in_ok-other.ensures.held c.in_ok-other.ensures.taken).taken)
