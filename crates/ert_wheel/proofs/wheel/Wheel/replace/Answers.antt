use Rattle.std.proofs.Common.{ap, get_or, max, set, subst, ◌∙◌, length, arith, refl}
use Rattle.std.proofs.lemmas.List.{length-set}
use Rattle.ert_wheel.proofs.{Fallen.moves_comes, Writes.{sees, held_stored, low_in, alike_after, is_held, is_kept, may_take, replaced, stored_as}}
use Rattle.ert_wheel.proofs.wheel.Wheel.replace.Goals as goal
use Rattle.ert_wheel.specs.{Rows.{Held, key_in}, Standing.{homes_of, ComesOrStays}, Wheels.no_key}

pub move_row-requires-clause-may : goal.move_row-requires-clause-may
move_row-requires-clause-may g c = may_take (sees c.self.invariant.rows c.self.view_is) (low_in c.args.row.slot c.self.invariant c.self.view_is c.requires.slot).low_key

pub move_row-requires-clause-written : goal.move_row-requires-clause-written
move_row-requires-clause-written g c = (low_in c.args.row.slot c.self.invariant c.self.view_is c.requires.slot).low_bucket

pub set-requires : goal.set-requires
set-requires g c = (low_in c.args.row.slot c.self.invariant c.self.view_is c.requires.slot).low_record

pub invariant_of-self : goal.invariant_of-self
invariant_of-self g c = record {
  rows = is_kept (stored_as (c.set.ensures.keys ∙ ap (λ key. set c.self.inside.kept.keys c.args.row.slot key) c.requires.key) (replaced (sees c.self.invariant.rows c.self.view_is)
      (record {
        low = (low_in c.args.row.slot c.self.invariant c.self.view_is c.requires.slot).low_key;
        deadline = c.requires.deadline;
        order = omega arith;
        newest = c.requires.newest;
      })
      (low_in c.args.row.slot c.self.invariant c.self.view_is c.requires.slot).low_record
      c.requires.held c.deadline-was.ensures c.move_row.ensures.moves c.move_row.ensures.slots c.move_row.ensures.homes c.lower.ensures));
  alike = alike_after c.self.invariant.alike (ap length c.set.ensures.keys ∙ length-set c.self.inside.kept.keys c.args.row.slot _) c.set.ensures.room c.move_row.ensures.slots c.move_row.ensures.written refl refl;
}

pub returns-clause-keys : goal.returns-clause-keys
returns-clause-keys g c =
    is_held (stored_as (c.set.ensures.keys ∙ ap (λ key. set c.self.inside.kept.keys c.args.row.slot key) c.requires.key) (replaced (sees c.self.invariant.rows c.self.view_is)
    (record {
      low = (low_in c.args.row.slot c.self.invariant c.self.view_is c.requires.slot).low_key;
      deadline = c.requires.deadline;
      order = omega arith;
      newest = c.requires.newest;
    })
    (low_in c.args.row.slot c.self.invariant c.self.view_is c.requires.slot).low_record
    c.requires.held c.deadline-was.ensures c.move_row.ensures.moves c.move_row.ensures.slots c.move_row.ensures.homes c.lower.ensures))

pub deadline-was-requires : goal.deadline-was-requires
deadline-was-requires g c = (low_in c.args.row.slot c.self.invariant c.self.view_is c.requires.slot).low_record

pub returns-clause-stands : goal.returns-clause-stands
returns-clause-stands g c =
    let s = sees c.self.invariant.rows c.self.view_is in
    let low = low_in c.args.row.slot c.self.invariant c.self.view_is c.requires.slot in
    subst (λ (h : Held _). ComesOrStays c.args.self.now.keys h.stands (homes_of c.move_row.new.chains) h.passed c.args.row.slot (max c.args.row.deadline h.passed)) c.self.view_is
    (moves_comes s low.low_key (get_or c.self.inside.kept.keys c.args.row.slot no_key) c.move_row.ensures.slots
    (held_stored c.args.row.slot s (key_in c.args.self.now.keys c.args.row.slot) refl c.requires.held) c.deadline-was.ensures c.move_row.ensures.moves)
