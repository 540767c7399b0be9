use Rattle.std.proofs.Common.{ℕ, ap, max, set, subst, ◌∙◌, length, rules, arith, refl}
use Rattle.std.proofs.lemmas.List.{length-set}
use Rattle.ert_wheel.proofs.{Fallen.put_comes, Writes.{sees, low_in, alike_after, is_held, is_kept, may_put, count_fits, stored_as, inserted}}
use Rattle.ert_wheel.proofs.wheel.Wheel.insert.Goals as goal
use Rattle.ert_wheel.specs.{Rows.{Held, key_of}, Levels.IsLeastBucket, Standing.{homes_of, ComesTo}}

pub put-requires-clause-may : goal.put-requires-clause-may
put-requires-clause-may g c =
    may_put (sees c.self.invariant.rows c.self.view_is) (low_in c.args.row.slot c.self.invariant c.self.view_is c.requires.slot).low_key c.requires.vacant c.bucket-home.ensures.low

pub put-requires-clause-written : goal.put-requires-clause-written
put-requires-clause-written g c = (low_in c.args.row.slot c.self.invariant c.self.view_is c.requires.slot).low_bucket

pub set-requires : goal.set-requires
set-requires g c = (low_in c.args.row.slot c.self.invariant c.self.view_is c.requires.slot).low_record

pub overflow_add-self : goal.overflow_add-self
overflow_add-self g c =
    let fits = count_fits c.args.row.slot (key_of c.args.row) (sees c.self.invariant.rows c.self.view_is) (low_in c.args.row.slot c.self.invariant c.self.view_is c.requires.slot).low_key c.requires.vacant in
    search (rules, fits)

pub invariant_of-self : goal.invariant_of-self
invariant_of-self g c = record {
  rows = is_kept (stored_as (c.set.ensures.keys ∙ ap (λ key. set c.self.inside.kept.keys c.args.row.slot key) c.requires.key) (inserted (sees c.self.invariant.rows c.self.view_is)
      (record {
        low = (low_in c.args.row.slot c.self.invariant c.self.view_is c.requires.slot).low_key;
        deadline = c.requires.deadline;
        order = omega arith;
        newest = c.requires.newest;
      })
      (low_in c.args.row.slot c.self.invariant c.self.view_is c.requires.slot).low_record
      c.requires.vacant (subst (λ (t : ℕ). IsLeastBucket c.self.inside.next_time t c.bucket-home.result) c.max.ensures c.bucket-home.ensures.is) c.put.ensures.slots c.put.ensures.homes c.put.ensures.chains c.lower.ensures));
  alike = alike_after c.self.invariant.alike (ap length c.set.ensures.keys ∙ length-set c.self.inside.kept.keys c.args.row.slot _) c.set.ensures.room c.put.ensures.slots c.put.ensures.written refl refl;
}

pub returns-clause-keys : goal.returns-clause-keys
returns-clause-keys g c =
    is_held (stored_as (c.set.ensures.keys ∙ ap (λ key. set c.self.inside.kept.keys c.args.row.slot key) c.requires.key) (inserted (sees c.self.invariant.rows c.self.view_is)
    (record {
      low = (low_in c.args.row.slot c.self.invariant c.self.view_is c.requires.slot).low_key;
      deadline = c.requires.deadline;
      order = omega arith;
      newest = c.requires.newest;
    })
    (low_in c.args.row.slot c.self.invariant c.self.view_is c.requires.slot).low_record
    c.requires.vacant (subst (λ (t : ℕ). IsLeastBucket c.self.inside.next_time t c.bucket-home.result) c.max.ensures c.bucket-home.ensures.is) c.put.ensures.slots c.put.ensures.homes c.put.ensures.chains c.lower.ensures))

pub returns-clause-stands : goal.returns-clause-stands
returns-clause-stands g c =
    let time = max c.args.row.deadline c.self.inside.next_time in
    subst (λ (h : Held _). ComesTo h.stands (homes_of c.put.new.self) h.passed c.args.row.slot (max c.args.row.deadline h.passed)) c.self.view_is
    (put_comes (sees c.self.invariant.rows c.self.view_is) (low_in c.args.row.slot c.self.invariant c.self.view_is c.requires.slot).low_key {time = time}
    c.put.ensures.slots c.requires.vacant (subst (λ (t : ℕ). IsLeastBucket c.self.inside.next_time t c.bucket-home.result) c.max.ensures c.bucket-home.ensures.is) c.put.ensures.chains)
