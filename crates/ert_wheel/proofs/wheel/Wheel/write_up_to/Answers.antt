use Rattle.std.proofs.Common.{◌≡◌, ◌-◌, ◌∙◌, ◌++◌, length, replicate, length-append, sym, ap, subst, arith}
use Rattle.std.proofs.lemmas.List.{length-replicate}
use Rattle.ert_wheel.proofs.{Fallen.grown_homes, Writes.{Sees, stands_of, grown, is_held, is_kept, sees, stored_as}}
use Rattle.ert_wheel.proofs.wheel.Wheel.write_up_to.Goals as goal
use Rattle.ert_wheel.specs.{Rings.Rings, Rows.Held, Standing.homes_of}

pub invariant_of-self : goal.invariant_of-self
invariant_of-self g c =
    let w = c.self.inside in
    let a = c.self.invariant.alike in
    let more = replicate (c.args.count - length w.kept.keys) (g.T.Keyed.key c.args.value) in
    let s = sees c.self.invariant.rows c.self.view_is in
    let owned = ap (λ (h : Held _). h.owners.written) c.self.view_is in
    let slots = ap (λ (h : Held _). h.owners.slots) c.self.view_is in
    let kept = ap length c.write_up_to.ensures.keys in
    let buckets = ap (λ (r : Rings). r.written) c.write_up_to-2.ensures in
    let many = ap (λ (r : Rings). r.slots) c.write_up_to-2.ensures in
    let owners = ap (λ (r : Rings). r.written) c.write_up_to-3.ensures in
    let owners_many = ap (λ (r : Rings). r.slots) c.write_up_to-3.ensures in
    record {
      rows = is_kept (stored_as c.write_up_to.ensures.keys
          (subst (λ (r : Rings). Sees w.next_time w.len w.ordered w.floor (w.kept.keys ++ more) c.args.self.now.keys r) (sym c.write_up_to-2.ensures)
          (grown more c.args.count s)));
      alike = record {
        records = omega (arith, kept, buckets, length-append w.kept.keys more, length-replicate (c.args.count - length w.kept.keys) (g.T.Keyed.key c.args.value), a.records, a.owned, owned, c.requires.more);
        owned = omega (arith, buckets, owners);
        most = omega (arith, buckets, many, s.wheel.slots, c.requires.most);
        most_owned = omega (arith, owners, owners_many, slots, c.requires.owned);
        room = omega (arith, many, a.room, c.write_up_to.ensures.room);
      };
    }

pub returns-clause-keys : goal.returns-clause-keys
returns-clause-keys g c =
    let w = c.self.inside in
    let more = replicate (c.args.count - length w.kept.keys) (g.T.Keyed.key c.args.value) in
    is_held (stored_as c.write_up_to.ensures.keys
    (subst (λ (r : Rings). Sees w.next_time w.len w.ordered w.floor (w.kept.keys ++ more) c.args.self.now.keys r) (sym c.write_up_to-2.ensures)
    (grown more c.args.count (sees c.self.invariant.rows c.self.view_is))))

pub returns-clause-owners : goal.returns-clause-owners
returns-clause-owners g c =
    c.write_up_to-3.ensures ∙ ap (λ (h : Held _). let r : Rings = record h.owners { written = c.args.count } in r) c.self.view_is

pub returns-clause-values : goal.returns-clause-values
returns-clause-values g c =
    let a = c.self.invariant.alike in
    let same : length c.self.inside.kept.keys ≡ c.args.self.now.owners.written =
    omega (arith, a.records, a.owned, ap (λ (h : Held _). h.owners.written) c.self.view_is) in
    c.write_up_to.ensures.values
    ∙ (ap (λ n. c.self.inside.kept.values ++ replicate (c.args.count - n) c.args.value) same
    ∙ ap (λ (h : Held _). h.values ++ replicate (c.args.count - c.args.self.now.owners.written) c.args.value) c.self.view_is)

pub returns-clause-stands : goal.returns-clause-stands
returns-clause-stands g c =
    ap homes_of c.write_up_to-2.ensures
    ∙ (grown_homes c.args.count (sees c.self.invariant.rows c.self.view_is).wheel ∙ ap stands_of c.self.view_is)
