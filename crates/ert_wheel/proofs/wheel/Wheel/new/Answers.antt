use Rattle.std.proofs.Common.{◌∙◌, length, ap, sym, arith}
use Rattle.ert_wheel.proofs.{Fallen.no_homes, Opening.opened, Writes.{is_held, is_kept}}
use Rattle.ert_wheel.proofs.wheel.Wheel.new.Goals as goal

pub invariant_of-result : goal.invariant_of-result
invariant_of-result g c =
    let chains = c.in_ok-buckets in
    record {
      rows = is_kept (opened c.args.slots c.in_ok-kept.kept.keys chains.buckets chains.ensures.slots chains.ensures.homes chains.ensures.empty (omega (arith, c.requires.slots)));
      alike = record {
        records = ap length c.in_ok-kept.ensures.keys ∙ sym chains.ensures.written;
        owned = c.in_ok-owners.ensures.written ∙ sym chains.ensures.written;
        most = omega (arith, chains.ensures.written);
        most_owned = omega (arith, c.in_ok-owners.ensures.written);
        room = omega (arith, chains.ensures.slots, c.in_ok-kept.ensures.room);
      };
    }

pub returns-clause-keys : goal.returns-clause-keys
returns-clause-keys g c =
    let chains = c.in_ok-buckets in
    is_held (opened c.args.slots c.in_ok-kept.kept.keys chains.buckets chains.ensures.slots chains.ensures.homes chains.ensures.empty (omega (arith, c.requires.slots)))

pub returns-clause-stands : goal.returns-clause-stands
returns-clause-stands g c =
    let chains = c.in_ok-buckets in
    no_homes chains.buckets c.args.slots chains.ensures.empty chains.ensures.slots
