use Rattle.std.proofs.Common.{◌≡◌, Err, rules}
use Rattle.ert_shard.proofs.Stepped.{turned, turn_unserved, turn_unadvanced, turn_undelivered, passed_on}
use Rattle.ert_shard.proofs.shard.Shard.turn.Goals as goal

pub returns-in_err-served : goal.returns-in_err-served
returns-in_err-served c =
    let result : c.from_residual.result ≡ Err c.in_err-served.field-0.0 = search rules in
    rw result (record { call = turn_unserved c.args.self.now c.serve_all.new.self c.in_err-served.field-0.0 c.in_err-served.ensures; passed = tt })

pub returns-in_err-to : goal.returns-in_err-to
returns-in_err-to c =
    let result : c.from_residual-in_err-to.result ≡ Err c.in_err-to.field-0.0 = search rules in
    rw result (record {
      call = turn_unadvanced c.args.self.now c.serve_all.new.self c.advance.new.self c.in_ok-served.served c.in_err-to.field-0.0 c.in_ok-served.ensures c.in_err-to.ensures.call;
      passed = tt;
    })

pub returns-in_err-put : goal.returns-in_err-put
returns-in_err-put c =
    let result : c.from_residual-in_err-put.result ≡ Err c.in_err-put.field-0.0 = search rules in
    rw result (record {
      call = turn_undelivered c.args.self.now c.serve_all.new.self c.advance.new.self c.deliver.new.self c.in_ok-served.served (c.in_ok-to.to, c.in_ok-to.expired) c.in_err-put.field-0.0
          c.in_ok-served.ensures c.in_ok-to.ensures.call c.in_err-put.ensures;
      passed = tt;
    })

pub returns : goal.returns
returns c = record {
  call = turned c.args.self.now c.serve_all.new.self c.advance.new.self c.deliver.new.self
      (record { served = c.in_ok-served.served; to = c.in_ok-to.to; expired = c.in_ok-to.expired; put = c.in_ok-put.put; dropped = c.in_ok-put.dropped })
      c.in_ok-served.ensures c.in_ok-to.ensures.call c.in_ok-put.ensures;
  passed = passed_on c.advance.new.self.wheel c.deliver.new.self.wheel c.in_ok-to.to c.in_ok-put.ensures.rows c.in_ok-to.ensures.passed;
}
