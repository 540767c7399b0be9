use Rattle.ert_script.proofs.reply.reply_op.Goals as goal

pub returns-in-Serve-clause-ok : goal.returns-in-Serve-clause-ok
returns-in-Serve-clause-ok c = rw c.in-Serve.is (c.serve.ensures.ok c.args.labels.now)

pub returns-in-Serve-clause-err : goal.returns-in-Serve-clause-err
returns-in-Serve-clause-err c = rw c.in-Serve.is (c.serve.ensures.err c.args.labels.now)

pub returns-in-Advance-clause-ok : goal.returns-in-Advance-clause-ok
returns-in-Advance-clause-ok c = rw c.in-Advance.is (c.advance.ensures.ok c.args.labels.now)

pub returns-in-Advance-clause-err : goal.returns-in-Advance-clause-err
returns-in-Advance-clause-err c = rw c.in-Advance.is (c.advance.ensures.err c.args.labels.now)

pub returns-in-Deliver-clause-ok : goal.returns-in-Deliver-clause-ok
returns-in-Deliver-clause-ok c = rw c.in-Deliver.is (c.deliver.ensures.ok c.args.labels.now)

pub returns-in-Deliver-clause-err : goal.returns-in-Deliver-clause-err
returns-in-Deliver-clause-err c = rw c.in-Deliver.is (c.deliver.ensures.err c.args.labels.now)

pub returns-in-Turn-clause-ok : goal.returns-in-Turn-clause-ok
returns-in-Turn-clause-ok c = rw c.in-Turn.is (c.turn.ensures.ok c.args.labels.now)

pub returns-in-Turn-clause-err : goal.returns-in-Turn-clause-err
returns-in-Turn-clause-err c = rw c.in-Turn.is (c.turn.ensures.err c.args.labels.now)
