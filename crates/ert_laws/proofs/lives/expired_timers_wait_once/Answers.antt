use Rattle.ert_defs.proofs.ExpiredLists.{expired_timers, delivery_hits, drop_hits}
use Rattle.ert_laws.proofs.Waiting.{expired_timers_wait}
use Rattle.ert_laws.proofs.lives.expired_timers_wait_once.Goals as goal

pub returns-clause-lists : goal.returns-clause-lists
returns-clause-lists c = expired_timers

pub returns-clause-waiting : goal.returns-clause-waiting
returns-clause-waiting c = expired_timers_wait

pub returns-clause-delivery : goal.returns-clause-delivery
returns-clause-delivery c = delivery_hits

pub returns-clause-drop : goal.returns-clause-drop
returns-clause-drop c = drop_hits
