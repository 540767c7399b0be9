use Rattle.ert_interval.proofs.Stopping.{cancelled, stopped_kept, stops_open}
use Rattle.std.proofs.Common.{refl}
use Rattle.ert_interval.proofs.going.stop.Goals as goal

pub returns-clause-kept : goal.returns-clause-kept
returns-clause-kept c =
    stopped_kept c.args.world.now c.cancel_timer-left.new.self c.args.interval.now c.cancel_timer-left.result
    c.cancel_timer-left.ensures.call.legal c.requires.kept c.cancel_timer-left.ensures.call c.requires.lone

pub returns-clause-stops : goal.returns-clause-stops
returns-clause-stops c =
    let i = c.args.interval.now in
    record {
      stops = stops_open c.args.world.now i c.cancel_timer-left.result c.cancel_timer-left.new.self _ i.state (c.is_open.ensures.0 c.if-not-is_open.false)
          (record {
            call = c.cancel_timer-left.ensures.call;
            same = record { wheel = refl; first = refl; period = refl; dest = refl; msg = refl };
            firings = refl;
            state = refl;
          });
      none = (cancelled c.args.world.now c.cancel_timer-left.new.self i c.cancel_timer-left.result c.cancel_timer-left.ensures.call.legal
          c.requires.kept c.cancel_timer-left.ensures.call c.requires.lone).none;
    }
