use Rattle.ert_defs.specs.States.{state}
use Rattle.ert_timers.proofs.Nearest.{none_armed_before, is_nearest}
use Rattle.ert_timers.proofs.part.WheelPart.next_due.Goals as goal

pub returns : goal.returns
returns c =
    let asks = c.ask_next.ensures.call in
    let q = c.ask_next.new.self in
    record {
      belongs = c.ask_next.ensures.belongs;
      number = asks.loses.number;
      stands = asks.stands;
      call = asks.call;
      held = asks.held;
      armed = λ g h stands. none_armed_before g (state g h) q c.ask_next.result stands.holds asks.held;
      nearest = λ g h stands tidy. is_nearest g (state g h) q c.ask_next.result stands.holds tidy asks.held;
      found = asks.found;
      loses = asks.loses;
      frees = asks.frees;
      time = asks.time;
    }
