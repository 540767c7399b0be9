-- Each call has an answer after each legal history.

use Rattle.ert_defs.specs.{States.state, declared.entry.Actor.TheVariants.Wheel}
use Rattle.ert_laws.proofs.{SlotUses.timers_few, Since.rounds_begun}
use Rattle.ert_ops.proofs.{PossibleCalls.{clock_answers, processes_answer, possible_read, possible_cancel}, PossibleRestarts.{possible_restart, possible_room}, Following.follow_step, PossibleSome.possible_advance_some}
use Rattle.ert_ops.proofs.{PossibleStarts.possible_start, PossibleSweeps.possible_exit, PossibleTurns.{possible_serve, can_advance, possible_deliver, possible_turn}, Reached.reached}
use Rattle.std.proofs.Common.{[], ◌∷◌}
use Rattle.ert_effects.specs.SomeCalls.{HasAdvancedSome}
use Rattle.ert_ops.proofs.existence.calls_have_answers.Goals as goal

pub returns : goal.returns
returns c = λ g h checked legal. (
  clock_answers g (state g h),
  record {
    read = possible_read g (state g h);
    cancel = possible_cancel g (state g h);
    start = λ n w start. possible_start g (state g h) n w start (reached g h checked legal) (timers_few g h w legal);
    restart = λ n w t start. possible_restart g (state g h) n w t start (reached g h checked legal) (λ v k. rounds_begun g h v k checked legal) (timers_few g h w legal);
    room = possible_room g (state g h);
  },
  processes_answer g (state g h),
  record {
    serve = λ w sched. possible_serve g h w legal sched;
    advance = λ w sched. can_advance g h w checked legal sched;
    advance_some = λ w most sched.
        (let a = possible_advance_some g (state g h) w most (reached g h checked legal) sched in
        (a.0, follow_step g h (Wheel w ∷ []) (HasAdvancedSome g w most a.0) a.1));
    deliver = λ w sched. possible_deliver g h w legal sched;
    turn = λ w sched. possible_turn g h w checked legal sched;
    exit = λ n p caller process. possible_exit g h n p checked legal caller process;
  },
)
