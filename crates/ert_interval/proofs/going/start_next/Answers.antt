use Rattle.std.proofs.Common.{◌≡◌, ℕ, ◌+◌, refl, sym, ap, subst, ◌∙◌, ◌≤◌, inl, inr, Some, Ok, Err, ◌∷◌, [], ◌++◌}
use Rattle.ert_effects.specs.{TimerCalls.Starts, declared.answers.StartErr.TheVariants.Full}
use Rattle.ert_defs.specs.{States.state, declared.settings.Settings.Settings, declared.timer.Start.Start, declared.timer.Status.TheVariants.Armed}
use Rattle.ert_interval.specs.{Deadlines.{start_at, time_of_deadline}, Going.next_start, declared.interval.Interval.Interval, declared.interval.IntervalState.TheVariants.Running}
use Rattle.ert_interval.proofs.{Onward.{waits, lives_still, open_going, due_at}, Pushing.pushed, Starting.{started, refused_full, full_answer, full_start}}
use Rattle.ert_world.specs.Worlds.{Seen, Goes, By}
use Rattle.ert_interval.proofs.going.start_next.Goals as goal

-- the start that is asked for is that of the next deadline
record Asked (a : Seen) (i : Interval) (deadline : ℕ) (start : Start) : Type 0 where
  time : start ≡ start_at (time_of_deadline a.settings deadline) i.dest i.msg
  next : start_at (time_of_deadline a.settings deadline) i.dest i.msg ≡ next_start a.settings i

is_asked : (a : Seen) (i : Interval) (g : Settings) (deadline : ℕ) (start : Start) → start ≡ start_at (time_of_deadline g deadline) i.dest i.msg
    → g ≡ a.settings → deadline ≡ i.deadline + i.period → Asked a i deadline start
is_asked a i g deadline start told same next = record {
  time = told ∙ ap (λ g. start_at (time_of_deadline g deadline) i.dest i.msg) same;
  next = ap (λ d. start_at (time_of_deadline a.settings d) i.dest i.msg) next;
}

pub returns-in_default : goal.returns-in_default
returns-in_default c =
    let a = c.args.world.now in
    let b = c.start-started.new.self in
    let i = c.args.interval.now in
    let legal = c.in_default.ensures.call.legal in
    let start : Start = start_at (time_of_deadline a.settings c.args.deadline) i.dest i.msg in
    let asked = is_asked a i _ c.args.deadline c.start_for-start.result c.start_for-start.ensures c.settings.ensures.value c.requires.next in
    let call : Goes a (By a (λ g. Starts g 0 i.wheel start (Err c.in_default.field-0))) b =
    subst (λ x. Goes a (By a (λ g. Starts g 0 i.wheel x (Err c.in_default.field-0))) b) asked.time c.in_default.ensures.call in
    let due = due_at a.settings c.args.deadline i.dest i.msg c.requires.high in
    let answer : c.in_default.field-0 ≡ Full = full_answer a b i.wheel start c.args.deadline c.in_default.field-0 call c.requires.lone due (λ is. c.in_default.ensures.memory (ap Err is)) in
    let full = refused_full a b i.wheel start c.args.deadline c.in_default.field-0 call c.requires.lone legal due (λ is. c.in_default.ensures.memory (ap Err is)) in
    record {
      still = full.1;
      legal = legal;
      kept = waits a b i (record i { firings = c.reserve.new.self }) full.1 c.requires.legal legal c.requires.kept c.requires.is_open c.requires.unarmed
          c.in_ok-reserve.ensures.items;
      timer = inl refl;
      passed = record {
        same = record { wheel = refl; first = refl; period = refl; dest = refl; msg = refl };
        fires = c.in_ok-reserve.ensures.items;
        ends = (full.0, lives_still a b i.dest full.1 c.requires.lives, subst (λ n. n ≤ 8796093022207) c.requires.next c.requires.high);
      };
      starts = (
        subst (λ x. Goes a (By a (λ g. Starts g 0 i.wheel x (Err Full))) b) asked.next
            (full_start a b i.wheel start c.args.deadline c.in_default.field-0 call c.requires.lone due (λ is. c.in_default.ensures.memory (ap Err is))),
        c.in_default.ensures.full (ap Err answer),
        c.in_default.ensures.searched (ap Err answer),
        record {
          same = record { wheel = refl; first = refl; period = refl; dest = refl; msg = refl };
          state_is = refl;
          last = refl;
          deadline = refl;
          firings = c.in_ok-reserve.ensures.items;
        },
      );
    }

pub returns : goal.returns
returns c =
    let a = c.args.world.now in
    let b = c.start-started.new.self in
    let i = c.args.interval.now in
    let start : Start = start_at (time_of_deadline a.settings c.args.deadline) i.dest i.msg in
    let asked = is_asked a i _ c.args.deadline c.start_for-start.result c.start_for-start.ensures c.settings.ensures.value c.requires.next in
    let call : Goes a (By a (λ g. Starts g 0 i.wheel start (Ok c.in-Ok.timer))) b =
    subst (λ x. Goes a (By a (λ g. Starts g 0 i.wheel x (Ok c.in-Ok.timer))) b) asked.time c.in-Ok.ensures.call in
    let legal = call.legal in
    let begun = started a b i.wheel start c.in-Ok.timer c.args.deadline call c.requires.lone legal (due_at a.settings c.args.deadline i.dest i.msg c.requires.high) in
    let armed = begun.lives c.requires.lives in
    let firings : c.push_reserved.new.self.items ≡ i.firings.items ++ c.in-Ok.timer ∷ [] =
    c.push_reserved.ensures.items ∙ ap (λ l. l ++ c.in-Ok.timer ∷ []) c.in_ok-reserve.ensures.items in
    record {
      still = armed.1;
      legal = legal;
      kept = pushed a b call.grows.piece i (record i { state = Running; last = c.in-Ok.timer; deadline = c.args.deadline; firings = c.push_reserved.new.self })
          c.in-Ok.timer c.args.deadline call.settings call.grows.grown legal c.requires.kept
          (open_going (state a.settings a.history) i i.state c.requires.is_open c.requires.kept.is_in) begun c.requires.lives c.requires.unarmed
          c.requires.next c.requires.high firings;
      timer = inr begun.new;
      passed = record {
        same = record { wheel = refl; first = refl; period = refl; dest = refl; msg = refl };
        fires = (c.in-Ok.timer, firings);
        ends = subst (λ x. (state x b.history).status c.in-Ok.timer ≡ Some Armed) (sym call.settings) armed.0;
      };
      starts = (
        c.in-Ok.timer,
        subst (λ x. Goes a (By a (λ g. Starts g 0 i.wheel x (Ok c.in-Ok.timer))) b) asked.next call,
        record {
          same = record { wheel = refl; first = refl; period = refl; dest = refl; msg = refl };
          state_is = refl;
          last = refl;
          deadline = c.requires.next;
          firings = firings;
        },
      );
    }
