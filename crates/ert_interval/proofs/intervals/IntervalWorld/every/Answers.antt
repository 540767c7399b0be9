use Rattle.std.proofs.Common.{◌≡◌, ℕ, ◌∷◌, ◌++◌, [], ℤ, ◌-ℤ◌, Some, None, Ok, Err, refl, sym, ap, subst, ◌∙◌, inl, inr, length, rules, FitsSigned, w64, to_z, of_z, to_z-of_z}
use Rattle.ert_defs.specs.{States.state, Milliseconds.deadline_at, declared.settings.Settings.Settings}
use Rattle.ert_interval.specs.{Calls.HasBadArguments, Deadlines.{start_at, base}, Intervals.AreIntervalsKept, declared.interval.Interval.Interval, declared.interval.IntervalState.TheVariants.Running}
use Rattle.ert_effects.specs.TimerCalls.{Starts}
use Rattle.ert_interval.proofs.{Plain.starts_plain, Pushing.begun, Starting.{started, full_answer, full_start}, Tables.{all_kept, pushed_kept}}
use Rattle.ert_world.specs.Worlds.{Goes, By}
use Rattle.ert_interval.proofs.intervals.IntervalWorld.every.Goals as goal

pub returns-in_default-started-clause-kept : goal.returns-in_default-started-clause-kept
returns-in_default-started-clause-kept c =
    let a = c.args.self.now.world in
    let b = c.start-started.new.self in
    let goes = c.in_default-started.ensures.call in
    let grows = goes.lone c.requires.kept.lone in
    rw c.reserve-else-is_err.ensures.items
    (all_kept a b _ c.args.self.now.intervals.items goes c.requires.kept
    (starts_plain a.settings 0 c.args.wheel c.start_at-start.result (Err c.in_default-started.field-0) (state a.settings a.history) grows.piece grows.made)
    goes.legal)

-- the deadline that was found is that of the time that was asked for
due_of : (g s : Settings) (first time : ℤ) (d : ℕ) → time ≡ first → s ≡ g → Some d ≡ deadline_at (time -ℤ base s) → deadline_at (first -ℤ base g) ≡ Some d
due_of g s first time d same settings found =
    sym (found ∙ (ap (λ x. deadline_at (x -ℤ base s)) same ∙ ap (λ x. deadline_at (first -ℤ base x)) settings))

accepted : (g : Settings) (first : ℤ) (period d : ℕ) → (period ≡ 0 → ⊥) → deadline_at (first -ℤ base g) ≡ Some d → HasBadArguments g first period → ⊥
accepted g first period d some due refused =
    elim refused [ inl none ↦ some none | inr out ↦ (let clash : Some d ≡ None = sym due ∙ out in absurd cc) ]

pub returns-in_default-started-clause-made : goal.returns-in_default-started-clause-made
returns-in_default-started-clause-made c =
    let a = c.args.self.now.world in
    let b = c.start-started.new.self in
    let e = c.in_default-started.field-0 in
    let fits : FitsSigned w64 c.args.first = search rules in
    let first : to_z w64 (of_z w64 c.args.first) ≡ c.args.first = to_z-of_z fits in
    let start : c.start_at-start.result ≡ start_at c.args.first c.args.dest c.args.msg = rw first at c.start_at-start.ensures in
    let due = due_of a.settings c.settings.result.now c.args.first _ c.in-Some.deadline first c.settings.ensures.value c.in-Some.ensures.told in (
      accepted a.settings c.args.first c.args.period c.in-Some.deadline c.if-period-eq0.false due,
      full_start a b c.args.wheel (start_at c.args.first c.args.dest c.args.msg) c.in-Some.deadline e
          (subst (λ x. Goes a (By a (λ g. Starts g 0 c.args.wheel x (Err e))) b) start c.in_default-started.ensures.call)
          c.requires.kept.lone (λ look. due) (λ is. c.in_default-started.ensures.memory (ap Err is)),
      c.reserve-else-is_err.ensures.items,
    )

pub returns-in_default-started-clause-full : goal.returns-in_default-started-clause-full
returns-in_default-started-clause-full c = λ is.
    let a = c.args.self.now.world in
    let b = c.start-started.new.self in
    let e = c.in_default-started.field-0 in
    let fits : FitsSigned w64 c.args.first = search rules in
    let first : to_z w64 (of_z w64 c.args.first) ≡ c.args.first = to_z-of_z fits in
    let start : c.start_at-start.result ≡ start_at c.args.first c.args.dest c.args.msg = rw first at c.start_at-start.ensures in
    let due = due_of a.settings c.settings.result.now c.args.first _ c.in-Some.deadline first c.settings.ensures.value c.in-Some.ensures.told in
    c.in_default-started.ensures.full (ap Err (full_answer a b c.args.wheel (start_at c.args.first c.args.dest c.args.msg) c.in-Some.deadline e
    (subst (λ x. Goes a (By a (λ g. Starts g 0 c.args.wheel x (Err e))) b) start c.in_default-started.ensures.call)
    c.requires.kept.lone (λ look. due) (λ none. c.in_default-started.ensures.memory (ap Err none))))

pub returns : goal.returns
returns c =
    let a = c.args.self.now.world in
    let b = c.start-started.new.self in
    let fits : FitsSigned w64 c.args.first = search rules in
    let first : to_z w64 (of_z w64 c.args.first) ≡ c.args.first = to_z-of_z fits in
    let start : c.start_at-start.result ≡ start_at c.args.first c.args.dest c.args.msg = rw first at c.start_at-start.ensures in
    let due = due_of a.settings c.settings.result.now c.args.first _ c.in-Some.deadline first c.settings.ensures.value c.in-Some.ensures.told in
    let call : Goes a (By a (λ g. Starts g 0 c.args.wheel (start_at c.args.first c.args.dest c.args.msg) (Ok c.in-Ok.last))) b =
    subst (λ x. Goes a (By a (λ g. Starts g 0 c.args.wheel x (Ok c.in-Ok.last))) b) start c.in-Ok.ensures.call in
    let grows = call.lone c.requires.kept.lone in
    let legal = call.legal in
    let timers : c.push_reserved.new.self.items ≡ c.in-Ok.last ∷ [] =
    c.push_reserved.ensures.items ∙ ap (λ l. l ++ c.in-Ok.last ∷ []) (c.reserve.ensures.items ∙ c.new-firings.ensures.items) in
    let done = started a b c.args.wheel (start_at c.args.first c.args.dest c.args.msg) c.in-Ok.last c.in-Some.deadline call c.requires.kept.lone legal (λ look. due) in
    let made : Interval = record {
      wheel = c.args.wheel;
      first = to_z w64 (of_z w64 c.args.first);
      period = c.args.period;
      dest = c.args.dest;
      msg = c.args.msg;
      state = Running;
      last = c.in-Ok.last;
      deadline = c.in-Some.deadline;
      firings = c.push_reserved.new.self;
    } in
    let number : c.len-number.result ≡ length c.args.self.now.intervals.items = search rules in
    let last : c.push_reserved-2.new.self.items ≡ c.args.self.now.intervals.items ++ made ∷ [] =
    c.push_reserved-2.ensures.items ∙ ap (λ l. l ++ made ∷ []) c.reserve-else-is_err.ensures.items in
    record {
      full = λ is. absurd cc;
      kept = subst (AreIntervalsKept b) (sym last)
          (pushed_kept a b _ c.args.self.now.intervals.items made call c.requires.kept
          (starts_plain a.settings 0 c.args.wheel (start_at c.args.first c.args.dest c.args.msg) (Ok c.in-Ok.last) (state a.settings a.history) grows.piece grows.made)
          legal c.requires.few
          (begun a b made c.args.first call.settings timers refl (sym first) (rw first due) c.requires.wheel c.requires.dest done) done.new);
      made = (
        accepted a.settings c.args.first c.args.period c.in-Some.deadline c.if-period-eq0.false due,
        record {
          timer = c.in-Ok.last;
          call = call;
          interval = made;
          made = record { wheel = refl; first = first; period = refl; dest = refl; msg = refl; state = refl; last = refl; firings = timers };
          last = last;
          number = number;
        },
      );
    }
