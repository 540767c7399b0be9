use Rattle.std.proofs.Common.{◌≡◌, true, false, not, refl, sym, ap, ◌∙◌, inl, inr}
use Rattle.ert_defs.specs.States.{state}
use Rattle.ert_interval.proofs.{Onward.{still_then, still_kept, armed_runs, ended, other_later, new_before}, Stepping.{goes_armed, goes_high, goes_dead, goes_start}}
use Rattle.ert_interval.proofs.going.go_on.Goals as goal

pub returns-then-is_armed-clause-kept : goal.returns-then-is_armed-clause-kept
returns-then-is_armed-clause-kept c =
    still_kept c.args.world.now c.is_armed.new.world c.args.interval.now c.is_armed.ensures.still c.is_armed.ensures.legal c.requires.kept

pub returns-then-is_armed-clause-passed : goal.returns-then-is_armed-clause-passed
returns-then-is_armed-clause-passed c =
    let b = c.is_armed.new.world in
    let kept = returns-then-is_armed-clause-kept c in
    record {
      same = record { wheel = refl; first = refl; period = refl; dest = refl; msg = refl };
      fires = refl;
      ends = armed_runs b.settings (state b.settings b.history) c.args.interval.now c.args.interval.now.state c.requires.is_open kept.is_in
          (c.is_armed.ensures.value.0 c.if-is_armed.true);
    }

pub returns-in_default-clause-kept : goal.returns-in_default-clause-kept
returns-in_default-clause-kept c =
    ended c.args.world.now c.is_armed.new.world c.args.interval.now c.is_armed.ensures.still c.is_armed.ensures.legal c.requires.kept
    (λ armed. let told : true ≡ false = sym (c.is_armed.ensures.value.1 armed) ∙ c.if-is_armed.false in absurd cc) (inr c.in_default.ensures)

pub returns-in_default-clause-passed : goal.returns-in_default-clause-passed
returns-in_default-clause-passed c = record {
  same = record { wheel = refl; first = refl; period = refl; dest = refl; msg = refl };
  fires = refl;
  ends = (returns-in_default-clause-kept c).is_in;
}

pub returns-then-not-lives-clause-still : goal.returns-then-not-lives-clause-still
returns-then-not-lives-clause-still c =
    still_then c.args.world.now c.is_armed.new.world c.lives.new.world c.is_armed.ensures.still c.lives.ensures.still

pub returns-then-not-lives-clause-kept : goal.returns-then-not-lives-clause-kept
returns-then-not-lives-clause-kept c =
    let a = c.args.world.now in
    let b = c.is_armed.new.world in
    let i = c.args.interval.now in
    let kept = still_kept a b i c.is_armed.ensures.still c.is_armed.ensures.legal c.requires.kept in
    ended b c.lives.new.world i c.lives.ensures.still c.lives.ensures.legal kept
    (other_later b c.lives.new.world i c.lives.ensures.still c.is_armed.ensures.legal c.lives.ensures.legal kept
    (λ armed. let told : true ≡ false = sym (c.is_armed.ensures.value.1 armed) ∙ c.if-is_armed.false in absurd cc))
    (inl (c.lives.ensures.value ∙ ap not c.if-not-lives.true))

pub returns-then-not-lives-clause-passed : goal.returns-then-not-lives-clause-passed
returns-then-not-lives-clause-passed c = record {
  same = record { wheel = refl; first = refl; period = refl; dest = refl; msg = refl };
  fires = refl;
  ends = (returns-then-not-lives-clause-kept c).is_in;
}

pub start_next-requires-clause-kept : goal.start_next-requires-clause-kept
start_next-requires-clause-kept c =
    still_kept c.is_armed.new.world c.lives.new.world c.args.interval.now c.lives.ensures.still c.lives.ensures.legal
    (still_kept c.args.world.now c.is_armed.new.world c.args.interval.now c.is_armed.ensures.still c.is_armed.ensures.legal c.requires.kept)

pub start_next-requires-clause-unarmed : goal.start_next-requires-clause-unarmed
start_next-requires-clause-unarmed c =
    other_later c.is_armed.new.world c.lives.new.world c.args.interval.now c.lives.ensures.still c.is_armed.ensures.legal c.lives.ensures.legal
    (still_kept c.args.world.now c.is_armed.new.world c.args.interval.now c.is_armed.ensures.still c.is_armed.ensures.legal c.requires.kept)
    (λ armed. let told : true ≡ false = sym (c.is_armed.ensures.value.1 armed) ∙ c.if-is_armed.false in absurd cc)

pub returns-clause-still : goal.returns-clause-still
returns-clause-still c =
    still_then c.args.world.now c.is_armed.new.world c.start_next.new.world c.is_armed.ensures.still
    (still_then c.is_armed.new.world c.lives.new.world c.start_next.new.world c.lives.ensures.still c.start_next.ensures.still)

pub returns-clause-timer : goal.returns-clause-timer
returns-clause-timer c = elim c.start_next.ensures.timer [
  | inl same ↦ inl same
  | inr none ↦
      inr (new_before c.args.world.now c.lives.new.world _
      (still_then c.args.world.now c.is_armed.new.world c.lives.new.world c.is_armed.ensures.still c.lives.ensures.still) c.requires.legal
      c.lives.ensures.legal none)
]

pub returns-then-is_armed-clause-goes : goal.returns-then-is_armed-clause-goes
returns-then-is_armed-clause-goes c =
    goes_armed c.args.world.now c.is_armed.new.world c.args.interval.now c.is_armed.result c.is_armed.ensures.reads c.if-is_armed.true

pub returns-in_default-clause-goes : goal.returns-in_default-clause-goes
returns-in_default-clause-goes c =
    goes_high c.args.world.now c.is_armed.new.world c.args.interval.now c.is_armed.result c.is_armed.ensures.reads c.if-is_armed.false
    c.in_default.ensures

pub returns-then-not-lives-clause-goes : goal.returns-then-not-lives-clause-goes
returns-then-not-lives-clause-goes c =
    goes_dead c.args.world.now c.is_armed.new.world c.lives.new.world c.args.interval.now c.is_armed.result c.lives.result c.is_armed.ensures.reads
    c.if-is_armed.false c.in-Some.ensures.1 c.lives.ensures.call c.if-not-lives.true

pub returns-clause-goes : goal.returns-clause-goes
returns-clause-goes c =
    goes_start c.args.world.now c.is_armed.new.world c.lives.new.world c.start_next.new.world c.args.interval.now c.start_next.new.interval
    c.is_armed.result c.lives.result c.start_next.result c.is_armed.ensures.reads c.if-is_armed.false c.in-Some.ensures.1 c.lives.ensures.call
    c.if-not-lives.false c.start_next.ensures.starts
