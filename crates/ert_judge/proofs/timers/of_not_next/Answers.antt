use Rattle.std.proofs.Common.{rules, refl, subst, ◌≡◌, ◌≤ℤ◌, ℤ, pos, FitsSigned, w64, to_z-of_z}
use Rattle.std.specs.Int.{w128}
use Rattle.ert_defs.specs.Milliseconds.{down}
use Rattle.ert_judge.specs.Parts.{looks_in, look_of}
use Rattle.ert_judge.proofs.{FirstArmed.{found_armed, kept_back, later_first, second_first, none_first}, Seen.never_next}
use Rattle.ert_judge.proofs.timers.of_not_next.Goals as goal

pub returns-then-is_early : goal.returns-then-is_early
returns-then-is_early c = λ c' own.
    let looked : FitsSigned w128 c.down-looked.result = search rules in
    let seen : FitsSigned w64 c.of.result = search rules in
    let look = simp to_z-of_z at c.down-looked.ensures in
    let early = simp to_z-of_z at c.is_early.ensures.early in
    simp to_z-of_z (record {
      its = refl;
      armed = found_armed c' c.args.judge.now c.args.timer c.args.found c.requires.found c.requires.armed;
      look = rw c.of.ensures at look;
      early = early c.if-is_early.true;
      never = never_next c' c.args.judge.now c.args.by c.args.timer own c.requires.never;
    })

pub returns-in_default : goal.returns-in_default
returns-in_default c = λ c' own.
    let looked : FitsSigned w128 c.down-looked.result = search rules in
    let seen : FitsSigned w64 c.of.result = search rules in
    let look : c.down-looked.result ≡ down c.args.judge.now.settings (look_of (looks_in c.args.judge.now.looks) c.args.by) =
    rw c.of.ensures at (simp to_z-of_z at c.down-looked.ensures) in
    let due : pos c.args.found.row.deadline ≤ℤ c.down-looked.result = (simp to_z-of_z at c.is_early.ensures.due) c.if-is_early.false in
    none_first c' c.args.judge.now c.args.by c.args.timer c.args.found own
    (kept_back c' c.args.judge.now c.args.by c.args.timer c.args.found own c.requires.found c.requires.armed
    (subst (λ (z : ℤ). pos c.args.found.row.deadline ≤ℤ z) look due) c.requires.never) c.in_default.ensures

pub returns-then-first-deadline : goal.returns-then-first-deadline
returns-then-first-deadline c = λ c' own.
    let looked : FitsSigned w128 c.down-looked.result = search rules in
    let seen : FitsSigned w64 c.of.result = search rules in
    let look : c.down-looked.result ≡ down c.args.judge.now.settings (look_of (looks_in c.args.judge.now.looks) c.args.by) =
    rw c.of.ensures at (simp to_z-of_z at c.down-looked.ensures) in
    let due : pos c.args.found.row.deadline ≤ℤ c.down-looked.result = (simp to_z-of_z at c.is_early.ensures.due) c.if-is_early.false in
    later_first c' c.args.judge.now c.args.by c.args.timer c.args.found c.in-Some.first own
    (kept_back c' c.args.judge.now c.args.by c.args.timer c.args.found own c.requires.found c.requires.armed
    (subst (λ (z : ℤ). pos c.args.found.row.deadline ≤ℤ z) look due) c.requires.never)
    c.in-Some.ensures c.if-first-deadline.true

pub returns-else-first-deadline : goal.returns-else-first-deadline
returns-else-first-deadline c = λ c' own.
    let looked : FitsSigned w128 c.down-looked.result = search rules in
    let seen : FitsSigned w64 c.of.result = search rules in
    let look : c.down-looked.result ≡ down c.args.judge.now.settings (look_of (looks_in c.args.judge.now.looks) c.args.by) =
    rw c.of.ensures at (simp to_z-of_z at c.down-looked.ensures) in
    let due : pos c.args.found.row.deadline ≤ℤ c.down-looked.result = (simp to_z-of_z at c.is_early.ensures.due) c.if-is_early.false in
    second_first c' c.args.judge.now c.args.by c.args.timer c.args.found c.in-Some.first own
    (kept_back c' c.args.judge.now c.args.by c.args.timer c.args.found own c.requires.found c.requires.armed
    (subst (λ (z : ℤ). pos c.args.found.row.deadline ≤ℤ z) look due) c.requires.never)
    c.requires.never c.in-Some.ensures c.if-first-deadline.false
