use Rattle.std.proofs.Common.{rules, ◌≡◌, ◌∙◌, pos, FitsSigned, w64, to_z-of_z}
use Rattle.std.specs.Int.{w128}
use Rattle.ert_defs.specs.Milliseconds.{down}
use Rattle.ert_judge.specs.Parts.{looks_in, look_of}
use Rattle.ert_judge.proofs.FirstArmed.{first_seen, none_seen, later_seen}
use Rattle.ert_judge.proofs.timers.of_advanced.Goals as goal

pub returns-in_err-first-clause-none : goal.returns-in_err-first-clause-none
returns-in_err-first-clause-none c = λ c' own.
    let looked : FitsSigned w128 c.down-looked.result = search rules in
    let seen : FitsSigned w64 c.of.result = search rules in
    let look : c.down-looked.result ≡ down c.args.judge.now.settings (look_of (looks_in c.args.judge.now.looks) c.args.by) =
    rw c.of.ensures at (simp to_z-of_z at c.down-looked.ensures) in
    let told : pos c.args.to ≡ c.down-looked.result = (simp to_z-of_z at c.is_at.ensures).0 c.if-not-is_at.false in
    rw c.from_residual.ensures (told ∙ look, none_seen c.args.judge.now c.args.wheel c.args.to own c.in_err-first.ensures)

pub returns-then-first-to-clause-some : goal.returns-then-first-to-clause-some
returns-then-first-to-clause-some c = λ c' own.
    let looked : FitsSigned w128 c.down-looked.result = search rules in
    let seen : FitsSigned w64 c.of.result = search rules in
    let look : c.down-looked.result ≡ down c.args.judge.now.settings (look_of (looks_in c.args.judge.now.looks) c.args.by) =
    rw c.of.ensures at (simp to_z-of_z at c.down-looked.ensures) in
    let told : pos c.args.to ≡ c.down-looked.result = (simp to_z-of_z at c.is_at.ensures).0 c.if-not-is_at.false in
    (told ∙ look, first_seen c' c.args.judge.now c.args.wheel c.in_ok-first.first own c.in_ok-first.ensures, c.if-first-to.true)

pub returns-else-first-to-clause-none : goal.returns-else-first-to-clause-none
returns-else-first-to-clause-none c = λ c' own.
    let looked : FitsSigned w128 c.down-looked.result = search rules in
    let seen : FitsSigned w64 c.of.result = search rules in
    let look : c.down-looked.result ≡ down c.args.judge.now.settings (look_of (looks_in c.args.judge.now.looks) c.args.by) =
    rw c.of.ensures at (simp to_z-of_z at c.down-looked.ensures) in
    let told : pos c.args.to ≡ c.down-looked.result = (simp to_z-of_z at c.is_at.ensures).0 c.if-not-is_at.false in
    (told ∙ look, later_seen c.args.judge.now c.args.wheel c.args.to c.in_ok-first.first own c.in_ok-first.ensures c.if-first-to.false)
