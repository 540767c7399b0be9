use Rattle.std.proofs.Common.{◌≡◌, ◌∙◌, true, [], rules, sym, subst}
use Rattle.ert_table.proofs.Named.{names_both, names_no_generation, names_no_slot}
use Rattle.ert_defs.specs.Legal.{names_timer}
use Rattle.ert_table.specs.{Desks.{settings_of, view_of}, Calls.IsMade}
use Rattle.ert_timers.proofs.{Freed.keeps_uses, Moved.{ends_after, has_looked, none_takes, not_full, restarts, restarts_none}, Starts.{ahead_stands, bad_arg}}
use Rattle.ert_timers.specs.{Frees.UsesFree, Looking.now_in, Passed.GainsOne, Restarting.{EndsAfter, HasLetGo}}
use Rattle.ert_timers.proofs.part.WheelPart.restart_by_name.Goals as goal

pub returns-in_default-clause-stands : goal.returns-in_default-clause-stands
returns-in_default-clause-stands c =
    ahead_stands (settings_of c.args.desk.now) (view_of c.args.pass.now) c.args.by c.args.start.now c.look_ahead.result (view_of c.look_ahead.new.pass) c.args.self.now c.requires.stands c.requires.holds
    c.look_ahead.ensures.looks

pub returns-in_default-clause-call : goal.returns-in_default-clause-call
returns-in_default-clause-call c =
    bad_arg (settings_of c.args.desk.now) (view_of c.args.pass.now) c.args.by c.args.self.now.number c.args.start.now c.look_ahead.result (view_of c.look_ahead.new.pass) c.in_default.is
    c.look_ahead.ensures.looks

pub returns-then-not-has_slot-clause-stands : goal.returns-then-not-has_slot-clause-stands
returns-then-not-has_slot-clause-stands c =
    ahead_stands (settings_of c.args.desk.now) (view_of c.args.pass.now) c.args.by c.args.start.now c.look_ahead.result (view_of c.look_ahead.new.pass) c.args.self.now c.requires.stands c.requires.holds
    c.look_ahead.ensures.looks

pub returns-then-not-has_slot-clause-call : goal.returns-then-not-has_slot-clause-call
returns-then-not-has_slot-clause-call c =
    restarts_none (settings_of c.args.desk.now) (view_of c.args.pass.now) (view_of c.look_ahead.new.pass) c.args.by c.args.self.now.number c.args.timer c.args.start.now c.look_ahead.result c.in-Some.ahead
    c.in-Some.is c.look_ahead.ensures.looks (names_no_slot (settings_of c.args.desk.now) c.args.timer (search rules))

pub returns-then-not-has_generation-clause-stands : goal.returns-then-not-has_generation-clause-stands
returns-then-not-has_generation-clause-stands c =
    ahead_stands (settings_of c.args.desk.now) (view_of c.args.pass.now) c.args.by c.args.start.now c.look_ahead.result (view_of c.look_ahead.new.pass) c.args.self.now c.requires.stands c.requires.holds
    c.look_ahead.ensures.looks

pub returns-then-not-has_generation-clause-call : goal.returns-then-not-has_generation-clause-call
returns-then-not-has_generation-clause-call c =
    restarts_none (settings_of c.args.desk.now) (view_of c.args.pass.now) (view_of c.look_ahead.new.pass) c.args.by c.args.self.now.number c.args.timer c.args.start.now c.look_ahead.result c.in-Some.ahead
    c.in-Some.is c.look_ahead.ensures.looks (names_no_generation (settings_of c.args.desk.now) c.args.timer (search rules))

pub restart_in_parts-refused-requires-clause-stands : goal.restart_in_parts-refused-requires-clause-stands
restart_in_parts-refused-requires-clause-stands c =
    ahead_stands (settings_of c.args.desk.now) (view_of c.args.pass.now) c.args.by c.args.start.now c.look_ahead.result (view_of c.look_ahead.new.pass) c.args.self.now c.requires.stands c.requires.holds
    c.look_ahead.ensures.looks

pub restart_in_parts-refused-requires-clause-in_range : goal.restart_in_parts-refused-requires-clause-in_range
restart_in_parts-refused-requires-clause-in_range c = names_both (settings_of c.args.desk.now) c.args.timer (search rules) (search rules)

pub restart_in_parts-refused-requires-clause-looked : goal.restart_in_parts-refused-requires-clause-looked
restart_in_parts-refused-requires-clause-looked c =
    has_looked (settings_of c.args.desk.now) (view_of c.args.pass.now) c.args.by c.args.start.now c.look_ahead.result c.in-Some.ahead (view_of c.look_ahead.new.pass) c.args.self.now.number c.in-Some.is
    c.look_ahead.ensures.looks c.requires.holds c.in-Some.ensures.now c.in-Some.ensures.deadline

pub returns-then-not-may_stay-clause-call : goal.returns-then-not-may_stay-clause-call
returns-then-not-may_stay-clause-call c =
    let g = settings_of c.args.desk.now in
    let u = view_of c.look_ahead.new.pass in
    let z = view_of c.restart_in_parts-refused.new.pass in
    let named : names_timer g c.args.timer ≡ true = names_both g c.args.timer (search rules) (search rules) in
    restarts g (view_of c.args.pass.now) u z c.args.by c.args.self.now c.args.timer c.args.start.now
    c.look_ahead.result c.in-Some.ahead c.refused_or.result c.in-Some.is c.look_ahead.ensures.looks c.requires.holds named
    (subst (λ r. IsMade g u (EndsAfter g c.args.by c.args.self.now.number c.args.timer c.args.start.now (now_in c.in-Some.ahead) r) z) (sym c.refused_or.ensures)
    c.restart_in_parts-refused.ensures.call)

pub restart_here-requires-clause-stands : goal.restart_here-requires-clause-stands
restart_here-requires-clause-stands c =
    ahead_stands (settings_of c.args.desk.now) (view_of c.args.pass.now) c.args.by c.args.start.now c.look_ahead.result (view_of c.look_ahead.new.pass) c.args.self.now c.requires.stands c.requires.holds
    c.look_ahead.ensures.looks

pub restart_here-requires-clause-in_range : goal.restart_here-requires-clause-in_range
restart_here-requires-clause-in_range c = names_both (settings_of c.args.desk.now) c.args.timer (search rules) (search rules)

pub restart_here-requires-clause-looked : goal.restart_here-requires-clause-looked
restart_here-requires-clause-looked c =
    has_looked (settings_of c.args.desk.now) (view_of c.args.pass.now) c.args.by c.args.start.now c.look_ahead.result c.in-Some.ahead (view_of c.look_ahead.new.pass) c.args.self.now.number c.in-Some.is
    c.look_ahead.ensures.looks c.requires.holds c.in-Some.ensures.now c.in-Some.ensures.deadline

pub returns-clause-call : goal.returns-clause-call
returns-clause-call c =
    let named : names_timer (settings_of c.args.desk.now) c.args.timer ≡ true = names_both (settings_of c.args.desk.now) c.args.timer (search rules) (search rules) in
    let u = view_of c.look_ahead.new.pass in
    let stands = ahead_stands (settings_of c.args.desk.now) (view_of c.args.pass.now) c.args.by c.args.start.now c.look_ahead.result (view_of c.look_ahead.new.pass) c.args.self.now c.requires.stands c.requires.holds
    c.look_ahead.ensures.looks in
    restarts (settings_of c.args.desk.now) (view_of c.args.pass.now) u (view_of c.restart_here.new.pass) c.args.by c.args.self.now c.args.timer c.args.start.now c.look_ahead.result c.in-Some.ahead
    c.restart_here.result c.in-Some.is c.look_ahead.ensures.looks c.requires.holds named
    (ends_after (settings_of c.args.desk.now) u u (view_of c.restart_here.new.pass) c.args.by c.args.self.now.number c.args.timer c.args.start.now _ c.restart_here.result [] tt
    (none_takes (settings_of c.args.desk.now) u stands.legal) c.restart_here.ensures.call
    (not_full (settings_of c.args.desk.now) c.args.by c.args.self.now.number c.args.timer _ c.restart_here.result _ [] c.restart_here.ensures.not_full))

pub returns-clause-full : goal.returns-clause-full
returns-clause-full c = λ is. absurd (c.restart_here.ensures.not_full is)

pub returns-in_default-clause-frees : goal.returns-in_default-clause-frees
returns-in_default-clause-frees c = keeps_uses c.args.self.now c.args.self.now _ (λ k was. was)

pub returns-then-not-has_slot-clause-frees : goal.returns-then-not-has_slot-clause-frees
returns-then-not-has_slot-clause-frees c = keeps_uses c.args.self.now c.args.self.now _ (λ k was. was)

pub returns-then-not-has_generation-clause-frees : goal.returns-then-not-has_generation-clause-frees
returns-then-not-has_generation-clause-frees c = keeps_uses c.args.self.now c.args.self.now _ (λ k was. was)

pub returns-then-not-may_stay-clause-full : goal.returns-then-not-may_stay-clause-full
returns-then-not-may_stay-clause-full c = λ is. c.restart_in_parts-refused.ensures.full (sym c.refused_or.ensures ∙ is)

pub returns-then-not-may_stay-clause-frees : goal.returns-then-not-may_stay-clause-frees
returns-then-not-may_stay-clause-frees c =
    subst (λ r. UsesFree c.args.self.now c.restart_in_parts-refused.new.self r) (sym c.refused_or.ensures) c.restart_in_parts-refused.ensures.frees

pub returns-then-not-may_stay-clause-rows : goal.returns-then-not-may_stay-clause-rows
returns-then-not-may_stay-clause-rows c =
    subst (λ r. GainsOne c.args.self.now c.restart_in_parts-refused.new.self r) (sym c.refused_or.ensures) c.restart_in_parts-refused.ensures.rows

pub returns-then-not-may_stay-clause-gone : goal.returns-then-not-may_stay-clause-gone
returns-then-not-may_stay-clause-gone c =
    subst (λ r. HasLetGo c.args.timer r c.restart_in_parts-refused.new.self) (sym c.refused_or.ensures) c.restart_in_parts-refused.ensures.gone
