use Rattle.std.proofs.Common.{◌≡◌, ◌+◌, length, sym, ap, subst, ◌∙◌, arith}
use Rattle.std.specs.FinSet as sets
use Rattle.ert_defs.specs.declared.settings.Settings.{Settings}
use Rattle.ert_effects.specs.TimerCalls.{Round}
use Rattle.ert_table.specs.Desks.{settings_of, view_of}
use Rattle.ert_timers.specs.{Parts.{HoldsCaller, Part, PartStands}, Starting.LooksAtSome}
use Rattle.ert_timers.proofs.{Rounds.{around_from, looks_around, clock_taken}, Standing.stands_next}
use Rattle.ert_timers.proofs.part.WheelPart.look_around.Goals as goal

pub round_end-requires : goal.round_end-requires
round_end-requires c = omega (arith, c.round-ahead.ensures.within)

pub look_at_some-requires-clause-holds : goal.look_at_some-requires-clause-holds
look_at_some-requires-clause-holds c =
    subst (λ (p : Part). HoldsCaller (settings_of c.args.desk.now) (view_of c.args.pass.now) c.args.by p.number) (sym c.set_next_look.ensures) c.requires.holds

pub look_at_some-requires-clause-stands : goal.look_at_some-requires-clause-stands
look_at_some-requires-clause-stands c =
    subst (λ (p : Part). PartStands (settings_of c.args.desk.now) (view_of c.args.pass.now).front p) (sym c.set_next_look.ensures)
    (stands_next (settings_of c.args.desk.now) (view_of c.args.pass.now).front c.args.self.now c.round_end.result c.requires.stands)

pub look_at_some-requires-clause-low : goal.look_at_some-requires-clause-low
look_at_some-requires-clause-low c =
    omega (arith, c.round-ahead.ensures.within, c.slot_count.ensures, ap (λ (p : Part). length p.slots) c.set_next_look.ensures)

pub look_at_some-requires-clause-none : goal.look_at_some-requires-clause-none
look_at_some-requires-clause-none c = λ slot low high. ap (λ (p : Part). sets.contains p.free slot) c.set_next_look.ensures ∙ c.requires.none slot

pub look_at_some-requires-2-clause-past : goal.look_at_some-requires-2-clause-past
look_at_some-requires-2-clause-past c =
    omega (
      arith,
      c.requires.past,
      clock_taken (settings_of c.args.desk.now) (view_of c.args.pass.now) _ (view_of c.look_at_some.new.pass) c.requires.stands.checked
          c.look_at_some.ensures.call.call,
    )

pub returns-clause-call : goal.returns-clause-call
returns-clause-call c =
    let g = settings_of c.args.desk.now in
    let many : c.slot_count.result ≡ length c.args.self.now.slots = c.slot_count.ensures in
    let looks : c.settings.result.now.looks ≡ (settings_of c.args.desk.now).looks = ap (λ (g : Settings). g.looks) c.settings.ensures in
    let here : Round (length c.args.self.now.slots) (settings_of c.args.desk.now).looks = record {
      from = c.next_look-from.result;
      ahead = c.round-ahead.result.0;
      behind = c.round-ahead.result.1;
      within = omega (arith, c.round-ahead.ensures.within, many);
      apart = c.round-ahead.ensures.apart;
      all = λ few. c.round-ahead.ensures.all (omega (arith, few, many, looks)) ∙ many;
      many = λ large. c.round-ahead.ensures.many (omega (arith, large, many, looks)) ∙ looks;
    } in
    let first = subst (λ (p : Part). LooksAtSome g (view_of c.args.pass.now) c.args.by c.args.now p c.look_at_some.new.self here.from (here.from + here.ahead) (view_of c.look_at_some.new.pass))
    c.set_next_look.ensures c.look_at_some.ensures.call in
    around_from g (view_of c.args.pass.now) c.args.by c.args.now c.args.self.now c.look_at_some-2.new.self c.round_end.result (view_of c.look_at_some-2.new.pass) here
    c.next_look-from.ensures
    (λ low. c.round-ahead.ensures.some (omega (arith, c.requires.stands.checked.counts.looks_low, looks)) (omega (arith, low, many, c.next_look-from.ensures)))
    c.round_end.ensures
    (looks_around g (view_of c.args.pass.now) c.args.by c.args.now (record c.args.self.now { next_look = c.round_end.result }) c.look_at_some.new.self
    c.look_at_some-2.new.self here (view_of c.look_at_some.new.pass) (view_of c.look_at_some-2.new.pass) c.requires.none
    first c.look_at_some-2.ensures.call)
