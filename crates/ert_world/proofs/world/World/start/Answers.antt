use Rattle.std.proofs.Common.{subst}
use Rattle.ert_effects.specs.TimerCalls.{Starts}
use Rattle.ert_table.specs.{Calls.IsMade, Desks.{settings_of, view_of}}
use Rattle.ert_timers.proofs.LawsHold.{starts_only}
use Rattle.ert_timers.specs.Frees.{IsUsedUp, UsesFree}
use Rattle.ert_world.proofs.{Calls.has_at, Listed.kept_by, Replaced.replaced_by, Rooms.open_at, Searching.searched_at, Started.forgotten_start, Values.refused_value, WheelCalls.{wheel_stepped, starts_calm, started_hold}}
use Rattle.ert_world.proofs.world.World.start.Goals as goal

pub invariant_of-self : goal.invariant_of-self
invariant_of-self c =
    let all =
    ((wheel_stepped c.args.self.now c.self.inside c.deref.result.now _ c.start.new.pass c.args.wheel c.index_mut.result.now c.start.new.self (λ n g. Starts g 0 n c.args.start.now c.start.result)
    c.deref.ensures c.self.view_is c.self.invariant.sound c.start.ensures.belongs c.requires.wheel c.index_mut.ensures.value c.start.ensures.number c.start.ensures.stands c.start.ensures.call
    (starts_only (settings_of c.deref.result.now) 0 c.index_mut.result.now.number c.args.start.now c.start.result)
    (starts_calm (settings_of c.deref.result.now) 0 c.index_mut.result.now.number c.args.start.now c.start.result)
    (started_hold c.self.inside c.deref.result.now c.start.new.pass c.index_mut.result.now.number c.args.start.now c.start.result c.index_mut.result.now c.start.new.self
    (has_at c.deref.ensures c.self.view_is c.self.invariant.sound) c.start.ensures.call c.start.ensures.rows))) in
    kept_by c.self.inside c.self.inside.list c.self.view_is all.fit all.goes.grows c.self.invariant.listed

pub returns-clause-call : goal.returns-clause-call
returns-clause-call c =
    (wheel_stepped c.args.self.now c.self.inside c.deref.result.now _ c.start.new.pass c.args.wheel c.index_mut.result.now c.start.new.self (λ n g. Starts g 0 n c.args.start.now c.start.result)
    c.deref.ensures c.self.view_is c.self.invariant.sound c.start.ensures.belongs c.requires.wheel c.index_mut.ensures.value c.start.ensures.number c.start.ensures.stands c.start.ensures.call
    (starts_only (settings_of c.deref.result.now) 0 c.index_mut.result.now.number c.args.start.now c.start.result)
    (starts_calm (settings_of c.deref.result.now) 0 c.index_mut.result.now.number c.args.start.now c.start.result)
    (started_hold c.self.inside c.deref.result.now c.start.new.pass c.index_mut.result.now.number c.args.start.now c.start.result c.index_mut.result.now c.start.new.self
    (has_at c.deref.ensures c.self.view_is c.self.invariant.sound) c.start.ensures.call c.start.ensures.rows)).goes

pub returns-clause-time : goal.returns-clause-time
returns-clause-time c = λ is.
    refused_value c.args.self.now c.self.inside c.deref.result.now c.start.new.pass c.index_mut.result.now.number c.args.start.now
    (has_at c.deref.ensures c.self.view_is c.self.invariant.sound)
    (subst (λ r. IsMade (settings_of c.deref.result.now) (view_of c.self.inside.pass) (Starts (settings_of c.deref.result.now) 0 c.index_mut.result.now.number c.args.start.now r) (view_of c.start.new.pass)) is c.start.ensures.call)

pub returns-clause-forgotten : goal.returns-clause-forgotten
returns-clause-forgotten c =
    forgotten_start c.args.self.now c.self.inside c.deref.result.now _ c.args.wheel c.args.start.now c.start.result c.index_mut.result.now c.start.new.self
    (has_at c.deref.ensures c.self.view_is c.self.invariant.sound) c.requires.wheel c.index_mut.ensures.value c.start.ensures.rows (returns-clause-call c)

pub returns-clause-full : goal.returns-clause-full
returns-clause-full c = λ is.
    replaced_by IsUsedUp c.args.self.now c.self.inside c.deref.result.now c.args.wheel c.index_mut.result.now c.start.new.self
    (has_at c.deref.ensures c.self.view_is c.self.invariant.sound) c.requires.wheel c.index_mut.ensures.value (c.start.ensures.full is)

pub returns-clause-frees : goal.returns-clause-frees
returns-clause-frees c =
    replaced_by (λ p q. UsesFree p q c.start.result) c.args.self.now c.self.inside c.deref.result.now c.args.wheel c.index_mut.result.now c.start.new.self
    (has_at c.deref.ensures c.self.view_is c.self.invariant.sound) c.requires.wheel c.index_mut.ensures.value c.start.ensures.frees

pub returns-clause-ready : goal.returns-clause-ready
returns-clause-ready c = λ is.
    c.start.ensures.ready
    (open_at c.args.self.now c.self.inside c.deref.result.now c.args.wheel c.index_mut.result.now (has_at c.deref.ensures c.self.view_is c.self.invariant.sound)
    c.index_mut.ensures.value is)

pub returns-clause-searched : goal.returns-clause-searched
returns-clause-searched c = λ is.
    searched_at c.args.self.now c.self.inside c.deref.result.now _ c.start.new.pass c.args.wheel c.args.start.now c.start.result c.index_mut.result.now c.start.new.self
    c.deref.ensures c.self.view_is c.self.invariant.sound c.start.ensures.belongs c.requires.wheel c.index_mut.ensures.value c.start.ensures.number c.start.ensures.stands
    c.start.ensures.call c.start.ensures.rows (c.start.ensures.searched is)
