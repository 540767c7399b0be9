use Rattle.std.proofs.Common.{[], ◌∷◌}
use Rattle.ert_defs.specs.declared.entry.Actor.TheVariants.{Caller}
use Rattle.ert_table.specs.Desks.{settings_of, view_of}
use Rattle.ert_world.proofs.{Calls.alone_called, Listed.kept_by, Noted.{learned_made, none_quiet}}
use Rattle.ert_world.specs.Ways.{MakesNone}
use Rattle.ert_world.proofs.world.World.learn.Goals as goal

pub invariant_of-self : goal.invariant_of-self
invariant_of-self c =
    let d = c.deref.result.now in
    let made = learned_made (settings_of d) (view_of c.self.inside.pass) c.args.note.front (view_of c.learn.new.self) c.learn.ensures.learned in
    let all =
    alone_called c.args.self.now c.self.inside d _ c.learn.new.self MakesNone c.deref.ensures c.self.view_is c.self.invariant.sound c.learn.ensures.belongs made
    (none_quiet (settings_of d) (Caller 0 ∷ [])) in
    kept_by c.self.inside c.self.inside.list c.self.view_is all.fit all.goes.grows c.self.invariant.listed

pub returns-clause-call : goal.returns-clause-call
returns-clause-call c =
    let d = c.deref.result.now in
    let made = learned_made (settings_of d) (view_of c.self.inside.pass) c.args.note.front (view_of c.learn.new.self) c.learn.ensures.learned in
    (alone_called c.args.self.now c.self.inside d _ c.learn.new.self MakesNone c.deref.ensures c.self.view_is c.self.invariant.sound c.learn.ensures.belongs made
    (none_quiet (settings_of d) (Caller 0 ∷ []))).goes
