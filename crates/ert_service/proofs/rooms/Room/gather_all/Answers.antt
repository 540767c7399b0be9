use Rattle.std.proofs.Common.{◌≡◌, ◌<◌, rules, length, arith, ap, subst, sym, ◌∙◌}
use Rattle.ert_defs.specs.Legal.{Legal}
use Rattle.ert_service.proofs.Gathered.{Comes, gathers_none, gathers_more, gathers_all}
use Rattle.ert_service.specs.Gathering.{AreIn}
use Rattle.ert_table.specs.Desks.{front_of, view_of}
use Rattle.ert_service.proofs.rooms.Room.gather_all.Goals as goal

pub loop-lock-preserved : goal.loop-lock-preserved
loop-lock-preserved g c =
    let s = g.L.DeskName.settings in
    let fits = c.into_parts-part.ensures.fits in
    let legal = subst (λ t. Legal t (front_of c.join.new.self)) c.requires.desk.settings_is c.join.ensures.legal in
    let comes : Comes g.P.DeskPart.kind s (view_of c.loop-lock.pass) (view_of c.into_parts-part.result.1) (view_of c.join.new.self) c.into_parts-part.result.0 = record {
      actors = c.join.ensures.actors;
      joined = c.join.ensures.joined;
      legal = legal;
      own = fits.sits.actors;
      stand = fits.stands;
    } in
    let gone = c.in-Some.ensures.steps.1 in
    record {
      belongs = c.join.ensures.belongs;
      legal = legal;
      gathers = gathers_more g.met.P.DeskPart.is_kind comes c.own_number-number.ensures c.put.ensures (ap length c.in-Some.ensures.steps.0) c.loop-lock.invariant.gathers;
      remaining = let short = ap length c.in-Some.ensures.steps.0 in omega arith;
    }

pub returns-clause-parts : goal.returns-clause-parts
returns-clause-parts g c =
    let k = g.P.DeskPart.kind in
    let s = g.L.DeskName.settings in
    subst (λ l. AreIn k s (k.count s) (view_of c.loop-lock.pass) l) (sym c.take_all.ensures)
    (gathers_all c.loop-lock.invariant.gathers (sym c.loop-lock.invariant.remaining ∙ c.in-None.ensures.steps.0))

pub put-requires : goal.put-requires
put-requires g c =
    let k = g.P.DeskPart.kind in
    let s = g.L.DeskName.settings in
    let x = c.into_parts-part.result.0 in
    let named : c.own_number-number.result ≡ k.number x = c.own_number-number.ensures in
    let low : k.number x < k.count s = g.met.P.DeskPart.is_kind.low s (front_of c.into_parts-part.result.1) x c.into_parts-part.ensures.fits.stands in
    let counted : length c.loop-lock.places.items ≡ k.count s = c.loop-lock.invariant.gathers.gathered.counted in
    omega (arith, named, low, counted, c.loop-lock.places.ok.0)

pub loop-lock-init : goal.loop-lock-init
loop-lock-init g c = record {
  belongs = c.requires.belongs;
  legal = c.requires.legal;
  gathers = gathers_none c.args.self.no_place (search rules);
  remaining = search rules;
}
