use Rattle.std.proofs.Common.{sym, subst, subst₂}
use Rattle.ert_defs.specs.Legal.{Legal}
use Rattle.ert_locks.proofs.Lent.{holds_self}
use Rattle.ert_table.specs.{Desks.{front_of, view_of}, Views.Joined}
use Rattle.ert_locks.proofs.locked.meet.Goals as goal

pub returns-clause-stands : goal.returns-clause-stands
returns-clause-stands g c =
    let s = g.L.DeskName.settings in
    let k = g.P.DeskPart.kind in
    let x = c.args.part.now in
    let legal = subst (λ t. Legal t (front_of c.join.new.self)) c.requires.desk.settings_is c.join.ensures.legal in
    let own = c.join.ensures.joined.own (k.actor (k.number x)) (rw c.requires.fits.sits.actors (holds_self (k.actor (k.number x)))) in
    subst (λ t. k.stands t (front_of c.join.new.self) x) (sym c.requires.desk.settings_is)
    (g.met.P.DeskPart.is_kind.stand_on s (front_of c.args.pass.now) (front_of c.join.new.self) x c.join.ensures.joined.begins own legal c.requires.fits.stands)

pub returns-clause-own_stands : goal.returns-clause-own_stands
returns-clause-own_stands g c =
    let s = g.L.DeskName.settings in
    let k = g.S.DeskPart.kind in
    let x = c.args.own.now in
    let v = view_of c.args.pass.now in
    let h = front_of c.join.new.self in
    let legal = subst (λ t. Legal t h) c.requires.desk.settings_is c.join.ensures.legal in
    let joined = subst₂ (λ f l. Joined (record { front = v.front; actors = v.actors; other_front = f; other_actors = l }) h)
    c.take.ensures.new_front c.take.ensures.actors c.join.ensures.joined in
    let own = joined.other_own (k.actor (k.number x)) (rw c.requires.own_fits.sits.actors (holds_self (k.actor (k.number x)))) in
    subst (λ t. k.stands t h x) (sym c.requires.desk.settings_is)
    (g.met.S.DeskPart.is_kind.stand_on s (front_of c.args.seat.now) h x joined.other_begins own legal c.requires.own_fits.stands)
