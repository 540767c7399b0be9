-- What a world and a seat know that have met.

use Rattle.std.proofs.Common.{◌≡◌, ℕ, Bool, true, false, List, [], ◌∷◌, ◌++◌, filter, Some, refl, sym, ap, subst, ◌∙◌}
use Rattle.ert_defs.specs.{Entries.is_ours, Legal.Legal, declared.entry.Actor.Actor, declared.entry.Actor.TheVariants.Caller, Actors.same_actor}
use Rattle.ert_table.proofs.{Calls.none_ours, Holders.{or_left, or_false, same_actor_self, held_then}, Parts.free_later}
use Rattle.ert_table.specs.{Desks.{settings_of, view_of, front_of, actors_of, Belongs}, Held.{is_held, actors_but}, Takes.TakesPlace, Views.{Joined, meeting, longer}, declared.desk.Desk.Desk, declared.desk.Pass.Pass}
use Rattle.ert_world.proofs.Calls.{Has, Does, parts_in, calm_called}
use Rattle.ert_world.specs.{Seats.{Seated, seated, Steps, BySeat, Meets}, Worlds.{Seen, seen, AreSound, By}, Ways.MakesNone, declared.world.World.TheInside.Inside}

-- the pass of a world took in that of a seat, and gave its actor away again
pub record IsMeeting (d : Desk) (p s j q r : Pass) (a : Actor) : Type 0 where
  pub sits : actors_of s ≡ a ∷ []
  pub actors : actors_of j ≡ actors_of p ++ actors_of s
  pub joined : Joined (meeting (view_of p) (view_of s)) (front_of j)
  pub legal : Legal (settings_of d) (front_of j)
  pub rest : actors_of q ≡ actors_but (actors_of j) a
  pub front : front_of q ≡ front_of j
  pub sits_again : actors_of r ≡ a ∷ []
  pub seat_front : front_of r ≡ front_of j

pub is_meeting : (d e : Desk) (p s j q r : Pass) (a : Actor) → e ≡ d → actors_of s ≡ a ∷ [] → actors_of j ≡ actors_of p ++ actors_of s
    → Joined (meeting (view_of p) (view_of s)) (front_of j) → Legal (settings_of e) (front_of j) → actors_of q ≡ actors_but (actors_of j) a
    → front_of q ≡ front_of j → actors_of r ≡ a ∷ [] → front_of r ≡ front_of j → IsMeeting d p s j q r a
is_meeting d e p s j q r a same sits actors joined legal rest front again seat_front = record {
  sits = sits;
  actors = actors;
  joined = joined;
  legal = subst (λ (d : Desk). Legal (settings_of d) (front_of j)) same legal;
  rest = rest;
  front = front;
  sits_again = again;
  seat_front = seat_front;
}

holds_self : (a : Actor) → is_held (a ∷ []) a ≡ true
holds_self a = or_left (same_actor a a) false (same_actor_self a)

not_held : (actors : List Actor) (a : Actor) → (is_held actors a ≡ true → ⊥) → is_held actors a ≡ false
not_held actors a none = at (is_held actors a) refl
  where
    at : (b : Bool) → is_held actors a ≡ b → is_held actors a ≡ false
    at true is = absurd (none is)
    at false is = is

-- an actor that comes and goes
taken_out : (actors : List Actor) (a : Actor) → is_held actors a ≡ false → actors_but (actors ++ a ∷ []) a ≡ actors
taken_out [] a none = rw (same_actor_self a) refl
taken_out (b ∷ actors) a none =
    let apart = or_false (same_actor b a) (is_held actors a) none in
    rw apart.0 (ap (λ l. b ∷ l) (taken_out actors a apart.1))

-- where passes were joined, that of the seat can be taken out
pub can_split : (p s j : Pass) (a : Actor) → actors_of s ≡ a ∷ [] → actors_of j ≡ actors_of p ++ actors_of s → is_held (actors_of j) a ≡ true
can_split p s j a sits actors =
    subst (λ l. is_held l a ≡ true) (sym (actors ∙ ap (λ l. actors_of p ++ l) sits)) (held_then (actors_of p) (a ∷ []) a (holds_self a))

-- a pass of one desk is of another that is the same
pub belongs_as : (d e : Desk) (p : Pass) → d.table.shared.table_id ≡ e.table.shared.table_id → settings_of d ≡ settings_of e → Belongs d p → Belongs e p
belongs_as d e p table settings belongs = record {
  table = belongs.table ∙ table;
  named = belongs.named ∙ ap (λ g. Some g) settings;
}

-- neither has an entry more of its own
module _ (d : Desk) (p s j q r : Pass) (a : Actor) (met : IsMeeting d p s j q r a) where
  apart : is_held (actors_of p) a ≡ false
  apart = not_held (actors_of p) a (λ held. met.joined.apart a held (subst (λ l. is_held l a ≡ true) (sym met.sits) (holds_self a)))

  world_takes : TakesPlace (settings_of d) (view_of p) [] (view_of q)
  world_takes =
      let more = met.joined.begins in
      record {
        actors = met.rest ∙ (ap (λ l. actors_but l a) (met.actors ∙ ap (λ l. actors_of p ++ l) met.sits) ∙ taken_out (actors_of p) a apart);
        legal = subst (Legal (settings_of d)) (sym met.front) met.legal;
        later = more.later;
        grown = met.front ∙ more.grown;
        ours = none_ours (actors_of p) more.later (λ b held. free_later b (front_of p) (front_of j) more (met.joined.own b held));
      }

  seat_takes : TakesPlace (settings_of d) (view_of s) [] (view_of r)
  seat_takes =
      let more = met.joined.other_begins in
      record {
        actors = met.sits_again ∙ sym met.sits;
        legal = subst (Legal (settings_of d)) (sym met.seat_front) met.legal;
        later = more.later;
        grown = met.seat_front ∙ more.grown;
        ours = none_ours (actors_of s) more.later (λ b held. free_later b (front_of s) (front_of j) more (met.joined.other_own b held));
      }

-- so the world goes on with what it learnt
module _ (before : Seen) (b : Inside) (d : Desk) (s j q r : Pass) (n : ℕ) (has : Has before b d) (belongs : Belongs d q)
    (met : IsMeeting d b.pass s j q r (Caller n)) where
  world_met : Does before d q b.next (parts_in b) (λ w. By w MakesNone)
  world_met =
      calm_called before b d q (parts_in b) [] [] (λ w. By w MakesNone) has refl belongs (world_takes d b.pass s j q r (Caller n) met) tt tt tt refl refl
      (λ stand. stand) (λ m grown own. own)

  pub met_fit : AreSound d q b.next (parts_in b)
  met_fit = world_met.fit

  -- and the seat too
  pub met_both : (seat : Seated) (e : Desk) → seated e s n ≡ seat → settings_of d ≡ settings_of e → front_of j ≡ longer (front_of b.pass) (front_of s)
      → Meets before seat (seen d q b.next b.keeper b.wheels.items b.list) (seated e r n)
  met_both seat e is same long =
      let takes = seat_takes d b.pass s j q r (Caller n) met in
      record {
        goes = world_met.goes;
        steps = subst (λ x. Steps x (BySeat x MakesNone) (seated e r n)) is (record {
          grows = record {
            piece = takes.later;
            grown = takes.grown;
            made = subst (λ l. filter (is_ours l) takes.later ≡ []) met.sits takes.ours;
          };
          legal = subst (λ g. Legal g (front_of r)) same takes.legal;
          table = refl;
          settings = refl;
          number = refl;
        });
        one = met.seat_front ∙ sym met.front;
        is_longer = met.front ∙ (long ∙ (ap (λ (w : Seen). longer w.history (front_of s)) has.is ∙ ap (λ (x : Seated). longer before.history x.history) is));
        wheels = ap (λ (w : Seen). w.wheels) has.is;
      }
