-- What is left of a world after a caller was given a seat, or came back.

use Rattle.std.proofs.Common.{◌≡◌, ℕ, ◌+◌, ◌<◌, Bool, true, false, ◌&&◌, ◌||◌, not, List, [], ◌∷◌, ◌++◌, refl, sym, ap, subst, ◌∙◌, arith}
use Rattle.std.proofs.lemmas.{Bool.Decides.nat_tests, List.Folds.list_any-append}
use Rattle.std.specs.Prelude.{nat_eq, nat_le, nat_lt}
use Rattle.ert_defs.specs.{Actors.same_actor, declared.entry.Actor.Actor, declared.entry.Actor.TheVariants.{Keeper, Wheel, Inbox, Sched, MailOf, Caller}, declared.settings.Settings.Settings}
use Rattle.ert_shard.specs.{Hubs.{is_kept, HubHoldsRest, HaveHomes, StandLeft, IsRest}, declared.hub.Home.Home}
use Rattle.ert_table.proofs.Holders.{held_but}
use Rattle.ert_table.specs.{Desks.{settings_of, front_of, actors_of, Belongs}, Held.{is_held, actors_but}, declared.desk.Desk.Desk, declared.desk.Pass.Pass}
use Rattle.ert_world.specs.Parts.{AllParts}

-- who is left but for the next caller
given_caller : (c left seat : ℕ) → left < seat → (not (nat_eq c seat) && (nat_le c left || nat_le seat c)) ≡ (nat_le c left || nat_le (seat + 1) c)
given_caller c left seat low = grind (arith, nat_tests, low)

kept_but : (left first seat : ℕ) (a : Actor) → left < seat → (not (same_actor a (Caller seat)) && is_kept left first seat a) ≡ is_kept left first (seat + 1) a
kept_but left first seat Keeper low = refl
kept_but left first seat (Wheel w) low = refl
kept_but left first seat (Inbox w) low = refl
kept_but left first seat (Sched w) low = refl
kept_but left first seat (MailOf p) low = refl
kept_but left first seat (Caller c) low = given_caller c left seat low

-- and with it again
or_none : (b : Bool) → (b || false) ≡ b
or_none true = refl
or_none false = refl

back_caller : (c left seat : ℕ) → ((nat_le c left || nat_le (seat + 1) c) || (nat_eq seat c || false)) ≡ (nat_le c left || nat_le seat c)
back_caller c left seat = grind (arith, nat_tests)

kept_with : (left first seat : ℕ) (a : Actor) → (is_kept left first (seat + 1) a || is_held (Caller seat ∷ []) a) ≡ is_kept left first seat a
kept_with left first seat Keeper = refl
kept_with left first seat (Wheel w) = or_none (nat_lt w left)
kept_with left first seat (Inbox w) = or_none (nat_lt w left)
kept_with left first seat (Sched w) = or_none (nat_lt w left)
kept_with left first seat (MailOf p) = or_none (nat_lt p first)
kept_with left first seat (Caller c) = back_caller c left seat

rest_but : (g : Settings) (actors : List Actor) (left first seat : ℕ) → HubHoldsRest g actors left first seat → seat < g.callers
    → HubHoldsRest g (actors_but actors (Caller seat)) left first (seat + 1)
rest_but g actors left first seat holds low =
    let most = holds.most in
    let seats = holds.seats in
    record {
      most = holds.most;
      few = holds.few;
      seats = omega (arith, seats);
      callers = omega (arith, low);
      rest = λ a ranged.
          held_but actors (Caller seat) a
          ∙ (ap (λ b. not (same_actor a (Caller seat)) && b) (holds.rest a ranged) ∙ kept_but left first seat a (omega (arith, most, seats)));
    }

rest_with : (g : Settings) (actors : List Actor) (left first seat : ℕ) → HubHoldsRest g actors left first seat → seat < g.callers
    → HubHoldsRest g (actors_but actors (Caller seat) ++ Caller seat ∷ []) left first seat
rest_with g actors left first seat holds low = record {
  most = holds.most;
  few = holds.few;
  seats = holds.seats;
  callers = holds.callers;
  rest = λ a ranged.
      list_any-append (λ b. same_actor b a) (actors_but actors (Caller seat)) (Caller seat ∷ [])
      ∙ (ap (λ b. b || is_held (Caller seat ∷ []) a) ((rest_but g actors left first seat holds low).rest a ranged) ∙ kept_with left first seat a);
}

-- the parts fit still
refit : (e : Desk) (p q : Pass) (left first seat more : ℕ) (homes : List Home) (parts : AllParts) → IsRest e p left first seat homes parts → Belongs e q
    → HubHoldsRest (settings_of e) (actors_of q) left first more → front_of q ≡ front_of p → IsRest e q left first more homes parts
refit e p q left first seat more homes parts rest belongs holds front = record {
  belongs = belongs;
  holds = holds;
  stand = subst (λ h. StandLeft (settings_of e) h left first parts) (sym front) rest.stand;
  home = subst (λ h. HaveHomes h left homes) (sym front) rest.home;
}

pub seated_fit : (d e : Desk) (p q : Pass) (left first seat : ℕ) (homes : List Home) (parts : AllParts) → d ≡ e → IsRest e p left first seat homes parts → Belongs d q
    → actors_of q ≡ actors_but (actors_of p) (Caller seat) → front_of q ≡ front_of p → seat < (settings_of e).callers
    → IsRest e q left first (seat + 1) homes parts
seated_fit d e p q left first seat homes parts same rest belongs actors front low =
    refit e p q left first seat (seat + 1) homes parts rest (subst (λ x. Belongs x q) same belongs)
    (subst (λ l. HubHoldsRest (settings_of e) l left first (seat + 1)) (sym actors) (rest_but (settings_of e) (actors_of p) left first seat rest.holds low)) front

pub back_fit : (d e : Desk) (p q r : Pass) (left first seat : ℕ) (homes : List Home) (parts : AllParts) → d ≡ e → IsRest e p left first seat homes parts → Belongs d r
    → actors_of q ≡ actors_but (actors_of p) (Caller seat) → actors_of r ≡ actors_of q ++ Caller seat ∷ [] → front_of r ≡ front_of p
    → seat < (settings_of e).callers → IsRest e r left first seat homes parts
back_fit d e p q r left first seat homes parts same rest belongs but actors front low =
    refit e p r left first seat seat homes parts rest (subst (λ x. Belongs x r) same belongs)
    (subst (λ l. HubHoldsRest (settings_of e) l left first seat) (sym (actors ∙ ap (λ l. l ++ Caller seat ∷ []) but))
    (rest_with (settings_of e) (actors_of p) left first seat rest.holds low)) front
