-- A service that is closed: once all passes are joined, every actor is held, and each part stands for the
-- whole history.

use Rattle.std.proofs.Common.{◌≡◌, ℕ, zero, suc, ◌+◌, ◌<◌, true, List, [], ◌∷◌, ◌++◌, slice_index_or, Option, Some, None, refl, sym, ap, subst, ◌∙◌, length-append}
use Rattle.atomic_table.specs.Seated.{TableId}
use Rattle.ert_defs.specs.{Legal.Legal, declared.entry.Actor.Actor, declared.entry.Actor.TheVariants.{Keeper, Wheel, Inbox, Sched, MailOf, Caller}, declared.settings.Settings.Settings}
use Rattle.ert_locks.proofs.Lent.{holds_self}
use Rattle.ert_locks.specs.{KindLaws.keepers_are, Kinds.{PartFits, keepers, wheels, inboxes, scheds, mails}, Names.IsDesk}
use Rattle.ert_world.proofs.Alone.{holds_all}
use Rattle.ert_world.specs.{Parts.{AllParts, Stand}, Worlds.AreFit}
use Rattle.ert_service.specs.{Gathering.{IsSeen, AreIn, AreEmpty, filled}, Joining.HasOwn}
use Rattle.ert_table.specs.{Desks.{settings_of, view_of, front_of, actors_of, Belongs}, Held.{is_held, IsWhole}, declared.desk.Desk.Desk, declared.desk.Pass.Pass, declared.view.View.View}

filled_none : {X : Type 0} (places : List (Option X)) → filled (places ++ None ∷ []) ≡ filled places
filled_none [] = refl
filled_none (None ∷ places) = filled_none places
filled_none (Some x ∷ places) = ap (λ n. suc n) (filled_none places)

each_none : {X : Type 0} (places : List (Option X)) → ((i : ℕ) → slice_index_or places i None ≡ None) → (i : ℕ) → slice_index_or (places ++ None ∷ []) i None ≡ None
each_none [] none zero = refl
each_none [] none (suc i) = refl
each_none (x ∷ places) none zero = none 0
each_none (x ∷ places) none (suc i) = each_none places (λ k. none (suc k)) i

pub empty_more : {X : Type 0} (n : ℕ) (places : List (Option X)) → AreEmpty n places → AreEmpty (n + 1) (places ++ None ∷ [])
empty_more n places are = record {
  counted = length-append places (None ∷ []) ∙ ap (λ k. k + 1) are.counted;
  none = filled_none places ∙ are.none;
  each = each_none places are.each;
}

-- the parts once all passes were joined
pub record AreJoined (table : TableId) (g : Settings) (own p : Pass) (parts : AllParts) : Type 0 where
  pub legal : Legal g (front_of p)
  pub keeper_fits : PartFits table g keepers parts.keeper own
  pub keeper : IsSeen (view_of own) (view_of p)
  pub wheels : AreIn wheels g g.schedulers (view_of p) parts.wheels
  pub inboxes : AreIn inboxes g g.schedulers (view_of p) parts.inboxes
  pub mails : AreIn mails g g.processes (view_of p) parts.mails
  pub scheds : AreIn scheds g g.schedulers (view_of p) parts.scheds
  pub callers : (i : ℕ) → i < g.callers → is_held (actors_of p) (Caller i) ≡ true

pub fit_of : {table : TableId} {g : Settings} {d : Desk} {own p : Pass} {parts : AllParts} → IsDesk table g d → Belongs d p → AreJoined table g own p parts → AreFit d p 1 parts
fit_of {table} {g} {d} {own} {p} {parts} desk belongs joined = record {
  belongs = belongs;
  holds = holds_all (settings_of d) (actors_of p) d.checked.counts.callers_low (subst (λ s. IsWhole s (actors_of p)) (sym desk.settings_is) whole);
  stand = subst (λ s. Stand s (front_of p) [] parts) (sym desk.settings_is) stand;
}
  where
    mine : is_held (actors_of own) Keeper ≡ true
    mine = rw joined.keeper_fits.sits.actors (holds_self Keeper)

    whole : IsWhole g (actors_of p)
    whole Keeper _ = joined.keeper.held Keeper mine
    whole (Wheel w) low = joined.wheels.held w low
    whole (Inbox w) low = joined.inboxes.held w low
    whole (Sched w) low = joined.scheds.held w low
    whole (MailOf m) low = joined.mails.held m low
    whole (Caller n) low = joined.callers n low

    stand : Stand g (front_of p) [] parts
    stand = record {
      legal = joined.legal;
      keeper = λ _. keepers_are.stand_on g (front_of own) (front_of p) parts.keeper joined.keeper.begins (joined.keeper.own Keeper mine) joined.legal joined.keeper_fits.stands;
      wheels = joined.wheels.ordered;
      inboxes = joined.inboxes.ordered;
      mails = joined.mails.ordered;
      scheds = joined.scheds.ordered;
    }

-- what is seen of one actor has its own entries
pub own_of : {v w : View} (a : Actor) → v.actors ≡ a ∷ [] → IsSeen v w → HasOwn a v.front w.front
own_of a only seen = record { begins = seen.begins; own = seen.own a (rw only (holds_self a)) }
