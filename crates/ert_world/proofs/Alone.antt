-- Where no seat was given out, a world holds every actor, and what is said in its way is said of one thread.

use Rattle.std.proofs.Common.{◌≡◌, ℕ, zero, suc, ◌<◌, List, slice_index_or, inl, inr, refl, sym, ap, subst, ◌∙◌, arith}
use Rattle.std.proofs.Math.Path.{fun_ext}
use Rattle.ert_effects.specs.Ways.{Step, Growth, Way, Grows, alone}
use Rattle.ert_defs.specs.{Legal.Legal, States.state, declared.entry.Actor.Actor, declared.entry.Actor.TheVariants.{Keeper, Wheel, Inbox, Sched, MailOf, Caller}, declared.entry.Entry.Entry, declared.settings.Settings.Settings}
use Rattle.ert_table.specs.Held.{IsWhole}
use Rattle.ert_timers.proofs.Passing.{loses_none}
use Rattle.ert_timers.specs.{Parts.Part, Passed.LosesRows}
use Rattle.ert_world.proofs.Divided.{none_given}
use Rattle.ert_world.specs.{Stepping.Stays, Ways.beside_seats, Worlds.{Seen, IsUnseated, HoldsRest, ForgetsCancelled, LoseRows, Goes, TurnsGrow, way_of}}

every : (next : ℕ) (a : Actor) → next ≡ 1 → IsUnseated next a
every next Keeper one = tt
every next (Wheel n) one = tt
every next (Inbox n) one = tt
every next (Sched n) one = tt
every next (MailOf n) one = tt
every next (Caller zero) one = inl refl
every next (Caller (suc n)) one = inr (omega (arith, one))

pub whole_of : (g : Settings) (actors : List Actor) (next : ℕ) → next ≡ 1 → HoldsRest g actors next → IsWhole g actors
whole_of g actors next one holds a ranged = holds.rest a ranged (every next a one)

-- who holds every actor has given none away
pub holds_all : (g : Settings) (actors : List Actor) → 0 < g.callers → IsWhole g actors → HoldsRest g actors 1
holds_all g actors some whole = record {
  some = omega arith;
  most = omega (arith, some);
  rest = λ a ranged unseated. whole a ranged;
  given = λ n some few. absurd (omega (arith, some, few));
}

-- the two ways are one
no_seats : (g : Settings) → beside_seats g 1 ≡ alone g
no_seats g =
    fun_ext (λ (parts : List Actor). fun_ext (λ (allows : Step). fun_ext (λ (h : List Entry). fun_ext (λ (m : List Entry). ap (allows (state g h)) (none_given m)))))

-- so a call of a world without seats is that of one thread, whatever it is made of
pub lone : (old : Seen) (h : List Entry) (call : Way → Growth) → Grows (call (way_of old)) old.history h → old.next ≡ 1
    → Grows (call (alone old.settings)) old.history h
lone old h call grows one =
    subst (λ (way : Way). Grows (call way) old.history h) (ap (λ (n : ℕ). beside_seats old.settings n) one ∙ no_seats old.settings) grows

pub went : (old new : Seen) (call : Way → Growth) → Grows (call (way_of old)) old.history new.history → Legal new.settings new.history
    → new.table ≡ old.table → new.settings ≡ old.settings → new.clock ≡ old.clock → new.next ≡ old.next → TurnsGrow old.turns new.turns → Goes old call new
went old new call grows legal table settings clock next turns = record {
  grows = grows;
  lone = lone old new.history call grows;
  legal = legal;
  table = table;
  settings = settings;
  clock = clock;
  next = next;
  turns = turns;
}

-- a chain that a world made is a call
pub goes_on : (old new : Seen) (call : Way → Growth) → Grows (call (way_of old)) old.history new.history → Legal new.settings new.history → Stays old new
    → Goes old call new
goes_on old new call grows legal stays = went old new call grows legal stays.table stays.settings stays.clock stays.next stays.turns

-- and each call that loses rows at most and forgets what it cancelled leaves what every step leaves
pub stays_by : {old new : Seen} {call : Way → Growth} → Goes old call new → LoseRows old new → ForgetsCancelled old new → Stays old new
stays_by goes rows forgotten = record {
  table = goes.table;
  settings = goes.settings;
  next = goes.next;
  clock = goes.clock;
  turns = goes.turns;
  rows = rows;
  forgotten = forgotten;
}

pub rows_same : (old new : Seen) → new.wheels ≡ old.wheels → LoseRows old new
rows_same old new same =
    subst (λ (ws : List Part). (i : ℕ) (d : Part) → LosesRows (slice_index_or old.wheels i d) (slice_index_or ws i d)) (sym same)
    (λ i d. loses_none (slice_index_or old.wheels i d))

pub stays_same : {old new : Seen} {call : Way → Growth} → Goes old call new → new.wheels ≡ old.wheels → ForgetsCancelled old new → Stays old new
stays_same {old} {new} goes same forgotten = stays_by goes (rows_same old new same) forgotten
