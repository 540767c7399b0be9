-- All act at once: what the seats knew at the end, seen in the history of the world that was put together.

use Rattle.std.proofs.Common.{◌≡◌, ℕ, suc, ◌+◌, ◌<◌, All, List, [], ◌∷◌, length, slice_index_or, Ok, Vec, Global, sym, ap, subst, ◌∙◌, arith}
use Rattle.ert_effects.specs.{Ways.{Growth, Grows, Many, beside}, Chains.Turns}
use Rattle.ert_defs.specs.{Legal.Legal, declared.entry.Actor.Actor, declared.entry.Actor.TheVariants.{Caller, Sched}, declared.entry.Entry.Entry, declared.settings.Settings.Settings}
use Rattle.ert_ops.specs.{Races.{Race, lists_of, race_of}, declared.race.RaceLists.RaceLists, declared.op.Op.Op, Labels.Labels}
use Rattle.ert_program.proofs.{Makings.{made, makers}, Worked.{at_low, length_mapped}}
use Rattle.ert_program.specs.{Made.{MakesInStretch, MakesTurns}, Outcomes.{DoesList, DoLists, ActAtOnce}, Lists.{did_of, dids_of}, Worked.{list_at, ListsDone, TurnsDone}, declared.races.list.ListDone.ListDone}
use Rattle.ert_service.specs.Joining.{HasOwn}
use Rattle.ert_table.proofs.Parts.{free_later}
use Rattle.ert_table.specs.Views.{Begins}

-- a call that an actor's seat tells is made in the history
own_made : (a : Actor) (call : Growth) (f front h : List Entry) (longer : Begins f h) → Grows call f front → HasOwn a front h → MakesInStretch a call f longer.later
own_made a call f front h longer grows own =
    made a call f front h longer.later own.begins.later grows own.begins.grown (free_later a front h own.begins own.own) longer.grown

at_none : (k : ℕ) → k + 0 ≡ k
at_none k = omega arith

at_more : (k i : ℕ) → k + suc i ≡ suc k + i
at_more k i = omega arith

-- each list is done, told one after the other
in_order : (g : Settings) (labels : Labels) (k : ℕ) (lists : List (List Op)) (dones : List ListDone) (f m : List Entry) → length dones ≡ length lists
    → ((i : ℕ) (d : ListDone) → i < length lists → DoesList g labels (k + i) (list_at lists i) (did_of (slice_index_or dones i d)) f m)
    → DoLists g labels k lists (dids_of dones) f m
in_order g labels k [] [] f m same each = tt
in_order g labels k [] (d ∷ dones) f m same each = absurd (omega (arith, same))
in_order g labels k (ops ∷ lists) [] f m same each = absurd (omega (arith, same))
in_order g labels k (ops ∷ lists) (d ∷ dones) f m same each = (
  subst (λ n. DoesList g labels n ops (did_of d) f m) (at_none k) (each 0 d (omega arith)),
  in_order g labels (suc k) lists dones f m (omega (arith, same))
      (λ i e low. subst (λ n. DoesList g labels n (list_at lists i) (did_of (slice_index_or dones i e)) f m) (at_more k i) (each (suc i) e (omega (arith, low)))),
)

-- how many callers beside the first a race has
pub count_callers : (g : Settings) (r : RaceLists) → g.callers ≡ suc (length r.callers.items) → g.callers ≡ suc (length (race_of r).callers)
count_callers g r many = many ∙ ap (λ n. suc n) (sym (length_mapped (λ (ops : Vec Op Global). ops.items) r.callers.items))

module _ {S C : Type 0} (wheel : S → ℕ) (sched_front : S → List Entry) (number : C → ℕ) (caller_front : C → List Entry) (g : Settings) (labels : Labels) (race : Race) (f h : List Entry) (scheds : List S) (callers : List C) (dones : List ListDone) where
  pub at_once : Begins f h → Legal g h → g.callers ≡ suc (length race.callers)
      → TurnsDone wheel sched_front g race.turns f scheds → All (λ (s : S). HasOwn (Sched (wheel s)) (sched_front s) h) scheds
      → ListsDone number caller_front g labels (lists_of race) f callers dones → All (λ (s : C). HasOwn (Caller (number s)) (caller_front s) h) callers
      → Grows (ActAtOnce g labels race (dids_of dones)) f h
  at_once longer legal many turns sched_own lists caller_own = record {
    piece = longer.later;
    grown = longer.grown;
    made = record {
      done = in_order g labels 0 (lists_of race) dones f longer.later (lists.counted ∙ many) does;
      turned = turned;
      makers = makers g f longer.later (subst (λ l. Legal g l) longer.grown legal);
    };
  }
    where
      turned : (w : ℕ) → w < g.schedulers → MakesTurns g w race.turns f longer.later
      turned w low =
          let there : w < length scheds = omega (arith, low, turns.numbered.counted) in
          let x = at_low scheds w there in
          let t = turns.each w x.element low in
          let own = subst (λ n. HasOwn (Sched n) (sched_front (slice_index_or scheds w x.element)) h) (turns.numbered.each w x.element low)
          (sched_own w x.element there) in
          record {
            turns = t.turned;
            counted = t.counted;
            makes = own_made (Sched w) (Many (λ t. Turns g (beside g (Sched w)) w (Ok t)) t.turned) f (sched_front (slice_index_or scheds w x.element)) h longer t.grows own;
          }

      from_zero : (i : ℕ) → i ≡ 0 + i
      from_zero i = omega arith

      does : (i : ℕ) (d : ListDone) → i < length (lists_of race) → DoesList g labels (0 + i) (list_at (lists_of race) i) (did_of (slice_index_or dones i d)) f longer.later
      does i d low =
          let low_number : i < g.callers = omega (arith, low, many) in
          let there : i < length callers = omega (arith, low_number, lists.numbered.counted) in
          let x = at_low callers i there in
          let own = subst (λ n. HasOwn (Caller n) (caller_front (slice_index_or callers i x.element)) h) (lists.numbered.each i x.element low_number)
          (caller_own i x.element there) in
          subst (λ n. DoesList g labels n (list_at (lists_of race) i) (did_of (slice_index_or dones i d)) f longer.later) (from_zero i)
          (own_made (Caller i) _ f (caller_front (slice_index_or callers i x.element)) h longer (lists.each i x.element d low_number) own)
