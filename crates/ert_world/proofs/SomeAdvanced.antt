-- A scheduler advances its wheel, but tries so many timers at most.

use Rattle.std.proofs.Common.{◌≡◌, ℕ, ◌-◌, ◌<◌, true, List, [], ◌∷◌, ◌++◌, length, slice_index_or, Result, Ok, Err, refl, sym, ap, subst, ◌∙◌, arith, append-nil}
use Rattle.std.specs.Prelude.{slice_set}
use Rattle.ert_defs.specs.{Entries.{look_entry, advanced_entry}, States.{State, state}, declared.entry.Actor.Actor, declared.entry.Actor.TheVariants.{Wheel, Sched}, declared.entry.Entry.Entry, declared.memory.NoMemory.NoMemory}
use Rattle.ert_defs.specs.{declared.settings.Settings.Settings}
use Rattle.ert_effects.specs.{SomeCalls.{AdvancesSome, HasAdvancedSome}, WheelCalls.{Advances, expiry_entries}, declared.answers.Left.Left, declared.answers.Left.TheVariants.{Nothing, Due, Moving}}
use Rattle.ert_table.specs.{Calls.AreOnlyOf, Desks.{settings_of, view_of, front_of, Belongs}, Held.is_held, declared.desk.Desk.Desk, declared.desk.Pass.Pass}
use Rattle.ert_timers.proofs.{Passing.rows_lost, SchedParts.{LeaveHand, advance_still}}
use Rattle.ert_timers.specs.{Parts.{Part, PartStands as WheelStands}, Passed.LosesRows, Trying.{HasExpiredSome, HasRefusedSome, IsLeft, LosesSome}, declared.sched_part.SchedPart.SchedPart}
use Rattle.ert_world.proofs.{Advances.{AreOfAdvance, advances_are, advanced, counted}, Armed.AreCalm, Calls.{Has, Does, parts_in, schedulers_at}, NextDue.part_at, Returned.at_place, SchedCalls.{Had, had}, WheelCalls.wheel_named}
use Rattle.ert_world.specs.{Bounded.LosesSomeAt, Held.HoldsFewer, Worlds.{Seen, LoseRows}, declared.world.World.TheInside.Inside}

-- its entries are the first of an advance: of all, or but for the record
record IsFront (g : Settings) (w to expired : ℕ) (s : State) (es : List Entry) : Type 0 where
  rest : List Entry
  whole : Advances g w (Ok (to, expired)) s (es ++ rest)

is_front : (g : Settings) (w most to expired : ℕ) (left : Left) (s : State) (es : List Entry) → HasAdvancedSome g w most (to, expired, left) s es
    → IsFront g w to expired s es
is_front g w most to expired Nothing s es some = record {
  rest = [];
  whole = record {
    now = some.now;
    tries = some.tries;
    expired = some.expired;
    settled = some.settled;
    due = some.due;
    once = some.once;
    entries = append-nil es ∙ some.entries;
  };
}
is_front g w most to expired Due s es some = record {
  rest = advanced_entry w to ∷ [];
  whole = record {
    now = some.now;
    tries = some.tries;
    expired = some.expired;
    settled = some.settled;
    due = some.due;
    once = some.once;
    entries = ap (λ l. l ++ advanced_entry w to ∷ []) some.entries
        ∙ ap (λ l. look_entry (Sched w) some.now ∷ (l ++ advanced_entry w to ∷ [])) (append-nil (expiry_entries w some.tries));
  };
}
is_front g w most to expired Moving s es some = record {
  rest = advanced_entry w to ∷ [];
  whole = record {
    now = some.now;
    tries = some.tries;
    expired = some.expired;
    settled = some.settled;
    due = some.due;
    once = some.once;
    entries = ap (λ l. l ++ advanced_entry w to ∷ []) some.entries
        ∙ ap (λ l. look_entry (Sched w) some.now ∷ (l ++ advanced_entry w to ∷ [])) (append-nil (expiry_entries w some.tries));
  };
}

front_only : (actors : List Actor) (es fs : List Entry) → AreOnlyOf actors (es ++ fs) → AreOnlyOf actors es
front_only actors [] fs all = tt
front_only actors (e ∷ es) fs all = (all.0, front_only actors es fs all.1)

front_calm : (es fs : List Entry) → AreCalm (es ++ fs) → AreCalm es
front_calm [] fs all = tt
front_calm (e ∷ es) fs all = (all.0, front_calm es fs all.1)

front_leaves : (es fs : List Entry) → LeaveHand (es ++ fs) → LeaveHand es
front_leaves [] fs all = tt
front_leaves (e ∷ es) fs all = (all.0, front_leaves es fs all.1)

some_are : (g : Settings) (w most : ℕ) (answer : Result (ℕ × ℕ × Left) NoMemory) (s : State) (es : List Entry) → AdvancesSome g w most answer s es
    → AreOfAdvance w es
some_are g w most (Ok (to, expired, left)) s es some =
    let front : IsFront g w to expired s es = is_front g w most to expired left s es some in
    let all = advances_are g w (Ok (to, expired)) s (es ++ front.rest) front.whole in
    record {
      only = front_only (Sched w ∷ (Wheel w ∷ [])) es front.rest all.only;
      calm = front_calm es front.rest all.calm;
      leave = front_leaves es front.rest all.leave;
    }
some_are g w most (Err e) s es some = advances_are g w (Err e) s es some

-- an advance with a bound, with its count
pub some_ok : (before : Seen) (b : Inside) (d : Desk) (q : Pass) (i most to n m : ℕ) (left : Left) (old new : Part) (part x : SchedPart)
    → Has before b d → Belongs d q → i < before.settings.schedulers → old ≡ slice_index_or b.wheels.items i old
    → part ≡ slice_index_or b.scheds.items i part → new.number ≡ old.number → WheelStands (settings_of d) (front_of q) new
    → LosesRows old new
    → HasExpiredSome (settings_of d) (view_of b.pass) old new most to left part.expired x.expired (view_of q)
    → x.wheel ≡ part.wheel → x.hand ≡ part.hand → n ≡ length x.expired.rows → m ≡ length part.expired.rows
    → Does before d q b.next (record (parts_in b) { wheels = slice_set b.wheels.items i new; scheds = slice_set b.scheds.items i x })
    (λ w way. way (Wheel i ∷ []) (AdvancesSome w.settings i most (Ok (to, n - m, left))))
some_ok before b d q i most to n m left old new part x has belongs low lent lent_part named stands loses expired wheel hand now was =
    counted before b d q i n m expired.gained old new part x (λ k g i. AdvancesSome g i most (Ok (to, k, left))) has belongs low lent lent_part named stands loses
    (λ s es made. some_are (settings_of d) i most (Ok (to, length expired.gained, left)) s es made) expired.call expired.expired expired.waits wheel hand now was

-- one without memory
pub some_refused : (before : Seen) (b : Inside) (d : Desk) (q : Pass) (i most : ℕ) (e : NoMemory) (old new : Part) (part x : SchedPart)
    → Has before b d → Belongs d q → i < before.settings.schedulers → old ≡ slice_index_or b.wheels.items i old
    → part ≡ slice_index_or b.scheds.items i part → new.number ≡ old.number → WheelStands (settings_of d) (front_of q) new
    → LosesRows old new
    → HasRefusedSome (settings_of d) (view_of b.pass) old.number most e part.expired x.expired (view_of q)
    → x.wheel ≡ part.wheel → x.hand ≡ part.hand
    → Does before d q b.next (record (parts_in b) { wheels = slice_set b.wheels.items i new; scheds = slice_set b.scheds.items i x })
    (λ w way. way (Wheel i ∷ []) (AdvancesSome w.settings i most (Err e)))
some_refused before b d q i most e old new part x has belongs low lent lent_part named stands loses refused wheel hand =
    let g : Settings = settings_of d in
    let below : i < g.schedulers = schedulers_at has i low in
    let one : old.number ≡ i = wheel_named g (front_of b.pass) [] (parts_in b) i old has.fit.stand below lent in
    let was : Had b d i part = had before b d i part has low lent_part in
    let held : is_held (view_of b.pass).actors (Sched old.number) ≡ true = rw one (has.fit.holds.rest (Sched i) below tt) in
    advanced before b d q i old new part x (λ g i. AdvancesSome g i most (Err e)) has belongs low lent lent_part named stands loses
    (λ s es made. some_are g i most (Err e) s es made) refused.call wheel hand
    (refused.expired ∙ (was.expired ∙ (ap (λ n. ((state g (front_of b.pass)).scheds n).expired) (sym one)
    ∙ sym (advance_still g old.number e (view_of b.pass) (view_of q) held
    (record { entries = refused.call.entries; allowed = refused.call.allowed; call = refused.call.call })))))

-- what is left in a wheel that was replaced
pub replaced_left : {before : Seen} (b : Inside) (d : Desk) (i to : ℕ) (left : Left) (new : Part) → Has before b d → i < before.settings.schedulers
    → IsLeft new to left → (x : Part) → IsLeft (slice_index_or (slice_set b.wheels.items i new) i x) to left
replaced_left b d i to left new has low told x =
    at_place (λ (y : Part). IsLeft y to left) b.wheels.items i i new x (rw has.fit.stand.wheels.counted (schedulers_at has i low)) (λ one. told) (λ other. absurd (other refl))

-- it has lost as many rows as the part that was put back
pub replaced_loses : (before : Seen) (b : Inside) (d : Desk) (i most : ℕ) (left : Left) (old new : Part) → Has before b d → i < before.settings.schedulers
    → old ≡ slice_index_or b.wheels.items i old → LosesSome left most old new
    → (x : Part) → LosesSome left most (slice_index_or before.wheels i x) (slice_index_or (slice_set b.wheels.items i new) i x)
replaced_loses before b d i most left old new has low lent loses x =
    subst (λ (w : Seen). LosesSome left most (slice_index_or w.wheels i x) (slice_index_or (slice_set b.wheels.items i new) i x)) has.is
    (at_place (λ (y : Part). LosesSome left most (slice_index_or b.wheels.items i x) y) b.wheels.items i i new x
    (rw has.fit.stand.wheels.counted (schedulers_at has i low))
    (λ one. subst (λ (p : Part). LosesSome left most p new) (part_at before b d i old has low lent x) loses) (λ other. absurd (other refl)))

-- and where rows go before it and after it, it holds at least so many fewer
pub fewer_through : (a b c d : Seen) (i most : ℕ) → LoseRows a b → LosesSomeAt b c i Due most → LoseRows c d → HoldsFewer a d i most
fewer_through a b c d i most before loses after x =
    omega (
      arith,
      rows_lost (slice_index_or a.wheels i x) (slice_index_or b.wheels i x) (before i x),
      loses x,
      rows_lost (slice_index_or c.wheels i x) (slice_index_or d.wheels i x) (after i x),
    )
