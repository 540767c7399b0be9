-- A scheduler advances its wheel: its own part and the wheel's come back, and the count fits.

use Rattle.std.proofs.Common.{◌≡◌, ℕ, ◌+◌, ◌-◌, ◌<◌, ◌≤◌, Bool, true, false, cond, List, [], ◌∷◌, ◌++◌, length, slice_index_or, Some, None, Result, Ok, Err, inl, inr, refl, sym, ap, subst, ◌∙◌, arith, length-append}
use Rattle.std.specs.Prelude.{slice_set}
use Rattle.ert_effects.specs.{Chains.AdvancesWheel, WheelCalls.Advances}
use Rattle.ert_defs.specs.{States.{State, next, state}, Timers.Row, declared.entry.Actor.TheVariants.{Wheel, Sched}, declared.entry.Entry.Entry, declared.memory.NoMemory.NoMemory, declared.settings.Settings.Settings}
use Rattle.ert_table.specs.{Calls.{AreOnlyOf, IsMade}, Desks.{settings_of, view_of, front_of, Belongs}, Held.is_held, declared.desk.Desk.Desk, declared.desk.Pass.Pass}
use Rattle.ert_timers.proofs.{LawsHold.advances_only, SchedParts.{LeaveHand, advance_still, advances_leave, difference, hand_stays}}
use Rattle.ert_timers.specs.{Expiring.{HasExpired, HasNotExpired}, Trying.expired_after, Parts.{Part, PartStands as WheelStands}, Passed.LosesRows, SchedParts.SchedStands, declared.sched_part.SchedPart.SchedPart}
use Rattle.ert_world.proofs.{Armed.AreCalm, Calls.{Has, Does, parts_in, finish, schedulers_at}, Returned.{wheel_back, sched_back}, SchedCalls.{Had, had, now_stands}, WheelCalls.{advances_calm, wheel_named}, Tidying.{lost_hold, one_holds}}
use Rattle.ert_world.specs.{Parts.AllParts, Worlds.Seen, declared.world.World.TheInside.Inside}

-- what is told of the entries of an advance: they are of the scheduler, with its wheel, cancel nothing and leave the hand
pub record AreOfAdvance (w : ℕ) (es : List Entry) : Type 0 where
  pub only : AreOnlyOf (Sched w ∷ (Wheel w ∷ [])) es
  pub calm : AreCalm es
  pub leave : LeaveHand es

pub advances_are : (g : Settings) (w : ℕ) (answer : Result (ℕ × ℕ) NoMemory) (s : State) (es : List Entry) → Advances g w answer s es
    → AreOfAdvance w es
advances_are g w answer s es advances = record {
  only = advances_only g w answer s es advances;
  calm = advances_calm g w answer s es advances;
  leave = advances_leave g w answer s es advances;
}

-- the wheel was advanced, and the scheduler has these expired timers
pub advanced : (before : Seen) (b : Inside) (d : Desk) (q : Pass) (i : ℕ) (old new : Part) (part x : SchedPart) (allows : Settings → ℕ → State → List Entry → Type 0)
    → Has before b d → Belongs d q → i < before.settings.schedulers → old ≡ slice_index_or b.wheels.items i old
    → part ≡ slice_index_or b.scheds.items i part → new.number ≡ old.number → WheelStands (settings_of d) (front_of q) new
    → LosesRows old new
    → ((s : State) (es : List Entry) → allows (settings_of d) i s es → AreOfAdvance i es)
    → IsMade (settings_of d) (view_of b.pass) (allows (settings_of d) old.number) (view_of q)
    → x.wheel ≡ part.wheel → x.hand ≡ part.hand
    → (x.expired.rows ≡ ((state (settings_of d) (front_of q)).scheds old.number).expired)
    → Does before d q b.next (record (parts_in b) { wheels = slice_set b.wheels.items i new; scheds = slice_set b.scheds.items i x })
    (λ w way. way (Wheel i ∷ []) (allows w.settings i))
advanced before b d q i old new part x allows has belongs low lent lent_part named stands loses are made_w wheel hand rows =
    let g : Settings = settings_of d in
    let s : State = state g (front_of b.pass) in
    let below : i < g.schedulers = schedulers_at has i low in
    let one : old.number ≡ i = wheel_named g (front_of b.pass) [] (parts_in b) i old has.fit.stand below lent in
    let was : Had b d i part = had before b d i part has low lent_part in
    let at : x.wheel ≡ i = wheel ∙ was.wheel in
    let made : IsMade g (view_of b.pass) (allows g i) (view_of q) =
    subst (λ n. IsMade g (view_of b.pass) (allows g n) (view_of q)) one made_w in
    let of_advance : AreOfAdvance i made.entries = are s made.entries made.allowed in
    let kept = hand_stays g i made.entries (view_of b.pass) (view_of q) (has.fit.holds.rest (Sched i) below tt) made.call of_advance.leave in
    let now : SchedStands g (front_of q) x =
    now_stands before b d q i x ((state g (front_of q)).scheds i) has low at refl (hand ∙ (was.hand ∙ sym kept))
    (rows ∙ ap (λ n. ((state g (front_of q)).scheds n).expired) one) in
    let back : AllParts = record (parts_in b) { scheds = slice_set b.scheds.items i x } in
    finish before b d q (record back { wheels = slice_set b.wheels.items i new }) made.entries (Sched i ∷ (Wheel i ∷ []))
    (λ w way. way (Wheel i ∷ []) (allows w.settings i)) has refl belongs made.call of_advance.only of_advance.calm (refl, (refl, tt))
    (λ stand. wheel_back g (front_of q) [] back i new below (named ∙ one) stands (sched_back g (front_of q) (Wheel i ∷ []) (parts_in b) i x below at now stand))
    (λ m grown own. subst (allows g i s) (sym own) made.allowed)
    (λ alone. one_holds (state g (front_of q)) b.wheels.items i old new (rw has.fit.stand.wheels.counted below) lent (lost_hold (state g (front_of q)) old new loses)) refl

-- one of which so many timers expired, with their count
pub counted : (before : Seen) (b : Inside) (d : Desk) (q : Pass) (i n m : ℕ) (gained : List Row) (old new : Part) (part x : SchedPart)
    (allows : ℕ → Settings → ℕ → State → List Entry → Type 0)
    → Has before b d → Belongs d q → i < before.settings.schedulers → old ≡ slice_index_or b.wheels.items i old
    → part ≡ slice_index_or b.scheds.items i part → new.number ≡ old.number → WheelStands (settings_of d) (front_of q) new
    → LosesRows old new
    → ((s : State) (es : List Entry) → allows (length gained) (settings_of d) i s es → AreOfAdvance i es)
    → IsMade (settings_of d) (view_of b.pass) (allows (length gained) (settings_of d) old.number) (view_of q)
    → x.expired.rows ≡ part.expired.rows ++ gained
    → expired_after (settings_of d) (front_of q) old.number ≡ expired_after (settings_of d) (front_of b.pass) old.number ++ gained
    → x.wheel ≡ part.wheel → x.hand ≡ part.hand → n ≡ length x.expired.rows → m ≡ length part.expired.rows
    → Does before d q b.next (record (parts_in b) { wheels = slice_set b.wheels.items i new; scheds = slice_set b.scheds.items i x })
    (λ w way. way (Wheel i ∷ []) (allows (n - m) w.settings i))
counted before b d q i n m gained old new part x allows has belongs low lent lent_part named stands loses are call expired waits wheel hand now was =
    let g : Settings = settings_of d in
    let one : old.number ≡ i = wheel_named g (front_of b.pass) [] (parts_in b) i old has.fit.stand (schedulers_at has i low) lent in
    let had_it : Had b d i part = had before b d i part has low lent_part in
    let count : n - m ≡ length gained = difference n m part.expired.rows gained (now ∙ ap (λ (l : List Row). length l) expired) was in
    subst (λ k. Does before d q b.next
    (record (parts_in b) { wheels = slice_set b.wheels.items i new; scheds = slice_set b.scheds.items i x })
    (λ w way. way (Wheel i ∷ []) (allows k w.settings i))) (sym count)
    (advanced before b d q i old new part x (allows (length gained)) has belongs low lent lent_part named stands loses are call wheel hand
    (expired ∙ (ap (λ l. l ++ gained) (had_it.expired ∙ ap (λ n. expired_after g (front_of b.pass) n) (sym one)) ∙ sym waits)))

-- an advance, with its count
pub advance_ok : (before : Seen) (b : Inside) (d : Desk) (q : Pass) (i to n m : ℕ) (old new : Part) (part x : SchedPart)
    → Has before b d → Belongs d q → i < before.settings.schedulers → old ≡ slice_index_or b.wheels.items i old
    → part ≡ slice_index_or b.scheds.items i part → new.number ≡ old.number → WheelStands (settings_of d) (front_of q) new
    → LosesRows old new
    → HasExpired (settings_of d) (view_of b.pass) old.number to part.expired x.expired (view_of q)
    → x.wheel ≡ part.wheel → x.hand ≡ part.hand → n ≡ length x.expired.rows → m ≡ length part.expired.rows
    → Does before d q b.next (record (parts_in b) { wheels = slice_set b.wheels.items i new; scheds = slice_set b.scheds.items i x })
    (λ w way. way (Wheel i ∷ []) (Advances w.settings i (Ok (to, n - m))))
advance_ok before b d q i to n m old new part x has belongs low lent lent_part named stands loses expired wheel hand now was =
    counted before b d q i n m expired.gained old new part x (λ k g i. Advances g i (Ok (to, k))) has belongs low lent lent_part named stands loses
    (λ s es made. advances_are (settings_of d) i (Ok (to, length expired.gained)) s es made) expired.call expired.expired expired.waits wheel hand now was

-- an advance without memory
pub advance_refused : (before : Seen) (b : Inside) (d : Desk) (q : Pass) (i : ℕ) (e : NoMemory) (old new : Part) (part x : SchedPart)
    → Has before b d → Belongs d q → i < before.settings.schedulers → old ≡ slice_index_or b.wheels.items i old
    → part ≡ slice_index_or b.scheds.items i part → new.number ≡ old.number → WheelStands (settings_of d) (front_of q) new
    → LosesRows old new
    → HasNotExpired (settings_of d) (view_of b.pass) old.number e part.expired x.expired (view_of q)
    → x.wheel ≡ part.wheel → x.hand ≡ part.hand
    → Does before d q b.next (record (parts_in b) { wheels = slice_set b.wheels.items i new; scheds = slice_set b.scheds.items i x })
    (λ w way. AdvancesWheel w.settings way i (Err e))
advance_refused before b d q i e old new part x has belongs low lent lent_part named stands loses refused wheel hand =
    let g : Settings = settings_of d in
    let below : i < g.schedulers = schedulers_at has i low in
    let one : old.number ≡ i = wheel_named g (front_of b.pass) [] (parts_in b) i old has.fit.stand below lent in
    let was : Had b d i part = had before b d i part has low lent_part in
    let held = subst (λ n. is_held (view_of b.pass).actors (Sched n) ≡ true) (sym one) (has.fit.holds.rest (Sched i) below tt) in
    advanced before b d q i old new part x (λ g i. Advances g i (Err e)) has belongs low lent lent_part named stands loses
    (λ s es made. advances_are g i (Err e) s es made) refused.call wheel hand
    (refused.expired ∙ (was.expired ∙ (ap (λ n. ((state g (front_of b.pass)).scheds n).expired) (sym one)
    ∙ sym (advance_still g old.number e (view_of b.pass) (view_of q) held refused.call))))
