-- The steps of a shard's scheduler on its wheel: an advance, and a sweep.

use Rattle.std.proofs.Common.{◌≡◌, ℕ, ◌+◌, ◌-◌, ◌<◌, ◌≤◌, true, arith, List, [], ◌∷◌, ◌++◌, length, Ok, Err, refl, sym, ap, subst, ◌∙◌}
use Rattle.ert_defs.specs.{States.{State, state}, Timers.Row, declared.entry.Actor.TheVariants.{Wheel, Sched, Caller}, declared.entry.Entry.Entry, declared.memory.NoMemory.NoMemory, declared.settings.Settings.Settings}
use Rattle.ert_defs.specs.{declared.settings.TheConstants.MOST_SLOTS}
use Rattle.ert_effects.specs.{Chains.{AdvancesWheel, SweepsWheel}, SomeCalls.{AdvancesSome, AdvancesWheelSome}, declared.answers.Left.Left, WheelCalls.{Advances, Sweeps, IsSwept}}
use Rattle.ert_laws.proofs.Few.{expired_few}
use Rattle.ert_world.specs.Stepping.{turns_same}
use Rattle.ert_shard.specs.{Turning.shard_expired, Shards.{Share, Owned, ShardParts}}
use Rattle.ert_shard.proofs.{Advancing.{AreOfTurn, all_are, some_are, hand_kept}, Home.{home_on, sweeps_home}, Kept.self_own, Called.{Did, Has, finish, losing}}
use Rattle.ert_table.specs.{Calls.IsMade, Desks.{settings_of, view_of, front_of, actors_of, Belongs}, Held.is_held, declared.desk.Desk.Desk, declared.desk.Pass.Pass}
use Rattle.ert_timers.proofs.{LawsHold.sweeps_only, SchedParts.{advance_still, difference}}
use Rattle.ert_timers.specs.{Expiring.{HasExpired, HasNotExpired}, Trying.{HasExpiredSome, HasRefusedSome, expired_after}, Parts.{Part, PartStands as WheelStands}, Passed.LosesRows, SchedParts.SchedStands}
use Rattle.ert_timers.specs.{declared.sched_part.SchedPart.SchedPart}
use Rattle.ert_world.proofs.SchedCalls.{sched_stands}

-- what the scheduler's part has
pub record Had (d : Desk) (p : Pass) (s : Share) (part : SchedPart) : Type 0 where
  pub wheel : part.wheel ≡ s.number
  pub hand : part.hand ≡ ((state (settings_of d) (front_of p)).scheds s.number).hand
  pub expired : part.expired.rows ≡ ((state (settings_of d) (front_of p)).scheds s.number).expired

pub had : {before : Owned} {d : Desk} {p : Pass} {s : Share} {parts : ShardParts} → Has before d p s parts → Had d p s parts.sched
had {before} {d} {p} {s} {parts} has =
    let g : Settings = settings_of d in
    let at = has.fit.stand.sched_is in
    let stands : SchedStands g (front_of p) parts.sched = has.fit.stand.sched refl in
    record {
      wheel = at;
      hand = stands.hand ∙ ap (λ m. ((state g (front_of p)).scheds m).hand) at;
      expired = stands.expired ∙ ap (λ m. ((state g (front_of p)).scheds m).expired) at;
    }

-- the wheel was advanced, and the scheduler has these expired timers
pub advanced : (before : Owned) (d : Desk) (p q : Pass) (s : Share) (parts : ShardParts) (new : Part) (x : SchedPart) (allows : Settings → ℕ → State → List Entry → Type 0)
    → Has before d p s parts → Belongs d q → new.number ≡ parts.wheel.number → WheelStands (settings_of d) (front_of q) new → LosesRows parts.wheel new
    → ((st : State) (es : List Entry) → allows (settings_of d) s.number st es → AreOfTurn s es)
    → IsMade (settings_of d) (view_of p) (allows (settings_of d) parts.wheel.number) (view_of q)
    → x.wheel ≡ parts.sched.wheel → x.hand ≡ parts.sched.hand
    → x.expired.rows ≡ ((state (settings_of d) (front_of q)).scheds parts.wheel.number).expired
    → Did before d q s (record parts { wheel = new; sched = x }) (λ o way. way (Wheel o.share.number ∷ []) (allows o.settings o.share.number))
advanced before d p q s parts new x allows has belongs named stands loses are made_w wheel hand rows =
    let g : Settings = settings_of d in
    let i : ℕ = s.number in
    let st : State = state g (front_of p) in
    let one : parts.wheel.number ≡ i = has.fit.stand.wheel_is in
    let was : Had d p s parts.sched = had has in
    let at : x.wheel ≡ i = wheel ∙ was.wheel in
    let made : IsMade g (view_of p) (allows g i) (view_of q) = subst (λ n. IsMade g (view_of p) (allows g n) (view_of q)) one made_w in
    let held : is_held (actors_of p) (Sched i) ≡ true = has.fit.holds.own (Sched i) has.fit.holds.low ∙ self_own i in
    let of_turn : AreOfTurn s made.entries = are st made.entries made.allowed in
    let kept = hand_kept g i made.entries (view_of p) (view_of q) held made.call of_turn.leave in
    let below : x.wheel < g.schedulers = rw at has.fit.holds.low in
    let now : SchedStands g (front_of q) x =
    sched_stands g (front_of q) x ((state g (front_of q)).scheds i) below (ap (λ n. (state g (front_of q)).scheds n) at)
    (hand ∙ (was.hand ∙ sym kept)) (rows ∙ ap (λ n. ((state g (front_of q)).scheds n).expired) one) in
    losing has loses (finish before d p q s parts (record parts { wheel = new; sched = x }) made.entries (Sched i ∷ (Wheel i ∷ []))
    (λ o way. way (Wheel o.share.number ∷ []) (allows o.settings o.share.number)) has (turns_same parts.list) belongs made.call of_turn.only (self_own i, (self_own i, tt))
    (home_on g (view_of p) made.entries (view_of q) s made.call has.fit.holds has.fit.home of_turn.home)
    (λ stand. record {
      legal = stand.legal;
      wheel_is = named ∙ one;
      wheel = λ apart. stands;
      inbox_is = stand.inbox_is;
      inbox = λ apart. stand.inbox refl;
      sched_is = at;
      sched = λ apart. now;
      mails = record { counted = stand.mails.counted; named = stand.mails.named; stand = λ j d low apart. stand.mails.stand j d low refl };
      listed = stand.listed;
    })
    (λ m grown own. subst (allows g i st) (sym own) made.allowed))

-- one of which so many timers expired, with their count
counted : (before : Owned) (d : Desk) (p q : Pass) (s : Share) (n m : ℕ) (gained : List Row) (parts : ShardParts) (new : Part) (x : SchedPart)
    (allows : ℕ → Settings → ℕ → State → List Entry → Type 0)
    → Has before d p s parts → Belongs d q → new.number ≡ parts.wheel.number → WheelStands (settings_of d) (front_of q) new → LosesRows parts.wheel new
    → ((st : State) (es : List Entry) → allows (length gained) (settings_of d) s.number st es → AreOfTurn s es)
    → IsMade (settings_of d) (view_of p) (allows (length gained) (settings_of d) parts.wheel.number) (view_of q)
    → x.expired.rows ≡ parts.sched.expired.rows ++ gained
    → expired_after (settings_of d) (front_of q) parts.wheel.number ≡ expired_after (settings_of d) (front_of p) parts.wheel.number ++ gained
    → x.wheel ≡ parts.sched.wheel → x.hand ≡ parts.sched.hand → n ≡ length x.expired.rows → m ≡ length parts.sched.expired.rows
    → Did before d q s (record parts { wheel = new; sched = x }) (λ o way. way (Wheel o.share.number ∷ []) (allows (n - m) o.settings o.share.number))
counted before d p q s n m gained parts new x allows has belongs named stands loses are call expired waits wheel hand now was =
    let g : Settings = settings_of d in
    let one : parts.wheel.number ≡ s.number = has.fit.stand.wheel_is in
    let had_it : Had d p s parts.sched = had has in
    let count : n - m ≡ length gained = difference n m parts.sched.expired.rows gained (now ∙ ap (λ (l : List Row). length l) expired) was in
    subst (λ k. Did before d q s (record parts { wheel = new; sched = x }) (λ o way. way (Wheel o.share.number ∷ []) (allows k o.settings o.share.number))) (sym count)
    (advanced before d p q s parts new x (allows (length gained)) has belongs named stands loses are call wheel hand
    (expired ∙ (ap (λ l. l ++ gained) (had_it.expired ∙ ap (λ n. expired_after g (front_of p) n) (sym one)) ∙ sym waits)))

-- an advance, with its count
pub advance_ok : (before : Owned) (d : Desk) (p q : Pass) (s : Share) (to n m : ℕ) (parts : ShardParts) (new : Part) (x : SchedPart)
    → Has before d p s parts → Belongs d q → new.number ≡ parts.wheel.number → WheelStands (settings_of d) (front_of q) new → LosesRows parts.wheel new
    → HasExpired (settings_of d) (view_of p) parts.wheel.number to parts.sched.expired x.expired (view_of q)
    → x.wheel ≡ parts.sched.wheel → x.hand ≡ parts.sched.hand → n ≡ length x.expired.rows → m ≡ length parts.sched.expired.rows
    → Did before d q s (record parts { wheel = new; sched = x }) (λ o way. AdvancesWheel o.settings way o.share.number (Ok (to, n - m)))
advance_ok before d p q s to n m parts new x has belongs named stands loses expired wheel hand now was =
    counted before d p q s n m expired.gained parts new x (λ k g i. Advances g i (Ok (to, k))) has belongs named stands loses
    (λ st es made. all_are s (settings_of d) (Ok (to, length expired.gained)) st es made) expired.call expired.expired expired.waits wheel hand now was

-- one with a bound
pub some_ok : (before : Owned) (d : Desk) (p q : Pass) (s : Share) (most to n m : ℕ) (left : Left) (parts : ShardParts) (new : Part) (x : SchedPart)
    → Has before d p s parts → Belongs d q → new.number ≡ parts.wheel.number → WheelStands (settings_of d) (front_of q) new → LosesRows parts.wheel new
    → HasExpiredSome (settings_of d) (view_of p) parts.wheel new most to left parts.sched.expired x.expired (view_of q)
    → x.wheel ≡ parts.sched.wheel → x.hand ≡ parts.sched.hand → n ≡ length x.expired.rows → m ≡ length parts.sched.expired.rows
    → Did before d q s (record parts { wheel = new; sched = x }) (λ o way. AdvancesWheelSome o.settings way o.share.number most (Ok (to, n - m, left)))
some_ok before d p q s most to n m left parts new x has belongs named stands loses expired wheel hand now was =
    counted before d p q s n m expired.gained parts new x (λ k g i. AdvancesSome g i most (Ok (to, k, left))) has belongs named stands loses
    (λ st es made. some_are s (settings_of d) most (Ok (to, length expired.gained, left)) st es made) expired.call expired.expired expired.waits wheel hand now was

-- one without memory leaves the list
unmoved : (before : Owned) (d : Desk) (p q : Pass) (s : Share) (e : NoMemory) (parts : ShardParts) (x : SchedPart) → Has before d p s parts
    → IsMade (settings_of d) (view_of p) (Advances (settings_of d) parts.wheel.number (Err e)) (view_of q) → x.expired.rows ≡ parts.sched.expired.rows
    → x.expired.rows ≡ ((state (settings_of d) (front_of q)).scheds parts.wheel.number).expired
unmoved before d p q s e parts x has call expired =
    let g : Settings = settings_of d in
    let one : parts.wheel.number ≡ s.number = has.fit.stand.wheel_is in
    let was : Had d p s parts.sched = had has in
    let held : is_held (actors_of p) (Sched s.number) ≡ true = has.fit.holds.own (Sched s.number) has.fit.holds.low ∙ self_own s.number in
    expired ∙ (was.expired ∙ (ap (λ n. ((state g (front_of p)).scheds n).expired) (sym one)
    ∙ sym (advance_still g parts.wheel.number e (view_of p) (view_of q) (subst (λ n. is_held (view_of p).actors (Sched n) ≡ true) (sym one) held) call)))

-- an advance without memory
pub advance_refused : (before : Owned) (d : Desk) (p q : Pass) (s : Share) (e : NoMemory) (parts : ShardParts) (new : Part) (x : SchedPart)
    → Has before d p s parts → Belongs d q → new.number ≡ parts.wheel.number → WheelStands (settings_of d) (front_of q) new → LosesRows parts.wheel new
    → HasNotExpired (settings_of d) (view_of p) parts.wheel.number e parts.sched.expired x.expired (view_of q)
    → x.wheel ≡ parts.sched.wheel → x.hand ≡ parts.sched.hand
    → Did before d q s (record parts { wheel = new; sched = x }) (λ o way. AdvancesWheel o.settings way o.share.number (Err e))
advance_refused before d p q s e parts new x has belongs named stands loses refused wheel hand =
    advanced before d p q s parts new x (λ g i. Advances g i (Err e)) has belongs named stands loses
    (λ st es made. all_are s (settings_of d) (Err e) st es made) refused.call wheel hand (unmoved before d p q s e parts x has refused.call refused.expired)

-- one with a bound
pub some_refused : (before : Owned) (d : Desk) (p q : Pass) (s : Share) (most : ℕ) (e : NoMemory) (parts : ShardParts) (new : Part) (x : SchedPart)
    → Has before d p s parts → Belongs d q → new.number ≡ parts.wheel.number → WheelStands (settings_of d) (front_of q) new → LosesRows parts.wheel new
    → HasRefusedSome (settings_of d) (view_of p) parts.wheel.number most e parts.sched.expired x.expired (view_of q)
    → x.wheel ≡ parts.sched.wheel → x.hand ≡ parts.sched.hand
    → Did before d q s (record parts { wheel = new; sched = x }) (λ o way. AdvancesWheelSome o.settings way o.share.number most (Err e))
some_refused before d p q s most e parts new x has belongs named stands loses refused wheel hand =
    advanced before d p q s parts new x (λ g i. AdvancesSome g i most (Err e)) has belongs named stands loses
    (λ st es made. some_are s (settings_of d) most (Err e) st es made) refused.call wheel hand
    (unmoved before d p q s e parts x has (record { entries = refused.call.entries; allowed = refused.call.allowed; call = refused.call.call }) refused.expired)

-- the expired timers of a shard are few
pub few : (before : Owned) (d : Desk) (p : Pass) (s : Share) (parts : ShardParts) → Has before d p s parts → length (shard_expired before) ≤ MOST_SLOTS
few before d p s parts has =
    let g : Settings = settings_of d in
    let low : length ((state g (front_of p)).scheds s.number).expired ≤ g.slots = expired_few g (front_of p) s.number has.fit.stand.legal in
    let high : g.slots ≤ MOST_SLOTS = d.checked.counts.slots_high in
    subst (λ (o : Owned). length (shard_expired o) ≤ MOST_SLOTS) has.is (omega (arith, low, high))

-- the shard's wheel was swept for a process
pub sweep_called : (before : Owned) (d : Desk) (p q : Pass) (s : Share) (parts : ShardParts) (process : ℕ) (new : Part) → Has before d p s parts → Belongs d q
    → new.number ≡ parts.wheel.number → WheelStands (settings_of d) (front_of q) new → LosesRows parts.wheel new
    → IsMade (settings_of d) (view_of p) (Sweeps (settings_of d) (s.number + 1) parts.wheel.number process) (view_of q)
    → IsSwept (state (settings_of d) (front_of q)) parts.wheel.number process
    → Did before d q s (record parts { wheel = new }) (λ o way. SweepsWheel o.settings way (o.share.number + 1) process o.share.number)
sweep_called before d p q s parts process new has belongs named stands loses made_w swept_w =
    let g : Settings = settings_of d in
    let n : ℕ = s.number in
    let st : State = state g (front_of p) in
    let one : parts.wheel.number ≡ n = has.fit.stand.wheel_is in
    let made : IsMade g (view_of p) (Sweeps g (n + 1) n process) (view_of q) = subst (λ i. IsMade g (view_of p) (Sweeps g (n + 1) i process) (view_of q)) one made_w in
    let swept : IsSwept (state g (front_of q)) n process = subst (λ i. IsSwept (state g (front_of q)) i process) one swept_w in
    let only = sweeps_only g (n + 1) n process st made.entries made.allowed in
    losing has loses (finish before d p q s parts (record parts { wheel = new }) made.entries (Caller (n + 1) ∷ (Wheel n ∷ []))
    (λ o way. SweepsWheel o.settings way (o.share.number + 1) process o.share.number) has (turns_same parts.list) belongs made.call only (self_own (n + 1), (self_own n, tt))
    (home_on g (view_of p) made.entries (view_of q) s made.call has.fit.holds has.fit.home (sweeps_home s g (n + 1) n process st made.entries made.allowed))
    (λ stand. record {
      legal = stand.legal;
      wheel_is = named ∙ one;
      wheel = λ apart. stands;
      inbox_is = stand.inbox_is;
      inbox = λ apart. stand.inbox refl;
      sched_is = stand.sched_is;
      sched = λ apart. stand.sched refl;
      mails = record { counted = stand.mails.counted; named = stand.mails.named; stand = λ j d low apart. stand.mails.stand j d low refl };
      listed = stand.listed;
    })
    (λ m grown own. record {
      steps = subst (Sweeps g (n + 1) n process st) (sym own) made.allowed;
      swept = subst (λ h. IsSwept (state g h) n process) grown swept;
    }))
