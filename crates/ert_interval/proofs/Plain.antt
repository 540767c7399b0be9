-- The calls on intervals cancel no timer but by a stop, and ask nothing.

use Rattle.std.proofs.Common.{◌≡◌, ℕ, zero, suc, ℤ, Bool, true, false, cond, nat_lt, List, [], ◌∷◌, ◌++◌, Option, Some, None, Result, Ok, Err, refl, sym, ap, subst, ◌∙◌, inl, inr}
use Rattle.ert_effects.specs.{Chains.{HoldsRequest, HoldsBy, Serves, ServesMany, ServesAll, units, AdvancesWheel, Hands, HandsMany, Delivers, Turns, SweepsWheels, Exits}, ClockCalls.{RefusesTick, Ticks}, MailCalls.Takes, TimerCalls.Starts}
use Rattle.ert_effects.specs.{TimerCalls.Closes, WheelCalls.{Try, expires_by, expiry_entries, orphans_by, orphan_entries}, Ways.{alone, Many, Then}, declared.answers.Handed.Handed, declared.answers.Handed.TheVariants.{Put, Dropped}}
use Rattle.ert_effects.specs.{declared.answers.StartErr.StartErr, declared.answers.StartErr.TheVariants.{BadArg, Full, NoMemory}, declared.answers.Taken.Taken, declared.answers.Taken.TheVariants.{Mail, Empty, Exited}}
use Rattle.ert_effects.specs.{declared.answers.Turned.Turned}
use Rattle.ert_effects.proofs.Told.{round_probes}
use Rattle.ert_clock.specs.{Ticks.{act_of, tick_entries}, declared.clock.ClockErr.ClockErr, declared.clock.ClockErr.TheVariants.{BadReading, OffsetWide}, declared.clock.Moved.Moved}
use Rattle.ert_defs.specs.{Entries.pick_entry, Legal.LegalFrom, Mails.first_of, States.{State, state}, declared.entry.Act.Act, declared.entry.Entry.Entry, declared.entry.Event.Event, declared.entry.Event.TheVariants.{Cancel, Ask, Pick}}
use Rattle.ert_defs.specs.{declared.mail.Request.Request, declared.memory.NoMemory.NoMemory as OutOfMemory, declared.settings.Reading.Reading, declared.settings.Settings.Settings, declared.timer.Start.Start, declared.timer.Status.Status}
use Rattle.ert_defs.specs.{declared.timer.TimerRef.TimerRef}
use Rattle.ert_defs.proofs.Runs.{legal_first, legal_then, state-append}
use Rattle.ert_interval.specs.{Calls.{is_still, AreStill}, Intervals.HasNoRequests}
use Rattle.ert_interval.proofs.{Still.probes_still, Steps.{spares, AllSpare, asks, NoneAsks, idle_stays}}

-- whether an entry cancels no timer and is no request
abbrev pub is_plain : Event → Bool
is_plain (Cancel timer left) = false
is_plain (Ask wheel request) = false
is_plain (Pick wheel (Some request)) = false
is_plain _ = true

abbrev pub ArePlain : List Entry → Type 0
ArePlain [] = Unit {0}
ArePlain (e ∷ es) = (is_plain e.event ≡ true) × ArePlain es

plain_spare : (r : TimerRef) (event : Event) → is_plain event ≡ true → spares r event
plain_spare r (Cancel timer left) plain = absurd cc
plain_spare r _ plain = tt

pub plain_spares : (r : TimerRef) (es : List Entry) → ArePlain es → AllSpare r es
plain_spares r [] plain = tt
plain_spares r (e ∷ es) plain = (plain_spare r e.event plain.0, plain_spares r es plain.1)

plain_ask : (event : Event) → is_plain event ≡ true → asks event ≡ false
plain_ask (Ask wheel request) plain = absurd cc
plain_ask (Pick wheel (Some request)) plain = absurd cc
plain_ask (Pick wheel None) plain = refl
plain_ask _ plain = refl

pub plain_asks : (es : List Entry) → ArePlain es → NoneAsks es
plain_asks [] plain = tt
plain_asks (e ∷ es) plain = (plain_ask e.event plain.0, plain_asks es plain.1)

still_one : (event : Event) → is_still event ≡ true → is_plain event ≡ true
still_one (Cancel timer left) still = absurd cc
still_one (Ask wheel request) still = absurd cc
still_one (Pick wheel (Some request)) still = absurd cc
still_one (Pick wheel None) still = refl
still_one _ still = refl

pub still_plain : (es : List Entry) → AreStill es → ArePlain es
still_plain [] still = tt
still_plain (e ∷ es) still = (still_one e.event still.0, still_plain es still.1)

pub plain_append : (es fs : List Entry) → ArePlain es → ArePlain fs → ArePlain (es ++ fs)
plain_append [] fs one other = other
plain_append (e ∷ es) fs one other = (one.0, plain_append es fs one.1 other)

plain_as : (es fs : List Entry) → es ≡ fs → ArePlain fs → ArePlain es
plain_as es fs same plain = subst ArePlain (sym same) plain

closes_plain : (was : Bool) (by : ℕ) (timer : TimerRef) (es : List Entry) → Closes was by timer es → ArePlain es
closes_plain false by timer es closes = plain_as es [] closes tt
closes_plain true by timer es (inl is) = plain_as es _ is (refl, tt)
closes_plain true by timer es (inr missed) = plain_as es _ missed.entries (refl, tt)

pub starts_plain : (g : Settings) (by w : ℕ) (start : Start) (answer : Result TimerRef StartErr) (s : State) (es : List Entry)
    → Starts g by w start answer s es → ArePlain es
starts_plain g by w start (Ok timer) s es starts =
    plain_as es _ starts.entries (
      refl,
      plain_append starts.probes _ (still_plain starts.probes (probes_still _ w starts.probes starts.are_probes))
          (refl, (refl, closes_plain starts.was by timer starts.closing starts.closes)),
    )
starts_plain g by w start (Err BadArg) s es starts = plain_as es _ starts.entries (refl, tt)
starts_plain g by w start (Err Full) s es starts =
    plain_as es _ starts.entries (
      refl,
      elim starts.are_taken [
        | inl found ↦ still_plain starts.probes (probes_still _ w starts.probes (round_probes by w _ s found.0 starts.probes found.1))
        | inr many ↦ plain_as starts.probes [] many.1 tt
      ],
    )
starts_plain g by w start (Err NoMemory) s es (inl none) = plain_as es [] none tt
starts_plain g by w start (Err NoMemory) s es (inr probed) =
    plain_as es _ probed.entries (refl, still_plain probed.probes (probes_still _ w probed.probes probed.are_probes))

moves_plain : (by : ℕ) (r : Reading) (act : Act) (now : ℤ) (shift : Option ℤ) → ArePlain (tick_entries by r act now shift)
moves_plain by r act now None = (refl, tt)
moves_plain by r act now (Some offset) = (refl, (refl, tt))

refused_plain : (g : Settings) (r : Reading) (act : Act) (e : ClockErr) (s : State) (es : List Entry) → RefusesTick g r act e s es → ArePlain es
refused_plain g r act BadReading s es refused = plain_as es [] refused.none tt
refused_plain g r act (OffsetWide value) s es refused = plain_as es [] refused.none tt

pub ticks_plain : (g : Settings) (by : ℕ) (r : Reading) (force : Bool) (answer : Result Moved ClockErr) (s : State) (es : List Entry)
    → Ticks g by r force answer s es → ArePlain es
ticks_plain g by r force (Ok m) s es ticks = plain_as es _ ticks.entries (moves_plain by r (act_of force) m.now m.shift)
ticks_plain g by r force (Err e) s es ticks = refused_plain g r (act_of force) e s es ticks

pub takes_plain : (g : Settings) (by process : ℕ) (answer : Taken) (s : State) (es : List Entry) → Takes g by process answer s es → ArePlain es
takes_plain g by process Exited s es takes = plain_as es _ takes (refl, tt)
takes_plain g by process Empty s es takes = plain_as es _ takes (refl, (refl, tt))
takes_plain g by process (Mail mail) s es takes = plain_as es _ takes (refl, (refl, tt))

orphans_plain : (by w : ℕ) (tries : List Try) → ArePlain (orphan_entries by w tries)
orphans_plain by w [] = tt
orphans_plain by w (t ∷ tries) = (one t.missed, orphans_plain by w tries)
  where
    one : (missed : Option (Option Status)) → is_plain (orphans_by by w t.timer missed).event ≡ true
    one None = refl
    one (Some found) = refl

expiries_plain : (w : ℕ) (tries : List Try) → ArePlain (expiry_entries w tries)
expiries_plain w [] = tt
expiries_plain w (t ∷ tries) = (one t.missed, expiries_plain w tries)
  where
    one : (missed : Option (Option Status)) → is_plain (expires_by w t.timer missed).event ≡ true
    one None = refl
    one (Some found) = refl

sweeps_plain : (g : Settings) (by p w n : ℕ) (h m : List Entry) → SweepsWheels g (alone g) by p w n h m → ArePlain m
sweeps_plain g by p w zero h m sweeps = plain_as m [] sweeps tt
sweeps_plain g by p w (suc n) h m sweeps =
    plain_as m _ sweeps.joined
    (plain_append sweeps.before sweeps.after (plain_as sweeps.before _ sweeps.one.steps.entries (orphans_plain by w sweeps.one.steps.tries))
    (sweeps_plain g by p (suc w) n (h ++ sweeps.before) sweeps.after sweeps.other))

pub exits_plain : (g : Settings) (p : ℕ) (answer : Bool) (h m : List Entry) → Exits g (alone g) 0 p answer h m → ArePlain m
exits_plain g p true h m exits =
    plain_as m _ exits.joined
    (plain_append exits.before exits.after (plain_as exits.before _ exits.one (refl, tt)) (sweeps_plain g 0 p 0 g.schedulers _ exits.after exits.other))
exits_plain g p false h m exits = plain_as m _ exits (refl, tt)

hands_plain : (g : Settings) (w : ℕ) (how : Result Handed OutOfMemory) (h m : List Entry) → Hands g (alone g) w how h m → ArePlain m
hands_plain g w (Ok Put) h m hands = plain_as m _ hands.step (refl, (refl, tt))
hands_plain g w (Ok Dropped) h m hands = plain_as m _ hands.step (refl, (refl, tt))
hands_plain g w (Err e) h m hands = plain_as m [] hands.step tt

many_plain : (g : Settings) (w : ℕ) (hows : List Handed) (h m : List Entry) → HandsMany g (alone g) w hows h m → ArePlain m
many_plain g w [] h m many = plain_as m [] many tt
many_plain g w (how ∷ hows) h m many =
    plain_as m _ many.joined
    (plain_append many.before many.after (hands_plain g w (Ok how) h many.before many.one) (many_plain g w hows _ many.after many.other))

delivers_plain : (g : Settings) (w : ℕ) (answer : Result (ℕ × ℕ) OutOfMemory) (h m : List Entry) → Delivers g (alone g) w answer h m → ArePlain m
delivers_plain g w (Ok answer) h m delivers = many_plain g w delivers.hows h m delivers.runs
delivers_plain g w (Err e) h m delivers =
    plain_as m _ delivers.runs.joined
    (plain_append delivers.runs.before delivers.runs.after (many_plain g w delivers.hows h delivers.runs.before delivers.runs.one)
    (hands_plain g w (Err e) _ delivers.runs.after delivers.runs.other))

advances_plain : (g : Settings) (w : ℕ) (answer : Result (ℕ × ℕ) OutOfMemory) (h m : List Entry) → AdvancesWheel g (alone g) w answer h m → ArePlain m
advances_plain g w (Ok answer) h m advances =
    plain_as m _ advances.entries (refl, plain_append _ _ (expiries_plain w advances.tries) (refl, tt))
advances_plain g w (Err e) h m (inl none) = plain_as m [] none tt
advances_plain g w (Err e) h m (inr look) = plain_as m _ look.1 (refl, tt)

-- with no request, nothing is held but by a pick that finds none
pub held_none : (g : Settings) (w : ℕ) (request : Request) (h m : List Entry) → HasNoRequests (state g h) → LegalFrom g (state g h) m
    → HoldsRequest g (alone g) w (Some request) h m → ⊥
held_none g w request h m idle legal holds =
    let hand : Option Request = ((state g h).scheds w).hand in
    let none : hand ≡ None = (idle w).1 in
    let picks : m ≡ pick_entry w (Some request) ∷ [] = subst (λ (x : Option Request). HoldsBy x (alone g) g w (Some request) h m) none holds in
    let one : LegalFrom g (state g h) (pick_entry w (Some request) ∷ []) = subst (LegalFrom g (state g h)) picks legal in
    let first : Some request ≡ None = one.0.known.1 ∙ ap first_of (idle w).0 in
    absurd cc

nothing_plain : (g : Settings) (w : ℕ) (h m : List Entry) → HasNoRequests (state g h) → HoldsRequest g (alone g) w None h m → ArePlain m
nothing_plain g w h m idle holds =
    let hand : Option Request = ((state g h).scheds w).hand in
    let none : hand ≡ None = (idle w).1 in
    let picks : m ≡ pick_entry w None ∷ [] = subst (λ (x : Option Request). HoldsBy x (alone g) g w None h m) none holds in
    plain_as m _ picks (refl, tt)

serves_plain : (g : Settings) (w : ℕ) (answer : Result Bool OutOfMemory) (h m : List Entry) → HasNoRequests (state g h) → LegalFrom g (state g h) m
    → Serves g (alone g) w answer h m → ArePlain m
serves_plain g w (Ok true) h m idle legal serves =
    absurd (held_none g w serves.request h serves.steps.before idle
    (legal_first g _ serves.steps.before serves.steps.after (subst (LegalFrom g (state g h)) serves.steps.joined legal)) serves.steps.one)
serves_plain g w (Ok false) h m idle legal serves = nothing_plain g w h m idle serves
serves_plain g w (Err e) h m idle legal serves =
    absurd (held_none g w serves.request h serves.steps.before idle
    (legal_first g _ serves.steps.before serves.steps.after (subst (LegalFrom g (state g h)) serves.steps.joined legal)) serves.steps.one)

-- of two calls the one after the other, the second where the first is plain
then_plain : (g : Settings) (h m before after : List Entry) → m ≡ before ++ after → HasNoRequests (state g h) → LegalFrom g (state g h) m
    → (LegalFrom g (state g h) before → ArePlain before)
    → (HasNoRequests (state g (h ++ before)) → LegalFrom g (state g (h ++ before)) after → ArePlain after) → ArePlain m
then_plain g h m before after joined idle legal one other =
    let legal_m : LegalFrom g (state g h) (before ++ after) = subst (LegalFrom g (state g h)) joined legal in
    let first = one (legal_first g _ before after legal_m) in
    let grown = sym (state-append g h before) in
    plain_as m _ joined (plain_append before after first
    (other (subst HasNoRequests grown (idle_stays g (state g h) before (plain_asks before first) idle))
    (subst (λ s. LegalFrom g s after) grown (legal_then g _ before after legal_m))))

served_plain : (g : Settings) (w : ℕ) (ones : List (Unit {0})) (h m : List Entry) → HasNoRequests (state g h) → LegalFrom g (state g h) m
    → Many (λ (one : Unit {0}). Serves g (alone g) w (Ok true)) ones h m → ArePlain m
served_plain g w [] h m idle legal many = plain_as m [] many tt
served_plain g w (one ∷ ones) h m idle legal many =
    then_plain g h m many.before many.after many.joined idle legal (λ l. serves_plain g w (Ok true) h many.before idle l many.one)
    (λ i l. served_plain g w ones (h ++ many.before) many.after i l many.other)

all_served : (g : Settings) (w n : ℕ) (b : Bool) (h m : List Entry) → HasNoRequests (state g h) → LegalFrom g (state g h) m
    → cond b (Then (ServesMany g (alone g) w n) (Serves g (alone g) w (Ok false)) h m) (ServesMany g (alone g) w n h m) → ArePlain m
all_served g w n true h m idle legal steps =
    then_plain g h m steps.before steps.after steps.joined idle legal (λ l. served_plain g w (units n) h steps.before idle l steps.one)
    (λ i l. serves_plain g w (Ok false) (h ++ steps.before) steps.after i l steps.other)
all_served g w n false h m idle legal steps = served_plain g w (units n) h m idle legal steps

serves_all_plain : (g : Settings) (w : ℕ) (answer : Result ℕ OutOfMemory) (h m : List Entry) → HasNoRequests (state g h) → LegalFrom g (state g h) m
    → ServesAll g (alone g) w answer h m → ArePlain m
serves_all_plain g w (Ok n) h m idle legal serves = all_served g w n (nat_lt n 64) h m idle legal serves.1
serves_all_plain g w (Err e) h m idle legal serves =
    let steps = serves.2 in
    then_plain g h m steps.before steps.after steps.joined idle legal (λ l. served_plain g w (units serves.0) h steps.before idle l steps.one)
    (λ i l. serves_plain g w (Err e) (h ++ steps.before) steps.after i l steps.other)

-- a turn with no request
pub turns_plain : (g : Settings) (w : ℕ) (answer : Result Turned OutOfMemory) (h m : List Entry) → HasNoRequests (state g h) → LegalFrom g (state g h) m
    → Turns g (alone g) w answer h m → ArePlain m
turns_plain g w (Ok t) h m idle legal turns =
    then_plain g h m turns.before turns.after turns.joined idle legal (λ l. serves_all_plain g w (Ok t.served) h turns.before idle l turns.one)
    (λ i l. plain_as turns.after _ turns.other.joined (plain_append _ _ (advances_plain g w (Ok (t.to, t.expired)) (h ++ turns.before) _ turns.other.one)
    (delivers_plain g w (Ok (t.put, t.dropped)) _ _ turns.other.other)))
turns_plain g w (Err e) h m idle legal (inl serves) = serves_all_plain g w (Err e) h m idle legal serves
turns_plain g w (Err e) h m idle legal (inr (inl advances)) =
    let steps = advances.1 in
    then_plain g h m steps.before steps.after steps.joined idle legal (λ l. serves_all_plain g w (Ok advances.0) h steps.before idle l steps.one)
    (λ i l. advances_plain g w (Err e) (h ++ steps.before) steps.after steps.other)
turns_plain g w (Err e) h m idle legal (inr (inr delivers)) =
    let steps = delivers.2 in
    then_plain g h m steps.before steps.after steps.joined idle legal (λ l. serves_all_plain g w (Ok delivers.0) h steps.before idle l steps.one)
    (λ i l. plain_as steps.after _ steps.other.joined (plain_append _ _ (advances_plain g w (Ok delivers.1) (h ++ steps.before) _ steps.other.one)
    (delivers_plain g w (Err e) _ _ steps.other.other)))
