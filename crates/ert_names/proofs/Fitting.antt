-- What the calls of a world of names record fits its rows.

use Rattle.std.proofs.Common.{◌≡◌, ◌≢◌, ℕ, zero, suc, ℤ, ◌<◌, ◌≤◌, Bool, true, false, cond, nat_lt, List, [], ◌∷◌, ◌++◌, Option, Some, None, Result, Ok, Err, inl, inr, refl, sym, subst, ◌∙◌, arith}
use Rattle.ert_effects.specs.{Chains.{HoldsBy, HoldsRequest, Serves, ServesMany, ServesAll, units, AdvancesWheel, Hands, HandsMany, Delivers, Turns, SweepsWheel, SweepsWheels, Exits}, ClockCalls.{RefusesTick, ActsOnReading}}
use Rattle.ert_effects.specs.{MailCalls.{HandsOver, Takes}, RequestCalls.{Answers, DoesAsked}, TimerCalls.{Reads, read_entries, Cancels, cancel_entries, Starts, AreProbes, Closes}, Ways.{Growth, Way, Then, Many, Grows, alone}}
use Rattle.ert_effects.specs.{WheelCalls.{Try, expires_by, expiry_entries, orphans_by, orphan_entries, TellsAlive, MarksExit}, declared.answers.Handed.Handed, declared.answers.Handed.TheVariants.{Put, Dropped}}
use Rattle.ert_effects.specs.{declared.answers.StartErr.StartErr, declared.answers.Taken.Taken, declared.answers.Taken.TheVariants.{Mail, Empty, Exited}, declared.answers.Turned.Turned}
use Rattle.ert_effects.proofs.Told.{round_probes}
use Rattle.ert_effects.specs.declared.answers.StartErr.TheVariants as starts
use Rattle.ert_clock.specs.{Ticks.tick_entries, declared.clock.ClockErr.ClockErr, declared.clock.ClockErr.TheVariants.{BadReading, OffsetWide}, declared.clock.Moved.Moved}
use Rattle.ert_defs.specs.{Legal.names_timer, States.{State, state}, Timers.Row, declared.entry.Act.Act, declared.entry.Actor.Actor, declared.entry.Actor.TheVariants.{Caller, Sched}, declared.entry.Entry.Entry, declared.entry.Event.Event}
use Rattle.ert_defs.specs.{declared.entry.Event.TheVariants.{Arm, Ask, Mark, Tell, Watch}, declared.mail.Request.Request, declared.mail.RequestKind.RequestKind, declared.mail.RequestKind.TheVariants.{Cancel as ToCancel, Read as ToRead}}
use Rattle.ert_defs.specs.{declared.memory.NoMemory.NoMemory as OutOfMemory, declared.settings.Reading.Reading, declared.settings.Settings.Settings, declared.timer.Kind.TheVariants.Wrapped, declared.timer.Start.Start}
use Rattle.ert_defs.specs.{declared.timer.Status.Status, declared.timer.TimerRef.TimerRef}
use Rattle.ert_names.specs.Fits.{EventFits, AllFit, FitsRows}
use Rattle.ert_world.specs.Worlds.{Seen, Goes, By}

pub fit_as : (n q : ℕ) (es fs : List Entry) → es ≡ fs → AllFit n q fs → AllFit n q es
fit_as n q es fs same fit = subst (AllFit n q) (sym same) fit

pub fit_append : (n q : ℕ) (es fs : List Entry) → AllFit n q es → AllFit n q fs → AllFit n q (es ++ fs)
fit_append n q [] fs one other = other
fit_append n q (e ∷ es) fs one other = (one.0, fit_append n q es fs one.1 other)

-- more rows
event_more : (n m q : ℕ) (event : Event) → n ≤ m → EventFits n q event → EventFits m q event
event_more n m q (Arm timer start) more fits = λ dest. (let is = fits dest in (is.0, (let low = is.1 in omega (arith, low, more))))
event_more n m q (Mark process exits was) more fits = fits
event_more n m q (Ask wheel request) more fits = fits
event_more n m q (Watch process monitor offset) more fits = fits
event_more n m q (Tell process offset) more fits = fits
event_more n m q _ more fits = tt

pub fit_more : (n m q : ℕ) (es : List Entry) → n ≤ m → AllFit n q es → AllFit m q es
fit_more n m q [] more fit = tt
fit_more n m q (e ∷ es) more fit = (event_more n m q e.event more fit.0, fit_more n m q es more fit.1)

-- a growth whose pieces fit, and spare a process
abbrev pub AreFitting : ℕ → ℕ → Growth → Type 0
AreFitting n q call = (h m : List Entry) → call h m → AllFit n q m

pub fit_grows : (n q : ℕ) (call : Growth) (f h : List Entry) → AreFitting n q call → AllFit n q f → Grows call f h → AllFit n q h
fit_grows n q call f h fitting fit grows = fit_as n q h _ grows.grown (fit_append n q f grows.piece fit (fitting f grows.piece grows.made))

pub then_fits : (n q : ℕ) (first second : Growth) → AreFitting n q first → AreFitting n q second → AreFitting n q (Then first second)
then_fits n q first second one other h m steps =
    fit_as n q m _ steps.joined
    (fit_append n q steps.before steps.after (one h steps.before steps.one) (other (h ++ steps.before) steps.after steps.other))

pub many_fits : {A : Type 0} (n q : ℕ) (call : A → Growth) (answers : List A) → ((answer : A) → AreFitting n q (call answer)) → AreFitting n q (Many call answers)
many_fits n q call [] each h m none = fit_as n q m [] none tt
many_fits n q call (answer ∷ answers) each h m steps =
    then_fits n q (call answer) (Many call answers) (each answer) (many_fits n q call answers each) h m steps

moves_fit : (n q by : ℕ) (r : Reading) (act : Act) (now : ℤ) (shift : Option ℤ) → AllFit n q (tick_entries by r act now shift)
moves_fit n q by r act now None = (tt, tt)
moves_fit n q by r act now (Some offset) = (tt, (tt, tt))

refused_fits : (n q : ℕ) (g : Settings) (r : Reading) (act : Act) (e : ClockErr) (s : State) (es : List Entry) → RefusesTick g r act e s es → AllFit n q es
refused_fits n q g r act BadReading s es refused = fit_as n q es [] refused.none tt
refused_fits n q g r act (OffsetWide value) s es refused = fit_as n q es [] refused.none tt

pub acts_fit : (n q : ℕ) (g : Settings) (by : ℕ) (r : Reading) (act : Act) (answer : Result Moved ClockErr) (s : State) (es : List Entry)
    → ActsOnReading g by r act answer s es → AllFit n q es
acts_fit n q g by r act (Ok m) s es acts = fit_as n q es _ acts.entries (moves_fit n q by r act m.now m.shift)
acts_fit n q g by r act (Err e) s es acts = refused_fits n q g r act e s es acts

pub takes_fit : (n q : ℕ) (g : Settings) (by process : ℕ) (answer : Taken) (s : State) (es : List Entry) → Takes g by process answer s es → AllFit n q es
takes_fit n q g by process Exited s es takes = fit_as n q es _ takes ((λ is. refl), tt)
takes_fit n q g by process Empty s es takes = fit_as n q es _ takes ((λ is. refl), (tt, tt))
takes_fit n q g by process (Mail mail) s es takes = fit_as n q es _ takes ((λ is. refl), (tt, tt))

pub alive_fits : (n q : ℕ) (g : Settings) (by : Actor) (process : ℕ) (answer : Bool) (s : State) (es : List Entry) → TellsAlive g by process answer s es
    → AllFit n q es
alive_fits n q g by process answer s es tells = fit_as n q es _ tells ((λ is. refl), tt)

read_fits : (n q : ℕ) (names : Bool) (by : Actor) (timer : TimerRef) (left : Option ℕ) → AllFit n q (read_entries names by timer left)
read_fits n q false by timer left = tt
read_fits n q true by timer left = (tt, tt)

pub reads_fit : (n q : ℕ) (g : Settings) (by : Actor) (timer : TimerRef) (answer : Option ℕ) (s : State) (es : List Entry) → Reads g by timer answer s es
    → AllFit n q es
reads_fit n q g by timer answer s es reads = fit_as n q es _ reads.entries (tt, read_fits n q (names_timer g timer) by timer answer)

cancel_fits : (n q : ℕ) (names : Bool) (by : Actor) (timer : TimerRef) (found left : Option ℕ) → AllFit n q (cancel_entries names by timer found left)
cancel_fits n q false by timer found left = tt
cancel_fits n q true by timer None left = (tt, tt)
cancel_fits n q true by timer (Some found) left = (tt, (tt, tt))

pub cancels_fit : (n q : ℕ) (g : Settings) (by : Actor) (timer : TimerRef) (answer : Option ℕ) (s : State) (es : List Entry) → Cancels g by timer answer s es
    → AllFit n q es
cancels_fit n q g by timer answer s es cancels =
    fit_as n q es _ cancels.entries (tt, cancel_fits n q (names_timer g timer) by timer cancels.found answer)

probes_fit : (n q : ℕ) (by : Actor) (wheel : ℕ) (es : List Entry) → AreProbes by wheel es → AllFit n q es
probes_fit n q by wheel [] are = tt
probes_fit n q by wheel (e ∷ es) are =
    (subst (λ (e : Entry). EventFits n q e.event) (sym are.2) tt, probes_fit n q by wheel es are.3)

closes_fit : (n q : ℕ) (was : Bool) (by : ℕ) (timer : TimerRef) (es : List Entry) → Closes was by timer es → AllFit n q es
closes_fit n q false by timer es closes = fit_as n q es [] closes tt
closes_fit n q true by timer es (inl orphan) = fit_as n q es _ orphan (tt, tt)
closes_fit n q true by timer es (inr missed) = fit_as n q es _ missed.entries (tt, tt)

pub refused_start_fits : (n q : ℕ) (g : Settings) (by wheel : ℕ) (start : Start) (e : StartErr) (s : State) (es : List Entry)
    → Starts g by wheel start (Err e) s es → AllFit n q es
refused_start_fits n q g by wheel start starts.BadArg s es bad = fit_as n q es _ bad.entries (tt, tt)
refused_start_fits n q g by wheel start starts.Full s es full =
    fit_as n q es _ full.entries (
      tt,
      elim full.are_taken [
        | inl found ↦ probes_fit n q (Caller by) wheel full.probes (round_probes by wheel _ s found.0 full.probes found.1)
        | inr many ↦ fit_as n q full.probes [] many.1 tt
      ],
    )
refused_start_fits n q g by wheel start starts.NoMemory s es (inl none) = fit_as n q es [] none tt
refused_start_fits n q g by wheel start starts.NoMemory s es (inr probed) =
    fit_as n q es _ probed.entries (tt, probes_fit n q (Caller by) wheel probed.probes probed.are_probes)

pub starts_fit : (n q : ℕ) (g : Settings) (by wheel : ℕ) (start : Start) (answer : Result TimerRef StartErr) (s : State) (es : List Entry)
    → (start.dest ≡ 0 → (start.kind ≡ Wrapped) × (start.msg < n)) → Starts g by wheel start answer s es → AllFit n q es
starts_fit n q g by wheel start (Ok timer) s es fits started =
    fit_as n q es _ started.entries (
      tt,
      fit_append n q started.probes _ (probes_fit n q (Caller by) wheel started.probes started.are_probes)
          (fits, ((λ is. refl), closes_fit n q started.was by timer started.closing started.closes)),
    )
starts_fit n q g by wheel start (Err e) s es fits refused = refused_start_fits n q g by wheel start e s es refused

-- an exit
orphans_fit : (n q by w : ℕ) (tries : List Try) → AllFit n q (orphan_entries by w tries)
orphans_fit n q by w [] = tt
orphans_fit n q by w (t ∷ tries) = (one t.timer t.missed, orphans_fit n q by w tries)
  where
    one : (timer : TimerRef) (missed : Option (Option Status)) → EventFits n q (orphans_by by w timer missed).event
    one timer None = tt
    one timer (Some found) = tt

sweep_fits : (n q : ℕ) (g : Settings) (by p w k : ℕ) → AreFitting n q (SweepsWheels g (alone g) by p w k)
sweep_fits n q g by p w zero h m none = fit_as n q m [] none tt
sweep_fits n q g by p w (suc k) h m steps =
    then_fits n q (SweepsWheel g (alone g) by p w) (SweepsWheels g (alone g) by p (suc w) k)
    (λ h m swept. fit_as n q m _ swept.steps.entries (orphans_fit n q by w swept.steps.tries)) (sweep_fits n q g by p (suc w) k) h m steps

marks_fit : (n q : ℕ) (g : Settings) (p : ℕ) (answer : Bool) → p ≢ q → AreFitting n q (alone g [] (MarksExit g (Caller 0) p answer))
marks_fit n q g p answer other h m marks = fit_as n q m _ marks ((λ is. absurd (other is)), tt)

pub exits_fit : (n q : ℕ) (g : Settings) (p : ℕ) (answer : Bool) → p ≢ q → AreFitting n q (Exits g (alone g) 0 p answer)
exits_fit n q g p false other h m exits = marks_fit n q g p false other h m exits
exits_fit n q g p true other h m exits =
    then_fits n q (alone g [] (MarksExit g (Caller 0) p true)) (SweepsWheels g (alone g) 0 p 0 g.schedulers) (marks_fit n q g p true other)
    (sweep_fits n q g 0 p 0 g.schedulers) h m exits

-- a turn
holds_fit : (n q : ℕ) (hand : Option Request) (g : Settings) (w : ℕ) (got : Option Request) (h m : List Entry) → HoldsBy hand (alone g) g w got h m
    → AllFit n q m
holds_fit n q (Some request) g w got h m holds = fit_as n q m [] holds.1 tt
holds_fit n q None g w got h m holds = fit_as n q m _ holds (tt, tt)

hold_fits : (n q : ℕ) (g : Settings) (w : ℕ) (got : Option Request) → AreFitting n q (HoldsRequest g (alone g) w got)
hold_fits n q g w got h m holds = holds_fit n q ((state g h).scheds w).hand g w got h m holds

asked_fits : (n q : ℕ) (kind : RequestKind) (g : Settings) (w : ℕ) (timer : TimerRef) (left : Option ℕ) (s : State) (es : List Entry)
    → DoesAsked kind g w timer left s es → AllFit n q es
asked_fits n q ToCancel g w timer left s es asked = cancels_fit n q g (Sched w) timer left s es asked
asked_fits n q ToRead g w timer left s es asked = reads_fit n q g (Sched w) timer left s es asked

answers_fit : (n q : ℕ) (g : Settings) (w : ℕ) (request : Request) (answer : Result (Option ℕ) OutOfMemory) (s : State) (es : List Entry)
    → Answers g w request answer s es → AllFit n q es
answers_fit n q g w request (Ok left) s es answers =
    fit_as n q es _ answers.entries (fit_append n q answers.steps _ (asked_fits n q request.kind g w request.timer left s answers.steps answers.done) (tt, tt))
answers_fit n q g w request (Err e) s es answers = fit_as n q es [] answers tt

serves_fit : (n q : ℕ) (g : Settings) (w : ℕ) (answer : Result Bool OutOfMemory) → AreFitting n q (Serves g (alone g) w answer)
serves_fit n q g w (Ok true) h m served =
    then_fits n q (HoldsRequest g (alone g) w (Some served.request)) (λ h m. Answers g w served.request (Ok served.left) (state g h) m)
    (hold_fits n q g w (Some served.request)) (λ h m. answers_fit n q g w served.request (Ok served.left) (state g h) m) h m served.steps
serves_fit n q g w (Ok false) h m held = hold_fits n q g w None h m held
serves_fit n q g w (Err e) h m served =
    then_fits n q (HoldsRequest g (alone g) w (Some served.request)) (λ h m. Answers g w served.request (Err e) (state g h) m)
    (hold_fits n q g w (Some served.request)) (λ h m. answers_fit n q g w served.request (Err e) (state g h) m) h m served.steps

many_served_fit : (n q : ℕ) (g : Settings) (w k : ℕ) → AreFitting n q (ServesMany g (alone g) w k)
many_served_fit n q g w k = many_fits n q (λ (one : Unit {0}). Serves g (alone g) w (Ok true)) (units k) (λ one. serves_fit n q g w (Ok true))

all_served_fit : (n q : ℕ) (g : Settings) (w : ℕ) (answer : Result ℕ OutOfMemory) → AreFitting n q (ServesAll g (alone g) w answer)
all_served_fit n q g w (Ok k) h m served = at (nat_lt k 64) served.1
  where
    at : (b : Bool) → cond b (Then (ServesMany g (alone g) w k) (Serves g (alone g) w (Ok false)) h m) (ServesMany g (alone g) w k h m) → AllFit n q m
    at true steps =
        then_fits n q (ServesMany g (alone g) w k) (Serves g (alone g) w (Ok false)) (many_served_fit n q g w k) (serves_fit n q g w (Ok false)) h m steps
    at false steps = many_served_fit n q g w k h m steps
all_served_fit n q g w (Err e) h m served =
    then_fits n q (ServesMany g (alone g) w served.0) (Serves g (alone g) w (Err e)) (many_served_fit n q g w served.0) (serves_fit n q g w (Err e)) h m served.2

expiries_fit : (n q w : ℕ) (tries : List Try) (es : List Entry) → AllFit n q es → AllFit n q (expiry_entries w tries ++ es)
expiries_fit n q w [] es fit = fit
expiries_fit n q w (t ∷ tries) es fit = (one t.timer t.missed, expiries_fit n q w tries es fit)
  where
    one : (timer : TimerRef) (missed : Option (Option Status)) → EventFits n q (expires_by w timer missed).event
    one timer None = tt
    one timer (Some found) = tt

advances_fit : (n q : ℕ) (g : Settings) (w : ℕ) (answer : Result (ℕ × ℕ) OutOfMemory) → AreFitting n q (AdvancesWheel g (alone g) w answer)
advances_fit n q g w (Ok answer) h m advanced = fit_as n q m _ advanced.entries (tt, expiries_fit n q w advanced.tries _ (tt, tt))
advances_fit n q g w (Err e) h m (inl none) = fit_as n q m [] none tt
advances_fit n q g w (Err e) h m (inr look) = fit_as n q m _ look.1 (tt, tt)

over_fits : (n q : ℕ) (g : Settings) (w : ℕ) (expired : Row) (how : Result Handed OutOfMemory) (s : State) (es : List Entry)
    → HandsOver g w expired how s es → AllFit n q es
over_fits n q g w expired (Ok Put) s es hands = fit_as n q es _ hands ((λ is. refl), (tt, tt))
over_fits n q g w expired (Ok Dropped) s es hands = fit_as n q es _ hands ((λ is. refl), (tt, tt))
over_fits n q g w expired (Err e) s es hands = fit_as n q es [] hands tt

hands_fit : (n q : ℕ) (g : Settings) (w : ℕ) (how : Result Handed OutOfMemory) → AreFitting n q (Hands g (alone g) w how)
hands_fit n q g w how h m hands = over_fits n q g w hands.expired how (state g h) m hands.step

many_handed_fit : (n q : ℕ) (g : Settings) (w : ℕ) (hows : List Handed) → AreFitting n q (HandsMany g (alone g) w hows)
many_handed_fit n q g w hows = many_fits n q (λ how. Hands g (alone g) w (Ok how)) hows (λ how. hands_fit n q g w (Ok how))

delivers_fit : (n q : ℕ) (g : Settings) (w : ℕ) (answer : Result (ℕ × ℕ) OutOfMemory) → AreFitting n q (Delivers g (alone g) w answer)
delivers_fit n q g w (Ok answer) h m delivered = many_handed_fit n q g w delivered.hows h m delivered.runs
delivers_fit n q g w (Err e) h m delivered =
    then_fits n q (HandsMany g (alone g) w delivered.hows) (Hands g (alone g) w (Err e)) (many_handed_fit n q g w delivered.hows) (hands_fit n q g w (Err e))
    h m delivered.runs

pub turns_fit : (n q : ℕ) (g : Settings) (w : ℕ) (answer : Result Turned OutOfMemory) → AreFitting n q (Turns g (alone g) w answer)
turns_fit n q g w (Ok t) h m turned =
    then_fits n q (ServesAll g (alone g) w (Ok t.served)) (Then (AdvancesWheel g (alone g) w (Ok (t.to, t.expired))) (Delivers g (alone g) w (Ok (t.put, t.dropped))))
    (all_served_fit n q g w (Ok t.served))
    (then_fits n q (AdvancesWheel g (alone g) w (Ok (t.to, t.expired))) (Delivers g (alone g) w (Ok (t.put, t.dropped)))
    (advances_fit n q g w (Ok (t.to, t.expired))) (delivers_fit n q g w (Ok (t.put, t.dropped)))) h m turned
turns_fit n q g w (Err e) h m (inl served) = all_served_fit n q g w (Err e) h m served
turns_fit n q g w (Err e) h m (inr (inl advanced)) =
    then_fits n q (ServesAll g (alone g) w (Ok advanced.0)) (AdvancesWheel g (alone g) w (Err e)) (all_served_fit n q g w (Ok advanced.0))
    (advances_fit n q g w (Err e)) h m advanced.1
turns_fit n q g w (Err e) h m (inr (inr delivered)) =
    then_fits n q (ServesAll g (alone g) w (Ok delivered.0))
    (Then (AdvancesWheel g (alone g) w (Ok delivered.1)) (Delivers g (alone g) w (Err e))) (all_served_fit n q g w (Ok delivered.0))
    (then_fits n q (AdvancesWheel g (alone g) w (Ok delivered.1)) (Delivers g (alone g) w (Err e)) (advances_fit n q g w (Ok delivered.1))
    (delivers_fit n q g w (Err e))) h m delivered.2

-- a world that fits goes on to one that does
pub fits_on : (n : ℕ) (a b : Seen) (call : Way → Growth) → AreFitting n 0 (call (alone a.settings)) → Goes a call b → FitsRows n a
    → FitsRows n b
fits_on n a b call fitting goes fits = record {
  processes = subst (λ (g : Settings). 2 ≤ g.processes) (sym goes.settings) fits.processes;
  lone = goes.next ∙ fits.lone;
  entries = fit_grows n 0 (call (alone a.settings)) a.history b.history fitting fits.entries (goes.lone fits.lone);
}

pub fits_by : (n : ℕ) (a b : Seen) (allows : Settings → State → List Entry → Type 0)
    → ((s : State) (es : List Entry) → allows a.settings s es → AllFit n 0 es) → Goes a (By a allows) b → FitsRows n a → FitsRows n b
fits_by n a b allows fitting goes fits = fits_on n a b (By a allows) (λ h m made. fitting (state a.settings h) m made) goes fits

pub fits_more : (n m : ℕ) (a : Seen) → n ≤ m → FitsRows n a → FitsRows m a
fits_more n m a more fits = record { processes = fits.processes; lone = fits.lone; entries = fit_more n m 0 a.history more fits.entries }
