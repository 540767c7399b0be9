-- After an exit no timer that was armed for the process before it is armed.

use Rattle.std.proofs.Common.{◌≡◌, ◌≢◌, ℕ, zero, suc, ◌+◌, ◌<◌, ◌≤◌, ℤ, Bool, true, false, cond, nat_eq, List, [], ◌∷◌, ◌++◌, length, Contains, slice_index_or, Option, Some, refl, sym, ap, subst, ◌∙◌, arith, append_assoc, eqb-true, eq-eqb}
use Rattle.std.proofs.lemmas.List.Elements.{Contains-append_left}
use Rattle.ert_effects.specs.{Chains.{SweepsWheel, SweepsWheels}, Laws.{ExitSettles, LawOfExits}, Ways.{Way, alone, beside}, WheelCalls.AreSwept}
use Rattle.ert_defs.specs.{Actors.has_actor, Legal.Legal, Milliseconds.deadline_of, States.{State, next, run, state}, Timers.{Row, row_from, rows_after}, declared.entry.Actor.TheVariants.Wheel, declared.entry.Entry.Entry}
use Rattle.ert_defs.specs.{declared.entry.Event.Event, declared.entry.Event.TheVariants.Arm, declared.settings.Settings.Settings, declared.timer.Status.Status, declared.timer.Status.TheVariants.Armed, declared.timer.TimerRef.TimerRef}
use Rattle.ert_defs.proofs.{Runs.{carry, state-append}, Settlings.rows_stay_settled}

-- the rows of a wheel grow
kept_or : (b : Bool) (rows : List Row) (more : List Row) (row : Row) → Contains rows row → Contains (cond b (rows ++ more) rows) row
kept_or true rows more row among = Contains-append_left rows more row among
kept_or false rows more row among = among

row_after : (g : Settings) (look : ℤ) (w : ℕ) (rows : List Row) (event : Event) (b : Bool) (row : Row) → Contains rows row
    → Contains (cond b (rows_after g look w rows event) rows) row
row_after g look w rows event false row among = among
row_after g look w rows (Arm timer start) true row among =
    kept_or (nat_eq timer.wheel w) rows (row_from timer start (deadline_of g start look)) row among
row_after g look w rows _ true row among = among

row_stays : (g : Settings) (w : ℕ) (s : State) (m : List Entry) (row : Row) → Contains (s.rows w) row → Contains ((run g s m).rows w) row
row_stays g w s [] row among = among
row_stays g w s (e ∷ m) row among =
    row_stays g w (next g s e) m row (row_after g (s.looked e.by) w (s.rows w) e.event (has_actor e (Wheel w)) row among)

-- of swept rows none for the process is armed
swept_at : (status : TimerRef → Option Status) (process : ℕ) (rows : List Row) (row : Row) (k : ℕ) → AreSwept status process rows
    → k < length rows → slice_index_or rows k row ≡ row → row.dest ≡ process → status row.timer ≢ Some Armed
swept_at status process [] row k swept low is dest = absurd (omega arith)
swept_at status process (r ∷ rows) row zero swept low is dest =
    subst (λ (x : Row). status x.timer ≢ Some Armed) is (swept.0 (ap (λ (x : Row). x.dest) is ∙ dest))
swept_at status process (r ∷ rows) row (suc k) swept low is dest =
    swept_at status process rows row k swept.1 (omega arith) is dest

-- so many wheels from one on are swept
sweeps_settle : (g : Settings) (way : Way) (by process : ℕ) (wheel : ℕ) (row : Row) (w n : ℕ) (h m after : List Entry) → Legal g (h ++ (m ++ after))
    → SweepsWheels g way by process w n h m → w ≤ wheel → wheel < w + n
    → Contains ((state g h).rows wheel) row → row.dest ≡ process
    → (state g (h ++ (m ++ after))).status row.timer ≢ Some Armed
sweeps_settle g way by process wheel row w zero h m after legal sweeps low high among dest = absurd (omega arith)
sweeps_settle g way by process wheel row w (suc n) h m after legal sweeps low high among dest =
    let place : h ++ (m ++ after) ≡ (h ++ sweeps.before) ++ (sweeps.after ++ after) =
    ap (λ l. h ++ (l ++ after)) sweeps.joined
    ∙ (ap (λ l. h ++ l) (append_assoc sweeps.before sweeps.after after) ∙ sym (append_assoc h sweeps.before (sweeps.after ++ after))) in
    let later : Legal g ((h ++ sweeps.before) ++ (sweeps.after ++ after)) = subst (Legal g) place legal in
    let stands : Contains ((state g (h ++ sweeps.before)).rows wheel) row =
    carry (λ (s : State). Contains (s.rows wheel) row) (state-append g h sweeps.before)
    (row_stays g wheel (state g h) sweeps.before row among) in
    carry (λ (l : List Entry). (state g l).status row.timer ≢ Some Armed) place
    (at (nat_eq w wheel) refl later stands sweeps.one
    (λ above. sweeps_settle g way by process wheel row (suc w) n (h ++ sweeps.before) sweeps.after after later sweeps.other above (omega arith) stands dest))
  where
    at : (b : Bool) → nat_eq w wheel ≡ b → Legal g ((h ++ sweeps.before) ++ (sweeps.after ++ after))
        → Contains ((state g (h ++ sweeps.before)).rows wheel) row → SweepsWheel g way by process w h sweeps.before
        → (suc w ≤ wheel → (state g ((h ++ sweeps.before) ++ (sweeps.after ++ after))).status row.timer ≢ Some Armed)
        → (state g ((h ++ sweeps.before) ++ (sweeps.after ++ after))).status row.timer ≢ Some Armed
    at true is later stands one rest =
        let same : w ≡ wheel = eqb-true w wheel is in
        let swept : AreSwept (state g (h ++ sweeps.before)).status process ((state g (h ++ sweeps.before)).rows wheel) =
        subst (λ x. AreSwept (state g (h ++ sweeps.before)).status process ((state g (h ++ sweeps.before)).rows x)) same one.swept in
        rows_stay_settled g (h ++ sweeps.before) (sweeps.after ++ after) wheel row later stands
        (swept_at (state g (h ++ sweeps.before)).status process ((state g (h ++ sweeps.before)).rows wheel) row stands.0 swept stands.1 stands.2 dest)
    at false is later stands one rest =
        let apart : w ≢ wheel = λ same. (let own : nat_eq w wheel ≡ true = eq-eqb w wheel same in cc) in
        rest (omega arith)

exits_settle : (g : Settings) (way : Way) → ExitSettles g way
exits_settle g way by process wheel row h m after legal call high among dest =
    let place : h ++ (m ++ after) ≡ (h ++ call.before) ++ (call.after ++ after) =
    ap (λ l. h ++ (l ++ after)) call.joined
    ∙ (ap (λ l. h ++ l) (append_assoc call.before call.after after) ∙ sym (append_assoc h call.before (call.after ++ after))) in
    carry (λ (l : List Entry). (state g l).status row.timer ≢ Some Armed) place
    (sweeps_settle g way by process wheel row 0 g.schedulers (h ++ call.before) call.after after (subst (Legal g) place legal)
    call.other (omega arith) (omega arith) among dest)

pub exits_settle_timers : LawOfExits
exits_settle_timers g = (exits_settle g (alone g), λ a. exits_settle g (beside g a))
