-- The same entries have one answer: of starts and of advances, by what stands among their probes.

use Rattle.std.proofs.Common.{inl, inr, ◌≡◌, ℕ, zero, suc, ◌+◌, ℤ, false, List, [], ◌∷◌, ◌++◌, Option, Some, None, Ok, Err, refl, sym, ap, subst, ◌∙◌, arith}
use Rattle.ert_effects.proofs.Advanced.{IsAdvance, advance_is}
use Rattle.ert_effects.specs.{Laws.{LawOfStarts, LawOfAdvances}, TimerCalls.{AreProbes, AreTaken, Round, IsRoundTaken, IsStarted, IsBadArg, IsWheelFull}, WheelCalls.{Try, expires_by, expiry_entries, hit_by, hits}}
use Rattle.ert_effects.specs.{declared.answers.StartErr.TheVariants.{BadArg, Full, NoMemory}}
use Rattle.ert_defs.specs.{Entries.{look_entry, probe_entry, arm_entry, expire_entry, mark_entry, advanced_entry}, Milliseconds.deadline_of, States.State, declared.entry.Actor.Actor, declared.entry.Actor.TheVariants.{Caller, Sched}}
use Rattle.ert_defs.specs.{declared.entry.Entry.Entry, declared.entry.Event.TheVariants.{Look, Arm, Probe, Expire, Advanced}, declared.settings.Settings.Settings, declared.timer.Start.Start, declared.timer.Status.Status}
use Rattle.ert_defs.specs.{declared.timer.TimerRef.TimerRef}

-- one entry has one event
pub event_same : (e f : Entry) → e ≡ f → e.event ≡ f.event
event_same e f same = ap (λ (x : Entry). x.event) same

look_same : (by : Actor) (now later : ℤ) → look_entry by now ≡ look_entry by later → now ≡ later
look_same by now later same =
    let event : Look now ≡ Look later = event_same (look_entry by now) (look_entry by later) same in cc

-- an arming is no probe
not_probe : (by wheel : ℕ) (start : Start) (timer : TimerRef) (slot : ℕ) (found : Option Status)
    → arm_entry by timer start ≡ probe_entry (Caller by) wheel slot found → ⊥
not_probe by wheel start timer slot found same =
    let event : Arm timer start ≡ Probe wheel slot found =
    event_same (arm_entry by timer start) (probe_entry (Caller by) wheel slot found) same in
    cc

-- of a list that begins with probes, and then has an arming, the arming is that, and what follows on it too
pub armed_same : (by wheel : ℕ) (start : Start) (probes others : List Entry) (t u : TimerRef) (x y : List Entry) → AreProbes (Caller by) wheel probes
    → AreProbes (Caller by) wheel others → probes ++ (arm_entry by t start ∷ x) ≡ others ++ (arm_entry by u start ∷ y)
    → (t ≡ u) × (x ≡ y)
armed_same by wheel start [] [] t u x y are others_are same =
    let heads : arm_entry by t start ≡ arm_entry by u start = cc in
    let event : Arm t start ≡ Arm u start = event_same (arm_entry by t start) (arm_entry by u start) heads in (cc, cc)
armed_same by wheel start [] (f ∷ others) t u x y are others_are same =
    let heads : arm_entry by t start ≡ f = cc in
    absurd (not_probe by wheel start t others_are.0 others_are.1 (heads ∙ others_are.2))
armed_same by wheel start (e ∷ probes) [] t u x y are others_are same =
    let heads : arm_entry by u start ≡ e = cc in absurd (not_probe by wheel start u are.0 are.1 (heads ∙ are.2))
armed_same by wheel start (e ∷ probes) (f ∷ others) t u x y are others_are same =
    let tails : probes ++ (arm_entry by t start ∷ x) ≡ others ++ (arm_entry by u start ∷ y) = cc in
    armed_same by wheel start probes others t u x y are.3 others_are.3 tails

-- probes alone have no arming
none_armed : (by wheel : ℕ) (start : Start) (probes others : List Entry) (t : TimerRef) (x : List Entry) → AreProbes (Caller by) wheel others
    → probes ++ (arm_entry by t start ∷ x) ≡ others → ⊥
none_armed by wheel start [] [] t x are same = cc
none_armed by wheel start (e ∷ probes) [] t x are same = cc
none_armed by wheel start [] (f ∷ others) t x are same =
    let heads : arm_entry by t start ≡ f = cc in not_probe by wheel start t are.0 are.1 (heads ∙ are.2)
none_armed by wheel start (e ∷ probes) (f ∷ others) t x are same =
    let tails : probes ++ (arm_entry by t start ∷ x) ≡ others = cc in none_armed by wheel start probes others t x are.3 tails

-- the slots that were found taken were looked at
pub taken_probes : (by wheel now : ℕ) (s : State) (slot n : ℕ) (es : List Entry) → AreTaken by wheel now s slot n es
    → AreProbes (Caller by) wheel es
taken_probes by wheel now s slot zero es taken = subst (AreProbes (Caller by) wheel) (sym taken) tt
taken_probes by wheel now s slot (suc n) es taken =
    subst (AreProbes (Caller by) wheel) (sym taken.2)
    (slot, taken.0, refl, taken_probes by wheel now s (suc slot) n taken.1 taken.4)

pub probes-append : (by : Actor) (wheel : ℕ) (es fs : List Entry) → AreProbes by wheel es → AreProbes by wheel fs → AreProbes by wheel (es ++ fs)
probes-append by wheel [] fs one other = other
probes-append by wheel (e ∷ es) fs one other = (one.0, one.1, one.2, probes-append by wheel es fs one.3 other)

-- and so were those of a round
pub round_probes : (by wheel now : ℕ) (s : State) {slots looks : ℕ} (round : Round slots looks) (es : List Entry) → IsRoundTaken by wheel now s round es
    → AreProbes (Caller by) wheel es
round_probes by wheel now s round es taken =
    subst (AreProbes (Caller by) wheel) (sym taken.entries)
    (probes-append (Caller by) wheel taken.first taken.second
    (taken_probes by wheel now s round.from round.ahead taken.first taken.onward)
    (taken_probes by wheel now s 0 round.behind taken.second taken.around))

started_same : (g : Settings) (by wheel : ℕ) (start : Start) (t u : TimerRef) (s : State) (es : List Entry) → IsStarted g by wheel start t s es
    → IsStarted g by wheel start u s es → t ≡ u
started_same g by wheel start t u s es first second =
    let same : first.probes ++ (arm_entry by t start ∷ (mark_entry (Caller by) start.dest false first.was ∷ first.closing))
    ≡ second.probes ++ (arm_entry by u start ∷ (mark_entry (Caller by) start.dest false second.was ∷ second.closing)) = cc (sym first.entries ∙ second.entries) in
    (armed_same by wheel start first.probes second.probes t u _ _ first.are_probes second.are_probes same).0

not_bad : (g : Settings) (by wheel : ℕ) (start : Start) (t : TimerRef) (s : State) (es : List Entry) → IsStarted g by wheel start t s es
    → IsBadArg g by start es → ⊥
not_bad g by wheel start t s es first second =
    let same : first.probes ++ (arm_entry by t start ∷ (mark_entry (Caller by) start.dest false first.was ∷ first.closing)) ≡ [] = cc (sym first.entries ∙ second.entries) in
    none_armed by wheel start first.probes [] t _ tt same

not_full : (g : Settings) (by wheel : ℕ) (start : Start) (t : TimerRef) (s : State) (es : List Entry) → IsStarted g by wheel start t s es
    → IsWheelFull g by wheel start s es → ⊥
not_full g by wheel start t s es first second =
    let same : first.probes ++ (arm_entry by t start ∷ (mark_entry (Caller by) start.dest false first.was ∷ first.closing)) ≡ second.probes = cc (sym first.entries ∙ second.entries) in
    none_armed by wheel start first.probes second.probes t _
    (elim second.are_taken [
      | inl found ↦ round_probes by wheel _ s found.0 second.probes found.1
      | inr many ↦ subst (AreProbes (Caller by) wheel) (sym many.1) tt
    ]) same

bad_or_full : (g : Settings) (by wheel : ℕ) (start : Start) (s : State) (es : List Entry) → IsBadArg g by start es
    → IsWheelFull g by wheel start s es → ⊥
bad_or_full g by wheel start s es first second =
    let heads : look_entry (Caller by) first.now ≡ look_entry (Caller by) second.now = cc (sym first.entries ∙ second.entries) in
    let now : first.now ≡ second.now = look_same (Caller by) first.now second.now heads in
    second.accepted (ap (λ x. deadline_of g start x) (sym now) ∙ first.refused)

pub starts_same : LawOfStarts
starts_same g by wheel start s es (Ok t) (Ok u) _ _ first second = ap Ok (started_same g by wheel start t u s es first second)
starts_same g by wheel start s es (Ok t) (Err BadArg) _ _ first second = absurd (not_bad g by wheel start t s es first second)
starts_same g by wheel start s es (Ok t) (Err Full) _ _ first second = absurd (not_full g by wheel start t s es first second)
starts_same g by wheel start s es (Ok t) (Err NoMemory) _ other first second = absurd (other refl)
starts_same g by wheel start s es (Err BadArg) (Ok u) _ _ first second = absurd (not_bad g by wheel start u s es second first)
starts_same g by wheel start s es (Err BadArg) (Err BadArg) _ _ first second = refl
starts_same g by wheel start s es (Err BadArg) (Err Full) _ _ first second = absurd (bad_or_full g by wheel start s es first second)
starts_same g by wheel start s es (Err BadArg) (Err NoMemory) _ other first second = absurd (other refl)
starts_same g by wheel start s es (Err Full) (Ok u) _ _ first second = absurd (not_full g by wheel start u s es second first)
starts_same g by wheel start s es (Err Full) (Err BadArg) _ _ first second = absurd (bad_or_full g by wheel start s es second first)
starts_same g by wheel start s es (Err Full) (Err Full) _ _ first second = refl
starts_same g by wheel start s es (Err Full) (Err NoMemory) _ other first second = absurd (other refl)
starts_same g by wheel start s es (Err NoMemory) b other _ first second = absurd (other refl)

-- a try makes no record of an advance
not_tried : (w to : ℕ) (timer : TimerRef) (missed : Option (Option Status)) → advanced_entry w to ≡ expires_by w timer missed → ⊥
not_tried w to timer None same =
    let event : Advanced w to ≡ Expire timer = event_same (advanced_entry w to) (expire_entry w timer) same in cc
not_tried w to timer (Some found) same =
    let event : Advanced w to ≡ Probe w timer.slot found =
    event_same (advanced_entry w to) (probe_entry (Sched w) w timer.slot found) same in
    cc

hit_same : (w : ℕ) (t u : TimerRef) (missed other : Option (Option Status)) → expires_by w t missed ≡ expires_by w u other
    → hit_by missed ≡ hit_by other
hit_same w t u None None same = refl
hit_same w t u None (Some found) same =
    let event : Expire t ≡ Probe w u.slot found = event_same (expire_entry w t) (probe_entry (Sched w) w u.slot found) same in
    absurd cc
hit_same w t u (Some found) None same =
    let event : Expire u ≡ Probe w t.slot found = event_same (expire_entry w u) (probe_entry (Sched w) w t.slot found) (sym same) in
    absurd cc
hit_same w t u (Some found) (Some later) same = refl

-- what follows on tries tells where they end
tries_same : (w : ℕ) (ts us : List Try) (m n : ℕ) → expiry_entries w ts ++ advanced_entry w m ∷ [] ≡ expiry_entries w us ++ advanced_entry w n ∷ []
    → (m ≡ n) × (hits ts ≡ hits us)
tries_same w [] [] m n same =
    let heads : advanced_entry w m ≡ advanced_entry w n = cc in
    let event : Advanced w m ≡ Advanced w n = event_same (advanced_entry w m) (advanced_entry w n) heads in (cc, refl)
tries_same w [] (u ∷ us) m n same = absurd (not_tried w m u.timer u.missed cc)
tries_same w (t ∷ ts) [] m n same = absurd (not_tried w n t.timer t.missed cc)
tries_same w (t ∷ ts) (u ∷ us) m n same =
    let heads : expires_by w t.timer t.missed ≡ expires_by w u.timer u.missed = cc in
    let tails : expiry_entries w ts ++ advanced_entry w m ∷ [] ≡ expiry_entries w us ++ advanced_entry w n ∷ [] = cc in
    let rest = tries_same w ts us m n tails in
    let first = hit_same w t.timer u.timer t.missed u.missed heads in
    (rest.0, ap (λ x. x + hits ts) first ∙ ap (λ x. hit_by u.missed + x) rest.1)

pair_same : (a b : ℕ × ℕ) → a.0 ≡ b.0 → a.1 ≡ b.1 → a ≡ b
pair_same a b first second = grind arith

pub advance_same : (w : ℕ) (es : List Entry) (a b : ℕ × ℕ) → IsAdvance w a es → IsAdvance w b es → a ≡ b
advance_same w es a b first second =
    let same : expiry_entries w first.tries ++ advanced_entry w a.0 ∷ [] ≡ expiry_entries w second.tries ++ advanced_entry w b.0 ∷ [] =
    cc (sym first.entries ∙ second.entries) in
    let both = tries_same w first.tries second.tries a.0 b.0 same in
    pair_same a b both.0 (first.expired ∙ (both.1 ∙ sym second.expired))

pub advances_same : LawOfAdvances
advances_same g w = λ s es a b first second. advance_same w es a b (advance_is w a es first) (advance_is w b es second)
