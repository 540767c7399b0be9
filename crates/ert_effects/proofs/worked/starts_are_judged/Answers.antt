use Rattle.std.proofs.Common.{◌≡◌, pos, Bool, true, false, List, [], ◌∷◌, ◌++◌, Some, inl, inr, refl, subst}
use Rattle.ert_effects.proofs.Told.{event_same, armed_same}
use Rattle.ert_effects.specs.{TimerCalls.{Closes, IsStarted}, Worked.{one, idle, starting, probed}}
use Rattle.ert_defs.specs.{Entries.{probe_entry, arm_entry, orphan_entry, mark_entry}, Worked.{timer, start_after}, declared.entry.Actor.TheVariants.Caller, declared.entry.Entry.Entry, declared.entry.Event.TheVariants.{Probe, Orphan, Mark}}
use Rattle.ert_defs.specs.{declared.timer.Status.TheVariants.{Armed, Cancelled}}
use Rattle.ert_effects.proofs.worked.starts_are_judged.Goals as goal

-- a start without probes ends as it may
ends : (was : Bool) (closing : List Entry) → Closes was 0 timer closing
    → IsStarted one 0 0 (start_after 5) timer idle (starting was closing)
ends was closing closes = record {
  now = pos 1000000;
  probes = [];
  was = was;
  closing = closing;
  on_wheel = refl;
  are_probes = tt;
  closes = closes;
  entries = refl;
}

-- and no start ends otherwise
ended : (was : Bool) (closing : List Entry) → IsStarted one 0 0 (start_after 5) timer idle (starting was closing)
    → Closes was 0 timer closing
ended was closing is =
    let same : arm_entry 0 timer (start_after 5) ∷ (mark_entry (Caller 0) 0 false was ∷ closing)
    ≡ is.probes ++ (arm_entry 0 timer (start_after 5) ∷ (mark_entry (Caller 0) 0 false is.was ∷ is.closing)) = cc is.entries in
    let rest : mark_entry (Caller 0) 0 false was ∷ closing ≡ mark_entry (Caller 0) 0 false is.was ∷ is.closing =
    (armed_same 0 0 (start_after 5) [] is.probes timer timer _ _ tt is.are_probes same).1 in
    let heads : mark_entry (Caller 0) 0 false was ≡ mark_entry (Caller 0) 0 false is.was = cc in
    let event : Mark 0 false was ≡ Mark 0 false is.was = event_same _ _ heads in
    let seen : is.was ≡ was = cc in
    let closing_is : is.closing ≡ closing = cc in
    subst (λ b. Closes b 0 timer closing) seen (subst (Closes is.was 0 timer) closing_is is.closes)

pub returns-clause-ok : goal.returns-clause-ok
returns-clause-ok c = ends false [] refl

pub returns-clause-orphaned : goal.returns-clause-orphaned
returns-clause-orphaned c = ends true (orphan_entry 0 0 timer ∷ []) (inl refl)

pub returns-clause-missed : goal.returns-clause-missed
returns-clause-missed c =
    ends true (probed (Some Cancelled)) (inr (record { found = Some Cancelled; settled = λ is. cc; entries = refl }))

-- a timer left armed
left : Closes true 0 timer [] → ⊥
left (inl is) = cc
left (inr missed) = cc missed.entries

pub returns-clause-left_armed : goal.returns-clause-left_armed
returns-clause-left_armed c = λ is. left (ended true [] is)

-- a timer found armed
found_armed : Closes true 0 timer (probed (Some Armed)) → ⊥
found_armed (inl is) =
    let heads : probe_entry (Caller 0) 0 0 (Some Armed) ≡ orphan_entry 0 0 timer = cc is in
    let event : Probe 0 0 (Some Armed) ≡ Orphan timer = event_same _ _ heads in
    cc
found_armed (inr missed) =
    let heads : probe_entry (Caller 0) 0 0 (Some Armed) ≡ probe_entry (Caller 0) 0 0 missed.found = cc missed.entries in
    let event : Probe 0 0 (Some Armed) ≡ Probe 0 0 missed.found = event_same _ _ heads in
    let found : missed.found ≡ Some Armed = cc in
    missed.settled found

pub returns-clause-found_armed : goal.returns-clause-found_armed
returns-clause-found_armed c = λ is. found_armed (ended true (probed (Some Armed)) is)
