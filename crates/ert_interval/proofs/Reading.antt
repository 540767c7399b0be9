-- What a world tells of a timer and of a process.

use Rattle.std.proofs.Common.{◌≡◌, ◌≢◌, ◌↔◌, ℕ, ℤ, nat_eq, ◌&&◌, ◌||◌, Bool, true, false, not, IsTrue, List, [], ◌∷◌, ◌++◌, Option, Some, None, refl, sym, ap, subst, ◌∙◌}
use Rattle.std.specs.Option.{is_some}
use Rattle.ert_effects.specs.{TimerCalls.{Reads, read_entries}, WheelCalls.TellsAlive}
use Rattle.ert_defs.specs.{Entries.{look_entry, peek_entry, mark_entry}, Legal.{Legal, LegalFrom, left_by}, States.{State, state, run}, Timers.{Row, row_of}, declared.entry.Actor.TheVariants.Caller, declared.entry.Entry.Entry}
use Rattle.ert_defs.specs.{declared.settings.Settings.Settings, declared.timer.Status.Status, declared.timer.Status.TheVariants.{Armed, Expired, Delivered, Cancelled, Orphaned, Dropped}, declared.timer.TimerRef.TimerRef}
use Rattle.ert_defs.proofs.Runs.{legal_then, state-append}
use Rattle.ert_interval.specs.{Intervals.{IsIntervalOf, row_for}, declared.interval.Interval.Interval}
use Rattle.ert_world.specs.Worlds.{Seen, Goes, By}

-- the history of the world before a call is legal with its entries
pub grown_legal : (a b : Seen) (piece : List Entry) → b.settings ≡ a.settings → b.history ≡ a.history ++ piece → Legal b.settings b.history
    → Legal a.settings (a.history ++ piece)
grown_legal a b piece settings grown legal = subst (Legal a.settings) grown (subst (λ g. Legal g b.history) settings legal)

-- the entries are legal after that history
pub piece_legal : (a b : Seen) (piece : List Entry) → b.settings ≡ a.settings → b.history ≡ a.history ++ piece → Legal b.settings b.history
    → LegalFrom a.settings (state a.settings a.history) piece
piece_legal a b piece settings grown legal = legal_then a.settings _ a.history piece (grown_legal a b piece settings grown legal)

-- the state of the world after it
pub piece_state : (a b : Seen) (piece : List Entry) → b.settings ≡ a.settings → b.history ≡ a.history ++ piece
    → state b.settings b.history ≡ run a.settings (state a.settings a.history) piece
piece_state a b piece settings grown =
    ap (λ g. state g b.history) settings ∙ (ap (state a.settings) grown ∙ state-append a.settings a.history piece)

pub or_none : (x b : Bool) → (x || (b && false)) ≡ x
or_none true b = refl
or_none false true = refl
or_none false false = refl

pub alive_tells : (a b : Seen) (process : ℕ) (answer : Bool) → Goes a (By a (λ g. TellsAlive g (Caller 0) process answer)) b → a.next ≡ 1
    → Legal b.settings b.history → (state b.settings b.history).exited process ≡ not answer
alive_tells a b process answer goes lone legal =
    let g : Settings = a.settings in
    let s : State = state g a.history in
    let grows = goes.lone lone in
    let e : Entry = mark_entry (Caller 0) process false (not answer) in
    let legal_e : LegalFrom g s (e ∷ []) = subst (LegalFrom g s) grows.made (piece_legal a b grows.piece goes.settings grows.grown legal) in
    let after : state b.settings b.history ≡ run g s (e ∷ []) = piece_state a b grows.piece goes.settings grows.grown ∙ ap (run g s) grows.made in
    ap (λ (t : State). t.exited process) after ∙ (or_none (s.exited process) (nat_eq process process) ∙ sym legal_e.0.found)

-- something is left of a timer exactly where it is armed
pub left_armed : (g : Settings) (look : ℤ) (status : Option Status) (row : Option Row) (r : Row) → row ≡ Some r
    → (left_by g look status row ≡ None) ↔ (status ≢ Some Armed)
left_armed g look (Some Armed) row r is = (λ none. absurd (cc (rw is at none)), λ no. absurd (no refl))
left_armed g look None row r is = (λ none. λ armed. absurd cc, λ no. refl)
left_armed g look (Some Expired) row r is = (λ none. λ armed. absurd cc, λ no. refl)
left_armed g look (Some Delivered) row r is = (λ none. λ armed. absurd cc, λ no. refl)
left_armed g look (Some Dropped) row r is = (λ none. λ armed. absurd cc, λ no. refl)
left_armed g look (Some Cancelled) row r is = (λ none. λ armed. absurd cc, λ no. refl)
left_armed g look (Some Orphaned) row r is = (λ none. λ armed. absurd cc, λ no. refl)

-- what a read finds, and that its entries leave the status
read_at : (g : Settings) (s : State) (timer : TimerRef) (row : Row) (now : ℤ) (answer : Option ℕ) (es : List Entry)
    → LegalFrom g s (look_entry (Caller 0) now ∷ (peek_entry (Caller 0) timer answer ∷ []))
    → row_of (s.rows timer.wheel) timer ≡ Some row
    → (answer ≡ None) ↔ (s.status timer ≢ Some Armed)
read_at g s timer row now answer es legal is =
    let found = legal.1.0.found in
    let both = left_armed g now (s.status timer) (row_of (s.rows timer.wheel) timer) row is in
    (λ none. both.0 (sym found ∙ none), λ no. found ∙ both.1 no)

pub read_tells : (a b : Seen) (i : Interval) (answer : Option ℕ) → Goes a (By a (λ g. Reads g (Caller 0) i.last answer)) b → a.next ≡ 1
    → Legal b.settings b.history → Legal a.settings a.history → IsIntervalOf a.settings a.history i
    → (answer ≡ None) ↔ ((state b.settings b.history).status i.last ≢ Some Armed)
read_tells a b i answer goes lone legal before kept =
    let g : Settings = a.settings in
    let s : State = state g a.history in
    let grows = goes.lone lone in
    let reads = grows.made in
    let es : List Entry = look_entry (Caller 0) reads.now ∷ (peek_entry (Caller 0) i.last answer ∷ []) in
    let is : grows.piece ≡ es =
    reads.entries ∙ ap (λ x. look_entry (Caller 0) reads.now ∷ read_entries x (Caller 0) i.last answer) kept.named in
    let legal_es : LegalFrom g s es = subst (LegalFrom g s) is (piece_legal a b grows.piece goes.settings grows.grown legal) in
    let after : state b.settings b.history ≡ run g s es = piece_state a b grows.piece goes.settings grows.grown ∙ ap (run g s) is in
    subst (λ (t : State). (answer ≡ None) ↔ (t.status i.last ≢ Some Armed)) (sym after)
    (read_at g s i.last (row_for i i.last i.deadline) reads.now answer es legal_es kept.row)

some_armed : (x : Option Status) → ((x ≢ Some Armed) → ⊥) → x ≡ Some Armed
some_armed None other = absurd (other (λ is. absurd cc))
some_armed (Some Armed) other = refl
some_armed (Some Expired) other = absurd (other (λ is. absurd cc))
some_armed (Some Delivered) other = absurd (other (λ is. absurd cc))
some_armed (Some Dropped) other = absurd (other (λ is. absurd cc))
some_armed (Some Cancelled) other = absurd (other (λ is. absurd cc))
some_armed (Some Orphaned) other = absurd (other (λ is. absurd cc))

told_at : (x : Option Status) (answer : Option ℕ) → (answer ≡ None) ↔ (x ≢ Some Armed) → IsTrue (is_some answer) ↔ (x ≡ Some Armed)
told_at x None both = (λ wrong. absurd cc, λ is. absurd (both.0 refl is))
told_at x (Some n) both = (λ yes. some_armed x (λ other. let none : Some n ≡ None = both.1 other in absurd cc), λ is. refl)

-- what is said of a timer by an answer
pub told_by : (x : Option Status) (answer : Option ℕ) (told : Bool) → (answer ≡ None) ↔ (x ≢ Some Armed) → told ≡ is_some answer
    → IsTrue told ↔ (x ≡ Some Armed)
told_by x answer told both is = subst (λ (b : Bool). IsTrue b ↔ (x ≡ Some Armed)) (sym is) (told_at x answer both)
