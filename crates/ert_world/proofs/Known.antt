-- What is known of a timer that was started.

use Rattle.std.proofs.Common.{◌≡◌, ◌≢◌, inl, inr, ⊎_elim, ℕ, ℤ, Bool, true, false, List, [], ◌∷◌, ◌++◌, filter, Option, Some, None, Ok, refl, sym, ap, subst, ◌∙◌, append_assoc, arith, eq-eqb}
use Rattle.std.proofs.lemmas.Bool.Decides.{nat_tests}
use Rattle.ert_table.proofs.Named.{names_both}
use Rattle.ert_defs.proofs.{ExpiredTimers.{row_named, same_timer_self}, Runs.{legal_first, legal_then, state-append}, Settlings.{moves_next, settled_timers_stay}, Slots.{IsOrdered, ordered, ordered_next}, Standing.{all_stand, of_row}}
use Rattle.ert_defs.specs.{Entries.{is_ours, look_entry, arm_entry, mark_entry, peek_entry, cancel_entry}, Laws.{MayMove, has_settled}, Legal.{Legal, LegalFrom, Can, IsSlot, left_by, left_of, is_generation, names_timer}, States.State}
use Rattle.ert_defs.specs.{States.{opening, next, run, state}, Timers.Row, declared.entry.Actor.Actor, declared.entry.Actor.TheVariants.Caller, declared.entry.Entry.Entry, declared.settings.Settings.Settings, declared.timer.Start.Start}
use Rattle.ert_defs.specs.{declared.timer.Status.Status, declared.timer.Status.TheVariants.{Armed, Expired}, declared.timer.TimerRef.TimerRef}
use Rattle.ert_effects.specs.{TimerCalls.{Starts, Reads, Cancels, read_entries, cancel_entries}, Ways.{Step, Way, alone, beside}}
use Rattle.ert_laws.proofs.RowRanges.{rows_placed}
use Rattle.ert_laws.specs.Ranges.{IsPlaced}
use Rattle.ert_world.proofs.Places.{StandsAt, stands_in}
use Rattle.ert_world.specs.{Known.{WasStarted, LawOfStarted, KnowsStarted, NoneIsSettled, LawOfKnownStarts, LawOfNone}, Ways.among}

-- what was started stays so

moved_some : (x y : Option Status) → MayMove x y → x ≢ None → y ≢ None
moved_some None y may some = absurd (some refl)
moved_some (Some Armed) y may some =
    λ is. elim may [ inl a ↦ cc | inr b ↦ elim b [ inl c ↦ cc | inr d ↦ elim d [ inl i ↦ cc | inr j ↦ cc ] ] ]
moved_some (Some Expired) y may some = λ is. elim may [ inl a ↦ cc | inr b ↦ elim b [ inl c ↦ cc | inr d ↦ cc ] ]
moved_some (Some _) y may some = λ is. cc

stays_started : (g : Settings) (timer : TimerRef) (s : State) (m : List Entry) → IsOrdered s → LegalFrom g s m → WasStarted s timer → WasStarted (run g s m) timer
stays_started g timer s [] order legal some = some
stays_started g timer s (e ∷ m) order legal some =
    stays_started g timer (next g s e) m (ordered_next g s e order legal.0) legal.1
    (moved_some (s.status timer) ((next g s e).status timer) (moves_next g s e timer order legal.0) some)

pub started_stays : LawOfStarted
started_stays g timer f m legal some =
    subst (λ (s : State). WasStarted s timer) (sym (state-append g f m))
    (stays_started g timer (state g f) m (ordered g f (legal_first g (opening g) f m legal)) (legal_then g (opening g) f m legal) some)

-- its reference is in range

generation_of : (g : Settings) (h : List Entry) (timer : TimerRef) → Legal g h → WasStarted (state g h) timer → is_generation timer.generation ≡ true
generation_of g h timer legal some =
    let before = (ordered g h legal timer.wheel timer.slot).each timer.generation some in
    grind (arith, nat_tests, before.low, before.small, before.high)

names_started : (g : Settings) (h : List Entry) (timer : TimerRef) → Legal g h → WasStarted (state g h) timer → names_timer g timer ≡ true
names_started g h timer legal some =
    let stands = all_stand g h legal timer some in
    let placed = of_row (IsPlaced g timer.wheel) ((state g h).rows timer.wheel) timer stands.row (rows_placed g h timer.wheel legal) stands.is in
    let slot = subst (λ (r : TimerRef). IsSlot g r.wheel r.slot) (row_named ((state g h).rows timer.wheel) stands.row timer stands.is) placed.place in
    names_both g timer slot (generation_of g h timer legal some)

-- where nothing is left of it, it has settled

settled_by : (g : Settings) (look : ℤ) (x : Option Status) (row : Row) → x ≢ None → None ≡ left_by g look x (Some row) → has_settled x ≡ true
settled_by g look None row some none = absurd (some refl)
settled_by g look (Some Armed) row some none = absurd cc
settled_by g look (Some _) row some none = refl

none_left : (g : Settings) (h : List Entry) (by : Actor) (timer : TimerRef) → Legal g h → WasStarted (state g h) timer
    → None ≡ left_of g (state g h) by timer → has_settled ((state g h).status timer) ≡ true
none_left g h by timer legal some none =
    let stands = all_stand g h legal timer some in
    settled_by g ((state g h).looked by) ((state g h).status timer) stands.row some
    (subst (λ row. None ≡ left_by g ((state g h).looked by) ((state g h).status timer) row) stands.is none)

-- an entry that stands in a piece of a legal history can come there

record ComesAt (g : Settings) (f m : List Entry) (e : Entry) : Type 0 where
  at : List Entry
  between : List Entry
  behind : List Entry
  is : at ≡ f ++ between
  stands : f ++ m ≡ at ++ (e ∷ behind)
  legal : Legal g at
  can : Can g (state g at) e

comes_at : (g : Settings) (f m : List Entry) (e : Entry) → Legal g (f ++ m) → StandsAt m e → ComesAt g f m e
comes_at g f m e legal at =
    let p : List Entry = f ++ at.before in
    let stands : f ++ m ≡ p ++ (e ∷ at.behind) = ap (λ (l : List Entry). f ++ l) at.is ∙ sym (append_assoc f at.before (e ∷ at.behind)) in
    let there = subst (Legal g) stands legal in
    record {
      at = p;
      between = at.before;
      behind = at.behind;
      is = refl;
      stands = stands;
      legal = legal_first g (opening g) p (e ∷ at.behind) there;
      can = (legal_then g (opening g) p (e ∷ at.behind) there).0;
    }

found_none : (g : Settings) (f m : List Entry) (by : Actor) (timer : TimerRef) (e : Entry) → Legal g (f ++ m) → WasStarted (state g f) timer
    → (here : ComesAt g f m e) → None ≡ left_of g (state g here.at) by timer → has_settled ((state g (f ++ m)).status timer) ≡ true
found_none g f m by timer e legal some here none =
    let known = subst (λ (l : List Entry). WasStarted (state g l) timer) (sym here.is)
    (started_stays g timer f here.between (subst (Legal g) here.is here.legal) some) in
    subst (λ (l : List Entry). has_settled ((state g l).status timer) ≡ true) (sym here.stands)
    (settled_timers_stay g here.at (e ∷ here.behind) timer (subst (Legal g) here.stands legal) (none_left g here.at by timer here.legal known none))

peek_found_none : (g : Settings) (f m : List Entry) (by : Actor) (timer : TimerRef) → Legal g (f ++ m) → WasStarted (state g f) timer
    → StandsAt m (peek_entry by timer None) → has_settled ((state g (f ++ m)).status timer) ≡ true
peek_found_none g f m by timer legal some at =
    let here = comes_at g f m (peek_entry by timer None) legal at in
    found_none g f m by timer (peek_entry by timer None) legal some here here.can.found

cancel_found_none : (g : Settings) (f m : List Entry) (by : Actor) (timer : TimerRef) → Legal g (f ++ m) → WasStarted (state g f) timer
    → StandsAt m (cancel_entry by timer None) → has_settled ((state g (f ++ m)).status timer) ≡ true
cancel_found_none g f m by timer legal some at =
    let here = comes_at g f m (cancel_entry by timer None) legal at in
    found_none g f m by timer (cancel_entry by timer None) legal some here here.can.found

-- the entries of a step stand in its piece, in whatever way it is made

record Shown (allows : Step) (m : List Entry) : Type 0 where
  at : State
  es : List Entry
  allowed : allows at es
  stand : (before behind : List Entry) (e : Entry) → es ≡ before ++ (e ∷ behind) → StandsAt m e

abbrev Shows : Way → Type 1
Shows way = (parts : List Actor) (allows : Step) (f m : List Entry) → way parts allows f m → Shown allows m

shows_alone : (g : Settings) → Shows (alone g)
shows_alone g parts allows f m made =
    record { at = state g f; es = m; allowed = made; stand = λ before behind e is. record { before = before; behind = behind; is = is } }

shows_among : (g : Settings) (own : Entry → Bool) → Shows (among g own)
shows_among g own parts allows f m made =
    record { at = state g f; es = filter own m; allowed = made; stand = λ before behind e is. stands_in own m before behind e is }

shows_beside : (g : Settings) (a : Actor) → Shows (beside g a)
shows_beside g a parts allows f m made = record {
  at = state g (f ++ made.before);
  es = made.entries;
  allowed = made.allowed;
  stand = λ before behind e is.
      let at = stands_in (is_ours (parts ++ a ∷ [])) made.during before behind e (made.whole ∙ is) in
      record {
        before = made.before ++ at.before;
        behind = at.behind;
        is = made.parted ∙ (ap (λ (l : List Entry). made.before ++ l) at.is ∙ sym (append_assoc made.before at.before (e ∷ at.behind)));
      };
}

-- who started a timer knows that

armed_by : (g : Settings) (s : State) (by : ℕ) (timer : TimerRef) (start : Start) → (next g s (arm_entry by timer start)).status timer ≡ Some Armed
armed_by g s by timer start = rw (same_timer_self timer, eq-eqb timer.wheel timer.wheel refl) refl

knows_started : (g : Settings) (way : Way) → Shows way → KnowsStarted g way
knows_started g way shows by wheel parts start timer f m legal made =
    let it = shows parts (Starts g by wheel start (Ok timer)) f m made in
    let call = it.allowed in
    let arm : Entry = arm_entry by timer start in
    let at = it.stand (look_entry (Caller by) call.now ∷ call.probes) (mark_entry (Caller by) start.dest false call.was ∷ call.closing) arm call.entries in
    let here = comes_at g f m arm legal at in
    let one : here.at ++ (arm ∷ here.behind) ≡ (here.at ++ arm ∷ []) ++ here.behind = sym (append_assoc here.at (arm ∷ []) here.behind) in
    let whole = subst (Legal g) (here.stands ∙ one) legal in
    let armed : (state g (here.at ++ arm ∷ [])).status timer ≡ Some Armed =
    ap (λ (s : State). s.status timer) (state-append g here.at (arm ∷ [])) ∙ armed_by g (state g here.at) by timer start in
    let some : WasStarted (state g (here.at ++ arm ∷ [])) timer = λ none. cc in
    subst (λ (l : List Entry). WasStarted (state g l) timer) (sym (here.stands ∙ one)) (started_stays g timer (here.at ++ arm ∷ []) here.behind whole some)

-- and a cancel or a read of it that tells nothing tells that it has settled

cancel_none : (g : Settings) (f m : List Entry) (by : Actor) (timer : TimerRef) (it : Shown (Cancels g by timer None) m) → Legal g (f ++ m) → WasStarted (state g f) timer
    → has_settled ((state g (f ++ m)).status timer) ≡ true
cancel_none g f m by timer it legal some = at (names_timer g timer) it.allowed.found named it.allowed.entries
  where
    named : names_timer g timer ≡ true
    named = names_started g f timer (legal_first g (opening g) f m legal) some

    at : (b : Bool) (found : Option ℕ) → b ≡ true → it.es ≡ look_entry by it.allowed.now ∷ cancel_entries b by timer found None
        → has_settled ((state g (f ++ m)).status timer) ≡ true
    at false found out entries = absurd cc
    at true None within entries =
        peek_found_none g f m by timer legal some (it.stand (look_entry by it.allowed.now ∷ []) [] (peek_entry by timer None) entries)
    at true (Some left) within entries =
        cancel_found_none g f m by timer legal some
        (it.stand (look_entry by it.allowed.now ∷ (peek_entry by timer (Some left) ∷ [])) [] (cancel_entry by timer None) entries)

read_none : (g : Settings) (f m : List Entry) (by : Actor) (timer : TimerRef) (it : Shown (Reads g by timer None) m) → Legal g (f ++ m) → WasStarted (state g f) timer
    → has_settled ((state g (f ++ m)).status timer) ≡ true
read_none g f m by timer it legal some = at (names_timer g timer) named it.allowed.entries
  where
    named : names_timer g timer ≡ true
    named = names_started g f timer (legal_first g (opening g) f m legal) some

    at : (b : Bool) → b ≡ true → it.es ≡ look_entry by it.allowed.now ∷ read_entries b by timer None
        → has_settled ((state g (f ++ m)).status timer) ≡ true
    at false out entries = absurd cc
    at true within entries =
        peek_found_none g f m by timer legal some (it.stand (look_entry by it.allowed.now ∷ []) [] (peek_entry by timer None) entries)

none_is_settled : (g : Settings) (way : Way) → Shows way → NoneIsSettled g way
none_is_settled g way shows by parts timer f m legal some made =
    ⊎_elim
    (λ (cancels : way parts (Cancels g by timer None) f m). cancel_none g f m by timer (shows parts (Cancels g by timer None) f m cancels) legal some)
    (λ (reads : way parts (Reads g by timer None) f m). read_none g f m by timer (shows parts (Reads g by timer None) f m reads) legal some)
    made

pub known_starts : LawOfKnownStarts
known_starts g =
    (knows_started g (alone g) (shows_alone g), (λ a. knows_started g (beside g a) (shows_beside g a)), λ own. knows_started g (among g own) (shows_among g own))

pub none_settled : LawOfNone
none_settled g =
    (none_is_settled g (alone g) (shows_alone g), (λ a. none_is_settled g (beside g a) (shows_beside g a)), λ own. none_is_settled g (among g own) (shows_among g own))
