-- A turn puts the messages of all timers that are due.

use Rattle.std.proofs.Common.{◌≡◌, ◌≢◌, ℕ, Bool, false, List, [], ◌∷◌, ◌++◌, filter, Some, Ok, refl, sym, ap, ◌∙◌, subst, append_assoc}
use Rattle.ert_defs.proofs.{Runs.{legal_first, legal_then, state-append}, Slots.ordered}
use Rattle.ert_defs.specs.{Entries.{look_entry, advanced_entry, is_ours}, Legal.Legal, States.{State, opening, state}, Timers.row_of, declared.entry.Actor.Actor, declared.entry.Actor.TheVariants.{Wheel, Sched}, declared.entry.Entry.Entry}
use Rattle.ert_defs.specs.{declared.settings.Settings.Settings, declared.timer.Status.TheVariants.{Cancelled, Orphaned, Delivered}}
use Rattle.ert_effects.specs.{Chains.AdvancesWheel, Ways.{Way, alone, beside}, WheelCalls.{expiry_entries, HasAdvanced}}
use Rattle.ert_laws.proofs.DueMessages.{due_delivered, final_stays, put_once, row_stays}
use Rattle.ert_laws.specs.Punctual.{IsMessagePut}
use Rattle.ert_world.proofs.Places.{StandsAt, stands_in}
use Rattle.ert_world.specs.{DueTurns.{PutsDue, TurnPutsDue, LawOfDueHandings, LawOfDueTurns}, Ways.among}

-- the last of those that pass a test stands in the piece
last_stands : (q : Entry → Bool) (m es : List Entry) (e : Entry) → filter q m ≡ es ++ e ∷ [] → StandsAt m e
last_stands q m es e is = stands_in q m es [] e is

-- the record of an advance stands in its piece, in whatever way it is made

abbrev ShowsAdvance : Settings → Way → Type 0
ShowsAdvance g way = (w : ℕ) (answer : ℕ × ℕ) (h m : List Entry) → AdvancesWheel g way w (Ok answer) h m → StandsAt m (advanced_entry w answer.0)

shows_alone : (g : Settings) → ShowsAdvance g (alone g)
shows_alone g w answer h m made =
    record { before = look_entry (Sched w) made.now ∷ expiry_entries w made.tries; behind = []; is = made.entries }

shows_beside : (g : Settings) (a : Actor) → ShowsAdvance g (beside g a)
shows_beside g a w answer h m made =
    let does : HasAdvanced w answer (state g (h ++ made.before)) made.entries = made.allowed in
    let at = last_stands (is_ours (Wheel w ∷ a ∷ [])) made.during (look_entry (Sched w) does.now ∷ expiry_entries w does.tries) (advanced_entry w answer.0)
    (made.whole ∙ does.entries) in
    record {
      before = made.before ++ at.before;
      behind = at.behind;
      is = made.parted ∙ (ap (λ (l : List Entry). made.before ++ l) at.is ∙ sym (append_assoc made.before at.before (advanced_entry w answer.0 ∷ at.behind)));
    }

shows_among : (g : Settings) (own : Entry → Bool) → ShowsAdvance g (among g own)
shows_among g own w answer h m made =
    last_stands own m (look_entry (Sched w) made.now ∷ expiry_entries w made.tries) (advanced_entry w answer.0) made.entries

-- so what is due is put

puts_due : (g : Settings) (way : Way) → ShowsAdvance g way → PutsDue g way
puts_due g way shows w to expired handed timer row f m after legal turn wheel stands due not_cancelled not_orphaned alive =
    let at = shows w (to, expired) f turn.before turn.one in
    let e : Entry = advanced_entry w to in
    let front : List Entry = f ++ at.before in
    let behind : List Entry = at.behind ++ turn.after in
    let whole : List Entry = f ++ m in
    let parts : (f ++ turn.before) ++ turn.after ≡ whole = append_assoc f turn.before turn.after ∙ ap (λ (l : List Entry). f ++ l) (sym turn.joined) in
    let place : (front ++ e ∷ []) ++ behind ≡ whole =
    append_assoc front (e ∷ []) behind
    ∙ (sym (append_assoc front (e ∷ at.behind) turn.after)
    ∙ (ap (λ (l : List Entry). l ++ turn.after) (append_assoc f at.before (e ∷ at.behind) ∙ ap (λ (l : List Entry). f ++ l) (sym at.is))
    ∙ parts)) in
    let lawful : Legal g whole = legal_first g (opening g) whole after legal in
    let later_row : row_of ((state g front).rows w) timer ≡ Some row =
    ap (λ (s : State). row_of (s.rows w) timer) (state-append g f at.before) ∙ row_stays g w timer row (state g f) at.before stands in
    let end : (P : List Entry → Type 0) → P whole → P ((front ++ e ∷ []) ++ behind) = λ P p. subst P (sym place) p in
    let delivered : (state g whole).status timer ≡ Some Delivered =
    subst (λ (l : List Entry). (state g l).status timer ≡ Some Delivered) place
    (due_delivered g front behind e w to timer row (end (Legal g) lawful) refl wheel later_row due
    (end (λ l. ((state g l).scheds w).expired ≡ []) (subst (λ (l : List Entry). ((state g l).scheds w).expired ≡ []) parts turn.other.done))
    (end (λ l. (state g l).status timer ≢ Some Cancelled) not_cancelled)
    (end (λ l. (state g l).status timer ≢ Some Orphaned) not_orphaned)
    (end (λ l. (state g l).exited row.dest ≡ false) alive)) in
    let last_row : row_of ((state g (whole ++ after)).rows w) timer ≡ Some row =
    ap (λ (s : State). row_of (s.rows w) timer) (state-append g whole after)
    ∙ row_stays g w timer row (state g whole) after
    (ap (λ (s : State). row_of (s.rows w) timer) (state-append g f m) ∙ row_stays g w timer row (state g f) m stands) in
    let last : (state g (whole ++ after)).status timer ≡ Some Delivered =
    ap (λ (s : State). s.status timer) (state-append g whole after)
    ∙ final_stays g timer Delivered (state g whole) after (λ y may. may) (ordered g whole lawful) (legal_then g (opening g) whole after legal) delivered in
    put_once g (whole ++ after) w timer row legal wheel last_row last

-- and so in a whole turn
turn_puts_due : (g : Settings) (way : Way) → PutsDue g way → TurnPutsDue g way
turn_puts_due g way puts w t timer row f m after legal turn wheel stands due not_cancelled not_orphaned alive =
    let front : List Entry = f ++ turn.before in
    let place : front ++ turn.after ≡ f ++ m = append_assoc f turn.before turn.after ∙ ap (λ (l : List Entry). f ++ l) (sym turn.joined) in
    let later_row : row_of ((state g front).rows w) timer ≡ Some row =
    ap (λ (s : State). row_of (s.rows w) timer) (state-append g f turn.before) ∙ row_stays g w timer row (state g f) turn.before stands in
    let back : (P : List Entry → Type 0) → P (f ++ m) → P (front ++ turn.after) = λ P p. subst P (sym place) p in
    subst (λ (l : List Entry). IsMessagePut g (l ++ after) row) place
    (puts w t.to t.expired (t.put, t.dropped) timer row front turn.after after (back (λ l. Legal g (l ++ after)) legal) turn.other wheel later_row due
    (back (λ l. (state g l).status timer ≢ Some Cancelled) not_cancelled)
    (back (λ l. (state g l).status timer ≢ Some Orphaned) not_orphaned)
    (back (λ l. (state g l).exited row.dest ≡ false) alive))

pub due_handings : LawOfDueHandings
due_handings g = (puts_due g (alone g) (shows_alone g), (λ a. puts_due g (beside g a) (shows_beside g a)), λ own. puts_due g (among g own) (shows_among g own))

pub due_turns : LawOfDueTurns
due_turns g =
    let all = due_handings g in
    (turn_puts_due g (alone g) all.0, (λ a. turn_puts_due g (beside g a) (all.1 a)), λ own. turn_puts_due g (among g own) (all.2 own))
