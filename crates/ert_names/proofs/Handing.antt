-- Messages that are handed over one after the other, and the mail of a process among all that waits.

use Rattle.std.proofs.Common.{◌^◌, ◌≡◌, ◌≢◌, Result, Ok, Err, ℕ, zero, suc, ◌+◌, ◌<◌, ◌≤◌, Bool, true, false, cond, nat_eq, List, [], ◌∷◌, ◌++◌, All, length, map, slice_index_or, Option, Some, None, string_bytes, refl, sym, ap, subst, ◌∙◌, arith, append-nil, append_assoc}
use Rattle.std.proofs.lemmas.List.{length-map, length_push, Elements.{All-nil, All-push, filter_map-append}}
use Rattle.std.specs.FinMap as finite
use Rattle.std.specs.{List.{cons_option, filter_map, remove}, Option.{is_some, option_map}}
use Rattle.ert_effects.specs.{Chains.Turns, Ways.{Growth, Way, Then}, declared.answers.StartErr.StartErr, declared.answers.Turned.Turned}
use Rattle.ert_effects.specs.declared.answers.StartErr.TheVariants as starts
use Rattle.ert_defs.specs.{Legal.Legal, declared.memory.NoMemory.NoMemory, declared.settings.Settings.Settings, declared.timer.When.When, declared.timer.TimerRef.TimerRef}
use Rattle.ert_names.specs.{Calls.{HandsMessagesOver, AreCounted, Message, TakesFirst, TakesMany, FindsNoMessage, GoesAlone, HasTurnedAndHanded, HasTurnedInPart, StartsAt, StartsNamed, posted, posted_by, row_at_place, named_mail_of}}
use Rattle.ert_names.specs.{Calls.{ArePast, first_for, others_for}, Handing.{waiting, HasTakenFirst, HandsOne, HandsNone, HandsThem, HandsSome}, Names.Names, Registered.{Registered, RowSeen, row_seen}, declared.named.NamedMail.NamedMail}
use Rattle.ert_names.specs.{declared.named.NamedRow.NamedRow}
use Rattle.ert_world.proofs.Composed.{goes_then, goes_more, goes_nothing}
use Rattle.ert_world.specs.Worlds.{Goes}

-- the row at a place
row_found : (items : List NamedRow) (place : ℕ) (d : NamedRow) → place < length items → row_at_place (map row_seen items) place ≡ Some (row_seen (slice_index_or items place d))
row_found [] place d low = absurd (omega (arith, low))
row_found (r ∷ items) zero d low = refl
row_found (r ∷ items) (suc place) d low = row_found items place d (omega (arith, low))

-- where the message of a row goes
pub posted_row : (names : Names) (items : List NamedRow) (timer : TimerRef) (place : ℕ) (r : NamedRow) (text : List ℕ) (found : Option ℕ)
    → place < length items → r ≡ slice_index_or items place r → text ≡ string_bytes r.name → found ≡ finite.get names text
    → posted names (map row_seen items) (timer, place) ≡ option_map (λ process. (process, named_mail_of timer (row_seen r))) found
posted_row names items timer place r text found low is text_is found_is =
    ap (posted_by names timer) (row_found items place r low ∙ ap (λ x. Some (row_seen x)) (sym is))
    ∙ (ap (λ t. option_map (λ process. (process, named_mail_of timer (row_seen r))) (finite.get names t)) (sym text_is)
    ∙ ap (option_map (λ process. (process, named_mail_of timer (row_seen r)))) (sym found_is))

suc_is : (n : ℕ) → suc n ≡ n + 1
suc_is n = omega arith

-- one message goes to a process, or to none
pub hands_one : (a b : Registered) (n : ℕ) (m : Message) (mail : Option (ℕ × NamedMail)) → n ≡ length a.rows → HasTakenFirst n a.world m b.world → b.names ≡ a.names
    → b.rows ≡ a.rows → posted a.names a.rows m ≡ mail → b.mail ≡ a.mail ++ cons_option mail [] → HandsOne a (is_some mail) b
hands_one a b n m mail rows next names_same rows_same goes_to put = record {
  message = m;
  hands = record { goes = next.goes; names = names_same; rows = rows_same; mail = rw goes_to put };
  is_handed = rw goes_to refl;
  known = subst (λ k. m.1 < k) rows next.known;
  fewer = ap length next.first ∙ suc_is (length (waiting b.world));
}

-- one more than some
pub hands_more : (a b c : Registered) (messages : List Message) (m : Message) → HandsMessagesOver a messages (TakesMany a.world.settings messages) b
    → HandsMessagesOver b (m ∷ []) (TakesFirst b.world.settings m) c → HandsMessagesOver a (messages ++ m ∷ []) (TakesMany a.world.settings (messages ++ m ∷ [])) c
hands_more a b c messages m some one = record {
  goes = record {
    goes = goes_more a.world b.world c.world (λ g way message. TakesFirst g message way) messages m some.goes.goes one.goes.goes;
    lone = some.goes.lone;
  };
  names = one.names ∙ some.names;
  rows = one.rows ∙ some.rows;
  mail = one.mail
      ∙ (ap (λ names. b.mail ++ filter_map (posted names b.rows) (m ∷ [])) some.names
      ∙ (ap (λ rows. b.mail ++ filter_map (posted a.names rows) (m ∷ [])) some.rows
      ∙ (ap (λ l. l ++ filter_map (posted a.names a.rows) (m ∷ [])) some.mail
      ∙ (append_assoc a.mail (filter_map (posted a.names a.rows) messages) (filter_map (posted a.names a.rows) (m ∷ []))
      ∙ ap (λ l. a.mail ++ l) (sym (filter_map-append (posted a.names a.rows) messages (m ∷ [])))))));
}

pub hands_none : (a : Registered) → a.world.next ≡ 1 → Legal a.world.settings a.world.history → HandsMessagesOver a [] (TakesMany a.world.settings []) a
hands_none a lone legal = record {
  goes = record { goes = goes_nothing a.world (TakesMany a.world.settings []) legal refl; lone = lone };
  names = refl;
  rows = refl;
  mail = sym (append-nil a.mail);
}

pub counted_none : (a : Registered) → AreCounted a [] 0 0
counted_none a = record { handed_is = refl; taken_are = refl; known = All-nil (λ (message : Message). message.1 < length a.rows) }

posted_more : (names : Names) (rows : List RowSeen) (messages : List Message) (m : Message)
    → length (filter_map (posted names rows) (messages ++ m ∷ [])) ≡ length (filter_map (posted names rows) messages) + cond (is_some (posted names rows m)) 1 0
posted_more names rows messages m =
    ap length (filter_map-append (posted names rows) messages (m ∷ [])) ∙ at (posted names rows m) refl
  where
    at : (o : Option (ℕ × NamedMail)) → posted names rows m ≡ o
        → length (filter_map (posted names rows) messages ++ filter_map (posted names rows) (m ∷ [])) ≡ length (filter_map (posted names rows) messages) + cond (is_some o) 1 0
    at None is = rw (is, append-nil) (zero_more (length (filter_map (posted names rows) messages)))
      where
        zero_more : (n : ℕ) → n ≡ n + 0
        zero_more n = omega arith
    at (Some mail) is = rw is (length_push (filter_map (posted names rows) messages) mail)

-- how many then were handed over and lost
pub counted_more : (a : Registered) (messages : List Message) (m : Message) (handed lost : ℕ) (b : Bool) → AreCounted a messages handed lost
    → b ≡ is_some (posted a.names a.rows m) → m.1 < length a.rows
    → AreCounted a (messages ++ m ∷ []) (handed + cond b 1 0) (lost + cond b 0 1)
counted_more a messages m handed lost b counted is known = record {
  handed_is = ap (λ n. n + cond b 1 0) counted.handed_is
      ∙ (ap (λ x. length (filter_map (posted a.names a.rows) messages) + cond x 1 0) is ∙ sym (posted_more a.names a.rows messages m));
  taken_are = sum b ∙ sym (length_push messages m);
  known = All-push (λ (message : Message). message.1 < length a.rows) messages m counted.known known;
}
  where
    sum : (b : Bool) → (handed + cond b 1 0) + (lost + cond b 0 1) ≡ length messages + 1
    sum true = let is = counted.taken_are in omega (arith, is)
    sum false = let is = counted.taken_are in omega (arith, is)

-- all are handed over
pub hands_all : (a b c : Registered) (messages : List Message) (handed lost : ℕ) → HandsMessagesOver a messages (TakesMany a.world.settings messages) b
    → AreCounted a messages handed lost → HandsNone b c → HandsThem a (handed, lost) c
hands_all a b c messages handed lost some counted none = record {
  messages = messages;
  hands = record {
    goes = record {
      goes = goes_then a.world b.world c.world (TakesMany a.world.settings messages) FindsNoMessage some.goes.goes none.alone.goes.goes;
      lone = some.goes.lone;
    };
    names = none.alone.names ∙ some.names;
    rows = none.alone.rows ∙ some.rows;
    mail = none.alone.mail ∙ some.mail;
  };
  counted = counted;
  empty = none.empty;
}

pub past_more : (process k : ℕ) (ms : List (ℕ × NamedMail)) (d : ℕ × NamedMail) → ArePast process k ms → nat_eq (slice_index_or ms k d).0 process ≡ false
    → ArePast process (suc k) ms
past_more process zero [] d past not = tt
past_more process zero (m ∷ ms) d past not = (not, tt)
past_more process (suc k) [] d past not = tt
past_more process (suc k) (m ∷ ms) d past not = (past.0, past_more process k ms d past.1 not)

pub found_value : (process k : ℕ) (ms : List (ℕ × NamedMail)) (d : ℕ × NamedMail) → ArePast process k ms → k < length ms
    → nat_eq (slice_index_or ms k d).0 process ≡ true → Some (slice_index_or ms k d).1 ≡ first_for process ms
found_value process k [] d past low is = absurd (omega (arith, low))
found_value process zero (m ∷ ms) d past low is = rw is refl
found_value process (suc k) (m ∷ ms) d past low is = rw past.0 (found_value process k ms d past.1 (omega (arith, low)) is)

pub found_others : (process k : ℕ) (ms : List (ℕ × NamedMail)) (d : ℕ × NamedMail) → ArePast process k ms → k < length ms
    → nat_eq (slice_index_or ms k d).0 process ≡ true → remove ms k ≡ others_for process ms
found_others process k [] d past low is = absurd (omega (arith, low))
found_others process zero (m ∷ ms) d past low is = rw is refl
found_others process (suc k) (m ∷ ms) d past low is = rw past.0 (ap (λ l. m ∷ l) (found_others process k ms d past.1 (omega (arith, low)) is))

pub none_value : (process k : ℕ) (ms : List (ℕ × NamedMail)) → ArePast process k ms → length ms ≤ k → first_for process ms ≡ None
none_value process k [] past all = refl
none_value process zero (m ∷ ms) past all = absurd (omega (arith, all))
none_value process (suc k) (m ∷ ms) past all = rw past.0 (none_value process k ms past.1 (omega (arith, all)))

pub none_others : (process k : ℕ) (ms : List (ℕ × NamedMail)) → ArePast process k ms → length ms ≤ k → others_for process ms ≡ ms
none_others process k [] past all = refl
none_others process zero (m ∷ ms) past all = absurd (omega (arith, all))
none_others process (suc k) (m ∷ ms) past all = rw past.0 (ap (λ l. m ∷ l) (none_others process k ms past.1 (omega (arith, all))))

-- a start that the world refuses, and not because memory ran out
pub refused_named : (a b : Registered) (wheel : ℕ) (when : When) (row : RowSeen) (e : StartErr)
    → ◌≢◌ {A = Result TimerRef StartErr} (Err e) (Err starts.NoMemory)
    → GoesAlone a (StartsAt a wheel when (Err e)) b → StartsNamed a wheel when row (Err e) b
refused_named a b wheel when row starts.BadArg other goes = goes
refused_named a b wheel when row starts.Full other goes = goes
refused_named a b wheel when row starts.NoMemory other goes = absurd (other refl)

-- one row more
pub place_of : (len : ℕ) (rows items : List NamedRow) → len ≡ length rows → rows ≡ items → len ≡ length items
place_of len rows items is same = is ∙ ap length same

pub place_is : (len : ℕ) (rows items : List NamedRow) → len ≡ length rows → rows ≡ items → len ≡ length (map row_seen items)
place_is len rows items is same = place_of len rows items is same ∙ sym (length-map items row_seen)

pub longer_by : (rows items : List NamedRow) (r : NamedRow) → rows ≡ items ++ r ∷ [] → length rows ≡ length items + 1
longer_by rows items r is = ap length is ∙ length_push items r

-- where a process has no mail, none goes
pub none_goes : (process : ℕ) (ms : List (ℕ × NamedMail)) → first_for process ms ≡ None → others_for process ms ≡ ms
none_goes process [] none = refl
none_goes process (m ∷ ms) none = at (nat_eq m.0 process) (none_goes process ms) none
  where
    at : (b : Bool) → (first_for process ms ≡ None → others_for process ms ≡ ms) → cond b (Some m.1) (first_for process ms) ≡ None
        → cond b ms (m ∷ others_for process ms) ≡ m ∷ ms
    at true rest is = absurd cc
    at false rest is = ap (λ l. m ∷ l) (rest is)

-- the counts of a loop that hands over one message more
counted_in : (a b : Registered) (messages : List Message) (m : Message) (handed lost : ℕ) (x : Bool) → AreCounted a messages handed lost
    → b.names ≡ a.names → b.rows ≡ a.rows → x ≡ is_some (posted b.names b.rows m) → m.1 < length b.rows
    → AreCounted a (messages ++ m ∷ []) (handed + cond x 1 0) (lost + cond x 0 1)
counted_in a b messages m handed lost x counted names rows is known =
    counted_more a messages m handed lost x counted
    (is ∙ (ap (λ n. is_some (posted n b.rows m)) names ∙ ap (λ r. is_some (posted a.names r m)) rows))
    (subst (λ (r : List RowSeen). m.1 < length r) rows known)

none_more : (n : ℕ) → n + 0 ≡ n
none_more n = omega arith

pub counted_true : (a b : Registered) (messages : List Message) (m : Message) (handed lost : ℕ) → AreCounted a messages handed lost
    → b.names ≡ a.names → b.rows ≡ a.rows → true ≡ is_some (posted b.names b.rows m) → m.1 < length b.rows
    → AreCounted a (messages ++ m ∷ []) (handed + 1) lost
counted_true a b messages m handed lost counted names rows is known =
    subst (AreCounted a (messages ++ m ∷ []) (handed + 1)) (none_more lost) (counted_in a b messages m handed lost true counted names rows is known)

pub counted_false : (a b : Registered) (messages : List Message) (m : Message) (handed lost : ℕ) → AreCounted a messages handed lost
    → b.names ≡ a.names → b.rows ≡ a.rows → false ≡ is_some (posted b.names b.rows m) → m.1 < length b.rows
    → AreCounted a (messages ++ m ∷ []) handed (lost + 1)
counted_false a b messages m handed lost counted names rows is known =
    subst (λ n. AreCounted a (messages ++ m ∷ []) n (lost + 1)) (none_more handed) (counted_in a b messages m handed lost false counted names rows is known)

-- messages that are handed over after a turn of the scheduler
hands_after : (a b c : Registered) (sched : ℕ) (t : Turned) (answer : Result Turned NoMemory) (messages : List Message) (call : Settings → Way → Growth)
    → answer ≡ Ok t → Goes a.world (λ way. Turns a.world.settings way sched answer) b.world → a.world.next ≡ 1 → b.names ≡ a.names → b.rows ≡ a.rows
    → b.mail ≡ a.mail → HandsMessagesOver b messages (call b.world.settings) c
    → HandsMessagesOver a messages (λ way. Then (Turns a.world.settings way sched (Ok t)) (call a.world.settings way)) c
hands_after a b c sched t answer messages call is goes lone names rows mail hands = record {
  goes = record {
    goes = goes_then a.world b.world c.world (λ way. Turns a.world.settings way sched (Ok t)) call
        (subst (λ r. Goes a.world (λ way. Turns a.world.settings way sched r) b.world) is goes) hands.goes.goes;
    lone = lone;
  };
  names = hands.names ∙ names;
  rows = hands.rows ∙ rows;
  mail = hands.mail
      ∙ (ap (λ m. m ++ filter_map (posted b.names b.rows) messages) mail
      ∙ (ap (λ n. a.mail ++ filter_map (posted n b.rows) messages) names ∙ ap (λ r. a.mail ++ filter_map (posted a.names r) messages) rows));
}

pub turned : (a b c : Registered) (sched : ℕ) (t : Turned) (turn : Result Turned NoMemory) (answer : ℕ × ℕ) → turn ≡ Ok t
    → Goes a.world (λ way. Turns a.world.settings way sched turn) b.world → a.world.next ≡ 1 → b.names ≡ a.names → b.rows ≡ a.rows → b.mail ≡ a.mail
    → HandsThem b answer c → HasTurnedAndHanded a sched (record { turned = t; handed = answer.0; lost = answer.1 }) c
turned a b c sched t turn answer is goes lone names rows mail hands = record {
  messages = hands.messages;
  hands = hands_after a b c sched t turn hands.messages (λ g way. Then (TakesMany g hands.messages way) (FindsNoMessage g way)) is goes lone names rows mail hands.hands;
  counted = record {
    handed_is = hands.counted.handed_is
        ∙ (ap (λ n. length (filter_map (posted n b.rows) hands.messages)) names ∙ ap (λ r. length (filter_map (posted a.names r) hands.messages)) rows);
    taken_are = hands.counted.taken_are;
    known = subst (λ (r : List RowSeen). All (λ (message : Message). message.1 < length r) hands.messages) rows hands.counted.known;
  };
  empty = hands.empty;
}

pub stopped : (a b c : Registered) (sched : ℕ) (t : Turned) (turn : Result Turned NoMemory) → turn ≡ Ok t
    → Goes a.world (λ way. Turns a.world.settings way sched turn) b.world → a.world.next ≡ 1 → b.names ≡ a.names → b.rows ≡ a.rows → b.mail ≡ a.mail
    → HandsSome b c → HasTurnedInPart a sched c
stopped a b c sched t turn is goes lone names rows mail hands = record {
  turned = t;
  messages = hands.messages;
  hands = hands_after a b c sched t turn hands.messages (λ g. TakesMany g hands.messages) is goes lone names rows mail hands.hands;
}

-- the counts of those that were handed over and of those that were lost stay few
pub few_handed : (handed lost n m : ℕ) → (handed + lost) + n ≤ 2 ^ 63 → n ≡ m + 1 → ((handed + 1) + lost) + m ≤ 2 ^ 63
few_handed handed lost n m few fewer = omega (arith, few, fewer)

pub few_lost : (handed lost n m : ℕ) → (handed + lost) + n ≤ 2 ^ 63 → n ≡ m + 1 → (handed + (lost + 1)) + m ≤ 2 ^ 63
few_lost handed lost n m few fewer = omega (arith, few, fewer)
