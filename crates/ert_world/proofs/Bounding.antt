-- Steps one after the other are a turn with a bound, whatever makes them.

use Rattle.std.proofs.Common.{◌≡◌, ℕ, ◌+◌, ◌<◌, ◌≤◌, Bool, true, false, ◌||◌, List, [], ◌∷◌, ◌++◌, length, None, Ok, Err, inl, inr, refl, subst, arith}
use Rattle.std.specs.Option.{is_some}
use Rattle.ert_defs.specs.{Mails.first_of, States.state, Timers.Row, declared.entry.Entry.Entry, declared.memory.NoMemory.NoMemory, declared.settings.Settings.Settings}
use Rattle.ert_effects.specs.{Chains.{ServesAll, Hands, HandsMany, puts, drops}, SomeCalls.{AdvancesWheelSome, is_more}, Ways.{Way, Then}, declared.answers.Handed.Handed, declared.answers.Handed.TheVariants.{Put, Dropped}}
use Rattle.ert_effects.specs.{declared.answers.Left.Left, declared.answers.Turned.Turned}
use Rattle.ert_world.proofs.Chained.{Made, Same, made_then}
use Rattle.ert_world.specs.Bounded.{AreLeft, DeliversSome, TurnsSome}

-- each that was handed over was put or thrown away
pub puts_drops : (hows : List Handed) → puts hows + drops hows ≡ length hows
puts_drops [] = refl
puts_drops (Put ∷ hows) = let more = puts_drops hows in omega (arith, more)
puts_drops (Dropped ∷ hows) = let more = puts_drops hows in omega (arith, more)

-- a list of which there is no first one is empty
pub none_left : (most count : ℕ) (expired : List Row) → first_of expired ≡ None → AreLeft false most count expired
none_left most count [] none = refl
none_left most count (row ∷ expired) none = absurd cc

-- so many as may be
pub at_most : (hows : List Handed) (most put dropped : ℕ) → put ≡ puts hows → dropped ≡ drops hows → put + dropped ≤ most → most ≤ put + dropped
    → length hows ≡ most
at_most hows most put dropped put_is dropped_is few all = let sum = puts_drops hows in omega (arith, sum, put_is, dropped_is, few, all)

-- what is told of the list after the most
pub are_left : (more : Bool) (most count : ℕ) (expired : List Row) → count ≡ most → more ≡ is_some (first_of expired) → AreLeft more most count expired
are_left true most count [] all is = absurd cc
are_left true most count (row ∷ expired) all is = (all, λ none. absurd cc)
are_left false most count [] all is = refl
are_left false most count (row ∷ expired) all is = absurd cc

-- and where the list is told to have more, all that may be were handed over
pub delivered_most : (g : Settings) (way : Way) (w most : ℕ) (answer : ℕ × ℕ × Bool) (h m : List Entry) → DeliversSome g way w most (Ok answer) h m
    → answer.2 ≡ true → answer.0 + answer.1 ≡ most
delivered_most g way w most answer h m done more =
    let rest : AreLeft true most (length done.hows) ((state g (h ++ m)).scheds w).expired =
    subst (λ b. AreLeft b most (length done.hows) ((state g (h ++ m)).scheds w).expired) more done.rest in
    omega (arith, rest.0, puts_drops done.hows, done.put_is, done.dropped_is)

-- over what tells settings, history and mark of whatever makes the steps, and how these come about for one actor
module _ {S : Type 0} (settings : S → Settings) (history : S → List Entry) (mark : S → ℕ) (way : Settings → ℕ → ℕ → Way) (w : ℕ) where
  abbrev Does : (Settings → Way → List Entry → List Entry → Type 0) → S → S → Type 0
  Does call a b = Made settings history mark way w call a b

  abbrev Alike : S → S → Type 0
  Alike a b = Same settings history mark way w a b

  -- so many were handed over, and this is told of the rest
  pub delivered_some : (most put dropped : ℕ) (more : Bool) (hows : List Handed) (a b : S) → Alike a b → Does (λ g way. HandsMany g way w hows) a b
      → put ≡ puts hows → dropped ≡ drops hows → put + dropped ≤ most
      → AreLeft more most (length hows) ((state (settings b) (history b)).scheds w).expired
      → Does (λ g way. DeliversSome g way w most (Ok (put, dropped, more))) a b
  delivered_some most put dropped more hows a b same runs put_is dropped_is few rest = record {
    piece = runs.piece;
    grown = runs.grown;
    made = record {
      hows = hows;
      runs = runs.made;
      few = (let all = puts_drops hows in omega (arith, all, put_is, dropped_is, few));
      put_is = put_is;
      dropped_is = dropped_is;
      rest = subst (λ (h : List Entry). AreLeft more most (length hows) ((state (settings a) h).scheds w).expired) runs.grown
          (subst (λ (g : Settings). AreLeft more most (length hows) ((state g (history b)).scheds w).expired) same.0 rest);
    };
  }

  -- fewer were handed over, and there was no memory for the next
  pub undelivered_some : (most put dropped : ℕ) (e : NoMemory) (hows : List Handed) (a b c : S) → Alike a b → Does (λ g way. HandsMany g way w hows) a b
      → put ≡ puts hows → dropped ≡ drops hows → put + dropped < most → Does (λ g way. Hands g way w (Err e)) b c
      → Does (λ g way. DeliversSome g way w most (Err e)) a c
  undelivered_some most put dropped e hows a b c same runs put_is dropped_is few next =
      let both = made_then settings history mark way w (λ g way. HandsMany g way w hows) (λ g way. Hands g way w (Err e)) a b c same runs next in
      record {
        piece = both.piece;
        grown = both.grown;
        made = record { hows = hows; few = (let all = puts_drops hows in omega (arith, all, put_is, dropped_is, few)); runs = both.made };
      }

  pub turned_some : (most : ℕ) (a b c d : S) (t : Turned) (left : Left) (waits : Bool) → Alike a b → Alike b c → Does (λ g way. ServesAll g way w (Ok t.served)) a b
      → Does (λ g way. AdvancesWheelSome g way w most (Ok (t.to, t.expired, left))) b c
      → Does (λ g way. DeliversSome g way w most (Ok (t.put, t.dropped, waits))) c d
      → Does (λ g way. TurnsSome g way w most (Ok (t, (is_more left || waits)))) a d
  turned_some most a b c d t left waits on_b on_c one two three =
      let all = made_then settings history mark way w (λ g way. ServesAll g way w (Ok t.served))
      (λ g way. Then (AdvancesWheelSome g way w most (Ok (t.to, t.expired, left))) (DeliversSome g way w most (Ok (t.put, t.dropped, waits)))) a b d on_b one
      (made_then settings history mark way w (λ g way. AdvancesWheelSome g way w most (Ok (t.to, t.expired, left)))
      (λ g way. DeliversSome g way w most (Ok (t.put, t.dropped, waits))) b c d on_c two three) in
      record { piece = all.piece; grown = all.grown; made = record { left = left; waits = waits; more_is = refl; runs = all.made } }

  pub turn_some_unserved : (most : ℕ) (a b : S) (e : NoMemory) → Does (λ g way. ServesAll g way w (Err e)) a b
      → Does (λ g way. TurnsSome g way w most (Err e)) a b
  turn_some_unserved most a b e one = record { piece = one.piece; grown = one.grown; made = inl one.made }

  pub turn_some_unadvanced : (most : ℕ) (a b c : S) (served : ℕ) (e : NoMemory) → Alike a b
      → Does (λ g way. ServesAll g way w (Ok served)) a b → Does (λ g way. AdvancesWheelSome g way w most (Err e)) b c
      → Does (λ g way. TurnsSome g way w most (Err e)) a c
  turn_some_unadvanced most a b c served e same one two =
      let both = made_then settings history mark way w (λ g way. ServesAll g way w (Ok served)) (λ g way. AdvancesWheelSome g way w most (Err e)) a b c same one two in
      record { piece = both.piece; grown = both.grown; made = inr (inl (served, both.made)) }

  pub turn_some_undelivered : (most : ℕ) (a b c d : S) (served : ℕ) (answer : ℕ × ℕ × Left) (e : NoMemory) → Alike a b → Alike b c
      → Does (λ g way. ServesAll g way w (Ok served)) a b → Does (λ g way. AdvancesWheelSome g way w most (Ok answer)) b c
      → Does (λ g way. DeliversSome g way w most (Err e)) c d → Does (λ g way. TurnsSome g way w most (Err e)) a d
  turn_some_undelivered most a b c d served answer e on_b on_c one two three =
      let all = made_then settings history mark way w (λ g way. ServesAll g way w (Ok served))
      (λ g way. Then (AdvancesWheelSome g way w most (Ok answer)) (DeliversSome g way w most (Err e))) a b d on_b one
      (made_then settings history mark way w (λ g way. AdvancesWheelSome g way w most (Ok answer)) (λ g way. DeliversSome g way w most (Err e)) b c d on_c two three) in
      record { piece = all.piece; grown = all.grown; made = inr (inr (served, answer, all.made)) }
