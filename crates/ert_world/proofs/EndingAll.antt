-- Timers of a process are cancelled one after the other, wheel by wheel.

use Rattle.std.proofs.Common.{◌≡◌, ◌≢◌, ℕ, suc, ◌+◌, ◌<◌, ◌≤◌, Bool, true, false, cond, sum, List, [], ◌∷◌, ◌++◌, length, count_by, slice_index_or, Option, Some, None, refl, sym, ap, subst, ◌∙◌, arith}
use mir.Val.{bool_byte}
use Rattle.std.specs.FinSet as set
use Rattle.std.specs.Option.{is_some}
use Rattle.std.proofs.lemmas.List.Sums.{sum_by-append}
use Rattle.ert_defs.specs.{Legal.Legal, States.state, declared.entry.Actor.TheVariants.Caller, declared.entry.Entry.Entry, declared.settings.Settings.Settings, declared.timer.TimerRef.TimerRef}
use Rattle.ert_effects.specs.{TimerCalls.Cancels, WheelCalls.IsSwept, Ways.{Way, Many}}
use Rattle.ert_timers.specs.{Freeing.IsHeld, Parts.Part, Passed.LosesRows, Slots.Slot}
use Rattle.ert_timers.proofs.Passing.{same_last}
use Rattle.ert_wheel.specs.{Rows.key_in, declared.row.Key.Key}
use Rattle.ert_world.proofs.{Alone.went, Composed.{goes_more, goes_nothing}}
use Rattle.ert_world.specs.{Cancelling.{Ended, cancelled_of, IsOther, AreTriedOnce, CancelsOne, CancelsOn, numbered, IsHeldAt}, Held.HoldsFewer, Stepping.Stays, Worlds.{Seen, Goes, By, HasForgotten, LoseRows}}

-- a part that isn't there
abbrev pub no_part : Part
no_part = record { number = 0; processes = 0; slots = []; keys = []; free = set.empty; arms = 0; expires = 0; orphans = 0; passed = 0; next_look = 0; stands = [] }

-- how many rows a wheel of a world holds
abbrev pub rows_at : Seen → ℕ → ℕ
rows_at w i = count_by is_some (slice_index_or w.wheels i no_part).keys

-- the wheels of a world hold none of these timers
abbrev pub AllGone : Seen → List Ended → Type 0
AllGone w [] = Unit {0}
AllGone w (e ∷ es) = HasForgotten w e.timer × AllGone w es

-- a row that is held was held before
held_before : (p q : Part) (timer : TimerRef) → LosesRows p q → IsHeld q timer → IsHeld p timer
held_before p q timer loses held = record {
  low = subst (λ (slots : List Slot). timer.slot < length slots) loses.slots held.low;
  named = held.named ∙ same_last p q timer.slot loses;
  row = λ none. held.row (at (key_in q.keys timer.slot) refl none);
}
  where
    at : (o : Option Key) → key_in q.keys timer.slot ≡ o → key_in p.keys timer.slot ≡ None → key_in q.keys timer.slot ≡ None
    at None is none = is
    at (Some key) is none = (let clash : None ≡ Some key = sym none ∙ loses.left timer.slot key is in absurd cc)

gone_on : (b c : Seen) (es : List Ended) → LoseRows b c → AllGone b es → AllGone c es
gone_on b c [] rows all = tt
gone_on b c (e ∷ es) rows all = (λ d held. all.0 d (held_before _ _ e.timer (rows e.timer.wheel d) held), gone_on b c es rows all.1)

gone_push : (w : Seen) (es : List Ended) (e : Ended) → AllGone w es → HasForgotten w e.timer → AllGone w (es ++ e ∷ [])
gone_push w [] e all one = (one, tt)
gone_push w (x ∷ es) e all one = (all.0, gone_push w es e all.1 one)

other_push : (timer : TimerRef) (es : List Ended) (e : Ended) → IsOther timer es → e.timer ≢ timer → IsOther timer (es ++ e ∷ [])
other_push timer [] e all one = (one, tt)
other_push timer (x ∷ es) e all one = (all.0, other_push timer es e all.1 one)

-- a timer that is held is none of those that are gone
once_push : (w : Seen) (es : List Ended) (e : Ended) → AllGone w es → AreTriedOnce es → ((d : Part) → IsHeld (slice_index_or w.wheels e.timer.wheel d) e.timer)
    → AreTriedOnce (es ++ e ∷ [])
once_push w [] e gone once held = (tt, tt)
once_push w (x ∷ es) e gone once held =
    let apart : e.timer ≢ x.timer = λ is.
    gone.0 no_part (subst (λ (t : TimerRef). IsHeld (slice_index_or w.wheels t.wheel no_part) t) is (held no_part)) in
    (other_push x.timer es e once.0 apart, once_push w es e gone.1 once.1 held)

cancelled_push : (es : List Ended) (e : Ended) → cancelled_of (es ++ e ∷ []) ≡ cancelled_of es + cond (is_some e.left) 1 0
cancelled_push [] e = omega arith
cancelled_push (x ∷ es) e = let more = cancelled_push es e in omega (arith, more)

-- a timer for the process is cancelled
one_ended : (a b : Seen) (w process : ℕ) (e : Ended) → IsHeldAt a w process (Some e.timer) → Goes a (By a (λ g. Cancels g (Caller 0) e.timer e.left)) b
    → Goes a (λ way. CancelsOne a.settings way w process e) b
one_ended a b w process e held goes =
    went a b (λ (way : Way). CancelsOne a.settings way w process e)
    (record { piece = goes.grows.piece; grown = goes.grows.grown; made = record { of = held.2; cancels = goes.grows.made } })
    goes.legal goes.table goes.settings goes.clock goes.next goes.turns

-- timers of a wheel were ended so far
pub record EndsSome (a b : Seen) (w process count : ℕ) : Type 0 where
  pub es : List Ended
  pub once : AreTriedOnce es
  pub gone : AllGone b es
  pub count_is : count ≡ cancelled_of es
  pub runs : Goes a (λ way. Many (CancelsOne a.settings way w process) es) b
  pub bound : count + rows_at b w ≤ rows_at a w

pub ends_none : (a : Seen) (w process : ℕ) → Legal a.settings a.history → EndsSome a a w process 0
ends_none a w process legal = record {
  es = [];
  once = tt;
  gone = tt;
  count_is = refl;
  runs = goes_nothing a (λ (way : Way). Many (CancelsOne a.settings way w process) []) legal refl;
  bound = omega arith;
}

-- one more
pub ends_more : (a b c : Seen) (w process count one : ℕ) (timer : TimerRef) (left : Option ℕ) → EndsSome a b w process count → IsHeldAt b w process (Some timer)
    → Goes b (By b (λ g. Cancels g (Caller 0) timer left)) c → Stays b c → HasForgotten c timer
    → count_by is_some (slice_index_or c.wheels w no_part).keys < count_by is_some (slice_index_or b.wheels w no_part).keys
    → one ≡ cond (is_some left) 1 0 → EndsSome a c w process (count + one)
ends_more a b c w process count one timer left some held goes stays gone fewer is =
    let e : Ended = record { timer = timer; left = left } in
    let push = cancelled_push some.es e in
    let small : cond (is_some left) 1 0 ≤ 1 = at_most left in
    record {
      es = some.es ++ e ∷ [];
      once = once_push b some.es e some.gone some.once (λ d. subst (λ i. IsHeld (slice_index_or b.wheels i d) timer) (sym held.0) (held.1 d));
      gone = gone_push c some.es e (gone_on b c some.es stays.rows some.gone) gone;
      count_is = omega (arith, push, some.count_is, is);
      runs = goes_more a b c (λ (g : Settings) (way : Way) (x : Ended). CancelsOne g way w process x) some.es e some.runs (one_ended b c w process e held goes);
      bound = omega (arith, some.bound, fewer, is, small);
    }
  where
    at_most : (x : Option ℕ) → cond (is_some x) 1 0 ≤ 1
    at_most None = omega arith
    at_most (Some n) = omega arith

-- none is left
pub ends_all : (a b : Seen) (w process count : ℕ) → EndsSome a b w process count → IsHeldAt b w process None
    → Goes a (λ way. CancelsOn a.settings way process (w, count)) b
ends_all a b w process count some none =
    went a b (λ (way : Way). CancelsOn a.settings way process (w, count)) (record {
      piece = some.runs.grows.piece;
      grown = some.runs.grows.grown;
      made = record {
        ended = some.es;
        once = some.once;
        runs = some.runs.grows.made;
        count = some.count_is;
        swept = subst (λ (h : List Entry). IsSwept (state a.settings h) w process) some.runs.grows.grown
            (subst (λ (g : Settings). IsSwept (state g b.history) w process) some.runs.settings none);
      };
    }) some.runs.legal some.runs.table some.runs.settings some.runs.clock some.runs.next some.runs.turns

-- wheel by wheel
pub record EndsWheels (a b : Seen) (process wheels count : ℕ) : Type 0 where
  pub counts : List ℕ
  pub many : length counts ≡ wheels
  pub total : count ≡ sum counts
  pub runs : Goes a (λ way. Many (CancelsOn a.settings way process) (numbered 0 counts)) b

pub wheels_none : (a : Seen) (process : ℕ) → Legal a.settings a.history → EndsWheels a a process 0 0
wheels_none a process legal = record {
  counts = [];
  many = refl;
  total = refl;
  runs = goes_nothing a (λ (way : Way). Many (CancelsOn a.settings way process) []) legal refl;
}

numbered_push : (w : ℕ) (ns : List ℕ) (n : ℕ) → numbered w (ns ++ n ∷ []) ≡ numbered w ns ++ (w + length ns, n) ∷ []
numbered_push w [] n = ap (λ k. (k, n) ∷ []) (let e : w ≡ w + 0 = omega arith in e)
numbered_push w (x ∷ ns) n =
    ap (λ l. (w, x) ∷ l) (numbered_push (suc w) ns n ∙ ap (λ k. numbered (suc w) ns ++ (k, n) ∷ []) (let e : suc w + length ns ≡ w + length (x ∷ ns) = omega arith in e))

length_push : (ns : List ℕ) (n : ℕ) → length (ns ++ n ∷ []) ≡ length ns + 1
length_push [] n = omega arith
length_push (x ∷ ns) n = let more = length_push ns n in omega (arith, more)

pub wheels_more : (a b c : Seen) (process wheels count one : ℕ) → EndsWheels a b process wheels count
    → Goes b (λ way. CancelsOn b.settings way process (wheels, one)) c → EndsWheels a c process (wheels + 1) (count + one)
wheels_more a b c process wheels count one some goes =
    let more : length (some.counts ++ one ∷ []) ≡ wheels + 1 = (let push = length_push some.counts one in omega (arith, push, some.many)) in
    let total : count + one ≡ sum (some.counts ++ one ∷ []) = (let push = sum_by-append (λ n. n) some.counts (one ∷ []) in omega (arith, push, some.total)) in
    let at : (wheels, one) ≡ (0 + length some.counts, one) = ap (λ k. (k, one)) (let e : wheels ≡ 0 + length some.counts = omega (arith, some.many) in e) in
    record {
      counts = some.counts ++ one ∷ [];
      many = more;
      total = total;
      runs = subst (λ l. Goes a (λ way. Many (CancelsOn a.settings way process) l) c) (sym (numbered_push 0 some.counts one))
          (goes_more a b c (λ (g : Settings) (way : Way) (x : ℕ × ℕ). CancelsOn g way process x) (numbered 0 some.counts) (0 + length some.counts, one) some.runs
          (subst (λ x. Goes b (λ way. CancelsOn b.settings way process x) c) at goes));
    }

-- what a wheel holds and how many rows it has are those of the wheel of the timer
pub held_same : (b c : Seen) (i : ℕ) (timer : TimerRef) → c ≡ b → timer.wheel ≡ i → ((d : Part) → IsHeld (slice_index_or b.wheels i d) timer)
    → (d : Part) → IsHeld (slice_index_or c.wheels timer.wheel d) timer
held_same b c i timer same wheel held d =
    subst (λ (w : Seen). IsHeld (slice_index_or w.wheels timer.wheel d) timer) (sym same)
    (subst (λ n. IsHeld (slice_index_or b.wheels n d) timer) (sym wheel) (held d))

pub fewer_at : (b c : Seen) (i j : ℕ) → j ≡ i → HoldsFewer b c j 1 → rows_at c i < rows_at b i
fewer_at b c i j same fewer =
    let less : rows_at c i + 1 ≤ rows_at b i = subst (λ n. rows_at c n + 1 ≤ rows_at b n) same (fewer no_part) in
    omega (arith, less)

-- a flag as a number
pub byte_is : (b : Bool) → bool_byte b ≡ cond b 1 0
byte_is true = refl
byte_is false = refl

pub byte_low : (b : Bool) → bool_byte b ≤ 1
byte_low true = omega arith
byte_low false = omega arith
