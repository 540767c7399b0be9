-- The rows of the timers of a wheel that expired: just those, each once.

use Rattle.std.proofs.Common.{◌≡◌, ◌≢◌, ◌⊎◌, inl, inr, ℕ, Bool, true, false, cond, ◌||◌, nat_eq, List, [], ◌∷◌, ◌++◌, Option, Some, None, refl, sym, ap, ◌∙◌, subst, append-nil, eqb-true, eq-eqb}
use Rattle.std.specs.Option.{option_to_list}
use Rattle.ert_defs.specs.{Actors.has_actor, Laws.MayMove, Legal.{Can, Legal}, States.{State, next, state}, Timers.{Row, row_of, same_timer, settled_as}, declared.entry.Actor.Actor, declared.entry.Actor.TheVariants.Wheel}
use Rattle.ert_defs.specs.{declared.entry.Entry.Entry, declared.entry.Event.Event, declared.entry.Event.TheVariants.Expire, declared.settings.Settings.Settings, declared.timer.Status.Status, declared.timer.Status.TheVariants.Armed}
use Rattle.ert_defs.specs.{declared.timer.Status.TheVariants.{Expired, Delivered, Cancelled, Orphaned, Dropped}, declared.timer.TimerRef.TimerRef}
use Rattle.ert_defs.proofs.{ExpiredLists.made, ExpiredTimers.{row_kept, row_named, same_timer_self}, Runs.carry, Settlings.moves_next, Slots.{IsOrdered, ordered, same_timer-true}}
use Rattle.ert_laws.specs.MailOrder.{expired_in, expired_of}
use Rattle.ert_laws.proofs.{Histories.{by_entries, state-more, gathered-more}, Waiting.{expires, next_has_row, waits_in, waits-append, was_expired}}

-- whether a timer has expired, whatever became of it then
abbrev pub has_expired : Option Status → Bool
has_expired (Some Expired) = true
has_expired (Some Delivered) = true
has_expired (Some Dropped) = true
has_expired _ = false

expired_stays : (x y : Option Status) → MayMove x y → has_expired x ≡ true → has_expired y ≡ true
expired_stays None y may is = let clash : false ≡ true = is in absurd cc
expired_stays (Some Armed) y may is = let clash : false ≡ true = is in absurd cc
expired_stays (Some Cancelled) y may is = let clash : false ≡ true = is in absurd cc
expired_stays (Some Orphaned) y may is = let clash : false ≡ true = is in absurd cc
expired_stays (Some Expired) y (inl same) is = ap has_expired same
expired_stays (Some Expired) y (inr (inl same)) is = ap has_expired same
expired_stays (Some Expired) y (inr (inr same)) is = ap has_expired same
expired_stays (Some Delivered) y may is = ap has_expired may
expired_stays (Some Dropped) y may is = ap has_expired may

-- what has expired after an entry had so before, or is expired
became : (x y : Option Status) → MayMove x y → has_expired y ≡ true → (has_expired x ≡ true) ⊎ (y ≡ Some Expired)
became None y (inl same) is = let clash : false ≡ true = ap has_expired (sym same) ∙ is in absurd cc
became None y (inr same) is = let clash : false ≡ true = ap has_expired (sym same) ∙ is in absurd cc
became (Some Armed) y (inl same) is = let clash : false ≡ true = ap has_expired (sym same) ∙ is in absurd cc
became (Some Armed) y (inr (inl same)) is = inr same
became (Some Armed) y (inr (inr (inl same))) is = let clash : false ≡ true = ap has_expired (sym same) ∙ is in absurd cc
became (Some Armed) y (inr (inr (inr same))) is = let clash : false ≡ true = ap has_expired (sym same) ∙ is in absurd cc
became (Some Expired) y may is = inl refl
became (Some Delivered) y may is = inl refl
became (Some Dropped) y may is = inl refl
became (Some Cancelled) y may is = let clash : false ≡ true = ap has_expired (sym may) ∙ is in absurd cc
became (Some Orphaned) y may is = let clash : false ≡ true = ap has_expired (sym may) ∙ is in absurd cc

-- none of these rows is of the timer
abbrev pub NoneOf : TimerRef → List Row → Type 0
NoneOf t [] = Unit {0}
NoneOf t (r ∷ rows) = (r.timer ≢ t) × NoneOf t rows

-- each of these rows is that of its timer, which has expired
abbrev pub EachExpired : State → ℕ → List Row → Type 0
EachExpired s w [] = Unit {0}
EachExpired s w (r ∷ rows) = (row_of (s.rows w) r.timer ≡ Some r) × (has_expired (s.status r.timer) ≡ true) × EachExpired s w rows

-- no timer has two of these rows
abbrev pub AreSingle : List Row → Type 0
AreSingle [] = Unit {0}
AreSingle (r ∷ rows) = NoneOf r.timer rows × AreSingle rows

pub record HaveExpired (s : State) (w : ℕ) (expired : List Row) : Type 0 where
  pub each : EachExpired s w expired
  pub single : AreSingle expired
  pub all : (r : TimerRef) → r.wheel ≡ w → has_expired (s.status r) ≡ true → waits_in r expired ≡ true

each_stays : (g : Settings) (s : State) (e : Entry) (w : ℕ) (rows : List Row) → IsOrdered s → Can g s e → EachExpired s w rows → EachExpired (next g s e) w rows
each_stays g s e w [] order can h = tt
each_stays g s e w (r ∷ rows) order can h = (
  row_kept g (s.looked e.by) w (s.rows w) r r.timer (has_actor e (Wheel w)) e.event h.0,
  expired_stays (s.status r.timer) ((next g s e).status r.timer) (moves_next g s e r.timer order can) h.1,
  each_stays g s e w rows order can h.2,
)

each-append : (s : State) (w : ℕ) (rows : List Row) (r : Row) → EachExpired s w rows → row_of (s.rows w) r.timer ≡ Some r → has_expired (s.status r.timer) ≡ true
    → EachExpired s w (rows ++ r ∷ [])
each-append s w [] r h stands is = (stands, is, tt)
each-append s w (x ∷ rows) r h stands is = (h.0, h.1, each-append s w rows r h.2 stands is)

none-append : (t : TimerRef) (rows : List Row) (r : Row) → NoneOf t rows → r.timer ≢ t → NoneOf t (rows ++ r ∷ [])
none-append t [] r h not = (not, tt)
none-append t (x ∷ rows) r h not = (h.0, none-append t rows r h.1 not)

single-append : (rows : List Row) (r : Row) → AreSingle rows → NoneOf r.timer rows → AreSingle (rows ++ r ∷ [])
single-append [] r h none = (tt, tt)
single-append (x ∷ rows) r h none = (none-append x.timer rows r h.0 (λ same. none.0 (sym same)), single-append rows r h.1 none.1)

-- a timer that is armed is none of those that have expired
none_armed : (s : State) (w : ℕ) (t : TimerRef) (rows : List Row) → s.status t ≡ Some Armed → EachExpired s w rows → NoneOf t rows
none_armed s w t [] armed h = tt
none_armed s w t (r ∷ rows) armed h = (
  (λ same. let clash : true ≡ false = sym h.1 ∙ (ap (λ (x : TimerRef). has_expired (s.status x)) same ∙ ap has_expired armed) in absurd cc),
  none_armed s w t rows armed h.2,
)

-- an entry that lets none of this wheel's timers expire
none_more : (g : Settings) (s : State) (e : Entry) (w : ℕ) (expired : List Row) → IsOrdered s → Can g s e
    → ((r : TimerRef) → r.wheel ≡ w → (next g s e).status r ≡ Some Expired → has_expired (s.status r) ≡ true) → HaveExpired s w expired
    → HaveExpired (next g s e) w (expired ++ [])
none_more g s e w expired order can none h =
    let kept : HaveExpired (next g s e) w expired = record {
      each = each_stays g s e w expired order can h.each;
      single = h.single;
      all = λ r wheel is. h.all r wheel (elim (became (s.status r) ((next g s e).status r) (moves_next g s e r order can) is) [
        | inl before ↦ before
        | inr now ↦ none r wheel now
      ]);
    } in
    subst (HaveExpired (next g s e) w) (sym (append-nil expired)) kept

-- one that lets one expire
one_more : (g : Settings) (s : State) (e : Entry) (w : ℕ) (t : TimerRef) (row : Row) (expired : List Row) → IsOrdered s → Can g s e → e.event ≡ Expire t
    → t.wheel ≡ w → row_of (s.rows w) t ≡ Some row → s.status t ≡ Some Armed → (next g s e).status t ≡ Some Expired
    → ((r : TimerRef) → (next g s e).status r ≡ Some Expired → (s.status r ≡ Some Expired) ⊎ (same_timer t r ≡ true))
    → HaveExpired s w expired → HaveExpired (next g s e) w (expired ++ row ∷ [])
one_more g s e w t row expired order can event wheel stands armed now was h =
    let named : row.timer ≡ t = row_named (s.rows w) row t stands in
    let before : row_of (s.rows w) row.timer ≡ Some row = ap (row_of (s.rows w)) named ∙ stands in
    record {
      each = each-append (next g s e) w expired row (each_stays g s e w expired order can h.each)
          (row_kept g (s.looked e.by) w (s.rows w) row row.timer (has_actor e (Wheel w)) e.event before)
          (ap (λ (x : TimerRef). has_expired ((next g s e).status x)) named ∙ ap has_expired now);
      single = single-append expired row h.single (none_armed s w row.timer expired (ap s.status named ∙ armed) h.each);
      all = λ r of_wheel is. elim (became (s.status r) ((next g s e).status r) (moves_next g s e r order can) is) [
        | inl before ↦ waits-append r expired (row ∷ []) (h.all r of_wheel before)
        | inr expired_now ↦ elim (was r expired_now) [
          | inl before ↦ waits-append r expired (row ∷ []) (h.all r of_wheel (ap has_expired before))
          | inr same ↦ waits_last r expired row (ap (λ (x : TimerRef). same_timer x r) named ∙ same)
        ]
      ];
    }
  where
    waits_last : (r : TimerRef) (rows : List Row) (row : Row) → same_timer row.timer r ≡ true → waits_in r (rows ++ row ∷ []) ≡ true
    waits_last r [] row is = rw is refl
    waits_last r (x ∷ rows) row is = or_true (same_timer x.timer r) (waits_in r (rows ++ row ∷ [])) (waits_last r rows row is)
      where
        or_true : (a b : Bool) → b ≡ true → (a || b) ≡ true
        or_true true b is = refl
        or_true false b is = is

expire_here : (g : Settings) (s : State) (by : Actor) (with : Option Actor) (t : TimerRef) (w : ℕ) (b : Bool) (expired : List Row) → IsOrdered s
    → Can g s (made by with (Expire t)) → nat_eq t.wheel w ≡ b → HaveExpired s w expired
    → HaveExpired (next g s (made by with (Expire t))) w (expired ++ expired_in w s (Expire t))
expire_here g s by with t w true expired order can is h =
    let e : Entry = made by with (Expire t) in
    let wheel : t.wheel ≡ w = eqb-true t.wheel w is in
    let found = next_has_row g s by t can.known in
    let stands : row_of (s.rows w) t ≡ Some found.0 = ap (λ (v : ℕ). row_of (s.rows v) t) (sym wheel) ∙ found.1 in
    let now : (next g s e).status t ≡ Some Expired =
    ap (λ (b : Bool). cond b (settled_as Expired (s.status t)) (s.status t)) (same_timer_self t) ∙ ap (settled_as Expired) can.found in
    subst (λ (x : List Row). HaveExpired (next g s e) w (expired ++ x))
    (sym (ap (λ (b : Bool). cond b (option_to_list (row_of (s.rows w) t)) []) is ∙ ap option_to_list stands))
    (one_more g s e w t found.0 expired order can refl wheel stands can.found now
    (λ r expired_now. was_expired r (has_actor e (Wheel r.wheel)) (s.status r) (Expire t) expired_now) h)
expire_here g s by with t w false expired order can is h =
    let e : Entry = made by with (Expire t) in
    subst (λ (b : Bool). HaveExpired (next g s e) w (expired ++ cond b (option_to_list (row_of (s.rows w) t)) [])) (sym is)
    (none_more g s e w expired order can
    (λ r wheel now. elim (was_expired r (has_actor e (Wheel r.wheel)) (s.status r) (Expire t) now) [
      | inl before ↦ ap has_expired before
      | inr same ↦
          let clash : false ≡ true = sym is ∙ eq-eqb t.wheel w (ap (λ (x : TimerRef). x.wheel) (same_timer-true t r same) ∙ wheel) in
          absurd cc
    ]) h)

others_none : (g : Settings) (s : State) (e : Entry) (w : ℕ) (r : TimerRef) → ((r : TimerRef) → expires e.event r ≡ false)
    → (next g s e).status r ≡ Some Expired → has_expired (s.status r) ≡ true
others_none g s e w r not now = elim (was_expired r (has_actor e (Wheel r.wheel)) (s.status r) e.event now) [
  | inl before ↦ ap has_expired before
  | inr expires ↦ let clash : true ≡ false = sym expires ∙ not r in absurd cc
]

expired_event : (g : Settings) (s : State) (by : Actor) (with : Option Actor) (event : Event) (w : ℕ) (expired : List Row) → IsOrdered s
    → Can g s (made by with event) → HaveExpired s w expired → HaveExpired (next g s (made by with event)) w (expired ++ expired_in w s event)
expired_event g s by with (Expire t) w expired order can h = expire_here g s by with t w (nat_eq t.wheel w) expired order can refl h
expired_event g s by with event w expired order can h =
    none_more g s (made by with event) w expired order can (λ r wheel now. others_none g s (made by with event) w r (λ x. refl) now) h

pub have_expired : (g : Settings) (h : List Entry) (w : ℕ) → Legal g h → HaveExpired (state g h) w (expired_of g w h)
have_expired g h w legal =
    by_entries g (λ h. HaveExpired (state g h) w (expired_of g w h))
    (λ h e legal can have.
    carry (λ s. HaveExpired s w (expired_of g w (h ++ e ∷ []))) (state-more g h e)
    (carry (HaveExpired (next g (state g h) e) w) (gathered-more g (λ s (e : Entry). expired_in w s e.event) h e)
    (expired_event g (state g h) e.by e.with e.event w (expired_of g w h) (ordered g h legal) can have)))
    (record { each = tt; single = tt; all = λ r wheel is. let clash : false ≡ true = is in absurd cc }) h legal
