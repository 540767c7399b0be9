-- What is over before a step begins stands before it in every later history.

use Rattle.std.proofs.Common.{◌≡◌, ◌≢◌, ◌⊎◌, inl, inr, ⊎_elim, ℕ, zero, suc, ◌+◌, ◌<◌, ◌≤◌, true, false, List, [], ◌∷◌, ◌++◌, length, set, refl, sym, ap, subst, ◌∙◌, arith, append_assoc, append-nil, length-append}
use Rattle.std.proofs.lemmas.Bool.{cases_eq}
use mathlib.Core.Option.{some, some-injective, some-ne-none}
use lib.ListN.{get_elem?}
use Rattle.atomic_table.proofs.Lists.{at_longer, set_here, set_else}
use Rattle.ert_defs.specs.{Actors.{has_actor, IsFree}, declared.entry.Entry.Entry, declared.settings.Settings.Settings}
use Rattle.ert_defs.proofs.Runs.{free_first}
use Rattle.ert_table.specs.{Held.is_held, Order.{Moment, IsRuled, IsKnown, StaysKnown, StepsBetween, PassDivides, PassesUnite, TableMoves, LawOfOneHistory, LawOfKnowledge, LawOfStepOrder, LawOfTwoSteps}, Rule.Fits, Views.{Begins, both}}
use Rattle.ert_table.specs.{Views.{holding, spent}, declared.view.View.View}
use Rattle.ert_table.proofs.{Holders.{held_maker, or_left, same_actor_self, free_then}, Joins.{goes_on, both_begin}}

begins_self : (f : List Entry) → Begins f f
begins_self f = record { later = []; grown = sym (append-nil f) }

begins_then : (f h z : List Entry) → Begins f h → Begins h z → Begins f z
begins_then f h z p q = record {
  later = p.later ++ q.later;
  grown = q.grown ∙ (ap (λ x. x ++ q.later) p.grown ∙ append_assoc f p.later q.later);
}

-- a place in a list is below its length
at_below : {X : Type 0} (l : List X) (i : ℕ) (x : X) → get_elem? l i ≡ some x → i < length l
at_below [] i x is = absurd (some-ne-none x (sym is))
at_below (y ∷ l) zero x is = omega arith
at_below (y ∷ l) (suc i) x is = let lt = at_below l i x is in omega arith

known_at : (front : List Entry) (m : Moment) (k : ℕ) (v : View) → get_elem? m.views k ≡ some v → Begins front v.front → IsKnown front m
known_at front m k v is begins = record { place = k; view = v; stands = is; begins = begins }

-- what the pass that stands at a place knew is what it knows
same_view : (m : Moment) (k : ℕ) (v w : View) → get_elem? m.views k ≡ some v → get_elem? m.views k ≡ some w → v ≡ w
same_view m k v w is other = some-injective v w (sym is ∙ other)

-- two passes know beginnings of one history

known_begins : (g : Settings) (m : Moment) (front : List Entry) → (ruled : IsRuled g m) → IsKnown front m → Begins front ruled.history
known_begins g m front ruled known =
    let fit : Fits g ruled.history known.view = ruled.fits known.place known.view known.stands in
    begins_then front known.view.front ruled.history known.begins (record { later = fit.later; grown = fit.begins })

pub one_history : LawOfOneHistory
one_history g m front other ruled known other_known = record {
  history = ruled.history;
  legal = ruled.legal;
  begins = known_begins g m front ruled known;
  other_begins = known_begins g m other ruled other_known;
}

-- a step

step_begins : (g : Settings) (a b : Moment) (k : ℕ) (e : Entry) (more : List Entry) → (s : StepsBetween g a k e more b) → Begins s.before.front s.after.front
step_begins g a b k e more s = record {
  later = s.step.between ++ (e ∷ more);
  grown = s.step.grown ∙ append_assoc s.before.front s.step.between (e ∷ more);
}

known_step : (g : Settings) (a b : Moment) (k : ℕ) (e : Entry) (more : List Entry) → StepsBetween g a k e more b → StaysKnown a b
known_step g a b k e more s front known = elim (cases_eq known.place k) [
  | inl here ↦
      let same : known.view ≡ s.before =
      same_view a k known.view s.before (subst (λ j. get_elem? a.views j ≡ some known.view) here known.stands) s.stood in
      known_at front b k s.after s.stands
      (begins_then front s.before.front s.after.front (subst (λ (v : View). Begins front v.front) same known.begins) (step_begins g a b k e more s))
  | inr other ↦ known_at front b known.place known.view (s.others known.place other ∙ known.stands) known.begins
]

-- a division

known_division : (a b : Moment) → PassDivides a b → StaysKnown a b
known_division a b d front known =
    let v : View = holding d.before d.kept in
    let lt = at_below a.views d.place d.before d.stood in
    elim (cases_eq known.place d.place) [
      | inl here ↦
          let same : known.view ≡ d.before =
          same_view a d.place known.view d.before (subst (λ j. get_elem? a.views j ≡ some known.view) here known.stands) d.stood in
          known_at front b d.place v
          (subst (λ l. get_elem? l d.place ≡ some v) (sym d.views)
          (at_longer (set a.views d.place v) (holding d.before d.given ∷ []) d.place v (set_here a.views d.place v lt)))
          (subst (λ (x : View). Begins front x.front) same known.begins)
      | inr other ↦
          known_at front b known.place known.view
          (subst (λ l. get_elem? l known.place ≡ some known.view) (sym d.views)
          (at_longer (set a.views d.place v) (holding d.before d.given ∷ []) known.place known.view
          (set_else a.views d.place known.place v other ∙ known.stands)))
          known.begins
    ]

-- a union

known_union : (g : Settings) (a b : Moment) → IsRuled g a → PassesUnite a b → StaysKnown a b
known_union g a b ruled u front known =
    let v : View = both u.first u.second in
    let lt = at_below a.views u.place u.first u.stood in
    let fronts = both_begin g ruled.history u.first u.second (ruled.fits u.place u.first u.stood) (ruled.fits u.other u.second u.other_stood) in
    let whole : get_elem? b.views u.place ≡ some v =
    subst (λ l. get_elem? l u.place ≡ some v) (sym u.views)
    (set_else (set a.views u.place v) u.other u.place spent (λ is. u.apart (sym is)) ∙ set_here a.views u.place v lt) in
    elim (cases_eq known.place u.place) [
      | inl here ↦
          let same : known.view ≡ u.first =
          same_view a u.place known.view u.first (subst (λ j. get_elem? a.views j ≡ some known.view) here known.stands) u.stood in
          known_at front b u.place v whole
          (begins_then front u.first.front v.front (subst (λ (x : View). Begins front x.front) same known.begins) fronts.0)
      | inr not_place ↦ elim (cases_eq known.place u.other) [
        | inl there ↦
            let same : known.view ≡ u.second =
            same_view a u.other known.view u.second (subst (λ j. get_elem? a.views j ≡ some known.view) there known.stands) u.other_stood in
            known_at front b u.place v whole
            (begins_then front u.second.front v.front (subst (λ (x : View). Begins front x.front) same known.begins) fronts.1)
        | inr not_other ↦
            known_at front b known.place known.view
            (subst (λ l. get_elem? l known.place ≡ some known.view) (sym u.views)
            (set_else (set a.views u.place v) u.other known.place spent not_other
            ∙ (set_else a.views u.place known.place v not_place ∙ known.stands)))
            known.begins
      ]
    ]

known_move : (g : Settings) (a b : Moment) → IsRuled g a → TableMoves g a b → StaysKnown a b
known_move g a b ruled (inl s) front known = known_step g a b s.0 s.1 s.2 s.3 front known
known_move g a b ruled (inr (inl d)) front known = known_division a b d front known
known_move g a b ruled (inr (inr (inl u))) front known = known_union g a b ruled u front known
known_move g a b ruled (inr (inr (inr same))) front known =
    known_at front b known.place known.view (ap (λ l. get_elem? l known.place) same ∙ known.stands) known.begins

pub knowledge_stays : LawOfKnowledge
knowledge_stays g a b [] ruled goes front known = known_move g a b ruled goes front known
knowledge_stays g a b (c ∷ between) ruled goes front known =
    knowledge_stays g c b between goes.1 goes.2 front (known_move g a c ruled goes.0 front known)

-- the step's entry is new to every pass: what another knows before ends before it

-- entries of which one isn't free of an actor
not_free : (between more : List Entry) (e : Entry) → IsFree (between ++ (e ∷ more)) e.by → ⊥
not_free between more e free =
    let none : has_actor e e.by ≡ false = free_first e.by e more (free_then between (e ∷ more) e.by free) in
    let own : has_actor e e.by ≡ true = or_left _ _ (same_actor_self e.by) in
    let clash : true ≡ false = sym own ∙ none in
    cc

-- of two lists with one end, what follows a common beginning is the same
cancel : (f l m : List Entry) → f ++ l ≡ f ++ m → l ≡ m
cancel [] l m same = same
cancel (x ∷ f) l m same = let rest : f ++ l ≡ f ++ m = cc in cancel f l m rest

step_is_new : (g : Settings) (a b : Moment) (k j : ℕ) (e : Entry) (more : List Entry) (v u : View) → IsRuled g a → (s : StepsBetween g a k e more b)
    → get_elem? a.views j ≡ some v → Begins ((s.before.front ++ s.step.between) ++ (e ∷ [])) v.front → ⊥
step_is_new g a b k j e more v u ruled s is begins =
    let fit : Fits g ruled.history s.before = ruled.fits k s.before s.stood in
    let other : Fits g ruled.history v = ruled.fits j v is in
    let f : List Entry = s.before.front in
    let rest : List Entry = begins.later ++ other.later in
    let whole : f ++ fit.later ≡ f ++ (s.step.between ++ (e ∷ rest)) =
    sym fit.begins ∙ (other.begins ∙ (ap (λ x. x ++ other.later) begins.grown
    ∙ (append_assoc ((f ++ s.step.between) ++ (e ∷ [])) begins.later other.later
    ∙ (append_assoc (f ++ s.step.between) (e ∷ []) rest ∙ append_assoc f s.step.between (e ∷ rest))))) in
    let held : is_held s.before.actors e.by ≡ true = held_maker s.before.actors e.by e.with s.step.ours.0 in
    not_free s.step.between rest e
    (subst (λ x. IsFree x e.by) (cancel f fit.later (s.step.between ++ (e ∷ rest)) whole) (fit.own e.by held))

-- so what any pass knows before a step begins the history before the step's entry
known_before : (g : Settings) (a b : Moment) (k : ℕ) (e : Entry) (more : List Entry) (v : View) (j : ℕ) → IsRuled g a → IsRuled g b
    → (s : StepsBetween g a k e more b) → get_elem? a.views j ≡ some v → j ≢ k → Begins v.front (s.before.front ++ s.step.between)
known_before g a b k e more v j ruled later s is other =
    let front : List Entry = s.before.front ++ s.step.between in
    let fit : Fits g later.history s.after = later.fits k s.after s.stands in
    let stays : Fits g later.history v = later.fits j v (s.others j other ∙ is) in
    let longer_one : List Entry = front ++ (e ∷ []) in
    let whole : front ++ ((e ∷ more) ++ fit.later) ≡ v.front ++ stays.later =
    sym (append_assoc front (e ∷ more) fit.later) ∙ (ap (λ x. x ++ fit.later) (sym s.step.grown) ∙ (sym fit.begins ∙ stays.begins)) in
    let same : longer_one ++ (more ++ fit.later) ≡ v.front ++ stays.later = append_assoc front (e ∷ []) (more ++ fit.later) ∙ whole in
    let count : length longer_one ≡ length front + 1 = length-append front (e ∷ []) in
    ⊎_elim
    (λ (le : length v.front ≤ length front).
    let on = goes_on v.front front stays.later ((e ∷ more) ++ fit.later) (sym whole) le in
    let r : Begins v.front front = record { later = on.more; grown = on.grown } in r)
    (λ (lt : length longer_one ≤ length v.front).
    let on = goes_on longer_one v.front (more ++ fit.later) stays.later same lt in
    absurd (step_is_new g a b k j e more v v ruled s is (record { later = on.more; grown = on.grown })))
    (orders (length v.front) (length front) (length longer_one) count)
  where
    orders : (x y z : ℕ) → z ≡ y + 1 → (x ≤ y) ⊎ (z ≤ x)
    orders x y z is = grind arith

all_before : (g : Settings) (a b : Moment) (k : ℕ) (e : Entry) (more front : List Entry) → IsKnown front a → IsRuled g a → IsRuled g b
    → (s : StepsBetween g a k e more b) → Begins front (s.before.front ++ s.step.between)
all_before g a b k e more front known ruled later s = elim (cases_eq known.place k) [
  | inl here ↦
      let same : known.view ≡ s.before =
      same_view a k known.view s.before (subst (λ j. get_elem? a.views j ≡ some known.view) here known.stands) s.stood in
      let own : Begins s.before.front (s.before.front ++ s.step.between) = record { later = s.step.between; grown = refl } in
      begins_then front s.before.front (s.before.front ++ s.step.between) (subst (λ (v : View). Begins front v.front) same known.begins) own
  | inr other ↦
      begins_then front known.view.front (s.before.front ++ s.step.between) known.begins
      (known_before g a b k e more known.view known.place ruled later s known.stands other)
]

pub steps_in_order : LawOfStepOrder
steps_in_order g a b c k e more front known ruled next s stays later =
    let before = all_before g a b k e more front known ruled next s in
    let at = stays s.after.front (known_at s.after.front b k s.after s.stands (begins_self s.after.front)) in
    let fit : Fits g later.history at.view = later.fits at.place at.view at.stands in
    record {
      between = before.later;
      behind = at.begins.later ++ fit.later;
      stands = fit.begins ∙ (ap (λ x. x ++ fit.later) at.begins.grown
          ∙ (append_assoc s.after.front at.begins.later fit.later
          ∙ ap (λ x. x ++ (at.begins.later ++ fit.later)) (s.step.grown ∙ ap (λ x. x ++ (e ∷ more)) before.grown)));
    }

pub stepping_order : LawOfTwoSteps
stepping_order g a b c d z one two e f es fs first stays ruled second next after later =
    steps_in_order g c d z two f fs first.after.front
    (stays first.after.front (known_at first.after.front b one first.after first.stands (begins_self first.after.front)))
    ruled next second after later
