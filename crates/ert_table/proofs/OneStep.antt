-- A step keeps the rule, and tells what its entry says. It doesn't know the events.

use Rattle.std.proofs.Common.{◌≡◌, ◌≢◌, ⊎_elim, ℕ, ◌<◌, arith, true, false, List, [], ◌∷◌, ◌++◌, length, set, slice_index, Option, Some, None, refl, sym, ap, subst, ◌∙◌, append_assoc, append-nil, length-set, get_or-set_same, get_or-set_other}
use Rattle.std.proofs.{Math.Logic.∥∥₁_elim, lemmas.Bool.cases_eq}
use mathlib.Core.Option.{some}
use lib.ListN.{get_elem?}
use Rattle.atomic_table.specs.Table.{State, Step, keeps, Allows}
use Rattle.atomic_table.proofs.Lists.{at_set}
use Rattle.ert_defs.specs.{Actors.{IsFree, has_actor}, Legal.{Keeps, Known, Found, Legal}, States.state, Words.{word_of, word_count}, declared.entry.Actor.Actor, declared.entry.Entry.Entry, declared.settings.Settings.Settings}
use Rattle.ert_defs.proofs.{Locality.locality, Runs.state-append}
use Rattle.ert_table.specs.{Acts.{Acts, ActsAll, IsHistoryAtStep, FindsNumber, FindsAll, Sitter, Told, Read, Compared, ComparedAll}, Calls.{AppendsAll, AreOnlyOf}, Held.{is_held, IsOurs}, Rule.{Fits, Holds, IsLegalBy}, Takes.Appends}
use Rattle.ert_table.specs.{declared.view.View.View}
use Rattle.ert_table.proofs.Holders.{tells, held_of, free_of, free-append, free_one}

-- the rule, of a table with its settings
abbrev pub Ruled : Settings → State (Unit {0}) View → Type 0
Ruled g s = Holds g s.words s.views

-- what a pass knows after a step
abbrev pub after : View → List Entry → List Entry → View
after v h es = record { front = h ++ es; actors = v.actors; settings = v.settings; met = None }

-- the history with the step's entry is legal
pub grows : (g : Settings) (v : View) (i n : ℕ) (e : Entry) (h : List Entry) → IsHistoryAtStep g v i n h → IsOurs v.actors e.by e.with
    → Keeps g e.by e.with e.event → Known g (state g v.front) e.by e.with e.event → Found g (state g h) e.by e.event
    → Legal g (h ++ e ∷ [])
grows g v i n e h then ours ranged known found =
    let whole : Legal g (v.front ++ then.later) = subst (Legal g) then.begins then.legal in
    let found' : Found g (state g (v.front ++ then.later)) e.by e.event =
    subst (λ (x : List Entry). Found g (state g x) e.by e.event) then.begins found in
    subst (λ (x : List Entry). Legal g (x ++ e ∷ [])) (sym then.begins)
    (locality g v.front then.later e whole (free_of v.actors then.later e.by e.with ours then.own) ranged known found')

-- another pass has no actor of an entry of ours
apart_of : (actors : List Actor) (e : Entry) (a : Actor) → IsOurs actors e.by e.with → (is_held actors a ≡ true → ⊥) → has_actor e a ≡ false
apart_of actors e a ours not =
    ⊎_elim (λ is. absurd (not (held_of actors e a ours is))) (λ is. is) (tells (has_actor e a))

-- nor one of several
free_ours : (actors : List Actor) (es : List Entry) (a : Actor) → AreOnlyOf actors es → (is_held actors a ≡ true → ⊥) → IsFree es a
free_ours actors [] a ours not = refl
free_ours actors (e ∷ es) a ours not =
    free-append (e ∷ []) es a (free_one e a (apart_of actors e a ours.0 not)) (free_ours actors es a ours.1 not)

-- another pass fits on
fits_on : (g : Settings) (h es : List Entry) (u : View) → Fits g h u → ((a : Actor) → is_held u.actors a ≡ true → IsFree es a)
    → Fits g (h ++ es) u
fits_on g h es u fit none = record {
  later = fit.later ++ es;
  begins = ap (λ x. x ++ es) fit.begins ∙ append_assoc u.front fit.later es;
  own = λ a held. free-append fit.later es a (fit.own a held) (none a held);
  named = fit.named;
  met = fit.met;
}

-- the pass that steps fits too
fits_now : (g : Settings) (h es : List Entry) (v : View) → Fits g h v → Fits g (h ++ es) (after v h es)
fits_now g h es v fit = record {
  later = [];
  begins = sym (append-nil (h ++ es));
  own = λ a held. refl;
  named = fit.named;
  met = tt;
}

-- a view that was there before has the same actors as it has now
record Was (views : List View) (k : ℕ) (u : View) : Type 0 where
  view : View
  stood : get_elem? views k ≡ some view
  same : u.actors ≡ view.actors

was : (views : List View) (id : ℕ) (v w : View) → get_elem? views id ≡ some v → w.actors ≡ v.actors → (k : ℕ) (u : View)
    → get_elem? (set views id w) k ≡ some u → Was views k u
was views id v w at same k u is =
    ⊎_elim
    (λ (here : (k ≡ id) × (w ≡ u)). let r : Was views k u = record {
      view = v;
      stood = subst (λ x. get_elem? views x ≡ some v) (sym here.0) at;
      same = ap (λ (x : View). x.actors) (sym here.1) ∙ same;
    } in r)
    (λ (there : (k ≢ id) × (get_elem? views k ≡ some u)). let r : Was views k u = record { view = u; stood = there.1; same = refl } in r)
    (at_set views id k w u is)

-- each pass fits after a step
fits_all : (g : Settings) (words : List ℕ) (views : List View) (id : ℕ) (v : View) (es : List Entry) (kept : Holds g words views)
    → get_elem? views id ≡ some v → AreOnlyOf v.actors es → (k : ℕ) (u : View)
    → get_elem? (set views id (after v kept.history es)) k ≡ some u → Fits g (kept.history ++ es) u
fits_all g words views id v es kept at ours k u is =
    ⊎_elim
    (λ (here : (k ≡ id) × (after v kept.history es ≡ u)).
    subst (Fits g (kept.history ++ es)) here.1 (fits_now g kept.history es v (kept.fits id v at)))
    (λ (there : (k ≢ id) × (get_elem? views k ≡ some u)). fits_on g kept.history es u (kept.fits k u there.1)
    (λ a held. free_ours v.actors es a ours (λ ours'. there.0 (kept.apart k id u v a there.1 at held ours'))))
    (at_set views id k (after v kept.history es) u is)

-- the words are those of the state after a step
shown_all : (g : Settings) (words : List ℕ) (h es : List Entry) (i m : ℕ) → length words ≡ word_count g → i < word_count g
    → ((j : ℕ) → j < word_count g → slice_index words j ≡ word_of g (state g h) j)
    → word_of g (state g (h ++ es)) i ≡ m
    → ((j : ℕ) → j < word_count g → j ≢ i → word_of g (state g (h ++ es)) j ≡ word_of g (state g h) j)
    → (j : ℕ) → j < word_count g → slice_index (set words i m) j ≡ word_of g (state g (h ++ es)) j
shown_all g words h es i m counted lt shown here others j lt_j =
    ⊎_elim
    (λ is. subst (λ k. slice_index (set words i m) k ≡ word_of g (state g (h ++ es)) k) (sym is)
    (get_or-set_same words i m 0 (subst (λ x. i < x) (sym counted) lt) ∙ sym here))
    (λ not. get_or-set_other words i j m 0 not ∙ (shown j lt_j ∙ sym (others j lt_j not)))
    (cases_eq j i)

-- a step on a word is allowed, if what it tells of the pass is wanted
may_step_all : (g : Settings) (slots id : ℕ) (v : View) (i : ℕ) (f : ℕ → ℕ) (entries : ℕ → List Entry) (then : ℕ → Sitter → Type 0)
    → i < word_count g → ActsAll g v i f entries
    → ((n : ℕ) (w : View) → w.settings ≡ v.settings → FindsAll g v i n (entries n) w → word_of g (state g w.front) i ≡ f n → then n (w, []))
    → Allows (Ruled g) slots id (v, []) i f then
may_step_all g slots id v i f entries then lt acts wanted s kept homes at fits =
    let n : ℕ = slice_index s.words i in
    let es : List Entry = entries n in
    let h : List Entry = kept.history in
    let fit = kept.fits id v at in
    let now : IsHistoryAtStep g v i n h = record {
      legal = kept.legal;
      later = fit.later;
      begins = fit.begins;
      own = fit.own;
      word = sym (kept.shown i lt);
    } in
    let legal : Legal g (h ++ es) = acts.legal h n now in
    let here : word_of g (state g (h ++ es)) i ≡ f n = acts.here h n now in
    let w : View = after v h es in
    let ruled : Holds g (set s.words i (f n)) (set s.views id w) = record {
      history = h ++ es;
      legal = legal;
      counted = length-set s.words i (f n) ∙ kept.counted;
      shown = shown_all g s.words h es i (f n) kept.counted lt kept.shown here (λ j lt_j not. acts.others h n j now lt_j not);
      fits = fits_all g s.words s.views id v es kept at (acts.ours n);
      apart = λ j k x y a at_x at_y held_x held_y.
          let before_x = was s.views id v w at refl j x at_x in
          let before_y = was s.views id v w at refl k y at_y in
          kept.apart j k before_x.view before_y.view a before_x.stood before_y.stood
          (subst (λ l. is_held l a ≡ true) before_x.same held_x) (subst (λ l. is_held l a ≡ true) before_y.same held_y);
    } in
    let tells : AppendsAll g v es w = record {
      actors = refl;
      legal = legal;
      between = fit.later;
      grown = ap (λ x. x ++ es) fit.begins;
      others = fit.own;
      ours = acts.ours n;
    } in
    let finds : FindsAll g v i n es w = record { step = tells; word = ap (λ x. word_of g (state g x) i) (sym fit.begins) ∙ now.word } in
    (w, keeps, tt, ruled, wanted n w refl finds here)

-- a step with one entry is one with several
acts_all : (g : Settings) (v : View) (i : ℕ) (f : ℕ → ℕ) (entry : ℕ → Entry) → Acts g v i f entry → ActsAll g v i f (λ n. entry n ∷ [])
acts_all g v i f entry acts = record {
  ours = λ n. (acts.ours n, tt);
  legal = λ h n then. grows g v i n (entry n) h then (acts.ours n) (acts.keeps n) (acts.known n) (acts.found h n then);
  here = λ h n then. ap (λ s. word_of g s i) (state-append g h (entry n ∷ [])) ∙ acts.here h n then;
  others = λ h n j then lt not. ap (λ s. word_of g s j) (state-append g h (entry n ∷ [])) ∙ acts.others h n j then lt not;
}

-- what it tells is what one entry tells
pub one_step : (g : Settings) (v : View) (e : Entry) (w : View) → AppendsAll g v (e ∷ []) w → Appends g v e w
one_step g v e w step = record {
  actors = step.actors;
  legal = step.legal;
  between = step.between;
  grown = step.grown;
  others = step.others;
  ours = step.ours.0;
}

-- the same of a step with one entry
pub may_step : (g : Settings) (slots id : ℕ) (v : View) (i : ℕ) (f : ℕ → ℕ) (entry : ℕ → Entry) (then : ℕ → Sitter → Type 0)
    → i < word_count g → Acts g v i f entry
    → ((n : ℕ) (w : View) → w.settings ≡ v.settings → FindsNumber g v i n (entry n) w → word_of g (state g w.front) i ≡ f n → then n (w, []))
    → Allows (Ruled g) slots id (v, []) i f then
may_step g slots id v i f entry then lt acts wanted =
    may_step_all g slots id v i f (λ n. entry n ∷ []) then lt (acts_all g v i f entry acts) (λ n w named finds shown.
    wanted n w named (finds_one n w finds) shown)
  where
    finds_one : (n : ℕ) (w : View) → FindsAll g v i n (entry n ∷ []) w → FindsNumber g v i n (entry n) w
    finds_one n w finds = record {
      step = record {
        actors = finds.step.actors;
        legal = finds.step.legal;
        between = finds.step.between;
        grown = finds.step.grown;
        others = finds.step.others;
        ours = finds.step.ours.0;
      };
      word = finds.word;
    }

-- there is a first word
pub has_words : (words : ℕ) (g : Settings) → words ≡ word_count g → 0 < words
has_words words g is = omega arith

-- and one for the time
pub has_time : (words : ℕ) (g : Settings) → words ≡ word_count g → 8 < words
has_time words g is = omega arith

-- a step of a seat at the table, with its own settings and its own entries
pub may_step_at : (key g g' : Settings) (slots id : ℕ) (me : Sitter) (i : ℕ) (f : ℕ → ℕ) (entry entry' : ℕ → Entry)
    → key ≡ g → g' ≡ g → entry' ≡ entry → me.1 ≡ [] → i < word_count g → Acts g me.0 i f entry
    → Allows (Ruled key) slots id me i f (λ n now. Told g' me (entry' n) now)
may_step_at key g g' slots id me i f entry entry' same same' entries bare lt acts =
    let P : List (ℕ × Unit {0}) → Type 0 = λ l. Allows (Ruled g) slots id (me.0, l) i f (λ n now. Told g (me.0, l) (entry n) now) in
    let stands : P me.1 = subst P (sym bare)
    (may_step g slots id me.0 i f entry (λ n now. Told g (me.0, []) (entry n) now) lt acts (λ n w named finds shown. (refl, named, finds.step))) in
    let by_key : Allows (Ruled key) slots id me i f (λ n now. Told g me (entry n) now) =
    subst (λ k. Allows (Ruled k) slots id me i f (λ n now. Told g me (entry n) now)) (sym same) stands in
    let by_settings : Allows (Ruled key) slots id me i f (λ n now. Told g' me (entry n) now) =
    subst (λ k. Allows (Ruled key) slots id me i f (λ n now. Told k me (entry n) now)) (sym same') by_key in
    subst (λ (x : ℕ → Entry). Allows (Ruled key) slots id me i f (λ n now. Told g' me (x n) now)) (sym entries) by_settings

-- the same of a load, which finds a word of the state
pub may_load_at : (key g g' : Settings) (slots id : ℕ) (me : Sitter) (step : Step (Unit {0})) (entry entry' : ℕ → Entry)
    → key ≡ g → g' ≡ g → entry' ≡ entry → me.1 ≡ [] → step.word < word_count g → Acts g me.0 step.word (λ n. n) entry
    → Allows (Ruled key) slots id me step.word (λ n. n) (λ n now. Read g' step me (entry' n) n now)
may_load_at key g g' slots id me step entry entry' same same' entries bare lt acts =
    let i : ℕ = step.word in
    let P : List (ℕ × Unit {0}) → Type 0 = λ l. Allows (Ruled g) slots id (me.0, l) i (λ n. n) (λ n now. Read g step (me.0, l) (entry n) n now) in
    let stands : P me.1 = subst P (sym bare)
    (may_step g slots id me.0 i (λ n. n) entry (λ n now. Read g step (me.0, []) (entry n) n now) lt acts
    (λ n w named finds shown. (refl, named, finds.step, shown))) in
    let by_key : Allows (Ruled key) slots id me i (λ n. n) (λ n now. Read g step me (entry n) n now) =
    subst (λ k. Allows (Ruled k) slots id me i (λ n. n) (λ n now. Read g step me (entry n) n now)) (sym same) stands in
    let by_settings : Allows (Ruled key) slots id me i (λ n. n) (λ n now. Read g' step me (entry n) n now) =
    subst (λ k. Allows (Ruled key) slots id me i (λ n. n) (λ n now. Read k step me (entry n) n now)) (sym same') by_key in
    subst (λ (x : ℕ → Entry). Allows (Ruled key) slots id me i (λ n. n) (λ n now. Read g' step me (x n) n now)) (sym entries) by_settings

-- the same of a store of a number, whose entry doesn't hang on what was there
pub may_store_at : (key g g' : Settings) (slots id : ℕ) (me : Sitter) (i m : ℕ) (e : Entry) (entry' : ℕ → Entry)
    → key ≡ g → g' ≡ g → entry' ≡ (λ n. e) → me.1 ≡ [] → i < word_count g → Acts g me.0 i (λ n. m) (λ n. e)
    → Allows (Ruled key) slots id me i (λ n. m) (λ n now. Told g' me (entry' m) now)
may_store_at key g g' slots id me i m e entry' same same' entries bare lt acts =
    may_step_at key g g' slots id me i (λ n. m) (λ n. e) (λ n. entry' m) same same'
    (ap (λ (x : ℕ → Entry). λ (n : ℕ). x m) entries) bare lt acts

-- the same of an exchange, which tells what was found
pub may_compare_at : (key g g' : Settings) (slots id : ℕ) (me : Sitter) (step : Step (Unit {0})) (f : ℕ → ℕ) (entry entry' : ℕ → Entry)
    → key ≡ g → g' ≡ g → entry' ≡ entry → me.1 ≡ [] → step.word < word_count g → Acts g me.0 step.word f entry
    → Allows (Ruled key) slots id me step.word f (λ n now. Compared g' step me (entry' n) n now)
may_compare_at key g g' slots id me step f entry entry' same same' entries bare lt acts =
    let i : ℕ = step.word in
    let P : List (ℕ × Unit {0}) → Type 0 = λ l. Allows (Ruled g) slots id (me.0, l) i f (λ n now. Compared g step (me.0, l) (entry n) n now) in
    let stands : P me.1 = subst P (sym bare)
    (may_step g slots id me.0 i f entry (λ n now. Compared g step (me.0, []) (entry n) n now) lt acts (λ n w named finds shown. (refl, named, finds))) in
    let by_key : Allows (Ruled key) slots id me i f (λ n now. Compared g step me (entry n) n now) =
    subst (λ k. Allows (Ruled k) slots id me i f (λ n now. Compared g step me (entry n) n now)) (sym same) stands in
    let by_settings : Allows (Ruled key) slots id me i f (λ n now. Compared g' step me (entry n) n now) =
    subst (λ k. Allows (Ruled key) slots id me i f (λ n now. Compared k step me (entry n) n now)) (sym same') by_key in
    subst (λ (x : ℕ → Entry). Allows (Ruled key) slots id me i f (λ n now. Compared g' step me (x n) n now)) (sym entries) by_settings

-- the same of an exchange with several entries
pub may_compare_all_at : (key g g' : Settings) (slots id : ℕ) (me : Sitter) (step : Step (Unit {0})) (f : ℕ → ℕ) (entries entries' : ℕ → List Entry)
    → key ≡ g → g' ≡ g → entries' ≡ entries → me.1 ≡ [] → step.word < word_count g → ActsAll g me.0 step.word f entries
    → Allows (Ruled key) slots id me step.word f (λ n now. ComparedAll g' step me (entries' n) n now)
may_compare_all_at key g g' slots id me step f entries entries' same same' picked bare lt acts =
    let i : ℕ = step.word in
    let P : List (ℕ × Unit {0}) → Type 0 = λ l. Allows (Ruled g) slots id (me.0, l) i f (λ n now. ComparedAll g step (me.0, l) (entries n) n now) in
    let stands : P me.1 = subst P (sym bare)
    (may_step_all g slots id me.0 i f entries (λ n now. ComparedAll g step (me.0, []) (entries n) n now) lt acts
    (λ n w named finds shown. (refl, named, finds))) in
    let by_key : Allows (Ruled key) slots id me i f (λ n now. ComparedAll g step me (entries n) n now) =
    subst (λ k. Allows (Ruled k) slots id me i f (λ n now. ComparedAll g step me (entries n) n now)) (sym same) stands in
    let by_settings : Allows (Ruled key) slots id me i f (λ n now. ComparedAll g' step me (entries n) n now) =
    subst (λ k. Allows (Ruled key) slots id me i f (λ n now. ComparedAll k step me (entries n) n now)) (sym same') by_key in
    subst (λ (x : ℕ → List Entry). Allows (Ruled key) slots id me i f (λ n now. ComparedAll g' step me (x n) n now)) (sym picked) by_settings

-- what a step found, for the settings, the place and the entries that were picked
pub finds_as : (g g' : Settings) (v : View) (i i' n : ℕ) (entry entry' : ℕ → Entry) (w : View) → g' ≡ g → i' ≡ i → entry' ≡ entry
    → FindsNumber g' v i' n (entry' n) w → FindsNumber g v i n (entry n) w
finds_as g g' v i i' n entry entry' w same place entries finds =
    subst (λ (x : ℕ → Entry). FindsNumber g v i n (x n) w) entries
    (subst (λ k. FindsNumber g v k n (entry' n) w) place (subst (λ k. FindsNumber k v i' n (entry' n) w) same finds))

pub finds_all_as : (g g' : Settings) (v : View) (i n : ℕ) (entries entries' : ℕ → List Entry) (w : View) → g' ≡ g → entries' ≡ entries
    → FindsAll g' v i n (entries' n) w → FindsAll g v i n (entries n) w
finds_all_as g g' v i n entries entries' w same picked finds =
    subst (λ (x : ℕ → List Entry). FindsAll g v i n (x n) w) picked (subst (λ k. FindsAll k v i n (entries' n) w) same finds)

-- what is legal by the settings of a pass is legal
pub legal_by : {P : Type 0} (g : Settings) (settings : Option Settings) (front : List Entry) → IsProp P → settings ≡ Some g
    → ∥ IsLegalBy settings front ∥₁ → (Legal g front → P) → P
legal_by {P} g settings front prop named legal gives =
    ∥∥₁_elim legal prop (λ by. gives (subst (λ s. IsLegalBy s front) named by))
