-- The order of steps: what is over before a step begins stands before it in every later history. The function
-- `steps_stand_in_order` of src/laws.rt carries the laws as a contract, so that they are proved.

use Rattle.std.specs.Prelude.{◌≡◌, ◌≢◌, ◌⊎◌, ℕ, List, [], ◌∷◌, ◌++◌, slice_set}
use mathlib.Core.Option.{some}
use lib.ListN.{get_elem?}
use Rattle.ert_defs.specs.{Legal.Legal, declared.entry.Actor.Actor, declared.entry.Entry.Entry, declared.settings.Settings.Settings}
use Rattle.ert_table.specs.{Calls.AppendsAll, Rule.Holds, Views.{Begins, both, holding, spent}, declared.view.View.View}

-- a moment between two steps: the words of the table, and what each pass knows
pub record Moment : Type 0 where
  pub words : List ℕ
  pub views : List View

-- the rule of the table holds at it
abbrev pub IsRuled : Settings → Moment → Type 0
IsRuled g m = Holds g m.words m.views

-- some pass knows these first entries of the history
pub record IsKnown (front : List Entry) (m : Moment) : Type 0 where
  pub place : ℕ
  pub view : View
  pub stands : get_elem? m.views place ≡ some view
  pub begins : Begins front view.front

-- whatever some pass knows at one moment, some pass knows at another
abbrev pub StaysKnown : Moment → Moment → Type 0
StaysKnown a b = (front : List Entry) → IsKnown front a → IsKnown front b

-- between two moments the pass of this place steps with an entry, and maybe with more right behind it; each other
-- pass knows what it knew
pub record StepsBetween (g : Settings) (a : Moment) (place : ℕ) (e : Entry) (more : List Entry) (b : Moment) : Type 0 where
  pub before : View
  pub after : View
  pub stood : get_elem? a.views place ≡ some before
  pub stands : get_elem? b.views place ≡ some after
  pub step : AppendsAll g before (e ∷ more) after
  pub others : (j : ℕ) → j ≢ place → get_elem? b.views j ≡ get_elem? a.views j

-- a pass is divided, by the actors that it keeps and those that the new pass gets
pub record PassDivides (a b : Moment) : Type 0 where
  pub place : ℕ
  pub before : View
  pub kept : List Actor
  pub given : List Actor
  pub stood : get_elem? a.views place ≡ some before
  pub views : b.views ≡ slice_set a.views place (holding before kept) ++ holding before given ∷ []

-- two passes become one
pub record PassesUnite (a b : Moment) : Type 0 where
  pub place : ℕ
  pub other : ℕ
  pub first : View
  pub second : View
  pub stood : get_elem? a.views place ≡ some first
  pub other_stood : get_elem? a.views other ≡ some second
  pub apart : other ≢ place
  pub views : b.views ≡ slice_set (slice_set a.views place (both first second)) other spent

-- what may take place between two moments: a step, a division, a union, or what leaves all passes as they are, as a
-- look at a word that makes no entry
abbrev pub TableMoves : Settings → Moment → Moment → Type 0
TableMoves g a b = ((place : ℕ) × (e : Entry) × (more : List Entry) × StepsBetween g a place e more b)
    ⊎ (PassDivides a b ⊎ (PassesUnite a b ⊎ (b.views ≡ a.views)))

-- one of them after the other, by the moments between; the rule holds at each
abbrev pub TableRuns : Settings → Moment → List Moment → Moment → Type 0
TableRuns g a [] b = TableMoves g a b
TableRuns g a (c ∷ between) b = TableMoves g a c × IsRuled g c × TableRuns g c between b

-- a history has these entries, and somewhere behind them that entry with more right behind it
pub record StandsBehind (front : List Entry) (e : Entry) (more h : List Entry) : Type 0 where
  pub between : List Entry
  pub behind : List Entry
  pub stands : h ≡ ((front ++ between) ++ (e ∷ more)) ++ behind

-- what two passes know at a moment are beginnings of one legal history
pub record AreOfOne (g : Settings) (front other : List Entry) : Type 0 where
  pub history : List Entry
  pub legal : Legal g history
  pub begins : Begins front history
  pub other_begins : Begins other history

-- so it is of any two passes of one table
abbrev pub LawOfOneHistory : Type 0
LawOfOneHistory = (g : Settings) (m : Moment) (front other : List Entry) → IsRuled g m → IsKnown front m → IsKnown other m → AreOfOne g front other

-- what some pass knows stays known, whatever takes place
abbrev pub LawOfKnowledge : Type 0
LawOfKnowledge = (g : Settings) (a b : Moment) (between : List Moment) → IsRuled g a → TableRuns g a between b → StaysKnown a b

-- what some pass knows when a step begins stands before the step's entry in every later history; so does the entry of
-- each step that was over by then, since its pass knew it
abbrev pub LawOfStepOrder : Type 0
LawOfStepOrder = (g : Settings) (a b c : Moment) (place : ℕ) (e : Entry) (more front : List Entry) → IsKnown front a → IsRuled g a → IsRuled g b
    → StepsBetween g a place e more b → StaysKnown b c → (later : IsRuled g c) → StandsBehind front e more later.history

-- a step that is over before another begins stands before it in every later history
abbrev pub LawOfTwoSteps : Type 0
LawOfTwoSteps = (g : Settings) (a b c d z : Moment) (one two : ℕ) (e f : Entry) (es fs : List Entry) (first : StepsBetween g a one e es b)
    → StaysKnown b c → IsRuled g c → StepsBetween g c two f fs d → IsRuled g d → StaysKnown d z → (later : IsRuled g z)
    → StandsBehind first.after.front f fs later.history
