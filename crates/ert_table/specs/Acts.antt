-- What the proof of a step owes, and what a step tells.

use Rattle.std.specs.Prelude.{◌≡◌, ◌≢◌, ℕ, pos, ◌<◌, true, List, [], ◌++◌, None}
use Rattle.atomic_table.specs.Table.{Me, Step}
use Rattle.ert_defs.specs.{Actors.IsFree, Legal.{Keeps, Known, Found, Legal}, States.{next, state}, Words.{word_of, word_count}, declared.entry.Actor.Actor, declared.entry.Actor.TheVariants.Keeper, declared.entry.Entry.Entry}
use Rattle.ert_defs.specs.{declared.entry.Event.TheVariants.Look, declared.settings.Settings.Settings}
use Rattle.ert_table.specs.{Calls.{AppendsAll, AreOnlyOf}, Held.{is_held, IsOurs}, Takes.Appends, Views.HasMet, declared.view.View.View}

-- the history at a pass's step: the pass fits it, and its state gives the word that was found
pub record IsHistoryAtStep (g : Settings) (v : View) (i n : ℕ) (h : List Entry) : Type 0 where
  pub legal : Legal g h
  pub later : List Entry
  pub begins : h ≡ v.front ++ later
  pub own : (a : Actor) → is_held v.actors a ≡ true → IsFree later a
  pub word : word_of g (state g h) i ≡ n

-- a step on a word, which becomes f of what it was, takes place with the entry that is made for what it was
pub record Acts (g : Settings) (v : View) (i : ℕ) (f : ℕ → ℕ) (entry : ℕ → Entry) : Type 0 where
  pub ours : (n : ℕ) → IsOurs v.actors (entry n).by (entry n).with
  pub keeps : (n : ℕ) → Keeps g (entry n).by (entry n).with (entry n).event
  pub known : (n : ℕ) → Known g (state g v.front) (entry n).by (entry n).with (entry n).event
  pub found : (h : List Entry) (n : ℕ) → IsHistoryAtStep g v i n h → Found g (state g h) (entry n).by (entry n).event
  pub here : (h : List Entry) (n : ℕ) → IsHistoryAtStep g v i n h → word_of g (next g (state g h) (entry n)) i ≡ f n
  pub others : (h : List Entry) (n j : ℕ) → IsHistoryAtStep g v i n h → j < word_count g → j ≢ i
      → word_of g (next g (state g h) (entry n)) j ≡ word_of g (state g h) j

-- the same of a step that takes place with several entries, which are made for what the word was
pub record ActsAll (g : Settings) (v : View) (i : ℕ) (f : ℕ → ℕ) (entries : ℕ → List Entry) : Type 0 where
  pub ours : (n : ℕ) → AreOnlyOf v.actors (entries n)
  pub legal : (h : List Entry) (n : ℕ) → IsHistoryAtStep g v i n h → Legal g (h ++ entries n)
  pub here : (h : List Entry) (n : ℕ) → IsHistoryAtStep g v i n h → word_of g (state g (h ++ entries n)) i ≡ f n
  pub others : (h : List Entry) (n j : ℕ) → IsHistoryAtStep g v i n h → j < word_count g → j ≢ i
      → word_of g (state g (h ++ entries n)) j ≡ word_of g (state g h) j

-- a pass as its seat has it
abbrev pub Sitter : Type 0
Sitter = Me (Unit {0}) View

-- the pass has stepped with an entry
abbrev pub Told : Settings → Sitter → Entry → Sitter → Type 0
Told g me e now = (now.1 ≡ []) × (now.0.settings ≡ me.0.settings) × Appends g me.0 e now.0

-- the pass has loaded a word of the state
abbrev pub Read : Settings → Step (Unit {0}) → Sitter → Entry → ℕ → Sitter → Type 0
Read g step me e n now = (now.1 ≡ []) × (now.0.settings ≡ me.0.settings) × Appends g me.0 e now.0
    × (word_of g (state g now.0.front) step.word ≡ n)

-- a step took place with an entry, and found this number in the word
pub record FindsNumber (g : Settings) (v : View) (i n : ℕ) (e : Entry) (w : View) : Type 0 where
  pub step : Appends g v e w
  pub word : word_of g (state g (v.front ++ step.between)) i ≡ n

-- the pass has found a number in a word, and set it to another or not
abbrev pub Compared : Settings → Step (Unit {0}) → Sitter → Entry → ℕ → Sitter → Type 0
Compared g step me e n now = (now.1 ≡ []) × (now.0.settings ≡ me.0.settings) × FindsNumber g me.0 step.word n e now.0

-- a step took place with several entries, and found this number in the word
pub record FindsAll (g : Settings) (v : View) (i n : ℕ) (es : List Entry) (w : View) : Type 0 where
  pub step : AppendsAll g v es w
  pub word : word_of g (state g (v.front ++ step.between)) i ≡ n

-- the pass has found a number in a word, and set it to another or not, with several entries
abbrev pub ComparedAll : Settings → Step (Unit {0}) → Sitter → List Entry → ℕ → Sitter → Type 0
ComparedAll g step me es n now = (now.1 ≡ []) × (now.0.settings ≡ me.0.settings) × FindsAll g me.0 step.word n es now.0

-- the pass is as it was, and knows what is so of the two that met
abbrev pub SittersMeet : Settings → Sitter → Sitter → Type 0
SittersMeet g me now = (now ≡ me) × HasMet me.0.met me.0.front × Legal g me.0.front

-- the pass is as it was, and its front is legal and gives the word that was found
abbrev pub Sees : Settings → Step (Unit {0}) → Sitter → ℕ → Sitter → Type 0
Sees g step me n now = (now ≡ me) × Legal g me.0.front × (word_of g (state g me.0.front) step.word ≡ n)

-- an entry that nobody uses
abbrev pub any_entry : Entry
any_entry = record { by = Keeper; with = None; event = Look (pos 0) }
