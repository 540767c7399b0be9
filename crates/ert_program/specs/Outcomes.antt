-- The outcome of a race: which histories and which reports come of ops and of the lists that several threads
-- then do at once.

use Rattle.std.specs.Prelude.{◌≡◌, ℕ, suc, ◌<◌, All, List, [], ◌∷◌, ◌++◌}
use Rattle.ert_effects.specs.Ways.{Growth, Then, alone, beside}
use Rattle.ert_defs.specs.{Actors.IsMaker, Legal.Legal, States.state, declared.entry.Actor.TheVariants.Caller, declared.entry.Entry.Entry, declared.settings.Settings.Settings}
use Rattle.ert_laws.specs.Counts.{counts_of}
use Rattle.ert_ops.specs.{Races.{Race, lists_of}, declared.op.Op.Op, Labels.Labels, Scripts.Script, declared.reply.Reply.Reply}
use Rattle.ert_program.specs.{Made.{MakesInStretch, MakesTurns, MakesRound}, Reports.{Did, report}}

-- a caller does a list beside others: it knows the labels of the ops, and those that it binds itself
abbrev pub DoesList : Settings → Labels → ℕ → List Op → Did → List Entry → List Entry → Type 0
DoesList g labels k ops d h stretch =
    MakesInStretch (Caller k) (Script g (beside g (Caller k)) k labels ops d.replies (labels ++ d.own)) h stretch

-- each caller from one on does its list
abbrev pub DoLists : Settings → Labels → ℕ → List (List Op) → List Did → List Entry → List Entry → Type 0
DoLists g labels k [] [] h stretch = Unit {0}
DoLists g labels k (ops ∷ lists) (d ∷ dids) h stretch =
    DoesList g labels k ops d h stretch × DoLists g labels (suc k) lists dids h stretch
DoLists g labels k _ _ h stretch = ⊥

-- all act at once in a stretch after a history: each caller does its list and each scheduler makes its turns,
-- and nobody else makes an entry
pub record ActAtOnce (g : Settings) (labels : Labels) (race : Race) (dids : List Did) (h stretch : List Entry) : Type 0 where
  pub done : DoLists g labels 0 (lists_of race) dids h stretch
  pub turned : (w : ℕ) → w < g.schedulers → MakesTurns g w race.turns h stretch
  pub makers : All (λ (e : Entry). IsMaker g e.by) stretch

-- a race: all act at once, and then each scheduler makes one turn more, alone
abbrev pub Races : Settings → Labels → Race → List Did → Growth
Races g labels race dids = Then (ActAtOnce g labels race dids) (MakesRound g g.schedulers)

-- a history and a text are an outcome: the history is legal, it is a script run of the ops and then the race,
-- and the text is the report of the replies, of all timers at the end, and of the time then
pub record IsOutcome (g : Settings) (ops : List Op) (race : Race) (h : List Entry) (text : List ℕ) : Type 0 where
  pub legal : Legal g h
  pub first : List Entry
  pub later : List Entry
  pub parted : h ≡ first ++ later
  pub replies : List Reply
  pub labels : Labels
  pub began : Script g (alone g) 0 [] ops replies labels [] first
  pub dids : List Did
  pub raced : Races g labels race dids first later
  pub reads : text ≡ report ops replies labels dids (counts_of g (state g h)) (state g h).clock.now
