-- What a race has written.

use Rattle.std.specs.{Arc.arc_value, declared.alloc.Global.Global, declared.sync.Arc.Arc}
use Rattle.std.specs.Prelude.{◌≡◌, ◌⊎◌, ℕ, List}
use Rattle.ert_defs.specs.{States.state, declared.entry.Entry.Entry, declared.settings.Settings.Settings}
use Rattle.ert_io.specs.Told.{SinkTold, took, TakesFront}
use Rattle.ert_laws.specs.{Counts.counts_of, KeptLaws.KeepsLaws}
use Rattle.ert_ops.specs.{Races.Race, declared.op.Op.Op, Labels.Labels, Scripts.IsBeginning}
use Rattle.ert_program.specs.{Outcomes.IsOutcome, Reports.{Did, behind}}
use Rattle.ert_world.specs.Worlds.{Seen}
use Rattle.ert_table.specs.{Desks.{settings_of, KnowsAll}, declared.desk.Desk.Desk, declared.desk.Pass.Pass}

-- what a run returns: a share of its desk, and the pass that holds every actor of it
abbrev pub Returned : Type 0
Returned = Arc Desk Global × Pass

-- what a run returns has a history: the desk is of these settings, the pass has every actor and knows just that
-- history, which keeps the laws
pub record HasHistory (g : Settings) (h : List Entry) (r : Returned) : Type 0 where
  pub settings : settings_of (arc_value r.0) ≡ g
  pub knows : KnowsAll (arc_value r.0) r.1 h
  pub laws : KeepsLaws g h

-- a race may write a text: it is the report of an outcome, or the lines of some first ops, where it has come no
-- further
abbrev pub MayWrite : Settings → List Op → Race → List ℕ → Type 0
MayWrite g ops race text = IsBeginning g ops text ⊎ ((h : List Entry) × IsOutcome g ops race h text)

-- the report behind the lines of the ops, which bound these labels: what came of the lists, and what the race has left of the world
abbrev pub report_behind : Seen → Labels → List Did → List ℕ
report_behind w labels dids = behind labels dids (counts_of w.settings (state w.settings w.history)) w.clock.face.time

-- a race was run on a desk: the report of an outcome was written, and what is returned has the outcome's history
pub record RacesOn (g : Settings) (ops : List Op) (race : Race) (old new : SinkTold) (r : Returned) : Type 0 where
  pub history : List Entry
  pub text : List ℕ
  pub is : IsOutcome g ops race history text
  pub writes : new ≡ took old text
  pub desk : HasHistory g history r

-- a race has stopped: the first part of what it may write was written
pub record StopsRace (g : Settings) (ops : List Op) (race : Race) (old new : SinkTold) : Type 0 where
  pub text : List ℕ
  pub may : MayWrite g ops race text
  pub writes : TakesFront old new text
