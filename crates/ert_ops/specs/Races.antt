-- The lists of a race: what each of its threads does.

use Rattle.std.specs.Prelude.{◌≡◌, ℕ, suc, ◌≤◌, List, [], ◌∷◌, ◌++◌, map, length}
use Rattle.ert_defs.specs.declared.settings.Settings.{Settings}
use Rattle.ert_ops.specs.{Labels.AreOps, Ranges.IsOpInRange, declared.op.Op.Op, declared.op.Op.TheVariants.{Serve, Advance, Deliver, Turn}, declared.race.RaceLists.RaceLists}

-- the lists of a race without where they lie in memory
pub record Race : Type 0 where
  pub turns : ℕ
  pub keeper : List Op
  pub callers : List (List Op)

-- the lists of a race that lie in memory
abbrev pub race_of : RaceLists → Race
race_of r = record { turns = r.turns; keeper = r.keeper.items; callers = map (λ ops. ops.items) r.callers.items }

-- the lists by the number of the caller that does them: the clock's thread is caller 0
abbrev pub lists_of : Race → List (List Op)
lists_of race = race.keeper ∷ race.callers

-- the ops of all lists, one list after the other
abbrev pub ops_in : List (List Op) → List Op
ops_in [] = []
ops_in (ops ∷ lists) = ops ++ ops_in lists

-- the ops of a thread that acts as a caller: all but those that a scheduler makes
abbrev pub IsCallersOp : Op → Type 0
IsCallersOp (Serve sched) = ⊥
IsCallersOp (Advance sched) = ⊥
IsCallersOp (Deliver sched) = ⊥
IsCallersOp (Turn sched) = ⊥
IsCallersOp _ = Unit {0}

-- a caller may do these ops, where a service was opened with the settings
abbrev pub MayDo : Settings → List Op → Type 0
MayDo g [] = Unit {0}
MayDo g (op ∷ ops) = IsCallersOp op × IsOpInRange g op × MayDo g ops

-- callers may do these lists of ops, where a service was opened with the settings
abbrev pub MayDoAll : Settings → List (List Op) → Type 0
MayDoAll g [] = Unit {0}
MayDoAll g (ops ∷ lists) = MayDo g ops × MayDoAll g lists

-- the lists are a race on a service with the settings, after these ops: each thread has a caller, and no two
-- starts of all of them have one label
pub record IsRace (g : Settings) (ops : List Op) (race : Race) : Type 0 where
  pub callers : g.callers ≡ suc (length race.callers)
  pub turns : race.turns ≤ 10000
  pub threads : MayDoAll g (lists_of race)
  pub labels : AreOps (ops ++ ops_in (lists_of race))
