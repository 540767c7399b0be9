-- How much room a run needs whose whole input is known: as much as what was written of it.

use Rattle.std.proofs.Common.{◌≡◌, ℕ, false, List, [], length, Option, None, Some, sym, ap, subst, ◌∙◌, arith}
use Rattle.ert_defs.specs.declared.settings.Settings.{Settings}
use Rattle.ert_io.specs.{Reads.Input, Told.{SinkTold, sink_told}}
use Rattle.ert_ops.specs.{declared.op.Op.Op, Plain.plain_text}
use Rattle.ert_program.proofs.{Ends.{NeverBoth, all_taken}, InMemory.OneScenario}
use Rattle.ert_program.specs.{Inputs.WritesAll, Runs.{RunWrites, InputFits}}
use Rattle.ert_scenario.specs.{Acceptance.{IsRunnable, plan_alone}, Scenarios.{Plan, IsScenario, HasRefusal}}

-- bytes that are accepted are a scenario
abbrev pub AreScenarios : Type 0
AreScenarios = (bytes : List ℕ) (g : Settings) (ops : List Op) → IsRunnable bytes g ops → IsScenario false bytes (plan_alone g ops)

-- `run` writes one text of bytes
one_written : (bytes text other : List ℕ) → OneScenario → AreScenarios → RunWrites bytes text → RunWrites bytes other → text ≡ other
one_written bytes text other one are may also =
    let same : plan_alone may.settings may.ops ≡ plan_alone also.settings also.ops =
    one false bytes (plan_alone may.settings may.ops) (plan_alone also.settings also.ops) (are bytes may.settings may.ops may.is) (are bytes also.settings also.ops also.is) in
    may.prints ∙ ap (λ (p : Plan). plain_text p.settings p.ops) same ∙ sym also.prints

-- a run that was done into an empty sink tells the room that the input needs
told_room : (text bytes : List ℕ) (i j : Input) (room : Option ℕ) → OneScenario → NeverBoth → AreScenarios → i.told.left ≡ Some text
    → WritesAll RunWrites i j (sink_told [] None) (sink_told bytes room) → InputFits (Some text) (Some (length bytes))
told_room text bytes i j room one never are told did = record {
  done = λ all some possible may.
      let there : RunWrites text some = subst (λ (b : List ℕ). RunWrites b some) (sym possible.whole) may in
      let written : bytes ≡ did.text = ap (λ (t : SinkTold). t.taken) did.writes in
      let long : length bytes ≡ length some = ap (λ (xs : List ℕ). length xs) (written ∙ one_written text did.text some one are here there) in
      omega arith;
  refused = λ all why possible has.
      absurd (never false text (plan_alone here.settings here.ops) why (are text here.settings here.ops here.is)
      (subst (λ (b : List ℕ). HasRefusal false b why) (sym possible.whole) has));
}
  where
    here : RunWrites text did.text
    here = subst (λ (b : List ℕ). RunWrites b did.text) (all_taken i j text did.bytes told did.takes) did.is

pub room_told : (text bytes taken taken_new : List ℕ) (i j : Input) (room : Option ℕ) → OneScenario → NeverBoth → AreScenarios
    → i.told.left ≡ Some text → taken ≡ [] → taken_new ≡ bytes → WritesAll RunWrites i j (sink_told taken None) (sink_told taken_new room)
    → InputFits (Some text) (Some (length bytes))
room_told text bytes taken taken_new i j room one never are here none there did =
    told_room text bytes i j room one never are here
    (subst (λ (k : List ℕ). WritesAll RunWrites i j (sink_told [] None) (sink_told k room)) there
    (subst (λ (k : List ℕ). WritesAll RunWrites i j (sink_told k None) (sink_told taken_new room)) none did))
