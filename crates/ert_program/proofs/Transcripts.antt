-- What a run of all ops wrote, with the end line behind it, and the desk that it left.

use Rattle.std.specs.Arc.{arc_value}
use Rattle.std.proofs.Common.{◌≡◌, ◌≤◌, ◌+◌, ℕ, false, List, [], ◌++◌, length, length-append, take, Option, None, Some, refl, sym, ap, subst, ◌∙◌, arith}
use Rattle.std.specs.Prelude.{Result, Ok, Err, IfOk, OnErr}
use Rattle.ert_io.proofs.Takes.{took-took, front_after, front_of, fits_after}
use Rattle.ert_io.specs.{Reads.Input, Known.HasRoomFor, Told.{SinkTold, took, TakesFront}}
use Rattle.ert_defs.specs.{Lines.Face, declared.entry.Entry.Entry, declared.settings.Settings.Settings}
use Rattle.ert_laws.specs.KeptLaws.{KeepsLaws}
use Rattle.ert_ops.specs.{Labels.{AreOps, Labels}, declared.op.Op.Op, Laws.IsFront, Plain.plain_text, Scripts.lines_of, Texts.end_line, declared.reply.Reply.Reply}
use Rattle.ert_ops.proofs.{Fronts.first_lines, Runs.one_text}
use Rattle.ert_program.proofs.{Written.{script_of, beginning_of, has_history}, Ends.IsOfScenario}
use Rattle.ert_program.specs.{Written.Returned, Inputs.{WritesAll, WritesSomeOf}, OnDesks.{HasRead, RanOn}, Runs.{RunWrites, RunOf}}
use Rattle.ert_scenario.specs.{Acceptance.{IsRunnable, plan_alone}, Scenarios.{Plan, IsScenario}}
use Rattle.ert_script.specs.{Scripts.Runs, Written.{WritesRun, WritesSome, LinesFit}, declared.output.RunErr.RunErr}
use Rattle.ert_table.specs.Desks.{settings_of, KnowsAll}
use Rattle.ert_world.specs.{Openings.IsOpened, Worlds.{Seen, StandsFor}}

-- the world that it came to stands for that history
pub stands_for : (g : Settings) (start v : Seen) (list : List Op) (rs : List Reply) (after : Labels) → IsOpened g start → (ran : Runs start [] list rs v after)
    → StandsFor v.settings v.history v → StandsFor g ran.grows.piece v
stands_for g start v list rs after opened ran stands =
    subst (λ (x : Settings). StandsFor x ran.grows.piece v) (ran.settings ∙ opened.stands.settings)
    (subst (λ (x : List Entry). StandsFor v.settings x v) (ran.grows.grown ∙ ap (λ (x : List Entry). x ++ ran.grows.piece) opened.stands.history) stands)

-- the lines, and then the end line with the time of the world
abbrev pub text_of : List Op → List Reply → Seen → List ℕ
text_of list rs w = lines_of [] list rs ++ end_line w.clock.face.time

-- are a transcript
pub is_run : (plan : Plan) (start w : Seen) (rs : List Reply) (after : Labels) → IsOpened plan.settings start
    → (ran : Runs start [] plan.ops rs w after) → StandsFor w.settings w.history w → RunOf plan ran.grows.piece (text_of plan.ops rs w)
is_run plan start w rs after opened ran stands =
    let there : StandsFor plan.settings ran.grows.piece w = stands_for plan.settings start w plan.ops rs after opened ran stands in
    record {
      is = record {
        entries = ran.grows.piece;
        replies = rs;
        labels = after;
        legal = there.clock.legal;
        runs = script_of plan.settings start w plan.ops rs after opened ran;
        reads = ap (λ (f : Face). lines_of [] plan.ops rs ++ end_line f.time) there.clock.face;
      };
      history = refl;
    }

-- all ops were run, the end line was written, and the desk was given out
pub ends : (plan : Plan) (start w : Seen) (after : Labels) (old now new : SinkTold) (r : Returned) → IsOpened plan.settings start
    → WritesRun start [] plan.ops w after old now → new ≡ took now (end_line w.clock.face.time)
    → settings_of (arc_value r.0) ≡ w.settings → KnowsAll (arc_value r.0) r.1 w.history → KeepsLaws w.settings w.history → RanOn RunOf plan old new r
ends plan start w after old now new r opened ran written named all laws =
    let there : StandsFor plan.settings ran.runs.grows.piece w = stands_for plan.settings start w plan.ops ran.replies after opened ran.runs ran.stands in
    record {
      history = ran.runs.grows.piece;
      text = text_of plan.ops ran.replies w;
      is = is_run plan start w ran.replies after opened ran.runs ran.stands;
      writes = written ∙ ap (λ (k : SinkTold). took k (end_line w.clock.face.time)) ran.writes
          ∙ took-took old (lines_of [] plan.ops ran.replies) (end_line w.clock.face.time);
      desk = has_history plan.settings ran.runs.grows.piece w r there.settings there.history named all laws;
    }

-- what a transcript says is what the plain service prints
plain_is : (plan : Plan) (start w : Seen) (rs : List Reply) (after : Labels) → AreOps plan.ops → length plan.ops ≤ plan.settings.looks → IsOpened plan.settings start
    → (ran : Runs start [] plan.ops rs w after) → StandsFor w.settings w.history w → text_of plan.ops rs w ≡ plain_text plan.settings plan.ops
plain_is plan start w rs after are many opened ran stands =
    one_text plan.settings plan.ops (text_of plan.ops rs w) are many (is_run plan start w rs after opened ran stands).is

-- and so is the first part of it that the lines of some first ops are
first_is : (plan : Plan) (start v : Seen) (done : ℕ) (rs : List Reply) (after : Labels) → AreOps plan.ops → length plan.ops ≤ plan.settings.looks
    → IsOpened plan.settings start → Runs start [] (take done plan.ops) rs v after → StandsFor v.settings v.history v
    → IsFront (lines_of [] (take done plan.ops) rs) (plain_text plan.settings plan.ops)
first_is plan start v done rs after are many opened ran stands =
    let begins = beginning_of plan.settings plan.ops start v done rs after opened ran stands in
    let whole : List ℕ = plain_text plan.settings plan.ops in
    subst (λ (t : List ℕ). IsFront t whole) (sym begins.reads)
    (first_lines plan.settings plan.ops begins.done begins.entries begins.replies begins.labels are many begins.legal begins.runs)

-- all ops were run, and the output stopped at the end line
pub breaks_last : (plan : Plan) (start w : Seen) (after : Labels) (old now new : SinkTold) → AreOps plan.ops → length plan.ops ≤ plan.settings.looks
    → IsOpened plan.settings start → WritesRun start [] plan.ops w after old now → TakesFront now new (end_line w.clock.face.time)
    → TakesFront old new (plain_text plan.settings plan.ops)
breaks_last plan start w after old now new are many opened ran part =
    subst (λ (t : List ℕ). TakesFront old new t) (plain_is plan start w ran.replies after are many opened ran.runs ran.stands)
    (front_after old now new (lines_of [] plan.ops ran.replies) (end_line w.clock.face.time) ran.writes part)

-- the run stopped after some first ops
pub breaks : (plan : Plan) (start w : Seen) (after : Labels) (why : RunErr) (old new : SinkTold) → AreOps plan.ops → length plan.ops ≤ plan.settings.looks
    → IsOpened plan.settings start → WritesSome start [] plan.ops w after why old new → TakesFront old new (plain_text plan.settings plan.ops)
breaks plan start w after why old new are many opened some =
    let front = first_is plan start some.reached some.done some.replies after are many opened some.runs some.stands in
    front_of old new (lines_of [] (take some.done plan.ops) some.replies) front.0 (plain_text plan.settings plan.ops) front.1 some.writes

front_fits : (room : Option ℕ) (text rest whole : List ℕ) → text ++ rest ≡ whole → HasRoomFor room (length whole) → HasRoomFor room (length text)
front_fits None text rest whole is fits = tt
front_fits (Some r) text rest whole is fits =
    let long : length whole ≡ length text + length rest = ap (λ (t : List ℕ). length t) (sym is) ∙ length-append text rest in
    omega arith

-- where all fits that is to be written, so do the lines of some first ops
pub lines_fit : (plan : Plan) (start : Seen) (room : Option ℕ) → AreOps plan.ops → length plan.ops ≤ plan.settings.looks → IsOpened plan.settings start
    → HasRoomFor room (length (plain_text plan.settings plan.ops)) → LinesFit start [] plan.ops room
lines_fit plan start room are many opened fits = λ done rs v after ran stands.
    let front = first_is plan start v done rs after are many opened ran stands in
    front_fits room (lines_of [] (take done plan.ops) rs) front.0 (plain_text plan.settings plan.ops) front.1 fits

-- and the end line after all
pub end_fits : (plan : Plan) (start w : Seen) (after : Labels) (old now : SinkTold) → AreOps plan.ops → length plan.ops ≤ plan.settings.looks
    → IsOpened plan.settings start → WritesRun start [] plan.ops w after old now → HasRoomFor old.room (length (plain_text plan.settings plan.ops))
    → HasRoomFor now.room (length (end_line w.clock.face.time))
end_fits plan start w after old now are many opened ran fits =
    let last : List ℕ = end_line w.clock.face.time in
    subst (λ (k : SinkTold). HasRoomFor k.room (length last)) (sym ran.writes)
    (fits_after old.room (lines_of [] plan.ops ran.replies) last
    (subst (λ (t : List ℕ). HasRoomFor old.room (length t)) (sym (plain_is plan start w ran.replies after are many opened ran.runs ran.stands)) fits))

-- what `run` may write of a plan that was read
pub run_writes : (bytes : List ℕ) (plan : Plan) → IsRunnable bytes plan.settings plan.ops → RunWrites bytes (plain_text plan.settings plan.ops)
run_writes bytes plan is = record { settings = plan.settings; ops = plan.ops; is = is; prints = refl }

-- all of it was written
pub wrote_all : (i j : Input) (plan : Plan) (old new : SinkTold) (ran : Result Returned RunErr) → AreOps plan.ops → length plan.ops ≤ plan.settings.looks
    → (read : HasRead false i j plan) → IsRunnable read.bytes plan.settings plan.ops → IfOk ran (RanOn RunOf plan old new) → IfOk ran (λ r. WritesAll RunWrites i j old new)
wrote_all i j plan old new (Ok r) are many read is ran = record {
  bytes = read.bytes;
  takes = read.takes;
  text = plain_text plan.settings plan.ops;
  is = run_writes read.bytes plan is;
  writes = ran.writes ∙ ap (λ (t : List ℕ). took old t) (one_text plan.settings plan.ops ran.text are many ran.is.is);
}
wrote_all i j plan old new (Err e) are many read is ran = tt

-- the first part of it was
pub wrote_some : (i j : Input) (plan : Plan) (old new : SinkTold) (ran : Result Returned RunErr) → (read : HasRead false i j plan)
    → IsRunnable read.bytes plan.settings plan.ops → OnErr ran (TakesFront old new (plain_text plan.settings plan.ops)) → OnErr ran (WritesSomeOf RunWrites i j old new)
wrote_some i j plan old new (Ok r) read is part = tt
wrote_some i j plan old new (Err e) read is part = record {
  bytes = read.bytes;
  takes = read.takes;
  text = plain_text plan.settings plan.ops;
  is = run_writes read.bytes plan is;
  writes = part;
}

-- bytes of which `run` writes a text are a scenario
pub run_is_of : ((bytes : List ℕ) (g : Settings) (ops : List Op) → IsRunnable bytes g ops → IsScenario false bytes (plan_alone g ops)) → IsOfScenario false RunWrites
run_is_of back bytes text may = (plan_alone may.settings may.ops, back bytes may.settings may.ops may.is)
