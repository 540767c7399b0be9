-- A scenario that was made and run, and its summary.

use Rattle.std.specs.Arc.{arc_value}
use Rattle.std.proofs.Common.{◌≡◌, ℕ, List, [], refl, inl, inr, ap, ◌∙◌}
use Rattle.std.specs.Prelude.{Result, Ok, Err, IfOk, IsErrOf}
use Rattle.ert_defs.specs.{Lines.Face, States.state, declared.entry.Entry.Entry, declared.settings.Settings.Settings}
use Rattle.ert_io.specs.{Faults.Rose, Told.{SinkTold, took, TakesFront}}
use Rattle.ert_laws.specs.{Counts.counts_of, KeptLaws.KeepsLaws}
use Rattle.ert_program.proofs.{Written.has_history, Transcripts.{text_of, is_run, stands_for}}
use Rattle.ert_program.specs.{Written.Returned, Endings.end_of, Generated.generated, OnDesks.RanOn, Streams.Output, Stresses.{summary_of, SummaryOf, StopsSummary, HasRun, StressEnds}}
use Rattle.ert_scenario.specs.Scenarios.{Plan}
use Rattle.ert_script.specs.{Written.RunsAll, declared.output.RunErr.RunErr, declared.output.RunErr.TheVariants.{WriteFault as OutputFailed, NoMemory as OutOfMemory}}
use Rattle.ert_table.specs.Desks.{settings_of, KnowsAll}
use Rattle.ert_ops.specs.Labels.{Labels}
use Rattle.ert_world.specs.{Openings.IsOpened, Worlds.Seen}

-- all ops of a plan were done on a world that was opened for it
pub has_run : (plan : Plan) (start w : Seen) (after : Labels) → IsOpened plan.settings start → RunsAll start [] plan.ops w after → HasRun plan w
has_run plan start w after opened ran = record {
  history = ran.runs.grows.piece;
  transcript = text_of plan.ops ran.replies w;
  is = is_run plan start w ran.replies after opened ran.runs ran.stands;
  stands = stands_for plan.settings start w plan.ops ran.replies after opened ran.runs ran.stands;
  next = ran.runs.next ∙ opened.next;
}

-- what is told of the world is the summary of its history
pub summary_is : (plan : Plan) (w : Seen) → (ran : HasRun plan w)
    → SummaryOf plan ran.history (summary_of (counts_of w.settings (state w.settings w.history)) w.clock.face.time)
summary_is plan w ran = record {
  transcript = ran.transcript;
  is = ran.is;
  reads = ap (λ (g : Settings). summary_of (counts_of g (state g w.history)) w.clock.face.time) ran.stands.settings
      ∙ ap (λ (h : List Entry). summary_of (counts_of plan.settings (state plan.settings h)) w.clock.face.time) ran.stands.history
      ∙ ap (λ (f : Face). summary_of (counts_of plan.settings (state plan.settings ran.history)) f.time) ran.stands.clock.face;
}

-- the summary was written, and the desk was given out
pub counts_on : (plan : Plan) (w : Seen) (old new : SinkTold) (r : Returned) → HasRun plan w
    → new ≡ took old (summary_of (counts_of w.settings (state w.settings w.history)) w.clock.face.time)
    → settings_of (arc_value r.0) ≡ w.settings → KnowsAll (arc_value r.0) r.1 w.history → KeepsLaws w.settings w.history → RanOn SummaryOf plan old new r
counts_on plan w old new r ran written named all laws = record {
  history = ran.history;
  text = summary_of (counts_of w.settings (state w.settings w.history)) w.clock.face.time;
  is = summary_is plan w ran;
  writes = written;
  desk = has_history plan.settings ran.history w r ran.stands.settings ran.stands.history named all laws;
}

-- the first part of the summary was written
pub summary_stops : (plan : Plan) (w : Seen) (old new : SinkTold) → HasRun plan w
    → TakesFront old new (summary_of (counts_of w.settings (state w.settings w.history)) w.clock.face.time) → StopsSummary plan old new
summary_stops plan w old new ran part = record {
  history = ran.history;
  text = summary_of (counts_of w.settings (state w.settings w.history)) w.clock.face.time;
  is = summary_is plan w ran;
  writes = part;
}

-- an end by what the run answered
pub stress_ends : (seed n : ℕ) (o p : Output) (ran : Result Returned RunErr) → IfOk ran (RanOn SummaryOf (generated seed n) o.told p.told)
    → (IsErrOf ran OutputFailed → Rose o.faults p.faults × StopsSummary (generated seed n) o.told p.told)
    → (IsErrOf ran OutOfMemory → p ≡ o) → StressEnds seed n o p (end_of ran)
stress_ends seed n o p (Ok r) ok failed out = record {
  done = λ e. ok;
  no_desk = λ e. absurd (e refl);
  write_fault = λ e. cc;
  no_memory = λ e. cc;
  only = inl refl;
}
stress_ends seed n o p (Err OutputFailed) ok failed out = record {
  done = λ e. cc;
  no_desk = λ e. refl;
  write_fault = λ e. failed refl;
  no_memory = λ e. cc;
  only = inr (inl refl);
}
stress_ends seed n o p (Err OutOfMemory) ok failed out = record {
  done = λ e. cc;
  no_desk = λ e. refl;
  write_fault = λ e. cc;
  no_memory = λ e. out refl;
  only = inr (inr refl);
}
