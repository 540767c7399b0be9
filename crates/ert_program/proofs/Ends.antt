-- How `run` and `race` end, by what was read and by what then was answered.

use Rattle.std.proofs.Common.{◌≡◌, ℕ, Bool, List, [], ◌++◌, Option, Some, None, inl, inr, refl, sym, ap, subst, ◌∙◌, append-nil, arith}
use Rattle.std.specs.Prelude.{Result, Ok, Err, IfOk, IfSome, IsSomeAnd, OnErr, IsErrOf}
use Rattle.ert_io.specs.{Faults.Rose, Known.{StreamTold, before, HandsUpTo, IsAtEnd}, Reads.{Input, ReadsAll}}
use Rattle.ert_io.proofs.SeveralReads.{handed_none, handed_fewer}
use Rattle.ert_program.specs.{Written.Returned, Endings.{end_of, without_desk}, Inputs.{Writing, IsPossibleInput, WritesAll, WritesSomeOf, ReadsNone, InputEnds}, OnDesks.HasRead, RefusedInputs.{RefusesInput, PartRefused, RefusalEnds}}
use Rattle.ert_program.specs.{Streams.Output, Unread.EndsUnread, declared.ending.EndStatus.TheVariants.NoMemory, declared.ending.Ended.Ended, declared.ending.Refusal.Refusal}
use Rattle.ert_scenario.specs.{Scenarios.{Plan, IsScenario, HasRefusal}, declared.scenario.ScenarioErr.ScenarioErr}
use Rattle.ert_script.specs.declared.output.RunErr.{RunErr, TheVariants.{WriteFault as OutputFailed, NoMemory as OutOfMemory}}

-- no bytes are a scenario and refused
abbrev pub NeverBoth : Type 0
NeverBoth = (race : Bool) (bytes : List ℕ) (plan : Plan) (e : ScenarioErr) → IsScenario race bytes plan → HasRefusal race bytes e → ⊥

whole_left : (left left_new : Option (List ℕ)) (bytes : List ℕ) → left ≡ before bytes left_new → IsAtEnd left_new → IfSome left (λ all. all ≡ bytes)
whole_left left None bytes taken end = subst (λ (k : Option (List ℕ)). IfSome k (λ all. all ≡ bytes)) (sym taken) tt
whole_left left (Some later) bytes taken end =
    subst (λ (k : Option (List ℕ)). IfSome k (λ all. all ≡ bytes)) (sym taken) (ap (λ (xs : List ℕ). bytes ++ xs) end ∙ append-nil bytes)

-- the bytes that were read may be the whole input
pub possible : (i j : Input) (bytes : List ℕ) → ReadsAll i j bytes → IsPossibleInput i.told.left bytes
possible i j bytes takes = record { whole = whole_left i.told.left j.told.left bytes takes.reads.left takes.none_left; short = takes.short }

-- and where that is told, they are it
pub all_taken : (i j : Input) (text bytes : List ℕ) → i.told.left ≡ Some text → ReadsAll i j bytes → bytes ≡ text
all_taken i j text bytes told takes = sym (subst (λ (k : Option (List ℕ)). IfSome k (λ all. all ≡ bytes)) told (possible i j bytes takes).whole)

takes_none : (told : StreamTold ℕ) → HandsUpTo 16777217 told told
takes_none told = handed_fewer 16777217 told told [] (omega arith) (handed_none told)

-- bytes of which there is a text are a scenario
abbrev pub IsOfScenario : Bool → Writing → Type 0
IsOfScenario race part = (bytes text : List ℕ) → part bytes text → (plan : Plan) × IsScenario race bytes plan

-- so there is none of bytes that are refused
no_text : (race : Bool) (part : Writing) (bytes : List ℕ) (why : ScenarioErr) → IsOfScenario race part → NeverBoth → HasRefusal race bytes why
    → (text : List ℕ) → part bytes text → ⊥
no_text race part bytes why of never is text may = let plan = of bytes text may in never race bytes plan.0 why plan.1 is

none_of : (race : Bool) (part : Writing) (i j : Input) (o p : Output) (r : Option Refusal) → IsOfScenario race part → NeverBoth
    → IsSomeAnd r (RefusesInput race i j o.told p.told) → ReadsNone part i j
none_of race part i j o p None of never h = absurd h
none_of race part i j o p (Some r) of never h = record { bytes = r.bytes.items; takes = h.takes; none = no_text race part r.bytes.items r.why of never h.is }

part_none : (race : Bool) (part : Writing) (i j : Input) (o p : Output) → IsOfScenario race part → NeverBoth → PartRefused race i j o.told p.told → ReadsNone part i j
part_none race part i j o p of never h = record { bytes = h.bytes; takes = h.takes; none = no_text race part h.bytes h.why of never h.is }

-- an end with no scenario is one of both commands
pub unread_ends : (race : Bool) (does part : Writing) (i j : Input) (o p : Output) (e : Ended) → IsOfScenario race part → NeverBoth → EndsUnread race i j o p e
    → InputEnds does part i j o p e.status
unread_ends race does part i j o p e of never un = record {
  done = λ how. absurd (un.not_done how);
  refused = λ how. none_of race part i j o p e.refusal of never (un.refused how);
  read_fault = un.read_fault;
  too_long = un.too_long;
  write_fault = λ how. (let h = un.write_fault how in (h.0, inr (part_none race part i j o p of never h.1)));
  no_memory = λ how. (let h = un.no_memory how in (h.0, inl h.1));
  others = un.others;
  complete = λ quiet fine bytes text left short may.
      (let plan = of bytes text may in inr (un.complete quiet fine bytes plan.0 left short plan.1));
}

-- and says so of the refusal
pub unread_refusal : (race : Bool) (i j : Input) (o p : Output) (e : Ended) → EndsUnread race i j o p e → RefusalEnds race i j o p e
unread_refusal race i j o p e un = record {
  refused = un.refused;
  write_fault = λ how. inr (un.write_fault how).1;
  no_memory = λ how. inl (un.no_memory how).1;
}

-- so is what came of the run of a plan that was read
pub ran_ends : (race : Bool) (does part : Writing) (i j : Input) (o p : Output) (plan : Plan) (ran : Result Returned RunErr) → HasRead race i j plan
    → IfOk ran (λ r. WritesAll does i j o.told p.told) → OnErr ran (WritesSomeOf part i j o.told p.told) → (IsErrOf ran OutputFailed → Rose o.faults p.faults)
    → InputEnds does part i j o p (end_of ran).status
ran_ends race does part i j o p plan (Ok r) read ok err cause = record {
  done = λ how. ok;
  refused = λ how. cc;
  read_fault = λ how. cc;
  too_long = λ how. cc;
  write_fault = λ how. cc;
  no_memory = λ how. cc;
  others = (λ how. cc, λ how. cc);
  complete = λ quiet fine bytes text left short may. inl refl;
}
ran_ends race does part i j o p plan (Err OutputFailed) read ok err cause = record {
  done = λ how. cc;
  refused = λ how. cc;
  read_fault = λ how. cc;
  too_long = λ how. cc;
  write_fault = λ how. (cause refl, inl err);
  no_memory = λ how. cc;
  others = (λ how. cc, λ how. cc);
  complete = λ quiet fine bytes text left short may. absurd (fine (cause refl));
}
ran_ends race does part i j o p plan (Err OutOfMemory) read ok err cause = record {
  done = λ how. cc;
  refused = λ how. cc;
  read_fault = λ how. cc;
  too_long = λ how. cc;
  write_fault = λ how. cc;
  no_memory = λ how. (all, inr (inl err));
  others = (λ how. cc, λ how. cc);
  complete = λ quiet fine bytes text left short may. inr refl;
}
  where
    all : HandsUpTo 16777217 i.told j.told
    all = let short = read.takes.short in handed_fewer 16777217 i.told j.told read.bytes (omega arith) read.takes.reads

-- and nothing is refused then
pub ran_refusal : (race : Bool) (i j : Input) (o p : Output) (plan : Plan) (ran : Result Returned RunErr) → HasRead race i j plan → RefusalEnds race i j o p (end_of ran)
ran_refusal race i j o p plan (Ok r) read = record { refused = λ how. cc; write_fault = λ how. cc; no_memory = λ how. cc }
ran_refusal race i j o p plan (Err OutputFailed) read = record { refused = λ how. cc; write_fault = λ how. inl (plan, read); no_memory = λ how. cc }
ran_refusal race i j o p plan (Err OutOfMemory) read = record { refused = λ how. cc; write_fault = λ how. cc; no_memory = λ how. inr (inl (plan, read)) }

-- so is out of memory before the input is read
pub memory_ends : (does part : Writing) (i : Input) (o : Output) (e : Ended) → e ≡ without_desk NoMemory → InputEnds does part i i o o e.status
memory_ends does part i o e is =
    subst (λ (x : Ended). InputEnds does part i i o o x.status) (sym is)
    (record {
      done = λ how. cc;
      refused = λ how. cc;
      read_fault = λ how. cc;
      too_long = λ how. cc;
      write_fault = λ how. cc;
      no_memory = λ how. (takes_none i.told, inl refl);
      others = (λ how. cc, λ how. cc);
      complete = λ quiet fine bytes text left short may. inr refl;
    })

pub memory_refusal : (race : Bool) (i : Input) (o : Output) (e : Ended) → e ≡ without_desk NoMemory → RefusalEnds race i i o o e
memory_refusal race i o e is =
    subst (λ (x : Ended). RefusalEnds race i i o o x) (sym is)
    (record { refused = λ how. cc; write_fault = λ how. cc; no_memory = λ how. inl refl })
