-- What a worker does on a service, beside others.

use Rattle.std.specs.Prelude.{◌≡◌, ◌⊎◌, ℕ, ◌<◌, List, [], ◌∷◌, ◌++◌, length, take, drop, Result, Ok, Err, IfOk, OnErr}
use Rattle.ert_effects.specs.{Chains.Turns, Ways.{Grows, Many, beside}, declared.answers.Turned.Turned}
use Rattle.ert_defs.specs.declared.{entry.Actor.TheVariants.{Caller, Sched}, entry.Entry.Entry, memory.NoMemory.NoMemory, settings.Settings.Settings}
use Rattle.ert_ops.specs.{declared.op.Op.Op, Calls.Calls, Labels.Labels, Scripts.{Script, labels_after}, declared.reply.Reply.Reply}
use Rattle.ert_script.specs.Doing.{BreaksOff}
use Rattle.ert_program.specs.declared.races.list.ListDone.{ListDone}

-- a caller does an op: its labels are those that it knows, and after them its own, to which a start adds. A history
-- grows by what the op allows with its reply, beside others
pub record DoesOwn (g : Settings) (n : ℕ) (known own : Labels) (op : Op) (reply : Reply) (own_new : Labels) (f h : List Entry) : Type 0 where
  pub does : Grows (Calls g (beside g (Caller n)) n (known ++ own) op reply) f h
  pub labels : own_new ≡ labels_after own op reply

-- a caller had no memory for an op
abbrev pub FailsOwn : Settings → ℕ → Labels → Labels → Op → List Entry → List Entry → Type 0
FailsOwn g n known own op f h = Grows (BreaksOff g (beside g (Caller n)) n (known ++ own) op) f h

-- it has done the op, or had no memory for it
pub record AnswersOwn (g : Settings) (n : ℕ) (known own : Labels) (op : Op) (answer : Result Reply NoMemory) (own_new : Labels) (f h : List Entry) : Type 0 where
  pub does : IfOk answer (λ reply. DoesOwn g n known own op reply own_new f h)
  pub fails : OnErr answer (FailsOwn g n known own op f h)

-- it does a list of ops, one after the other
abbrev pub DoesAll : Settings → ℕ → Labels → List Op → List Reply → Labels → List Entry → List Entry → Type 0
DoesAll g n known ops replies own f h = Grows (Script g (beside g (Caller n)) n known ops replies (known ++ own)) f h

-- it does a list of ops, with what came of it
abbrev pub DoesWhole : Settings → ℕ → Labels → List Op → ListDone → List Entry → List Entry → Type 0
DoesWhole g n known ops done f h = DoesAll g n known ops done.replies.items done.own f h

-- a caller's front is where some ops have left it, or there was no memory for the first of those to come
abbrev pub StopsOwn : Settings → ℕ → Labels → Labels → List Op → List Entry → List Entry → Type 0
StopsOwn g n known own [] f h = h ≡ f
StopsOwn g n known own (op ∷ rest) f h = (h ≡ f) ⊎ FailsOwn g n known own op f h

-- it does some first ops of a list, one after the other, and stops there
pub record DoesSome (g : Settings) (n : ℕ) (known : Labels) (list : List Op) (f h : List Entry) : Type 0 where
  pub done : ℕ
  pub replies : List Reply
  pub own : Labels
  pub reached : List Entry
  pub does : DoesAll g n known (take done list) replies own f reached
  pub stops : StopsOwn g n known own (drop done list) reached h

-- a scheduler makes so many turns, one after the other, beside others
pub record TurnsSoOften (g : Settings) (w : ℕ) (count : ℕ) (f h : List Entry) : Type 0 where
  pub turned : List Turned
  pub counted : length turned ≡ count
  pub grows : Grows (Many (λ t. Turns g (beside g (Sched w)) w (Ok t)) turned) f h

-- it makes fewer turns, and there is no memory for the next
pub record TurnsLess (g : Settings) (w : ℕ) (count : ℕ) (f h : List Entry) : Type 0 where
  pub done : ℕ
  pub few : done < count
  pub reached : List Entry
  pub turned : TurnsSoOften g w done f reached
  pub stops : Grows (Turns g (beside g (Sched w)) w (Err (record {}))) reached h
