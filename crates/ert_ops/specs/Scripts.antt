-- Script runs of a list of ops, and its transcript.

use Rattle.std.specs.Prelude.{◌≡◌, ℕ, List, [], ◌∷◌, ◌++◌, take}
use Rattle.ert_effects.specs.Ways.{Way, alone}
use Rattle.ert_defs.specs.{Legal.Legal, States.state, declared.entry.Entry.Entry, declared.settings.Settings.Settings}
use Rattle.ert_ops.specs.{Calls.Calls, Labels.{Labels, label_of, bind}, Lines.line_of, Texts.end_line, declared.op.Op.Op, declared.reply.Reply.Reply}
use Rattle.ert_ops.specs.declared.op.Op.TheVariants as ops
use Rattle.ert_ops.specs.declared.reply.Reply.TheVariants as replies

-- the labels after an op: a start that armed a timer binds its label
abbrev pub labels_after : Labels → Op → Reply → Labels
labels_after ls (ops.Start l w when p msg) (replies.StartOk timer) = bind ls l timer
labels_after ls (ops.SendAfter l w when p msg) (replies.SendAfterOk timer) = bind ls l timer
labels_after ls op reply = ls

-- the ops are done one after the other by caller n, in a way, after a history and with labels: with these
-- replies, and these labels at the end
abbrev pub Script : Settings → Way → ℕ → Labels → List Op → List Reply → Labels → List Entry → List Entry → Type 0
Script g way n ls [] rs after h m = (rs ≡ []) × (after ≡ ls) × (m ≡ [])
Script g way n ls (op ∷ ops) rs after h m =
    (piece later : List Entry) × (reply : Reply) × (others : List Reply) × (m ≡ piece ++ later) × (rs ≡ reply ∷ others)
    × Calls g way n ls op reply h piece × Script g way n (labels_after ls op reply) ops others after (h ++ piece) later

-- the lines of ops and their replies, by labels: each line is printed after its op
abbrev pub lines_of : Labels → List Op → List Reply → List ℕ
lines_of ls (op ∷ ops) (r ∷ rs) = line_of (label_of (labels_after ls op r)) r ++ lines_of (labels_after ls op r) ops rs
lines_of ls _ _ = []

-- a text is a transcript of ops: a legal history of one thread is a script run of them by caller 0, and the
-- text is the lines of its replies, and then the end line
pub record IsTranscript (g : Settings) (ops : List Op) (text : List ℕ) : Type 0 where
  pub entries : List Entry
  pub replies : List Reply
  pub labels : Labels
  pub legal : Legal g entries
  pub runs : Script g (alone g) 0 [] ops replies labels [] entries
  pub reads : text ≡ lines_of [] ops replies ++ end_line (state g entries).clock.now

-- a text is the lines of a script run of some first ops
pub record IsBeginning (g : Settings) (ops : List Op) (text : List ℕ) : Type 0 where
  pub done : ℕ
  pub entries : List Entry
  pub replies : List Reply
  pub labels : Labels
  pub legal : Legal g entries
  pub runs : Script g (alone g) 0 [] (take done ops) replies labels [] entries
  pub reads : text ≡ lines_of [] (take done ops) replies
