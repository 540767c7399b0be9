-- The laws of transcripts: what every script run of a list of ops prints.

use Rattle.std.specs.Prelude.{◌≡◌, ◌≤◌, ℕ, List, [], ◌++◌, length, take}
use Rattle.ert_effects.specs.Ways.{alone}
use Rattle.ert_defs.specs.{Legal.Legal, States.state, declared.entry.Entry.Entry, declared.settings.Settings.Settings}
use Rattle.ert_laws.specs.Counts.{counts_of}
use Rattle.ert_ops.specs.{PlainCounts.plain_counts, Plain.plain_text, Labels.{Labels, AreOps}, Scripts.{Script, lines_of, IsTranscript}, declared.reply.Reply.Reply, declared.op.Op.Op}

-- what every script run of the ops prints is what the plain service prints, where a start looks at as many slots as
-- there are ops: so the wheel is full where one is refused
abbrev pub LawOfOneText : Type 0
LawOfOneText = (g : Settings) (ops : List Op) (text : List ℕ) → AreOps ops → length ops ≤ g.looks → IsTranscript g ops text
    → text ≡ plain_text g ops

-- so the ops have one transcript at most
abbrev pub LawOfOneTranscript : Type 0
LawOfOneTranscript = (g : Settings) (ops : List Op) (text other : List ℕ) → AreOps ops → length ops ≤ g.looks
    → IsTranscript g ops text → IsTranscript g ops other → text ≡ other

-- the timers that a script run leaves have the statuses that the plain service tells
abbrev pub LawOfPlainCounts : Type 0
LawOfPlainCounts = (g : Settings) (ops : List Op) (text : List ℕ) → AreOps ops → length ops ≤ g.looks → (t : IsTranscript g ops text)
    → counts_of g (state g t.entries) ≡ plain_counts g ops

-- a text is the first part of another
abbrev pub IsFront : List ℕ → List ℕ → Type 0
IsFront text whole = (rest : List ℕ) × (text ++ rest ≡ whole)

-- the lines of a script run of some first ops are the first part of what all ops print
abbrev pub LawOfFronts : Type 0
LawOfFronts = (g : Settings) (ops : List Op) (n : ℕ) (entries : List Entry) (replies : List Reply) (labels : Labels) → AreOps ops
    → length ops ≤ g.looks → Legal g entries → Script g (alone g) 0 [] (take n ops) replies labels [] entries
    → IsFront (lines_of [] (take n ops) replies) (plain_text g ops)
