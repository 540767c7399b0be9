-- The laws of what is done in a race.

use Rattle.std.proofs.Common.{◌≡◌, ℕ, suc, List, [], ◌∷◌, ◌++◌, length, ap, ◌∙◌, append-nil}
use Rattle.std.proofs.lemmas.List.Elements.{filter-append}
use Rattle.ert_effects.specs.Ways.{Growth, Way, beside}
use Rattle.ert_defs.specs.{Actors.{of, has_actor}, declared.entry.Actor.Actor, declared.entry.Actor.TheVariants.{Sched, Caller}, declared.entry.Entry.Entry, declared.settings.Settings.Settings}
use Rattle.ert_ops.specs.{declared.op.Op.Op, Labels.Labels, Scripts.{Script, labels_after}, declared.reply.Reply.Reply}
use Rattle.ert_program.specs.{Laws.{LawOfPieces, LawOfTurnPieces, LawOfReplies}, Made.MakesInStretch}

pub in_pieces : (a : Actor) (call : Growth) (h stretch : List Entry) (makes : MakesInStretch a call h stretch) → of stretch a ≡ of makes.pieces a
in_pieces a call h stretch makes =
    ap (λ (l : List Entry). of l a) makes.parted
    ∙ (filter-append (λ e. has_actor e a) makes.pieces makes.after
    ∙ (ap (λ (l : List Entry). of makes.pieces a ++ l) makes.away ∙ append-nil (of makes.pieces a)))

pub lists_in_pieces : LawOfPieces
lists_in_pieces g labels k ops d h stretch does = in_pieces (Caller k) _ h stretch does

pub turns_in_pieces : LawOfTurnPieces
turns_in_pieces g w count h stretch turns = in_pieces (Sched w) _ h stretch turns.makes

as_many : (g : Settings) (way : Way) (n : ℕ) (labels : Labels) (ops : List Op) (replies : List Reply) (after : Labels) (h m : List Entry)
    → Script g way n labels ops replies after h m → length replies ≡ length ops
as_many g way n labels [] replies after h m script = ap (λ l. length l) script.0
as_many g way n labels (op ∷ ops) replies after h m script =
    ap (λ l. length l) script.5
    ∙ ap (λ k. suc k) (as_many g way n (labels_after labels op script.2) ops script.3 after (h ++ script.0) script.1 script.7)

pub replies_are_many : LawOfReplies
replies_are_many g labels k ops d h stretch does =
    as_many g (beside g (Caller k)) k labels ops d.replies (labels ++ d.own) h does.pieces does.made
