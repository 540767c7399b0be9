-- Lists of ops, as far as they have come.

use Rattle.std.proofs.Common.{◌≡◌, ◌<◌, ℕ, zero, suc, ◌+◌, List, [], ◌∷◌, ◌++◌, take, drop, length, get_or, inl, inr, arith, refl, sym, subst, ap, ◌∙◌, append_assoc}
use Rattle.std.proofs.{Math.Seq.drop-cons, lemmas.List.take_more}
use Rattle.ert_effects.specs.Ways.{Way, beside}
use Rattle.ert_defs.specs.declared.{entry.Actor.TheVariants.Caller, entry.Entry.Entry, settings.Settings.Settings}
use Rattle.ert_ops.specs.{Races.{MayDo, IsCallersOp}, Ranges.IsOpInRange, declared.op.Op.Op, Calls.Calls, Labels.Labels, Scripts.{Script, labels_after}, declared.reply.Reply.Reply}
use Rattle.ert_ops.specs.declared.op.Op.TheVariants as ops
use Rattle.ert_script.proofs.Runs.{script_more}
use Rattle.ert_ops.specs.declared.reply.Reply.TheVariants as replies
use Rattle.ert_program.specs.Workers.{DoesOwn, DoesAll, FailsOwn, StopsOwn, DoesSome}

-- what a start adds to labels is added to those that stand before them
pub after_known : (ls own : Labels) (op : Op) (r : Reply) → labels_after (ls ++ own) op r ≡ ls ++ labels_after own op r
after_known ls own (ops.Start l w when p msg) (replies.StartOk timer) = append_assoc ls own ((l, timer) ∷ [])
after_known ls own (ops.SendAfter l w when p msg) (replies.SendAfterOk timer) = append_assoc ls own ((l, timer) ∷ [])
after_known ls own op r = refl

-- one more op was done
list_more : (g : Settings) (n : ℕ) (known : Labels) (list : List Op) (rs : List Reply) (own own_new : Labels) (f h k : List Entry) (op : Op) (r : Reply)
    → DoesAll g n known list rs own f h → DoesOwn g n known own op r own_new h k
    → DoesAll g n known (list ++ op ∷ []) (rs ++ r ∷ []) own_new f k
list_more g n known list rs own own_new f h k op r one done =
    let way : Way = beside g (Caller n) in
    let more = done.does in
    let labels : labels_after (known ++ own) op r ≡ known ++ own_new =
    after_known known own op r ∙ ap (λ (x : Labels). known ++ x) (sym done.labels) in
    let called : Calls g way n (known ++ own) op r (f ++ one.piece) more.piece =
    subst (λ (x : List Entry). Calls g way n (known ++ own) op r x more.piece) one.grown more.made in
    record {
      piece = one.piece ++ more.piece;
      grown = more.grown ∙ (ap (λ (x : List Entry). x ++ more.piece) one.grown ∙ append_assoc f one.piece more.piece);
      made = subst (λ (x : Labels). Script g way n known (list ++ op ∷ []) (rs ++ r ∷ []) x f (one.piece ++ more.piece)) labels
          (script_more g way n known list rs (known ++ own) f one.piece more.piece op r one.made called);
    }

pub list_more_at : (g : Settings) (n : ℕ) (known : Labels) (list : List Op) (i : ℕ) (d : Op) (rs : List Reply) (own own_new : Labels) (f h k : List Entry) (r : Reply)
    → i < length list → DoesAll g n known (take i list) rs own f h → DoesOwn g n known own (get_or list i d) r own_new h k
    → DoesAll g n known (take (i + 1) list) (rs ++ r ∷ []) own_new f k
list_more_at g n known list i d rs own own_new f h k r below far done =
    subst (λ (os : List Op). DoesAll g n known os (rs ++ r ∷ []) own_new f k) (sym (take_more list i d below))
    (list_more g n known (take i list) rs own own_new f h k (get_or list i d) r far done)

-- each op of a list is a caller's, in range
pub may_do_at : (g : Settings) (list : List Op) (i : ℕ) (d : Op) → i < length list → MayDo g list
    → IsCallersOp (get_or list i d) × IsOpInRange g (get_or list i d)
may_do_at g [] i d below may = absurd (omega arith)
may_do_at g (op ∷ list) zero d below may = (may.0, may.1)
may_do_at g (op ∷ list) (suc i) d below may = may_do_at g list i d (omega arith) may.2

-- a list that stopped as some ops had left it
stops_here : (g : Settings) (n : ℕ) (known own : Labels) (list : List Op) (f : List Entry) → StopsOwn g n known own list f f
stops_here g n known own [] f = refl
stops_here g n known own (op ∷ rest) f = inl refl

-- there was no memory for one more op
pub some_done : (g : Settings) (n : ℕ) (known : Labels) (list : List Op) (i : ℕ) (d : Op) (rs : List Reply) (own : Labels) (f h k : List Entry)
    → i < length list → DoesAll g n known (take i list) rs own f h → FailsOwn g n known own (get_or list i d) h k → DoesSome g n known list f k
some_done g n known list i d rs own f h k below far fails = record {
  done = i;
  replies = rs;
  own = own;
  reached = h;
  does = far;
  stops = subst (λ (rest : List Op). StopsOwn g n known own rest h k) (sym (drop-cons list i d below)) (inr fails);
}

-- there was none for the reply of the last op that was done
pub reply_lost : (g : Settings) (n : ℕ) (known : Labels) (list : List Op) (i : ℕ) (rs : List Reply) (own : Labels) (f h : List Entry)
    → DoesAll g n known (take i list) rs own f h → DoesSome g n known list f h
reply_lost g n known list i rs own f h far = record {
  done = i;
  replies = rs;
  own = own;
  reached = h;
  does = far;
  stops = stops_here g n known own (drop i list) h;
}
