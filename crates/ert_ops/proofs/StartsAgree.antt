-- A start, wrapped or bare, with each of its replies: both services agree afterwards, also on what its label
-- stands for.

use Rattle.std.proofs.Common.{◌≡◌, ℕ, suc, ◌<◌, ◌≤◌, Bool, true, false, cond, nat_eq, List, [], ◌∷◌, refl, sym, ap, ◌∙◌, subst, arith}
use Rattle.ert_effects.specs.Ways.{alone}
use Rattle.ert_defs.specs.{Legal.LegalFrom, States.{State, run, state}, Timers.timer_at, declared.entry.Entry.Entry, declared.settings.Settings.Settings, declared.timer.Kind.TheVariants.{Wrapped, Bare}, declared.timer.Start.Start}
use Rattle.ert_defs.specs.{declared.timer.TimerRef.TimerRef, declared.timer.When.When}
use Rattle.ert_ops.proofs.{Bound.{IsName, IsFreeLabel, names_grow, new_name, ref_bound}, Clocks.IsDone, Meets.{Agrees, meets_later}, Refusals.{bad_arg_done, full_done}, Starts.{AreStarted, start_done}}
use Rattle.ert_ops.specs.{Calls.{Calls, start_for_op}, Labels.{Labels, ref_of, label_of, bind}, Lines.line_of, Pieces.Piece, Plain.{slot_of, op_piece}, PlainTimers.{looks, arm_entries, start_now}, Scripts.labels_after, declared.op.Op.Op}
use Rattle.ert_ops.specs.{declared.reply.Reply.Reply, declared.reply.Reply.TheVariants.{StartOk, StartBadArg, StartFull, SendAfterOk, SendAfterBadArg, SendAfterFull}}
use Rattle.ert_ops.specs.declared.op.Op.TheVariants as ops

-- an op of both: it prints the same, and both agree afterwards
pub record IsAgreed (g : Settings) (n : ℕ) (ls cl : Labels) (s c : State) (op : Op) (reply : Reply) (es : List Entry) : Type 0 where
  pub line : line_of (label_of (labels_after ls op reply)) reply ≡ line_of slot_of (op_piece g c cl op).reply
  pub agrees : Agrees g (suc n) (labels_after ls op reply) (labels_after cl op (op_piece g c cl op).reply) (run g s es) (run g c (op_piece g c cl op).entries)

-- an op that binds no label
pub agreed : (g : Settings) (n : ℕ) (ls cl : Labels) (s c : State) (op : Op) (reply : Reply) (es : List Entry)
    → labels_after ls op reply ≡ ls → labels_after cl op (op_piece g c cl op).reply ≡ cl
    → ((x : ℕ) → IsName g ls (ref_of ls x) (ref_of cl x)) → IsDone g n ls s c reply es (op_piece g c cl op) → IsAgreed g n ls cl s c op reply es
agreed g n ls cl s c op reply es one other names done = record {
  line = ap (λ (x : Labels). line_of (label_of x) reply) one ∙ done.line;
  agrees = subst (λ (x : Labels). Agrees g (suc n) x (labels_after cl op (op_piece g c cl op).reply) (run g s es) (run g c (op_piece g c cl op).entries)) (sym one)
      (subst (λ (y : Labels). Agrees g (suc n) ls y (run g s es) (run g c (op_piece g c cl op).entries)) (sym other)
      (record { meets = meets_later g n (suc n) ls _ _ (omega arith) done.meets; names = names }));
}

-- what a bound label stands for, and the others
names_bound : (g : Settings) (ls cl : Labels) (l : ℕ) (t m : TimerRef) → IsFreeLabel l ls → IsFreeLabel l cl → IsName g (bind ls l t) t m
    → ((x : ℕ) → IsName g ls (ref_of ls x) (ref_of cl x)) → (x : ℕ) → IsName g (bind ls l t) (ref_of (bind ls l t) x) (ref_of (bind cl l m) x)
names_bound g ls cl l t m free other named names x =
    let S : TimerRef → TimerRef → Type 0 = IsName g (bind ls l t) in
    subst (λ (r : TimerRef). S r (ref_of (bind cl l m) x)) (sym (ref_bound ls l t x free))
    (subst (λ (k : TimerRef). S (cond (nat_eq l x) t (ref_of ls x)) k) (sym (ref_bound cl l m x other))
    (one_or (nat_eq l x) (S) t m (ref_of ls x) (ref_of cl x) named (names_grow g ls ((l, t) ∷ []) (ref_of ls x) (ref_of cl x) (names x))))
  where
    one_or : (b : Bool) (P : TimerRef → TimerRef → Type 0) (r n s k : TimerRef) → P r n → P s k → P (cond b r s) (cond b n k)
    one_or true P r n s k h i = h
    one_or false P r n s k h i = i

-- a start that armed a timer, by its reply
started_agrees : (g : Settings) (n : ℕ) (ls cl : Labels) (l w : ℕ) (start : Start) (t : TimerRef) (s c : State) (es : List Entry) (piece : Piece)
    → IsFreeLabel l ls → IsFreeLabel l cl → ((x : ℕ) → IsName g ls (ref_of ls x) (ref_of cl x)) → AreStarted g n ls l w start t s c es
    → Agrees g (suc n) (bind ls l t) (bind cl l (timer_at w l 1)) (run g s es) (run g c (looks c ∷ arm_entries (timer_at w l 1) start (c.exited start.dest)))
started_agrees g n ls cl l w start t s c es piece free other names does =
    let named : IsName g (bind ls l t) t (timer_at w l 1) =
    subst (λ (v : ℕ). IsName g (bind ls l t) t (timer_at v l 1)) does.wheel
    (new_name g ls l t does.new.some does.new.in_range does.new.free does.new.new) in
    record { meets = does.meets; names = names_bound g ls cl l t (timer_at w l 1) free other named names }

pub start_op : (g : Settings) (n : ℕ) (ls cl : Labels) (h m : List Entry) (c : State) (l w : ℕ) (when : When) (p msg : ℕ) (reply : Reply) → n ≤ 100000
    → n < g.looks → IsFreeLabel l ls → IsFreeLabel l cl → Agrees g n ls cl (state g h) c → LegalFrom g (state g h) m
    → Calls g (alone g) 0 ls (ops.Start l w when p msg) reply h m → IsAgreed g n ls cl (state g h) c (ops.Start l w when p msg) reply m
start_op g n ls cl h m c l w when p msg (StartOk t) few many free other agrees legal does =
    let start : Start = start_for_op when p msg Wrapped in
    let one = start_done g n ls l w start t (state g h) c m few free agrees.meets legal does in
    let P : Piece → Type 0 = λ x.
    Agrees g (suc n) (bind ls l t) (labels_after cl (ops.Start l w when p msg) x.reply) (run g (state g h) m) (run g c x.entries) in
    record {
      line = ap (λ (x : Piece). line_of slot_of x.reply) (sym one.piece);
      agrees = subst P (sym one.piece) (started_agrees g n ls cl l w start t (state g h) c m (start_now g c l w start) free other agrees.names one);
    }
start_op g n ls cl h m c l w when p msg StartBadArg few many free other agrees legal does =
    let one = bad_arg_done g n ls l w (start_for_op when p msg Wrapped) (state g h) c m agrees.meets legal does refl in
    agreed g n ls cl (state g h) c (ops.Start l w when p msg) StartBadArg m refl
    (ap (λ (r : Reply). labels_after cl (ops.Start l w when p msg) r) one.replies) agrees.names one.done
start_op g n ls cl h m c l w when p msg StartFull few many free other agrees legal does =
    let one = full_done g n ls l w (start_for_op when p msg Wrapped) (state g h) c m few many agrees.meets legal does refl in
    agreed g n ls cl (state g h) c (ops.Start l w when p msg) StartFull m refl
    (ap (λ (r : Reply). labels_after cl (ops.Start l w when p msg) r) one.replies) agrees.names one.done
start_op g n ls cl h m c l w when p msg _ few many free other agrees legal does = absurd does

pub send_after_op : (g : Settings) (n : ℕ) (ls cl : Labels) (h m : List Entry) (c : State) (l w : ℕ) (when : When) (p msg : ℕ) (reply : Reply) → n ≤ 100000
    → n < g.looks → IsFreeLabel l ls → IsFreeLabel l cl → Agrees g n ls cl (state g h) c → LegalFrom g (state g h) m
    → Calls g (alone g) 0 ls (ops.SendAfter l w when p msg) reply h m → IsAgreed g n ls cl (state g h) c (ops.SendAfter l w when p msg) reply m
send_after_op g n ls cl h m c l w when p msg (SendAfterOk t) few many free other agrees legal does =
    let start : Start = start_for_op when p msg Bare in
    let one = start_done g n ls l w start t (state g h) c m few free agrees.meets legal does in
    let P : Piece → Type 0 = λ x.
    Agrees g (suc n) (bind ls l t) (labels_after cl (ops.SendAfter l w when p msg) x.reply) (run g (state g h) m) (run g c x.entries) in
    record {
      line = ap (λ (x : Piece). line_of slot_of x.reply) (sym one.piece);
      agrees = subst P (sym one.piece) (started_agrees g n ls cl l w start t (state g h) c m (start_now g c l w start) free other agrees.names one);
    }
send_after_op g n ls cl h m c l w when p msg SendAfterBadArg few many free other agrees legal does =
    let one = bad_arg_done g n ls l w (start_for_op when p msg Bare) (state g h) c m agrees.meets legal does refl in
    agreed g n ls cl (state g h) c (ops.SendAfter l w when p msg) SendAfterBadArg m refl
    (ap (λ (r : Reply). labels_after cl (ops.SendAfter l w when p msg) r) one.replies) agrees.names one.done
send_after_op g n ls cl h m c l w when p msg SendAfterFull few many free other agrees legal does =
    let one = full_done g n ls l w (start_for_op when p msg Bare) (state g h) c m few many agrees.meets legal does refl in
    agreed g n ls cl (state g h) c (ops.SendAfter l w when p msg) SendAfterFull m refl
    (ap (λ (r : Reply). labels_after cl (ops.SendAfter l w when p msg) r) one.replies) agrees.names one.done
send_after_op g n ls cl h m c l w when p msg _ few many free other agrees legal does = absurd does
