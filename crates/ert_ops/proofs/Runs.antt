-- The script runs of a list of ops beside the plain service: op by op they agree, so both print the same.

use Rattle.std.proofs.Common.{◌≡◌, ◌≢◌, ℕ, zero, suc, ◌+◌, ◌<◌, ◌≤◌, All, AllPairs, List, [], ◌∷◌, ◌++◌, length, refl, sym, ap, ◌∙◌, subst, arith, append_assoc}
use Rattle.std.proofs.lemmas.List.Elements.{All-head, All-tail}
use Rattle.ert_effects.specs.Ways.{alone}
use Rattle.ert_defs.proofs.{Lists.{pairs_head, pairs_tail}, Rows.rows_hold, Runs.state-append, Slots.ordered, Standing.all_stand}
use Rattle.ert_defs.specs.{Clocks.Clock, Legal.LegalFrom, States.{State, opening, run, state}, declared.entry.Entry.Entry, declared.settings.Settings.Settings, declared.timer.Status.Status, declared.timer.Status.TheVariants.Armed}
use Rattle.ert_defs.specs.{declared.timer.Status.TheVariants.{Expired, Delivered, Cancelled, Orphaned, Dropped}, declared.timer.TimerRef.TimerRef, declared.timer.When.When}
use Rattle.ert_ops.proofs.{Bound.{IsName, IsFreeLabel, unbound_name}, Many.{legal_before, legal_after}, Meets.Agrees, OpsDone.{tick_op, check_op, finalize_op, notify_op, time_op, system_op, offset_op, info_op, cancel_op, cancel_quiet_op}}
use Rattle.ert_ops.proofs.{OpsDone.{read_op, cancel_async_op, read_async_op, serve_an_op, advance_an_op, deliver_an_op, turn_an_op, receive_op, exit_op, alive_op, monitor_op, demonitor_op}, Readings.converts_done, Shown.{Names, Shows}}
use Rattle.ert_ops.proofs.{Taken.count_pairs, StartsAgree.{IsAgreed, agreed, start_op, send_after_op}}
use Rattle.ert_ops.specs.{Calls.Calls, Labels.{Labels, label_of, bind, labels_in, AreOps}, PlainCounts.plain_after, Laws.{LawOfOneText, LawOfOneTranscript, LawOfPlainCounts}, Lines.line_of, Texts.end_line, Plain.{op_piece, plain_lines}}
use Rattle.ert_ops.specs.{Scripts.{labels_after, Script, lines_of, IsTranscript}, declared.op.Op.Op, declared.reply.Reply.Reply}
use Rattle.ert_laws.specs.Counts.{count_of, has_status, count_in, counts_of}
use Rattle.ert_ops.specs.declared.op.Op.TheVariants as ops
use Rattle.ert_ops.specs.declared.reply.Reply.TheVariants as replies

-- the label that an op starts a timer with is free
abbrev pub IsFreeFor : Op → Labels → Type 0
IsFreeFor (ops.Start l w when p msg) ls = IsFreeLabel l ls
IsFreeFor (ops.SendAfter l w when p msg) ls = IsFreeLabel l ls
IsFreeFor _ ls = Unit {0}

pub op_agrees : (g : Settings) (n : ℕ) (ls cl : Labels) (h m : List Entry) (c : State) (op : Op) (reply : Reply) → n ≤ 100000
    → n < g.looks → IsFreeFor op ls → IsFreeFor op cl → Agrees g n ls cl (state g h) c → LegalFrom g (state g h) m
    → Calls g (alone g) 0 ls op reply h m → IsAgreed g n ls cl (state g h) c op reply m
op_agrees g n ls cl h m c (ops.Start l w when p msg) reply few many free other a legal does =
    start_op g n ls cl h m c l w when p msg reply few many free other a legal does
op_agrees g n ls cl h m c (ops.SendAfter l w when p msg) reply few many free other a legal does =
    send_after_op g n ls cl h m c l w when p msg reply few many free other a legal does
op_agrees g n ls cl h m c (ops.Tick mono sys) reply few many free other a legal does =
    agreed g n ls cl (state g h) c (ops.Tick mono sys) reply m refl refl a.names (tick_op g n ls h m c mono sys reply a.meets legal does)
op_agrees g n ls cl h m c (ops.Check mono sys) reply few many free other a legal does =
    agreed g n ls cl (state g h) c (ops.Check mono sys) reply m refl refl a.names (check_op g n ls h m c mono sys reply a.meets legal does)
op_agrees g n ls cl h m c (ops.Finalize mono sys) reply few many free other a legal does =
    agreed g n ls cl (state g h) c (ops.Finalize mono sys) reply m refl refl a.names (finalize_op g n ls h m c mono sys reply a.meets legal does)
op_agrees g n ls cl h m c (ops.Notify p) reply few many free other a legal does =
    agreed g n ls cl (state g h) c (ops.Notify p) reply m refl refl a.names (notify_op g n ls h m c p reply a.meets legal does)
op_agrees g n ls cl h m c ops.Time reply few many free other a legal does =
    agreed g n ls cl (state g h) c ops.Time reply m refl refl a.names (time_op g n ls h m c reply a.meets legal does)
op_agrees g n ls cl h m c ops.System reply few many free other a legal does =
    agreed g n ls cl (state g h) c ops.System reply m refl refl a.names (system_op g n ls h m c reply a.meets legal does)
op_agrees g n ls cl h m c ops.Offset reply few many free other a legal does =
    agreed g n ls cl (state g h) c ops.Offset reply m refl refl a.names (offset_op g n ls h m c reply a.meets legal does)
op_agrees g n ls cl h m c ops.Info reply few many free other a legal does =
    agreed g n ls cl (state g h) c ops.Info reply m refl refl a.names (info_op g n ls h m c reply a.meets legal does)
op_agrees g n ls cl h m c (ops.Convert time from to) reply few many free other a legal does =
    agreed g n ls cl (state g h) c (ops.Convert time from to) reply m refl refl a.names (converts_done g n ls (state g h) c time from to reply m a.meets does)
op_agrees g n ls cl h m c (ops.Cancel l) reply few many free other a legal does =
    agreed g n ls cl (state g h) c (ops.Cancel l) reply m refl refl a.names (cancel_op g n ls cl h m c l reply (a.names l) a.meets legal does)
op_agrees g n ls cl h m c (ops.CancelQuiet l) reply few many free other a legal does =
    agreed g n ls cl (state g h) c (ops.CancelQuiet l) reply m refl refl a.names (cancel_quiet_op g n ls cl h m c l reply (a.names l) a.meets legal does)
op_agrees g n ls cl h m c (ops.Read l) reply few many free other a legal does =
    agreed g n ls cl (state g h) c (ops.Read l) reply m refl refl a.names (read_op g n ls cl h m c l reply (a.names l) a.meets legal does)
op_agrees g n ls cl h m c (ops.CancelAsync l p info) reply few many free other a legal does =
    agreed g n ls cl (state g h) c (ops.CancelAsync l p info) reply m refl refl a.names
    (cancel_async_op g n ls cl h m c l p info reply (a.names l) a.meets legal does)
op_agrees g n ls cl h m c (ops.ReadAsync l p info) reply few many free other a legal does =
    agreed g n ls cl (state g h) c (ops.ReadAsync l p info) reply m refl refl a.names
    (read_async_op g n ls cl h m c l p info reply (a.names l) a.meets legal does)
op_agrees g n ls cl h m c (ops.Serve w) reply few many free other a legal does =
    agreed g n ls cl (state g h) c (ops.Serve w) reply m refl refl a.names (serve_an_op g n ls h m c w reply a.meets legal does)
op_agrees g n ls cl h m c (ops.Advance w) reply few many free other a legal does =
    agreed g n ls cl (state g h) c (ops.Advance w) reply m refl refl a.names (advance_an_op g n ls h m c w reply a.meets legal does)
op_agrees g n ls cl h m c (ops.Deliver w) reply few many free other a legal does =
    agreed g n ls cl (state g h) c (ops.Deliver w) reply m refl refl a.names (deliver_an_op g n ls h m c w reply a.meets legal does)
op_agrees g n ls cl h m c (ops.Turn w) reply few many free other a legal does =
    agreed g n ls cl (state g h) c (ops.Turn w) reply m refl refl a.names (turn_an_op g n ls h m c w reply a.meets legal does)
op_agrees g n ls cl h m c (ops.Receive p) reply few many free other a legal does =
    agreed g n ls cl (state g h) c (ops.Receive p) reply m refl refl a.names (receive_op g n ls h m c p reply a.meets legal does)
op_agrees g n ls cl h m c (ops.Exit p) reply few many free other a legal does =
    agreed g n ls cl (state g h) c (ops.Exit p) reply m refl refl a.names (exit_op g n ls h m c p reply a.meets legal does)
op_agrees g n ls cl h m c (ops.Alive p) reply few many free other a legal does =
    agreed g n ls cl (state g h) c (ops.Alive p) reply m refl refl a.names (alive_op g n ls h m c p reply a.meets legal does)
op_agrees g n ls cl h m c (ops.Monitor p) reply few many free other a legal does =
    agreed g n ls cl (state g h) c (ops.Monitor p) reply m refl refl a.names (monitor_op g n ls h m c p reply a.meets legal does)
op_agrees g n ls cl h m c (ops.Demonitor p k) reply few many free other a legal does =
    agreed g n ls cl (state g h) c (ops.Demonitor p k) reply m refl refl a.names (demonitor_op g n ls h m c p k reply a.meets legal does)

-- the labels of the ops to come are free

abbrev pub AreFree : List ℕ → Labels → Type 0
AreFree [] ls = Unit {0}
AreFree (l ∷ rest) ls = IsFreeLabel l ls × AreFree rest ls

free_bound : (k l : ℕ) (t : TimerRef) (ls : Labels) → IsFreeLabel k ls → l ≢ k → IsFreeLabel k (bind ls l t)
free_bound k l t [] free apart = (apart, tt)
free_bound k l t (p ∷ ps) free apart = (free.0, free_bound k l t ps free.1 apart)

free_rest : (l : ℕ) (t : TimerRef) (rest : List ℕ) (ls : Labels) → AreFree rest ls → All (λ (k : ℕ). l ≢ k) rest → AreFree rest (bind ls l t)
free_rest l t [] ls free apart = tt
free_rest l t (k ∷ rest) ls free apart = (
  free_bound k l t ls free.0 (All-head (λ (k : ℕ). l ≢ k) k rest apart),
  free_rest l t rest ls free.1 (All-tail (λ (k : ℕ). l ≢ k) k rest apart),
)

pub free_first : (op : Op) (rest : List Op) (ls : Labels) → AreFree (labels_in (op ∷ rest)) ls → IsFreeFor op ls
free_first (ops.Start l w when p msg) rest ls free = free.0
free_first (ops.SendAfter l w when p msg) rest ls free = free.0
free_first _ rest ls free = tt

abbrev pub Apart : List ℕ → Type 0
Apart labels = AllPairs (λ (l : ℕ) k. l ≢ k) labels

start_free : (l w : ℕ) (when : When) (p msg : ℕ) (reply : Reply) (rest : List ℕ) (ls : Labels) → Apart (l ∷ rest) → AreFree (l ∷ rest) ls
    → AreFree rest (labels_after ls (ops.Start l w when p msg) reply)
start_free l w when p msg (replies.StartOk t) rest ls apart free = free_rest l t rest ls free.1 (pairs_head (λ (l : ℕ) k. l ≢ k) l rest apart)
start_free l w when p msg _ rest ls apart free = free.1

send_free : (l w : ℕ) (when : When) (p msg : ℕ) (reply : Reply) (rest : List ℕ) (ls : Labels) → Apart (l ∷ rest) → AreFree (l ∷ rest) ls
    → AreFree rest (labels_after ls (ops.SendAfter l w when p msg) reply)
send_free l w when p msg (replies.SendAfterOk t) rest ls apart free = free_rest l t rest ls free.1 (pairs_head (λ (l : ℕ) k. l ≢ k) l rest apart)
send_free l w when p msg _ rest ls apart free = free.1

pub free_later : (op : Op) (reply : Reply) (rest : List Op) (ls : Labels) → Apart (labels_in (op ∷ rest)) → AreFree (labels_in (op ∷ rest)) ls
    → AreFree (labels_in rest) (labels_after ls op reply)
free_later (ops.Start l w when p msg) reply rest ls apart free = start_free l w when p msg reply (labels_in rest) ls apart free
free_later (ops.SendAfter l w when p msg) reply rest ls apart free = send_free l w when p msg reply (labels_in rest) ls apart free
free_later _ reply rest ls apart free = free

pub apart_later : (op : Op) (rest : List Op) → Apart (labels_in (op ∷ rest)) → Apart (labels_in rest)
apart_later (ops.Start l w when p msg) rest apart = pairs_tail (λ (l : ℕ) k. l ≢ k) l (labels_in rest) apart
apart_later (ops.SendAfter l w when p msg) rest apart = pairs_tail (λ (l : ℕ) k. l ≢ k) l (labels_in rest) apart
apart_later _ rest apart = apart

-- the induction over the ops

-- the whole list: it prints the same, and leaves states that differ in names alone
pub record AreDone (g : Settings) (ls cl : Labels) (list : List Op) (rs : List Reply) (after : Labels) (s c : State) : Type 0 where
  pub text : lines_of ls list rs ++ end_line s.clock.now ≡ plain_lines g c cl list
  pub shows : Shows (IsName g after) s (plain_after g c cl list)

lines_agree : (g : Settings) (n : ℕ) (ls cl : Labels) (list : List Op) (rs : List Reply) (after : Labels) (h m : List Entry) (c : State)
    → n + length list ≤ 100000 → n + length list ≤ g.looks → Apart (labels_in list) → AreFree (labels_in list) ls → AreFree (labels_in list) cl
    → Agrees g n ls cl (state g h) c → LegalFrom g (state g h) m → Script g (alone g) 0 ls list rs after h m
    → AreDone g ls cl list rs after (state g (h ++ m)) c
lines_agree g n ls cl [] rs after h m c few many apart free other agrees legal runs =
    let same : state g (h ++ m) ≡ state g h = state-append g h m ∙ ap (λ (e : List Entry). run g (state g h) e) runs.2 in
    record {
      text = ap end_line (ap (λ (z : State). z.clock.now) same ∙ ap (λ (k : Clock). k.now) agrees.meets.shows.clock);
      shows = subst (λ (x : Labels). Shows (IsName g x) (state g (h ++ m)) c) (sym runs.1)
          (subst (λ (z : State). Shows (IsName g ls) z c) (sym same) agrees.meets.shows);
    }
lines_agree g n ls cl (op ∷ list) rs after h m c few many apart free other agrees legal runs =
    let piece : List Entry = runs.0 in
    let later : List Entry = runs.1 in
    let reply : Reply = runs.2 in
    let others : List Reply = runs.3 in
    let joined : m ≡ piece ++ later = runs.4 in
    let count : length (op ∷ list) ≡ suc (length list) = refl in
    let one = op_agrees g n ls cl h piece c op reply (omega arith) (omega arith) (free_first op list ls free) (free_first op list cl other) agrees
    (legal_before g h m piece later joined legal) runs.6 in
    let labels : Labels = labels_after ls op reply in
    let d : State = run g c (op_piece g c cl op).entries in
    let here = subst (λ (z : State). Agrees g (suc n) labels (labels_after cl op (op_piece g c cl op).reply) z d) (sym (state-append g h piece)) one.agrees in
    let rest = lines_agree g (suc n) labels (labels_after cl op (op_piece g c cl op).reply) list others after (h ++ piece) later d
    (omega arith) (omega arith) (apart_later op list apart) (free_later op reply list ls apart free) (free_later op (op_piece g c cl op).reply list cl apart other)
    here (legal_after g h m piece later joined legal) runs.7 in
    let whole : (h ++ piece) ++ later ≡ h ++ m = append_assoc h piece later ∙ ap (λ (e : List Entry). h ++ e) (sym joined) in
    let all = subst (λ (e : List Entry). AreDone g labels (labels_after cl op (op_piece g c cl op).reply) list others after (state g e) d) whole rest in
    let first : List ℕ = line_of (label_of labels) reply in
    record {
      text = ap (λ (x : List Reply). lines_of ls (op ∷ list) x ++ end_line (state g (h ++ m)).clock.now) runs.5
          ∙ append_assoc first (lines_of labels list others) (end_line (state g (h ++ m)).clock.now)
          ∙ ap (λ (x : List ℕ). first ++ x) all.text
          ∙ ap (λ (x : List ℕ). x ++ plain_lines g d (labels_after cl op (op_piece g c cl op).reply) list) one.line;
      shows = all.shows;
    }

-- at the opening both agree

pub none_free : (labels : List ℕ) → AreFree labels []
none_free [] = tt
none_free (l ∷ labels) = (tt, none_free labels)

opened : (g : Settings) → Agrees g 0 [] [] (state g []) (opening g)
opened g = record {
  meets = record {
    kept = record { ordered = ordered g [] tt; rows = λ w. rows_hold g [] w tt; stand = all_stand g [] tt };
    shows = record {
      clock = refl;
      looked = λ a. refl;
      exited = λ p. refl;
      rows = λ w. tt;
      mails = λ p. record { queue = tt; monitors = refl; next = refl };
      inboxes = λ w. tt;
      scheds = λ w. record { hand = tt; expired = tt };
      status = λ r n named. refl;
    };
    used = tt;
    lasts = λ w k. omega arith;
    few = λ w. omega arith;
  };
  names = λ x. unbound_name g [] 0 x;
}

-- a script run from the opening on
pub done : (g : Settings) (list : List Op) (text : List ℕ) → AreOps list → length list ≤ g.looks → (t : IsTranscript g list text)
    → AreDone g [] [] list t.replies t.labels (state g t.entries) (opening g)
done g list text are many t =
    lines_agree g 0 [] [] list t.replies t.labels [] t.entries (opening g) (omega (arith, are.few)) (omega (arith, many)) are.apart (none_free (labels_in list))
    (none_free (labels_in list)) (opened g) t.legal t.runs

pub one_text : LawOfOneText
one_text g list text are many t = t.reads ∙ (done g list text are many t).text

pub one_transcript : LawOfOneTranscript
one_transcript g list text other are many t s = one_text g list text are many t ∙ sym (one_text g list other are many s)

-- and as many timers have each status

same_count : (R : Names) (s c : State) (status : Status) (w : ℕ) → Shows R s c → count_in s status w ≡ count_in c status w
same_count R s c status zero h = refl
same_count R s c status (suc w) h =
    let before : count_in s status w ≡ count_in c status w = same_count R s c status w h in
    let here : count_of (has_status status) s.status (s.rows w) ≡ count_of (has_status status) c.status (c.rows w) =
    count_pairs (has_status status) R s.status c.status h.status (s.rows w) (c.rows w) (h.rows w) in
    cc

same_counts : (R : Names) (g : Settings) (s c : State) → Shows R s c → counts_of g s ≡ counts_of g c
same_counts R g s c h =
    let armed : count_in s Armed g.schedulers ≡ count_in c Armed g.schedulers = same_count R s c Armed g.schedulers h in
    let expired : count_in s Expired g.schedulers ≡ count_in c Expired g.schedulers = same_count R s c Expired g.schedulers h in
    let delivered : count_in s Delivered g.schedulers ≡ count_in c Delivered g.schedulers = same_count R s c Delivered g.schedulers h in
    let dropped : count_in s Dropped g.schedulers ≡ count_in c Dropped g.schedulers = same_count R s c Dropped g.schedulers h in
    let cancelled : count_in s Cancelled g.schedulers ≡ count_in c Cancelled g.schedulers = same_count R s c Cancelled g.schedulers h in
    let orphaned : count_in s Orphaned g.schedulers ≡ count_in c Orphaned g.schedulers = same_count R s c Orphaned g.schedulers h in
    cc

pub counts_agree : LawOfPlainCounts
counts_agree g list text are many t =
    same_counts (IsName g t.labels) g (state g t.entries) (plain_after g (opening g) [] list) (done g list text are many t).shows
