-- A run as far as it has come.

use Rattle.std.proofs.Common.{◌≡◌, ℕ, ◌+◌, ◌<◌, List, [], ◌∷◌, ◌++◌, take, drop, length, get_or, Option, zero, suc, inl, inr, arith, refl, sym, subst, ap, ◌∙◌, append_assoc, append-nil}
use Rattle.std.specs.Prelude.{Result, Ok, Err, OnErr, IfErr, ◌≤◌}
use Rattle.std.proofs.{Math.Seq.drop-cons, lemmas.List.{take_more, take_all}}
use Rattle.ert_effects.specs.Ways.{Way, alone}
use Rattle.ert_io.proofs.Takes.{took-took, took-none, fits_after}
use Rattle.ert_io.specs.{Known.HasRoomFor, Told.{SinkTold, sink_told, took, room_left, TakesFront}}
use Rattle.ert_defs.specs.declared.{entry.Entry.Entry, settings.Settings.Settings}
use Rattle.ert_script.specs.{Pages.WritesWaiting, declared.output.RunErr.RunErr, declared.output.RunErr.TheVariants.NoMemory, Scripts.{DoesWith, Fails, Runs}, Written.{RunsAll, RunsSome, StopsAt, WritesRun, WritesSome, LinesFit}}
use Rattle.ert_ops.specs.{Ranges.{IsOpInRange, AreOpsInRange}, declared.op.Op.Op, Calls.Calls, Labels.{Labels, label_of}, Lines.line_of, Scripts.{Script, labels_after, lines_of}, declared.reply.Reply.Reply}
use Rattle.ert_world.specs.Worlds.{Seen, StandsFor}

-- a script run and one more op
pub script_more : (g : Settings) (way : Way) (n : ℕ) (ls : Labels) (list : List Op) (rs : List Reply) (after : Labels) (h m piece : List Entry) (op : Op) (r : Reply)
    → Script g way n ls list rs after h m → Calls g way n after op r (h ++ m) piece
    → Script g way n ls (list ++ op ∷ []) (rs ++ r ∷ []) (labels_after after op r) h (m ++ piece)
script_more g way n ls [] rs after h m piece op r ran called =
    let whole : h ++ m ≡ h = ap (λ (x : List Entry). h ++ x) ran.2 ∙ append-nil h in (
      piece,
      [],
      r,
      [],
      ap (λ (x : List Entry). x ++ piece) ran.2 ∙ sym (append-nil piece),
      ap (λ (x : List Reply). x ++ r ∷ []) ran.0,
      subst (λ (x : Labels). Calls g way n x op r h piece) ran.1
          (subst (λ (x : List Entry). Calls g way n after op r x piece) whole called),
      (refl, ap (λ (x : Labels). labels_after x op r) ran.1, refl),
    )
script_more g way n ls (o ∷ list) rs after h m piece op r ran called =
    let first : List Entry = ran.0 in
    let later : List Entry = ran.1 in
    let whole : h ++ m ≡ (h ++ first) ++ later = ap (λ (x : List Entry). h ++ x) ran.4 ∙ sym (append_assoc h first later) in (
      first,
      later ++ piece,
      ran.2,
      ran.3 ++ r ∷ [],
      ap (λ (x : List Entry). x ++ piece) ran.4 ∙ append_assoc first later piece,
      ap (λ (x : List Reply). x ++ r ∷ []) ran.5,
      ran.6,
      script_more g way n (labels_after ls o ran.2) list ran.3 after (h ++ first) later piece op r ran.7
          (subst (λ (x : List Entry). Calls g way n after op r x piece) whole called),
    )

-- its lines, and one more
lines_more : (g : Settings) (ls : Labels) (list : List Op) (rs : List Reply) (after : Labels) (h m : List Entry) (op : Op) (r : Reply)
    → Script g (alone g) 0 ls list rs after h m
    → lines_of ls (list ++ op ∷ []) (rs ++ r ∷ []) ≡ lines_of ls list rs ++ line_of (label_of (labels_after after op r)) r
lines_more g ls [] rs after h m op r ran =
    ap (λ (x : List Reply). lines_of ls (op ∷ []) (x ++ r ∷ [])) ran.0 ∙ append-nil (line_of (label_of (labels_after ls op r)) r)
    ∙ ap (λ (x : Labels). line_of (label_of (labels_after x op r)) r) (sym ran.1)
lines_more g ls (o ∷ list) rs after h m op r ran =
    let first : List ℕ = line_of (label_of (labels_after ls o ran.2)) ran.2 in
    ap (λ (x : List Reply). lines_of ls (o ∷ list ++ op ∷ []) (x ++ r ∷ [])) ran.5
    ∙ ap (λ (t : List ℕ). first ++ t) (lines_more g (labels_after ls o ran.2) list ran.3 after (h ++ ran.0) ran.1 op r ran.7)
    ∙ sym (append_assoc first (lines_of (labels_after ls o ran.2) list ran.3) (line_of (label_of (labels_after after op r)) r))
    ∙ ap (λ (x : List Reply). lines_of ls (o ∷ list) x ++ line_of (label_of (labels_after after op r)) r) (sym ran.5)

-- before the first op a world has done nothing
pub runs_none : (w : Seen) (ls : Labels) → Runs w ls [] [] w ls
runs_none w ls = record { grows = record { piece = []; grown = sym (append-nil w.history); made = (refl, refl, refl) }; settings = refl; next = refl }

-- a run and one more op
pub runs_more : (start v w : Seen) (ls before after : Labels) (list : List Op) (rs : List Reply) (op : Op) (r : Reply) → Runs start ls list rs v before
    → DoesWith v before op r w after → Runs start ls (list ++ op ∷ []) (rs ++ r ∷ []) w after
runs_more start v w ls before after list rs op r ran done =
    let one : List Entry = ran.grows.piece in
    let more : List Entry = done.grows.piece in
    let called : Calls start.settings (alone start.settings) 0 before op r (start.history ++ one) more =
    subst (λ (x : Settings). Calls x (alone x) 0 before op r (start.history ++ one) more) ran.settings
    (subst (λ (x : List Entry). Calls v.settings (alone v.settings) 0 before op r x more) ran.grows.grown done.grows.made) in
    record {
      grows = record {
        piece = one ++ more;
        grown = done.grows.grown ∙ ap (λ (x : List Entry). x ++ more) ran.grows.grown ∙ append_assoc start.history one more;
        made = subst (λ (x : Labels). Script start.settings (alone start.settings) 0 ls (list ++ op ∷ []) (rs ++ r ∷ []) x start.history (one ++ more))
            (sym done.labels)
            (script_more start.settings (alone start.settings) 0 ls list rs before start.history one more op r ran.grows.made called);
      };
      settings = done.settings ∙ ran.settings;
      next = done.next ∙ ran.next;
    }

-- the ops of a list were done, and came to a world and labels; a first part of their lines was written, and this
-- page waits
pub record IsSoFar (start : Seen) (ls : Labels) (list : List Op) (v : Seen) (after : Labels) (old now : SinkTold) (page : List ℕ) : Type 0 where
  pub replies : List Reply
  pub front : List ℕ
  pub runs : Runs start ls list replies v after
  pub stands : StandsFor v.settings v.history v
  pub took : now ≡ took old front
  pub whole : front ++ page ≡ lines_of ls list replies

-- before the first op nothing was done and nothing written
pub so_far_first : (w : Seen) (ls : Labels) (taken : List ℕ) (room : Option ℕ) → StandsFor w.settings w.history w
    → IsSoFar w ls [] w ls (sink_told taken room) (sink_told taken room) []
so_far_first w ls taken room stands = record { replies = []; front = []; runs = runs_none w ls; stands = stands; took = took-none taken room; whole = refl }

-- what is written of what waits, at the end of what was written
joined : (old now new : SinkTold) (front part : List ℕ) → now ≡ took old front → new ≡ took now part → new ≡ took old (front ++ part)
joined old now new front part e f = f ∙ ap (λ (k : SinkTold). took k part) e ∙ took-took old front part

-- the written, the waiting and one more line
lined : (front page line part rest lines : List ℕ) → front ++ page ≡ lines → part ++ rest ≡ page ++ line → (front ++ part) ++ rest ≡ lines ++ line
lined front page line part rest lines e f =
    append_assoc front part rest ∙ ap (λ (t : List ℕ). front ++ t) f ∙ sym (append_assoc front page line) ∙ ap (λ (t : List ℕ). t ++ line) e

-- the line that was put is that of the op, by the labels after it
line_put : (start v w : Seen) (ls before after : Labels) (list : List Op) (rs : List Reply) (op : Op) (r : Reply) → Runs start ls list rs v before
    → DoesWith v before op r w after
    → lines_of ls list rs ++ line_of (label_of after) r ≡ lines_of ls (list ++ op ∷ []) (rs ++ r ∷ [])
line_put start v w ls before after list rs op r ran done =
    ap (λ (x : Labels). lines_of ls list rs ++ line_of (label_of x) r) done.labels
    ∙ sym (lines_more start.settings ls list rs before start.history ran.grows.piece op r ran.grows.made)

-- the op at an index, of the list that the loop goes over
at_index : (list : List Op) (i : ℕ) (d : Op) → i < length list → take (i + 1) list ≡ take i list ++ get_or list i d ∷ []
at_index list i d below = take_more list i d below

-- an op of a list whose ops are in range is in range
op_in_range : (g : Settings) (list : List Op) (i : ℕ) (d : Op) → AreOpsInRange g list → i < length list → IsOpInRange g (get_or list i d)
op_in_range g [] i d all below = absurd (omega arith)
op_in_range g (op ∷ list) zero d all below = all.0
op_in_range g (op ∷ list) (suc i) d all below = op_in_range g list i d all.1 (omega arith)

pub op_may : (g : Settings) (v : Seen) (list : List Op) (i : ℕ) (d : Op) → i < length list → v.settings ≡ g → AreOpsInRange g list
    → IsOpInRange v.settings (get_or list i d)
op_may g v list i d below same all =
    subst (λ (x : Settings). IsOpInRange x (get_or list i d)) (sym same) (op_in_range g list i d all below)

-- one more op was done and its line put
pub goes_on_at : (start v w : Seen) (ls before after : Labels) (list : List Op) (i : ℕ) (d : Op) (old now new : SinkTold) (page rest : List ℕ) (r : Reply)
    → i < length list → IsSoFar start ls (take i list) v before old now page
    → DoesWith v before (get_or list i d) r w after → StandsFor w.settings w.history w → WritesWaiting now new (page ++ line_of (label_of after) r) rest
    → IsSoFar start ls (take (i + 1) list) w after old new rest
goes_on_at start v w ls before after list i d old now new page rest r below far done stands moves =
    subst (λ (os : List Op). IsSoFar start ls os w after old new rest) (sym (at_index list i d below))
    (record {
      replies = far.replies ++ r ∷ [];
      front = far.front ++ moves.part;
      runs = runs_more start v w ls before after (take i list) far.replies (get_or list i d) r far.runs done;
      stands = stands;
      took = joined old now new far.front moves.part far.took moves.took;
      whole = lined far.front page (line_of (label_of after) r) moves.part rest (lines_of ls (take i list) far.replies) far.whole moves.whole
          ∙ line_put start v w ls before after (take i list) far.replies (get_or list i d) r far.runs done;
    })

-- a world that stopped as some ops had left it
stops_here : (v : Seen) (ls : Labels) (rest : List Op) → StopsAt v ls rest v
stops_here v ls [] = refl
stops_here v ls (op ∷ rest) = inl refl

-- a world that had no memory for the op at an index
stops_in : (v w : Seen) (ls : Labels) (list : List Op) (i : ℕ) (d : Op) → i < length list → Fails v ls (get_or list i d) w → StopsAt v ls (drop i list) w
stops_in v w ls list i d below failed = subst (λ (rest : List Op). StopsAt v ls rest w) (sym (drop-cons list i d below)) (inr failed)

-- there was no memory for one more op
pub fails_at : (start v w : Seen) (ls after : Labels) (list : List Op) (i : ℕ) (d : Op) (old now : SinkTold) (page : List ℕ) → i < length list
    → IsSoFar start ls (take i list) v after old now page → Fails v after (get_or list i d) w → WritesSome start ls list w after NoMemory old now
fails_at start v w ls after list i d old now page below far failed = record {
  done = i;
  replies = far.replies;
  reached = v;
  runs = far.runs;
  stands = far.stands;
  stops = stops_in v w after list i d below failed;
  between = λ fault. absurd cc;
  writes = record { front = far.front; others = page; took = far.took; whole = far.whole };
}

-- the output stopped while the line of one more op was put, or there was no memory for it
pub breaks_at : (start v w : Seen) (ls before after : Labels) (list : List Op) (i : ℕ) (d : Op) (old now new : SinkTold) (page : List ℕ) (r : Reply) (why : RunErr)
    → i < length list → IsSoFar start ls (take i list) v before old now page
    → DoesWith v before (get_or list i d) r w after → StandsFor w.settings w.history w → TakesFront now new (page ++ line_of (label_of after) r)
    → WritesSome start ls list w after why old new
breaks_at start v w ls before after list i d old now new page r why below far done stands written =
    let all : IsSoFar start ls (take (i + 1) list) w after old new written.others =
    goes_on_at start v w ls before after list i d old now new page written.others r below far done stands
    (record { part = written.front; took = written.took; whole = written.whole }) in
    record {
      done = i + 1;
      replies = all.replies;
      reached = w;
      runs = all.runs;
      stands = stands;
      stops = stops_here w after (drop (i + 1) list);
      between = λ fault. refl;
      writes = record { front = all.front; others = written.others; took = all.took; whole = all.whole };
    }

-- all ops were done, and the page was written
pub ends : (start v : Seen) (ls after : Labels) (list : List Op) (i : ℕ) (old now new : SinkTold) (page : List ℕ)
    → length list ≤ i → IsSoFar start ls (take i list) v after old now page → new ≡ took now page → WritesRun start ls list v after old new
ends start v ls after list i old now new page over far taken =
    let all : IsSoFar start ls list v after old now page =
    subst (λ (os : List Op). IsSoFar start ls os v after old now page) (take_all i list over) far in
    record {
      replies = all.replies;
      runs = all.runs;
      stands = all.stands;
      writes = joined old now new all.front page all.took taken ∙ ap (λ (t : List ℕ). took old t) all.whole;
    }

-- the output stopped at the last page
pub breaks_last : (start v : Seen) (ls after : Labels) (list : List Op) (i : ℕ) (old now new : SinkTold) (page : List ℕ) (why : RunErr)
    → IsSoFar start ls (take i list) v after old now page → TakesFront now new page → WritesSome start ls list v after why old new
breaks_last start v ls after list i old now new page why far w = record {
  done = i;
  replies = far.replies;
  reached = v;
  runs = far.runs;
  stands = far.stands;
  stops = stops_here v after (drop i list);
  between = λ fault. refl;
  writes = record {
    front = far.front ++ w.front;
    others = w.others;
    took = joined old now new far.front w.front far.took w.took;
    whole = append_assoc far.front w.front w.others ∙ ap (λ (t : List ℕ). far.front ++ t) w.whole ∙ far.whole;
  };
}

-- what follows of any error
pub err_map : {T E P : Type 0} (Q : E → Type 0) (r : Result T E) → ((e : E) → P → Q e) → OnErr r P → IfErr r Q
err_map Q (Ok x) f p = tt
err_map Q (Err e) f p = f e p

-- the room that is left, where the first part of some lines was written and these lines fit, holds the rest
waiting_fits : (old now : SinkTold) (front rest lines : List ℕ) → now ≡ took old front → front ++ rest ≡ lines → HasRoomFor old.room (length lines)
    → HasRoomFor now.room (length rest)
waiting_fits old now front rest lines took whole fits =
    let room : now.room ≡ room_left (length front) old.room = ap (λ (t : SinkTold). t.room) took in
    subst (λ (r : Option ℕ). HasRoomFor r (length rest)) (sym room)
    (fits_after old.room front rest (subst (λ (t : List ℕ). HasRoomFor old.room (length t)) (sym whole) fits))

-- so the page and one more line fit
pub line_fits : (start v w : Seen) (ls before after : Labels) (list : List Op) (i : ℕ) (d : Op) (old now : SinkTold) (page : List ℕ) (r : Reply)
    → i < length list → LinesFit start ls list old.room → IsSoFar start ls (take i list) v before old now page
    → DoesWith v before (get_or list i d) r w after → StandsFor w.settings w.history w → HasRoomFor now.room (length (page ++ line_of (label_of after) r))
line_fits start v w ls before after list i d old now page r below fit far done stands =
    let op : Op = get_or list i d in
    let line : List ℕ = line_of (label_of after) r in
    let some : List Op = take i list in
    let ran : Runs start ls (some ++ op ∷ []) (far.replies ++ r ∷ []) w after = runs_more start v w ls before after some far.replies op r far.runs done in
    waiting_fits old now far.front (page ++ line) (lines_of ls (some ++ op ∷ []) (far.replies ++ r ∷ [])) far.took
    (sym (append_assoc far.front page line) ∙ ap (λ (t : List ℕ). t ++ line) far.whole ∙ line_put start v w ls before after some far.replies op r far.runs done)
    (subst (λ (os : List Op). HasRoomFor old.room (length (lines_of ls os (far.replies ++ r ∷ [])))) (at_index list i d below)
    (fit (i + 1) (far.replies ++ r ∷ []) w after
    (subst (λ (os : List Op). Runs start ls os (far.replies ++ r ∷ []) w after) (sym (at_index list i d below)) ran) stands))

-- and so does the page
pub page_fits : (start v : Seen) (ls after : Labels) (list : List Op) (i : ℕ) (old now : SinkTold) (page : List ℕ) → LinesFit start ls list old.room
    → IsSoFar start ls (take i list) v after old now page → HasRoomFor now.room (length page)
page_fits start v ls after list i old now page fit far =
    waiting_fits old now far.front page (lines_of ls (take i list) far.replies) far.took far.whole (fit i far.replies v after far.runs far.stands)

-- the same without a line written: before the first op, and after one more
pub done_none : (w : Seen) (ls : Labels) → StandsFor w.settings w.history w → RunsAll w ls [] w ls
done_none w ls stands = record { replies = []; runs = runs_none w ls; stands = stands }

pub done_more : (start v w : Seen) (ls before after : Labels) (list : List Op) (i : ℕ) (d : Op) (r : Reply) → i < length list
    → RunsAll start ls (take i list) v before → DoesWith v before (get_or list i d) r w after → StandsFor w.settings w.history w
    → RunsAll start ls (take (i + 1) list) w after
done_more start v w ls before after list i d r below far done stands =
    subst (λ (os : List Op). RunsAll start ls os w after) (sym (at_index list i d below))
    (record {
      replies = far.replies ++ r ∷ [];
      runs = runs_more start v w ls before after (take i list) far.replies (get_or list i d) r far.runs done;
      stands = stands;
    })

-- and where the world has stopped in one more
pub some_done : (start v w : Seen) (ls after : Labels) (list : List Op) (i : ℕ) (d : Op) → i < length list → RunsAll start ls (take i list) v after
    → Fails v after (get_or list i d) w → RunsSome start ls list w after
some_done start v w ls after list i d below far failed =
    record { done = i; replies = far.replies; reached = v; runs = far.runs; stands = far.stands; stops = stops_in v w after list i d below failed }
