-- What a race wrote, as an outcome has it.

use Rattle.std.specs.Arc.{arc_value}
use Rattle.std.proofs.Common.{◌≡◌, ℕ, List, [], ◌++◌, length, take, Option, None, inl, inr, refl, sym, ap, subst, ◌∙◌, arith, append-nil}
use Rattle.std.proofs.lemmas.List.{take_all}
use Rattle.ert_effects.specs.Ways.{alone}
use Rattle.ert_defs.specs.{Legal.Legal, Lines.Face, States.state, declared.entry.Entry.Entry, declared.settings.Settings.Settings}
use Rattle.ert_io.proofs.Takes.{took-took, front_after}
use Rattle.ert_io.specs.{Known.HasRoomFor, Told.{SinkTold, took, room_left, TakesFront}}
use Rattle.ert_laws.specs.{Counts.counts_of, KeptLaws.KeepsLaws}
use Rattle.ert_ops.specs.{Races.Race, declared.op.Op.Op, Labels.Labels, Scripts.{Script, IsBeginning, lines_of}, declared.reply.Reply.Reply}
use Rattle.ert_program.specs.{Outcomes.{Races, IsOutcome}, Reports.{Did, behind}, Ends.RacesTo, Written.{Returned, HasHistory, MayWrite, RacesOn, StopsRace}}
use Rattle.ert_world.specs.{Openings.IsOpened, Worlds.{Seen, StandsFor}}
use Rattle.ert_script.specs.{Scripts.Runs, Written.{WritesRun, LinesFit}}
use Rattle.ert_table.specs.Desks.{settings_of, KnowsAll}

-- a run from an opened world on, where no label is bound, is a script run from the empty history on
pub script_of : (g : Settings) (start v : Seen) (list : List Op) (rs : List Reply) (after : Labels) → IsOpened g start → (ran : Runs start [] list rs v after)
    → Script g (alone g) 0 [] list rs after [] ran.grows.piece
script_of g start v list rs after opened ran =
    subst (λ (x : Settings). Script x (alone x) 0 [] list rs after [] ran.grows.piece) opened.stands.settings
    (subst (λ (x : List Entry). Script start.settings (alone start.settings) 0 [] list rs after x ran.grows.piece) opened.stands.history
    ran.grows.made)

-- its piece is the whole history
whole_piece : (g : Settings) (start v : Seen) (list : List Op) (rs : List Reply) (after : Labels) → IsOpened g start → (ran : Runs start [] list rs v after)
    → v.history ≡ ran.grows.piece
whole_piece g start v list rs after opened ran = ran.grows.grown ∙ ap (λ (x : List Entry). x ++ ran.grows.piece) opened.stands.history

-- the lines of some first ops
pub beginning_of : (g : Settings) (list : List Op) (start v : Seen) (n : ℕ) (rs : List Reply) (after : Labels) → IsOpened g start
    → Runs start [] (take n list) rs v after → StandsFor v.settings v.history v → IsBeginning g list (lines_of [] (take n list) rs)
beginning_of g list start v n rs after opened ran stands = record {
  done = n;
  entries = ran.grows.piece;
  replies = rs;
  labels = after;
  legal = subst (λ (x : Settings). Legal x ran.grows.piece) (ran.settings ∙ opened.stands.settings)
      (subst (λ (x : List Entry). Legal v.settings x) (whole_piece g start v (take n list) rs after opened ran) stands.clock.legal);
  runs = script_of g start v (take n list) rs after opened ran;
  reads = refl;
}

-- are what a race may write
pub beginning : (g : Settings) (list : List Op) (race : Race) (start v : Seen) (n : ℕ) (rs : List Reply) (after : Labels) → IsOpened g start
    → Runs start [] (take n list) rs v after → StandsFor v.settings v.history v → MayWrite g list race (lines_of [] (take n list) rs)
beginning g list race start v n rs after opened ran stands = inl (beginning_of g list start v n rs after opened ran stands)

-- the ops and then the race are an outcome
pub outcome_of : (g : Settings) (list : List Op) (race : Race) (start v w : Seen) (rs : List Reply) (after : Labels) (dids : List Did) → IsOpened g start
    → Runs start [] list rs v after → RacesTo v after race dids w → StandsFor w.settings w.history w
    → IsOutcome g list race w.history (lines_of [] list rs ++ behind after dids (counts_of w.settings (state w.settings w.history)) w.clock.face.time)
outcome_of g list race start v w rs after dids opened ran raced stands = record {
  legal = subst (λ (x : Settings). Legal x w.history) named stands.clock.legal;
  first = v.history;
  later = raced.grows.piece;
  parted = raced.grows.grown;
  replies = rs;
  labels = after;
  began = subst (λ (x : List Entry). Script g (alone g) 0 [] list rs after [] x) (sym (whole_piece g start v list rs after opened ran))
      (script_of g start v list rs after opened ran);
  dids = dids;
  raced = subst (λ (x : Settings). Races x after race dids v.history raced.grows.piece) (ran.settings ∙ opened.stands.settings) raced.grows.made;
  reads = ap (λ (f : Face). lines_of [] list rs ++ behind after dids (counts_of w.settings (state w.settings w.history)) f.time) stands.clock.face
      ∙ ap (λ (x : Settings). lines_of [] list rs ++ behind after dids (counts_of x (state x w.history)) (state x w.history).clock.now) named;
}
  where
    named : w.settings ≡ g
    named = raced.settings ∙ (ran.settings ∙ opened.stands.settings)

-- the race stopped behind the lines of the ops
pub stops_behind : (g : Settings) (list : List Op) (race : Race) (start v : Seen) (after : Labels) (old new : SinkTold) → IsOpened g start
    → WritesRun start [] list v after old new → StopsRace g list race old new
stops_behind g list race start v after old new opened ran =
    let all : take (length list) list ≡ list = take_all (length list) list (omega arith) in
    record {
      text = lines_of [] (take (length list) list) ran.replies;
      may = beginning g list race start v (length list) ran.replies after opened
          (subst (λ (x : List Op). Runs start [] x ran.replies v after) (sym all) ran.runs) ran.stands;
      writes = record {
        front = lines_of [] list ran.replies;
        others = [];
        took = ran.writes;
        whole = append-nil (lines_of [] list ran.replies) ∙ ap (λ (x : List Op). lines_of [] x ran.replies) (sym all);
      };
    }

-- the desk that a world gives out has its history, and so that history by another name
pub has_history : (g : Settings) (h : List Entry) (w : Seen) (r : Returned) → w.settings ≡ g → w.history ≡ h
    → settings_of (arc_value r.0) ≡ w.settings → KnowsAll (arc_value r.0) r.1 w.history → KeepsLaws w.settings w.history → HasHistory g h r
has_history g h w r of_settings of_history named all laws = record {
  settings = named ∙ of_settings;
  knows = subst (λ (x : List Entry). KnowsAll (arc_value r.0) r.1 x) of_history all;
  laws = subst (λ (x : Settings). KeepsLaws x h) of_settings (subst (λ (x : List Entry). KeepsLaws w.settings x) of_history laws);
}

-- all was written: it is an outcome, and the desk is given out
pub ends : (g : Settings) (list : List Op) (race : Race) (start v w : Seen) (after : Labels) (dids : List Did) (page : List ℕ) (old mid new : SinkTold) (r : Returned)
    → IsOpened g start → WritesRun start [] list v after old mid → RacesTo v after race dids w → StandsFor w.settings w.history w
    → page ≡ behind after dids (counts_of w.settings (state w.settings w.history)) w.clock.face.time → new ≡ took mid page
    → settings_of (arc_value r.0) ≡ w.settings → KnowsAll (arc_value r.0) r.1 w.history → KeepsLaws w.settings w.history → RacesOn g list race old new r
ends g list race start v w after dids page old mid new r opened ran raced stands told_all written named all laws = record {
  history = w.history;
  text = lines_of [] list ran.replies ++ page;
  is = subst (λ (t : List ℕ). IsOutcome g list race w.history (lines_of [] list ran.replies ++ t)) (sym told_all)
      (outcome_of g list race start v w ran.replies after dids opened ran.runs raced stands);
  writes = written ∙ (ap (λ (t : SinkTold). took t page) ran.writes ∙ took-took old (lines_of [] list ran.replies) page);
  desk = has_history g w.history w r settings_are refl named all laws;
}
  where
    settings_are : w.settings ≡ g
    settings_are = raced.settings ∙ (ran.runs.settings ∙ opened.stands.settings)

-- the output stopped at the page behind the lines of the ops
pub breaks : (g : Settings) (list : List Op) (race : Race) (start v w : Seen) (after : Labels) (dids : List Did) (page : List ℕ) (old mid new : SinkTold)
    → IsOpened g start → WritesRun start [] list v after old mid → RacesTo v after race dids w → StandsFor w.settings w.history w
    → page ≡ behind after dids (counts_of w.settings (state w.settings w.history)) w.clock.face.time → TakesFront mid new page
    → StopsRace g list race old new
breaks g list race start v w after dids page old mid new opened ran raced stands told_all part = record {
  text = lines_of [] list ran.replies ++ page;
  may = inr (
    w.history,
    subst (λ (t : List ℕ). IsOutcome g list race w.history (lines_of [] list ran.replies ++ t)) (sym told_all)
        (outcome_of g list race start v w ran.replies after dids opened ran.runs raced stands),
  );
  writes = front_after old mid new (lines_of [] list ran.replies) page ran.writes part;
}

-- all fits where no room is told
pub lines_fit : (start : Seen) (ls : Labels) (list : List Op) (room : Option ℕ) → room ≡ None → LinesFit start ls list room
lines_fit start ls list room untold n rs v after ran stands =
    subst (λ (r : Option ℕ). HasRoomFor r (length (lines_of ls (take n list) rs))) (sym untold) tt

-- and no room is told after the lines of the ops
pub page_fits : (start v : Seen) (ls after : Labels) (list : List Op) (page : List ℕ) (old mid : SinkTold) → WritesRun start ls list v after old mid
    → old.room ≡ None → HasRoomFor mid.room (length page)
page_fits start v ls after list page old mid ran untold =
    let text : List ℕ = lines_of ls list ran.replies in
    let left : mid.room ≡ room_left (length text) None =
    ap (λ (t : SinkTold). t.room) ran.writes ∙ ap (λ (r : Option ℕ). room_left (length text) r) untold in
    subst (λ (r : Option ℕ). HasRoomFor r (length page)) (sym left) tt
