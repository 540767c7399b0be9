-- Readings that a world lived through.

use Rattle.std.specs.Arc.{arc_value}
use Rattle.std.proofs.Common.{◌≡◌, ◌<◌, ◌≤◌, ◌+◌, ℕ, ℤ, List, [], ◌∷◌, ◌++◌, length, length-append, None, Some, refl, inl, inr, sym, ap, subst, ◌∙◌, append_assoc, append-nil, arith}
use Rattle.ert_effects.specs.Ways.{Way, alone}
use Rattle.ert_defs.specs.{Lines.Face, Readings.IsValid, declared.entry.Entry.Entry, declared.settings.Reading.Reading, declared.settings.Settings.Settings}
use Rattle.ert_io.specs.{Faults.Rose, Known.{StreamTold, HandsOut, HandsUpTo}}
use Rattle.ert_io.proofs.SeveralReads.{handed_both, handed_none, handed_fewer}
use Rattle.ert_ops.specs.{declared.op.Op.Op, Calls.Calls, Labels.Labels, Texts.end_line, declared.reply.Reply.Reply}
use Rattle.ert_ops.specs.declared.op.Op.TheVariants as ops
use Rattle.ert_program.specs.{Written.Returned, Endings.without_desk, Lives.{AreValid, live_settings, live_ops, live_part, live_lines, refused_reading, IsLiveText, LiveDone, LiveRefused, LiveStopped, Watched, Lived, TellsTimes}}
use Rattle.ert_program.specs.{Streams.ClockStream, declared.ending.EndStatus.TheVariants.{Done, Refused, ClockFault}}
use Rattle.ert_laws.specs.KeptLaws.{KeepsLaws}
use Rattle.ert_program.proofs.{Written.{has_history, script_of}, Transcripts.stands_for}
use Rattle.ert_world.specs.{Openings.IsOpened, Worlds.Seen}
use Rattle.ert_script.proofs.Runs.{runs_none, runs_more}
use Rattle.ert_script.specs.Scripts.{Does, Runs}
use Rattle.ert_table.specs.Desks.{settings_of, KnowsAll}
use Rattle.ert_ops.specs.declared.reply.Reply.TheVariants as replies

-- lines and ops, with one more behind

live_lines_more : (rs : List Reply) (r : Reply) → live_lines (rs ++ r ∷ []) ≡ live_lines rs ++ live_part r
live_lines_more [] r = append-nil (live_part r)
live_lines_more (x ∷ rs) r = ap (λ (t : List ℕ). live_part x ++ t) (live_lines_more rs r) ∙ sym (append_assoc (live_part x) (live_lines rs) (live_part r))

live_ops_more : (rs : List Reading) (r : Reading)
    → live_ops (rs ++ r ∷ []) ≡ ((live_ops rs ++ ops.Tick r.mono r.sys ∷ []) ++ ops.Time ∷ []) ++ ops.System ∷ []
live_ops_more [] r = refl
live_ops_more (x ∷ rs) r = ap (λ (list : List Op). ops.Tick x.mono x.sys ∷ ops.Time ∷ ops.System ∷ list) (live_ops_more rs r)

-- a tick prints nothing
tick_prints : (g : Settings) (way : Way) (n : ℕ) (ls : Labels) (mono sys : ℤ) (reply : Reply) (h m : List Entry)
    → Calls g way n ls (ops.Tick mono sys) reply h m → live_part reply ≡ []
tick_prints g way n ls mono sys (replies.Time now) h m called = absurd called
tick_prints g way n ls mono sys (replies.System time) h m called = absurd called
tick_prints g way n ls mono sys _ h m called = refl

-- what a tick and a look at both times print
three_more : (rs : List Reply) (x t s : Reply) → live_part x ≡ []
    → live_lines (((rs ++ x ∷ []) ++ t ∷ []) ++ s ∷ []) ≡ live_lines rs ++ (live_part t ++ live_part s)
three_more rs x t s none =
    live_lines_more ((rs ++ x ∷ []) ++ t ∷ []) s
    ∙ ap (λ (k : List ℕ). k ++ live_part s) (live_lines_more (rs ++ x ∷ []) t)
    ∙ ap (λ (k : List ℕ). (k ++ live_part t) ++ live_part s) (live_lines_more rs x)
    ∙ ap (λ (k : List ℕ). ((live_lines rs ++ k) ++ live_part t) ++ live_part s) none
    ∙ ap (λ (k : List ℕ). (k ++ live_part t) ++ live_part s) (append-nil (live_lines rs))
    ∙ append_assoc (live_lines rs) (live_part t) (live_part s)

-- the first reading
pub lived_first : (first : Reading) (start w : Seen) (text : List ℕ) → IsOpened (live_settings first) start → TellsTimes start w [] text → Lived first [] w text
lived_first first start w text opened tells = record {
  start = start;
  opened = opened;
  replies = replies.Time tells.now ∷ replies.System tells.time ∷ [];
  runs = runs_more start tells.mid w [] [] [] (ops.Time ∷ []) (replies.Time tells.now ∷ []) ops.System (replies.System tells.time)
      (runs_more start start tells.mid [] [] [] [] [] ops.Time (replies.Time tells.now) (runs_none start []) (tells.first.with [])) (tells.second.with []);
  stands = tells.stands;
  reads = tells.writes ∙ ap (λ (t : List ℕ). live_part (replies.Time tells.now) ++ t) (sym (append-nil (live_part (replies.System tells.time))));
}

-- one more
pub lived_more : (first : Reading) (others : List Reading) (r : Reading) (w v u : Seen) (reply : Reply) (text text_new : List ℕ)
    → Lived first others w text → Does w (ops.Tick r.mono r.sys) reply v → TellsTimes v u text text_new → Lived first (others ++ r ∷ []) u text_new
lived_more first others r w v u reply text text_new lived ticked tells =
    let list : List Op = ops.Time ∷ ops.System ∷ live_ops others in
    let rs : List Reply = lived.replies in
    let tick = ticked.with [] in
    let one = runs_more lived.start w v [] [] [] list rs (ops.Tick r.mono r.sys) reply lived.runs tick in
    let two = runs_more lived.start v tells.mid [] [] [] (list ++ ops.Tick r.mono r.sys ∷ []) (rs ++ reply ∷ []) ops.Time (replies.Time tells.now) one
    (tells.first.with []) in
    let three = runs_more lived.start tells.mid u [] [] [] ((list ++ ops.Tick r.mono r.sys ∷ []) ++ ops.Time ∷ []) ((rs ++ reply ∷ []) ++ replies.Time tells.now ∷ [])
    ops.System (replies.System tells.time) two (tells.second.with []) in
    let all : List Reply = ((rs ++ reply ∷ []) ++ replies.Time tells.now ∷ []) ++ replies.System tells.time ∷ [] in
    record {
      start = lived.start;
      opened = lived.opened;
      replies = all;
      runs = subst (λ (more : List Op). Runs lived.start [] (ops.Time ∷ ops.System ∷ more) all u []) (sym (live_ops_more others r)) three;
      stands = tells.stands;
      reads = tells.writes
          ∙ ap (λ (t : List ℕ). t ++ (live_part (replies.Time tells.now) ++ live_part (replies.System tells.time))) lived.reads
          ∙ sym (three_more rs reply (replies.Time tells.now) (replies.System tells.time)
          (tick_prints w.settings (alone w.settings) 0 [] r.mono r.sys reply w.history tick.grows.piece tick.grows.made));
    }

-- its history is a script run of their ops
abbrev pub is_live : (first : Reading) (others : List Reading) (w : Seen) (text : List ℕ) → Lived first others w text → IsLiveText first others text
is_live first others w text lived = record {
  entries = lived.runs.grows.piece;
  replies = lived.replies;
  labels = [];
  legal = (stands_for (live_settings first) lived.start w (ops.Time ∷ ops.System ∷ live_ops others) lived.replies [] lived.opened lived.runs lived.stands).clock.legal;
  runs = script_of (live_settings first) lived.start w (ops.Time ∷ ops.System ∷ live_ops others) lived.replies [] lived.opened lived.runs;
  reads = lived.reads;
}

-- the readings that were taken

all_more : (rs : List Reading) (r : Reading) → AreValid rs → IsValid r → AreValid (rs ++ r ∷ [])
all_more [] r all valid = (valid, tt)
all_more (x ∷ rs) r all valid = (all.0, all_more rs r all.1 valid)

-- so many valid readings were taken so far, and a world lived through them
pub record IsWatched (count : ℕ) (old now : StreamTold Reading) (w : Seen) (text : List ℕ) : Type 0 where
  pub first : Reading
  pub others : List Reading
  pub counted : length (first ∷ others) ≡ count
  pub given : HandsOut old now (first ∷ others)
  pub valid : AreValid (first ∷ others)
  pub lived : Lived first others w text

pub watched_first : (first : Reading) (old now : StreamTold Reading) (w : Seen) (text : List ℕ) → IsValid first
    → HandsOut old now (first ∷ []) → Lived first [] w text → IsWatched 1 old now w text
watched_first first old now w text valid given lived =
    record { first = first; others = []; counted = refl; given = given; valid = (valid, tt); lived = lived }

pub watched_more : (count : ℕ) (old mid now : StreamTold Reading) (w u : Seen) (text text_new : List ℕ) (r : Reading)
    → (far : IsWatched count old mid w text) → IsValid r → HandsOut mid now (r ∷ []) → Lived far.first (far.others ++ r ∷ []) u text_new
    → IsWatched (count + 1) old now u text_new
watched_more count old mid now w u text text_new r far valid given lived =
    let first : Reading = far.first in
    let long : length (far.others ++ r ∷ []) ≡ length far.others + 1 = length-append far.others (r ∷ []) in
    let before = far.counted in
    record {
      first = first;
      others = far.others ++ r ∷ [];
      counted = omega arith;
      given = handed_both old mid now (first ∷ far.others) (r ∷ []) far.given given;
      valid = all_more (first ∷ far.others) r far.valid valid;
      lived = lived;
    }

-- what was made, at each end

stopped_with : (n : ℕ) (c d : ClockStream) (text : List ℕ) → Rose c.faults d.faults → LiveStopped n c.told d.told text → Watched n c d (without_desk ClockFault) text
stopped_with n c d text rose stopped = record {
  done = λ e. cc;
  refused = λ e. cc;
  clock_fault = λ e. (rose, stopped);
  only = inr (inr refl);
  no_desk = λ e. refl;
}

refused_with : (n : ℕ) (c d : ClockStream) (text : List ℕ) → LiveRefused n c.told d.told text → Watched n c d (without_desk Refused) text
refused_with n c d text refused = record {
  done = λ e. cc;
  refused = λ e. refused;
  clock_fault = λ e. cc;
  only = inr (inl refl);
  no_desk = λ e. refl;
}

pub stopped_first : (n : ℕ) (c d : ClockStream) (text : List ℕ) → 0 < n → d.told ≡ c.told → Rose c.faults d.faults → text ≡ []
    → Watched n c d (without_desk ClockFault) text
stopped_first n c d text some kept rose empty =
    stopped_with n c d text rose (record { readings = []; count = some; given = subst (λ (k : StreamTold Reading). HandsOut c.told k []) (sym kept) (handed_none c.told); valid = tt; are = empty })

pub stopped_later : (n : ℕ) (c d : ClockStream) (count : ℕ) (now : StreamTold Reading) (w : Seen) (text : List ℕ) → count < n
    → IsWatched count c.told now w text → d.told ≡ now → Rose c.faults d.faults → Watched n c d (without_desk ClockFault) text
stopped_later n c d count now w text below far kept rose =
    let before = far.counted in
    stopped_with n c d text rose
    (record {
      readings = far.first ∷ far.others;
      count = omega arith;
      given = subst (λ (k : StreamTold Reading). HandsOut c.told k (far.first ∷ far.others)) (sym kept) far.given;
      valid = far.valid;
      are = is_live far.first far.others w text far.lived;
    })

pub refused_first : (n : ℕ) (c d : ClockStream) (text : List ℕ) (bad : Reading) → 0 < n → HandsOut c.told d.told (bad ∷ []) → (IsValid bad → ⊥)
    → text ≡ refused_reading 1 → Watched n c d (without_desk Refused) text
refused_first n c d text bad some given not whole =
    refused_with n c d text
    (record { readings = []; bad = bad; lines = []; count = some; given = given; valid = tt; not_valid = not; are = refl; whole = whole })

pub refused_later : (n : ℕ) (c d : ClockStream) (count : ℕ) (now : StreamTold Reading) (w : Seen) (lines text : List ℕ) (bad : Reading)
    → count < n → IsWatched count c.told now w lines → HandsOut now d.told (bad ∷ []) → (IsValid bad → ⊥)
    → text ≡ lines ++ refused_reading (count + 1) → Watched n c d (without_desk Refused) text
refused_later n c d count now w lines text bad below far given not whole =
    let before = far.counted in
    refused_with n c d text
    (record {
      readings = far.first ∷ far.others;
      bad = bad;
      lines = lines;
      count = omega arith;
      given = handed_both c.told now d.told (far.first ∷ far.others) (bad ∷ []) far.given given;
      valid = far.valid;
      not_valid = not;
      are = is_live far.first far.others w lines far.lived;
      whole = whole ∙ ap (λ (k : ℕ). lines ++ refused_reading (k + 1)) (sym before);
    })

pub watched_all : (n : ℕ) (c d : ClockStream) (count : ℕ) (w : Seen) (lines text : List ℕ) (r : Returned) → count ≡ n
    → IsWatched count c.told d.told w lines → text ≡ lines ++ end_line w.clock.face.time
    → settings_of (arc_value r.0) ≡ w.settings → KnowsAll (arc_value r.0) r.1 w.history → KeepsLaws w.settings w.history
    → Watched n c d (record { status = Done; desk = Some r; refusal = None }) text
watched_all n c d count w lines text r all far whole named knows laws =
    let first : Reading = far.first in
    let has : Lived first far.others w lines = far.lived in
    let there = stands_for (live_settings first) has.start w (ops.Time ∷ ops.System ∷ live_ops far.others) has.replies [] has.opened has.runs has.stands in
    let made : LiveDone n c.told d.told text r = record {
      first = first;
      others = far.others;
      lines = lines;
      count = far.counted ∙ all;
      given = far.given;
      valid = far.valid;
      is = is_live first far.others w lines has;
      whole = whole ∙ ap (λ (f : Face). lines ++ end_line f.time) there.clock.face;
      desk = has_history (live_settings first) has.runs.grows.piece w r there.settings there.history named knows laws;
    } in
    record {
      done = λ e. made;
      refused = λ e. cc;
      clock_fault = λ e. cc;
      only = inl refl;
      no_desk = λ e. absurd (e refl);
    }

-- one reading was taken
pub takes_one : (n : ℕ) (r : Reading) (old new : StreamTold Reading) → 1 ≤ n → HandsOut old new (r ∷ []) → HandsUpTo n old new
takes_one n r old new some given = handed_fewer n old new (r ∷ []) some given

-- all were taken
pub takes_all : (n count : ℕ) (old now : StreamTold Reading) (w : Seen) (lines : List ℕ) → count ≡ n → IsWatched count old now w lines → HandsUpTo n old now
takes_all n count old now w lines all far = let before = far.counted in handed_fewer n old now (far.first ∷ far.others) (omega arith) far.given

-- so many were taken, and one more
pub takes_next : (n count : ℕ) (old mid new : StreamTold Reading) (w : Seen) (lines : List ℕ) (r : Reading) → count < n
    → IsWatched count old mid w lines → HandsOut mid new (r ∷ []) → HandsUpTo n old new
takes_next n count old mid new w lines r below far given =
    let before = far.counted in
    let more : length ((far.first ∷ far.others) ++ r ∷ []) ≡ length (far.first ∷ far.others) + 1 = length-append (far.first ∷ far.others) (r ∷ []) in
    handed_fewer n old new ((far.first ∷ far.others) ++ r ∷ []) (omega arith) (handed_both old mid new (far.first ∷ far.others) (r ∷ []) far.given given)
