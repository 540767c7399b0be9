-- The steps by which a shard's scheduler hands over its expired timers to processes of its share.

use Rattle.std.proofs.Common.{◌≡◌, ℕ, ◌+◌, ◌-◌, ◌<◌, ◌≤◌, Bool, true, false, arith, length, List, [], ◌∷◌, ◌++◌, slice_index_or, Option, Some, None, Ok, Err, refl, sym, ap, subst, ◌∙◌, append-nil}
use Rattle.std.specs.Prelude.{slice_set}
use Rattle.ert_defs.specs.{Mails.{MailState, SchedState, first_of, others_of}, Legal.Legal, States.{State, state, sched_of}, Timers.{Row, is_taken}, declared.entry.Actor.Actor, declared.entry.Actor.TheVariants.{Wheel, Sched, MailOf}}
use Rattle.ert_defs.specs.{declared.entry.Entry.Entry, declared.memory.NoMemory.NoMemory, declared.settings.Settings.Settings, declared.timer.TimerRef.TimerRef}
use Rattle.ert_effects.proofs.Growing.{grows_more, grows_then}
use Rattle.ert_effects.specs.{Chains.{Hands, HandsMany, Delivers, puts, drops}, MailCalls.HandsOver, Ways.{Growth, Way, Grows}, declared.answers.Handed.Handed}
use Rattle.ert_laws.proofs.RowRanges.{first_placed}
use Rattle.ert_laws.specs.Ranges.{IsPlaced}
use Rattle.ert_mail.proofs.LawsHold.{handing_only}
use Rattle.ert_mail.specs.{Mailboxes.{Mailbox, HoldsMailboxAndSched, handed, MailboxStands as MailStands}, Turns.TurnRow}
use Rattle.ert_world.specs.{Stepping.{turns_same, turns_then}, Worlds.TurnsGrow, Bounded.{AreLeft, DeliversSome}}
use Rattle.ert_shard.specs.{Turning.shard_expired, Shards.{Share, counted_from, IsHome, Owned, shard_way, ShardSteps, ShardParts, AreShardPartsFit}}
use Rattle.ert_shard.proofs.{Home.first_home, Kept.{self_own, home_own}, Called.{Does, Did, Has, Makes, IsListedOn, finish, losing, same_rows, rows_then, home_kept, mail_named, mails_back, place_low}, Stepped.since, Turned.{Had, had}}
use Rattle.ert_table.specs.{Calls.IsMade, Desks.{settings_of, view_of, front_of, actors_of, Belongs}, Held.is_held, Takes.TakesPlace, declared.desk.Desk.Desk, declared.desk.Pass.Pass}
use Rattle.ert_timers.proofs.Settled.{expired_let_go, handed_free}
use Rattle.ert_timers.specs.{Freeing.IsLetGo, Parts.Part, Passed.LosesRows, SchedParts.SchedStands, declared.sched_part.SchedPart.SchedPart}
use Rattle.ert_world.proofs.{Bounding.puts_drops, Standing.free_kept, SchedCalls.sched_stands}

-- the first expired timer is of the shard's wheel and for a process of its share
pub record IsOwnFirst (g : Settings) (s : Share) (expired : Row) : Type 0 where
  pub placed : IsPlaced g s.number expired
  pub home : IsHome s expired.dest

pub own_first : (before : Owned) (d : Desk) (p : Pass) (s : Share) (parts : ShardParts) (expired : Row) → Has before d p s parts
    → first_of (shard_expired before) ≡ Some expired → IsOwnFirst (settings_of d) s expired
own_first before d p s parts expired has first =
    let mine = subst (λ (o : Owned). first_of (shard_expired o) ≡ Some expired) (sym has.is) first in
    record {
      placed = first_placed (settings_of d) (front_of p) s.number expired has.fit.stand.legal mine;
      home = first_home s (settings_of d) (front_of p) s.number expired has.fit.stand.legal has.fit.home mine;
    }

-- it was handed over, and is out of the list
pub handed_now : (before : Owned) (d : Desk) (p q : Pass) (s : Share) (parts : ShardParts) (list : Option TurnRow) (old new : Mailbox) (expired : Row) (how : Handed) (x : SchedPart)
    → Has before d p s parts → Belongs d q → first_of (shard_expired before) ≡ Some expired
    → old ≡ slice_index_or parts.mails (expired.dest - s.from) old → new.process ≡ old.process → MailStands (settings_of d) (front_of q) new
    → IsMade (settings_of d) (view_of p) (HandsOver (settings_of d) expired.timer.wheel expired (Ok how)) (view_of q)
    → (state (settings_of d) (front_of q)).scheds expired.timer.wheel ≡ handed (Ok how) ((state (settings_of d) (front_of p)).scheds expired.timer.wheel)
    → x.wheel ≡ parts.sched.wheel → x.hand ≡ parts.sched.hand → x.expired.rows ≡ others_of parts.sched.expired.rows
    → IsListedOn parts (expired.dest - s.from) new list
    → Does before d q s (record parts { mails = slice_set parts.mails (expired.dest - s.from) new; sched = x; list = list })
    (λ o way. Hands o.settings way o.share.number (Ok how))
handed_now before d p q s parts list old new expired how x has belongs first lent named stands made_w sched wheel hand rows listed =
    let g : Settings = settings_of d in
    let n : ℕ = s.number in
    let st : State = state g (front_of p) in
    let own : IsOwnFirst g s expired = own_first before d p s parts expired has first in
    let was : Had d p s parts.sched = had has in
    let at : x.wheel ≡ n = wheel ∙ was.wheel in
    let one : old.process ≡ expired.dest = mail_named has.fit expired.dest old own.home lent in
    let made : IsMade g (view_of p) (HandsOver g n expired (Ok how)) (view_of q) =
    subst (λ m. IsMade g (view_of p) (HandsOver g m expired (Ok how)) (view_of q)) own.placed.wheel made_w in
    let sched_n : (state g (front_of q)).scheds n ≡ handed (Ok how) (st.scheds n) =
    subst (λ m. (state g (front_of q)).scheds m ≡ handed (Ok how) (st.scheds m)) own.placed.wheel sched in
    let below : x.wheel < g.schedulers = rw at has.fit.holds.low in
    let now : SchedStands g (front_of q) x =
    sched_stands g (front_of q) x (handed (Ok how) (st.scheds n)) below (subst (λ m. (state g (front_of q)).scheds m ≡ handed (Ok how) (st.scheds n)) (sym at) sched_n)
    (hand ∙ was.hand) (rows ∙ ap (λ (l : List Row). others_of l) was.expired) in
    let lending : List Actor = Sched n ∷ (MailOf expired.dest ∷ []) in
    let only = handing_only g n expired (Ok how) st made.entries made.allowed in
    finish before d p q s parts (record parts { mails = slice_set parts.mails (expired.dest - s.from) new; sched = x; list = list }) made.entries lending
    (λ o way. Hands o.settings way o.share.number (Ok how)) has listed.0 belongs made.call only (self_own n, (home_own s expired.dest own.home, tt))
    (home_kept before d p q s parts made.entries lending has made.call only refl)
    (λ stand. record {
      legal = stand.legal;
      wheel_is = stand.wheel_is;
      wheel = λ apart. stand.wheel refl;
      inbox_is = stand.inbox_is;
      inbox = λ apart. stand.inbox refl;
      sched_is = at;
      sched = λ apart. now;
      mails = mails_back g (front_of q) s [] parts.mails expired.dest new own.home
          (record { counted = stand.mails.counted; named = stand.mails.named; stand = stand.mails.stand }) (named ∙ one) stands;
      listed = listed.1 (counted_from s.from (state g (front_of q))) stand.listed (place_low has.fit expired.dest own.home);
    })
    (λ m grown mine. record {
      expired = expired;
      first = subst (λ (o : Owned). first_of (shard_expired o) ≡ Some expired) (sym has.is) first;
      step = subst (HandsOver g n expired (Ok how) st) (sym mine) made.allowed;
    })

-- a pass of a shard holds its scheduler and the mailbox of a process of its share
pub sched_holds : (d : Desk) (p : Pass) (s : Share) (parts : ShardParts) (w process m : ℕ) → AreShardPartsFit d p s parts → w ≡ s.number → IsHome s process → m ≡ process
    → HoldsMailboxAndSched (settings_of d) (view_of p) w m
sched_holds d p s parts w process m fit one home named =
    let most = fit.holds.most in
    let high = home.1 in
    let ranged : process < (settings_of d).processes = omega (arith, high, most) in
    record {
      sched = subst (λ n. is_held (actors_of p) (Sched n) ≡ true) (sym one) (fit.holds.own (Sched s.number) fit.holds.low ∙ self_own s.number);
      below = rw one fit.holds.low;
      mail = subst (λ n. is_held (actors_of p) (MailOf n) ≡ true) (sym named) (fit.holds.own (MailOf process) ranged ∙ home_own s process home);
    }

-- a mailbox at the place of a process stands
pub mail_stands : (d : Desk) (p : Pass) (s : Share) (parts : ShardParts) (process : ℕ) (x : Mailbox) → AreShardPartsFit d p s parts → IsHome s process
    → x ≡ slice_index_or parts.mails (process - s.from) x → MailStands (settings_of d) (front_of p) x
mail_stands d p s parts process x fit home is =
    subst (MailStands (settings_of d) (front_of p)) (sym is) (fit.stand.mails.stand (process - s.from) x (place_low fit process home) refl)

-- its messages are those of the history that the shard knows
pub mail_waits : (before : Owned) (d : Desk) (p : Pass) (s : Share) (parts : ShardParts) (process : ℕ) (x : Mailbox) → Has before d p s parts → IsHome s process
    → x ≡ slice_index_or parts.mails (process - s.from) x → length x.held.queue ≡ length ((state before.settings before.history).mails process).queue
mail_waits before d p s parts process x has home is =
    let g : Settings = settings_of d in
    let stands : MailStands g (front_of p) x = mail_stands d p s parts process x has.fit home is in
    ap (λ (m : MailState). length m.queue) (stands.held ∙ ap (λ n. (state g (front_of p)).mails n) (mail_named has.fit process x home is))
    ∙ ap (λ (o : Owned). length ((state o.settings o.history).mails process).queue) has.is

-- what its scheduler has after its first expired timer was handed over
pub hands_on : (before : Owned) (d : Desk) (p q : Pass) (s : Share) (parts : ShardParts) (expired : Row) (how : Handed) → Has before d p s parts
    → first_of (shard_expired before) ≡ Some expired
    → (state (settings_of d) (front_of q)).scheds expired.timer.wheel ≡ handed (Ok how) ((state (settings_of d) (front_of p)).scheds expired.timer.wheel)
    → ((state (settings_of d) (front_of q)).scheds s.number).expired ≡ others_of (shard_expired before)
hands_on before d p q s parts expired how has first sched =
    let g : Settings = settings_of d in
    let own : IsOwnFirst g s expired = own_first before d p s parts expired has first in
    let mine = subst (λ m. (state g (front_of q)).scheds m ≡ handed (Ok how) ((state g (front_of p)).scheds m)) own.placed.wheel sched in
    ap (λ (s : SchedState). s.expired) mine ∙ ap (λ (o : Owned). others_of (shard_expired o)) has.is

-- its slot can be used again
pub record CanReuse (g : Settings) (h : List Entry) (p : Part) (timer : TimerRef) : Type 0 where
  pub let_go : IsLetGo p timer
  pub free : is_taken ((state g h).status timer) ≡ false

pub handed_in : (before : Owned) (d : Desk) (p q : Pass) (s : Share) (parts : ShardParts) (expired : Row) (how : Handed) → Has before d p s parts
    → first_of (shard_expired before) ≡ Some expired
    → IsMade (settings_of d) (view_of p) (HandsOver (settings_of d) expired.timer.wheel expired (Ok how)) (view_of q)
    → CanReuse (settings_of d) (front_of q) parts.wheel expired.timer
handed_in before d p q s parts expired how has first made =
    let g : Settings = settings_of d in
    let h : List Entry = front_of p in
    let w : ℕ = expired.timer.wheel in
    let own : IsOwnFirst g s expired = own_first before d p s parts expired has first in
    let mine : first_of ((state g h).scheds s.number).expired ≡ Some expired = subst (λ (o : Owned). first_of (shard_expired o) ≡ Some expired) (sym has.is) first in
    let first_w : first_of ((state g h).scheds w).expired ≡ Some expired = subst (λ m. first_of ((state g h).scheds m).expired ≡ Some expired) (sym own.placed.wheel) mine in
    let held : is_held (actors_of p) (Wheel w) ≡ true =
    subst (λ n. is_held (actors_of p) (Wheel n) ≡ true) (sym own.placed.wheel) (has.fit.holds.own (Wheel s.number) has.fit.holds.low ∙ self_own s.number) in
    let free = free_kept g (view_of p) made.entries (view_of q) (Sched w ∷ (MailOf expired.dest ∷ [])) (Wheel w) made.call
    (handing_only g w expired (Ok how) (state g h) made.entries made.allowed) held refl in
    record {
      let_go = expired_let_go g h parts.wheel expired (has.fit.stand.wheel refl)
          (subst (λ m. first_of ((state g h).scheds m).expired ≡ Some expired) (sym has.fit.stand.wheel_is) mine);
      free = handed_free g (view_of p) (view_of q) w expired how has.fit.stand.legal first_w made free;
    }

-- so it is by whatever settings the pass names
pub named_free : (d : Desk) (q : Pass) (p : Part) (timer : TimerRef) → Belongs d q → CanReuse (settings_of d) (front_of q) p timer
    → (g : Settings) → (view_of q).settings ≡ Some g → is_taken ((state g (front_of q)).status timer) ≡ false
named_free d q p timer belongs can g named =
    let same : settings_of d ≡ g = (let both : Some (settings_of d) ≡ Some g = sym belongs.named ∙ named in cc) in
    subst (λ t. is_taken ((state t (front_of q)).status timer) ≡ false) same can.free

-- a step that found no memory changed nothing but the room of a mailbox
pub step_refused : (before : Owned) (d : Desk) (p q : Pass) (s : Share) (parts : ShardParts) (list : Option TurnRow) (process : ℕ) (old new : Mailbox) (call : Owned → Way → Growth)
    → Has before d p s parts → Belongs d q → IsHome s process → old ≡ slice_index_or parts.mails (process - s.from) old → new.process ≡ old.process
    → MailStands (settings_of d) (front_of q) new → view_of q ≡ view_of p → Makes d p q s parts [] call → IsListedOn parts (process - s.from) new list
    → Did before d q s (record parts { mails = slice_set parts.mails (process - s.from) new; list = list }) call
step_refused before d p q s parts list process old new call has belongs home lent named stands same allowed listed =
    let g : Settings = settings_of d in
    let one : old.process ≡ process = mail_named has.fit process old home lent in
    let takes : TakesPlace g (view_of p) [] (view_of q) =
    subst (λ w. TakesPlace g (view_of p) [] w) (sym same)
    (record { actors = refl; legal = has.fit.stand.legal; later = []; grown = sym (append-nil (front_of p)); ours = refl }) in
    losing has (same_rows parts.wheel)
    (finish before d p q s parts (record parts { mails = slice_set parts.mails (process - s.from) new; list = list }) [] (MailOf process ∷ []) call has listed.0 belongs takes tt
    (home_own s process home, tt) (home_kept before d p q s parts [] (MailOf process ∷ []) has takes tt refl)
    (λ stand. record {
      legal = stand.legal;
      wheel_is = stand.wheel_is;
      wheel = λ apart. stand.wheel refl;
      inbox_is = stand.inbox_is;
      inbox = λ apart. stand.inbox refl;
      sched_is = stand.sched_is;
      sched = λ apart. stand.sched refl;
      mails = mails_back g (front_of q) s [] parts.mails process new home
          (record { counted = stand.mails.counted; named = stand.mails.named; stand = stand.mails.stand }) (named ∙ one) stands;
      listed = listed.1 (counted_from s.from (state g (front_of q))) stand.listed (place_low has.fit process home);
    })
    allowed)

-- some expired timers were handed over, one after the other
pub record Handing (old : Owned) (hows : List Handed) (now : Owned) : Type 0 where
  pub rows : LosesRows old.wheel now.wheel
  pub made : Grows (HandsMany old.settings (shard_way old) old.share.number hows) old.history now.history
  pub table : now.table ≡ old.table
  pub settings : now.settings ≡ old.settings
  pub share : now.share ≡ old.share
  pub turns : TurnsGrow old.turns now.turns

pub none_handed : (o : Owned) → Handing o [] o
none_handed o = record {
  rows = same_rows o.wheel;
  made = record { piece = []; grown = sym (append-nil o.history); made = refl };
  table = refl;
  settings = refl;
  share = refl;
  turns = turns_same o.turns;
}

pub one_handed : (old mid new : Owned) (hows : List Handed) (how : Handed) → Handing old hows mid
    → ShardSteps mid (λ way. Hands mid.settings way mid.share.number (Ok how)) new → Handing old (hows ++ how ∷ []) new
one_handed old mid new hows how handing steps = record {
  rows = rows_then old.wheel mid.wheel new.wheel handing.rows steps.rows;
  made = grows_more (λ how. Hands old.settings (shard_way old) old.share.number (Ok how)) hows how old.history mid.history new.history handing.made
      (since old mid new (λ g n way. Hands g way n (Ok how)) handing.settings handing.share steps.goes.grows);
  table = steps.goes.table ∙ handing.table;
  settings = steps.goes.settings ∙ handing.settings;
  share = steps.goes.share ∙ handing.share;
  turns = turns_then old.turns mid.turns new.turns handing.turns steps.goes.turns;
}

none_left : {X : Type 0} (xs : List X) → first_of xs ≡ None → xs ≡ []
none_left [] none = refl
none_left (x ∷ xs) none = absurd cc

pub all_handed : (old new : Owned) (hows : List Handed) (put dropped : ℕ) → Handing old hows new → Legal new.settings new.history → put ≡ puts hows → dropped ≡ drops hows
    → first_of (shard_expired new) ≡ None → ShardSteps old (λ way. Delivers old.settings way old.share.number (Ok (put, dropped))) new
all_handed old new hows put dropped handing legal put_is dropped_is none =
    let made = handing.made in
    let expired : (sched_of new.settings new.history new.share.number).expired ≡ [] = none_left (shard_expired new) none in
    let at : ((state old.settings new.history).scheds old.share.number).expired ≡ [] =
    subst (λ s. ((state old.settings new.history).scheds s.number).expired ≡ []) handing.share
    (subst (λ g. ((state g new.history).scheds new.share.number).expired ≡ []) handing.settings expired) in
    record {
      rows = handing.rows;
      goes = record {
        grows = record {
          piece = made.piece;
          grown = made.grown;
          made = record {
            hows = hows;
            runs = made.made;
            put_is = put_is;
            dropped_is = dropped_is;
            done = subst (λ h. ((state old.settings h).scheds old.share.number).expired ≡ []) made.grown at;
          };
        };
        legal = legal;
        table = handing.table;
        settings = handing.settings;
        share = handing.share;
        turns = handing.turns;
      };
    }

-- how so many timers at most were handed over
pub some_handed : (old new : Owned) (most put dropped : ℕ) (more : Bool) (hows : List Handed) → Handing old hows new → Legal new.settings new.history
    → put ≡ puts hows → dropped ≡ drops hows → put + dropped ≤ most → AreLeft more most (length hows) (shard_expired new)
    → ShardSteps old (λ way. DeliversSome old.settings way old.share.number most (Ok (put, dropped, more))) new
some_handed old new most put dropped more hows handing legal put_is dropped_is few left =
    let made = handing.made in
    let at : AreLeft more most (length hows) ((state old.settings new.history).scheds old.share.number).expired =
    subst (λ s. AreLeft more most (length hows) ((state old.settings new.history).scheds s.number).expired) handing.share
    (subst (λ g. AreLeft more most (length hows) ((state g new.history).scheds new.share.number).expired) handing.settings left) in
    record {
      rows = handing.rows;
      goes = record {
        grows = record {
          piece = made.piece;
          grown = made.grown;
          made = record {
            hows = hows;
            runs = made.made;
            few = (let all = puts_drops hows in omega (arith, all, put_is, dropped_is, few));
            put_is = put_is;
            dropped_is = dropped_is;
            rest = subst (λ h. AreLeft more most (length hows) ((state old.settings h).scheds old.share.number).expired) made.grown at;
          };
        };
        legal = legal;
        table = handing.table;
        settings = handing.settings;
        share = handing.share;
        turns = handing.turns;
      };
    }

-- fewer were handed over, and there was no memory for the next
pub some_unhanded : (old mid new : Owned) (most put dropped : ℕ) (e : NoMemory) (hows : List Handed) → Handing old hows mid
    → put ≡ puts hows → dropped ≡ drops hows → put + dropped < most → ShardSteps mid (λ way. Hands mid.settings way mid.share.number (Err e)) new
    → ShardSteps old (λ way. DeliversSome old.settings way old.share.number most (Err e)) new
some_unhanded old mid new most put dropped e hows handing put_is dropped_is few steps =
    let both = grows_then (HandsMany old.settings (shard_way old) old.share.number hows) (Hands old.settings (shard_way old) old.share.number (Err e)) old.history mid.history new.history
    handing.made (since old mid new (λ g n way. Hands g way n (Err e)) handing.settings handing.share steps.goes.grows) in
    record {
      rows = rows_then old.wheel mid.wheel new.wheel handing.rows steps.rows;
      goes = record {
        grows = record {
          piece = both.piece;
          grown = both.grown;
          made = record { hows = hows; few = (let all = puts_drops hows in omega (arith, all, put_is, dropped_is, few)); runs = both.made };
        };
        legal = steps.goes.legal;
        table = steps.goes.table ∙ handing.table;
        settings = steps.goes.settings ∙ handing.settings;
        share = steps.goes.share ∙ handing.share;
        turns = turns_then old.turns mid.turns new.turns handing.turns steps.goes.turns;
      };
    }
