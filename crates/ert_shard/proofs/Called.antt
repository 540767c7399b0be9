-- A call of a part, or of an actor alone, is a call of the shard that has it.

use Rattle.std.proofs.Common.{◌≡◌, ℕ, ◌+◌, ◌-◌, ◌<◌, false, Option, arith, ne_eqb, List, [], ◌∷◌, ◌++◌, filter, length, slice_index_or, refl, sym, ap, subst, ◌∙◌}
use Rattle.std.specs.Prelude.{slice_set}
use Rattle.std.proofs.{Math.Nat.{le_refl, le_trans}, lemmas.List.length-set}
use Rattle.ert_defs.specs.{Actors.of, Legal.Legal, States.{State, state}, declared.entry.Actor.Actor, declared.entry.Actor.TheVariants.{Wheel, MailOf, Caller}, declared.entry.Entry.Entry, declared.settings.Settings.Settings}
use Rattle.ert_effects.specs.Ways.{Growth, Way}
use Rattle.ert_mail.specs.{Mailboxes.{Mailbox, MailboxStands as MailStands}, Turns.TurnRow}
use Rattle.ert_shard.specs.Shards.{Share, counted_from, IsHome, AreMails, is_of, Owned, owned, shard_way, ShardGoes, ShardSteps, ShardBy, HoldsShare, ShardParts, ShardPartsStand, AreHome, AreShardPartsFit}
use Rattle.ert_shard.proofs.{Home.home_on, Kept.{AreOwn, own_by, same_of, others_stand, self_own, home_own}}
use Rattle.ert_table.specs.{Calls.{AreOnlyOf, IsMade}, Desks.{settings_of, view_of, front_of, Belongs}, Held.is_held, Takes.TakesPlace, declared.desk.Desk.Desk, declared.desk.Pass.Pass}
use Rattle.ert_timers.specs.{Parts.{Part, PartStands as WheelStands}, Passed.LosesRows}
use Rattle.ert_world.specs.{Stepping.turns_same, Worlds.{ListAll, TurnsGrow}}
use Rattle.ert_world.proofs.Returned.{at_place}
use Rattle.ert_wheel.proofs.StandsOn.{stay_all, stay_then}

-- the parts of a shard after a call: they fit, and what callers see of it goes on by the call
pub record Does (before : Owned) (d : Desk) (q : Pass) (s : Share) (new : ShardParts) (call : Owned → Way → Growth) : Type 0 where
  pub fit : AreShardPartsFit d q s new
  pub goes : ShardGoes before (call before) (owned d q s new.wheel new.list)

-- the same of a call that starts no timer
pub record Did (before : Owned) (d : Desk) (q : Pass) (s : Share) (new : ShardParts) (call : Owned → Way → Growth) : Type 0 where
  pub fit : AreShardPartsFit d q s new
  pub steps : ShardSteps before (call before) (owned d q s new.wheel new.list)

pub does_at : {before : Owned} {d e : Desk} {q : Pass} {s : Share} {new : ShardParts} {call : Owned → Way → Growth} → d ≡ e
    → Does before d q s new call → Does before e q s new call
does_at {before} {d} {e} {q} {s} {new} {call} same done = subst (λ x. Does before x q s new call) same done

pub did_at : {before : Owned} {d e : Desk} {q : Pass} {s : Share} {new : ShardParts} {call : Owned → Way → Growth} → d ≡ e
    → Did before d q s new call → Did before e q s new call
did_at {before} {d} {e} {q} {s} {new} {call} same done = subst (λ x. Did before x q s new call) same done

-- no row comes to a wheel that stays
pub same_rows : (p : Part) → LosesRows p p
same_rows p = record { number = refl; slots = refl; left = λ k key is. is; time = le_refl p.passed; frees = λ k was. was; stands = stay_all p.keys p.passed p.stands }

-- a call went on so, and the wheel lost rows
pub lost : (before o : Owned) (call : Way → Growth) (old new : Part) → before.wheel ≡ old → ShardGoes before call o → LosesRows old new
    → ShardSteps before call (record o { wheel = new })
lost before o call old new is goes rows = record {
  goes = record { grows = goes.grows; legal = goes.legal; table = goes.table; settings = goes.settings; share = goes.share; turns = goes.turns };
  rows = subst (λ (p : Part). LosesRows p new) (sym is) rows;
}

-- what a shard has at a desk before a call
pub record Has (before : Owned) (d : Desk) (p : Pass) (s : Share) (parts : ShardParts) : Type 0 where
  pub is : owned d p s parts.wheel parts.list ≡ before
  pub fit : AreShardPartsFit d p s parts

pub has_at : {before : Owned} {d e : Desk} {p : Pass} {s : Share} {parts : ShardParts} → d ≡ e → owned e p s parts.wheel parts.list ≡ before
    → AreShardPartsFit e p s parts → Has before d p s parts
has_at {before} {d} {e} {p} {s} {parts} same is fit = subst (λ x. Has before x p s parts) (sym same) (record { is = is; fit = fit })

-- what a call may record, of a piece of the history in which these entries are the share's
abbrev pub Makes : Desk → Pass → Pass → Share → ShardParts → List Entry → (Owned → Way → Growth) → Type 0
Makes d p q s parts es call =
    (m : List Entry) → front_of q ≡ front_of p ++ m → filter (is_of s) m ≡ es → call (owned d p s parts.wheel parts.list) (shard_way (owned d p s parts.wheel parts.list)) (front_of p) m

pub finish : (before : Owned) (d : Desk) (p q : Pass) (s : Share) (old new : ShardParts) (es : List Entry) (lent : List Actor) (call : Owned → Way → Growth)
    → Has before d p s old → TurnsGrow old.list new.list → Belongs d q → TakesPlace (settings_of d) (view_of p) es (view_of q) → AreOnlyOf lent es → AreOwn s lent
    → AreHome s (of (front_of q) (Wheel s.number))
    → (ShardPartsStand (settings_of d) (front_of q) s lent old → ShardPartsStand (settings_of d) (front_of q) s [] new)
    → Makes d p q s old es call → Does before d q s new call
finish before d p q s old new es lent call has grows belongs takes only own home back allowed =
    let g : Settings = settings_of d in
    record {
      fit = record {
        belongs = belongs;
        holds = subst (λ l. HoldsShare g l s) (sym takes.actors) has.fit.holds;
        stand = back (others_stand g (view_of p) es (view_of q) s lent old takes only has.fit.holds has.fit.stand);
        home = home;
      };
      goes = subst (λ o. ShardGoes o (call o) (owned d q s new.wheel new.list)) has.is (record {
        grows = record {
          piece = takes.later;
          grown = takes.grown;
          made = allowed takes.later takes.grown (own_by g (view_of p) es (view_of q) s lent has.fit.holds takes only own);
        };
        legal = takes.legal;
        table = refl;
        settings = refl;
        share = refl;
        turns = grows;
      });
    }

-- what one step may record
pub makes : (d : Desk) (p q : Pass) (s : Share) (parts : ShardParts) (es : List Entry) (allows : ℕ → Settings → State → List Entry → Type 0)
    → allows s.number (settings_of d) (state (settings_of d) (front_of p)) es → Makes d p q s parts es (λ o. ShardBy o (allows o.share.number))
makes d p q s parts es allows allowed = λ m grown own. subst (allows s.number (settings_of d) (state (settings_of d) (front_of p))) (sym own) allowed

-- where the wheel isn't lent no timer was started on it
pub home_kept : (before : Owned) (d : Desk) (p q : Pass) (s : Share) (old : ShardParts) (es : List Entry) (lent : List Actor) → Has before d p s old
    → TakesPlace (settings_of d) (view_of p) es (view_of q) → AreOnlyOf lent es → is_held lent (Wheel s.number) ≡ false
    → AreHome s (of (front_of q) (Wheel s.number))
home_kept before d p q s old es lent has takes only apart =
    subst (AreHome s) (sym (same_of (settings_of d) (view_of p) es (view_of q) s lent (Wheel s.number) takes only has.fit.holds has.fit.holds.low (self_own s.number) apart))
    has.fit.home

-- a call that left the wheel as it was
pub still : {before : Owned} {d e : Desk} (p : Pass) {q : Pass} {s : Share} (old new : ShardParts) {call : Owned → Way → Growth} → d ≡ e
    → owned e p s old.wheel old.list ≡ before → new.wheel ≡ old.wheel → Does before d q s new call → Did before e q s new call
still {before} {d} {e} p {q} {s} old new {call} same is kept done =
    let there : Does before e q s new call = does_at same done in
    let wheel : before.wheel ≡ old.wheel = sym (ap (λ (o : Owned). o.wheel) is) in
    record {
      fit = there.fit;
      steps = lost before (owned e q s new.wheel new.list) (call before) old.wheel new.wheel wheel there.goes (subst (LosesRows old.wheel) (sym kept) (same_rows old.wheel));
    }

-- a call by which the wheel lost rows
pub losing : {before : Owned} {d : Desk} {p q : Pass} {s : Share} {old new : ShardParts} {call : Owned → Way → Growth} → Has before d p s old
    → LosesRows old.wheel new.wheel → Does before d q s new call → Did before d q s new call
losing {before} {d} {p} {q} {s} {old} {new} {call} has rows done = record {
  fit = done.fit;
  steps = lost before (owned d q s new.wheel new.list) (call before) old.wheel new.wheel (sym (ap (λ (o : Owned). o.wheel) has.is)) done.goes rows;
}

-- rows are lost, and then more
pub rows_then : (p q r : Part) → LosesRows p q → LosesRows q r → LosesRows p r
rows_then p q r one other = record {
  number = other.number ∙ one.number;
  slots = other.slots ∙ one.slots;
  left = λ k key is. one.left k key (other.left k key is);
  time = le_trans one.time other.time;
  frees = λ k was. other.frees k (one.frees k was);
  stands = stay_then other.time other.left one.stands other.stands;
}

-- a call of the shard's caller alone
pub alone_called : (before : Owned) (d e : Desk) (p q : Pass) (s : Share) (old : ShardParts) (allows : ℕ → Settings → State → List Entry → Type 0) → d ≡ e
    → owned e p s old.wheel old.list ≡ before → AreShardPartsFit e p s old → Belongs d q → IsMade (settings_of d) (view_of p) (allows s.number (settings_of d)) (view_of q)
    → ((st : State) (es : List Entry) → allows s.number (settings_of d) st es → AreOnlyOf (Caller (s.number + 1) ∷ []) es)
    → Did before e q s old (λ o. ShardBy o (allows o.share.number))
alone_called before d e p q s old allows same is fit belongs made only =
    let it = only (state (settings_of d) (front_of p)) made.entries made.allowed in
    let has : Has before d p s old = has_at same is fit in
    still p old old same is refl (finish before d p q s old old made.entries (Caller (s.number + 1) ∷ []) (λ o. ShardBy o (allows o.share.number)) has (turns_same old.list) belongs made.call it (self_own (s.number + 1), tt)
    (home_kept before d p q s old made.entries (Caller (s.number + 1) ∷ []) has made.call it refl)
    (λ stand. record {
      legal = stand.legal;
      wheel_is = stand.wheel_is;
      wheel = λ apart. stand.wheel refl;
      inbox_is = stand.inbox_is;
      inbox = λ apart. stand.inbox refl;
      sched_is = stand.sched_is;
      sched = λ apart. stand.sched refl;
      mails = record { counted = stand.mails.counted; named = stand.mails.named; stand = λ i d low apart. stand.mails.stand i d low refl };
      listed = stand.listed;
    })
    (makes d p q s old made.entries allows made.allowed))

-- a step on the shard's wheel by its caller, whose starts are for its processes
pub wheel_stepped : (before : Owned) (d e : Desk) (p q : Pass) (s : Share) (old : ShardParts) (new : Part) (allows : ℕ → ℕ → Settings → State → List Entry → Type 0)
    → d ≡ e → owned e p s old.wheel old.list ≡ before → AreShardPartsFit e p s old → Belongs d q → new.number ≡ old.wheel.number → WheelStands (settings_of d) (front_of q) new
    → IsMade (settings_of d) (view_of p) (allows s.number old.wheel.number (settings_of d)) (view_of q)
    → ((n : ℕ) (st : State) (es : List Entry) → allows s.number n (settings_of d) st es → AreOnlyOf (Caller (s.number + 1) ∷ (Wheel n ∷ [])) es)
    → ((n : ℕ) (st : State) (es : List Entry) → allows s.number n (settings_of d) st es → AreHome s es)
    → Does before e q s (record old { wheel = new }) (λ o. ShardBy o (allows o.share.number o.share.number))
wheel_stepped before d e p q s old new allows same is fit belongs named stands made only homes =
    let g : Settings = settings_of d in
    let n : ℕ = s.number in
    let has : Has before d p s old = has_at same is fit in
    let one : old.wheel.number ≡ n = has.fit.stand.wheel_is in
    let it : IsMade g (view_of p) (allows n n g) (view_of q) = subst (λ i. IsMade g (view_of p) (allows n i g) (view_of q)) one made in
    let mine = only n (state g (front_of p)) it.entries it.allowed in
    does_at same (finish before d p q s old (record old { wheel = new }) it.entries (Caller (n + 1) ∷ (Wheel n ∷ [])) (λ o. ShardBy o (allows o.share.number o.share.number)) has (turns_same old.list) belongs it.call mine
    (self_own (n + 1), (self_own n, tt))
    (home_on g (view_of p) it.entries (view_of q) s it.call has.fit.holds has.fit.home (homes n (state g (front_of p)) it.entries it.allowed))
    (λ stand. record {
      legal = stand.legal;
      wheel_is = named ∙ one;
      wheel = λ apart. stands;
      inbox_is = stand.inbox_is;
      inbox = λ apart. stand.inbox refl;
      sched_is = stand.sched_is;
      sched = λ apart. stand.sched refl;
      mails = record { counted = stand.mails.counted; named = stand.mails.named; stand = λ i d low apart. stand.mails.stand i d low refl };
      listed = stand.listed;
    })
    (makes d p q s old it.entries (λ m. allows m m) it.allowed))

-- a wheel that was changed without an entry
pub wheel_replaced : (d : Desk) (q : Pass) (s : Share) (parts : ShardParts) (new : Part) → AreShardPartsFit d q s parts → new.number ≡ parts.wheel.number
    → WheelStands (settings_of d) (front_of q) new → AreShardPartsFit d q s (record parts { wheel = new })
wheel_replaced d q s parts new fit named stands = record {
  belongs = fit.belongs;
  holds = fit.holds;
  stand = record {
    legal = fit.stand.legal;
    wheel_is = named ∙ fit.stand.wheel_is;
    wheel = λ apart. stands;
    inbox_is = fit.stand.inbox_is;
    inbox = fit.stand.inbox;
    sched_is = fit.stand.sched_is;
    sched = fit.stand.sched;
    mails = fit.stand.mails;
    listed = fit.stand.listed;
  };
  home = fit.home;
}

-- a list of processes with mail that was made or read
pub list_replaced : (d : Desk) (q : Pass) (s : Share) (parts : ShardParts) (list : Option TurnRow) → AreShardPartsFit d q s parts
    → ListAll (counted_from s.from (state (settings_of d) (front_of q))) list parts.mails → AreShardPartsFit d q s (record parts { list = list })
list_replaced d q s parts list fit listed = record {
  belongs = fit.belongs;
  holds = fit.holds;
  stand = record {
    legal = fit.stand.legal;
    wheel_is = fit.stand.wheel_is;
    wheel = fit.stand.wheel;
    inbox_is = fit.stand.inbox_is;
    inbox = fit.stand.inbox;
    sched_is = fit.stand.sched_is;
    sched = fit.stand.sched;
    mails = fit.stand.mails;
    listed = listed;
  };
  home = fit.home;
}

-- a place among the mailboxes of a share
pub place_low : {d : Desk} {p : Pass} {s : Share} {parts : ShardParts} → AreShardPartsFit d p s parts → (process : ℕ) → IsHome s process
    → process - s.from < length parts.mails
place_low fit process home =
    let counted = fit.stand.mails.counted in
    let low = home.0 in
    let high = home.1 in
    omega (arith, counted, low, high)

-- the mailbox at the place of a process is of that
pub mail_named : {d : Desk} {p : Pass} {s : Share} {parts : ShardParts} → AreShardPartsFit d p s parts → (process : ℕ) (x : Mailbox) → IsHome s process
    → x ≡ slice_index_or parts.mails (process - s.from) x → x.process ≡ process
mail_named {s = s} fit process x home is =
    let low = home.0 in
    let sum : s.from + (process - s.from) ≡ process = omega (arith, low) in
    ap (λ (m : Mailbox). m.process) is ∙ (fit.stand.mails.named (process - s.from) x (place_low fit process home) ∙ sum)

-- the mailbox of a process comes back
pub mails_back : (g : Settings) (h : List Entry) (s : Share) (lent : List Actor) (mails : List Mailbox) (process : ℕ) (x : Mailbox) → IsHome s process
    → AreMails g h s (MailOf process ∷ lent) mails → x.process ≡ process → MailStands g h x
    → AreMails g h s lent (slice_set mails (process - s.from) x)
mails_back g h s lent mails process x home are named stands =
    let i : ℕ = process - s.from in
    let counted = are.counted in
    let low = home.0 in
    let high = home.1 in
    let within : i < length mails = omega (arith, counted, low, high) in
    let sum : s.from + i ≡ process = omega (arith, low) in
    let size : length (slice_set mails i x) ≡ length mails = length-set mails i x in
    record {
      counted = ap (λ n. s.from + n) size ∙ are.counted;
      named = λ j d below. at_place (λ (m : Mailbox). m.process ≡ s.from + j) mails i j x d within
          (λ one. named ∙ (sym sum ∙ ap (λ n. s.from + n) (sym one))) (λ other. are.named j d (subst (λ n. j < n) size below));
      stand = λ j d below left. at_place (λ (m : Mailbox). MailStands g h m) mails i j x d within (λ one. stands)
          (λ other. are.stand j d (subst (λ n. j < n) size below)
          (rw (ne_eqb process (s.from + j) (λ e. other (omega (arith, sum, e)))) left));
    }

-- a row of processes that may have mail is one after a mailbox has changed, and all keep their places in it
abbrev pub IsListedOn : ShardParts → ℕ → Mailbox → Option TurnRow → Type 0
IsListedOn parts place new list =
    TurnsGrow parts.list list × ((st : State) → ListAll st parts.list parts.mails → place < length parts.mails → ListAll st list (slice_set parts.mails place new))

-- a step on a mailbox by the shard's caller
pub mail_stepped : (before : Owned) (d e : Desk) (p q : Pass) (s : Share) (parts : ShardParts) (list : Option TurnRow) (process : ℕ) (old new : Mailbox)
    (allows : ℕ → ℕ → Settings → State → List Entry → Type 0) → d ≡ e → owned e p s parts.wheel parts.list ≡ before → AreShardPartsFit e p s parts → Belongs d q → IsHome before.share process
    → old ≡ slice_index_or parts.mails (process - s.from) old → new.process ≡ old.process → MailStands (settings_of d) (front_of q) new
    → (Legal (settings_of d) (front_of p) → IsMade (settings_of d) (view_of p) (allows s.number old.process (settings_of d)) (view_of q))
    → ((n : ℕ) (st : State) (es : List Entry) → allows s.number n (settings_of d) st es → AreOnlyOf (Caller (s.number + 1) ∷ (MailOf n ∷ [])) es)
    → IsListedOn parts (process - s.from) new list
    → Did before e q s (record parts { mails = slice_set parts.mails (process - s.from) new; list = list }) (λ o. ShardBy o (allows o.share.number process))
mail_stepped before d e p q s parts list process old new allows same is fit belongs home_in lent named stands made only listed =
    let g : Settings = settings_of d in
    let n : ℕ = s.number in
    let home : IsHome s process = subst (λ (o : Owned). IsHome o.share process) (sym is) home_in in
    let has : Has before d p s parts = has_at same is fit in
    let one : old.process ≡ process = mail_named fit process old home lent in
    let it : IsMade g (view_of p) (allows n process g) (view_of q) = subst (λ i. IsMade g (view_of p) (allows n i g) (view_of q)) one (made has.fit.stand.legal) in
    let lending : List Actor = Caller (n + 1) ∷ (MailOf process ∷ []) in
    let mine = only process (state g (front_of p)) it.entries it.allowed in
    still p parts (record parts { mails = slice_set parts.mails (process - s.from) new; list = list }) same is refl
    (finish before d p q s parts (record parts { mails = slice_set parts.mails (process - s.from) new; list = list }) it.entries lending
    (λ o. ShardBy o (allows o.share.number process)) has listed.0 belongs it.call mine
    (self_own (n + 1), (home_own s process home, tt))
    (home_kept before d p q s parts it.entries lending has it.call mine refl)
    (λ stand. record {
      legal = stand.legal;
      wheel_is = stand.wheel_is;
      wheel = λ apart. stand.wheel refl;
      inbox_is = stand.inbox_is;
      inbox = λ apart. stand.inbox refl;
      sched_is = stand.sched_is;
      sched = λ apart. stand.sched refl;
      mails = mails_back g (front_of q) s [] parts.mails process new home (record {
        counted = stand.mails.counted;
        named = stand.mails.named;
        stand = stand.mails.stand;
      }) (named ∙ one) stands;
      listed = listed.1 (counted_from s.from (state g (front_of q))) stand.listed (place_low fit process home);
    })
    (makes d p q s parts it.entries (λ m. allows m process) it.allowed))
