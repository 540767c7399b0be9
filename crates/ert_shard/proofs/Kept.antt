-- After a call that others stepped beside: whose the entries are, and which parts of a shard stand.

use Rattle.std.proofs.Common.{◌≡◌, ℕ, ◌+◌, ◌<◌, Bool, true, false, List, [], ◌∷◌, filter, Option, Some, None, slice_index_or, refl, sym, ap, subst, ◌∙◌, arith, eq-eqb, ◌||◌}
use Rattle.std.proofs.lemmas.Bool.{lt-ltb, le-leb}
use Rattle.std.specs.Prelude.{nat_eq}
use Rattle.ert_defs.proofs.Runs.{legal_then, state-append, exit_stays}
use Rattle.ert_defs.specs.{Actors.{same_actor, of}, Entries.is_ours, Legal.{Legal, LegalFrom}, States.{State, opening, next, state}, declared.entry.Actor.Actor, declared.entry.Actor.TheVariants.{Wheel, Inbox, Sched, MailOf}}
use Rattle.ert_defs.specs.{declared.entry.Entry.Entry, declared.settings.Settings.Settings}
use Rattle.ert_mail.proofs.{LawsHold.{inbox_on, mail_on}, Listing.listed_on}
use Rattle.ert_mail.specs.{Lists.exited_from, Mailboxes.Mailbox, Turns.TurnRow}
use Rattle.ert_shard.proofs.Partners.{none_any}
use Rattle.ert_timers.proofs.{SchedParts.sched_on, LawsHold.stand_on as wheel_on}
use Rattle.ert_shard.specs.Shards.{Share, IsHome, is_own, is_of, HoldsShare, ShardParts, ShardPartsStand, counted_from, has_any, is_with_any}
use Rattle.ert_table.proofs.Holders.{held_maker, same_actor-true}
use Rattle.ert_table.specs.{Calls.AreOnlyOf, Held.{is_held, IsActor}, Takes.TakesPlace, Views.Begins, declared.view.View.View}
use Rattle.ert_world.proofs.Standing.{grown_by, own_kept}
use Rattle.ert_world.specs.Worlds.{ListAll}

-- all of these actors are of a share
abbrev pub AreOwn : Share → List Actor → Type 0
AreOwn s [] = Unit {0}
AreOwn s (a ∷ actors) = (is_own s a ≡ true) × AreOwn s actors

held_own : (s : Share) (actors : List Actor) (a : Actor) → AreOwn s actors → is_held actors a ≡ true → is_own s a ≡ true
held_own s [] a own held = absurd cc
held_own s (b ∷ actors) a own held = at (same_actor b a) refl (held_own s actors a own.1)
  where
    at : (t : Bool) → same_actor b a ≡ t → (is_held actors a ≡ true → is_own s a ≡ true) → is_own s a ≡ true
    at true is more = subst (λ c. is_own s c ≡ true) (same_actor-true b a is) own.0
    at false is more = more (rw is at held)

pub home_own : (s : Share) (p : ℕ) → IsHome s p → is_own s (MailOf p) ≡ true
home_own s p home = rw (le-leb s.from p home.0, lt-ltb p s.to home.1) refl

pub self_own : (n : ℕ) → nat_eq n n ≡ true
self_own n = eq-eqb n n refl

-- of what a pass's front gains, the entries of its share are those of the call
module _ (g : Settings) (actors : List Actor) (s : Share) (holds : HoldsShare g actors s) where
  same_own : (lent : List Actor) (st : State) (m : List Entry) → AreOwn s lent → LegalFrom g st m → AreOnlyOf lent (filter (is_ours actors) m)
      → filter (is_of s) m ≡ filter (is_ours actors) m
  same_own lent st [] own legal only = refl
  same_own lent st (e ∷ m) own legal only = at (is_ours actors e) refl (same_own lent (next g st e) m own legal.1)
    where
      at : (b : Bool) → is_ours actors e ≡ b → (AreOnlyOf lent (filter (is_ours actors) m) → filter (is_of s) m ≡ filter (is_ours actors) m)
          → filter (is_of s) (e ∷ m) ≡ filter (is_ours actors) (e ∷ m)
      at true is more =
          let mine : filter (is_ours actors) (e ∷ m) ≡ e ∷ filter (is_ours actors) m = rw is refl in
          let all = subst (AreOnlyOf lent) mine only in
          let one : is_own s e.by ≡ true = held_own s lent e.by own (held_maker lent e.by e.with all.0) in
          let some : has_any (is_own s) e ≡ true = ap (λ b. b || is_with_any (is_own s) e.with) one in
          rw (is, some) (ap (λ l. e ∷ l) (more all.1))
      at false is more =
          let theirs : filter (is_ours actors) (e ∷ m) ≡ filter (is_ours actors) m = rw is refl in
          let none : has_any (is_own s) e ≡ false = none_any g actors (is_own s) holds.own e legal.0.keeps is in
          rw (is, none) (more (subst (AreOnlyOf lent) theirs only))

pub own_by : (g : Settings) (v : View) (es : List Entry) (w : View) (s : Share) (lent : List Actor) → HoldsShare g v.actors s
    → (takes : TakesPlace g v es w) → AreOnlyOf lent es → AreOwn s lent → filter (is_of s) takes.later ≡ es
own_by g v es w s lent holds takes only own =
    let legal = legal_then g (opening g) v.front takes.later (subst (Legal g) takes.grown takes.legal) in
    same_own g v.actors s holds lent (state g v.front) takes.later own legal (subst (AreOnlyOf lent) (sym takes.ours) only) ∙ takes.ours

-- an actor of the share that wasn't lent has no more entries than before
pub same_of : (g : Settings) (v : View) (es : List Entry) (w : View) (s : Share) (lent : List Actor) (a : Actor) → TakesPlace g v es w → AreOnlyOf lent es
    → HoldsShare g v.actors s → IsActor g a → is_own s a ≡ true → is_held lent a ≡ false → of w.front a ≡ of v.front a
same_of g v es w s lent a takes only holds ranged mine apart = own_kept g v es w lent a takes only (holds.own a ranged ∙ mine) apart

-- more processes may have exited, of those that are listed
pub list_on : (g : Settings) (f h : List Entry) (from : ℕ) (list : Option TurnRow) (mails : List Mailbox) → Begins f h
    → ListAll (counted_from from (state g f)) list mails → ListAll (counted_from from (state g h)) list mails
list_on g f h from None mails more all = tt
list_on g f h from (Some row) mails more all =
    listed_on (exited_from from (state g f).exited) (exited_from from (state g h).exited) row mails
    (λ p gone. ap (λ l. (state g l).exited (from + p)) more.grown
    ∙ (ap (λ (st : State). st.exited (from + p)) (state-append g f more.later) ∙ exit_stays g (from + p) (state g f) more.later gone)) all

pub others_stand : (g : Settings) (v : View) (es : List Entry) (w : View) (s : Share) (lent : List Actor) (parts : ShardParts) → TakesPlace g v es w
    → AreOnlyOf lent es → HoldsShare g v.actors s → ShardPartsStand g v.front s [] parts → ShardPartsStand g w.front s lent parts
others_stand g v es w s lent parts takes only holds stand =
    let f : List Entry = v.front in
    let h : List Entry = w.front in
    let more : Begins f h = grown_by g v es w takes in
    let same : (a : Actor) → IsActor g a → is_own s a ≡ true → is_held lent a ≡ false → of h a ≡ of f a =
    λ a ranged mine apart. same_of g v es w s lent a takes only holds ranged mine apart in
    record {
      legal = takes.legal;
      wheel_is = stand.wheel_is;
      wheel = λ apart. wheel_on g f h parts.wheel more
          (subst (λ n. of h (Wheel n) ≡ of f (Wheel n)) (sym stand.wheel_is) (same (Wheel s.number) holds.low (self_own s.number) apart)) takes.legal (stand.wheel refl);
      inbox_is = stand.inbox_is;
      inbox = λ apart. inbox_on g f h parts.inbox more
          (subst (λ n. of h (Inbox n) ≡ of f (Inbox n)) (sym stand.inbox_is) (same (Inbox s.number) holds.low (self_own s.number) apart)) (stand.inbox refl);
      sched_is = stand.sched_is;
      sched = λ apart. sched_on g f h parts.sched more
          (subst (λ n. of h (Sched n) ≡ of f (Sched n)) (sym stand.sched_is) (same (Sched s.number) holds.low (self_own s.number) apart)) (stand.sched refl);
      mails = record {
        counted = stand.mails.counted;
        named = stand.mails.named;
        stand = λ i d low apart.
            let m : Mailbox = slice_index_or parts.mails i d in
            let counted = stand.mails.counted in
            let most = holds.most in
            let p : ℕ = s.from + i in
            let home : IsHome s p = (omega arith, omega (arith, low, counted)) in
            let ranged : p < g.processes = omega (arith, low, counted, most) in
            mail_on g f h m more
            (subst (λ n. of h (MailOf n) ≡ of f (MailOf n)) (sym (stand.mails.named i d low)) (same (MailOf p) ranged (home_own s p home) apart))
            (stand.mails.stand i d low refl);
      };
      listed = list_on g f h s.from parts.list parts.mails more stand.listed;
    }
