-- What is left of a world after a shard came back.

use Rattle.std.proofs.Common.{◌≡◌, ℕ, ◌+◌, ◌-◌, ◌<◌, ◌≤◌, Bool, true, false, ◌||◌, nat_lt, List, [], ◌∷◌, ◌++◌, length, slice_index_or, refl, sym, ap, subst, ◌∙◌, arith, length-append}
use Rattle.std.proofs.lemmas.{Bool.ltb-true, List.{get_or_append_left, get_or-append_right}, Bool.Decides.nat_tests, List.Folds.list_any-append}
use Rattle.ert_defs.specs.{Actors.{same_actor, of}, Legal.Legal, declared.entry.Actor.Actor, declared.entry.Actor.TheVariants.{Keeper, Wheel, Inbox, Sched, MailOf, Caller}, declared.entry.Entry.Entry, declared.settings.Settings.Settings}
use Rattle.ert_mail.proofs.LawsHold.{inbox_on, mail_on}
use Rattle.ert_mail.specs.{Inboxes.{Waiting, InboxStands}, Mailboxes.{Mailbox, MailboxStands as MailStands}}
use Rattle.ert_shard.proofs.{Cut.homes_on, Kept.{self_own, home_own}}
use Rattle.ert_table.proofs.StandOn.{keeper_on}
use Rattle.ert_timers.proofs.{SchedParts.sched_on, LawsHold.stand_on as wheel_on}
use Rattle.ert_shard.specs.{Hubs.{is_kept, share_at, HaveHomes, IsRest}, Shards.{Share, share_of, IsHome, is_own, HoldsShare, ShardParts, ShardPartsStand, AreHome, AreShardPartsFit}, declared.hub.Home.Home}
use Rattle.ert_table.specs.{Desks.{settings_of, view_of, front_of, actors_of, Belongs}, Held.{is_held, IsActor}, Views.{Joined, meeting}, declared.desk.Desk.Desk, declared.desk.Pass.Pass}
use Rattle.ert_timers.specs.{Parts.{Part, PartStands as WheelStands}, SchedParts.SchedStands, declared.sched_part.SchedPart.SchedPart}
use Rattle.ert_world.specs.Parts.{AllParts, parts_of, AreOrdered}

-- parts in order, and more behind them
ordered_append : {X : Type 0} (number : X → ℕ) (stands : X → Type 0) (actor : ℕ → Actor) (count total : ℕ) (xs ys : List X)
    → AreOrdered number stands actor [] count xs → count + length ys ≡ total
    → ((i : ℕ) (d : X) → i < length ys → (number (slice_index_or ys i d) ≡ count + i) × stands (slice_index_or ys i d))
    → AreOrdered number stands actor [] total (xs ++ ys)
ordered_append number stands actor count total xs ys first sum more = record {
  counted = length-append xs ys ∙ (ap (λ n. n + length ys) first.counted ∙ sum);
  named = λ i d low. (each i d low (nat_lt i count) refl).0;
  stand = λ i d low apart. (each i d low (nat_lt i count) refl).1;
}
  where
    each : (i : ℕ) (d : _) → i < total → (b : Bool) → nat_lt i count ≡ b
        → (number (slice_index_or (xs ++ ys) i d) ≡ i) × stands (slice_index_or (xs ++ ys) i d)
    each i d low true is =
        let below : i < count = ltb-true i count is in
        let at = get_or_append_left xs ys d i (rw first.counted below) in
        subst (λ y. (number y ≡ i) × stands y) (sym at) (first.named i d below, first.stand i d below refl)
    each i d low false is =
        let above : count ≤ i = grind (arith, nat_tests, is) in
        let at = get_or-append_right xs ys count i d first.counted above in
        let within : i - count < length ys = omega (arith, above, low, sum) in
        let back : count + (i - count) ≡ i = omega (arith, above) in
        let one = more (i - count) d within in
        subst (λ y. (number y ≡ i) × stands y) (sym at) (one.0 ∙ back, one.1)

-- parts in order stand on
pub ordered_kept : {X : Type 0} (number : X → ℕ) (old new : X → Type 0) (actor : ℕ → Actor) (count : ℕ) (xs : List X)
    → ((x : X) → number x < count → old x → new x) → AreOrdered number old actor [] count xs → AreOrdered number new actor [] count xs
ordered_kept number old new actor count xs on ordered = record {
  counted = ordered.counted;
  named = ordered.named;
  stand = λ i d low apart. on (slice_index_or xs i d) (rw (ordered.named i d low) low) (ordered.stand i d low refl);
}

single : {X : Type 0} (number : X → ℕ) (stands : X → Type 0) (count : ℕ) (x : X) → number x ≡ count → stands x
    → (i : ℕ) (d : X) → i < 1 → (number (slice_index_or (x ∷ []) i d) ≡ count + i) × stands (slice_index_or (x ∷ []) i d)
single number stands count x named stand i d low =
    let none : i ≡ 0 = omega (arith, low) in
    subst (λ k. (number (slice_index_or (x ∷ []) k d) ≡ count + k) × stands (slice_index_or (x ∷ []) k d)) (sym none) (named ∙ plus count, stand)
  where
    plus : (n : ℕ) → n ≡ n + 0
    plus n = omega arith

-- the actors that are left with those that came back
kept_more : (seat : ℕ) (s : Share) (a : Actor) → s.from ≤ s.to → (is_kept s.number s.from seat a || is_own s a) ≡ is_kept (s.number + 1) s.to seat a
kept_more seat s Keeper ordered = refl
kept_more seat s (Wheel w) ordered = grind (arith, nat_tests)
kept_more seat s (Inbox w) ordered = grind (arith, nat_tests)
kept_more seat s (Sched w) ordered = grind (arith, nat_tests)
kept_more seat s (MailOf p) ordered = grind (arith, nat_tests, ordered)
kept_more seat s (Caller c) ordered = grind (arith, nat_tests)

-- which processes a shard has
abbrev pub home_of : Share → Home
home_of s = record { from = s.from; to = s.to }

-- the home law of the wheels that are left, and of one that came back
homes_more : (f h : List Entry) (s : Share) (homes : List Home) → HaveHomes f s.number homes → ((w : ℕ) → w < s.number → of h (Wheel w) ≡ of f (Wheel w))
    → AreHome s (of h (Wheel s.number)) → HaveHomes h (s.number + 1) (homes ++ home_of s ∷ [])
homes_more f h s homes have same home =
    let on : HaveHomes h s.number homes = homes_on f h s.number homes same have in
    let counted = on.counted in
    let size : length (homes ++ home_of s ∷ []) ≡ length homes + 1 = length-append homes (home_of s ∷ []) in
    record {
      base = on.base;
      counted = omega (arith, counted, size);
      home = λ i d low. each on i d (omega (arith, low, size)) (nat_lt i (length homes)) refl;
    }
  where
    each : (on : HaveHomes h s.number homes) (i : ℕ) (d : Home) → i < length homes + 1 → (b : Bool) → nat_lt i (length homes) ≡ b
        → AreHome (share_at (on.base + i) (slice_index_or (homes ++ home_of s ∷ []) i d)) (of h (Wheel (on.base + i)))
    each on i d low true is =
        let below : i < length homes = ltb-true i (length homes) is in
        let at = get_or_append_left homes (home_of s ∷ []) d i below in
        subst (λ x. AreHome (share_at (on.base + i) x) (of h (Wheel (on.base + i)))) (sym at) (on.home i d below)
    each on i d low false is =
        let above : length homes ≤ i = grind (arith, nat_tests, is) in
        let counted = on.counted in
        let first : i - length homes ≡ 0 = omega (arith, above, low) in
        let at = get_or-append_right homes (home_of s ∷ []) (length homes) i d refl above in
        let one : slice_index_or (homes ++ home_of s ∷ []) i d ≡ home_of s = at ∙ ap (λ k. slice_index_or (home_of s ∷ []) k d) first in
        let place : s.number ≡ on.base + i = omega (arith, above, low, counted) in
        subst (λ x. AreHome (share_at (on.base + i) x) (of h (Wheel (on.base + i)))) (sym one)
        (subst (λ w. AreHome (share_of w s.from s.to) (of h (Wheel w))) place home)

pub rejoined : (e t : Desk) (p q r : Pass) (s : Share) (seat : ℕ) (homes : List Home) (parts : AllParts) (own : ShardParts) → IsRest e p s.number s.from seat homes parts
    → AreShardPartsFit t q s own
    → settings_of t ≡ settings_of e → Belongs e r → actors_of r ≡ actors_of p ++ actors_of q → Joined (meeting (view_of p) (view_of q)) (front_of r)
    → Legal (settings_of e) (front_of r)
    → IsRest e r (s.number + 1) s.to seat (homes ++ home_of s ∷ []) (parts_of parts.keeper (parts.wheels ++ own.wheel ∷ []) (parts.inboxes ++ own.inbox ∷ []) (parts.mails ++ own.mails) (parts.scheds ++ own.sched ∷ []))
rejoined e t p q r s seat homes parts own rest fit same belongs actors joined legal =
    let g : Settings = settings_of e in
    let h : List Entry = front_of r in
    let holds : HoldsShare g (actors_of q) s = subst (λ x. HoldsShare x (actors_of q) s) same fit.holds in
    let stand : ShardPartsStand g (front_of q) s [] own = subst (λ x. ShardPartsStand x (front_of q) s [] own) same fit.stand in
    let left : (k : Actor) → IsActor g k → is_kept s.number s.from seat k ≡ true → of h k ≡ of (front_of p) k =
    λ k ranged kept. joined.own k (rest.holds.rest k ranged ∙ kept) in
    let back : (k : Actor) → IsActor g k → is_own s k ≡ true → of h k ≡ of (front_of q) k = λ k ranged mine. joined.other_own k (holds.own k ranged ∙ mine) in
    let most = rest.holds.most in
    let few = rest.holds.few in
    let low = holds.low in
    let high = holds.most in
    let ordered = holds.ordered in
    let counted = stand.mails.counted in
    record {
      belongs = belongs;
      holds = record {
        most = omega (arith, low);
        few = holds.most;
        seats = rest.holds.seats;
        callers = rest.holds.callers;
        rest = λ k ranged. ap (λ l. is_held l k) actors ∙ (list_any-append (λ b. same_actor b k) (actors_of p) (actors_of q)
            ∙ (ap (λ b. b || is_held (actors_of q) k) (rest.holds.rest k ranged) ∙ (ap (λ b. is_kept s.number s.from seat k || b) (holds.own k ranged)
            ∙ kept_more seat s k ordered)));
      };
      stand = record {
        legal = legal;
        keeper = keeper_on g (front_of p) h parts.keeper joined.begins (left Keeper tt refl) legal rest.stand.keeper;
        wheels = ordered_append (λ (x : Part). x.number) (WheelStands g h) Wheel s.number (s.number + 1) parts.wheels (own.wheel ∷ [])
            (ordered_kept (λ (x : Part). x.number) (WheelStands g (front_of p)) (WheelStands g h) Wheel s.number parts.wheels
            (λ x below stands. wheel_on g (front_of p) h x joined.begins (left (Wheel x.number) (omega (arith, below, most)) (grind (arith, nat_tests, below))) legal stands)
            rest.stand.wheels) refl
            (single (λ (x : Part). x.number) (WheelStands g h) s.number own.wheel stand.wheel_is
            (wheel_on g (front_of q) h own.wheel joined.other_begins
            (subst (λ n. of h (Wheel n) ≡ of (front_of q) (Wheel n)) (sym stand.wheel_is) (back (Wheel s.number) low (self_own s.number))) legal (stand.wheel refl)));
        inboxes = ordered_append (λ (x : Waiting). x.wheel) (InboxStands g h) Inbox s.number (s.number + 1) parts.inboxes (own.inbox ∷ [])
            (ordered_kept (λ (x : Waiting). x.wheel) (InboxStands g (front_of p)) (InboxStands g h) Inbox s.number parts.inboxes
            (λ x below stands. inbox_on g (front_of p) h x joined.begins (left (Inbox x.wheel) (omega (arith, below, most)) (grind (arith, nat_tests, below))) stands)
            rest.stand.inboxes) refl
            (single (λ (x : Waiting). x.wheel) (InboxStands g h) s.number own.inbox stand.inbox_is
            (inbox_on g (front_of q) h own.inbox joined.other_begins
            (subst (λ n. of h (Inbox n) ≡ of (front_of q) (Inbox n)) (sym stand.inbox_is) (back (Inbox s.number) low (self_own s.number))) (stand.inbox refl)));
        mails = ordered_append (λ (x : Mailbox). x.process) (MailStands g h) MailOf s.from s.to parts.mails own.mails
            (ordered_kept (λ (x : Mailbox). x.process) (MailStands g (front_of p)) (MailStands g h) MailOf s.from parts.mails
            (λ x below stands. mail_on g (front_of p) h x joined.begins (left (MailOf x.process) (omega (arith, below, few)) (grind (arith, nat_tests, below))) stands)
            rest.stand.mails) counted
            (λ i d below.
            let named = stand.mails.named i d below in
            let home : IsHome s (s.from + i) = (omega arith, omega (arith, below, counted)) in
            let ranged : s.from + i < g.processes = omega (arith, below, counted, high) in (
              named,
              mail_on g (front_of q) h (slice_index_or own.mails i d) joined.other_begins
                  (subst (λ n. of h (MailOf n) ≡ of (front_of q) (MailOf n)) (sym named) (back (MailOf (s.from + i)) ranged (home_own s (s.from + i) home)))
                  (stand.mails.stand i d below refl),
            ));
        scheds = ordered_append (λ (x : SchedPart). x.wheel) (SchedStands g h) Sched s.number (s.number + 1) parts.scheds (own.sched ∷ [])
            (ordered_kept (λ (x : SchedPart). x.wheel) (SchedStands g (front_of p)) (SchedStands g h) Sched s.number parts.scheds
            (λ x below stands. sched_on g (front_of p) h x joined.begins (left (Sched x.wheel) (omega (arith, below, most)) (grind (arith, nat_tests, below))) stands)
            rest.stand.scheds) refl
            (single (λ (x : SchedPart). x.wheel) (SchedStands g h) s.number own.sched stand.sched_is
            (sched_on g (front_of q) h own.sched joined.other_begins
            (subst (λ n. of h (Sched n) ≡ of (front_of q) (Sched n)) (sym stand.sched_is) (back (Sched s.number) low (self_own s.number))) (stand.sched refl)));
      };
      home = homes_more (front_of p) h s homes rest.home (λ w below. left (Wheel w) (omega (arith, below, most)) (grind (arith, nat_tests, below)))
          (subst (AreHome s) (sym (back (Wheel s.number) low (self_own s.number))) fit.home);
    }

-- the same, of what a call finds
pub rejoined_at : (e t : Desk) (p q r : Pass) (left first seat : ℕ) (homes : List Home) (s : Share) (parts : AllParts) (own : ShardParts) (new : AllParts) (after : List Home)
    → IsRest e p left first seat homes parts → AreShardPartsFit t q s own → s.number ≡ left → s.from ≡ first
    → settings_of t ≡ settings_of e → Belongs e r → actors_of r ≡ actors_of p ++ actors_of q → Joined (meeting (view_of p) (view_of q)) (front_of r)
    → Legal (settings_of e) (front_of r) → new.wheels ≡ parts.wheels ++ own.wheel ∷ [] → new.inboxes ≡ parts.inboxes ++ own.inbox ∷ []
    → new.mails ≡ parts.mails ++ own.mails → new.scheds ≡ parts.scheds ++ own.sched ∷ [] → after ≡ homes ++ home_of s ∷ []
    → IsRest e r (s.number + 1) s.to seat after (parts_of parts.keeper new.wheels new.inboxes new.mails new.scheds)
rejoined_at e t p q r left first seat homes s parts own new after rest fit at from same belongs actors joined legal wheels inboxes mails scheds came =
    rw (wheels, inboxes, mails, scheds, came)
    (rejoined e t p q r s seat homes parts own
    (subst (λ n. IsRest e p n s.from seat homes parts) (sym at) (subst (λ n. IsRest e p left n seat homes parts) (sym from) rest)) fit same belongs actors joined legal)
