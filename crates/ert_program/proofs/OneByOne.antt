-- A race has an outcome: all of its threads act one after the other.

use Rattle.std.proofs.Common.{◌≡◌, ℕ, zero, suc, ◌+◌, ◌<◌, ◌≤◌, Bool, true, false, nat_lt, nat_eq, List, [], ◌∷◌, ◌++◌, length, None, Ok, inl, inr, refl, sym, ap, ◌∙◌, subst, append_assoc, append-nil, arith}
use Rattle.std.proofs.lemmas.Bool.Decides.{nat_tests}
use Rattle.ert_defs.specs.{Actors.{same_actor, IsFree, IsUser}, Legal.Legal, Settings.IsChecked, States.state, declared.entry.Actor.Actor, declared.entry.Actor.TheVariants.{Sched, Caller}, declared.entry.Entry.Entry}
use Rattle.ert_defs.specs.{declared.settings.Settings.Settings}
use Rattle.ert_effects.specs.{Chains.Turns, Ways.{Growth, Many, alone, beside}, declared.answers.Turned.Turned}
use Rattle.ert_laws.specs.Counts.{counts_of}
use Rattle.ert_ops.specs.{Races.{MayDo, MayDoAll, lists_of}, Ranges.AreOpsInRange, declared.op.Op.Op, Existence.CanFollow, Labels.Labels, Scripts.Script}
use Rattle.ert_ops.proofs.{Following.{legal_with, follow_none, follow_then}, PossibleOps.can_run, PossibleTurns.possible_turn}
use Rattle.ert_program.proofs.{Apart.free_of_other, Delays.{Late, Delays}, Makings.makers, OpsBeside.{delay_script, script_adds}, TurnsBeside.delay_turns}
use Rattle.ert_table.proofs.Holders.{free-append}
use Rattle.ert_program.specs.{Existence.LawOfOutcomes, Made.{MakesInStretch, MakesTurns, RoundOfTurns, MakesRound}, Outcomes.{DoesList, DoLists, ActAtOnce}, Reports.{Did, report}}

-- what came late is made in the stretch, where what comes after is free of the actor
makes_late : (a : Actor) (call : Growth) (h x m after : List Entry) → Late call h x m → IsFree x a → IsFree after a → MakesInStretch a call h (x ++ (m ++ after))
makes_late a call h x m after (inl made) before free = record {
  pieces = x ++ m;
  after = after;
  parted = sym (append_assoc x m after);
  made = made;
  away = free;
}
makes_late a call h x m after (inr none) before free = record {
  pieces = [];
  after = x ++ (m ++ after);
  parted = refl;
  made = none.1;
  away = free-append x (m ++ after) a before (subst (λ (l : List Entry). IsFree (l ++ after) a) (sym none.0) free);
}

-- what is possible after a history, as one user makes it beside others
record Acts (g : Settings) (a : Actor) (call : Growth) (h x p : List Entry) : Type 0 where
  piece : List Entry
  late : Late call h x piece
  legal : Legal g (p ++ piece)
  idle : (state g (p ++ piece)).clock.due ≡ None
  apart : (b : Actor) → IsUser g b → same_actor a b ≡ false → IsFree piece b

acts : (g : Settings) (a : Actor) (one other : Growth) (h x p : List Entry) → Legal g p → (state g p).clock.due ≡ None → IsUser g a
    → p ≡ h ++ x → IsFree x a → Delays a one other → CanFollow g p one → Acts g a other h x p
acts g a one other h x p legal idle user is free delays can =
    let both = delays h x p can.piece is free can.made in
    record {
      piece = can.piece;
      late = both.0;
      legal = legal_with g p one legal can;
      idle = can.undue idle;
      apart = λ b ranged differ. free_of_other g (state g p) can.piece a b can.legal user ranged differ both.1;
    }

may_in_range : (g : Settings) (list : List Op) → MayDo g list → AreOpsInRange g list
may_in_range g [] may = tt
may_in_range g (op ∷ list) may = (may.1, may_in_range g list may.2)

-- a caller does its list

record DoesOne (g : Settings) (labels : Labels) (k : ℕ) (list : List Op) (h x p : List Entry) : Type 0 where
  did : Did
  acts_so : Acts g (Caller k) (Script g (beside g (Caller k)) k labels list did.replies (labels ++ did.own)) h x p

do_one : (g : Settings) (labels : Labels) (k : ℕ) (list : List Op) (h x p : List Entry) → IsChecked g → k < g.callers → MayDo g list → Legal g p
    → (state g p).clock.due ≡ None → p ≡ h ++ x → IsFree x (Caller k) → DoesOne g labels k list h x p
do_one g labels k list h x p checked low may legal idle is free =
    let run = can_run g k p labels list checked low legal idle (may_in_range g list may) in
    let adds = script_adds g (alone g) k labels list run.replies_are run.after p run.piece run.runs in
    let runs = subst (λ (l : Labels). Script g (alone g) k labels list run.replies_are l p run.piece) adds.added run.runs in
    record {
      did = record { replies = run.replies_are; own = adds.own };
      acts_so = acts g (Caller k) (Script g (alone g) k labels list run.replies_are (labels ++ adds.own))
          (Script g (beside g (Caller k)) k labels list run.replies_are (labels ++ adds.own)) h x p legal idle low is free
          (delay_script g k labels list run.replies_are (labels ++ adds.own) may)
          (record { piece = run.piece; made = runs; legal = run.legal; undue = λ none. run.undue });
    }

-- each caller from one on does its list, one after the other

record DoEach (g : Settings) (labels : Labels) (k : ℕ) (lists : List (List Op)) (h x p : List Entry) : Type 0 where
  dids : List Did
  piece : List Entry
  does : (after : List Entry) → ((n : ℕ) → n < g.callers → IsFree after (Caller n)) → DoLists g labels k lists dids h (x ++ (piece ++ after))
  legal : Legal g (p ++ piece)
  idle : (state g (p ++ piece)).clock.due ≡ None
  apart : (b : Actor) → IsUser g b → ((n : ℕ) → k ≤ n → same_actor (Caller n) b ≡ false) → IsFree piece b

differs : (m n : ℕ) → suc n ≤ m → nat_eq m n ≡ false
differs m n more = at (nat_eq m n) refl
  where
    at : (b : Bool) → nat_eq m n ≡ b → nat_eq m n ≡ false
    at true is = absurd (grind (arith, nat_tests))
    at false is = is

differs_back : (m n : ℕ) → suc m ≤ n → nat_eq m n ≡ false
differs_back m n more = at (nat_eq m n) refl
  where
    at : (b : Bool) → nat_eq m n ≡ b → nat_eq m n ≡ false
    at true is = absurd (grind (arith, nat_tests))
    at false is = is

-- a history grows by a piece more
place_more : (h x p m : List Entry) → p ≡ h ++ x → p ++ m ≡ h ++ (x ++ m)
place_more h x p m is = ap (λ (l : List Entry). l ++ m) is ∙ append_assoc h x m

do_each : (g : Settings) (labels : Labels) (k : ℕ) (lists : List (List Op)) (h x p : List Entry) → IsChecked g → k + length lists ≤ g.callers → MayDoAll g lists
    → Legal g p → (state g p).clock.due ≡ None → p ≡ h ++ x → ((n : ℕ) → k ≤ n → n < g.callers → IsFree x (Caller n)) → DoEach g labels k lists h x p
do_each g labels k [] h x p checked low may legal idle is free = record {
  dids = [];
  piece = [];
  does = λ after others. tt;
  legal = subst (Legal g) (sym (append-nil p)) legal;
  idle = subst (λ (l : List Entry). (state g l).clock.due ≡ None) (sym (append-nil p)) idle;
  apart = λ b user others. refl;
}
do_each g labels k (list ∷ lists) h x p checked low may legal idle is free =
    let here : k < g.callers = omega (arith, low) in
    let one = do_one g labels k list h x p checked here may.0 legal idle is (free k (omega arith) here) in
    let a = one.acts_so in
    let more = do_each g labels (suc k) lists h (x ++ a.piece) (p ++ a.piece) checked (omega (arith, low)) may.1 a.legal a.idle (place_more h x p a.piece is)
    (λ n above below. free-append x a.piece (Caller n) (free n (omega (arith, above)) below) (a.apart (Caller n) below (differs_back k n above))) in
    record {
      dids = one.did ∷ more.dids;
      piece = a.piece ++ more.piece;
      does = λ after others. (
        subst (λ (l : List Entry). DoesList g labels k list one.did h (x ++ l)) (sym (append_assoc a.piece more.piece after))
            (makes_late (Caller k) (Script g (beside g (Caller k)) k labels list one.did.replies (labels ++ one.did.own)) h x a.piece (more.piece ++ after) a.late
            (free k (omega arith) here)
            (free-append more.piece after (Caller k) (more.apart (Caller k) here (λ n above. differs n k above)) (others k here))),
        subst (λ (l : List Entry). DoLists g labels (suc k) lists more.dids h l)
            (append_assoc x a.piece (more.piece ++ after) ∙ ap (λ (l : List Entry). x ++ l) (sym (append_assoc a.piece more.piece after)))
            (more.does after others),
      );
      legal = subst (Legal g) (append_assoc p a.piece more.piece) more.legal;
      idle = subst (λ (l : List Entry). (state g l).clock.due ≡ None) (append_assoc p a.piece more.piece) more.idle;
      apart = λ b user others. free-append a.piece more.piece b (a.apart b user (others k (omega arith))) (more.apart b user (λ n above. others n (omega (arith, above))));
    }

-- so many schedulers from one on make their turns, one after the other

some_turns : (g : Settings) (w count : ℕ) (p : List Entry) → IsChecked g → w < g.schedulers → Legal g p
    → (turns : List Turned) × (length turns ≡ count) × CanFollow g p (Many (λ (t : Turned). Turns g (alone g) w (Ok t)) turns)
some_turns g w zero p checked low legal = ([], refl, follow_none g p (Many (λ (t : Turned). Turns g (alone g) w (Ok t)) []) refl)
some_turns g w (suc count) p checked low legal =
    let call = λ (t : Turned). Turns g (alone g) w (Ok t) in
    let one = possible_turn g p w checked legal low in
    let more = some_turns g w count (p ++ one.1.piece) checked low (legal_with g p (call one.0) legal one.1) in
    (one.0 ∷ more.0, ap (λ (n : ℕ). suc n) more.1, follow_then g p (call one.0) (Many call more.0) one.1 more.2)

record TurnEach (g : Settings) (count w many : ℕ) (h x p : List Entry) : Type 0 where
  piece : List Entry
  makes : (v : ℕ) → w ≤ v → v < w + many → MakesTurns g v count h (x ++ piece)
  legal : Legal g (p ++ piece)
  idle : (state g (p ++ piece)).clock.due ≡ None
  apart : (b : Actor) → IsUser g b → ((v : ℕ) → w ≤ v → same_actor (Sched v) b ≡ false) → IsFree piece b

turn_each : (g : Settings) (count w many : ℕ) (h x p : List Entry) → IsChecked g → w + many ≤ g.schedulers → Legal g p
    → (state g p).clock.due ≡ None → p ≡ h ++ x → ((v : ℕ) → w ≤ v → v < g.schedulers → IsFree x (Sched v)) → TurnEach g count w many h x p
turn_each g count w zero h x p checked low legal idle is free = record {
  piece = [];
  makes = λ v above below. absurd (omega (arith, above, below));
  legal = subst (Legal g) (sym (append-nil p)) legal;
  idle = subst (λ (l : List Entry). (state g l).clock.due ≡ None) (sym (append-nil p)) idle;
  apart = λ b user others. refl;
}
turn_each g count w (suc many) h x p checked low legal idle is free =
    let here : w < g.schedulers = omega (arith, low) in
    let some = some_turns g w count p checked here legal in
    let call = Many (λ (t : Turned). Turns g (beside g (Sched w)) w (Ok t)) some.0 in
    let a = acts g (Sched w) (Many (λ (t : Turned). Turns g (alone g) w (Ok t)) some.0) call h x p legal idle here is (free w (omega arith) here)
    (delay_turns g w some.0) some.2 in
    let more = turn_each g count (suc w) many h (x ++ a.piece) (p ++ a.piece) checked (omega (arith, low)) a.legal a.idle (place_more h x p a.piece is)
    (λ v above below. free-append x a.piece (Sched v) (free v (omega (arith, above)) below) (a.apart (Sched v) below (differs_back w v above))) in
    let mine : MakesTurns g w count h (x ++ (a.piece ++ more.piece)) = record {
      turns = some.0;
      counted = some.1;
      makes = makes_late (Sched w) call h x a.piece more.piece a.late (free w (omega arith) here) (more.apart (Sched w) here (λ v above. differs v w above));
    } in
    record {
      piece = a.piece ++ more.piece;
      makes = λ v above below. split v above below mine
          (λ higher. subst (λ (l : List Entry). MakesTurns g v count h l) (append_assoc x a.piece more.piece) (more.makes v higher (omega (arith, below))));
      legal = subst (Legal g) (append_assoc p a.piece more.piece) more.legal;
      idle = subst (λ (l : List Entry). (state g l).clock.due ≡ None) (append_assoc p a.piece more.piece) more.idle;
      apart = λ b user others. free-append a.piece more.piece b (a.apart b user (others w (omega arith))) (more.apart b user (λ v above. others v (omega (arith, above))));
    }
  where
    split : (v : ℕ) {l : List Entry} → w ≤ v → v < w + suc many → MakesTurns g w count h l → (suc w ≤ v → MakesTurns g v count h l) → MakesTurns g v count h l
    split v {l} above below first rest = at (nat_lt w v) refl
      where
        at : (b : Bool) → nat_lt w v ≡ b → MakesTurns g v count h l
        at true is = rest (grind (arith, nat_tests))
        at false is =
            let same : w ≡ v = grind (arith, nat_tests) in subst (λ (n : ℕ). MakesTurns g n count h l) same first

-- and then each makes one turn more, alone
round_after : (g : Settings) (w many : ℕ) (p : List Entry) → IsChecked g → w + many ≤ g.schedulers → Legal g p
    → (turns : List Turned) × (length turns ≡ many) × CanFollow g p (RoundOfTurns g w turns)
round_after g w zero p checked low legal = ([], refl, follow_none g p (RoundOfTurns g w []) refl)
round_after g w (suc many) p checked low legal =
    let one = possible_turn g p w checked legal (omega (arith, low)) in
    let more = round_after g (suc w) many (p ++ one.1.piece) checked (omega (arith, low)) (legal_with g p (Turns g (alone g) w (Ok one.0)) legal one.1) in
    (one.0 ∷ more.0, ap (λ (n : ℕ). suc n) more.1, follow_then g p (Turns g (alone g) w (Ok one.0)) (RoundOfTurns g (suc w) more.0) one.1 more.2)

pub races_have_outcomes : LawOfOutcomes
races_have_outcomes g ops race checked ranged is =
    let run = can_run g 0 [] [] ops checked checked.counts.callers_low tt refl ranged in
    let first : List Entry = run.piece in
    let lists = do_each g run.after 0 (lists_of race) first [] first checked (omega (arith, is.callers)) is.threads run.legal run.undue (sym (append-nil first)) (λ n above below. refl) in
    let scheds = turn_each g race.turns 0 g.schedulers first lists.piece (first ++ lists.piece) checked (omega arith) lists.legal lists.idle refl
    (λ v above below. lists.apart (Sched v) below (λ n above. refl)) in
    let stretch : List Entry = lists.piece ++ scheds.piece in
    let round = round_after g 0 g.schedulers ((first ++ lists.piece) ++ scheds.piece) checked (omega arith) scheds.legal in
    let place : (first ++ lists.piece) ++ scheds.piece ≡ first ++ stretch = append_assoc first lists.piece scheds.piece in
    let later : List Entry = stretch ++ round.2.piece in
    let h : List Entry = first ++ later in
    let legal_stretch : Legal g (first ++ stretch) = subst (Legal g) place scheds.legal in
    let legal : Legal g h =
    subst (Legal g) (ap (λ (l : List Entry). l ++ round.2.piece) place ∙ append_assoc first stretch round.2.piece)
    (legal_with g ((first ++ lists.piece) ++ scheds.piece) (RoundOfTurns g 0 round.0) scheds.legal round.2) in
    let at_once : ActAtOnce g run.after race lists.dids first stretch = record {
      done = lists.does scheds.piece (λ n low. scheds.apart (Caller n) low (λ v above. refl));
      turned = λ w low. scheds.makes w (omega arith) (omega (arith, low));
      makers = makers g first stretch legal_stretch;
    } in
    let last : MakesRound g g.schedulers (first ++ stretch) round.2.piece = record {
      turns = round.0;
      counted = round.1;
      made = subst (λ (l : List Entry). RoundOfTurns g 0 round.0 l round.2.piece) place round.2.made;
    } in
    let text : List ℕ = report ops run.replies_are run.after lists.dids (counts_of g (state g h)) (state g h).clock.now in (
      h,
      text,
      record {
        legal = legal;
        first = first;
        later = later;
        parted = refl;
        replies = run.replies_are;
        labels = run.after;
        began = run.runs;
        dids = lists.dids;
        raced = record { before = stretch; after = round.2.piece; joined = refl; one = at_once; other = last };
        reads = refl;
      },
    )
