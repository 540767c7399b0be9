-- The last turns of a race: one turn more of a round, and as far as they have come.

use Rattle.std.proofs.Common.{◌≡◌, ℕ, suc, ◌+◌, List, [], ◌∷◌, ◌++◌, length, Ok, refl, sym, ap, subst, ◌∙◌, arith, append-nil, append_assoc, length-append, ◌<◌, ◌≤◌}
use Rattle.ert_effects.specs.{Chains.Turns, Ways.{Grows, alone}, declared.answers.Turned.Turned}
use Rattle.ert_defs.specs.declared.{entry.Entry.Entry, settings.Settings.Settings}
use Rattle.ert_program.specs.{Made.{RoundOfTurns, MakesRound}, Outcomes.ActAtOnce, Reports.Did, Ends.{RunsAtOnce, EndsRound, RacesTo}}
use Rattle.ert_effects.proofs.Growing.{grows_then}
use Rattle.ert_ops.specs.{Races.Race, Labels.Labels}
use Rattle.ert_world.specs.Worlds.{Seen, Goes}

-- the number of the next scheduler
at_first : (w : ℕ) → w + 0 ≡ w
at_first w = omega arith

at_next : (w n : ℕ) → w + suc n ≡ suc w + n
at_next w n = omega arith

round_more : (g : Settings) (w : ℕ) (turns : List Turned) (t : Turned) (h m n : List Entry) → RoundOfTurns g w turns h m
    → Turns g (alone g) (w + length turns) (Ok t) (h ++ m) n → RoundOfTurns g w (turns ++ t ∷ []) h (m ++ n)
round_more g w [] t h m n none one = record {
  before = n;
  after = [];
  joined = ap (λ l. l ++ n) none ∙ sym (append-nil n);
  one = subst (λ l. Turns g (alone g) w (Ok t) l n) (ap (λ l. h ++ l) none ∙ append-nil h)
      (subst (λ k. Turns g (alone g) k (Ok t) (h ++ m) n) (at_first w) one);
  other = refl;
}
round_more g w (first ∷ turns) t h m n round one =
    let place : h ++ m ≡ (h ++ round.before) ++ round.after = ap (λ l. h ++ l) round.joined ∙ sym (append_assoc h round.before round.after) in
    record {
      before = round.before;
      after = round.after ++ n;
      joined = ap (λ l. l ++ n) round.joined ∙ append_assoc round.before round.after n;
      one = round.one;
      other = round_more g (suc w) turns t (h ++ round.before) round.after n round.other
          (subst (λ l. Turns g (alone g) (suc w + length turns) (Ok t) l n) place
          (subst (λ k. Turns g (alone g) k (Ok t) (h ++ m) n) (at_next w (length turns)) one));
    }

-- no turn, and one more
round_none : (g : Settings) (f : List Entry) → Grows (MakesRound g 0) f f
round_none g f = record { piece = []; grown = sym (append-nil f); made = record { turns = []; counted = refl; made = refl } }

round_then : (g : Settings) (n : ℕ) (t : Turned) (f h k : List Entry) → Grows (MakesRound g n) f h
    → Grows (Turns g (alone g) n (Ok t)) h k → Grows (MakesRound g (n + 1)) f k
round_then g n t f h k round one = record {
  piece = round.piece ++ one.piece;
  grown = one.grown ∙ (ap (λ l. l ++ one.piece) round.grown ∙ append_assoc f round.piece one.piece);
  made = record {
    turns = round.made.turns ++ t ∷ [];
    counted = length-append round.made.turns (t ∷ []) ∙ ap (λ i. i + 1) round.made.counted;
    made = round_more g 0 round.made.turns t f round.piece one.piece round.made.made
        (subst (λ k. Turns g (alone g) k (Ok t) (f ++ round.piece) one.piece) (from_zero n (length round.made.turns) round.made.counted)
        (subst (λ l. Turns g (alone g) n (Ok t) l one.piece) round.grown one.made));
  };
}
  where
    from_zero : (n i : ℕ) → i ≡ n → n ≡ 0 + i
    from_zero n i is = omega (arith, is)

-- so many schedulers have made their last turn
pub record IsRoundSoFar (start : Seen) (n : ℕ) (w : Seen) : Type 0 where
  pub grows : Grows (MakesRound start.settings n) start.history w.history
  pub settings : w.settings ≡ start.settings
  pub next : w.next ≡ start.next
  pub low : n ≤ start.settings.schedulers

pub so_far_first : (w : Seen) → IsRoundSoFar w 0 w
so_far_first w = record {
  grows = round_none w.settings w.history;
  settings = refl;
  next = refl;
  low = omega arith;
}

-- one scheduler more
pub so_far_more : (start v w : Seen) (n : ℕ) (t : Turned) → start.next ≡ 1 → n < start.settings.schedulers → IsRoundSoFar start n v
    → Goes v (λ way. Turns v.settings way n (Ok t)) w → IsRoundSoFar start (n + 1) w
so_far_more start v w n t alone_is low far goes = record {
  grows = round_then start.settings n t start.history v.history w.history far.grows
      (subst (λ (g : Settings). Grows (Turns g (alone g) n (Ok t)) v.history w.history) far.settings (goes.lone (far.next ∙ alone_is)));
  settings = goes.settings ∙ far.settings;
  next = goes.next ∙ far.next;
  low = omega (arith, low);
}

pub ends : (start w : Seen) (n : ℕ) → start.settings.schedulers ≤ n → IsRoundSoFar start n w → EndsRound start w
ends start w n over far =
    let all : n ≡ start.settings.schedulers = omega (arith, over, far.low) in
    record {
      grows = subst (λ k. Grows (MakesRound start.settings k) start.history w.history) all far.grows;
      settings = far.settings;
      next = far.next;
    }

-- a race is what all do at once, and then the last turns
pub races_to : (old seen v w : Seen) (labels : Labels) (race : Race) (dids : List Did) → old ≡ record seen { turns = old.turns } → RunsAtOnce seen labels race dids v → EndsRound v w
    → RacesTo old labels race dids w
races_to old seen v w labels race dids same one last =
    subst (λ (s : Seen). RacesTo s labels race dids w) (sym same)
    (record {
      grows = grows_then (ActAtOnce seen.settings labels race dids) (MakesRound seen.settings seen.settings.schedulers) seen.history v.history w.history one.grows
          (subst (λ (g : Settings). Grows (MakesRound g g.schedulers) v.history w.history) one.settings last.grows);
      settings = last.settings ∙ one.settings;
      next = last.next ∙ one.next;
    })
