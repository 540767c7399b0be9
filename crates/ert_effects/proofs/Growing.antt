-- Histories that grow by calls, one after the other, and the entries of an actor in a piece.

use Rattle.std.proofs.Common.{◌≡◌, Bool, true, false, ◌||◌, List, [], ◌∷◌, ◌++◌, filter, refl, sym, ap, subst, ◌∙◌, append-nil, append_assoc}
use Rattle.std.proofs.lemmas.List.Elements.{filter-append}
use Rattle.ert_defs.specs.{Actors.has_actor, Entries.is_ours, declared.entry.Actor.Actor, declared.entry.Entry.Entry, declared.settings.Settings.Settings}
use Rattle.ert_effects.specs.Ways.{Step, Growth, Whole, Then, Many, Grows}

-- a history that grows by one call and then by another
pub grows_then : (first second : Growth) (f h k : List Entry) → Grows first f h → Grows second h k → Grows (Then first second) f k
grows_then first second f h k one other = record {
  piece = one.piece ++ other.piece;
  grown = other.grown ∙ (ap (λ l. l ++ other.piece) one.grown ∙ append_assoc f one.piece other.piece);
  made = record {
    before = one.piece;
    after = other.piece;
    joined = refl;
    one = one.made;
    other = subst (λ l. second l other.piece) one.grown other.made;
  };
}

-- a call is another where each of its pieces is one of that
pub grows_as : (call other : Growth) (f h : List Entry) → ((m : List Entry) → call f m → other f m) → Grows call f h → Grows other f h
grows_as call other f h as_other grows = record { piece = grows.piece; grown = grows.grown; made = as_other grows.piece grows.made }

-- one call more
pub many_more : {A : Type 0} (call : A → Growth) (answers : List A) (answer : A) (h m n : List Entry) → Many call answers h m
    → call answer (h ++ m) n → Many call (answers ++ answer ∷ []) h (m ++ n)
many_more call [] answer h m n none one = record {
  before = n;
  after = [];
  joined = ap (λ l. l ++ n) none ∙ sym (append-nil n);
  one = subst (λ l. call answer l n) (ap (λ l. h ++ l) none ∙ append-nil h) one;
  other = refl;
}
many_more call (first ∷ answers) answer h m n many one =
    let place : h ++ m ≡ (h ++ many.before) ++ many.after = ap (λ l. h ++ l) many.joined ∙ sym (append_assoc h many.before many.after) in
    record {
      before = many.before;
      after = many.after ++ n;
      joined = ap (λ l. l ++ n) many.joined ∙ append_assoc many.before many.after n;
      one = many.one;
      other = many_more call answers answer (h ++ many.before) many.after n many.other (subst (λ l. call answer l n) place one);
    }

pub grows_more : {A : Type 0} (call : A → Growth) (answers : List A) (answer : A) (f h k : List Entry) → Grows (Many call answers) f h
    → Grows (call answer) h k → Grows (Many call (answers ++ answer ∷ [])) f k
grows_more call answers answer f h k many one = record {
  piece = many.piece ++ one.piece;
  grown = one.grown ∙ (ap (λ l. l ++ one.piece) many.grown ∙ append_assoc f many.piece one.piece);
  made = many_more call answers answer f many.piece one.piece many.made (subst (λ l. call answer l one.piece) many.grown one.made);
}

-- what passes the narrower of two tests is the same in a list and in what passes the wider one
pub filter_within : {X : Type 0} (narrow wide : X → Bool) → ((x : X) → narrow x ≡ true → wide x ≡ true) → (xs : List X)
    → filter narrow (filter wide xs) ≡ filter narrow xs
filter_within narrow wide within [] = refl
filter_within narrow wide within (x ∷ xs) = at (wide x) (narrow x) refl refl (filter_within narrow wide within xs)
  where
    at : (w n : Bool) → wide x ≡ w → narrow x ≡ n → filter narrow (filter wide xs) ≡ filter narrow xs
        → filter narrow (filter wide (x ∷ xs)) ≡ filter narrow (x ∷ xs)
    at true true is_wide is_narrow rest = rw (is_wide, is_narrow) (ap (λ l. x ∷ l) rest)
    at true false is_wide is_narrow rest = rw (is_wide, is_narrow) rest
    at false true is_wide is_narrow rest =
        let no : true ≡ false = sym (within x is_narrow) ∙ is_wide in absurd cc
    at false false is_wide is_narrow rest = rw (is_wide, is_narrow) rest

-- an entry of an actor is one of more actors
among : (parts : List Actor) (a : Actor) (e : Entry) → is_ours (a ∷ []) e ≡ true → is_ours (parts ++ a ∷ []) e ≡ true
among [] a e mine = mine
among (p ∷ parts) a e mine = at (has_actor e p) (among parts a e mine)
  where
    at : (b : Bool) → is_ours (parts ++ a ∷ []) e ≡ true → (b || is_ours (parts ++ a ∷ []) e) ≡ true
    at true rest = refl
    at false rest = rest

-- the entries that the actor of a whole step has in the piece are the step's
pub whole_own : (g : Settings) (a : Actor) (parts : List Actor) (allows : Step) (h m : List Entry) (step : Whole g a parts allows h m)
    → filter (is_ours (a ∷ [])) m ≡ step.entries
whole_own g a parts allows h m step =
    let own = λ (l : List Entry). filter (is_ours (a ∷ [])) l in
    let during : own step.during ≡ step.entries =
    sym (filter_within (is_ours (a ∷ [])) (is_ours (parts ++ a ∷ [])) (among parts a) step.during) ∙ (ap own step.whole ∙ step.own) in
    ap own step.parted ∙ (filter-append (is_ours (a ∷ [])) step.before step.during
    ∙ (ap (λ l. l ++ own step.during) step.away ∙ during))
