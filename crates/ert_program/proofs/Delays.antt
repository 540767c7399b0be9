-- What one thread does after others is done beside them: their entries come before its first step.

use Rattle.std.proofs.Common.{◌≡◌, ◌⊎◌, Bool, true, false, List, [], ◌∷◌, ◌++◌, inl, inr, refl, sym, ap, ◌∙◌, subst, append_assoc, append-nil}
use Rattle.ert_defs.specs.{Actors.{has_actor, of, IsFree}, Entries.is_ours, States.{State, state}, declared.entry.Actor.Actor, declared.entry.Entry.Entry, declared.settings.Settings.Settings}
use Rattle.ert_effects.specs.Ways.{Step, Growth, Whole, Then, Many, alone, beside}
use Rattle.ert_program.proofs.Having.{as_these, have-append}
use Rattle.ert_locks.specs.Lent.{AllHave}
use Rattle.std.specs.Prelude.{filter, ◌||◌, cond}

-- a call comes after what others did, or nothing was done
abbrev pub Late : Growth → List Entry → List Entry → List Entry → Type 0
Late call h x m = call h (x ++ m) ⊎ ((m ≡ []) × call h [])

-- a call of one thread is one beside others, who made the entries x since the actor's last step
abbrev pub Delays : Actor → Growth → Growth → Type 0
Delays a one other = (h x p m : List Entry) → p ≡ h ++ x → IsFree x a → one p m → Late other h x m × AllHave a m

or_none : (b : Bool) → (b || false) ≡ b
or_none true = refl
or_none false = refl

ours_one : (a : Actor) (m : List Entry) → filter (is_ours (a ∷ [])) m ≡ of m a
ours_one a [] = refl
ours_one a (e ∷ m) = rw (or_none (has_actor e a)) (ap (λ l. cond (has_actor e a) (e ∷ l) l) (ours_one a m))

ours_more : (parts : List Actor) (a : Actor) (e : Entry) → has_actor e a ≡ true → is_ours (parts ++ a ∷ []) e ≡ true
ours_more [] a e mine = rw mine refl
ours_more (p ∷ parts) a e mine = at (has_actor e p) (ours_more parts a e mine)
  where
    at : (b : Bool) → is_ours (parts ++ a ∷ []) e ≡ true → (b || is_ours (parts ++ a ∷ []) e) ≡ true
    at true rest = refl
    at false rest = rest

all_ours : (parts : List Actor) (a : Actor) (m : List Entry) → AllHave a m → filter (is_ours (parts ++ a ∷ [])) m ≡ m
all_ours parts a [] have = refl
all_ours parts a (e ∷ m) have = rw (ours_more parts a e have.0) (ap (λ l. e ∷ l) (all_ours parts a m have.1))

-- a step of one thread is one beside others
pub step_beside : (g : Settings) (a : Actor) (parts : List Actor) (allows : Step) → ((s : State) (es : List Entry) → allows s es → AllHave a es)
    → (h x p m : List Entry) → p ≡ h ++ x → IsFree x a → alone g parts allows p m → beside g a parts allows h (x ++ m) × AllHave a m
step_beside g a parts allows own h x p m is free made =
    let have : AllHave a m = own (state g p) m made in
    let step : Whole g a parts allows h (x ++ m) = record {
      before = x;
      during = m;
      entries = m;
      parted = refl;
      away = ours_one a x ∙ free;
      whole = all_ours parts a m have;
      own = all_ours [] a m have;
      allowed = subst (λ (l : List Entry). allows (state g l) m) is made;
    } in
    (step, have)

pub delay_step : (g : Settings) (a : Actor) (parts : List Actor) (allows : Step) → ((s : State) (es : List Entry) → allows s es → AllHave a es)
    → Delays a (alone g parts allows) (beside g a parts allows)
delay_step g a parts allows own h x p m is free made = let step = step_beside g a parts allows own h x p m is free made in (inl step.0, step.1)

-- one call after another, where the first made a step
after_first : (first second : Growth) (h x m n : List Entry) → first h (x ++ m) → Late second (h ++ (x ++ m)) [] n → Then first second h (x ++ (m ++ n))
after_first first second h x m n one (inl made) = record { before = x ++ m; after = n; joined = sym (append_assoc x m n); one = one; other = made }
after_first first second h x m n one (inr none) = record {
  before = x ++ m;
  after = [];
  joined = ap (λ (l : List Entry). x ++ (m ++ l)) none.0 ∙ sym (append_assoc x m []);
  one = one;
  other = none.1;
}

-- and where it made none
after_none : (first second : Growth) (h x m n : List Entry) → m ≡ [] → first h [] → Late second (h ++ []) x n → Late (Then first second) h x (m ++ n)
after_none first second h x m n nothing one (inl made) =
    inl (record { before = []; after = x ++ n; joined = ap (λ (l : List Entry). x ++ (l ++ n)) nothing; one = one; other = made })
after_none first second h x m n nothing one (inr none) =
    inr (ap (λ (l : List Entry). l ++ n) nothing ∙ none.0, record { before = []; after = []; joined = refl; one = one; other = none.1 })

pub then_late : (first second : Growth) (h x m n : List Entry) → Late first h x m
    → ((k y : List Entry) → k ++ y ≡ (h ++ x) ++ m → (y ≡ []) ⊎ (y ≡ x) → Late second k y n) → Late (Then first second) h x (m ++ n)
then_late first second h x m n (inl one) more =
    inl (after_first first second h x m n one (more (h ++ (x ++ m)) [] (append-nil (h ++ (x ++ m)) ∙ sym (append_assoc h x m)) (inl refl)))
then_late first second h x m n (inr none) more =
    after_none first second h x m n none.0 none.1
    (more (h ++ []) x (ap (λ (l : List Entry). l ++ x) (append-nil h) ∙ (sym (append-nil (h ++ x)) ∙ ap (λ (l : List Entry). (h ++ x) ++ l) (sym none.0))) (inr refl))

free_either : (a : Actor) (x y : List Entry) → IsFree x a → (y ≡ []) ⊎ (y ≡ x) → IsFree y a
free_either a x y free (inl none) = subst (λ (l : List Entry). IsFree l a) (sym none) refl
free_either a x y free (inr same) = subst (λ (l : List Entry). IsFree l a) (sym same) free

pub delay_then : (a : Actor) (first second first' second' : Growth) → Delays a first first' → Delays a second second'
    → Delays a (Then first second) (Then first' second')
delay_then a first second first' second' one other h x p m is free made =
    let f = one h x p made.before is free made.one in
    let place : p ++ made.before ≡ (h ++ x) ++ made.before = ap (λ (l : List Entry). l ++ made.before) is in
    let s = other (p ++ made.before) [] (p ++ made.before) made.after (sym (append-nil (p ++ made.before))) refl made.other in
    let late = then_late first' second' h x made.before made.after f.0
    (λ k y at either. (other k y (p ++ made.before) made.after (place ∙ sym at) (free_either a x y free either) made.other).0) in
    (subst (Late (Then first' second') h x) (sym made.joined) late, as_these a m (made.before ++ made.after) made.joined (have-append a made.before made.after f.1 s.1))

pub delay_nothing : (a : Actor) → Delays a (λ h m. m ≡ []) (λ h m. m ≡ [])
delay_nothing a h x p m is free none = (inr (none, refl), as_these a m [] none tt)

pub delay_many : {A : Type 0} (a : Actor) (call call' : A → Growth) → ((answer : A) → Delays a (call answer) (call' answer))
    → (answers : List A) → Delays a (Many call answers) (Many call' answers)
delay_many a call call' each [] = delay_nothing a
delay_many a call call' each (answer ∷ answers) =
    delay_then a (call answer) (Many call answers) (call' answer) (Many call' answers) (each answer) (delay_many a call call' each answers)

pub late_as : (call other : Growth) (h x m : List Entry) → ((n : List Entry) → call h n → other h n) → Late call h x m → Late other h x m
late_as call other h x m told (inl made) = inl (told (x ++ m) made)
late_as call other h x m told (inr none) = inr (none.0, told [] none.1)

pub delay_cond : (a : Actor) (b : Bool) (one one' other other' : Growth) → Delays a one one' → Delays a other other'
    → Delays a (λ h m. cond b (one h m) (other h m)) (λ h m. cond b (one' h m) (other' h m))
delay_cond a true one one' other other' first second = first
delay_cond a false one one' other other' first second = second
