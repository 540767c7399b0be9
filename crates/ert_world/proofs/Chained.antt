-- Steps one after the other are a call, whatever makes them.

use Rattle.std.proofs.Common.{◌≡◌, ◌⊎◌, ℕ, zero, suc, ◌+◌, ◌<◌, ◌≤◌, true, false, List, [], ◌∷◌, ◌++◌, length, Option, Some, None, Ok, Err, inl, inr, refl, sym, ap, subst, ◌∙◌, arith, append-nil, append_assoc, add-zero}
use Rattle.std.proofs.lemmas.Bool.{lt-ltb}
use Rattle.ert_effects.proofs.Growing.{grows_then, grows_more}
use Rattle.ert_effects.specs.{Chains.{HoldsRequest, Serves, ServesMany, ServesAll, units, AdvancesWheel, Hands, HandsMany, Delivers, puts, put_by, drops, dropped_by, Turns, SweepsWheel, SweepsWheels, Exits}, RequestCalls.Answers}
use Rattle.ert_effects.specs.{WheelCalls.MarksExit, Ways.{Growth, Way, Grows, Then, Many}, declared.answers.Handed.Handed, declared.answers.Handed.TheVariants.{Put, Dropped}, declared.answers.Turned.Turned}
use Rattle.ert_defs.specs.{Mails.{first_of, others_of}, States.state, declared.entry.Actor.TheVariants.{Caller, MailOf}, declared.entry.Entry.Entry, declared.mail.Request.Request, declared.memory.NoMemory.NoMemory}
use Rattle.ert_defs.specs.{declared.settings.Settings.Settings, declared.settings.TheConstants.MOST_SLOTS}

times_more : (n : ℕ) → units n ++ tt ∷ [] ≡ units (suc n)
times_more zero = refl
times_more (suc n) = ap (λ l. tt ∷ l) (times_more n)

from_zero : (n : ℕ) → n ≡ 0 + n
from_zero n = omega arith

suc_is : (n : ℕ) → suc n ≡ n + 1
suc_is n = omega arith

pub puts_more : (hows : List Handed) (how : Handed) → puts (hows ++ how ∷ []) ≡ puts hows + put_by how
puts_more [] how = omega arith
puts_more (h ∷ hows) how = let more = puts_more hows how in omega (arith, more)

pub drops_more : (hows : List Handed) (how : Handed) → drops (hows ++ how ∷ []) ≡ drops hows + dropped_by how
drops_more [] how = omega arith
drops_more (h ∷ hows) how = let more = drops_more hows how in omega (arith, more)

-- what is left of a list of which the first is taken
pub one_less : {X : Type 0} (xs ys : List X) (x : X) → first_of xs ≡ Some x → ys ≡ others_of xs → suc (length ys) ≡ length xs
one_less [] ys x first is = absurd cc
one_less (y ∷ xs) ys x first is = ap (λ l. suc (length l)) is

-- a list that has no first is empty
none_left : {X : Type 0} (xs : List X) → first_of xs ≡ None → xs ≡ []
none_left [] none = refl
none_left (x ∷ xs) none = absurd cc

-- so the counts stay few
pub few_put : (put dropped n m : ℕ) → (put + dropped ≡ 0) ⊎ ((put + dropped) + n ≤ MOST_SLOTS) → n ≤ MOST_SLOTS → suc m ≡ n → ((put + 1) + dropped) + m ≤ MOST_SLOTS
few_put put dropped n m (inl none) few next = omega (arith, none, few, next)
few_put put dropped n m (inr some) few next = omega (arith, some, few, next)

pub few_dropped : (put dropped n m : ℕ) → (put + dropped ≡ 0) ⊎ ((put + dropped) + n ≤ MOST_SLOTS) → n ≤ MOST_SLOTS → suc m ≡ n → (put + (dropped + 1)) + m ≤ MOST_SLOTS
few_dropped put dropped n m (inl none) few next = omega (arith, none, few, next)
few_dropped put dropped n m (inr some) few next = omega (arith, some, few, next)

-- one wheel more is swept
sweeps_more : (g : Settings) (way : Way) (by p w n : ℕ) (h m k : List Entry) → SweepsWheels g way by p w n h m → SweepsWheel g way by p (w + n) (h ++ m) k
    → SweepsWheels g way by p w (suc n) h (m ++ k)
sweeps_more g way by p w zero h m k many one = record {
  before = k;
  after = [];
  joined = ap (λ l. l ++ k) many ∙ sym (append-nil k);
  one = subst (λ l. SweepsWheel g way by p w l k) (ap (λ l. h ++ l) many ∙ append-nil h) (subst (λ i. SweepsWheel g way by p i (h ++ m) k) (plus_none w) one);
  other = refl;
}
  where
    plus_none : (w : ℕ) → w + 0 ≡ w
    plus_none w = omega arith
sweeps_more g way by p w (suc n) h m k many one = record {
  before = many.before;
  after = many.after ++ k;
  joined = ap (λ l. l ++ k) many.joined ∙ append_assoc many.before many.after k;
  one = many.one;
  other = sweeps_more g way by p (suc w) n (h ++ many.before) many.after k many.other
      (subst (λ l. SweepsWheel g way by p (suc w + n) l k) (ap (λ l. h ++ l) many.joined ∙ sym (append_assoc h many.before many.after))
      (subst (λ i. SweepsWheel g way by p i (h ++ m) k) (plus_suc w n) one));
}
  where
    plus_suc : (w n : ℕ) → w + suc n ≡ suc w + n
    plus_suc w n = omega arith

-- over what tells settings, history and mark of whatever makes the steps, and how these come about for one actor
module _ {S : Type 0} (settings : S → Settings) (history : S → List Entry) (mark : S → ℕ) (way : Settings → ℕ → ℕ → Way) (w : ℕ) where
  -- a call was made from one to the other
  abbrev pub Made : (Settings → Way → Growth) → S → S → Type 0
  Made call a b = Grows (call (settings a) (way (settings a) (mark a) w)) (history a) (history b)

  abbrev pub Same : S → S → Type 0
  Same a b = (settings b ≡ settings a) × (mark b ≡ mark a)

  -- a later call is one of the settings and the mark at the start
  since : (call : Settings → Way → Growth) (a b c : S) → Same a b → Made call b c
      → Grows (call (settings a) (way (settings a) (mark a) w)) (history b) (history c)
  since call a b c same made =
      subst (λ n. Grows (call (settings a) (way (settings a) n w)) (history b) (history c)) same.1
      (subst (λ g. Grows (call g (way g (mark b) w)) (history b) (history c)) same.0 made)

  pub made_then : (first second : Settings → Way → Growth) (a b c : S) → Same a b → Made first a b → Made second b c
      → Made (λ g way. Then (first g way) (second g way)) a c
  made_then first second a b c same one other =
      grows_then (first (settings a) (way (settings a) (mark a) w)) (second (settings a) (way (settings a) (mark a) w)) (history a) (history b) (history c) one
      (since second a b c same other)

  -- one call more of a kind
  made_more : {A : Type 0} (call : Settings → Way → A → Growth) (answers : List A) (answer : A) (a b c : S) → Same a b
      → Made (λ g way. Many (call g way) answers) a b → Made (λ g way. call g way answer) b c → Made (λ g way. Many (call g way) (answers ++ answer ∷ [])) a c
  made_more call answers answer a b c same many one =
      grows_more (call (settings a) (way (settings a) (mark a) w)) answers answer (history a) (history b) (history c) many
      (since (λ g way. call g way answer) a b c same one)

  -- the request that is held is answered, or there is no memory for that
  pub answered : (a b c : S) (request : Request) (left : Option ℕ) → Same a b → Made (λ g way. HoldsRequest g way w (Some request)) a b
      → Made (λ g way. way (MailOf request.reply_to ∷ []) (Answers g w request (Ok left))) b c → Made (λ g way. Serves g way w (Ok true)) a c
  answered a b c request left same one two =
      let both = made_then (λ g way. HoldsRequest g way w (Some request)) (λ g way. way (MailOf request.reply_to ∷ []) (Answers g w request (Ok left))) a b c same one two in
      record { piece = both.piece; grown = both.grown; made = record { request = request; left = left; steps = both.made } }

  pub unanswered : (a b c : S) (request : Request) (e : NoMemory) → Same a b → Made (λ g way. HoldsRequest g way w (Some request)) a b
      → Made (λ g way. way (MailOf request.reply_to ∷ []) (Answers g w request (Err e))) b c → Made (λ g way. Serves g way w (Err e)) a c
  unanswered a b c request e same one two =
      let both = made_then (λ g way. HoldsRequest g way w (Some request)) (λ g way. way (MailOf request.reply_to ∷ []) (Answers g w request (Err e))) a b c same one two in
      record { piece = both.piece; grown = both.grown; made = record { request = request; steps = both.made } }

  -- one request more is served
  pub served_more : (a b c : S) (n : ℕ) → Same a b → Made (λ g way. ServesMany g way w n) a b → Made (λ g way. Serves g way w (Ok true)) b c
      → Made (λ g way. ServesMany g way w (n + 1)) a c
  served_more a b c n same one other =
      subst (λ k. Made (λ g way. ServesMany g way w k) a c) (suc_is n)
      (subst (λ l. Made (λ g way. Many (λ (one : Unit {0}). Serves g way w (Ok true)) l) a c) (times_more n)
      (made_more (λ g way (one : Unit {0}). Serves g way w (Ok true)) (units n) tt a b c same one other))

  -- requests are served until there is none, 64 at most, or there is no memory for one
  pub none_served : (a : S) → Made (λ g way. ServesMany g way w 0) a a
  none_served a = record { piece = []; grown = sym (append-nil (history a)); made = refl }

  pub served_all : (a b c : S) (n : ℕ) → n < 64 → Same a b → Made (λ g way. ServesMany g way w n) a b → Made (λ g way. Serves g way w (Ok false)) b c
      → Made (λ g way. ServesAll g way w (Ok n)) a c
  served_all a b c n low same one two =
      let both = made_then (λ g way. ServesMany g way w n) (λ g way. Serves g way w (Ok false)) a b c same one two in
      record { piece = both.piece; grown = both.grown; made = (omega (arith, low), rw (lt-ltb n 64 low) both.made) }

  pub unserved : (a b c : S) (n : ℕ) (e : NoMemory) → n < 64 → Same a b → Made (λ g way. ServesMany g way w n) a b → Made (λ g way. Serves g way w (Err e)) b c
      → Made (λ g way. ServesAll g way w (Err e)) a c
  unserved a b c n e low same one two =
      let both = made_then (λ g way. ServesMany g way w n) (λ g way. Serves g way w (Err e)) a b c same one two in
      record { piece = both.piece; grown = both.grown; made = (n, low, both.made) }

  -- timers are handed over: so many are put, and so many thrown away
  pub record HasHanded (put dropped : ℕ) (a b : S) : Type 0 where
    pub hows : List Handed
    pub made : Made (λ g way. HandsMany g way w hows) a b
    pub put_is : put ≡ puts hows
    pub dropped_is : dropped ≡ drops hows

  -- one more is
  handed_more : (put dropped : ℕ) (how : Handed) (a b c : S) → Same a b → HasHanded put dropped a b → Made (λ g way. Hands g way w (Ok how)) b c
      → HasHanded (put + put_by how) (dropped + dropped_by how) a c
  handed_more put dropped how a b c same one other = record {
    hows = one.hows ++ how ∷ [];
    made = made_more (λ g way how. Hands g way w (Ok how)) one.hows how a b c same one.made other;
    put_is = ap (λ n. n + put_by how) one.put_is ∙ sym (puts_more one.hows how);
    dropped_is = ap (λ n. n + dropped_by how) one.dropped_is ∙ sym (drops_more one.hows how);
  }

  pub handed_put : (put dropped : ℕ) (how : Handed) (a b c : S) → Same a b → HasHanded put dropped a b → Made (λ g way. Hands g way w (Ok how)) b c
      → how ≡ Put → HasHanded (put + 1) dropped a c
  handed_put put dropped how a b c same one other is =
      subst (λ n. HasHanded (put + 1) n a c) (add-zero dropped)
      (handed_more put dropped Put a b c same one (subst (λ x. Made (λ g way. Hands g way w (Ok x)) b c) is other))

  pub handed_dropped : (put dropped : ℕ) (how : Handed) (a b c : S) → Same a b → HasHanded put dropped a b → Made (λ g way. Hands g way w (Ok how)) b c
      → how ≡ Dropped → HasHanded put (dropped + 1) a c
  handed_dropped put dropped how a b c same one other is =
      subst (λ n. HasHanded n (dropped + 1) a c) (add-zero put)
      (handed_more put dropped Dropped a b c same one (subst (λ x. Made (λ g way. Hands g way w (Ok x)) b c) is other))

  -- none is left, or there is no memory for the next
  pub none_handed : (a : S) → HasHanded 0 0 a a
  none_handed a = record { hows = []; made = record { piece = []; grown = sym (append-nil (history a)); made = refl }; put_is = refl; dropped_is = refl }

  pub delivered : (put dropped : ℕ) (a b : S) → Same a b → HasHanded put dropped a b → first_of ((state (settings b) (history b)).scheds w).expired ≡ None
      → Made (λ g way. Delivers g way w (Ok (put, dropped))) a b
  delivered put dropped a b same many none = record {
    piece = many.made.piece;
    grown = many.made.grown;
    made = record {
      hows = many.hows;
      runs = many.made.made;
      put_is = many.put_is;
      dropped_is = many.dropped_is;
      done = subst (λ g. ((state g (history a ++ many.made.piece)).scheds w).expired ≡ []) same.0
          (subst (λ h. ((state (settings b) h).scheds w).expired ≡ []) many.made.grown (none_left _ none));
    };
  }

  pub undelivered : (put dropped : ℕ) (a b c : S) (e : NoMemory) → Same a b → HasHanded put dropped a b → Made (λ g way. Hands g way w (Err e)) b c
      → Made (λ g way. Delivers g way w (Err e)) a c
  undelivered put dropped a b c e same many one =
      let both = made_then (λ g way. HandsMany g way w many.hows) (λ g way. Hands g way w (Err e)) a b c same many.made one in
      record { piece = both.piece; grown = both.grown; made = record { hows = many.hows; runs = both.made } }

  -- a turn is done, or stops because memory ran out
  pub turned : (a b c d : S) (t : Turned) → Same a b → Same b c → Made (λ g way. ServesAll g way w (Ok t.served)) a b
      → Made (λ g way. AdvancesWheel g way w (Ok (t.to, t.expired))) b c → Made (λ g way. Delivers g way w (Ok (t.put, t.dropped))) c d
      → Made (λ g way. Turns g way w (Ok t)) a d
  turned a b c d t on_b on_c one two three =
      made_then (λ g way. ServesAll g way w (Ok t.served)) (λ g way. Then (AdvancesWheel g way w (Ok (t.to, t.expired))) (Delivers g way w (Ok (t.put, t.dropped)))) a b d on_b one
      (made_then (λ g way. AdvancesWheel g way w (Ok (t.to, t.expired))) (λ g way. Delivers g way w (Ok (t.put, t.dropped))) b c d on_c two three)

  pub turn_unserved : (a b : S) (e : NoMemory) → Made (λ g way. ServesAll g way w (Err e)) a b → Made (λ g way. Turns g way w (Err e)) a b
  turn_unserved a b e one = record { piece = one.piece; grown = one.grown; made = inl one.made }

  pub turn_unadvanced : (a b c : S) (served : ℕ) (e : NoMemory) → Same a b
      → Made (λ g way. ServesAll g way w (Ok served)) a b → Made (λ g way. AdvancesWheel g way w (Err e)) b c
      → Made (λ g way. Turns g way w (Err e)) a c
  turn_unadvanced a b c served e same one two =
      let both = made_then (λ g way. ServesAll g way w (Ok served)) (λ g way. AdvancesWheel g way w (Err e)) a b c same one two in
      record { piece = both.piece; grown = both.grown; made = inr (inl (served, both.made)) }

  pub turn_undelivered : (a b c d : S) (served : ℕ) (answer : ℕ × ℕ) (e : NoMemory) → Same a b → Same b c
      → Made (λ g way. ServesAll g way w (Ok served)) a b → Made (λ g way. AdvancesWheel g way w (Ok answer)) b c
      → Made (λ g way. Delivers g way w (Err e)) c d → Made (λ g way. Turns g way w (Err e)) a d
  turn_undelivered a b c d served answer e on_b on_c one two three =
      let all = made_then (λ g way. ServesAll g way w (Ok served)) (λ g way. Then (AdvancesWheel g way w (Ok answer)) (Delivers g way w (Err e))) a b d on_b one
      (made_then (λ g way. AdvancesWheel g way w (Ok answer)) (λ g way. Delivers g way w (Err e)) b c d on_c two three) in
      record { piece = all.piece; grown = all.grown; made = inr (inr (served, answer, all.made)) }

  pub swept_more : (a b c : S) (p n : ℕ) → Same a b → Made (λ g way. SweepsWheels g way w p 0 n) a b → Made (λ g way. SweepsWheel g way w p n) b c
      → Made (λ g way. SweepsWheels g way w p 0 (n + 1)) a c
  swept_more a b c p n same one other =
      let g : Settings = settings a in
      let by : Way = way g (mark a) w in
      let last = since (λ g way. SweepsWheel g way w p n) a b c same other in
      record {
        piece = one.piece ++ last.piece;
        grown = last.grown ∙ (ap (λ l. l ++ last.piece) one.grown ∙ append_assoc (history a) one.piece last.piece);
        made = subst (λ k. SweepsWheels g by w p 0 k (history a) (one.piece ++ last.piece)) (suc_is n)
            (sweeps_more g by w p 0 n (history a) one.piece last.piece one.made
            (subst (λ i. SweepsWheel g by w p i (history a ++ one.piece) last.piece) (from_zero n)
            (subst (λ h. SweepsWheel g by w p n h last.piece) one.grown last.made)));
      }

  pub exited : (a b c : S) (p : ℕ) → Same a b → Made (λ g way. way [] (MarksExit g (Caller w) p true)) a b
      → Made (λ g way. SweepsWheels g way w p 0 g.schedulers) b c → Made (λ g way. Exits g way w p true) a c
  exited a b c p same one other =
      made_then (λ g way. way [] (MarksExit g (Caller w) p true)) (λ g way. SweepsWheels g way w p 0 g.schedulers) a b c same one other
