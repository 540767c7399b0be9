-- Requests of a shard that are served, one after the other.

use Rattle.std.proofs.Common.{◌≡◌, ℕ, zero, suc, ◌+◌, ◌<◌, ◌≤◌, Bool, Result, cond, true, List, [], ◌∷◌, ◌++◌, filter, Option, Some, None, Ok, Err, refl, sym, ap, subst, ◌∙◌, arith, append-nil, append_assoc}
use Rattle.std.proofs.lemmas.{Bool.lt-ltb, List.Elements.filter-append}
use Rattle.std.specs.Option.{is_some}
use Rattle.ert_defs.specs.{Legal.Legal, States.{state, sched_of}, declared.entry.Actor.TheVariants.MailOf, declared.entry.Entry.Entry, declared.mail.Request.Request, declared.memory.NoMemory.NoMemory, declared.settings.Settings.Settings}
use Rattle.ert_defs.specs.{declared.timer.TimerRef.TimerRef}
use Rattle.ert_effects.proofs.Growing.{grows_more}
use Rattle.ert_effects.specs.{Chains.{HoldsBy, HoldsRequest, Serves, ServesMany, units}, RequestCalls.Answers, Ways.{Then, Many}}
use Rattle.ert_world.specs.{Stepping.{turns_same, turns_then}, Worlds.left_for}
use Rattle.ert_shard.proofs.{Called.{same_rows, rows_then}, Stepped.{since, steps_as, steps_then, steps_then_share}}
use Rattle.ert_shard.specs.{Serving.{EndsServing, ShardHasForgottenAll, ShardForgetsCancelled, ShardServes, ShardServesAll}, Shards.{Share, is_of, as_share, Owned, shard_way, ShardHasForgotten, ShardSteps}}
use Rattle.ert_shard.specs.{declared.requests.ServeErr.ServeErr, declared.requests.ServeErr.TheVariants.NoMemory as NoMemoryToServe}
use Rattle.ert_world.proofs.{Forgotten.answer_cancels, Sparing.CancelOnly}

-- a request was in the hand
pub held_before : (o : Owned) (request : Request) → Legal o.settings o.history → Some request ≡ (sched_of o.settings o.history o.share.number).hand
    → ShardSteps o (λ way. HoldsRequest o.settings way o.share.number (Some request)) o
held_before o request legal is = record {
  goes = record {
    grows = record {
      piece = [];
      grown = sym (append-nil o.history);
      made = subst (λ hand. HoldsBy hand (shard_way o) o.settings o.share.number (Some request) o.history []) is (refl, refl);
    };
    legal = legal;
    table = refl;
    settings = refl;
    share = refl;
    turns = turns_same o.turns;
  };
  rows = same_rows o.wheel;
}

-- a request was held, and is answered
pub served_one : (a b c : Owned) (request : Request) (left : Option ℕ) → ShardSteps a (λ way. HoldsRequest a.settings way a.share.number (Some request)) b
    → ShardSteps b (λ way. way (MailOf request.reply_to ∷ []) (Answers b.settings b.share.number request (Ok left))) c
    → ShardSteps a (λ way. ShardServes a.settings way a.share (Ok true)) c
served_one a b c request left holds answers =
    steps_as a c (λ way. Then (HoldsRequest a.settings way a.share.number (Some request)) (way (MailOf request.reply_to ∷ []) (Answers a.settings a.share.number request (Ok left))))
    (λ way. ShardServes a.settings way a.share (Ok true)) (λ m made. record { request = request; left = left; steps = made })
    (steps_then a b c (λ g n way. HoldsRequest g way n (Some request)) (λ g n way. way (MailOf request.reply_to ∷ []) (Answers g n request (Ok left))) holds answers)

-- there was no memory for that
pub served_none : (a b c : Owned) (request : Request) (e : NoMemory) → ShardSteps a (λ way. HoldsRequest a.settings way a.share.number (Some request)) b
    → ShardSteps b (λ way. way (MailOf request.reply_to ∷ []) (Answers b.settings b.share.number request (Err e))) c
    → ShardSteps a (λ way. ShardServes a.settings way a.share (Err NoMemoryToServe)) c
served_none a b c request e holds answers =
    steps_as a c (λ way. Then (HoldsRequest a.settings way a.share.number (Some request)) (way (MailOf request.reply_to ∷ []) (Answers a.settings a.share.number request (Err e))))
    (λ way. ShardServes a.settings way a.share (Err NoMemoryToServe)) (λ m made. (e, record { request = request; steps = made }))
    (steps_then a b c (λ g n way. HoldsRequest g way n (Some request)) (λ g n way. way (MailOf request.reply_to ∷ []) (Answers g n request (Err e))) holds answers)

times_more : (n : ℕ) → units n ++ tt ∷ [] ≡ units (suc n)
times_more zero = refl
times_more (suc n) = ap (λ l. tt ∷ l) (times_more n)

suc_is : (n : ℕ) → suc n ≡ n + 1
suc_is n = omega arith

-- one more is served
pub served_more : (a b c : Owned) (n : ℕ) → ShardSteps a (λ way. ServesMany a.settings way a.share.number n) b
    → ShardSteps b (λ way. ShardServes b.settings way b.share (Ok true)) c → ShardSteps a (λ way. ServesMany a.settings way a.share.number (n + 1)) c
served_more a b c n one other =
    let more = grows_more (λ (u : Unit {0}). Serves a.settings (shard_way a) a.share.number (Ok true)) (units n) tt a.history b.history c.history one.goes.grows
    (since a b c (λ g n way. Serves g way n (Ok true)) one.goes.settings one.goes.share other.goes.grows) in
    record {
      goes = record {
        grows = record {
          piece = more.piece;
          grown = more.grown;
          made = subst (λ k. ServesMany a.settings (shard_way a) a.share.number k a.history more.piece) (suc_is n)
              (subst (λ l. Many (λ (u : Unit {0}). Serves a.settings (shard_way a) a.share.number (Ok true)) l a.history more.piece) (times_more n) more.made);
        };
        legal = other.goes.legal;
        table = other.goes.table ∙ one.goes.table;
        settings = other.goes.settings ∙ one.goes.settings;
        share = other.goes.share ∙ one.goes.share;
        turns = turns_then a.turns b.turns c.turns one.goes.turns other.goes.turns;
      };
      rows = rows_then a.wheel b.wheel c.wheel one.rows other.rows;
    }

-- as many were served as may be
pub served_most : (a b : Owned) (n : ℕ) → n ≡ 64 → ShardSteps a (λ way. ServesMany a.settings way a.share.number n) b
    → ShardSteps a (λ way. ShardServesAll a.settings way a.share (Ok 64)) b
served_most a b n all many =
    steps_as a b (λ way. ServesMany a.settings way a.share.number n) (λ way. ShardServesAll a.settings way a.share (Ok 64))
    (λ m made. (omega arith, subst (λ k. ServesMany a.settings (shard_way a) a.share.number k a.history m) all made)) many

-- and where fewer were, there was no other, or one for a process of another shard
pub served_to_end : (a b c : Owned) (n : ℕ) (answer : Result Bool ServeErr) → n < 64 → ShardSteps a (λ way. ServesMany a.settings way a.share.number n) b
    → ShardSteps b (λ way. ShardServes b.settings way b.share answer) c
    → ((m k : List Entry) → ShardServes a.settings (shard_way a) a.share answer m k → EndsServing a.settings (shard_way a) a.share m k)
    → ShardSteps a (λ way. ShardServesAll a.settings way a.share (Ok n)) c
served_to_end a b c n answer few one other ends =
    steps_as a c (λ way. Then (ServesMany a.settings way a.share.number n) (λ h m. ShardServes a.settings way a.share answer h m))
    (λ way. ShardServesAll a.settings way a.share (Ok n))
    (λ m made. (
      omega (arith, few),
      subst (λ (less : Bool). cond less (Then (ServesMany a.settings (shard_way a) a.share.number n) (EndsServing a.settings (shard_way a) a.share) a.history m)
          (ServesMany a.settings (shard_way a) a.share.number n a.history m)) (sym (lt-ltb n 64 few))
          (record { before = made.before; after = made.after; joined = made.joined; one = made.one; other = ends _ _ made.other }),
    ))
    (steps_then_share a b c (λ g s way. ServesMany g way s.number n) (λ g s way. ShardServes g way s answer) one other)

-- there was no memory for the next
pub unserved : (a b c : Owned) (n : ℕ) (e : NoMemory) → n < 64 → ShardSteps a (λ way. ServesMany a.settings way a.share.number n) b
    → ShardSteps b (λ way. ShardServes b.settings way b.share (Err NoMemoryToServe)) c → ShardSteps a (λ way. ShardServesAll a.settings way a.share (Err e)) c
unserved a b c n e few one other =
    steps_as a c (λ way. Then (ServesMany a.settings way a.share.number n) (λ h m. ShardServes a.settings way a.share (Err NoMemoryToServe) h m))
    (λ way. ShardServesAll a.settings way a.share (Err e))
    (λ m made. (n, few, record { before = made.before; after = made.after; joined = made.joined; one = made.one; other = made.other.1 }))
    (steps_then_share a b c (λ g s way. ServesMany g way s.number n) (λ g s way. ShardServes g way s (Err NoMemoryToServe)) one other)

-- what is forgotten of some entries, and of more
forget_append : (o : Owned) (es fs : List Entry) → ShardHasForgottenAll o es → ShardHasForgottenAll o fs → ShardHasForgottenAll o (es ++ fs)
forget_append o [] fs one other = other
forget_append o (e ∷ es) fs one other = (one.0, forget_append o es fs one.1 other)

-- a request that is held cancels nothing
hold_forgets : (o : Owned) (g : Settings) (s : Share) (hand got : Option Request) (h m : List Entry) → HoldsBy hand (as_share g s) g s.number got h m
    → ShardHasForgottenAll o (filter (is_of s) m)
hold_forgets o g s (Some request) got h m holds = subst (λ l. ShardHasForgottenAll o (filter (is_of s) l)) (sym holds.1) tt
hold_forgets o g s None got h m holds = subst (ShardHasForgottenAll o) (sym holds) ((λ timer left is. cc), tt)

-- entries that cancel one timer, of which no row is held then
only_forgets : (o : Owned) (timer : TimerRef) (x : Option ℕ) (es : List Entry) → CancelOnly timer x es → (is_some x ≡ true → ShardHasForgotten o timer)
    → ShardHasForgottenAll o es
only_forgets o timer x [] only forgot = tt
only_forgets o timer x (e ∷ es) only forgot = (
  λ t n is. subst (ShardHasForgotten o) (sym (only.0 t n is).0) (forgot (ap is_some (only.0 t n is).1)),
  only_forgets o timer x es only.1 forgot,
)

-- a request is held, and no more
pub held_forgets : (a b : Owned) (got : Option Request) → ShardSteps a (λ way. HoldsRequest a.settings way a.share.number got) b → ShardForgetsCancelled a b
held_forgets a b got holds =
    let grows = holds.goes.grows in
    record {
      piece = grows.piece;
      grown = grows.grown;
      forgotten = hold_forgets b a.settings a.share (sched_of a.settings a.history a.share.number).hand got a.history grows.piece grows.made;
    }

-- it is held, and then these entries are made for it
then_forgets : (a b c : Owned) (got : Option Request) → ShardSteps a (λ way. HoldsRequest a.settings way a.share.number got) b
    → (p : List Entry) → c.history ≡ b.history ++ p → ShardHasForgottenAll c (filter (is_of b.share) p) → ShardForgetsCancelled a c
then_forgets a b c got holds p grown forgot =
    let grows = holds.goes.grows in
    record {
      piece = grows.piece ++ p;
      grown = grown ∙ (ap (λ l. l ++ p) grows.grown ∙ append_assoc a.history grows.piece p);
      forgotten = subst (ShardHasForgottenAll c) (sym (filter-append (is_of a.share) grows.piece p))
          (forget_append c (filter (is_of a.share) grows.piece) (filter (is_of a.share) p)
          (hold_forgets c a.settings a.share (sched_of a.settings a.history a.share.number).hand got a.history grows.piece grows.made)
          (subst (λ (s : Share). ShardHasForgottenAll c (filter (is_of s) p)) holds.goes.share forgot));
    }

-- it is held and answered
pub served_forgets : (a b c : Owned) (request : Request) (left : Option ℕ) → ShardSteps a (λ way. HoldsRequest a.settings way a.share.number (Some request)) b
    → ShardSteps b (λ way. way (MailOf request.reply_to ∷ []) (Answers b.settings b.share.number request (Ok left))) c
    → (is_some (left_for request.kind left) ≡ true → ShardHasForgotten c request.timer) → ShardForgetsCancelled a c
served_forgets a b c request left holds answers forgot =
    let grows = answers.goes.grows in
    then_forgets a b c (Some request) holds grows.piece grows.grown
    (only_forgets c request.timer (left_for request.kind left) (filter (is_of b.share) grows.piece)
    (answer_cancels b.settings b.share.number request left (state b.settings b.history) (filter (is_of b.share) grows.piece) grows.made) forgot)

-- it is held, and there is no memory for the answer
pub unserved_forgets : (a b c : Owned) (request : Request) (e : NoMemory) → ShardSteps a (λ way. HoldsRequest a.settings way a.share.number (Some request)) b
    → ShardSteps b (λ way. way (MailOf request.reply_to ∷ []) (Answers b.settings b.share.number request (Err e))) c → ShardForgetsCancelled a c
unserved_forgets a b c request e holds answers =
    let grows = answers.goes.grows in
    then_forgets a b c (Some request) holds grows.piece grows.grown (subst (ShardHasForgottenAll c) (sym grows.made) tt)
