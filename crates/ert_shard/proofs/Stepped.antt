-- A turn of a shard, by its steps, and how long nothing can be due.

use Rattle.std.proofs.Common.{◌≡◌, ℕ, ◌+◌, ◌≤◌, Bool, ◌||◌, List, count_by, Ok, Err, inl, inr, refl, subst, ◌∙◌, arith}
use Rattle.std.proofs.Math.Nat.{lt_of_lt_of_le}
use Rattle.std.specs.Option.{is_some}
use Rattle.ert_defs.specs.declared.{entry.Entry.Entry, memory.NoMemory.NoMemory, settings.Settings.Settings}
use Rattle.ert_effects.proofs.Growing.{grows_then}
use Rattle.ert_effects.specs.{Chains.{AdvancesWheel, Delivers}, SomeCalls.{AdvancesWheelSome, is_more}, Ways.{Growth, Way, Grows, Then}, declared.answers.Left.Left, declared.answers.Left.TheVariants.Due}
use Rattle.ert_world.specs.{Stepping.turns_then, Bounded.DeliversSome}
use Rattle.ert_shard.specs.{Serving.ShardServesAll, Shards.{Share, Owned, shard_way, as_share, ShardGoes, ShardSteps}, Turning.{ShardTurns, TurnsUpTo}, declared.turns.Turn.Turn}
use Rattle.ert_shard.proofs.Called.{rows_then}
use Rattle.ert_timers.specs.{Parts.Part, Passed.{HasPassed, LosesRows}, Trying.LosesSome}
use Rattle.ert_timers.proofs.Passing.{rows_lost}

-- a step of a later shard is one of its settings and its share at the start
pub since_share : (old mid new : Owned) (call : Settings → Share → Way → Growth) → mid.settings ≡ old.settings → mid.share ≡ old.share
    → Grows (call mid.settings mid.share (shard_way mid)) mid.history new.history
    → Grows (call old.settings old.share (shard_way old)) mid.history new.history
since_share old mid new call settings share grows =
    subst (λ s. Grows (call old.settings s (as_share old.settings s)) mid.history new.history) share
    (subst (λ g. Grows (call g mid.share (as_share g mid.share)) mid.history new.history) settings grows)

pub since : (old mid new : Owned) (call : Settings → ℕ → Way → Growth) → mid.settings ≡ old.settings → mid.share ≡ old.share
    → Grows (call mid.settings mid.share.number (shard_way mid)) mid.history new.history
    → Grows (call old.settings old.share.number (shard_way old)) mid.history new.history
since old mid new call settings share grows = since_share old mid new (λ g s. call g s.number) settings share grows

-- two calls, one after the other
goes_then_share : (old mid new : Owned) (one other : Settings → Share → Way → Growth) → ShardGoes old (one old.settings old.share) mid
    → ShardGoes mid (other mid.settings mid.share) new
    → ShardGoes old (λ way. Then (one old.settings old.share way) (other old.settings old.share way)) new
goes_then_share old mid new one other first second = record {
  grows = grows_then (one old.settings old.share (shard_way old)) (other old.settings old.share (shard_way old)) old.history mid.history new.history
      first.grows (since_share old mid new other first.settings first.share second.grows);
  legal = second.legal;
  table = second.table ∙ first.table;
  settings = second.settings ∙ first.settings;
  share = second.share ∙ first.share;
  turns = turns_then old.turns mid.turns new.turns first.turns second.turns;
}

pub goes_then : (old mid new : Owned) (one other : Settings → ℕ → Way → Growth) → ShardGoes old (one old.settings old.share.number) mid
    → ShardGoes mid (other mid.settings mid.share.number) new
    → ShardGoes old (λ way. Then (one old.settings old.share.number way) (other old.settings old.share.number way)) new
goes_then old mid new one other first second = goes_then_share old mid new (λ g s. one g s.number) (λ g s. other g s.number) first second

-- two steps, one after the other
pub steps_then_share : (old mid new : Owned) (one other : Settings → Share → Way → Growth) → ShardSteps old (one old.settings old.share) mid
    → ShardSteps mid (other mid.settings mid.share) new
    → ShardSteps old (λ way. Then (one old.settings old.share way) (other old.settings old.share way)) new
steps_then_share old mid new one other first second = record {
  goes = goes_then_share old mid new one other first.goes second.goes;
  rows = rows_then old.wheel mid.wheel new.wheel first.rows second.rows;
}

pub steps_then : (old mid new : Owned) (one other : Settings → ℕ → Way → Growth) → ShardSteps old (one old.settings old.share.number) mid
    → ShardSteps mid (other mid.settings mid.share.number) new
    → ShardSteps old (λ way. Then (one old.settings old.share.number way) (other old.settings old.share.number way)) new
steps_then old mid new one other first second = steps_then_share old mid new (λ g s. one g s.number) (λ g s. other g s.number) first second

-- a call that is one of another kind
pub goes_as : (old new : Owned) (call other : Way → Growth) → ((m : List Entry) → call (shard_way old) old.history m → other (shard_way old) old.history m)
    → ShardGoes old call new → ShardGoes old other new
goes_as old new call other so goes = record {
  grows = record { piece = goes.grows.piece; grown = goes.grows.grown; made = so goes.grows.piece goes.grows.made };
  legal = goes.legal;
  table = goes.table;
  settings = goes.settings;
  share = goes.share;
  turns = goes.turns;
}

pub steps_as : (old new : Owned) (call other : Way → Growth) → ((m : List Entry) → call (shard_way old) old.history m → other (shard_way old) old.history m)
    → ShardSteps old call new → ShardSteps old other new
steps_as old new call other so steps = record { goes = goes_as old new call other so steps.goes; rows = steps.rows }

-- requests are served, and then this is done
served_then : (old mid new : Owned) (served : ℕ) (call : Settings → ℕ → Way → Growth) → ShardSteps old (λ way. ShardServesAll old.settings way old.share (Ok served)) mid
    → ShardSteps mid (call mid.settings mid.share.number) new
    → ShardSteps old (λ way. Then (ShardServesAll old.settings way old.share (Ok served)) (call old.settings old.share.number way)) new
served_then old mid new served call serves does =
    steps_then_share old mid new (λ g s way. ShardServesAll g way s (Ok served)) (λ g s. call g s.number) serves does

pub turned : (old one two new : Owned) (t : Turn) → ShardSteps old (λ way. ShardServesAll old.settings way old.share (Ok t.served)) one
    → ShardSteps one (λ way. AdvancesWheel one.settings way one.share.number (Ok (t.to, t.expired))) two
    → ShardSteps two (λ way. Delivers two.settings way two.share.number (Ok (t.put, t.dropped))) new
    → ShardSteps old (λ way. ShardTurns old.settings way old.share (Ok t)) new
turned old one two new t serves advances delivers =
    served_then old one new t.served (λ g n way. Then (AdvancesWheel g way n (Ok (t.to, t.expired))) (Delivers g way n (Ok (t.put, t.dropped)))) serves
    (steps_then one two new (λ g n way. AdvancesWheel g way n (Ok (t.to, t.expired))) (λ g n way. Delivers g way n (Ok (t.put, t.dropped))) advances delivers)

pub turn_unserved : (old new : Owned) (e : NoMemory) → ShardSteps old (λ way. ShardServesAll old.settings way old.share (Err e)) new
    → ShardSteps old (λ way. ShardTurns old.settings way old.share (Err e)) new
turn_unserved old new e serves =
    steps_as old new (λ way. ShardServesAll old.settings way old.share (Err e)) (λ way. ShardTurns old.settings way old.share (Err e)) (λ m made. inl made) serves

pub turn_unadvanced : (old mid new : Owned) (served : ℕ) (e : NoMemory) → ShardSteps old (λ way. ShardServesAll old.settings way old.share (Ok served)) mid
    → ShardSteps mid (λ way. AdvancesWheel mid.settings way mid.share.number (Err e)) new
    → ShardSteps old (λ way. ShardTurns old.settings way old.share (Err e)) new
turn_unadvanced old mid new served e serves advances =
    steps_as old new (λ way. Then (ShardServesAll old.settings way old.share (Ok served)) (AdvancesWheel old.settings way old.share.number (Err e)))
    (λ way. ShardTurns old.settings way old.share (Err e)) (λ m made. inr (inl (served, made)))
    (served_then old mid new served (λ g n way. AdvancesWheel g way n (Err e)) serves advances)

pub turn_undelivered : (old one two new : Owned) (served : ℕ) (advanced : ℕ × ℕ) (e : NoMemory)
    → ShardSteps old (λ way. ShardServesAll old.settings way old.share (Ok served)) one
    → ShardSteps one (λ way. AdvancesWheel one.settings way one.share.number (Ok advanced)) two
    → ShardSteps two (λ way. Delivers two.settings way two.share.number (Err e)) new
    → ShardSteps old (λ way. ShardTurns old.settings way old.share (Err e)) new
turn_undelivered old one two new served advanced e serves advances delivers =
    steps_as old new
    (λ way. Then (ShardServesAll old.settings way old.share (Ok served)) (Then (AdvancesWheel old.settings way old.share.number (Ok advanced)) (Delivers old.settings way old.share.number (Err e))))
    (λ way. ShardTurns old.settings way old.share (Err e)) (λ m made. inr (inr (served, advanced, made)))
    (served_then old one new served (λ g n way. Then (AdvancesWheel g way n (Ok advanced)) (Delivers g way n (Err e))) serves
    (steps_then one two new (λ g n way. AdvancesWheel g way n (Ok advanced)) (λ g n way. Delivers g way n (Err e)) advances delivers))

pub turned_up_to : (most : ℕ) (old one two new : Owned) (t : Turn) (left : Left) (waits : Bool)
    → ShardSteps old (λ way. ShardServesAll old.settings way old.share (Ok t.served)) one
    → ShardSteps one (λ way. AdvancesWheelSome one.settings way one.share.number most (Ok (t.to, t.expired, left))) two
    → ShardSteps two (λ way. DeliversSome two.settings way two.share.number most (Ok (t.put, t.dropped, waits))) new
    → ShardSteps old (λ way. TurnsUpTo old.settings way old.share most (Ok (t, (is_more left || waits)))) new
turned_up_to most old one two new t left waits serves advances delivers =
    steps_as old new
    (λ way. Then (ShardServesAll old.settings way old.share (Ok t.served)) (Then (AdvancesWheelSome old.settings way old.share.number most (Ok (t.to, t.expired, left))) (DeliversSome old.settings way old.share.number most (Ok (t.put, t.dropped, waits)))))
    (λ way. TurnsUpTo old.settings way old.share most (Ok (t, (is_more left || waits)))) (λ m made. record { left = left; waits = waits; more_is = refl; runs = made })
    (served_then old one new t.served (λ g n way. Then (AdvancesWheelSome g way n most (Ok (t.to, t.expired, left))) (DeliversSome g way n most (Ok (t.put, t.dropped, waits)))) serves
    (steps_then one two new (λ g n way. AdvancesWheelSome g way n most (Ok (t.to, t.expired, left))) (λ g n way. DeliversSome g way n most (Ok (t.put, t.dropped, waits))) advances delivers))

pub some_unserved : (most : ℕ) (old new : Owned) (e : NoMemory) → ShardSteps old (λ way. ShardServesAll old.settings way old.share (Err e)) new
    → ShardSteps old (λ way. TurnsUpTo old.settings way old.share most (Err e)) new
some_unserved most old new e serves =
    steps_as old new (λ way. ShardServesAll old.settings way old.share (Err e)) (λ way. TurnsUpTo old.settings way old.share most (Err e)) (λ m made. inl made) serves

pub some_unadvanced : (most : ℕ) (old mid new : Owned) (served : ℕ) (e : NoMemory) → ShardSteps old (λ way. ShardServesAll old.settings way old.share (Ok served)) mid
    → ShardSteps mid (λ way. AdvancesWheelSome mid.settings way mid.share.number most (Err e)) new
    → ShardSteps old (λ way. TurnsUpTo old.settings way old.share most (Err e)) new
some_unadvanced most old mid new served e serves advances =
    steps_as old new (λ way. Then (ShardServesAll old.settings way old.share (Ok served)) (AdvancesWheelSome old.settings way old.share.number most (Err e)))
    (λ way. TurnsUpTo old.settings way old.share most (Err e)) (λ m made. inr (inl (served, made)))
    (served_then old mid new served (λ g n way. AdvancesWheelSome g way n most (Err e)) serves advances)

pub some_undelivered : (most : ℕ) (old one two new : Owned) (served : ℕ) (advanced : ℕ × ℕ × Left) (e : NoMemory)
    → ShardSteps old (λ way. ShardServesAll old.settings way old.share (Ok served)) one
    → ShardSteps one (λ way. AdvancesWheelSome one.settings way one.share.number most (Ok advanced)) two
    → ShardSteps two (λ way. DeliversSome two.settings way two.share.number most (Err e)) new
    → ShardSteps old (λ way. TurnsUpTo old.settings way old.share most (Err e)) new
some_undelivered most old one two new served advanced e serves advances delivers =
    steps_as old new
    (λ way. Then (ShardServesAll old.settings way old.share (Ok served)) (Then (AdvancesWheelSome old.settings way old.share.number most (Ok advanced)) (DeliversSome old.settings way old.share.number most (Err e))))
    (λ way. TurnsUpTo old.settings way old.share most (Err e)) (λ m made. inr (inr (served, advanced, made)))
    (served_then old one new served (λ g n way. Then (AdvancesWheelSome g way n most (Ok advanced)) (DeliversSome g way n most (Err e))) serves
    (steps_then one two new (λ g n way. AdvancesWheelSome g way n most (Ok advanced)) (λ g n way. DeliversSome g way n most (Err e)) advances delivers))

-- a wheel that has lost rows has passed the time still
pub passed_on : (p q : Part) (to : ℕ) → LosesRows p q → HasPassed p to → HasPassed q to
passed_on p q to loses passed = record {
  left = λ k key is. passed.left k key (loses.left k key is);
  on = lt_of_lt_of_le passed.on loses.time;
}

-- so many rows that went in an advance are gone after what follows, and of what was before
pub fewer_after : (o p q r : Part) (most : ℕ) → LosesRows o p → LosesSome Due most p q → LosesRows q r → count_by is_some r.keys + most ≤ count_by is_some o.keys
fewer_after o p q r most lost fewer loses = omega (arith, rows_lost o p lost, fewer, rows_lost q r loses)
