-- What a turn with a bound has left, and that it did as much as it may.

use Rattle.std.proofs.Common.{◌≡◌, ℕ, Bool, true, false, List, length, Ok, inl, inr, sym, subst, ◌∙◌}
use Rattle.ert_defs.specs.{States.sched_of, declared.entry.Entry.Entry, declared.settings.Settings.Settings}
use Rattle.ert_effects.specs.{SomeCalls.is_more, declared.answers.Left.Left, declared.answers.Left.TheVariants.{Nothing, Due, Moving}}
use Rattle.ert_shard.proofs.Stepped.{fewer_after}
use Rattle.ert_shard.specs.{Shards.{Share, Owned, ShardSteps}, Turning.{shard_expired, HasTurnedMost, IsMoreLeft}, declared.turns.Turn.Turn}
use Rattle.ert_timers.specs.{Parts.Part, Passed.LosesRows, Trying.{IsLeft, LosesSome}}
use Rattle.ert_world.specs.{Bounded.{AreLeft, DeliversSome}, Worlds.KeepsRows}

-- rows stay through steps through each of which they do
pub keeps_then : (p q r : Part) → KeepsRows p q → KeepsRows q r → KeepsRows p r
keeps_then p q r one other = record { keys = other.keys ∙ one.keys; time = other.time ∙ one.time; stands = other.stands ∙ one.stands }

-- the advance has left something
pub more_left : (o : Owned) (to : ℕ) (left : Left) → is_more left ≡ true → IsLeft o.wheel to left → IsMoreLeft o to true
more_left o to Nothing more told = absurd cc
more_left o to Due more told = inl (inl told)
more_left o to Moving more told = inl (inr told)

-- or it has not, and expired timers wait or not
pub waits_left : (o : Owned) (to most count : ℕ) (left : Left) (waits : Bool) → is_more left ≡ false → IsLeft o.wheel to left
    → AreLeft waits most count (shard_expired o) → IsMoreLeft o to waits
waits_left o to most count Nothing true none told rest = inr rest.1
waits_left o to most count Nothing false none told rest = (told, rest)
waits_left o to most count Due waits none told rest = absurd cc
waits_left o to most count Moving waits none told rest = absurd cc

-- what a delivery tells of the expired timers
pub delivered_rest : (b c : Owned) (most : ℕ) (answer : ℕ × ℕ × Bool)
    → (made : ShardSteps b (λ way. DeliversSome b.settings way b.share.number most (Ok answer)) c)
    → AreLeft answer.2 most (length made.goes.grows.made.hows) (shard_expired c)
delivered_rest b c most answer made =
    let n : ℕ = length made.goes.grows.made.hows in
    subst (λ (s : Share). AreLeft answer.2 most n (sched_of c.settings c.history s.number).expired) (sym made.goes.share)
    (subst (λ (g : Settings). AreLeft answer.2 most n (sched_of g c.history b.share.number).expired) (sym made.goes.settings)
    (subst (λ (h : List Entry). AreLeft answer.2 most n (sched_of b.settings h b.share.number).expired) (sym made.goes.grows.grown)
    made.goes.grows.made.rest))

-- where the advance has left something, so many rows went, or rows have to move
pub done_most : (o p q r : Part) (most : ℕ) (t : Turn) (left : Left) → is_more left ≡ true → LosesRows o p → LosesSome left most p q
    → LosesRows q r → IsLeft r t.to left → HasTurnedMost o r most t
done_most o p q r most t Nothing more before loses after told = absurd cc
done_most o p q r most t Due more before loses after told = inr (inl (fewer_after o p q r most before loses after))
done_most o p q r most t Moving more before loses after told = inr (inr told)
