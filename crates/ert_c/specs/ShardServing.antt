-- What a shard does by the calls on asynchronous requests, and how C is told the answers.

use Rattle.std.specs.Prelude.{◌≡◌, ℕ, ◌+◌, ℤ, Bool, Option, Result, Ok, Err, MatchOption, ⊤}
use Rattle.ert_c.specs.{ShardCalls.AtHome, Through.{Through, IsRefusedAs}, Told.{flag, request_of, request_kind_at, IsToldDone}, declared.mail_calls.ErtRequest.ErtRequest, declared.status.TheConstants.{OK, NO_MEMORY, RANGE, BAD_KIND}}
use Rattle.ert_defs.specs.declared.{mail.Request.Request, memory.NoMemory.NoMemory as OutOfMemory}
use Rattle.ert_effects.specs.RequestCalls.{Asks}
use Rattle.ert_shard.specs.{Serving.{ShardForgetsCancelled, ShardServes}, Shards.{Owned, ShardSteps, ShardBy}, declared.requests.ServeErr.ServeErr, declared.requests.ServeErr.TheVariants.{NotHome, NoMemory}}

-- a shard puts a request into its inbox as its caller, or there is no memory
abbrev pub ShardAsksBy : Request → Result (Unit {0}) OutOfMemory → Owned → Owned → Type 0
ShardAsksBy request answer old new =
    ShardSteps old (ShardBy old (λ g. Asks g (old.share.number + 1) old.share.number request answer)) new

-- C puts a request to a shard; where no request has its kind, or the process to reply to isn't of the shard, nothing has
-- changed
abbrev pub ShardPutsRequest : ErtRequest → Option Owned → ℤ → Option Owned → Type 0
ShardPutsRequest request old status new = Through ⊤ (λ was now. MatchOption (request_kind_at request.kind) (IsRefusedAs BAD_KIND status was now)
    (λ kind. AtHome request.reply_to (ShardAsksBy (request_of request kind)) (λ answer. IsToldDone answer status) status ⊤ was now)) old status new

-- a shard serves a request, if there is one whose answer is for a process of its own. Its wheel holds no row of a timer that
-- it cancelled
pub record ShardServesBy (answer : Result Bool ServeErr) (old new : Owned) : Type 0 where
  pub steps : ShardSteps old (λ way. ShardServes old.settings way old.share answer) new
  pub forgotten : ShardForgetsCancelled old new

-- whether a request was served, for C; or that its answer is for a process of another shard, or out of memory
abbrev pub IsServeTold : Result Bool ServeErr → ℕ → ℤ → ℕ → Type 0
IsServeTold (Ok served) old status new = (status ≡ OK) × (new ≡ flag served)
IsServeTold (Err NotHome) old status new = (status ≡ RANGE) × (new ≡ old)
IsServeTold (Err NoMemory) old status new = (status ≡ NO_MEMORY) × (new ≡ old)
