-- How a shard's scheduler serves asynchronous requests.

use Rattle.std.specs.Prelude.{◌≡◌, ◌⊎◌, ℕ, ◌<◌, ◌≤◌, Bool, false, cond, nat_lt, List, [], ◌∷◌, ◌++◌, filter, Some, Result, Ok, Err}
use Rattle.ert_defs.specs.declared.{entry.Entry.Entry, entry.Event.TheVariants.Cancel, mail.Request.Request, memory.NoMemory.NoMemory as OutOfMemory, settings.Settings.Settings, timer.TimerRef.TimerRef}
use Rattle.ert_effects.specs.{Chains.{HoldsRequest, Serves, ServesMany}, Ways.{Growth, Way, Then}}
use Rattle.ert_shard.specs.{Shards.{Share, is_of, IsHome, Owned, ShardHasForgotten}, declared.requests.ServeErr.ServeErr, declared.requests.ServeErr.TheVariants.{NotHome, NoMemory}}

-- a request is held whose answer is for a process of another shard: it stays in the hand
pub record HoldsForAnother (g : Settings) (way : Way) (s : Share) (h m : List Entry) : Type 0 where
  pub request : Request
  pub apart : IsHome s request.reply_to → ⊥
  pub holds : HoldsRequest g way s.number (Some request) h m

-- `serve` of a shard
abbrev pub ShardServes : Settings → Way → Share → Result Bool ServeErr → Growth
ShardServes g way s (Ok served) h m = Serves g way s.number (Ok served) h m
ShardServes g way s (Err NotHome) h m = HoldsForAnother g way s h m
ShardServes g way s (Err NoMemory) h m = (e : OutOfMemory) × Serves g way s.number (Err e) h m

-- the wheel of a shard holds no row of a timer that these entries cancelled, if that is of this wheel
abbrev pub ShardHasForgottenAll : Owned → List Entry → Type 0
ShardHasForgottenAll o [] = Unit {0}
ShardHasForgottenAll o (e ∷ es) =
    ((timer : TimerRef) (left : ℕ) → e.event ≡ Cancel timer (Some left) → ShardHasForgotten o timer) × ShardHasForgottenAll o es

-- the history of a shard goes on by a piece, and its wheel holds no row of a timer that the shard cancelled by an entry of it
pub record ShardForgetsCancelled (old new : Owned) : Type 0 where
  pub piece : List Entry
  pub grown : new.history ≡ old.history ++ piece
  pub forgotten : ShardHasForgottenAll new (filter (is_of old.share) piece)

-- there is no request to be served: none waits, or the one that is held is for a process of another shard
abbrev pub EndsServing : Settings → Way → Share → Growth
EndsServing g way s h m = Serves g way s.number (Ok false) h m ⊎ HoldsForAnother g way s h m

-- requests are served until then, 64 at most
abbrev pub ShardServesAll : Settings → Way → Share → Result ℕ OutOfMemory → Growth
ShardServesAll g way s (Ok n) h m =
    (n ≤ 64) × cond (nat_lt n 64) (Then (ServesMany g way s.number n) (EndsServing g way s) h m) (ServesMany g way s.number n h m)
ShardServesAll g way s (Err e) h m = (n : ℕ) × (n < 64) × Then (ServesMany g way s.number n) (Serves g way s.number (Err e)) h m
