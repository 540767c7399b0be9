-- `as_place` lends all that C holds.
use base.Logic.{id⊢}
use denote.Memory.{part_of}
use Rattle.ert_c.proofs.{Cast.casts, shard_handle.HubPlace.as_place.Statement.statement}
use Rattle.ert_c.specs.contracts.shard_handle.HubPlace as own
use Rattle.ert_shard.specs.contracts.hub.Hub as hub
use Rattle.ert_c.specs.contracts.shard_handle.HubPlace.as_place.Key.{name}
use Rattle.ert_c.proofs.shard_handle.HubPlace.as_place.Code as code

pub as_place_spec : {M : Type 1} → statement M
unfolding part_of
as_place_spec 𝓤 𝓛 𝓜 𝓡 wired =
    casts own.the_row hub.the_row tt (λ p. p.at) (λ p. p.value) (λ p. record { at = p.at; value = p.value }) 𝓛 𝓜 𝓡 (λ d b o. id⊢ 𝓤 _) (λ d b o. id⊢ 𝓤 _) name (code.unfolded 𝓤 𝓛.H 𝓜 𝓡 wired)
