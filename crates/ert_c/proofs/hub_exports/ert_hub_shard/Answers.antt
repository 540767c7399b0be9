use Rattle.std.proofs.Common.{◌≡◌, ◌∙◌, sym, subst, ap, Some, false, inl, inr, refl, ◌<◌, ◌≤◌, arith}
use Rattle.ert_c.proofs.Sharing.{opens_shard, none_there, cuts_some, taken_back, given_next}
use Rattle.ert_c.proofs.hub_exports.ert_hub_shard.Goals as goal
use Rattle.ert_c.specs.Places.{is_there}
use Rattle.ert_shard.specs.{Hubs.{Rest, IsLastOut, TakesBack}, Shards.Owned}

pub join-requires-clause-table : goal.join-requires-clause-table
join-requires-clause-table c =
    ap (λ (o : Owned). o.table) c.in-Err.ensures.value_returned ∙ (c.in-Ok.ensures.gives.table ∙ sym (ap (λ (r : Rest). r.table) c.in-Ok.ensures.gives.rest))

pub join-requires-clause-settings : goal.join-requires-clause-settings
join-requires-clause-settings c =
    ap (λ (o : Owned). o.settings) c.in-Err.ensures.value_returned ∙ (c.in-Ok.ensures.gives.settings ∙ sym (ap (λ (r : Rest). r.settings) c.in-Ok.ensures.gives.rest))

pub join-requires-clause-next : goal.join-requires-clause-next
join-requires-clause-next c =
    subst (λ (o : Owned). IsLastOut c.shard.new.self o) (sym c.in-Err.ensures.value_returned)
    (given_next c.args.processes c.lend-rest.result.now c.shard.new.self c.in-Ok.given c.in-Ok.ensures.gives)

pub returns-in-Err : goal.returns-in-Err
returns-in-Err c =
    let closed : is_there c.args.shard.now.place.value ≡ false = c.args.shard.now.told ∙ c.if-shard.false in
    let some : 0 < c.lend-rest.result.now.left = omega (arith, c.if-schedulers_left-eq0.false, c.schedulers_left.ensures) in
    let few : c.args.processes ≤ c.lend-rest.result.now.first = omega (arith, c.if-processes-processes_left.false, c.processes_left.ensures) in
    let takes = subst (λ (o : Owned). TakesBack c.shard.new.self o c.join.new.self) c.in-Err.ensures.value_returned c.join.ensures.takes in
    opens_shard c.args.processes _ _ c.lend-rest.result.now _ _ _ (c.as_place.ensures.value ∙ c.lend-rest.ensures.value) closed
    (cuts_some c.args.processes c.lend-rest.result.now _ _ _ some few (inr (inr (inr (record {
      again = c.join.new.self;
      hub_is = refl;
      same = taken_back c.args.processes c.lend-rest.result.now c.shard.new.self c.join.new.self c.in-Ok.given some c.in-Ok.ensures.gives takes;
      shard_is = none_there c.args.shard.now.place.value closed;
      told = refl;
    })))))

pub returns-in-Ok-new : goal.returns-in-Ok-new
returns-in-Ok-new c =
    let closed : is_there c.args.shard.now.place.value ≡ false = c.args.shard.now.told ∙ c.if-shard.false in
    let some : 0 < c.lend-rest.result.now.left = omega (arith, c.if-schedulers_left-eq0.false, c.schedulers_left.ensures) in
    let few : c.args.processes ≤ c.lend-rest.result.now.first = omega (arith, c.if-processes-processes_left.false, c.processes_left.ensures) in
    opens_shard c.args.processes _ _ c.lend-rest.result.now _ _ _ (c.as_place.ensures.value ∙ c.lend-rest.ensures.value) closed
    (cuts_some c.args.processes c.lend-rest.result.now _ _ _ some few (inl (record {
      left = c.shard.new.self;
      given = c.in-Ok.given;
      hub_is = refl;
      shard_is = c.fill.ensures ∙ ap (λ (s : Owned). Some s) c.in-Ok-new.ensures.ok;
      gives = c.in-Ok.ensures.gives;
      told = refl;
    })))
