use Rattle.std.proofs.Common.{◌≡◌, suc, ◌<◌, List, length, slice_index_or, Some, refl, sym, subst, ◌∙◌}
use Rattle.std.proofs.lemmas.Option.{slice_get_read}
use Rattle.std.specs.List.{All, slice_get}
use Rattle.ert_shard.proofs.Returned.{come_more, come_begins, ours_left}
use Rattle.ert_shard.specs.{Hubs.{IsLastOut, AreOurs, ComeBack}, Shards.Owned}
use Rattle.ert_shard.proofs.hub.Hub.join_all.Goals as goal

pub loop-place-preserved : goal.loop-place-preserved
loop-place-preserved c =
    let i = c.loop-place.invariant in
    let old = c.args.self.now in
    let shards = c.args.shards.now.items in
    let mid = c.loop-place.self in
    let left = c.loop-place.shards.items in
    let place = c.in-Some.place in
    let shard = c.remove-shard.result in
    let takes = c.join.ensures.takes in
    let low : place < length left = subst (λ (l : List Owned). place < length l) c.deref.ensures.value c.in-Some.ensures.some.0 in
    let at : slice_get left place ≡ Some shard = slice_get_read left (length left) place shard refl low c.remove-shard.ensures.value in
    let next : IsLastOut mid shard = subst (λ (x : Owned). IsLastOut mid x) (sym c.remove-shard.ensures.value)
    (subst (λ (l : List Owned). IsLastOut mid (slice_index_or l place shard)) c.deref.ensures.value (c.in-Some.ensures.some.1 shard)) in
    record {
      count = suc i.count;
      back = subst (λ l. ComeBack (suc i.count) old shards c.join.new.self l) (sym c.remove-shard.ensures.items)
          (come_more i.count old shards mid left place shard c.join.new.self i.back at next takes);
      ours = subst (λ l. AreOurs c.join.new.self l) (sym c.remove-shard.ensures.items) (ours_left mid c.join.new.self shard left place takes i.ours);
      table = takes.table ∙ i.table;
      settings = takes.settings ∙ i.settings;
    }

pub returns : goal.returns
returns c =
    let i = c.loop-place.invariant in
    record {
      count = i.count;
      back = i.back;
      begins = come_begins i.count c.args.self.now c.args.shards.now.items c.loop-place.self c.loop-place.shards.items i.back;
      table = i.table;
      settings = i.settings;
      ours = i.ours;
      none = subst (λ (l : List Owned). All (λ o. IsLastOut c.loop-place.self o → ⊥) l) c.deref.ensures.value (c.in_default.ensures.none refl);
    }
