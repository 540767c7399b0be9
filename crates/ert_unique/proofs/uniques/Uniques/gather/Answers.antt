use Rattle.std.proofs.Common.{◌∙◌, arith, ap}
use Rattle.std.proofs.lemmas.List.Elements.{All-pop}
use Rattle.std.specs.Prelude.{Some}
use Rattle.ert_unique.specs.{Passes.{BelongsToUniques, draws_together}, Steps.UniqueSitter}
use Rattle.ert_unique.proofs.{Dividing.unites, Gathering.{gathers_first, gathers_one}}
use Rattle.ert_unique.proofs.uniques.Uniques.gather.Goals as goal

pub loop-pass-init : goal.loop-pass-init
loop-pass-init c =
    let first = c.in-Some.first in
    let left = c.pop.new.self.items in
    let parts = All-pop (BelongsToUniques c.args.self.now) c.args.passes.items left (Some first) c.in-Some.ensures.items c.requires.all.belong in
    record {
      table = parts.1.table;
      bare = first.bare;
      opened = parts.1.opened;
      share = omega (arith, first.share, c.requires.all.count, c.args.passes.ok.0, c.in-Some.ensures.len);
      belong = parts.0;
      draws = gathers_first c.args.passes.items left first c.in-Some.ensures.items;
    }

pub join_seat-requires : goal.join_seat-requires
join_seat-requires c =
    let table = c.args.self.now.table in
    let kept = c.loop-pass.invariant in
    let seat = c.loop-pass.seat in
    let pass = c.in-Some-pop.pass in
    let parts = All-pop (BelongsToUniques c.args.self.now) c.loop-pass.passes.items c.pop-in-loop-pass.new.self.items (Some pass)
    c.in-Some-pop.ensures.items kept.belong in (
      kept.table,
      parts.1.table,
      pass.bare,
      omega (arith, c.args.self.now.one_word),
      unites table.shared.key seat.id seat.me.0 pass.seat.id pass.seat.me.0 kept.opened,
    )

pub loop-pass-preserved : goal.loop-pass-preserved
loop-pass-preserved c =
    let kept = c.loop-pass.invariant in
    let seat = c.loop-pass.seat in
    let pass = c.in-Some-pop.pass in
    let left = c.pop-in-loop-pass.new.self.items in
    let parts = All-pop (BelongsToUniques c.args.self.now) c.loop-pass.passes.items left (Some pass) c.in-Some-pop.ensures.items kept.belong in
    let now = c.join_seat.new.seat in
    let me = c.join_seat.ensures.2 in
    record {
      table = c.join_seat.ensures.0 ∙ kept.table;
      bare = ap (λ (x : UniqueSitter). x.1) me ∙ kept.bare;
      opened = ap (λ (x : UniqueSitter). x.0.passes) me ∙ kept.opened;
      share = omega (arith, ap (λ (x : UniqueSitter). x.0.share) me, pass.share, kept.share, c.in-Some-pop.ensures.len);
      belong = parts.0;
      draws = rw me
          (gathers_one (draws_together c.args.passes.items) seat.me.0.draws c.loop-pass.passes.items left pass c.in-Some-pop.ensures.items kept.draws);
    }
