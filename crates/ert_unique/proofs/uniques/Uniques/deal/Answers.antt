use Rattle.std.proofs.Common.{◌≡◌, ◌+◌, ◌-◌, ◌∙◌, arith, [], ◌∷◌, ◌++◌, refl, sym, ap, subst, length, map, All}
use Rattle.std.proofs.lemmas.List.{length-map, map_push, Elements.All-push}
use Rattle.ert_unique.specs.{Passes.{number_of, BelongsToUniques, IsNew}, Steps.UniqueSitter, Views.{first_share, keeping}}
use Rattle.ert_unique.proofs.{Dividing.divides, Gathering.{below_more, length_below}}
use Rattle.ert_unique.proofs.uniques.Uniques.deal.Goals as goal

pub split_seat-requires : goal.split_seat-requires
split_seat-requires c =
    let table = c.args.self.now.table in
    let seat = c.loop-number.seat in
    let rest = c.loop-number.invariant.rest in
    let share : seat.me.0.share ≡ c.args.count - c.loop-number.number = ap (λ (x : UniqueSitter). x.0.share) rest in
    let draws : length seat.me.0.draws ≡ 0 = ap (λ (x : UniqueSitter). length x.0.draws) rest in (
      c.loop-number.invariant.table ∙ c.requires.table,
      omega (arith, c.args.self.now.one_word),
      divides table.shared.key seat.id seat.me.0 (seat.me.0.share - 1) 1 (ap (λ (x : UniqueSitter). x.0.passes) rest ∙ c.requires.count)
          (omega (arith, share, c.loop-number-test.true)) (omega (arith, draws)),
    )

pub loop-number-preserved : goal.loop-number-preserved
loop-number-preserved c =
    let kept = c.loop-number.invariant in
    let number = c.loop-number.number in
    let items = c.loop-number.passes.items in
    let split = c.split_seat.ensures in
    let less : c.args.count - number - 1 ≡ c.args.count - (number + 1) = omega arith in
    record {
      table = split.0 ∙ kept.table;
      rest = split.2 ∙ (ap (λ (x : UniqueSitter). (keeping x.0 (x.0.share - 1), x.1)) kept.rest ∙ ap (λ n. (keeping (first_share c.args.count) n, [])) less);
      belong = subst (All (BelongsToUniques c.args.self.now)) (sym c.in_ok-push.ensures.items)
          (All-push (BelongsToUniques c.args.self.now) items _ kept.belong
          (record { table = split.3 ∙ (kept.table ∙ c.requires.table); opened = ap (λ (x : UniqueSitter). x.0.passes) split.4 ∙ (ap (λ (x : UniqueSitter). x.0.passes) kept.rest ∙ c.requires.count) }));
      new = subst (All IsNew) (sym c.in_ok-push.ensures.items)
          (All-push IsNew items _ kept.new
          (record { draws = ap (λ (x : UniqueSitter). x.0.draws) split.4; seen = ap (λ (x : UniqueSitter). x.0.seen) split.4 ∙ ap (λ (x : UniqueSitter). x.0.seen) kept.rest; plains = refl }));
      numbers = ap (map number_of) c.in_ok-push.ensures.items
          ∙ (map_push number_of items _ ∙ (ap (λ l. l ++ number ∷ []) kept.numbers ∙ below_more number));
    }

pub returns-clause-all : goal.returns-clause-all
returns-clause-all c =
    let items = c.loop-number.passes.items in
    record {
      count = omega (
        arith,
        length-map items number_of,
        ap length c.loop-number.invariant.numbers,
        length_below c.loop-number.number,
        c.loop-number.auto.number-end,
        c.loop-number-test.false,
        c.requires.count,
      );
      belong = c.loop-number.invariant.belong;
    }
