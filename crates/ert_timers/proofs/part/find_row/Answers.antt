use Rattle.std.proofs.Common.{List, Option, Some, None, length, option_map, refl, sym, ap, subst, ◌∙◌, arith}
use Rattle.ert_timers.specs.Owners.{Thinned, FindsRow}
use Rattle.ert_timers.proofs.Owners.{thinned_none, thinned_more, linked_falls, finds_some, finds_none, no_row, told_row}
use Rattle.ert_timers.proofs.part.find_row.Goals as goal
use Rattle.ert_wheel.specs.{Rings.with_place, Rows.{key_in, row_told}, declared.row.Key.Key}

pub loop-slot-init : goal.loop-slot-init
loop-slot-init c = record {
  keys_stay = refl;
  stored_stays = λ n. refl;
  joined_stays = λ joined. joined;
  slots_stay = refl;
  homes_stay = refl;
  passed_stays = refl;
  stands_stay = refl;
  written_stays = refl;
  thins = λ places are. (places, thinned_none c.args.wheel.now.owners c.args.wheel.now.keys places are);
}

pub newest_owned-requires : goal.newest_owned-requires
newest_owned-requires c = omega (arith, c.requires.process, c.loop-slot.invariant.homes_stay)

pub row-requires : goal.row-requires
row-requires c = c.in-Some.ensures.written

pub part_from-requires-clause-may : goal.part_from-requires-clause-may
part_from-requires-clause-may c =
    let t = c.loop-slot.invariant.thins c.requires.may.places c.requires.may.are in
    record { places = t.0; are = t.1.are; low = (c.in-Some.ensures.finds t.0 t.1.are).stands.0 }

pub loop-slot-preserved : goal.loop-slot-preserved
loop-slot-preserved c = record {
  keys_stay = c.part_from.ensures.keys ∙ c.loop-slot.invariant.keys_stay;
  stored_stays = λ n. c.part_from.ensures.stored n ∙ c.loop-slot.invariant.stored_stays n;
  joined_stays = λ joined. c.part_from.ensures.joined (c.loop-slot.invariant.joined_stays joined);
  slots_stay = c.part_from.ensures.slots ∙ c.loop-slot.invariant.slots_stay;
  homes_stay = c.part_from.ensures.homes ∙ c.loop-slot.invariant.homes_stay;
  passed_stays = c.part_from.ensures.passed ∙ c.loop-slot.invariant.passed_stays;
  stands_stay = c.part_from.ensures.stands ∙ c.loop-slot.invariant.stands_stay;
  written_stays = c.part_from.ensures.written ∙ c.loop-slot.invariant.written_stays;
  thins = λ places are.
      let t = c.loop-slot.invariant.thins places are in
      let keys = c.loop-slot.wheel.keys in
      let none =
      no_row keys c.in-Some.slot (option_map (row_told keys) c.row.result) (told_row keys c.in-Some.slot (key_in keys c.in-Some.slot) c.row.result refl c.row.ensures)
      (ap (option_map (row_told keys)) c.in_default-row.is) in
      let left = with_place t.0 c.in-Some.slot None in (
        left,
        subst (λ ks. Thinned c.part_from.new.wheel.owners ks places left) (sym c.part_from.ensures.keys)
            (thinned_more c.loop-slot.wheel.owners c.part_from.new.wheel.owners keys places t.0 c.in-Some.slot t.1 none c.part_from.ensures.parted),
      );
}

pub loop-slot-smaller : goal.loop-slot-smaller
loop-slot-smaller c =
    let t = c.loop-slot.invariant.thins c.requires.may.places c.requires.may.are in
    let found = c.in-Some.ensures.finds t.0 t.1.are in
    linked_falls c.loop-slot.wheel.owners c.part_from.new.wheel.owners t.0 c.in-Some.slot found.stands.1.place t.1.are
    (c.part_from.ensures.parted t.0 t.1.are) c.part_from.ensures.slots found.stands.0 found.stands.1.has

pub returns-in-Some-row-clause-finds : goal.returns-in-Some-row-clause-finds
returns-in-Some-row-clause-finds c = λ places are.
    let t = c.loop-slot.invariant.thins places are in
    let keys = c.loop-slot.wheel.keys in
    subst (λ ks. FindsRow ks places c.args.process c.loop-slot.wheel.owners (Some (row_told ks c.in-Some-row.row))) c.loop-slot.invariant.keys_stay
    (finds_some c.loop-slot.wheel.owners keys places t.0 c.args.process _ c.in-Some.slot (option_map (row_told keys) c.row.result) (row_told keys c.in-Some-row.row) t.1
    (c.in-Some.ensures.finds t.0 t.1.are) (told_row keys c.in-Some.slot (key_in keys c.in-Some.slot) c.row.result refl c.row.ensures)
    (ap (option_map (row_told keys)) c.in-Some-row.is))

pub returns-clause-finds : goal.returns-clause-finds
returns-clause-finds c = λ places are.
    let t = c.loop-slot.invariant.thins places are in
    let keys = c.loop-slot.invariant.keys_stay in
    subst (λ ks. FindsRow ks places c.args.process c.loop-slot.wheel.owners None) keys
    (finds_none c.loop-slot.wheel.owners c.loop-slot.wheel.keys places t.0 c.args.process
    (ap (λ (ks : List (Option Key)). length ks) keys ∙ (c.requires.may.wide ∙ sym c.loop-slot.invariant.slots_stay)) t.1
    (c.in_default.ensures.finds t.0 t.1.are))

pub part_from-requires-clause-written : goal.part_from-requires-clause-written
part_from-requires-clause-written c = c.in-Some.ensures.written
