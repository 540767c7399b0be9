use Rattle.std.proofs.Common.{◌<◌, [], ◌∷◌, ◌++◌, map, drop, length, ap, ◌∙◌, arith, length-append}
use Rattle.std.specs.Prelude.{slice_set}
use Rattle.ert_world.proofs.Mailed.{took_more, found_empty, found_exited}
use Rattle.ert_c.proofs.Placed.{placed_more}
use Rattle.ert_c.specs.Told.{mail_as}
use Rattle.ert_c.proofs.mail_calls.take_places.Goals as goal

pub loop-taken-preserved : goal.loop-taken-preserved
loop-taken-preserved c =
    let i = c.loop-taken.invariant in
    let kept = c.args.mails.now in
    let more = length-append i.took (c.in-Mail.mail ∷ []) in
    let wide : length i.took < length kept = omega (arith, i.count, c.loop-taken-test.true, c.loop-taken.auto.mails) in
    let first = map mail_as i.took ++ drop (length i.took) kept in
    record {
      took = i.took ++ c.in-Mail.mail ∷ [];
      count = omega (arith, more, i.count);
      few = omega (arith, wide, i.count);
      places = ap (λ ms. slice_set ms c.loop-taken.taken c.mail_as.result) i.places
          ∙ (ap (λ n. slice_set first n c.mail_as.result) i.count
          ∙ (ap (λ m. slice_set first (length i.took) m) c.mail_as.ensures ∙ placed_more mail_as i.took c.in-Mail.mail kept wide));
      goes = took_more c.args.world.now c.loop-taken.world c.take.new.self c.args.process i.took c.in-Mail.mail c.take.result c.in-Mail.is i.goes c.take.ensures.call;
    }

pub returns-in-Empty : goal.returns-in-Empty
returns-in-Empty c =
    let i = c.loop-taken.invariant in
    record {
      mails = i.took;
      makes = found_empty c.args.world.now c.loop-taken.world c.take.new.self c.args.process (length c.args.mails.now) i.took c.take.result c.in-Empty.is
          (omega (arith, i.count, c.loop-taken-test.true, c.loop-taken.auto.mails)) i.goes c.take.ensures.call;
      count = i.count;
      places = i.places;
    }

pub returns-in-Exited : goal.returns-in-Exited
returns-in-Exited c =
    let i = c.loop-taken.invariant in
    record {
      mails = i.took;
      makes = found_exited c.args.world.now c.loop-taken.world c.take.new.self c.args.process (length c.args.mails.now) i.took c.take.result c.in-Exited.is
          (omega (arith, i.count, c.loop-taken-test.true, c.loop-taken.auto.mails)) i.goes c.take.ensures.call;
      count = i.count;
      places = i.places;
    }
