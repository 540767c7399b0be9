use Rattle.std.proofs.Common.{List, ℕ, inr, string_bytes, subst}
use Rattle.ert_io.proofs.Takes.{write_front}
use Rattle.ert_io.specs.Told.{sink_told, TakesFront}
use Rattle.ert_explain.proofs.telling.explain.Goals as goal

pub returns-clause-told : goal.returns-clause-told
returns-clause-told g c =
    inr (record {
      text = string_bytes c.in-Ok.message;
      is = c.in-Ok.ensures;
      writes =
          subst (λ (t : List ℕ). TakesFront (sink_told (g.E.Sink.taken c.args.errors.now) (g.E.Sink.room c.args.errors.now))
          (sink_told (g.E.Sink.taken c.write_all.new.sink) (g.E.Sink.room c.write_all.new.sink)) t) c.as_bytes.ensures.value
          (write_front c.write_all.result _ _ _ _ c.as_bytes.result.now c.write_all.ensures.ok c.write_all.ensures.room c.write_all.ensures.err
          c.write_all.ensures.written c.write_all.ensures.room_left);
    })
