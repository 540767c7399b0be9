use Rattle.std.proofs.Common.{◌∙◌, ◌++◌, ap, subst, sym}
use Rattle.ert_table.specs.Desks.{settings_of, view_of}
use Rattle.ert_timers.proofs.Passing.{loses_none}
use Rattle.ert_timers.proofs.part.WheelPart.advance_some.Goals as goal
use Rattle.ert_timers.specs.{Parts.Part, Trying.HasExpiredSome}

pub returns-in_err-reserve-clause-loses : goal.returns-in_err-reserve-clause-loses
returns-in_err-reserve-clause-loses c = loses_none c.args.self.now

pub returns-clause-call : goal.returns-clause-call
returns-clause-call c =
    let g = settings_of c.args.desk.now in
    let v = view_of c.args.pass.now in
    let u = view_of c.advance_with-answer.new.pass in
    let to = c.advance_with-answer.result.0 in
    let left = c.advance_with-answer.result.1 in
    let mid = c.reserve.new.self in
    let new = c.advance_with-answer.new.expired in
    let h = subst (λ (q : Part). HasExpiredSome g v c.args.self.now q c.args.most to left mid new u) (sym c.keep_list.ensures)
    (subst (λ (p : Part). HasExpiredSome g v p c.advance_with-answer.new.self c.args.most to left mid new u) c.lend_list.ensures.part
    c.advance_with-answer.ensures.call) in
    record {
      gained = h.gained;
      call = h.call;
      held = h.held;
      none = h.none;
      expired = h.expired ∙ ap (λ rows. rows ++ h.gained) c.reserve.ensures.rows;
      waits = h.waits;
    }
