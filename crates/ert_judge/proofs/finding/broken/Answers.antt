use Rattle.std.proofs.Common.{rules, ◌∙◌, sym, ap, FitsSigned, w64, to_z-of_z}
use Rattle.ert_defs.specs.Lines.{Face}
use Rattle.ert_judge.proofs.Seen.{tick_seen, shift_seen, look_seen, off_seen, watch_seen, tell_seen, tick_met, none_map}
use Rattle.ert_judge.specs.Parts.{mail_at}
use Rattle.ert_judge.proofs.finding.broken.Goals as goal

pub returns-in-Tick : goal.returns-in-Tick
returns-in-Tick c = record {
  some = λ c' is _.
      let now : FitsSigned w64 c.in-Tick.now = search rules in
      rw c.in-Tick.is
      (tick_seen c.args.judge.now.settings c' c.args.judge.now.clock c.in-Tick.reading c.in-Tick.act c.in-Tick.now c.of_tick.result is
      (simp to_z-of_z at c.of_tick.ensures.some));
  none = λ c' is own. let now : FitsSigned w64 c.in-Tick.now = search rules in rw c.in-Tick.is
      (none_map c.of_tick.result (λ p. (tick_met c.args.judge.now.settings c' c.args.judge.now.clock c.in-Tick.reading c.in-Tick.act c.in-Tick.now is p, tt))
      (simp to_z-of_z at c.of_tick.ensures.none));
}

pub returns-in-Shift : goal.returns-in-Shift
returns-in-Shift c = record {
  some = λ c' is _.
      let offset : FitsSigned w64 c.in-Shift.offset = search rules in
      rw c.in-Shift.is
      (shift_seen c.args.judge.now.settings c' c.args.judge.now.clock c.in-Shift.offset c.in-Shift.state c.of_shift.result is
      (simp to_z-of_z at c.of_shift.ensures.some));
  none = λ c' is own. let offset : FitsSigned w64 c.in-Shift.offset = search rules in rw c.in-Shift.is
      (none_map c.of_shift.result (λ p. (is.due ∙ p, tt)) (simp to_z-of_z at c.of_shift.ensures.none));
}

pub returns-in-Look : goal.returns-in-Look
returns-in-Look c = record {
  some = λ c' is _.
      let now : FitsSigned w64 c.in-Look.now = search rules in
      rw c.in-Look.is
      (look_seen c.args.judge.now.settings c' c.args.judge.now.clock c.in-Look.now c.of_look.result is (simp to_z-of_z at c.of_look.ensures.some));
  none = λ c' is own. let now : FitsSigned w64 c.in-Look.now = search rules in rw c.in-Look.is
      (none_map c.of_look.result (λ p. (tt, p ∙ sym (ap (λ (f : Face). f.time) is.face))) (simp to_z-of_z at c.of_look.ensures.none));
}

pub returns-in-Off : goal.returns-in-Off
returns-in-Off c = record {
  some = λ c' is _.
      let offset : FitsSigned w64 c.in-Off.offset = search rules in
      rw c.in-Off.is
      (off_seen c.args.judge.now.settings c' c.args.judge.now.clock c.in-Off.offset c.in-Off.state c.of_off.result is (simp to_z-of_z at c.of_off.ensures.some));
  none = λ c' is own. let offset : FitsSigned w64 c.in-Off.offset = search rules in rw c.in-Off.is
      (none_map c.of_off.result
      (λ p. (tt, (p.0 ∙ sym (ap (λ (f : Face). f.offset) is.face), p.1 ∙ sym (ap (λ (f : Face). f.state) is.face))))
      (simp to_z-of_z at c.of_off.ensures.none));
}

pub returns-in-Arm : goal.returns-in-Arm
returns-in-Arm c = record {
  some = λ c' _ _. rw c.in-Arm.is (c.of_arm.ensures.some c');
  none = λ c' is own. rw c.in-Arm.is
      (none_map c.of_arm.result (λ p. (p, tt)) (c.of_arm.ensures.none c'));
}

pub returns-in-Probe : goal.returns-in-Probe
returns-in-Probe c = record {
  some = λ c' _ _. rw c.in-Probe.is (c.of_probe.ensures.some c');
  none = λ c' is own. rw c.in-Probe.is
      (none_map c.of_probe.result (λ p. (tt, p)) c.of_probe.ensures.none);
}

pub returns-in-Peek : goal.returns-in-Peek
returns-in-Peek c = record {
  some = λ c' _ _. rw c.in-Peek.is (c.of_left.ensures.some c');
  none = λ c' is own. rw c.in-Peek.is
      (none_map c.of_left.result (λ p. (tt, p)) (c.of_left.ensures.none c'));
}

pub returns-in-Cancel : goal.returns-in-Cancel
returns-in-Cancel c = record {
  some = λ c' _ _. rw c.in-Cancel.is (c.of_left-in-Cancel.ensures.some c');
  none = λ c' is own. rw c.in-Cancel.is
      (none_map c.of_left-in-Cancel.result (λ p. (tt, p)) (c.of_left-in-Cancel.ensures.none c'));
}

pub returns-in-Expire : goal.returns-in-Expire
returns-in-Expire c = record {
  some = λ c' _ own. rw c.in-Expire.is (c.of_expire.ensures.some c' own);
  none = λ c' is own. rw c.in-Expire.is
      (c.of_expire.ensures.none c' own);
}

pub returns-in-Orphan : goal.returns-in-Orphan
returns-in-Orphan c = record {
  some = λ c' _ _. rw c.in-Orphan.is (c.of_orphan.ensures.some c');
  none = λ c' is own. rw c.in-Orphan.is
      (c.of_orphan.ensures.none c');
}

pub returns-in-Deliver : goal.returns-in-Deliver
returns-in-Deliver c = record {
  some = λ c' _ _. rw c.in-Deliver.is c.of_deliver.ensures.some;
  none = λ c' is own. rw c.in-Deliver.is
      (none_map c.of_deliver.result (λ p. (p, tt)) c.of_deliver.ensures.none);
}

pub returns-in-Drop : goal.returns-in-Drop
returns-in-Drop c = record {
  some = λ c' _ _. rw c.in-Drop.is c.of_drop.ensures.some;
  none = λ c' is own. rw c.in-Drop.is
      (none_map c.of_drop.result (λ p. (p, tt)) c.of_drop.ensures.none);
}

pub returns-in-Mark : goal.returns-in-Mark
returns-in-Mark c = record {
  some = λ c' _ _. rw c.in-Mark.is c.of_mark.ensures.some;
  none = λ c' is own. rw c.in-Mark.is
      (none_map c.of_mark.result (λ p. (tt, p)) c.of_mark.ensures.none);
}

pub returns-in-Advanced : goal.returns-in-Advanced
returns-in-Advanced c = record {
  some = λ c' _ own. rw c.in-Advanced.is (c.of_advanced.ensures.some c' own);
  none = λ c' is own. rw c.in-Advanced.is
      (none_map c.of_advanced.result (λ p. (p, tt)) (c.of_advanced.ensures.none c' own));
}

pub returns-in-Pick : goal.returns-in-Pick
returns-in-Pick c = record {
  some = λ c' _ _. rw c.in-Pick.is c.of_pick.ensures.some;
  none = λ c' is own. rw c.in-Pick.is
      (none_map c.of_pick.result (λ p. (p, tt)) c.of_pick.ensures.none);
}

pub returns-in-Answer : goal.returns-in-Answer
returns-in-Answer c = record {
  some = λ c' _ _. rw c.in-Answer.is c.of_answer.ensures.some;
  none = λ c' is own. rw c.in-Answer.is
      (none_map c.of_answer.result (λ p. (p, tt)) (c.of_answer.ensures.none c'));
}

pub returns-in-Take : goal.returns-in-Take
returns-in-Take c = record {
  some = λ c' _ _. rw c.in-Take.is c.of_take.ensures.some;
  none = λ c' is own. rw c.in-Take.is
      (none_map c.of_take.result (λ p. (p, tt)) c.of_take.ensures.none);
}

pub returns-in-Unwatch : goal.returns-in-Unwatch
returns-in-Unwatch c = record {
  some = λ c' _ _. rw c.in-Unwatch.is c.of_unwatch.ensures.some;
  none = λ c' is own. rw c.in-Unwatch.is
      (none_map c.of_unwatch.result (λ p. (p, tt)) c.of_unwatch.ensures.none);
}

pub returns-in-Watch : goal.returns-in-Watch
returns-in-Watch c = record {
  some = λ c' is _.
      let offset : FitsSigned w64 c.in-Watch.offset = search rules in
      rw c.in-Watch.is
      (watch_seen c.args.judge.now.settings c' c.args.judge.now.clock (mail_at c.args.judge.now.mailboxes c.in-Watch.process) c.in-Watch.monitor c.in-Watch.offset c.of_watch.result is
      (simp to_z-of_z at c.of_watch.ensures.some));
  none = λ c' is own. let offset : FitsSigned w64 c.in-Watch.offset = search rules in rw c.in-Watch.is
      (none_map c.of_watch.result (λ p. ((p.0, p.1), p.2 ∙ sym (ap (λ (f : Face). f.offset) is.face))) (simp to_z-of_z at c.of_watch.ensures.none));
}

pub returns-in-Tell : goal.returns-in-Tell
returns-in-Tell c = record {
  some = λ c' is _.
      let offset : FitsSigned w64 c.in-Tell.offset = search rules in
      rw c.in-Tell.is
      (tell_seen c.args.judge.now.settings c' c.args.judge.now.clock c.in-Tell.offset c.of_tell.result is (simp to_z-of_z at c.of_tell.ensures.some));
  none = λ c' is own. let offset : FitsSigned w64 c.in-Tell.offset = search rules in rw c.in-Tell.is
      (none_map c.of_tell.result (λ p. (tt, p ∙ sym (ap (λ (f : Face). f.offset) is.face))) (simp to_z-of_z at c.of_tell.ensures.none));
}
