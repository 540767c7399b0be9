use Rattle.std.proofs.Common.{◌≡◌, ◌+◌, ◌∙◌, Some, drop, length, ap, subst, sym, arith, get_or}
use Rattle.ert_table.specs.Desks.{settings_of, view_of}
use Rattle.ert_timers.specs.{Expiring.{AreDue, IsReady, Expires, ExpiresSome}, Parts.Part}
use Rattle.ert_timers.proofs.{Trials.{expires_none, expires_more, expires_gone_on, still_held}, Dues.{is_next, first_held, next_told, none_told, none_left, row_stays}}
use Rattle.ert_timers.proofs.part.WheelPart.expire_all.Goals as goal
use Rattle.ert_wheel.specs.{Rows.{key_of, row_told, rows_told}, declared.row.HeldRow.HeldRow, declared.row.Row.Row, Standing.StayOrFall}
use Rattle.ert_wheel.proofs.Looking.{key_low}

none : HeldRow
none = record { deadline = 0; slot = 0 }

pub loop-row-init : goal.loop-row-init
loop-row-init c = record {
  belongs = c.requires.belongs;
  holds = c.requires.holds;
  call = expires_none (settings_of c.args.desk.now) (view_of c.args.pass.now) c.args.self.now c.args.to (rows_told c.args.self.now.keys c.args.due.now) c.args.expired.now
      c.requires.ready;
}

pub expire-requires-clause-first : goal.expire-requires-clause-first
unfolding none
expire-requires-clause-first c =
    let told = c.args.due.now in
    let due = rows_told c.args.self.now.keys told in
    let n = c.loop-row.row-index in
    let h = (view_of c.loop-row.pass).front in
    let g = settings_of c.args.desk.now in
    let row = row_told c.args.self.now.keys (get_or told n none) in
    is_next g h c.loop-row.self c.args.to row (drop (n + 1) due)
    (subst (IsReady g h c.loop-row.self c.args.to) (next_told c.args.self.now.keys told n none c.loop-row-test.true) c.loop-row.invariant.call.ready)

pub expire-requires-clause-held : goal.expire-requires-clause-held
unfolding none
expire-requires-clause-held c =
    let told = c.args.due.now in
    let due = rows_told c.args.self.now.keys told in
    let n = c.loop-row.row-index in
    let h = (view_of c.loop-row.pass).front in
    let g = settings_of c.args.desk.now in
    let row = row_told c.args.self.now.keys (get_or told n none) in
    let held =
    first_held g h c.loop-row.self c.args.to row (drop (n + 1) due)
    (subst (IsReady g h c.loop-row.self c.args.to) (next_told c.args.self.now.keys told n none c.loop-row-test.true) c.loop-row.invariant.call.ready) in
    held ∙ ap (λ (r : Row). Some (key_of r)) (sym (row_stays c.args.self.now.keys c.loop-row.self.keys (get_or told n none) held))

pub expire-requires-clause-low : goal.expire-requires-clause-low
unfolding none
expire-requires-clause-low c =
    let told = c.args.due.now in
    let due = rows_told c.args.self.now.keys told in
    let n = c.loop-row.row-index in
    let h = (view_of c.loop-row.pass).front in
    let g = settings_of c.args.desk.now in
    let row = row_told c.args.self.now.keys (get_or told n none) in
    let ready = c.loop-row.invariant.call.ready in
    let held =
    first_held g h c.loop-row.self c.args.to row (drop (n + 1) due)
    (subst (IsReady g h c.loop-row.self c.args.to) (next_told c.args.self.now.keys told n none c.loop-row-test.true) c.loop-row.invariant.call.ready) in
    omega (arith, ready.stands.holds.wide, ready.stands.holds.many, key_low c.loop-row.self.keys _ _ held)

pub loop-row-preserved : goal.loop-row-preserved
unfolding none
loop-row-preserved c =
    let told = c.args.due.now in
    let due = rows_told c.args.self.now.keys told in
    let n = c.loop-row.row-index in
    let h = (view_of c.loop-row.pass).front in
    let g = settings_of c.args.desk.now in
    let row = row_told c.args.self.now.keys (get_or told n none) in
    let held =
    first_held g h c.loop-row.self c.args.to row (drop (n + 1) due)
    (subst (IsReady g h c.loop-row.self c.args.to) (next_told c.args.self.now.keys told n none c.loop-row-test.true) c.loop-row.invariant.call.ready) in
    let one : Expires g (view_of c.loop-row.pass) c.loop-row.self c.expire.new.self row c.loop-row.expired c.expire.new.expired (view_of c.expire.new.pass) =
    subst (λ (r : Row). Expires g (view_of c.loop-row.pass) c.loop-row.self c.expire.new.self r c.loop-row.expired c.expire.new.expired (view_of c.expire.new.pass))
    (row_stays c.args.self.now.keys c.loop-row.self.keys (get_or told n none) held) c.expire.ensures.call in
    record {
      belongs = c.expire.ensures.belongs;
      holds = still_held (view_of c.loop-row.pass) (view_of c.expire.new.pass) c.loop-row.self.number c.expire.new.self.number
          c.loop-row.invariant.holds one.step.actors (ap (λ (p : Part). p.number) one.part);
      call = expires_more g (view_of c.args.pass.now) c.args.self.now c.loop-row.self c.expire.new.self c.args.to due n row
          c.args.expired.now c.loop-row.expired c.expire.new.expired (view_of c.loop-row.pass) (view_of c.expire.new.pass)
          c.loop-row.invariant.call c.loop-row.invariant.holds.sched (next_told c.args.self.now.keys told n none c.loop-row-test.true)
          c.loop-row.invariant.holds.wheel one;
    }

pub go_on-requires : goal.go_on-requires
go_on-requires c =
    none_left c.loop-row.self c.args.to
    (subst (AreDue c.loop-row.self c.args.to) (none_told c.args.self.now.keys c.args.due.now c.loop-row.row-index c.loop-row-test.false)
    c.loop-row.invariant.call.ready.due)

pub returns-clause-call : goal.returns-clause-call
returns-clause-call c =
    let g = settings_of c.args.desk.now in
    let v = view_of c.args.pass.now in
    let u = view_of c.loop-row.pass in
    let told = c.args.due.now in
    let due = rows_told c.args.self.now.keys told in
    let all : c.loop-row.row-index ≡ length told = omega (arith, c.loop-row-test.false, c.loop-row.invariant.call) in
    subst (λ (q : Part). ExpiresSome g v c.args.self.now q c.args.to due (length told) c.args.expired.now c.loop-row.expired u) (sym c.go_on.ensures.part)
    (expires_gone_on g v c.args.self.now c.loop-row.self c.args.to c.go_on.new.self.stands due (length told) c.args.expired.now c.loop-row.expired u
    (subst (λ n. StayOrFall c.loop-row.self.keys n c.loop-row.self.stands c.go_on.new.self.stands) (ap (λ (q : Part). q.passed) c.go_on.ensures.part) c.go_on.ensures.stands)
    (subst (λ n. ExpiresSome g v c.args.self.now c.loop-row.self c.args.to due n c.args.expired.now c.loop-row.expired u) all c.loop-row.invariant.call))

pub returns-clause-on : goal.returns-clause-on
returns-clause-on c = omega (arith, ap (λ (q : Part). q.passed) c.go_on.ensures.part, c.requires.few)
