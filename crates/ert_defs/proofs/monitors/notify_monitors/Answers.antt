use Rattle.std.proofs.Common.{arith, ◌<◌, List, [], ◌∷◌, get_or, slice_index_or, ◌≡◌, ◌∙◌, sym, ap, ℤ, pos, ◌++◌, length, take, to_z, of_z, w64, to_z-of_z, append_assoc, length-append}
use Rattle.ert_defs.specs.{Mails.changes_of, declared.mail.Mail.Mail, declared.mail.Monitor.Monitor}
use Rattle.ert_defs.proofs.MonitorLaws.{changes_more, told_more, told_whole, untold}
use Rattle.ert_defs.proofs.monitors.notify_monitors.Goals as goal

pub loop-i-preserved : goal.loop-i-preserved
loop-i-preserved c =
    let offset : ℤ = to_z w64 (of_z w64 c.args.offset) in
    let ms = c.args.monitors.now in
    let none : Monitor = record { number = 0; told = pos 0 } in
    let low : c.loop-i.i < length ms = omega arith in
    let more = changes_more offset ms c.loop-i.i none low in
    let one : List Mail = changes_of offset (slice_index_or c.loop-i.monitors c.loop-i.i none ∷ []) in
    let so_far : List Mail = changes_of offset (take c.loop-i.i ms) in
    let next : List Mail = changes_of offset (get_or ms c.loop-i.i none ∷ []) in
    let same : one ≡ next =
    ap (λ m. changes_of offset (m ∷ [])) (untold offset ms c.loop-i.monitors c.loop-i.i none low c.loop-i.invariant.told) in
    record {
      told = told_more offset ms c.loop-i.monitors c.loop-i.i none low (omega arith) c.loop-i.invariant.told;
      queue = c.put_change-put.ensures.queue
          ∙ (ap (λ q. q ++ one) c.loop-i.invariant.queue
          ∙ (append_assoc c.args.queue.now.items so_far one ∙ ap (λ l. c.args.queue.now.items ++ l) (ap (λ l. so_far ++ l) same ∙ sym more)));
      put = omega (arith, c.loop-i.invariant.put, c.put_change-put.ensures.put, ap length more, ap length same, length-append so_far next);
      few = omega (arith, c.put_change-put.ensures.one);
      room = omega (arith, c.loop-i.invariant.room, c.put_change-put.ensures.len, c.put_change-put.ensures.capacity, c.put_change-put.ensures.one);
    }

pub returns-clause-monitors : goal.returns-clause-monitors
returns-clause-monitors c =
    c.loop-i.invariant.told
    ∙ told_whole (to_z w64 (of_z w64 c.args.offset)) c.args.offset c.args.monitors.now c.loop-i.i
    (to_z-of_z c.ranges.offset) c.loop-i-test.false
