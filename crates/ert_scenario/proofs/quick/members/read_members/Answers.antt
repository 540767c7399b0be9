use Rattle.std.proofs.Common.{◌≡◌, Some, None}
use Rattle.json.specs.Json.{read_key}
use Rattle.ert_scenario.proofs.QuickMembers.{members_start, members_more, members_done}
use Rattle.ert_scenario.proofs.quick.members.read_members.Goals as goal

pub members-init : goal.members-init
members-init c = members_start c.args.reader.now c.args.seen.now c.requires.fields c.requires.ops

pub members-preserved : goal.members-preserved
members-preserved c =
    let l = c.members in
    let name = c.in-Ok-Some.name.now in
    let s = c.next_key.new.self in
    let key : read_key l.reader ≡ Some (Some name, s) = rw c.in-Ok-Some.field-0-is at c.in-Ok-Some.ensures.value in
    let read = c.in_ok-read_member-in-Ok-Some.ensures in
    members_more c.args.reader.now l.reader s c.read_member.new.reader name l.seen c.read_member.new.seen l.invariant key (read.read c.if-not-branch.false) (read.shorter c.if-not-branch.false)

pub returns-in-Ok-None : goal.returns-in-Ok-None
returns-in-Ok-None c =
    let l = c.members in
    let over : read_key l.reader ≡ Some (None, c.next_key.new.self) = rw c.in-Ok-None.field-0-is at c.in-Ok-None.ensures.value in
    λ yes. members_done c.args.reader.now l.reader c.next_key.new.self l.seen l.invariant over
