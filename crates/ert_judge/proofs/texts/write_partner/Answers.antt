use Rattle.ert_judge.proofs.texts.write_partner.Goals as goal

pub returns-in-Nobody : goal.returns-in-Nobody
returns-in-Nobody c = rw c.in-Nobody.is c.write.ensures.bytes

pub returns-in-SomeCaller : goal.returns-in-SomeCaller
returns-in-SomeCaller c = rw c.in-SomeCaller.is c.write-in-SomeCaller.ensures.bytes

pub returns-in-SomeMailbox : goal.returns-in-SomeMailbox
returns-in-SomeMailbox c = rw c.in-SomeMailbox.is c.write-in-SomeMailbox.ensures.bytes
