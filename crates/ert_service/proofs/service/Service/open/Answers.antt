use Rattle.std.proofs.Common.{refl}
use Rattle.ert_defs.specs.declared.entry.Actor.TheVariants.{Wheel, Inbox, Sched, MailOf, Caller}
use Rattle.ert_service.proofs.OpenedParts.{held_at}
use Rattle.ert_service.proofs.service.Service.open.Goals as goal

pub lock_all-requires-clause-held : goal.lock_all-requires-clause-held
lock_all-requires-clause-held g c = λ i low. held_at (Wheel i) c.requires.desk c.requires.fit c.split-own.ensures.rest refl low

pub lock_all-requires-2-clause-held : goal.lock_all-requires-2-clause-held
lock_all-requires-2-clause-held g c = λ i low. c.lock_all.ensures.kept.others (Inbox i) (λ n. refl) (held_at (Inbox i) c.requires.desk c.requires.fit c.split-own.ensures.rest refl low)

pub lock_all-requires-3-clause-held : goal.lock_all-requires-3-clause-held
lock_all-requires-3-clause-held g c = λ i low.
    c.lock_all-2.ensures.kept.others (MailOf i) (λ n. refl)
    (c.lock_all.ensures.kept.others (MailOf i) (λ n. refl) (held_at (MailOf i) c.requires.desk c.requires.fit c.split-own.ensures.rest refl low))

pub seat_scheds-requires-clause-held : goal.seat_scheds-requires-clause-held
seat_scheds-requires-clause-held g c = λ i low.
    c.lock_all-3.ensures.kept.others (Sched i) (λ n. refl)
    (c.lock_all-2.ensures.kept.others (Sched i) (λ n. refl)
    (c.lock_all.ensures.kept.others (Sched i) (λ n. refl) (held_at (Sched i) c.requires.desk c.requires.fit c.split-own.ensures.rest refl low)))

pub seat_callers-requires-clause-held : goal.seat_callers-requires-clause-held
seat_callers-requires-clause-held g c = λ i low.
    c.seat_scheds.ensures.kept.others (Caller i) (λ n. refl)
    (c.lock_all-3.ensures.kept.others (Caller i) (λ n. refl)
    (c.lock_all-2.ensures.kept.others (Caller i) (λ n. refl)
    (c.lock_all.ensures.kept.others (Caller i) (λ n. refl) (held_at (Caller i) c.requires.desk c.requires.fit c.split-own.ensures.rest refl low))))
