use Rattle.std.proofs.Common.{nat_eq}
use Rattle.ert_defs.specs.{States.state, declared.entry.Actor.TheVariants.Caller}
use Rattle.ert_table.specs.{Desks.{settings_of, front_of}, Renewals.renewal, Ranges.word_deadline}
use Rattle.ert_table.proofs.desk.Pass.renew.Given as goal

abbrev pub ghosts-renew_as : goal.ghosts-renew_as
ghosts-renew_as a = record {
  settings = settings_of a.desk.now;
  entries = λ n. renewal (settings_of a.desk.now) ((state (settings_of a.desk.now) (front_of a.self.now)).looked (Caller a.by)) a.by a.timer
      (word_deadline a.read.word) a.generation a.start.now (nat_eq n a.read.word);
}
