use Rattle.ert_laws.proofs.TimerLives.{entries_move, lives}
use Rattle.ert_laws.proofs.lives.timers_have_six_lives.Goals as goal

pub returns-clause-lives : goal.returns-clause-lives
returns-clause-lives c = lives

pub returns-clause-movers : goal.returns-clause-movers
returns-clause-movers c = entries_move
