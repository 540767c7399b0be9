use Rattle.ert_program.proofs.{Advancing.{turns_advance, rounds_advance}, Kept.{lists_in_pieces, turns_in_pieces, replies_are_many}}
use Rattle.ert_program.proofs.races.laws.lists_are_done_whole.Goals as goal

pub returns-clause-pieces : goal.returns-clause-pieces
returns-clause-pieces c = lists_in_pieces

pub returns-clause-turns : goal.returns-clause-turns
returns-clause-turns c = turns_in_pieces

pub returns-clause-replies : goal.returns-clause-replies
returns-clause-replies c = replies_are_many

pub returns-clause-advances : goal.returns-clause-advances
returns-clause-advances c = turns_advance

pub returns-clause-rounds : goal.returns-clause-rounds
returns-clause-rounds c = rounds_advance
