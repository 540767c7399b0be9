use Rattle.ert_tests.proofs.tests.uniques.answers.Goals as goal

pub returns-in-PlainOne-clause-one : goal.returns-in-PlainOne-clause-one
returns-in-PlainOne-clause-one c = c.plain.ensures.belongs c.args.uniques.now c.requires.one

pub returns-in-PlainTwo-clause-two : goal.returns-in-PlainTwo-clause-two
returns-in-PlainTwo-clause-two c = c.plain-in-PlainTwo.ensures.belongs c.args.uniques.now c.requires.two
