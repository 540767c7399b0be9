use Rattle.std.proofs.Common.{◌≡◌, ◌+◌, [], length, Some, inl, inr, refl, sym, ap, arith}
use Rattle.ert_effects.specs.{TimerCalls.Round, Worked.{armed, probed}}
use Rattle.ert_effects.proofs.Rounds.{round_many, round_first}
use Rattle.ert_defs.specs.declared.timer.Status.TheVariants.{Armed, Cancelled}
use Rattle.ert_effects.proofs.worked.refusals_are_judged.Goals as goal

-- the only slot
abbrev only : Round 1 1
only = record {
  from = 0;
  ahead = 1;
  behind = 0;
  within = omega arith;
  apart = omega arith;
  all = λ few. refl;
  many = λ many. refl;
}

-- a round has a slot
some : (round : Round 1 1) → round.ahead + round.behind ≡ 1
some round = round.all (omega arith)

pub returns-clause-full : goal.returns-clause-full
returns-clause-full c = record {
  now = _;
  probes = probed (Some Armed);
  accepted = λ none. cc;
  are_taken = inl (
    only,
    record {
      first = probed (Some Armed);
      second = [];
      onward = (Some Armed, [], refl, inl refl, refl);
      around = refl;
      entries = refl;
    },
  );
  entries = refl;
}

pub returns-clause-unseen : goal.returns-clause-unseen
returns-clause-unseen c = λ is.
    let none : [] ≡ is.probes = cc is.entries in
    elim is.are_taken [
      | inl found ↦
          let count = round_many 0 0 _ armed found.0 is.probes found.1 in
          omega (arith, count, ap length none, some found.0)
      | inr many ↦ (let few : 1 ≡ 9007199254740992 = many.0 in omega (arith, few))
    ]

pub returns-clause-free : goal.returns-clause-free
returns-clause-free c = λ is.
    let seen : probed (Some Cancelled) ≡ is.probes = cc is.entries in
    elim is.are_taken [
      | inl found ↦ elim (round_first 0 0 _ armed found.0 0 (Some Cancelled) is.probes [] found.1 (sym seen)) [
        | inl taken ↦ cc
        | inr rests ↦ omega (arith, rests)
      ]
      | inr many ↦ (let few : 1 ≡ 9007199254740992 = many.0 in omega (arith, few))
    ]
