use Rattle.std.proofs.Common.{subst}
use Rattle.ert_table.proofs.Noting.{learned}
use Rattle.ert_table.specs.{Desks.{settings_of, view_of}, Notes.{Noted, HasLearned}}
use Rattle.ert_table.proofs.desk.Pass.learn.Goals as goal

pub returns : goal.returns
returns c =
    let g = settings_of c.args.desk.now in
    let v = view_of c.args.self.now in
    let w = view_of c.join.new.self in
    record {
      belongs = c.join.ensures.belongs;
      learned = subst (λ (n : Noted). HasLearned g v n.front w) c.note.view_is
          (learned g v (view_of c.note.inside.pass) w c.note.invariant c.join.ensures.actors c.join.ensures.front c.join.ensures.joined c.join.ensures.legal);
    }
