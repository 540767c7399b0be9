use Rattle.std.proofs.Common.{ap, option_map, Some, sym, ◌∙◌}
use Rattle.std.proofs.lemmas.Bool.{true≢false}
use Rattle.ert_wheel.proofs.Writes.{sees, low_in, looks_alone, looks_apart}
use Rattle.ert_wheel.proofs.wheel.Wheel.row.Goals as goal
use Rattle.ert_wheel.specs.Rows.{told_at}

pub is_alone-requires : goal.is_alone-requires
is_alone-requires g c = (low_in c.args.slot c.self.invariant c.self.view_is c.requires).low_bucket

pub returns-then-is_alone : goal.returns-then-is_alone
returns-then-is_alone g c = sym (ap (option_map (told_at c.args.slot)) (looks_alone (sees c.self.invariant.rows c.self.view_is) (low_in c.args.slot c.self.invariant c.self.view_is c.requires).low_key (c.is_alone.ensures.0 c.if-is_alone.true)))

pub deadline-requires : goal.deadline-requires
deadline-requires g c = (low_in c.args.slot c.self.invariant c.self.view_is c.requires).low_record

pub returns : goal.returns
returns g c =
    ap (λ n. Some (record { deadline = n; slot = c.args.slot })) c.deadline.ensures
    ∙ sym (ap (option_map (told_at c.args.slot)) (looks_apart (sees c.self.invariant.rows c.self.view_is) (low_in c.args.slot c.self.invariant c.self.view_is c.requires).low_key (low_in c.args.slot c.self.invariant c.self.view_is c.requires).low_record (λ e. true≢false (sym (c.is_alone.ensures.1 e) ∙ c.if-is_alone.false))))
