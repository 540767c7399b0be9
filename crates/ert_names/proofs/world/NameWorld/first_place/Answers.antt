use Rattle.std.proofs.Common.{◌≡◌, ℕ, suc, ◌+◌, ◌<◌, ◌≤◌, true, false, nat_eq, length, slice_index_or, Some, rules, sym, ap, subst, ◌∙◌, arith}
use Rattle.std.proofs.lemmas.{Bool.{eq-eqb, ne_eqb}, List.get_or_default}
use Rattle.ert_names.specs.declared.named.NamedMail.{NamedMail}
use Rattle.ert_names.proofs.Handing.{past_more, found_value, found_others, none_value, none_others}
use Rattle.ert_names.proofs.world.NameWorld.first_place.Goals as goal

pub returns-then-index-process : goal.returns-then-index-process
returns-then-index-process c =
    let ms = c.args.self.now.mail in
    let k = c.loop-place.place in
    let d : ℕ × NamedMail = c.index.result.now in
    let same : c.self.inside.mail.items ≡ ms = ap (λ w. w.mail) c.self.view_is in
    let ok = c.self.inside.mail.ok.0 in
    let low : k < length c.self.inside.mail.items = search rules in
    let low_in : k < length ms = subst (λ l. k < length l) same low in
    let is : nat_eq (slice_index_or ms k d).0 c.args.process ≡ true =
    ap (λ (m : ℕ × NamedMail). nat_eq m.0 c.args.process) (ap (λ l. slice_index_or l k d) (sym same) ∙ sym c.index.ensures) ∙ eq-eqb c.index.result.now.0 c.args.process c.if-index-process.true in (
      low_in,
      (λ e. sym (found_value c.args.process k ms d c.loop-place.invariant low_in is) ∙ ap (λ (m : ℕ × NamedMail). Some m.1) (get_or_default ms k d e low_in)),
      sym (found_others c.args.process k ms d c.loop-place.invariant low_in is),
    )

pub loop-place-preserved : goal.loop-place-preserved
loop-place-preserved c =
    let ms = c.args.self.now.mail in
    let k = c.loop-place.place in
    let d : ℕ × NamedMail = c.index.result.now in
    let same : c.self.inside.mail.items ≡ ms = ap (λ w. w.mail) c.self.view_is in
    let not : nat_eq (slice_index_or ms k d).0 c.args.process ≡ false =
    ap (λ (m : ℕ × NamedMail). nat_eq m.0 c.args.process) (ap (λ l. slice_index_or l k d) (sym same) ∙ sym c.index.ensures) ∙ ne_eqb c.index.result.now.0 c.args.process c.if-index-process.false in
    let more : k + 1 ≡ suc k = omega arith in
    rw more (past_more c.args.process k ms d c.loop-place.invariant not)

pub returns : goal.returns
returns c =
    let ms = c.args.self.now.mail in
    let k = c.loop-place.place in
    let same : c.self.inside.mail.items ≡ ms = ap (λ w. w.mail) c.self.view_is in
    let all : length c.self.inside.mail.items ≤ k = search rules in
    let all_in : length ms ≤ k = subst (λ l. length l ≤ k) same all in
    (none_value c.args.process k ms c.loop-place.invariant all_in, none_others c.args.process k ms c.loop-place.invariant all_in)
