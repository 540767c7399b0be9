use Rattle.std.proofs.Common.{◌≡◌, ℕ, ◌<◌, length, true, false, [], ◌∷◌, ◌++◌, Some, None, rules, refl, sym, ap, subst, ◌∙◌, arith, append-nil}
use Rattle.std.proofs.lemmas.List.{length-map}
use Rattle.ert_names.specs.{Calls.named_mail_of, Handing.{TakesNext, HandsNone, HandsOne}, declared.named.NamedMail.NamedMail, Registered.{Registered, seen_with_names, row_seen}}
use Rattle.ert_names.proofs.{Handing.{posted_row, hands_one}, Living.names_next}
use Rattle.ert_names.proofs.world.NameWorld.hand_next.Goals as goal

pub take_message-requires : goal.take_message-requires
take_message-requires c = (length c.self.inside.rows.items, c.self.invariant.fits)

pub invariant_of-self-in_default : goal.invariant_of-self-in_default
invariant_of-self-in_default c =
    let n = length c.self.inside.rows.items in
    names_next n c.self.inside.registry c.self.inside.world c.take_message.new.world c.take_message.result (c.take_message.ensures.call n c.self.invariant.fits)
    c.self.invariant

pub returns-in_default : goal.returns-in_default
returns-in_default c =
    let n = length c.self.inside.rows.items in
    let result : c.take_message.result ≡ None = search rules in
    let none = (subst (λ m. TakesNext n c.self.inside.world m c.take_message.new.world) result (c.take_message.ensures.call n c.self.invariant.fits)).0 in
    let after = seen_with_names c.take_message.new.world c.self.inside.registry c.self.inside.rows.items c.reserve.new.self.items in
    record {
      call =
          subst (λ (w : Registered). HandsNone w after) c.self.view_is
          (record { alone = record { goes = none.goes; names = refl; rows = refl; mail = c.reserve.ensures.items }; empty = none.empty });
    }

pub index-row-requires : goal.index-row-requires
index-row-requires c =
    let n = length c.self.inside.rows.items in
    let result : c.take_message.result ≡ Some (c.in-Some.timer, c.in-Some.place) = search rules in
    let next = (subst (λ m. TakesNext n c.self.inside.world m c.take_message.new.world) result (c.take_message.ensures.call n c.self.invariant.fits)).0 in
    let low : c.in-Some.place < n = next.known in
    let ok = c.self.inside.rows.ok in
    omega (arith, ok, low)

pub invariant_of-self-in_default-process : goal.invariant_of-self-in_default-process
invariant_of-self-in_default-process c =
    let n = length c.self.inside.rows.items in
    names_next n c.self.inside.registry c.self.inside.world c.take_message.new.world c.take_message.result (c.take_message.ensures.call n c.self.invariant.fits)
    c.self.invariant

pub returns-in_default-process : goal.returns-in_default-process
returns-in_default-process c =
    let n = length c.self.inside.rows.items in
    let result : c.take_message.result ≡ Some (c.in-Some.timer, c.in-Some.place) = search rules in
    let next = (subst (λ m. TakesNext n c.self.inside.world m c.take_message.new.world) result (c.take_message.ensures.call n c.self.invariant.fits)).0 in
    let found : c.process.result ≡ None = search rules in
    let before = seen_with_names c.self.inside.world c.self.inside.registry c.self.inside.rows.items c.self.inside.mail.items in
    let after = seen_with_names c.take_message.new.world c.self.inside.registry c.self.inside.rows.items c.reserve.new.self.items in
    let goes_to = posted_row c.self.inside.registry c.self.inside.rows.items c.in-Some.timer c.in-Some.place c.index-row.result.now c.as_str.result.now None
    next.known c.index-row.ensures c.as_str.ensures.value (sym found ∙ c.process.ensures) in
    record {
      call =
          subst (λ (w : Registered). HandsOne w false after) c.self.view_is
          (hands_one before after n (c.in-Some.timer, c.in-Some.place) None (sym (length-map c.self.inside.rows.items row_seen)) next refl refl goes_to
          (c.reserve.ensures.items ∙ sym (append-nil c.self.inside.mail.items)));
    }

pub invariant_of-self-2 : goal.invariant_of-self-2
invariant_of-self-2 c =
    let n = length c.self.inside.rows.items in
    names_next n c.self.inside.registry c.self.inside.world c.take_message.new.world c.take_message.result (c.take_message.ensures.call n c.self.invariant.fits)
    c.self.invariant

pub returns : goal.returns
returns c =
    let n = length c.self.inside.rows.items in
    let result : c.take_message.result ≡ Some (c.in-Some.timer, c.in-Some.place) = search rules in
    let next = (subst (λ m. TakesNext n c.self.inside.world m c.take_message.new.world) result (c.take_message.ensures.call n c.self.invariant.fits)).0 in
    let found : c.process.result ≡ Some c.in-Some-process.process = search rules in
    let before = seen_with_names c.self.inside.world c.self.inside.registry c.self.inside.rows.items c.self.inside.mail.items in
    let after = seen_with_names c.take_message.new.world c.self.inside.registry c.self.inside.rows.items c.push_reserved.new.self.items in
    let mail : ℕ × NamedMail = (c.in-Some-process.process, named_mail_of c.in-Some.timer (row_seen c.index-row.result.now)) in
    let goes_to = posted_row c.self.inside.registry c.self.inside.rows.items c.in-Some.timer c.in-Some.place c.index-row.result.now c.as_str.result.now
    (Some c.in-Some-process.process) next.known c.index-row.ensures c.as_str.ensures.value (sym found ∙ c.process.ensures) in
    let put = c.push_reserved.ensures.items ∙ ap (λ l. l ++ mail ∷ []) c.reserve.ensures.items in
    record {
      call =
          subst (λ (w : Registered). HandsOne w true after) c.self.view_is
          (hands_one before after n (c.in-Some.timer, c.in-Some.place) (Some mail) (sym (length-map c.self.inside.rows.items row_seen)) next refl refl goes_to put);
    }
