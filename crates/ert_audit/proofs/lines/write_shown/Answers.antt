use Rattle.std.proofs.Common.{rules, ◌≡◌, ◌∙◌, ℕ, ap, List, ◌++◌, length, take}
use Rattle.std.proofs.lemmas.List.{take_min}
use Rattle.std.specs.List.{flat_map}
use Rattle.std.specs.Prelude.{min, string_bytes}
use Rattle.ert_audit.specs.Messages.{shown_byte}
use Rattle.ert_audit.proofs.Messages.{ok_map, joined}
use Rattle.ert_audit.proofs.lines.write_shown.Goals as goal

pub returns : goal.returns
returns c =
    let bytes : List ℕ = c.args.bytes.now in
    let few : c.min.result ≡ min 60 (length bytes) = search rules in
    let front : take c.min.result bytes ≡ take 60 bytes = ap (λ n. take n bytes) few ∙ take_min 60 bytes in
    ok_map c.write_more.result
    (joined _ _ _ _ _ (c.in_ok-write_bytes.ensures
    ∙ ap (λ (t : List ℕ). string_bytes c.args.page.now ++ flat_map shown_byte t) front))
    c.write_more.ensures
