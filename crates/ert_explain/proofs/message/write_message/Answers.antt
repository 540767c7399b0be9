use Rattle.std.proofs.Common.{◌≡◌, ◌++◌, ℕ, List, codes, string_bytes}
use Rattle.ert_explain.proofs.Texts.{joined, ok_map}
use Rattle.ert_explain.specs.{Explained.shown_bytes, Messages.{head_text, front_text, middle_text, back_text, message}}
use Rattle.ert_explain.proofs.message.write_message.Goals as goal

pub returns : goal.returns
unfolding message
returns c =
    let e = c.args.explanation.now in
    let p : List ℕ = string_bytes c.args.page.now in
    let h : List ℕ = head_text e in
    let f : List ℕ = front_text e.cause in
    let m : List ℕ = middle_text e.cause (shown_bytes c.args.bytes.now e) in
    let b : List ℕ = back_text e.cause e.near in
    let two = joined p (string_bytes c.write_head.new.page) (string_bytes c.write_front.new.page) h f c.in_ok-write_head.ensures c.in_ok-write_front.ensures in
    let middle : string_bytes c.write_middle.new.page ≡ string_bytes c.write_front.new.page ++ m = rw c.part_at-part.ensures at c.in_ok-write_middle.ensures in
    let three = joined p (string_bytes c.write_front.new.page) (string_bytes c.write_middle.new.page) (h ++ f) m two middle in
    let four = joined p (string_bytes c.write_middle.new.page) (string_bytes c.write_back.new.page) ((h ++ f) ++ m) b three c.in_ok-write_back.ensures in
    ok_map c.write_newline.result
    (joined p (string_bytes c.write_back.new.page) (string_bytes c.write_newline.new.page) (((h ++ f) ++ m) ++ b) (codes "\n") four)
    c.write_newline.ensures
