-- What a sink tells after two texts, and whether a text fits.

use Rattle.std.proofs.Common.{◌≡◌, ℕ, ◌+◌, ◌-◌, ◌<◌, List, [], ◌++◌, take, drop, length, length-append, Option, None, Some, refl, ap, sym, ◌∙◌, append-nil, append_assoc, arith}
use Rattle.std.proofs.lemmas.List.{take-append-drop, length-take-le}
use Rattle.std.specs.Prelude.{Result, Ok, Err, IfErr, OnOk}
use Rattle.ert_io.specs.{Known.{more_by, HasRoomFor}, Told.{SinkTold, sink_told, took, room_left, TakesFront}, Writing.written_of, declared.writing.WriteErr.WriteErr}

-- a write appended a text, and its length came off the room
pub took_is : (taken taken_new : List ℕ) (room room_new : Option ℕ) (text : List ℕ)
    → taken_new ≡ taken ++ text → room ≡ more_by (length text) room_new → sink_told taken_new room_new ≡ took (sink_told taken room) text
took_is taken taken_new room None text e f =
    ap (λ (k : List ℕ). sink_told k None) e ∙ ap (λ (r : Option ℕ). sink_told (taken ++ text) (room_left (length text) r)) (sym f)
took_is taken taken_new room (Some r) text e f =
    let back : r ≡ (r + length text) - length text = omega arith in
    ap (λ (k : List ℕ). sink_told k (Some r)) e
    ∙ ap (λ (n : ℕ). sink_told (taken ++ text) (Some n)) back
    ∙ ap (λ (x : Option ℕ). sink_told (taken ++ text) (room_left (length text) x)) (sym f)

-- a write appended the first n bytes of a text
pub took_front : (taken taken_new : List ℕ) (room room_new : Option ℕ) (text : List ℕ) (n : ℕ) → n < length text
    → taken_new ≡ taken ++ take n text → room ≡ more_by n room_new → TakesFront (sink_told taken room) (sink_told taken_new room_new) text
took_front taken taken_new room room_new text n less e f =
    let long : length (take n text) ≡ n = length-take-le n text (omega arith) in
    record {
      front = take n text;
      others = drop n text;
      took = took_is taken taken_new room room_new (take n text) e (f ∙ ap (λ (k : ℕ). more_by k room_new) (sym long));
      whole = take-append-drop n text;
    }

after_both : (room : Option ℕ) (a b : List ℕ) → room_left (length b) (room_left (length a) room) ≡ room_left (length (a ++ b)) room
after_both None a b = refl
after_both (Some r) a b =
    let long : length (a ++ b) ≡ length a + length b = length-append a b in
    let same : (r - length a) - length b ≡ r - length (a ++ b) = omega arith in
    ap (λ (n : ℕ). Some n) same

-- two texts, as one
pub took-took : (t : SinkTold) (a b : List ℕ) → took (took t a) b ≡ took t (a ++ b)
took-took t a b =
    ap (λ (k : List ℕ). sink_told k (room_left (length b) (room_left (length a) t.room))) (append_assoc t.taken a b)
    ∙ ap (λ (r : Option ℕ). sink_told (t.taken ++ (a ++ b)) r) (after_both t.room a b)

after_none : (room : Option ℕ) → room ≡ room_left 0 room
after_none None = refl
after_none (Some r) =
    let same : r ≡ r - 0 = omega arith in
    ap (λ (n : ℕ). Some n) same

-- and none
pub took-none : (taken : List ℕ) (room : Option ℕ) → sink_told taken room ≡ took (sink_told taken room) []
took-none taken room =
    ap (λ (k : List ℕ). sink_told k room) (sym (append-nil taken)) ∙ ap (λ (r : Option ℕ). sink_told (taken ++ []) r) (after_none room)

-- where two texts fit, the second fits after the first
pub fits_after : (room : Option ℕ) (a b : List ℕ) → HasRoomFor room (length (a ++ b)) → HasRoomFor (room_left (length a) room) (length b)
fits_after None a b fits = tt
fits_after (Some r) a b fits =
    let long : length (a ++ b) ≡ length a + length b = length-append a b in
    omega arith

-- what a sink took of a text and of what follows, after a text
pub front_after : (old mid new : SinkTold) (a b : List ℕ) → mid ≡ took old a → TakesFront mid new b → TakesFront old new (a ++ b)
front_after old mid new a b e part = record {
  front = a ++ part.front;
  others = part.others;
  took = part.took ∙ ap (λ (k : SinkTold). took k part.front) e ∙ took-took old a part.front;
  whole = append_assoc a part.front part.others ∙ ap (λ (t : List ℕ). a ++ t) part.whole;
}

-- the first part of a first part is one of the whole
pub front_of : (old new : SinkTold) (text rest whole : List ℕ) → text ++ rest ≡ whole → TakesFront old new text → TakesFront old new whole
front_of old new text rest whole is w = record {
  front = w.front;
  others = w.others ++ rest;
  took = w.took;
  whole = sym (append_assoc w.front w.others rest) ∙ ap (λ (t : List ℕ). t ++ rest) w.whole ∙ is;
}

-- whatever `write_all` answers, a first part of the bytes was taken
pub write_front : (r : Result (Unit {0}) WriteErr) (taken taken_new : List ℕ) (room room_new : Option ℕ) (text : List ℕ)
    → OnOk r (taken_new ≡ taken ++ text) → OnOk r (room ≡ more_by (length text) room_new)
    → IfErr r (λ e. taken_new ≡ taken ++ take (written_of e) text) → IfErr r (λ e. written_of e < length text)
    → IfErr r (λ e. room ≡ more_by (written_of e) room_new) → TakesFront (sink_told taken room) (sink_told taken_new room_new) text
write_front (Ok u) taken taken_new room room_new text all fits part less left = record {
  front = text;
  others = [];
  took = took_is taken taken_new room room_new text all fits;
  whole = append-nil text;
}
write_front (Err e) taken taken_new room room_new text all fits part less left = took_front taken taken_new room room_new text (written_of e) less part left
