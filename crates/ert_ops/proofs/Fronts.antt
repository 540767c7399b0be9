-- The lines of some first ops, and those of all.

use Rattle.std.proofs.Common.{◌≡◌, ◌≤◌, ◌+◌, ℕ, get_or, length-append, zero, suc, List, [], ◌∷◌, ◌++◌, take, length, arith, refl, sym, ap, ◌∙◌, append_assoc, subst}
use Rattle.std.specs.Prelude.{◌≢◌}
use Rattle.std.proofs.lemmas.List.{append_cancel_right, get_or_append_left}
use Rattle.ert_defs.specs.{Clocks.Clock, States.{State, opening, run, state}, declared.settings.Settings.Settings}
use Rattle.ert_ops.specs.{Labels.{labels_in, AreOps, Labels}, declared.op.Op.Op, PlainCounts.plain_after, Laws.LawOfFronts, Lines.line_of, Plain.{op_piece, slot_of, plain_lines}, Scripts.{labels_after, lines_of}, Texts.end_line}
use Rattle.ert_ops.specs.declared.op.Op.TheVariants as ops
use Rattle.ert_ops.proofs.Runs.{AreDone, done, Apart}

-- what the plain service prints of some first ops: a first part of what it prints of all, and the end line
record HasFront (g : Settings) (s : State) (ls : Labels) (list : List Op) (n : ℕ) : Type 0 where
  front : List ℕ
  rest : List ℕ
  some : plain_lines g s ls (take n list) ≡ front ++ end_line (plain_after g s ls (take n list)).clock.now
  all : plain_lines g s ls list ≡ front ++ rest

has_front : (g : Settings) (s : State) (ls : Labels) (list : List Op) (n : ℕ) → HasFront g s ls list n
has_front g s ls list zero = record { front = []; rest = plain_lines g s ls list; some = refl; all = refl }
has_front g s ls [] (suc n) = record { front = []; rest = end_line s.clock.now; some = refl; all = refl }
has_front g s ls (op ∷ list) (suc n) =
    let line : List ℕ = line_of slot_of (op_piece g s ls op).reply in
    let d : State = run g s (op_piece g s ls op).entries in
    let labels : Labels = labels_after ls op (op_piece g s ls op).reply in
    let later : HasFront g d labels list n = has_front g d labels list n in
    record {
      front = line ++ later.front;
      rest = later.rest;
      some = ap (λ (t : List ℕ). line ++ t) later.some
          ∙ sym (append_assoc line later.front (end_line (plain_after g d labels (take n list)).clock.now));
      all = ap (λ (t : List ℕ). line ++ t) later.all ∙ sym (append_assoc line later.front later.rest);
    }

-- some first of distinct numbers are distinct
apart_front : (xs ys all : List ℕ) → all ≡ xs ++ ys → Apart all → Apart xs
apart_front xs ys all is apart i j d before below =
    let pairs : Apart (xs ++ ys) = subst Apart is apart in
    let long : length (xs ++ ys) ≡ length xs + length ys = length-append xs ys in
    subst (λ (k : ℕ). get_or xs i d ≢ k) (get_or_append_left xs ys d j below)
    (subst (λ (l : ℕ). l ≢ get_or (xs ++ ys) j d) (get_or_append_left xs ys d i (omega arith)) (pairs i j d before (omega arith)))

-- the labels of some first ops are the first of the labels
record HasLabels (list : List Op) (n : ℕ) : Type 0 where
  others : List ℕ
  joined : labels_in list ≡ labels_in (take n list) ++ others

labels_front : (list : List Op) (n : ℕ) → HasLabels list n
labels_front list zero = record { others = labels_in list; joined = refl }
labels_front [] (suc n) = record { others = []; joined = refl }
labels_front (ops.Start l w when p msg ∷ list) (suc n) =
    let later : HasLabels list n = labels_front list n in
    record { others = later.others; joined = ap (λ (ls : List ℕ). l ∷ ls) later.joined }
labels_front (ops.SendAfter l w when p msg ∷ list) (suc n) =
    let later : HasLabels list n = labels_front list n in
    record { others = later.others; joined = ap (λ (ls : List ℕ). l ∷ ls) later.joined }
labels_front (_ ∷ list) (suc n) =
    let later : HasLabels list n = labels_front list n in
    record { others = later.others; joined = later.joined }

few_first : (list : List Op) (n : ℕ) → length (take n list) ≤ length list
few_first list zero = omega arith
few_first [] (suc n) = omega arith
few_first (op ∷ list) (suc n) = let later = few_first list n in omega arith

-- some first ops of a scenario are ops of one
are_first : (list : List Op) (n : ℕ) → AreOps list → AreOps (take n list)
are_first list n are = record {
  apart = let labels : HasLabels list n = labels_front list n in apart_front (labels_in (take n list)) labels.others (labels_in list) labels.joined are.apart;
  few = omega (arith, few_first list n, are.few);
}

pub first_lines : LawOfFronts
first_lines g list n entries replies labels are many legal runs =
    let lines : List ℕ = lines_of [] (take n list) replies in
    let text : List ℕ = lines ++ end_line (state g entries).clock.now in
    let told : AreDone g [] [] (take n list) replies labels (state g entries) (opening g) =
    done g (take n list) text (are_first list n are) (omega (arith, few_first list n, many)) (record { entries = entries; replies = replies; labels = labels; legal = legal; runs = runs; reads = refl }) in
    let part : HasFront g (opening g) [] list n = has_front g (opening g) [] list n in
    let last = ap end_line (ap (λ (k : Clock). k.now) told.shows.clock) in
    let same : lines ≡ part.front =
    append_cancel_right lines part.front (end_line (plain_after g (opening g) [] (take n list)).clock.now)
    (ap (λ (t : List ℕ). lines ++ t) (sym last) ∙ told.text ∙ part.some) in
    (part.rest, ap (λ (t : List ℕ). t ++ part.rest) same ∙ sym part.all)
