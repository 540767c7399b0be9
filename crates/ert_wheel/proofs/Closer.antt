-- What is told of the next due row is exact where it is near, is rarely no deadline, and goes on.

use Rattle.std.proofs.Common.{◌≡◌, ℕ, ◌+◌, ◌-◌, ◌*◌, ◌/◌, ◌^◌, ◌<◌, ◌≤◌, max, List, Option, Some, sym, ◌∙◌, ap, inl, inr, arith}
use Rattle.std.proofs.{Math.Nat.{mul_assoc, div-lt_iff_lt-mul}, lemmas.Bool.cases_lt, lemmas.Nat.pow-add}
use Rattle.ert_wheel.proofs.{Standing.begins, Times.{later, one_bucket, one_window, some_wide}}
use Rattle.ert_wheel.specs.{Levels.{bucket_of_window, bucket_on}, NextDue.{IsInWindow, LawOfNearAnswers, LawOfRareAnswers, LawOfLaterDue, LawOfTrueWindows}}

-- a multiple of a window is one of each narrower window
pub narrower : (n l level : ℕ) → l ≤ level → n * 512 ^ level ≡ n * 512 ^ (level - l) * 512 ^ l
narrower n l level low =
    let e : (level - l) + l ≡ level = omega arith in
    ap (λ x. n * 512 ^ x) (sym e) ∙ ap (λ x. n * x) (pow-add 512 (level - l) l) ∙ sym (mul_assoc n (512 ^ (level - l)) (512 ^ l))

-- a window of a level above the lowest begins at a multiple of 512
multiple : {stands : List (Option ℕ)} {passed time slot : ℕ} (b : IsInWindow stands passed time slot) → time ≡ b.window * 512 ^ (b.level - 1) * 512
multiple b = b.begin ∙ narrower b.window 1 b.level b.above

pub near_answers : LawOfNearAnswers
near_answers keys stands passed time least n l near =
    let low : time ≤ least = omega (arith, n.none_before l.due.slot l.due.key l.due.has, l.due.at) in
    elim n.near [
      | inl due ↦ omega (arith, l.none_before due.slot due.key due.has, due.at)
      | inr w ↦
          let b = w.in_window in
          let later : passed < time = b.later in
          let e : time ≡ b.window * 512 ^ (b.level - 1) * 512 = multiple b in
          absurd (omega arith)
    ]

pub rare_answers : LawOfRareAnswers
rare_answers was keys stood stands earlier passed first second was_in is_in slept =
    let b = was_in.in_window in
    let c = is_in.in_window in
    let m : ℕ = b.window * 512 ^ (b.level - 1) in
    let n : ℕ = c.window * 512 ^ (c.level - 1) in
    omega (arith, multiple b, multiple c, slept, c.later)

pub later_answers : LawOfLaterDue
later_answers keys stands passed time to n left went =
    elim n.near [
      | inl due ↦ omega (arith, left due.slot due.key due.has, due.at)
      | inr w ↦ let later : passed < time = w.in_window.later in omega arith
    ]

-- the window in whose bucket a row stands is that of its deadline, where it stands at this
pub true_windows : LawOfTrueWindows
true_windows keys stands passed time n none_early =
    elim n.near [
      | inl due ↦ inl due
      | inr w ↦
          let b = w.in_window in
          let s = none_early w.slot w.key w.has in
          let t : ℕ = max w.key.deadline passed in
          let some : Some (bucket_on s.level t) ≡ Some (bucket_of_window b.level b.window) = sym s.in_window.at ∙ b.there.at in
          let same : bucket_on s.level t ≡ bucket_of_window b.level b.window = cc in
          let one = one_bucket s.level b.level (t / 512 ^ s.level) b.window same in
          let e : t / 512 ^ s.level ≡ t / 512 ^ b.level = ap (λ l. t / 512 ^ l) one.level in
          let p : passed / 512 ^ s.level ≡ passed / 512 ^ b.level = ap (λ l. passed / 512 ^ l) one.level in
          let up : passed / 512 ^ b.level ≤ b.window = omega (arith, from_begin passed b.window (512 ^ b.level) (some_wide b.level) (omega (arith, b.later, b.begin))) in
          let window : t / 512 ^ b.level ≡ b.window =
          one_window (passed / 512 ^ b.level) (t / 512 ^ b.level) b.window (later b.level passed t (omega arith)) up
          (omega (arith, s.in_window.near, e, p)) b.there.near (omega (arith, one.place, e)) in
          let not_late : t ≡ w.key.deadline =
          elim (cases_lt passed w.key.deadline) [
            | inl less ↦ omega (arith, less)
            | inr more ↦
                let is : t ≡ passed = omega (arith, more) in
                absurd (omega (arith, b.later, b.begin, begins b.level b.window passed (omega (arith, window, ap (λ x. x / 512 ^ b.level) is))))
          ] in
          inr (record {
            slot = w.slot;
            key = w.key;
            has = w.has;
            level = b.level;
            above = b.above;
            highest = b.highest;
            begin = b.begin ∙ ap (λ x. x * 512 ^ b.level) (sym window ∙ ap (λ x. x / 512 ^ b.level) not_late);
          })
    ]
  where
    from_begin : (next w m : ℕ) → 0 < m → next < w * m → next / m < w
    from_begin next w m wide less = (div-lt_iff_lt-mul {k = m} {x = next} {y = w} wide).1 less
