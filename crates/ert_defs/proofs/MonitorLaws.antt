-- What it is to tell one monitor more, and all of them.

use Rattle.std.proofs.Common.{◌≡◌, ◌∙◌, refl, ap, inl, inr, ℕ, ℤ, ◌+◌, ◌<◌, ◌≤◌, List, [], ◌∷◌, ◌++◌, length, get_or, set, take, drop, append-nil, arith}
use Rattle.std.proofs.lemmas.{Bool.cases_Bool, Grind.common_steps, List.{take_more, drop_all, take_all, get_or_default}, List.Edits.map_over_more}
use Rattle.ert_defs.specs.{Mails.{is_news, changes_of, told_of}, declared.mail.Mail.TheVariants.Change, declared.mail.Monitor.Monitor}

-- the messages to one more monitor come last
changes_push : (offset : ℤ) (ms ns : List Monitor) → changes_of offset (ms ++ ns) ≡ changes_of offset ms ++ changes_of offset ns
changes_push offset [] ns = refl
changes_push offset (m ∷ ms) ns = elim (cases_Bool (is_news offset m)) [
  | inl is ↦ rw is (ap (λ xs. Change m.number offset ∷ xs) (changes_push offset ms ns))
  | inr not ↦ rw not (changes_push offset ms ns)
]

pub changes_more : (offset : ℤ) (ms : List Monitor) (i : ℕ) (d : Monitor) → i < length ms
    → changes_of offset (take (i + 1) ms) ≡ changes_of offset (take i ms) ++ changes_of offset (get_or ms i d ∷ [])
changes_more offset ms i d low = rw (take_more ms i d low) (changes_push offset (take i ms) (get_or ms i d ∷ []))

-- one more of them told
pub told_more : (offset : ℤ) (ms now : List Monitor) (i : ℕ) (d : Monitor) → i < length ms → i < length now
    → now ≡ told_of offset (take i ms) ++ drop i ms
    → set now i (record { number = (get_or now i d).number; told = offset }) ≡ told_of offset (take (i + 1) ms) ++ drop (i + 1) ms
told_more offset ms now i d low low_now so_far =
    map_over_more (λ (m : Monitor). record { number = m.number; told = offset }) ms now i (get_or now i d) low so_far
    (get_or_default now i d (get_or now i d) low_now)

-- one that is left is as it was
pub untold : (offset : ℤ) (ms now : List Monitor) (i : ℕ) (d : Monitor) → i < length ms
    → now ≡ told_of offset (take i ms) ++ drop i ms → get_or now i d ≡ get_or ms i d
untold offset ms now i d low so_far = ap (λ xs. get_or xs i d) so_far ∙ grind (arith, common_steps)

-- all of them told
pub told_whole : (x offset : ℤ) (ms : List Monitor) (i : ℕ) → x ≡ offset → length ms ≤ i
    → told_of x (take i ms) ++ drop i ms ≡ told_of offset ms
told_whole x offset ms i same past = rw (same, take_all i ms past, drop_all i ms past) (append-nil (told_of offset ms))
