-- Where a line stops being spelled, word by word.

use Rattle.std.proofs.Common.{◌≡◌, ◌≤◌, ◌<◌, ◌+◌, ◌-◌, ℕ, arith, refl, sym, ap, ◌∙◌, true, false, List, [], ◌∷◌, length, take, drop, get_or, Some, None}
use Rattle.ert_audit.specs.{Faults.{words_from, is_read, fault_from, turns_after}, Parts.Word, Readers.all_read, declared.spelling.wanted.Wanted.Wanted, declared.spelling.wanted.Wanted.TheVariants.{SettingsWord, End}}
use Rattle.ert_audit.proofs.{Left.{all_from, words_within, words_behind}, Splits.something_left}

-- the reader whose turn it is
abbrev pub next : List Wanted → Wanted
next turns = get_or turns 0 SettingsWord

-- no word is left
missing : (turns : List Wanted) (words : List Word) (at : ℕ) → 1 ≤ length turns → words ≡ []
    → fault_from turns words at ≡ Some (record { before = at - 1; wanted = next turns })
unfolding fault_from
missing [] words at some none = absurd (omega arith)
missing (wanted ∷ more) words at some none = rw none refl

-- the next one isn't read
wrong : (turns : List Wanted) (words : List Word) (at : ℕ) (word : Word) (rest : List Word) → 1 ≤ length turns → words ≡ word ∷ rest
    → is_read (next turns) word ≡ false → fault_from turns words at ≡ Some (record { before = at; wanted = next turns })
unfolding fault_from
wrong [] words at word rest some is bad = absurd (omega arith)
wrong (wanted ∷ more) words at word rest some is bad = rw (is, bad) refl

-- it is read
goes_on : (turns : List Wanted) (words : List Word) (at : ℕ) (word : Word) (rest : List Word) → 1 ≤ length turns → words ≡ word ∷ rest
    → is_read (next turns) word ≡ true
    → fault_from turns words at ≡ fault_from (turns_after (next turns) word (drop 1 turns)) rest (at + length word + 1)
unfolding fault_from
goes_on [] words at word rest some is good = absurd (omega arith)
goes_on (wanted ∷ more) words at word rest some is good = rw (is, good) refl

-- none was to follow
over : (turns : List Wanted) (words : List Word) (at : ℕ) → length turns < 1 → words ≡ [] → fault_from turns words at ≡ None
unfolding fault_from
over [] words at few none = rw none refl
over (wanted ∷ more) words at few none = absurd (omega arith)

left_over : (turns : List Wanted) (words : List Word) (at : ℕ) → length turns < 1 → all_read {A = ℕ} (0, words) ≡ None
    → fault_from turns words at ≡ Some (record { before = at - 1; wanted = End })
unfolding fault_from
left_over [] [] at few some = absurd cc
left_over [] (word ∷ words) at few some = refl
left_over (wanted ∷ more) words at few some = absurd (omega arith)

-- the same at a place of a line
pub stops_behind : (line : List ℕ) (turns : List Wanted) (at : ℕ) → 1 ≤ length turns → length line < at → at ≤ length line + 1
    → Some (record { before = length line; wanted = next turns }) ≡ fault_from turns (words_from line at) at
stops_behind line turns at some high low =
    let same : at - 1 ≡ length line = omega arith in
    sym (missing turns (words_from line at) at some (words_behind line at high)
    ∙ ap (λ n. Some (record { before = n; wanted = next turns })) same)

pub stops_at : (line : List ℕ) (turns : List Wanted) (at : ℕ) (word : Word) (rest : List Word) → 1 ≤ length turns
    → words_from line at ≡ word ∷ rest → is_read (next turns) word ≡ false
    → Some (record { before = at; wanted = next turns }) ≡ fault_from turns (words_from line at) at
stops_at line turns at word rest some is bad = sym (wrong turns (words_from line at) at word rest some is bad)

pub read_on : (line : List ℕ) (turns after : List Wanted) (at : ℕ) (word : Word) → 1 ≤ length turns
    → words_from line at ≡ word ∷ words_from line (at + length word + 1) → is_read (next turns) word ≡ true
    → after ≡ turns_after (next turns) word (take (length turns - 1) (drop 1 turns))
    → fault_from turns (words_from line at) at ≡ fault_from after (words_from line (at + (length word + 1))) (at + (length word + 1))
read_on line turns after at word some is good then =
    let all : after ≡ turns_after (next turns) word (drop 1 turns) =
    then ∙ ap (λ (ts : List Wanted). turns_after (next turns) word ts) (all_from turns 1) in
    let same : at + length word + 1 ≡ at + (length word + 1) = omega arith in
    goes_on turns (words_from line at) at word (words_from line (at + length word + 1)) some is good
    ∙ ap (λ (ts : List Wanted). fault_from ts (words_from line (at + length word + 1)) (at + length word + 1)) (sym all)
    ∙ ap (λ n. fault_from after (words_from line n) n) same

pub ends : (line : List ℕ) (turns : List Wanted) (at : ℕ) → length turns < 1 → length line < at
    → None ≡ fault_from turns (words_from line at) at
ends line turns at few high = sym (over turns (words_from line at) at few (words_behind line at high))

pub more_stands : (line : List ℕ) (turns : List Wanted) (at before : ℕ) → length turns < 1 → at ≤ length line → before ≡ at - 1
    → Some (record { before = before; wanted = End }) ≡ fault_from turns (words_from line at) at
more_stands line turns at before few low is =
    sym (left_over turns (words_from line at) at few
    (ap (λ (ws : List Word). all_read {A = ℕ} (0, ws)) (words_within line at low) ∙ something_left 0 (drop at line))
    ∙ ap (λ n. Some (record { before = n; wanted = End })) (sym is))
