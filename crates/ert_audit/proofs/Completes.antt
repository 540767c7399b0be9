-- What a status tells, and that it is that of the text's verdict where nothing fails.

use Rattle.std.proofs.Common.{◌≡◌, ◌⊎◌, inl, inr, ◌++◌, ℕ, sym, ap, ◌∙◌, subst, List, Option, Some, None}
use Rattle.std.proofs.lemmas.List.{append-nil}
use Rattle.ert_io.specs.{Known.{StreamTold, before, HandsOut, IsAtEnd}, Reads.Input}
use Rattle.ert_audit.specs.{Audits.{status_telling, IsVerdict, HasAll, Judges}, Verdicts.{HasVerdict, verdict_line}, declared.status.AuditStatus.AuditStatus, declared.status.AuditStatus.TheVariants.{WriteFault, NoMemory}}
use Rattle.ert_audit.specs.{declared.verdict.Verdict.Verdict}

-- what was read to the end is all that there was
pub all_read : (old new : StreamTold ℕ) (read text : List ℕ) → HandsOut old new read → IsAtEnd new.left → old.left ≡ Some text → read ≡ text
all_read old new read text reads end told = all_of new.left read text (sym reads.left ∙ told) end
  where
    all_of : (left : Option (List ℕ)) (read text : List ℕ) → before read left ≡ Some text → IsAtEnd left → read ≡ text
    all_of None read text told end = let none : None ≡ Some text = told in absurd cc
    all_of (Some rest) read text told end =
        let both : Some (read ++ rest) ≡ Some text = told in
        let same : read ++ rest ≡ text = cc in
        sym (append-nil read) ∙ ap (λ (x : List ℕ). read ++ x) (sym end) ∙ same

-- the status, unless the output failed or memory ran out
pub told_so : (read text : List ℕ) (found wanted : Verdict) (status : AuditStatus)
    → ((t : List ℕ) (v w : Verdict) → HasVerdict t v → HasVerdict t w → v ≡ w) → read ≡ text
    → HasVerdict read found → HasVerdict text wanted → (status ≡ WriteFault → ⊥)
    → (status ≡ status_telling found) ⊎ (status ≡ WriteFault) ⊎ (status ≡ NoMemory)
    → (status ≡ status_telling wanted) ⊎ (status ≡ NoMemory)
told_so read text found wanted status one same has wants sure which = elim which [
  | inl is ↦ inl (is ∙ ap status_telling (one text found wanted (subst (λ (t : List ℕ). HasVerdict t found) same has) wants))
  | inr other ↦ elim other [
    | inl fault ↦ absurd (sure fault)
    | inr memory ↦ inr memory
  ]
]

-- a status that tells a verdict, where the output failed or memory ran out otherwise
pub judges : {text : List ℕ} {i j : Input} {taken taken_new : List ℕ} (verdict : Verdict) (status : AuditStatus)
    → HasAll text i j verdict
    → (status ≡ status_telling verdict) ⊎ (status ≡ WriteFault) ⊎ (status ≡ NoMemory)
    → (status ≡ status_telling verdict → taken_new ≡ taken ++ verdict_line verdict)
    → IsVerdict status → Judges status text i j taken taken_new
judges verdict status has which told is = elim which [
  | inl tells ↦ record { verdict = verdict; has = has; tells = tells; writes = told tells }
  | inr other ↦ elim other [
    | inl fault ↦ absurd (subst IsVerdict fault is)
    | inr memory ↦ absurd (subst IsVerdict memory is)
  ]
]
