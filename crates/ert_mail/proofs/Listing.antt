-- A row of processes, and which are listed in it.

use Rattle.std.proofs.Common.{◌≡◌, ◌≢◌, ℕ, ◌<◌, Bool, true, false, not, ◌&&◌, ◌||◌, nat_eq, List, [], ◌∷◌, ◌++◌, length, Some, None, refl, sym, ap, subst, ◌∙◌, eqb-true, eq-eqb, if◌then◌else◌}
use Rattle.std.specs.Prelude.{slice_set, slice_index_or}
use Rattle.std.proofs.lemmas.{Grind.get_or-set_at, List.{get_or-set_other, get_or_default, length-set}}
use Rattle.std.specs.List.{list_any}
use Rattle.ert_defs.specs.declared.mail.Mail.{Mail}
use Rattle.ert_mail.specs.{Lists.{IsRow, AreListed, IsNextIn, with_listed}, Mailboxes.Mailbox, Turns.{TurnRow, is_listed}}
use Rattle.ert_mail.proofs.Rows.{list_any-push}

no_length : (queue : List Mail) → length queue ≡ 0 → queue ≡ []
no_length [] none = refl
no_length (m ∷ queue) none = absurd cc

-- one place of a list of flags is written
flag_at : (listed : List Bool) (p q : ℕ) (b : Bool) → p < length listed → (nat_eq q p ≡ true → slice_index_or (slice_set listed p b) q false ≡ b)
    × (nat_eq q p ≡ false → slice_index_or (slice_set listed p b) q false ≡ slice_index_or listed q false)
flag_at listed p q b low = (
  λ is. get_or-set_at listed p q b false (eqb-true q p is) low,
  λ not. get_or-set_other listed p q b false (λ (e : q ≡ p). let clash : true ≡ false = sym (eq-eqb q p e) ∙ not in cc),
)

-- a process is put
pub row_put : (row : TurnRow) (listed : List Bool) (p : ℕ) → IsRow row listed → p < length listed
    → IsRow (record row { held = row.held ++ p ∷ [] }) (slice_set listed p true)
row_put row listed p is low = record {
  counted = is.counted ∙ sym (length-set listed p true);
  each = λ q. list_any-push (nat_eq q) row.held p ∙ at q (nat_eq q p) refl;
}
  where
    at : (q : ℕ) (b : Bool) → nat_eq q p ≡ b → (nat_eq q p || is_listed row q) ≡ slice_index_or (slice_set listed p true) q false
    at q true same = ap (λ b. b || is_listed row q) same ∙ sym ((flag_at listed p q true low).0 same)
    at q false apart = ap (λ b. b || is_listed row q) apart ∙ (is.each q ∙ sym ((flag_at listed p q true low).1 apart))

-- the first one is taken out
pub row_taken : (old new : TurnRow) (listed : List Bool) (p : ℕ) → IsRow old listed → p < length listed → old ≡ record new { held = p ∷ new.held }
    → is_listed new p ≡ false → IsRow new (slice_set listed p false)
row_taken old new listed p is low taken away = record {
  counted = sym (ap (λ (r : TurnRow). r.bound) taken) ∙ is.counted ∙ sym (length-set listed p false);
  each = λ q. at q (nat_eq q p) refl;
}
  where
    at : (q : ℕ) (b : Bool) → nat_eq q p ≡ b → is_listed new q ≡ slice_index_or (slice_set listed p false) q false
    at q true same = ap (is_listed new) (eqb-true q p same) ∙ away ∙ sym ((flag_at listed p q false low).0 same)
    at q false apart =
        sym (ap (λ b. b || is_listed new q) apart) ∙ sym (ap (λ (r : TurnRow). is_listed r q) taken) ∙ is.each q ∙ sym ((flag_at listed p q false low).1 apart)

-- a process is listed as the flag at its place tells
pub flag_is : (row : TurnRow) (listed : List Bool) (p : ℕ) (b : Bool) → IsRow row listed → p < length listed → b ≡ slice_index_or listed p b
    → is_listed row p ≡ b
flag_is row listed p b is low at = is.each p ∙ (get_or_default listed p false b low ∙ sym at)

-- one that is listed needn't be put
pub with_there : (row : TurnRow) (p : ℕ) → is_listed row p ≡ true → with_listed row p ≡ row
with_there row p is = ap (λ b. (if b then row else record row { held = row.held ++ p ∷ [] })) is

-- and another one is put last
pub with_new : (row : TurnRow) (p : ℕ) → is_listed row p ≡ false → with_listed row p ≡ record row { held = row.held ++ p ∷ [] }
with_new row p is = ap (λ b. (if b then row else record row { held = row.held ++ p ∷ [] })) is

-- so that just this one more is listed
pub listed_with : (row : TurnRow) (p q : ℕ) → is_listed (with_listed row p) q ≡ (nat_eq q p || is_listed row q)
listed_with row p q = at (is_listed row p) refl (nat_eq q p) refl
  where
    at : (b : Bool) → is_listed row p ≡ b → (e : Bool) → nat_eq q p ≡ e → is_listed (with_listed row p) q ≡ (e || is_listed row q)
    at true is true same =
        ap (λ (r : TurnRow). is_listed r q) (with_there row p is) ∙ (ap (is_listed row) (eqb-true q p same) ∙ is)
    at true is false apart = ap (λ (r : TurnRow). is_listed r q) (with_there row p is)
    at false is e same =
        ap (λ (r : TurnRow). is_listed r q) (with_new row p is) ∙ (list_any-push (nat_eq q) row.held p ∙ ap (λ b. b || is_listed row q) same)

-- it has as many places
pub bound_with : (row : TurnRow) (p : ℕ) → (with_listed row p).bound ≡ row.bound
bound_with row p = at (is_listed row p) refl
  where
    at : (b : Bool) → is_listed row p ≡ b → (with_listed row p).bound ≡ row.bound
    at true is = ap (λ (r : TurnRow). r.bound) (with_there row p is)
    at false is = ap (λ (r : TurnRow). r.bound) (with_new row p is)

-- a mailbox of which nothing can be taken needn't be listed
pub still_listed : (exited : ℕ → Bool) (old new : TurnRow) (mails : List Mailbox) (p : ℕ) → old ≡ record new { held = p ∷ new.held }
    → AreListed exited old mails → ((d : Mailbox) → (slice_index_or mails p d).held.queue ≢ [] → exited p ≡ false → ⊥)
    → AreListed exited new mails
still_listed exited old new mails p is are none = record {
  counted = sym (ap (λ (r : TurnRow). r.bound) is) ∙ are.counted;
  each = λ q e low some lives. at q e some lives (nat_eq q p) refl (sym (ap (λ (r : TurnRow). is_listed r q) is) ∙ are.each q e low some lives);
}
  where
    at : (q : ℕ) (e : Mailbox) → (slice_index_or mails q e).held.queue ≢ [] → exited q ≡ false → (b : Bool) → nat_eq q p ≡ b
        → (nat_eq q p || is_listed new q) ≡ true → is_listed new q ≡ true
    at q e some lives true same was =
        let one : q ≡ p = eqb-true q p same in
        absurd (none e (λ no. some (ap (λ n. (slice_index_or mails n e).held.queue) one ∙ no)) (ap exited (sym one) ∙ lives))
    at q e some lives false apart was = sym (ap (λ b. b || is_listed new q) apart) ∙ was

-- where a mailbox is empty nothing can be taken
pub none_waits : (exited : ℕ → Bool) (mails : List Mailbox) (p : ℕ) (m : Mailbox) → p < length mails → m ≡ slice_index_or mails p m → length m.held.queue ≡ 0
    → (d : Mailbox) → (slice_index_or mails p d).held.queue ≢ [] → exited p ≡ false → ⊥
none_waits exited mails p m low is empty d some lives =
    some (ap (λ (x : Mailbox). x.held.queue) (get_or_default mails p d m low) ∙ (ap (λ (x : Mailbox). x.held.queue) (sym is) ∙ no_length m.held.queue empty))

-- more processes may have exited
pub listed_on : (before after : ℕ → Bool) (row : TurnRow) (mails : List Mailbox) → ((p : ℕ) → before p ≡ true → after p ≡ true)
    → AreListed before row mails → AreListed after row mails
listed_on before after row mails on are = record {
  counted = are.counted;
  each = λ q e low some lives. are.each q e low some (at q lives (before q) refl);
}
  where
    at : (q : ℕ) → after q ≡ false → (b : Bool) → before q ≡ b → before q ≡ false
    at q lives false is = is
    at q lives true is = let clash : true ≡ false = sym (on q is) ∙ lives in absurd cc

-- one that was taken out and put again
pub listed_again : (exited : ℕ → Bool) (old new : TurnRow) (mails : List Mailbox) (p : ℕ) → old ≡ record new { held = p ∷ new.held }
    → AreListed exited old mails → AreListed exited (with_listed new p) mails
listed_again exited old new mails p is are = record {
  counted = bound_with new p ∙ (sym (ap (λ (r : TurnRow). r.bound) is) ∙ are.counted);
  each = λ q e low some lives. listed_with new p q ∙ (sym (ap (λ (r : TurnRow). is_listed r q) is) ∙ are.each q e low some lives);
}

-- a process is listed, and then its mailbox changes
pub listed_put : (exited : ℕ → Bool) (row : TurnRow) (mails : List Mailbox) (p : ℕ) (new : Mailbox) → AreListed exited row mails → p < length mails
    → AreListed exited (with_listed row p) (slice_set mails p new)
listed_put exited row mails p new all low = record {
  counted = bound_with row p ∙ (all.counted ∙ sym (length-set mails p new));
  each = λ q d below some lives.
      listed_with row p q ∙ at q d (subst (λ n. q < n) (length-set mails p new) below) some lives (nat_eq q p) refl;
}
  where
    at : (q : ℕ) (d : Mailbox) → q < length mails → (slice_index_or (slice_set mails p new) q d).held.queue ≢ [] → exited q ≡ false → (b : Bool)
        → nat_eq q p ≡ b → (nat_eq q p || is_listed row q) ≡ true
    at q d below some lives true same = ap (λ b. b || is_listed row q) same
    at q d below some lives false apart =
        let other : q ≢ p = λ (e : q ≡ p). let clash : true ≡ false = sym (eq-eqb q p e) ∙ apart in cc in
        ap (λ b. b || is_listed row q) apart
        ∙ all.each q d below (λ none. some (ap (λ (m : Mailbox). m.held.queue) (get_or-set_other mails p q new d other) ∙ none)) lives

-- a mailbox gets no mail
pub listed_less : (exited : ℕ → Bool) (row : TurnRow) (mails : List Mailbox) (p : ℕ) (old new : Mailbox) → AreListed exited row mails → p < length mails
    → old ≡ slice_index_or mails p old → (new.held.queue ≢ [] → old.held.queue ≢ []) → AreListed exited row (slice_set mails p new)
listed_less exited row mails p old new all low is less = record {
  counted = all.counted ∙ sym (length-set mails p new);
  each = λ q d below some lives. at q d (subst (λ n. q < n) (length-set mails p new) below) some lives (nat_eq q p) refl;
}
  where
    at : (q : ℕ) (d : Mailbox) → q < length mails → (slice_index_or (slice_set mails p new) q d).held.queue ≢ [] → exited q ≡ false → (b : Bool)
        → nat_eq q p ≡ b → is_listed row q ≡ true
    at q d below some lives true same =
        let one : q ≡ p = eqb-true q p same in
        let had : old.held.queue ≢ [] = less (λ none. some (ap (λ (m : Mailbox). m.held.queue) (get_or-set_at mails p q new d one low) ∙ none)) in
        subst (λ n. is_listed row n ≡ true) (sym one)
        (all.each p old low (λ none. had (ap (λ (m : Mailbox). m.held.queue) is ∙ none)) (ap exited (sym one) ∙ lives))
    at q d below some lives false apart =
        let other : q ≢ p = λ (e : q ≡ p). let clash : true ≡ false = sym (eq-eqb q p e) ∙ apart in cc in
        all.each q d below (λ none. some (ap (λ (m : Mailbox). m.held.queue) (get_or-set_other mails p q new d other) ∙ none)) lives

-- a mailbox of which something waits has mail
pub some_next : (exited : ℕ → Bool) (mails : List Mailbox) (p : ℕ) (m : Mailbox) → p < length mails → m ≡ slice_index_or mails p m
    → length m.held.queue ≢ 0 → exited p ≡ false → IsNextIn exited mails (Some p)
some_next exited mails p m low is some lives = (
  low,
  lives,
  λ d no. some (ap (length {A = Mail}) (ap (λ (x : Mailbox). x.held.queue) (is ∙ get_or_default mails p m d low) ∙ no)),
)

-- where none is listed each that has mail has exited
pub none_next : (exited : ℕ → Bool) (row : TurnRow) (mails : List Mailbox) → AreListed exited row mails → row.held ≡ [] → IsNextIn exited mails None
none_next exited row mails are none = λ p d low some. at p d low some (exited p) refl
  where
    at : (p : ℕ) (d : Mailbox) → p < length mails → (slice_index_or mails p d).held.queue ≢ [] → (b : Bool) → exited p ≡ b → exited p ≡ true
    at p d low some true is = is
    at p d low some false is =
        let there : false ≡ true = sym (ap (list_any (nat_eq p)) none) ∙ are.each p d low some is in absurd cc
