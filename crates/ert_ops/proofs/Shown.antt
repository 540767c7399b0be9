-- Two states that differ in the names of timers alone: for each reference of the one the other has another,
-- by a relation that is one to one and keeps the wheel.

use Rattle.std.proofs.Common.{◌≡◌, ℕ, Bool, true, false, cond, List, [], ◌∷◌, ◌++◌, Option, Some, None, refl, sym, subst}
use Rattle.ert_defs.specs.{Mails.{MailState, SchedState, first_of, others_of, message_by, message_of, message_in, answer_by, answer_of, answer_in, with_row}, States.State, Timers.{Row, same_timer, row_of}, declared.entry.Actor.Actor}
use Rattle.ert_defs.specs.{declared.mail.Mail.Mail, declared.mail.Mail.TheVariants.{Timeout, Bare as BareMail, CancelDone, ReadDone, Change}, declared.mail.Request.Request, declared.mail.RequestKind.RequestKind}
use Rattle.ert_defs.specs.{declared.mail.RequestKind.TheVariants.{Cancel as ToCancel, Read as ToRead}, declared.timer.Kind.Kind, declared.timer.Kind.TheVariants.{Wrapped, Bare}, declared.timer.TimerRef.TimerRef}

-- which reference of the one state is which of the other
abbrev pub Names : Type 1
Names = TimerRef → TimerRef → Type 0

pub record AreNames (R : Names) : Type 0 where
  pub wheel : (r n : TimerRef) → R r n → n.wheel ≡ r.wheel
  pub same : (r n t m : TimerRef) → R r n → R t m → same_timer n m ≡ same_timer r t

-- what two names are, they are by another relation
abbrev pub Grows : Names → Names → Type 0
Grows R S = (r n : TimerRef) → R r n → S r n

-- two lists, item by item
abbrev pub Pairs : {X : Type 0} → (X → X → Type 0) → List X → List X → Type 0
Pairs P [] [] = Unit {0}
Pairs P (x ∷ xs) (y ∷ ys) = P x y × Pairs P xs ys
Pairs P _ _ = ⊥

abbrev pub Both : {X : Type 0} → (X → X → Type 0) → Option X → Option X → Type 0
Both P None None = Unit {0}
Both P (Some x) (Some y) = P x y
Both P _ _ = ⊥

-- rows, requests and messages that differ in the name of their timer alone
pub record SameRow (R : Names) (a b : Row) : Type 0 where
  pub timer : R a.timer b.timer
  pub deadline : a.deadline ≡ b.deadline
  pub dest : a.dest ≡ b.dest
  pub msg : a.msg ≡ b.msg
  pub kind : a.kind ≡ b.kind

pub record SameRequest (R : Names) (a b : Request) : Type 0 where
  pub kind : a.kind ≡ b.kind
  pub timer : R a.timer b.timer
  pub reply_to : a.reply_to ≡ b.reply_to
  pub info : a.info ≡ b.info

abbrev pub SameMail : Names → Mail → Mail → Type 0
SameMail R (Timeout t x) (Timeout n y) = R t n × (x ≡ y)
SameMail R (BareMail x) (BareMail y) = x ≡ y
SameMail R (CancelDone t x) (CancelDone n y) = R t n × (x ≡ y)
SameMail R (ReadDone t x) (ReadDone n y) = R t n × (x ≡ y)
SameMail R (Change m x) (Change n y) = (m ≡ n) × (x ≡ y)
SameMail R _ _ = ⊥

pub record SameMails (R : Names) (a b : MailState) : Type 0 where
  pub queue : Pairs (SameMail R) a.queue b.queue
  pub monitors : a.monitors ≡ b.monitors
  pub next : a.next ≡ b.next

pub record SameSched (R : Names) (a b : SchedState) : Type 0 where
  pub hand : Both (SameRequest R) a.hand b.hand
  pub expired : Pairs (SameRow R) a.expired b.expired

-- two states that differ in names alone
pub record Shows (R : Names) (s c : State) : Type 0 where
  pub clock : s.clock ≡ c.clock
  pub looked : (a : Actor) → s.looked a ≡ c.looked a
  pub exited : (p : ℕ) → s.exited p ≡ c.exited p
  pub rows : (w : ℕ) → Pairs (SameRow R) (s.rows w) (c.rows w)
  pub mails : (p : ℕ) → SameMails R (s.mails p) (c.mails p)
  pub inboxes : (w : ℕ) → Pairs (SameRequest R) (s.inboxes w) (c.inboxes w)
  pub scheds : (w : ℕ) → SameSched R (s.scheds w) (c.scheds w)
  pub status : (r n : TimerRef) → R r n → s.status r ≡ c.status n

-- on lists and options

pub both_if : {X Y : Type 0} (P : X → Y → Type 0) (b : Bool) (x x' : X) (y y' : Y) → P x y → P x' y' → P (cond b x x') (cond b y y')
both_if P true x x' y y' p q = p
both_if P false x x' y y' p q = q

pub pairs-append : {X : Type 0} (P : X → X → Type 0) (xs ys us vs : List X) → Pairs P xs ys → Pairs P us vs → Pairs P (xs ++ us) (ys ++ vs)
pairs-append P [] [] us vs h k = k
pairs-append P (x ∷ xs) (y ∷ ys) us vs h k = (h.0, pairs-append P xs ys us vs h.1 k)
pairs-append P [] (y ∷ ys) us vs h k = absurd h
pairs-append P (x ∷ xs) [] us vs h k = absurd h

pub pairs_weaker : {X : Type 0} (P Q : X → X → Type 0) → ((x y : X) → P x y → Q x y) → (xs ys : List X) → Pairs P xs ys → Pairs Q xs ys
pairs_weaker P Q weaker [] [] h = tt
pairs_weaker P Q weaker (x ∷ xs) (y ∷ ys) h = (weaker x y h.0, pairs_weaker P Q weaker xs ys h.1)
pairs_weaker P Q weaker [] (y ∷ ys) h = absurd h
pairs_weaker P Q weaker (x ∷ xs) [] h = absurd h

pub both_weaker : {X : Type 0} (P Q : X → X → Type 0) → ((x y : X) → P x y → Q x y) → (a b : Option X) → Both P a b → Both Q a b
both_weaker P Q weaker None None h = tt
both_weaker P Q weaker (Some x) (Some y) h = weaker x y h
both_weaker P Q weaker None (Some y) h = absurd h
both_weaker P Q weaker (Some x) None h = absurd h

pub pairs_first : {X : Type 0} (P : X → X → Type 0) (xs ys : List X) → Pairs P xs ys → Both P (first_of xs) (first_of ys)
pairs_first P [] [] h = tt
pairs_first P (x ∷ xs) (y ∷ ys) h = h.0
pairs_first P [] (y ∷ ys) h = absurd h
pairs_first P (x ∷ xs) [] h = absurd h

pub pairs_others : {X : Type 0} (P : X → X → Type 0) (xs ys : List X) → Pairs P xs ys → Pairs P (others_of xs) (others_of ys)
pairs_others P [] [] h = tt
pairs_others P (x ∷ xs) (y ∷ ys) h = h.1
pairs_others P [] (y ∷ ys) h = absurd h
pairs_others P (x ∷ xs) [] h = absurd h

-- what changes where the relation grows

pub row_grows : (R S : Names) → Grows R S → (a b : Row) → SameRow R a b → SameRow S a b
row_grows R S grows a b h =
    record { timer = grows a.timer b.timer h.timer; deadline = h.deadline; dest = h.dest; msg = h.msg; kind = h.kind }

pub request_grows : (R S : Names) → Grows R S → (a b : Request) → SameRequest R a b → SameRequest S a b
request_grows R S grows a b h = record { kind = h.kind; timer = grows a.timer b.timer h.timer; reply_to = h.reply_to; info = h.info }

mail_grows : (R S : Names) → Grows R S → (a b : Mail) → SameMail R a b → SameMail S a b
mail_grows R S grows (Timeout t x) (Timeout n y) h = (grows t n h.0, h.1)
mail_grows R S grows (BareMail x) (BareMail y) h = h
mail_grows R S grows (CancelDone t x) (CancelDone n y) h = (grows t n h.0, h.1)
mail_grows R S grows (ReadDone t x) (ReadDone n y) h = (grows t n h.0, h.1)
mail_grows R S grows (Change m x) (Change n y) h = h
mail_grows R S grows _ _ h = absurd h

pub rows_grow : (R S : Names) → Grows R S → (xs ys : List Row) → Pairs (SameRow R) xs ys → Pairs (SameRow S) xs ys
rows_grow R S grows = pairs_weaker (SameRow R) (SameRow S) (row_grows R S grows)

pub requests_grow : (R S : Names) → Grows R S → (xs ys : List Request) → Pairs (SameRequest R) xs ys → Pairs (SameRequest S) xs ys
requests_grow R S grows = pairs_weaker (SameRequest R) (SameRequest S) (request_grows R S grows)

pub mails_grow : (R S : Names) → Grows R S → (a b : MailState) → SameMails R a b → SameMails S a b
mails_grow R S grows a b h = record {
  queue = pairs_weaker (SameMail R) (SameMail S) (mail_grows R S grows) a.queue b.queue h.queue;
  monitors = h.monitors;
  next = h.next;
}

pub sched_grows : (R S : Names) → Grows R S → (a b : SchedState) → SameSched R a b → SameSched S a b
sched_grows R S grows a b h = record {
  hand = both_weaker (SameRequest R) (SameRequest S) (request_grows R S grows) a.hand b.hand h.hand;
  expired = rows_grow R S grows a.expired b.expired h.expired;
}

-- what is found in such lists

row_both_at : (R : Names) (b : Bool) (x y : Row) (p q : Option Row) → SameRow R x y → Both (SameRow R) p q
    → Both (SameRow R) (cond b (Some x) p) (cond b (Some y) q)
row_both_at R true x y p q h k = h
row_both_at R false x y p q h k = k

pub row_both : (R : Names) → AreNames R → (r n : TimerRef) → R r n → (xs ys : List Row) → Pairs (SameRow R) xs ys
    → Both (SameRow R) (row_of xs r) (row_of ys n)
row_both R names r n is [] [] h = tt
row_both R names r n is (x ∷ xs) (y ∷ ys) h =
    let rest = row_both R names r n is xs ys h.1 in
    let same : same_timer y.timer n ≡ same_timer x.timer r = names.same x.timer y.timer r n h.0.timer is in
    subst (λ (b : Bool). Both (SameRow R) (cond (same_timer x.timer r) (Some x) (row_of xs r)) (cond b (Some y) (row_of ys n))) (sym same)
    (row_both_at R (same_timer x.timer r) x y (row_of xs r) (row_of ys n) h.0 rest)
row_both R names r n is [] (y ∷ ys) h = absurd h
row_both R names r n is (x ∷ xs) [] h = absurd h

message_by_kind : (R : Names) (k : Kind) (t n : TimerRef) (x y : ℕ) → R t n → x ≡ y → SameMail R (message_by k t x) (message_by k n y)
message_by_kind R Wrapped t n x y h e = (h, e)
message_by_kind R Bare t n x y h e = e

message_same : (R : Names) (a b : Row) → SameRow R a b → SameMail R (message_of a) (message_of b)
message_same R a b h =
    subst (λ (k : Kind). SameMail R (message_of a) (message_by k b.timer b.msg)) h.kind
    (message_by_kind R a.kind a.timer b.timer a.msg b.msg h.timer h.msg)

pub messages_same : (R : Names) (xs ys : List Row) → Pairs (SameRow R) xs ys → Pairs (SameMail R) (message_in xs) (message_in ys)
messages_same R [] [] h = tt
messages_same R (x ∷ xs) (y ∷ ys) h = (message_same R x y h.0, tt)
messages_same R [] (y ∷ ys) h = absurd h
messages_same R (x ∷ xs) [] h = absurd h

answer_by_kind : (R : Names) (k : RequestKind) (t n : TimerRef) (left : Option ℕ) → R t n → SameMail R (answer_by k t left) (answer_by k n left)
answer_by_kind R ToCancel t n left h = (h, refl)
answer_by_kind R ToRead t n left h = (h, refl)

answer_if : (R : Names) (b : Bool) (k : RequestKind) (t n : TimerRef) (left : Option ℕ) → R t n
    → Pairs (SameMail R) (cond b (answer_by k t left ∷ []) []) (cond b (answer_by k n left ∷ []) [])
answer_if R true k t n left h = (answer_by_kind R k t n left h, tt)
answer_if R false k t n left h = tt

pub answers_same : (R : Names) (a b : Option Request) (left : Option ℕ) → Both (SameRequest R) a b
    → Pairs (SameMail R) (answer_in a left) (answer_in b left)
answers_same R None None left h = tt
answers_same R (Some a) (Some b) left h =
    subst (λ (k : RequestKind). Pairs (SameMail R) (answer_of a left) (cond b.info (answer_by k b.timer left ∷ []) [])) h.kind
    (subst (λ (i : Bool). Pairs (SameMail R) (answer_of a left) (cond i (answer_by a.kind b.timer left ∷ []) [])) h.info
    (answer_if R a.info a.kind a.timer b.timer left h.timer))
answers_same R None (Some b) left h = absurd h
answers_same R (Some a) None left h = absurd h

pub with_row_same : (R : Names) (xs ys : List Row) (a b : Option Row) → Pairs (SameRow R) xs ys → Both (SameRow R) a b
    → Pairs (SameRow R) (with_row xs a) (with_row ys b)
with_row_same R xs ys None None h k = h
with_row_same R xs ys (Some x) (Some y) h k = pairs-append (SameRow R) xs ys (x ∷ []) (y ∷ []) h (k, tt)
with_row_same R xs ys None (Some y) h k = absurd k
with_row_same R xs ys (Some x) None h k = absurd k
