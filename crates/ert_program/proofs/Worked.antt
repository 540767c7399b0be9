-- The lists and the turns of all, from what each thread left.

use Rattle.std.proofs.Common.{◌≡◌, ℕ, zero, suc, ◌<◌, List, [], ◌∷◌, length, map, slice_index_or, Ok, Err, refl, sym, ap, subst, ◌∙◌, arith}
use Rattle.std.specs.Prelude.{IfOk, OnOk, Result}
use Rattle.ert_defs.specs.declared.{entry.Entry.Entry, memory.NoMemory.NoMemory, settings.Settings.Settings}
use Rattle.ert_ops.specs.{Races.{MayDo, MayDoAll}, declared.op.Op.Op, Labels.Labels}
use Rattle.ert_program.specs.{Worked.{list_at, list_ok, turns_ok, CallerWorked, SchedWorked, ListsDone, TurnsDone}, Workers.{DoesAll, TurnsSoOften}, declared.races.list.ListDone.ListDone}
use Rattle.ert_service.specs.Dividing.{AreSeated}

-- the list of a number may be done
pub may_at : (g : Settings) (lists : List (List Op)) (n : ℕ) → MayDoAll g lists → MayDo g (list_at lists n)
may_at g [] n may = tt
may_at g (ops ∷ lists) zero may = may.0
may_at g (ops ∷ lists) (suc n) may = may_at g lists n may.1

-- an element of a list, whatever stands for what isn't there
pub record At {X : Type 0} (xs : List X) (k : ℕ) : Type 0 where
  pub element : X
  pub is : (d : X) → slice_index_or xs k d ≡ element

pub at_low : {X : Type 0} (xs : List X) (k : ℕ) → k < length xs → At xs k
at_low [] k low = absurd (omega arith)
at_low (x ∷ xs) zero low = record { element = x; is = λ d. refl }
at_low (x ∷ xs) (suc k) low = let rest = at_low xs k (omega (arith, low)) in record { element = rest.element; is = rest.is }

-- what stands in a list of what its elements give
at_mapped : {X Y : Type 0} (f : X → Y) (xs : List X) (k : ℕ) (low : k < length xs) (d : X) (e : Y) → slice_index_or (map f xs) k e ≡ f (slice_index_or xs k d)
at_mapped f [] k low d e = absurd (omega arith)
at_mapped f (x ∷ xs) zero low d e = refl
at_mapped f (x ∷ xs) (suc k) low d e = at_mapped f xs k (omega (arith, low)) d e

pub length_mapped : {X Y : Type 0} (f : X → Y) (xs : List X) → length (map f xs) ≡ length xs
length_mapped f [] = refl
length_mapped f (x ∷ xs) = ap (λ n. suc n) (length_mapped f xs)

-- what one caller has done, and what one scheduler
one_list : (g : Settings) (known : Labels) (lists : List (List Op)) (n k : ℕ) (e f h l : List Entry) (r : Result ListDone NoMemory) (d : ListDone)
    → IfOk r (λ d. DoesAll g n known (list_at lists n) d.replies.items d.own e h) → r ≡ list_ok d → n ≡ k → e ≡ f → h ≡ l
    → DoesAll g k known (list_at lists k) d.replies.items d.own f l
one_list g known lists n k e f h l r d does is number front seat =
    subst (λ x. DoesAll g k known (list_at lists k) d.replies.items d.own f x) seat
    (subst (λ x. DoesAll g k known (list_at lists k) d.replies.items d.own x h) front
    (subst (λ x. DoesAll g x known (list_at lists x) d.replies.items d.own e h) number
    (subst (λ (x : Result ListDone NoMemory). IfOk x (λ d. DoesAll g n known (list_at lists n) d.replies.items d.own e h)) is does)))

one_turns : (g : Settings) (turns n k : ℕ) (e f h l : List Entry) (r : Result (Unit {0}) NoMemory)
    → OnOk r (TurnsSoOften g n turns e h) → r ≡ Ok tt → n ≡ k → e ≡ f → h ≡ l → TurnsSoOften g k turns f l
one_turns g turns n k e f h l r turned is number front seat =
    subst (λ x. TurnsSoOften g k turns f x) seat
    (subst (λ x. TurnsSoOften g k turns x h) front
    (subst (λ x. TurnsSoOften g x turns e h) number
    (subst (λ (x : Result (Unit {0}) NoMemory). OnOk x (TurnsSoOften g n turns e h)) is turned)))

module _ {S D : Type 0} (number : S → ℕ) (front : S → List Entry) (seat : D → S) (g : Settings) (f : List Entry) (old : List S) (ds : List D) (new : List S) where
  pub lists_done : (done : D → Result ListDone NoMemory) (known : Labels) (lists : List (List Op)) (dones : List ListDone)
      → AreSeated number front g.callers f old → length ds ≡ length old
      → ((k : ℕ) (d : D) (s : S) → k < length old → CallerWorked g known lists (number (slice_index_or old k s)) (front (slice_index_or old k s))
      (number (seat (slice_index_or ds k d))) (front (seat (slice_index_or ds k d))) (done (slice_index_or ds k d)))
      → new ≡ map seat ds → map list_ok dones ≡ map done ds
      → ListsDone number front g known lists f new dones
  lists_done done known lists dones seated many worked seats_are dones_are = record {
    numbered = record { counted = ap (λ l. length l) seats_are ∙ length_mapped seat ds ∙ total; each = numbers };
    counted = sym (length_mapped list_ok dones) ∙ ap (λ l. length l) dones_are ∙ length_mapped done ds ∙ total;
    each = does;
  }
    where
      total : length ds ≡ g.callers
      total = many ∙ seated.counted

      seat_at : (k : ℕ) → k < g.callers → (x : At ds k) → (s : S) → slice_index_or new k s ≡ seat (slice_index_or ds k x.element)
      seat_at k low x s = ap (λ l. slice_index_or l k s) seats_are ∙ at_mapped seat ds k (omega (arith, low, total)) x.element s

      numbers : (k : ℕ) (s : S) → k < g.callers → number (slice_index_or new k s) ≡ k
      numbers k s low =
          let x = at_low ds k (omega (arith, low, total)) in
          let w = worked k x.element s (omega (arith, low, seated.counted)) in
          ap number (seat_at k low x s) ∙ (w.number ∙ (seated.each k s low).0)

      does : (k : ℕ) (s : S) (d : ListDone) → k < g.callers
          → DoesAll g k known (list_at lists k) (slice_index_or dones k d).replies.items (slice_index_or dones k d).own f (front (slice_index_or new k s))
      does k s d low =
          let x = at_low ds k (omega (arith, low, total)) in
          let w = worked k x.element s (omega (arith, low, seated.counted)) in
          let many_done : k < length dones = omega (arith, low, total, sym (length_mapped list_ok dones) ∙ ap (λ l. length l) dones_are ∙ length_mapped done ds) in
          let is : done (slice_index_or ds k x.element) ≡ list_ok (slice_index_or dones k d) =
          sym (at_mapped done ds k (omega (arith, low, total)) x.element (list_ok d))
          ∙ (ap (λ l. slice_index_or l k (list_ok d)) (sym dones_are) ∙ at_mapped list_ok dones k many_done d (list_ok d)) in
          one_list g known lists _ k _ f _ _ _ (slice_index_or dones k d) w.does is (seated.each k s low).0 (seated.each k s low).1
          (ap front (sym (seat_at k low x s)))

  pub turns_done : (done : D → Result (Unit {0}) NoMemory) (turns : ℕ)
      → AreSeated number front g.schedulers f old → length ds ≡ length old
      → ((k : ℕ) (d : D) (s : S) → k < length old → SchedWorked g turns (number (slice_index_or old k s)) (front (slice_index_or old k s))
      (number (seat (slice_index_or ds k d))) (front (seat (slice_index_or ds k d))) (done (slice_index_or ds k d)))
      → new ≡ map seat ds → map turns_ok new ≡ map done ds
      → TurnsDone number front g turns f new
  turns_done done turns seated many worked seats_are dones_are = record {
    numbered = record { counted = ap (λ l. length l) seats_are ∙ length_mapped seat ds ∙ total; each = numbers };
    each = turned;
  }
    where
      total : length ds ≡ g.schedulers
      total = many ∙ seated.counted

      seat_at : (k : ℕ) → k < g.schedulers → (x : At ds k) → (s : S) → slice_index_or new k s ≡ seat (slice_index_or ds k x.element)
      seat_at k low x s = ap (λ l. slice_index_or l k s) seats_are ∙ at_mapped seat ds k (omega (arith, low, total)) x.element s

      numbers : (k : ℕ) (s : S) → k < g.schedulers → number (slice_index_or new k s) ≡ k
      numbers k s low =
          let x = at_low ds k (omega (arith, low, total)) in
          let w = worked k x.element s (omega (arith, low, seated.counted)) in
          ap number (seat_at k low x s) ∙ (w.number ∙ (seated.each k s low).0)

      turned : (k : ℕ) (s : S) → k < g.schedulers → TurnsSoOften g k turns f (front (slice_index_or new k s))
      turned k s low =
          let x = at_low ds k (omega (arith, low, total)) in
          let w = worked k x.element s (omega (arith, low, seated.counted)) in
          let many_seats : k < length new = omega (arith, low, total, ap (λ l. length l) seats_are ∙ length_mapped seat ds) in
          let is : done (slice_index_or ds k x.element) ≡ Ok tt =
          sym (at_mapped done ds k (omega (arith, low, total)) x.element (Ok tt))
          ∙ (ap (λ l. slice_index_or l k (Ok tt)) (sym dones_are) ∙ at_mapped turns_ok new k many_seats s (Ok tt)) in
          one_turns g turns _ k _ f _ _ _ w.turned is (seated.each k s low).0 (seated.each k s low).1 (ap front (sym (seat_at k low x s)))

-- two facts of a value give a third
pub if_ok_both : {T E : Type 0} (r : Result T E) (P Q R : T → Type 0) → ((x : T) → P x → Q x → R x) → IfOk r P → IfOk r Q → IfOk r R
if_ok_both (Ok x) P Q R both p q = both x p q
if_ok_both (Err e) P Q R both p q = tt

-- what holds where a result is Ok holds of its value
pub if_ok_at : {T E : Type 0} (r : Result T E) (x : T) (P : T → Type 0) → IfOk r P → r ≡ Ok x → P x
if_ok_at (Ok y) x P holds is = let same : y ≡ x = cc in subst P same holds
if_ok_at (Err e) x P holds is = absurd cc
