-- What a scheduler has handed over so far, of the timers that expired: one entry hands none of them over,
-- or the first of those that wait.

use Rattle.std.proofs.Common.{◌≡◌, ℕ, Bool, true, false, ◌&&◌, nat_eq, List, [], ◌∷◌, ◌++◌, All, filter, map, get_or, Option, Some, None, refl, sym, ap, ◌∙◌, append-nil, append_assoc}
use Rattle.std.proofs.lemmas.List.{map-append, Elements.{All-push, All-head, All-tail, filter-append}}
use Rattle.ert_defs.specs.{Laws.MayMove, Legal.Can, Mails.{first_of, others_of}, States.{State, next}, Timers.Row, declared.entry.Entry.Entry, declared.settings.Settings.Settings, declared.timer.Status.Status}
use Rattle.ert_defs.specs.{declared.timer.Status.TheVariants.{Armed, Expired, Delivered, Cancelled, Orphaned, Dropped}}
use Rattle.ert_defs.proofs.{ExpiredLists.IsKept, Runs.carry, Settlings.moves_next}
use Rattle.ert_laws.specs.MailOrder.{Sent, sent_by_row, is_delivered, is_handed_over, is_from, is_delivered_to}

-- tests that agree at each element of a list keep the same of them
same_filter : {X : Type 0} (f k : X → Bool) (xs : List X) → All (λ x. f x ≡ k x) xs → filter f xs ≡ filter k xs
same_filter f k [] agree = refl
same_filter f k (x ∷ xs) agree =
    let here = All-head (λ x. f x ≡ k x) x xs agree in
    let rest = same_filter f k xs (All-tail (λ x. f x ≡ k x) x xs agree) in
    rw (here, rest) refl

pub none_pass : {X : Type 0} (f : X → Bool) (xs : List X) → All (λ x. f x ≡ false) xs → filter f xs ≡ []
none_pass f [] fails = refl
none_pass f (x ∷ xs) fails =
    rw (All-head (λ x. f x ≡ false) x xs fails) (none_pass f xs (All-tail (λ x. f x ≡ false) x xs fails))

-- what is handed over stays so
handed_stays : (x y : Option Status) → is_handed_over x ≡ true → MayMove x y → y ≡ x
handed_stays None y over may = absurd cc
handed_stays (Some Armed) y over may = absurd cc
handed_stays (Some Expired) y over may = absurd cc
handed_stays (Some Cancelled) y over may = absurd cc
handed_stays (Some Orphaned) y over may = absurd cc
handed_stays (Some Delivered) y over may = may
handed_stays (Some Dropped) y over may = may

-- what a scheduler has handed over and put into a mailbox so far, of all that expired
pub record HandsOver (s : State) (w p : ℕ) (sent : List Sent) (expired : List Row) : Type 0 where
  pub handed : List Row
  pub all : expired ≡ handed ++ (s.scheds w).expired
  pub over : All (λ row. is_handed_over (s.status row.timer) ≡ true) handed
  pub order : filter (is_from w) sent ≡ map sent_by_row (filter (is_delivered_to s p) handed)

-- what was handed over has the status that it had
stays_each : (g : Settings) (s : State) (e : Entry) (rows : List Row) → IsKept s → Can g s e
    → All (λ row. is_handed_over (s.status row.timer) ≡ true) rows
    → All (λ (row : Row). (next g s e).status row.timer ≡ s.status row.timer) rows
stays_each g s e rows kept can over k d lt =
    let row : Row = get_or rows k d in
    handed_stays (s.status row.timer) ((next g s e).status row.timer) (over k d lt) (moves_next g s e row.timer kept.ordered can)

over_stays : (g : Settings) (s : State) (e : Entry) (rows : List Row) → IsKept s → Can g s e
    → All (λ row. is_handed_over (s.status row.timer) ≡ true) rows
    → All (λ row. is_handed_over ((next g s e).status row.timer) ≡ true) rows
over_stays g s e rows kept can over k d lt =
    carry (λ x. is_handed_over x ≡ true) (stays_each g s e rows kept can over k d lt) (over k d lt)

order_stays : (g : Settings) (s : State) (e : Entry) (p : ℕ) (rows : List Row) → IsKept s → Can g s e
    → All (λ row. is_handed_over (s.status row.timer) ≡ true) rows
    → filter (is_delivered_to (next g s e) p) rows ≡ filter (is_delivered_to s p) rows
order_stays g s e p rows kept can over =
    same_filter (is_delivered_to (next g s e) p) (is_delivered_to s p) rows
    (λ k d lt. ap (λ x. is_delivered x && nat_eq (get_or rows k d).dest p) (stays_each g s e rows kept can over k d lt))

-- an entry that hands none of this scheduler's timers over: some may expire
pub none_handed : (g : Settings) (s : State) (e : Entry) (w p : ℕ) (sent new : List Sent) (expired more : List Row) → IsKept s → Can g s e
    → ((next g s e).scheds w).expired ≡ (s.scheds w).expired ++ more → filter (is_from w) new ≡ []
    → HandsOver s w p sent expired → HandsOver (next g s e) w p (sent ++ new) (expired ++ more)
none_handed g s e w p sent new expired more kept can waiting none h = record {
  handed = h.handed;
  all = ap (λ x. x ++ more) h.all ∙ (append_assoc h.handed (s.scheds w).expired more ∙ ap (λ x. h.handed ++ x) (sym waiting));
  over = over_stays g s e h.handed kept can h.over;
  order = filter-append (is_from w) sent new
      ∙ (ap (λ x. filter (is_from w) sent ++ x) none
      ∙ (append-nil (filter (is_from w) sent)
      ∙ (h.order ∙ ap (map sent_by_row) (sym (order_stays g s e p h.handed kept can h.over)))));
}

-- an entry that hands the first of them over
pub one_handed : (g : Settings) (s : State) (e : Entry) (w p : ℕ) (sent new : List Sent) (expired : List Row) (row : Row) → IsKept s → Can g s e
    → first_of (s.scheds w).expired ≡ Some row → ((next g s e).scheds w).expired ≡ others_of (s.scheds w).expired
    → is_handed_over ((next g s e).status row.timer) ≡ true
    → filter (is_from w) new ≡ map sent_by_row (filter (is_delivered_to (next g s e) p) (row ∷ []))
    → HandsOver s w p sent expired → HandsOver (next g s e) w p (sent ++ new) (expired ++ [])
one_handed g s e w p sent new expired row kept can first waiting over one h = record {
  handed = h.handed ++ row ∷ [];
  all = append-nil expired
      ∙ (h.all
      ∙ (ap (λ x. h.handed ++ x) (first_others (s.scheds w).expired row first)
      ∙ (sym (append_assoc h.handed (row ∷ []) (others_of (s.scheds w).expired))
      ∙ ap (λ x. (h.handed ++ row ∷ []) ++ x) (sym waiting))));
  over = All-push (λ (row : Row). is_handed_over ((next g s e).status row.timer) ≡ true) h.handed row
      (over_stays g s e h.handed kept can h.over) over;
  order = filter-append (is_from w) sent new
      ∙ (ap (λ x. x ++ filter (is_from w) new) (h.order ∙ ap (map sent_by_row) (sym (order_stays g s e p h.handed kept can h.over)))
      ∙ (ap (λ x. map sent_by_row (filter (is_delivered_to (next g s e) p) h.handed) ++ x) one
      ∙ (sym (map-append sent_by_row (filter (is_delivered_to (next g s e) p) h.handed) (filter (is_delivered_to (next g s e) p) (row ∷ [])))
      ∙ ap (map sent_by_row) (sym (filter-append (is_delivered_to (next g s e) p) h.handed (row ∷ []))))));
}
  where
    first_others : (rows : List Row) (row : Row) → first_of rows ≡ Some row → rows ≡ row ∷ others_of rows
    first_others [] row is = absurd cc
    first_others (r ∷ rows) row is = let same : r ≡ row = cc in ap (λ x. x ∷ rows) same
