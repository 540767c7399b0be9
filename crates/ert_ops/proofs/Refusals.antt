-- Starts that are refused: the service answers as the plain one. A wheel is full where it found each slot taken that it
-- looked at: these are all slots, since fewer timers were started than a start looks at slots. No slot rests: each is in
-- its first round.

use Rattle.std.proofs.Common.{◌≡◌, ◌≢◌, ◌⊎◌, ℕ, ℤ, zero, suc, ◌+◌, ◌<◌, ◌≤◌, Bool, true, cond, nat_le, List, [], ◌∷◌, ◌++◌, length, Option, Some, None, refl, sym, ap, ◌∙◌, subst, inl, inr, arith}
use Rattle.std.proofs.lemmas.Bool.{Decides.nat_tests, cases_eq, cases_lt}
use Rattle.ert_effects.proofs.Told.{round_probes}
use Rattle.ert_effects.specs.TimerCalls.{AreTaken, Round, IsInRound, IsRoundTaken, Rests, IsBadArg, IsWheelFull}
use Rattle.ert_defs.proofs.ExpiredTimers.{cond_same}
use Rattle.ert_defs.specs.{Actors.has_actor, Clocks.Clock, Entries.{look_entry, probe_entry}, Legal.LegalFrom, Milliseconds.{natural, down, deadline_of}, States.{State, uses_at, next}, Timers.{turned, is_taken, timer_at}}
use Rattle.ert_defs.specs.{declared.entry.Actor.TheVariants.{Wheel, Caller}, declared.entry.Entry.Entry, declared.settings.Settings.Settings, declared.timer.Start.Start, declared.timer.Status.Status, declared.timer.TimerRef.TimerRef}
use Rattle.ert_ops.proofs.{Bound.IsName, Clocks.{IsDone, done_as}, FirstRounds.{first_round, not_resting}, Meets.{IsKept, Meets, meets_next, meets_probes}, Steps.as_look, Taken.{all_taken, as_many, count_pairs}}
use Rattle.ert_ops.specs.{Labels.{Labels, label_of}, Lines.line_of, Pieces.Piece, Plain.slot_of, PlainTimers.{taken_slots, start_reply, bad_arg, full, looks, arm_entries, start_piece, start_now}, declared.reply.Reply.Reply}

-- the plain service finds no deadline, or no room

bad_arg_piece : (g : Settings) (c : State) (l w : ℕ) (start : Start) (d : Option ℕ) → d ≡ None
    → start_piece g c l w start d ≡ record { entries = looks c ∷ []; reply = bad_arg start.kind }
bad_arg_piece g c l w start d is = ap (λ (x : Option ℕ). start_piece g c l w start x) is

full_piece : (g : Settings) (c : State) (l w : ℕ) (start : Start) (d : Option ℕ) → d ≢ None → taken_slots c.status (c.rows w) ≡ g.slots
    → start_piece g c l w start d ≡ record { entries = looks c ∷ []; reply = full start.kind }
full_piece g c l w start None some all = absurd (some refl)
full_piece g c l w start (Some d) some all =
    let taken : nat_le g.slots (taken_slots c.status (c.rows w)) ≡ true = grind (arith, nat_tests) in
    ap (λ (b : Bool). cond b (let x : Piece = record { entries = looks c ∷ []; reply = full start.kind } in x)
    (record { entries = looks c ∷ arm_entries (timer_at w l 1) start (c.exited start.dest); reply = start_reply start.kind (timer_at w l 1) })) taken

refused_as : (g : Settings) (n : ℕ) (ls : Labels) (l w : ℕ) (start : Start) (s c : State) (now : ℤ) (reply : Reply) → now ≡ c.clock.now
    → start_now g c l w start ≡ record { entries = looks c ∷ []; reply = reply }
    → start_now g c l w start ≡ record { entries = look_entry (Caller 0) now ∷ []; reply = reply }
refused_as g n ls l w start s c now reply time is =
    is ∙ ap (λ (x : ℤ). record { entries = look_entry (Caller 0) x ∷ []; reply = reply }) (sym time)

-- a start that is refused: the plain service answers so, and does the same
pub record IsRefused (g : Settings) (n : ℕ) (ls : Labels) (l w : ℕ) (start : Start) (s c : State) (reply : Reply) (es : List Entry) : Type 0 where
  pub replies : (start_now g c l w start).reply ≡ reply
  pub done : IsDone g n ls s c reply es (start_now g c l w start)

pub bad_arg_done : (g : Settings) (n : ℕ) (ls : Labels) (l w : ℕ) (start : Start) (s c : State) (es : List Entry) → Meets g n ls s c → LegalFrom g s es
    → IsBadArg g 0 start es → line_of (label_of ls) (bad_arg start.kind) ≡ line_of slot_of (bad_arg start.kind)
    → IsRefused g n ls l w start s c (bad_arg start.kind) es
bad_arg_done g n ls l w start s c es h legal does plain =
    let lawful = subst (λ (x : List Entry). LegalFrom g s x) does.entries legal in
    let time : does.now ≡ c.clock.now = lawful.0.found ∙ ap (λ (k : Clock). k.now) h.shows.clock in
    let refused : deadline_of g start c.clock.now ≡ None = ap (λ (x : ℤ). deadline_of g start x) (sym time) ∙ does.refused in
    let piece = refused_as g n ls l w start s c does.now (bad_arg start.kind) time (bad_arg_piece g c l w start (deadline_of g start c.clock.now) refused) in
    record {
      replies = ap (λ (p : Piece). p.reply) piece;
      done = done_as g n ls s c (bad_arg start.kind) es (look_entry (Caller 0) does.now ∷ []) (start_now g c l w start) _ does.entries piece
          (record { line = plain; meets = meets_next g n ls (as_look does.now) (Caller 0) None s c h lawful.0 });
    }

-- each slot that was looked at is taken

-- slots of two states have the same last timers, and these the same statuses
pub record AreSame (w : ℕ) (s z : State) : Type 0 where
  pub status : (r : TimerRef) → z.status r ≡ s.status r
  pub last : (k : ℕ) → z.last w k ≡ s.last w k

first_taken : (w k now : ℕ) (s z : State) (found : Option Status) → AreSame w s z → (turned (uses_at s w k)).since ≡ 0
    → found ≡ z.status (timer_at w k (z.last w k)) → (is_taken found ≡ true) ⊎ Rests s now w k
    → is_taken (s.status (timer_at w k (s.last w k))) ≡ true
first_taken w k now s z found same first is (inl taken) =
    let own : found ≡ s.status (timer_at w k (s.last w k)) =
    is ∙ same.status (timer_at w k (z.last w k)) ∙ ap (λ (j : ℕ). s.status (timer_at w k j)) (same.last k) in
    sym (ap is_taken own) ∙ taken
first_taken w k now s z found same first is (inr rests) = absurd (omega (arith, first, rests))

slots_taken : (g : Settings) (w now : ℕ) (s z : State) (k n : ℕ) (es : List Entry) → AreSame w s z → ((j : ℕ) → (turned (uses_at s w j)).since ≡ 0)
    → LegalFrom g z es → AreTaken 0 w now s k n es → (j : ℕ) → k ≤ j → j < k + n → is_taken (s.status (timer_at w j (s.last w j))) ≡ true
slots_taken g w now s z k zero es same first legal are j low high = absurd (omega arith)
slots_taken g w now s z k (suc n) es same first legal are j low high =
    let lawful = subst (λ (x : List Entry). LegalFrom g z x) are.2 legal in
    elim (cases_eq j k) [
      | inl here ↦
          subst (λ (i : ℕ). is_taken (s.status (timer_at w i (s.last w i))) ≡ true) (sym here)
          (first_taken w k now s z are.0 same (first k) lawful.0.found are.3)
      | inr other ↦
          let probe : Entry = probe_entry (Caller 0) w k are.0 in
          slots_taken g w now s (next g z probe) (suc k) n are.1
          (record { status = same.status; last = λ i. cond_same (has_actor probe (Wheel w)) (z.last w i) ∙ same.last i })
          first lawful.1 are.4 j (omega arith) (omega arith)
    ]

-- the same of a range, and of the first slots after that
both_taken : (g : Settings) (w now : ℕ) (s z : State) (k n m : ℕ) (es fs : List Entry) → AreSame w s z → ((j : ℕ) → (turned (uses_at s w j)).since ≡ 0)
    → LegalFrom g z (es ++ fs) → AreTaken 0 w now s k n es → AreTaken 0 w now s 0 m fs → (j : ℕ) → ((k ≤ j) × (j < k + n)) ⊎ (j < m)
    → is_taken (s.status (timer_at w j (s.last w j))) ≡ true
both_taken g w now s z k zero m es fs same first legal are more j (inl within) = absurd (omega (arith, within.0, within.1))
both_taken g w now s z k zero m es fs same first legal are more j (inr low) =
    slots_taken g w now s z 0 m fs same first (subst (λ (x : List Entry). LegalFrom g z (x ++ fs)) are legal) more j (omega arith) (omega (arith, low))
both_taken g w now s z k (suc n) m es fs same first legal are more j is =
    let probe : Entry = probe_entry (Caller 0) w k are.0 in
    let lawful : LegalFrom g z (probe ∷ (are.1 ++ fs)) = subst (λ (x : List Entry). LegalFrom g z (x ++ fs)) are.2 legal in
    let again : AreSame w s (next g z probe) =
    record { status = same.status; last = λ i. cond_same (has_actor probe (Wheel w)) (z.last w i) ∙ same.last i } in
    elim is [
      | inl within ↦ elim (cases_eq j k) [
        | inl here ↦
            subst (λ (i : ℕ). is_taken (s.status (timer_at w i (s.last w i))) ≡ true) (sym here)
            (first_taken w k now s z are.0 same (first k) lawful.0.found are.3)
        | inr other ↦
            both_taken g w now s (next g z probe) (suc k) n m are.1 fs again first lawful.1 are.4 more j
            (inl (omega (arith, within.0, other), omega (arith, within.1)))
      ]
      | inr low ↦ both_taken g w now s (next g z probe) (suc k) n m are.1 fs again first lawful.1 are.4 more j (inr low)
    ]

-- the same of a round
round_taken : (g : Settings) (w now : ℕ) (s z : State) (round : Round g.slots g.looks) (es : List Entry) → AreSame w s z
    → ((j : ℕ) → (turned (uses_at s w j)).since ≡ 0) → LegalFrom g z es → IsRoundTaken 0 w now s round es → (j : ℕ) → IsInRound round j
    → is_taken (s.status (timer_at w j (s.last w j))) ≡ true
round_taken g w now s z round es same first legal are j within =
    both_taken g w now s z round.from round.ahead round.behind are.first are.second same first (subst (LegalFrom g z) are.entries legal)
    are.onward are.around j within

-- where fewer timers were started than a start looks at slots, a round has all slots
has_all : (g : Settings) (s : State) (w n : ℕ) (round : Round g.slots g.looks) → IsKept s → length (s.rows w) ≤ n → n < g.looks
    → ((j : ℕ) → IsInRound round j → is_taken (s.status (timer_at w j (s.last w j))) ≡ true) → (j : ℕ) → j < g.slots → IsInRound round j
has_all g s w n round kept some few taken j low = elim (cases_lt g.slots g.looks) [
  | inl small ↦
      let all : round.ahead + round.behind ≡ g.slots = round.all (omega (arith, small)) in
      at all
  | inr large ↦
      let many : round.ahead + round.behind ≡ g.looks = round.many large in
      let used : round.ahead + round.behind ≤ length (s.rows w) = as_many s w round.from round.ahead round.behind kept round.apart
      (λ k below. taken k (inr below)) (λ k above below. taken k (inl (above, below))) in
      absurd (omega (arith, many, used, some, few))
]
  where
    at : round.ahead + round.behind ≡ g.slots → IsInRound round j
    at all = elim (cases_lt j round.from) [
      | inl below ↦ inr (omega (arith, all, below, round.within))
      | inr above ↦ inl (above, omega (arith, all, low, round.apart))
    ]

pub full_done : (g : Settings) (n : ℕ) (ls : Labels) (l w : ℕ) (start : Start) (s c : State) (es : List Entry) → n ≤ 100000 → n < g.looks → Meets g n ls s c
    → LegalFrom g s es → IsWheelFull g 0 w start s es → line_of (label_of ls) (full start.kind) ≡ line_of slot_of (full start.kind)
    → IsRefused g n ls l w start s c (full start.kind) es
full_done g n ls l w start s c es few looked_at h legal does plain =
    let lawful = subst (λ (x : List Entry). LegalFrom g s x) does.entries legal in
    let time : does.now ≡ c.clock.now = lawful.0.found ∙ ap (λ (k : Clock). k.now) h.shows.clock in
    let looked : State = next g s (look_entry (Caller 0) does.now) in
    let due : deadline_of g start c.clock.now ≢ None = λ none.
    does.accepted (ap (λ (x : ℤ). deadline_of g start x) time ∙ none) in
    let are : (round : Round g.slots g.looks) × IsRoundTaken 0 w (natural (down g does.now)) s round does.probes = elim does.are_taken [
      | inl are ↦ are
      | inr many ↦ absurd (omega (arith, many.0, h.few w, few))
    ] in
    let first : (i : ℕ) → (turned (uses_at s w i)).since ≡ 0 = λ i.
    not_resting (uses_at s w i) (first_round (uses_at s w i) (h.kept.ordered w i).sound (omega (arith, h.lasts w i))) in
    let seen : (j : ℕ) → IsInRound are.0 j → is_taken (s.status (timer_at w j (s.last w j))) ≡ true =
    round_taken g w (natural (down g does.now)) s looked are.0 does.probes (record { status = λ r. refl; last = λ i. refl }) first lawful.1 are.1 in
    let taken : taken_slots s.status (s.rows w) ≡ g.slots =
    all_taken g ls s c w h.kept h.shows (λ j lt. seen j (has_all g s w n are.0 h.kept (h.few w) looked_at seen j lt)) in
    let all : taken_slots c.status (c.rows w) ≡ g.slots =
    sym (count_pairs is_taken (IsName g ls) s.status c.status h.shows.status (s.rows w) (c.rows w) (h.shows.rows w)) ∙ taken in
    let look = meets_next g n ls (as_look does.now) (Caller 0) None s c h lawful.0 in
    let piece = refused_as g n ls l w start s c does.now (full start.kind) time (full_piece g c l w start (deadline_of g start c.clock.now) due all) in
    record {
      replies = ap (λ (p : Piece). p.reply) piece;
      done = done_as g n ls s c (full start.kind) es (look_entry (Caller 0) does.now ∷ does.probes) (start_now g c l w start) _ does.entries piece
          (record {
            line = plain;
            meets = meets_probes g n ls (Caller 0) w does.probes looked _ (round_probes 0 w (natural (down g does.now)) s are.0 does.probes are.1) lawful.1 look;
          });
    }
