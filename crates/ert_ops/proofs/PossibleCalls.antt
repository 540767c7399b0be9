-- Calls of one step, after each legal history: each has an answer.

use Rattle.std.proofs.Common.{◌≡◌, ◌⊎◌, inl, inr, ℕ, ℤ, pos, negsuc, ◌<◌, Bool, true, false, cond, not, ◌&&◌, nat_lt, nat_le, int_lt, int_le, [], ◌∷◌, length, Option, Some, None, Ok, Err, refl, sym, ap, ◌∙◌, subst, arith}
use Rattle.std.proofs.lemmas.Bool.{and_parts, Decides.{nat_tests, Decides-and, Decides-like}}
use Rattle.std.specs.Bool.{Decides}
use Rattle.std.specs.Prelude.{◌+ℤ◌}
use Rattle.ert_clock.specs.{Ticks.{act_of, tick_entries, offset_of, IsWide, state_by}, declared.clock.ClockErr.TheVariants.{BadReading, OffsetWide}, declared.clock.Moved.Moved}
use Rattle.ert_defs.specs.{Actors.{IsUser, has_actor}, Clocks.{Clock, face, clock_after}, Entries.{look_entry, off_entry, keeper_entry, peek_entry, cancel_entry, mark_entry, take_entry, watch_entry, unwatch_entry, tell_entry, ask_entry}}
use Rattle.ert_defs.specs.{Legal.{Can, IsSlot, IsReader, LegalFrom, left_of, names_timer, is_generation, stands_in}, Lines.{Due, IsOffset, IsInRange, MayAct, time_after, due_after, due_at, shift_of, due_from}, Mails.{changes_of, first_of}}
use Rattle.ert_defs.specs.{Readings.IsValid, States.{State, next}, declared.entry.Act.Act, declared.entry.Act.TheVariants.{Plain, Force, Finalize}, declared.entry.Actor.Actor, declared.entry.Actor.TheVariants.{Keeper, Caller, Sched}}
use Rattle.ert_defs.specs.{declared.entry.Entry.Entry, declared.entry.Event.TheVariants.Off, declared.mail.Mail.Mail, declared.settings.OffsetState.OffsetState, declared.settings.OffsetState.TheVariants.{Preliminary, Final, Volatile}}
use Rattle.ert_defs.specs.{declared.settings.Reading.Reading, declared.settings.Settings.Settings, declared.timer.TimerRef.TimerRef}
use Rattle.ert_effects.specs.{ClockCalls.{ActsOnReading, Ticks, Finalizes, TellsTime, TellsOffset, TellsSystemTime}, MailCalls.{Takes, Monitors}, TimerCalls.{read_entries, cancel_entries, Reads, Cancels}, WheelCalls.{TellsAlive, MarksExit}}
use Rattle.ert_effects.specs.{declared.answers.MonitorErr.TheVariants.{Full, NoMemory}, declared.answers.Taken.TheVariants.{Mail as Taking, Empty, Exited}}
use Rattle.ert_ops.proofs.Clocks.{Decides-int_le, Decides-int_lt, Decides-within}
use Rattle.ert_ops.specs.Existence.{IsPossible, HasAnswer, HasAnswerBut, ClockAnswers, ProcessesAnswer}

-- looks at the time and at the offset

pub can_look : (g : Settings) (s : State) (by : Actor) → IsUser g by → Can g s (look_entry by s.clock.now)
can_look g s by user = record { keeps = (user, refl); known = tt; found = refl }

user_reads : (g : Settings) (by : Actor) → IsUser g by → IsReader g by None
user_reads g (Caller n) user = (user, refl)
user_reads g (Sched n) user = (user, refl)
user_reads g _ user = absurd user

pub can_off : (g : Settings) (s : State) (by : Actor) → IsUser g by → Can g s (off_entry by s.clock.offset s.clock.state)
can_off g s by user = record { keeps = user_reads g by user; known = tt; found = (refl, refl) }

-- what isn't an event of the clock leaves no shift due
keeps_undue : (g : Settings) (s : State) (e : Entry) → clock_after g s.clock e.event ≡ s.clock → s.clock.due ≡ None → (next g s e).clock.due ≡ None
keeps_undue g s e same idle = at (has_actor e Keeper)
  where
    at : (b : Bool) → (cond b (clock_after g s.clock e.event) s.clock).due ≡ None
    at true = ap (λ (c : Clock). c.due) same ∙ idle
    at false = idle

possible_time : (g : Settings) (s : State) (by : Actor) → IsUser g by → HasAnswer g s (TellsTime g by)
possible_time g s by user = (
  s.clock.now,
  record {
    entries = look_entry by s.clock.now ∷ [];
    allowed = refl;
    legal = (can_look g s by user, tt);
    undue = keeps_undue g s (look_entry by s.clock.now) refl;
  },
)

possible_offset : (g : Settings) (s : State) (by : Actor) → IsUser g by → HasAnswer g s (TellsOffset g by)
possible_offset g s by user = (
  (s.clock.offset, s.clock.state),
  record {
    entries = off_entry by s.clock.offset s.clock.state ∷ [];
    allowed = refl;
    legal = (can_off g s by user, tt);
    undue = keeps_undue g s (off_entry by s.clock.offset s.clock.state) refl;
  },
)

possible_system_time : (g : Settings) (s : State) (by : Actor) → IsUser g by → HasAnswer g s (TellsSystemTime g by)
possible_system_time g s by user =
    let z : State = next g s (look_entry by s.clock.now) in (
      s.clock.now +ℤ z.clock.offset,
      record {
        entries = look_entry by s.clock.now ∷ (off_entry by z.clock.offset z.clock.state ∷ []);
        allowed = record { now = s.clock.now; offset = z.clock.offset; offset_state = z.clock.state; sum = refl; entries = refl };
        legal = (can_look g s by user, (can_off g z by user, tt));
        undue = λ idle. keeps_undue g z (off_entry by z.clock.offset z.clock.state) refl (keeps_undue g s (look_entry by s.clock.now) refl idle);
      },
    )

-- ticks and finalizations

-- a test tells whether something is so
pub decide : (b : Bool) (P : Type 0) → Decides b P → P ⊎ (P → ⊥)
decide true P d = inl (d.0 refl)
decide false P d = inr (λ p. let clash : false ≡ true = d.1 p in cc)

Decides-valid : (r : Reading) → Decides (int_le (pos 0) r.mono && int_lt r.mono (pos 4611686018427387904)
    && (int_lt (negsuc 2305843009213693951) r.sys && int_lt r.sys (pos 2305843009213693952))) (IsValid r)
Decides-valid r =
    Decides-like _ (λ p. record { mono_low = p.0.0; mono_high = p.0.1; sys_low = p.1.0; sys_high = p.1.1 })
    (λ h. ((h.mono_low, h.mono_high), (h.sys_low, h.sys_high)))
    (Decides-and _ _ (Decides-and _ _ (Decides-int_le _ _) (Decides-int_lt _ _)) (Decides-and _ _ (Decides-int_lt _ _) (Decides-int_lt _ _)))

-- a shift that is due sets the state by the act

shift_state : (state : OffsetState) (check : Bool) (x offset : ℤ) (d : Due) → shift_of state check x offset ≡ Some d → d.1 ≡ Volatile
shift_state Volatile check x offset d is = at (check && nat_lt 1000000 _) is
  where
    at : (b : Bool) → cond b (Some (x, Volatile)) None ≡ Some d → d.1 ≡ Volatile
    at true is = let same : (let p : Due = (x, Volatile) in p) ≡ d = cc in ap (λ (p : Due). p.1) (sym same)
    at false is = let clash : None ≡ Some d = is in cc
shift_state Preliminary check x offset d is = let clash : None ≡ Some d = is in cc
shift_state Final check x offset d is = let clash : None ≡ Some d = is in cc

due_state : (act : Act) (due : Bool) (state : OffsetState) (x offset : ℤ) (d : Due) → due_from act due state x offset ≡ Some d → d.1 ≡ state_by act
due_state Finalize due state x offset d is = let same : (let p : Due = (x, Final) in p) ≡ d = cc in ap (λ (p : Due). p.1) (sym same)
due_state Plain due state x offset d is = shift_state state due x offset d is
due_state Force due state x offset d is = shift_state state true x offset d is

-- a valid reading is taken for an act that may be done: the clock moves, or the shift would leave the limits

pub data Acting (g : Settings) (s : State) (n : ℕ) (r : Reading) (act : Act) : Type 0 where
  acted : (m : Moved) → IsPossible g s (ActsOnReading g n r act (Ok m)) → Acting g s n r act
  wide : (value : ℤ) → IsPossible g s (ActsOnReading g n r act (Err (OffsetWide value))) → Acting g s n r act

acting_due : (g : Settings) (s : State) (n : ℕ) (r : Reading) (act : Act) → n < g.callers → s.clock.due ≡ None → IsValid r → MayAct act s.clock.state
    → (due : Option Due) → due_after g (face g s.clock) r act (time_after g (face g s.clock) r) ≡ due → Acting g s n r act
acting_due g s n r act caller idle valid may None is =
    let now : ℤ = time_after g (face g s.clock) r in
    let d = due_after g (face g s.clock) r act now in
    acted (record { now = now; shift = None }) (record {
      entries = tick_entries n r act now None;
      allowed = record { shift = ap offset_of (sym is); entries = refl };
      legal = (
        record {
          keeps = (refl, caller);
          known = (idle, record { valid = valid; may = may; told = refl; in_range = subst IsInRange (sym is) tt });
          found = tt;
        },
        tt,
      );
      undue = λ _. is;
    })
acting_due g s n r act caller idle valid may (Some d) is =
    let now : ℤ = time_after g (face g s.clock) r in
    elim (decide _ (IsOffset d.0) (Decides-within d.0)) [
      | inl inside ↦
          let state_is : d.1 ≡ state_by act = due_state act (due_at g (face g s.clock) r) s.clock.state _ s.clock.offset d is in
          acted (record { now = now; shift = Some d.0 }) (record {
            entries = tick_entries n r act now (Some d.0);
            allowed = record { shift = ap offset_of (sym is); entries = refl };
            legal = (
              record {
                keeps = (refl, caller);
                known = (idle, record { valid = valid; may = may; told = refl; in_range = subst IsInRange (sym is) inside });
                found = tt;
              },
              (
                record {
                  keeps = (refl, caller);
                  known = is ∙ ap (λ (x : OffsetState). Some (d.0, x)) state_is;
                  found = tt;
                },
                tt,
              ),
            );
            undue = λ _. refl;
          })
      | inr outside ↦
          wide d.0 (record {
            entries = [];
            allowed = record { valid = valid; may = may; wide = subst (λ (x : Option Due). IsWide x d.0) (sym is) (refl, outside); none = refl };
            legal = tt;
            undue = λ idle. idle;
          })
    ]

pub acting : (g : Settings) (s : State) (n : ℕ) (r : Reading) (act : Act) → n < g.callers → s.clock.due ≡ None → IsValid r → MayAct act s.clock.state
    → Acting g s n r act
acting g s n r act caller idle valid may = acting_due g s n r act caller idle valid may _ refl

may_act_of : (force : Bool) (state : OffsetState) → MayAct (act_of force) state
may_act_of true state = tt
may_act_of false state = tt

pub acting_tick : (g : Settings) (s : State) (n : ℕ) (r : Reading) (force : Bool) → n < g.callers → s.clock.due ≡ None → IsValid r
    → Acting g s n r (act_of force)
acting_tick g s n r force caller idle valid = acting g s n r (act_of force) caller idle valid (may_act_of force s.clock.state)

acting_answers : (g : Settings) (s : State) (n : ℕ) (r : Reading) (act : Act) → Acting g s n r act → HasAnswer g s (ActsOnReading g n r act)
acting_answers g s n r act (acted m does) = (Ok m, does)
acting_answers g s n r act (wide value does) = (Err (OffsetWide value), does)

possible_tick : (g : Settings) (s : State) (n : ℕ) (r : Reading) (force : Bool) → n < g.callers → s.clock.due ≡ None → HasAnswer g s (Ticks g n r force)
possible_tick g s n r force caller idle = elim (decide _ (IsValid r) (Decides-valid r)) [
  | inl valid ↦
      let a = acting_answers g s n r (act_of force) (acting_tick g s n r force caller idle valid) in
      (a.0, record { entries = a.1.entries; allowed = a.1.allowed; legal = a.1.legal; undue = a.1.undue })
  | inr invalid ↦ (Err BadReading, record { entries = []; allowed = record { invalid = invalid; none = refl }; legal = tt; undue = λ idle. idle })
]

-- a finalization, of a valid reading
pub data Finalizing (g : Settings) (s : State) (n : ℕ) (r : Reading) : Type 0 where
  finalized : (old : OffsetState) (m : Moved) → IsPossible g s (Finalizes g n r (Ok (old, m))) → Finalizing g s n r
  too_wide : (value : ℤ) → IsPossible g s (Finalizes g n r (Err (OffsetWide value))) → Finalizing g s n r

stays : (g : Settings) (s : State) (n : ℕ) → n < g.callers → LegalFrom g s (keeper_entry n (Off s.clock.offset s.clock.state) ∷ [])
stays g s n caller = (record { keeps = caller; known = tt; found = (refl, refl) }, tt)

finalizing_from : (g : Settings) (s : State) (n : ℕ) (r : Reading) (old : OffsetState) → n < g.callers → s.clock.due ≡ None → IsValid r → old ≡ s.clock.state
    → Finalizing g s n r
finalizing_from g s n r Preliminary caller idle valid is = at (acting g s n r Finalize caller idle valid (sym is))
  where
    at : Acting g s n r Finalize → Finalizing g s n r
    at (acted m does) = finalized Preliminary m (record { entries = does.entries; allowed = (is, does.allowed); legal = does.legal; undue = does.undue })
    at (wide value does) = too_wide value (record { entries = does.entries; allowed = does.allowed; legal = does.legal; undue = does.undue })
finalizing_from g s n r Final caller idle valid is =
    finalized Final (record { now = s.clock.now; shift = None }) (record {
      entries = keeper_entry n (Off s.clock.offset s.clock.state) ∷ [];
      allowed = (
        is,
        record {
          offset = s.clock.offset;
          valid = valid;
          time = refl;
          unmoved = refl;
          entries = ap (λ (x : OffsetState). keeper_entry n (Off s.clock.offset x) ∷ []) (sym is);
        },
      );
      legal = stays g s n caller;
      undue = λ idle. idle;
    })
finalizing_from g s n r Volatile caller idle valid is =
    finalized Volatile (record { now = s.clock.now; shift = None }) (record {
      entries = keeper_entry n (Off s.clock.offset s.clock.state) ∷ [];
      allowed = (
        is,
        record {
          offset = s.clock.offset;
          valid = valid;
          time = refl;
          unmoved = refl;
          entries = ap (λ (x : OffsetState). keeper_entry n (Off s.clock.offset x) ∷ []) (sym is);
        },
      );
      legal = stays g s n caller;
      undue = λ idle. idle;
    })

pub finalizing : (g : Settings) (s : State) (n : ℕ) (r : Reading) → n < g.callers → s.clock.due ≡ None → IsValid r → Finalizing g s n r
finalizing g s n r caller idle valid = finalizing_from g s n r s.clock.state caller idle valid refl

finalizing_answers : (g : Settings) (s : State) (n : ℕ) (r : Reading) → Finalizing g s n r → HasAnswer g s (Finalizes g n r)
finalizing_answers g s n r (finalized old m does) = (Ok (old, m), does)
finalizing_answers g s n r (too_wide value does) = (Err (OffsetWide value), does)

possible_finalize : (g : Settings) (s : State) (n : ℕ) (r : Reading) → n < g.callers → s.clock.due ≡ None → HasAnswer g s (Finalizes g n r)
possible_finalize g s n r caller idle = elim (decide _ (IsValid r) (Decides-valid r)) [
  | inl valid ↦ finalizing_answers g s n r (finalizing g s n r caller idle valid)
  | inr invalid ↦ (Err BadReading, record { entries = []; allowed = record { invalid = invalid; none = refl }; legal = tt; undue = λ idle. idle })
]

pub clock_answers : (g : Settings) (s : State) → ClockAnswers g s
clock_answers g s = record {
  time = possible_time g s;
  offset = possible_offset g s;
  system_time = possible_system_time g s;
  tick = possible_tick g s;
  finalize = possible_finalize g s;
}

-- reads and cancels

pub slot_named : (g : Settings) (t : TimerRef) → names_timer g t ≡ true → IsSlot g t.wheel t.slot
slot_named g t is =
    let place = (and_parts (nat_lt t.wheel g.schedulers && nat_lt t.slot g.slots) (is_generation t.generation) is).0 in
    let parts = and_parts (nat_lt t.wheel g.schedulers) (nat_lt t.slot g.slots) place in
    let wheel = parts.0 in
    let slot = parts.1 in
    record { wheel_high = grind (arith, nat_tests); slot_high = grind (arith, nat_tests) }

pub can_peek : (g : Settings) (s : State) (by : Actor) (t : TimerRef) → IsUser g by → names_timer g t ≡ true → Can g s (peek_entry by t (left_of g s by t))
can_peek g s by t user named = record { keeps = (user, refl, slot_named g t named); known = tt; found = refl }

pub can_cancel : (g : Settings) (s : State) (by : Actor) (t : TimerRef) → IsUser g by → names_timer g t ≡ true → Can g s (cancel_entry by t (left_of g s by t))
can_cancel g s by t user named = record { keeps = (user, refl, slot_named g t named); known = tt; found = refl }

read_by : (g : Settings) (s : State) (by : Actor) (t : TimerRef) → IsUser g by → (b : Bool) → names_timer g t ≡ b → HasAnswer g s (Reads g by t)
read_by g s by t user true named =
    let left : Option ℕ = left_of g (next g s (look_entry by s.clock.now)) by t in (
      left,
      record {
        entries = look_entry by s.clock.now ∷ (peek_entry by t left ∷ []);
        allowed = record {
          now = s.clock.now;
          entries = ap (λ (b : Bool). look_entry by s.clock.now ∷ read_entries b by t left) (sym named);
          quiet = λ other. let clash : true ≡ false = sym named ∙ other in cc;
        };
        legal = (can_look g s by user, (can_peek g (next g s (look_entry by s.clock.now)) by t user named, tt));
        undue = λ idle. keeps_undue g (next g s (look_entry by s.clock.now)) (peek_entry by t left) refl (keeps_undue g s (look_entry by s.clock.now) refl idle);
      },
    )
read_by g s by t user false other = (
  None,
  record {
    entries = look_entry by s.clock.now ∷ [];
    allowed = record {
      now = s.clock.now;
      entries = ap (λ (b : Bool). look_entry by s.clock.now ∷ read_entries b by t None) (sym other);
      quiet = λ _. refl;
    };
    legal = (can_look g s by user, tt);
    undue = keeps_undue g s (look_entry by s.clock.now) refl;
  },
)

pub possible_read : (g : Settings) (s : State) (by : Actor) (t : TimerRef) → IsUser g by → HasAnswer g s (Reads g by t)
possible_read g s by t user = read_by g s by t user (names_timer g t) refl

cancel_found : (g : Settings) (s : State) (by : Actor) (t : TimerRef) → IsUser g by → names_timer g t ≡ true → (found : Option ℕ)
    → found ≡ left_of g (next g s (look_entry by s.clock.now)) by t → HasAnswer g s (Cancels g by t)
cancel_found g s by t user named None is =
    let look : Entry = look_entry by s.clock.now in (
      None,
      record {
        entries = look ∷ (peek_entry by t None ∷ []);
        allowed = record {
          now = s.clock.now;
          found = None;
          entries = ap (λ (b : Bool). look ∷ cancel_entries b by t None None) (sym named);
          unread = λ _. refl;
          quiet = λ _. refl;
        };
        legal = (can_look g s by user, (record { keeps = (user, refl, slot_named g t named); known = tt; found = is }, tt));
        undue = λ idle. keeps_undue g (next g s look) (peek_entry by t None) refl (keeps_undue g s look refl idle);
      },
    )
cancel_found g s by t user named (Some n) is =
    let look : Entry = look_entry by s.clock.now in
    let peeked : State = next g (next g s look) (peek_entry by t (Some n)) in
    let left : Option ℕ = left_of g peeked by t in (
      left,
      record {
        entries = look ∷ (peek_entry by t (Some n) ∷ (cancel_entry by t left ∷ []));
        allowed = record {
          now = s.clock.now;
          found = Some n;
          entries = ap (λ (b : Bool). look ∷ cancel_entries b by t (Some n) left) (sym named);
          unread = λ other. let clash : true ≡ false = sym named ∙ other in cc;
          quiet = λ none. let clash : Some n ≡ None = none in cc;
        };
        legal = (can_look g s by user, (record { keeps = (user, refl, slot_named g t named); known = tt; found = is }, (can_cancel g peeked by t user named, tt)));
        undue = λ idle. keeps_undue g peeked (cancel_entry by t left) refl
            (keeps_undue g (next g s look) (peek_entry by t (Some n)) refl (keeps_undue g s look refl idle));
      },
    )

cancel_by : (g : Settings) (s : State) (by : Actor) (t : TimerRef) → IsUser g by → (b : Bool) → names_timer g t ≡ b → HasAnswer g s (Cancels g by t)
cancel_by g s by t user true named = cancel_found g s by t user named _ refl
cancel_by g s by t user false other = (
  None,
  record {
    entries = look_entry by s.clock.now ∷ [];
    allowed = record {
      now = s.clock.now;
      found = None;
      entries = ap (λ (b : Bool). look_entry by s.clock.now ∷ cancel_entries b by t None None) (sym other);
      unread = λ _. refl;
      quiet = λ _. refl;
    };
    legal = (can_look g s by user, tt);
    undue = keeps_undue g s (look_entry by s.clock.now) refl;
  },
)

pub possible_cancel : (g : Settings) (s : State) (by : Actor) (t : TimerRef) → IsUser g by → HasAnswer g s (Cancels g by t)
possible_cancel g s by t user = cancel_by g s by t user (names_timer g t) refl

-- processes

pub can_mark : (g : Settings) (s : State) (by : Actor) (p : ℕ) (exits : Bool) → IsUser g by → p < g.processes
    → (was : Bool) → was ≡ s.exited p → Can g s (mark_entry by p exits was)
can_mark g s by p exits user process was is = record { keeps = (user, refl, process); known = tt; found = is }

not_twice : (b : Bool) → not (not b) ≡ b
not_twice true = refl
not_twice false = refl

possible_alive : (g : Settings) (s : State) (by : Actor) (p : ℕ) → IsUser g by → p < g.processes → HasAnswer g s (TellsAlive g by p)
possible_alive g s by p user process = (
  not (s.exited p),
  record {
    entries = mark_entry by p false (not (not (s.exited p))) ∷ [];
    allowed = refl;
    legal = (can_mark g s by p false user process _ (not_twice (s.exited p)), tt);
    undue = keeps_undue g s (mark_entry by p false (not (not (s.exited p)))) refl;
  },
)

possible_mark : (g : Settings) (s : State) (by : Actor) (p : ℕ) → IsUser g by → p < g.processes → HasAnswer g s (MarksExit g by p)
possible_mark g s by p user process = (
  not (s.exited p),
  record {
    entries = mark_entry by p true (not (not (s.exited p))) ∷ [];
    allowed = refl;
    legal = (can_mark g s by p true user process _ (not_twice (s.exited p)), tt);
    undue = keeps_undue g s (mark_entry by p true (not (not (s.exited p)))) refl;
  },
)

take_found : (g : Settings) (s : State) (n p : ℕ) → n < g.callers → p < g.processes → s.exited p ≡ false → (got : Option Mail)
    → got ≡ first_of (s.mails p).queue → HasAnswer g s (Takes g n p)
take_found g s n p caller process alive None is = (
  Empty,
  record {
    entries = mark_entry (Caller n) p false false ∷ (take_entry n p None ∷ []);
    allowed = refl;
    undue = λ idle. idle;
    legal = (
      can_mark g s (Caller n) p false caller process false (sym alive),
      (record { keeps = (caller, refl, process); known = is; found = tt }, tt),
    );
  },
)
take_found g s n p caller process alive (Some mail) is = (
  Taking mail,
  record {
    entries = mark_entry (Caller n) p false false ∷ (take_entry n p (Some mail) ∷ []);
    allowed = refl;
    undue = λ idle. idle;
    legal = (
      can_mark g s (Caller n) p false caller process false (sym alive),
      (record { keeps = (caller, refl, process); known = is; found = tt }, tt),
    );
  },
)

take_where : (g : Settings) (s : State) (n p : ℕ) → n < g.callers → p < g.processes → (b : Bool) → s.exited p ≡ b → HasAnswer g s (Takes g n p)
take_where g s n p caller process true gone = (
  Exited,
  record {
    entries = mark_entry (Caller n) p false true ∷ [];
    allowed = refl;
    undue = λ idle. idle;
    legal = (can_mark g s (Caller n) p false caller process true (sym gone), tt);
  },
)
take_where g s n p caller process false alive = take_found g s n p caller process alive _ refl

possible_take : (g : Settings) (s : State) (n p : ℕ) → n < g.callers → p < g.processes → HasAnswer g s (Takes g n p)
possible_take g s n p caller process = take_where g s n p caller process (s.exited p) refl

monitor_where : (g : Settings) (s : State) (n p : ℕ) → n < g.callers → p < g.processes
    → (a b : Bool) → nat_lt (length (s.mails p).monitors) 64 ≡ a → nat_le (s.mails p).next 4294967295 ≡ b
    → HasAnswerBut g s (Err NoMemory) (Monitors g n p)
monitor_where g s n p caller process true true few low =
    let number : ℕ = (s.mails p).next in (
      Ok number,
      (λ same. cc),
      record {
        entries = watch_entry n p number s.clock.offset ∷ [];
        allowed = record { offset = s.clock.offset; low = grind (arith, nat_tests); entries = refl };
        undue = λ idle. idle;
        legal = (record { keeps = (caller, refl, process); known = (refl, grind (arith, nat_tests)); found = refl }, tt);
      },
    )
monitor_where g s n p caller process false b many high = (
  Err Full,
  (λ same. cc),
  record {
    entries = off_entry (Caller n) s.clock.offset s.clock.state ∷ [];
    allowed = record { offset = s.clock.offset; offset_state = s.clock.state; full = inl (grind (arith, nat_tests)); entries = refl };
    undue = λ idle. idle;
    legal = (can_off g s (Caller n) caller, tt);
  },
)
monitor_where g s n p caller process true false few high = (
  Err Full,
  (λ same. cc),
  record {
    entries = off_entry (Caller n) s.clock.offset s.clock.state ∷ [];
    allowed = record { offset = s.clock.offset; offset_state = s.clock.state; full = inr (grind (arith, nat_tests)); entries = refl };
    undue = λ idle. idle;
    legal = (can_off g s (Caller n) caller, tt);
  },
)

pub processes_answer : (g : Settings) (s : State) → ProcessesAnswer g s
processes_answer g s = record {
  alive = possible_alive g s;
  mark = possible_mark g s;
  take = possible_take g s;
  monitor = λ n p caller process. monitor_where g s n p caller process _ _ refl refl;
  demonitor = λ n p k caller process. (
    stands_in k (s.mails p).monitors,
    record {
      entries = unwatch_entry n p k (stands_in k (s.mails p).monitors) ∷ [];
      allowed = refl;
      undue = λ idle. idle;
      legal = (record { keeps = (caller, refl, process); known = refl; found = tt }, tt);
    },
  );
  notify = λ n p caller process. (
    length (changes_of s.clock.offset (s.mails p).monitors),
    record {
      entries = tell_entry n p s.clock.offset ∷ [];
      allowed = record { offset = s.clock.offset; put_is = refl; entries = refl };
      undue = λ idle. idle;
      legal = (record { keeps = (caller, refl, process); known = tt; found = refl }, tt);
    },
  );
  ask = λ n w q caller sched asker. record {
    entries = ask_entry n w q ∷ [];
    allowed = refl;
    undue = λ idle. idle;
    legal = (record { keeps = (caller, refl, sched, asker); known = tt; found = tt }, tt);
  };
}
