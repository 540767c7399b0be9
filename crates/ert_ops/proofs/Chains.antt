-- The ops of several steps: serving, advancing, delivering, turns and exits print the same.

use Rattle.std.proofs.Common.{◌≡◌, ℕ, zero, suc, Bool, true, false, List, [], ◌∷◌, ◌++◌, None, Ok, refl, sym, ap, ◌∙◌, subst}
use Rattle.ert_effects.specs.{Chains.{Serves, HasDelivered, HasTurned, Exits, SweepsWheels, puts, drops}, Ways.alone, WheelCalls.{HasAdvanced, IsSwept}, declared.answers.Turned.Turned}
use Rattle.ert_defs.proofs.Runs.{run-append, state-append}
use Rattle.ert_defs.specs.{Entries.mark_entry, Legal.LegalFrom, States.{State, run, state}, declared.entry.Actor.TheVariants.Caller, declared.entry.Entry.Entry, declared.settings.Settings.Settings}
use Rattle.ert_ops.proofs.{Advances.advance_meets, Clocks.{IsDone, done_as}, Hands.deliver_meets, Many.{legal_before, legal_after, meets_after, all_served}, Meets.{Meets, meets_next}, Serves.{serves_meet, tells_served}, Steps.as_mark}
use Rattle.ert_ops.proofs.{Sweeps.sweep_meets}
use Rattle.ert_ops.specs.{Labels.{Labels, label_of}, Lines.{line_of, turn_line}, Plain.slot_of, PlainMail.{orphans, sweeps, exit_piece}, PlainTurns.{Served, serve_one, has_served, serve_many, advance_now, handing, hows_of, serve_op}}
use Rattle.ert_ops.specs.{PlainTurns.{advance_op, deliver_op, turn_op}, declared.reply.Reply.TheVariants.{Serve, Advance, Deliver, Turn, Exit}}

serve_prints : (ls : Labels) (a b : Bool) → a ≡ b → line_of (label_of ls) (Serve a) ≡ line_of slot_of (Serve b)
serve_prints ls true b is = ap (λ (x : Bool). line_of slot_of (Serve x)) is
serve_prints ls false b is = ap (λ (x : Bool). line_of slot_of (Serve x)) is

pub serve_done : (g : Settings) (n : ℕ) (ls : Labels) (w : ℕ) (served : Bool) (h m : List Entry) (c : State) → Meets g n ls (state g h) c
    → LegalFrom g (state g h) m → Serves g (alone g) w (Ok served) h m → IsDone g n ls (state g h) c (Serve served) m (serve_op g c w)
serve_done g n ls w served h m c meets legal does =
    let one = serves_meet g n ls w served h m c meets legal does in
    let told : has_served (serve_one g c w) ≡ served = tells_served served (serve_one g c w) one.counts in
    record { line = serve_prints ls served (has_served (serve_one g c w)) (sym told); meets = one.meets }

pub advance_done : (g : Settings) (n : ℕ) (ls : Labels) (w to expired : ℕ) (s c : State) (es : List Entry) → Meets g n ls s c → LegalFrom g s es
    → HasAdvanced w (to, expired) s es → IsDone g n ls s c (Advance to expired) es (advance_op g c w)
advance_done g n ls w to expired s c es meets legal does =
    let one = advance_meets g n ls w to expired s c es meets legal does in
    record {
      line = ap (λ (x : ℕ). line_of slot_of (Advance x expired)) one.to_is ∙ ap (λ (x : ℕ). line_of slot_of (Advance (advance_now g c w).to x)) one.expired_is;
      meets = one.meets;
    }

pub deliver_done : (g : Settings) (n : ℕ) (ls : Labels) (w put dropped : ℕ) (h m : List Entry) (c : State) → Meets g n ls (state g h) c
    → LegalFrom g (state g h) m → HasDelivered g (alone g) w (put, dropped) h m
    → IsDone g n ls (state g h) c (Deliver put dropped) m (deliver_op c w)
deliver_done g n ls w put dropped h m c meets legal does =
    let one = deliver_meets g n ls w put dropped h m c meets legal does in
    record {
      line = ap (λ (x : ℕ). line_of slot_of (Deliver x dropped)) one.put_is
          ∙ ap (λ (x : ℕ). line_of slot_of (Deliver (puts (hows_of c.exited (c.scheds w).expired)) x)) one.dropped_is;
      meets = one.meets;
    }

-- two pieces one after the other
joined_meets : (g : Settings) (n : ℕ) (ls : Labels) (h m before after : List Entry) (c : State) (first second : List Entry) → m ≡ before ++ after
    → Meets g n ls (run g (state g (h ++ before)) after) (run g (run g c first) second)
    → Meets g n ls (run g (state g h) m) (run g c (first ++ second))
joined_meets g n ls h m before after c first second joined meets =
    subst (λ (e : List Entry). Meets g n ls (run g (state g h) e) (run g c (first ++ second))) (sym joined)
    (subst (λ (z : State). Meets g n ls z (run g c (first ++ second)))
    (ap (λ (z : State). run g z after) (state-append g h before) ∙ sym (run-append g (state g h) before after))
    (subst (λ (d : State). Meets g n ls (run g (state g (h ++ before)) after) d) (sym (run-append g c first second)) meets))

turned_same : (t : Turned) (served to expired put dropped : ℕ) → t.served ≡ served → t.to ≡ to → t.expired ≡ expired → t.put ≡ put → t.dropped ≡ dropped
    → t ≡ record { served = served; to = to; expired = expired; put = put; dropped = dropped }
turned_same t served to expired put dropped a b c d e =
    ap (λ (x : ℕ). record { served = x; to = t.to; expired = t.expired; put = t.put; dropped = t.dropped }) a
    ∙ ap (λ (x : ℕ). record { served = served; to = x; expired = t.expired; put = t.put; dropped = t.dropped }) b
    ∙ ap (λ (x : ℕ). record { served = served; to = to; expired = x; put = t.put; dropped = t.dropped }) c
    ∙ ap (λ (x : ℕ). record { served = served; to = to; expired = expired; put = x; dropped = t.dropped }) d
    ∙ ap (λ (x : ℕ). record { served = served; to = to; expired = expired; put = put; dropped = x }) e

pub turn_done : (g : Settings) (n : ℕ) (ls : Labels) (w : ℕ) (t : Turned) (h m : List Entry) (c : State) → Meets g n ls (state g h) c
    → LegalFrom g (state g h) m → HasTurned g (alone g) w t h m → IsDone g n ls (state g h) c (Turn t) m (turn_op g c w)
turn_done g n ls w t h m c meets legal does =
    let served = all_served g n ls w t.served h does.before c meets (legal_before g h m does.before does.after does.joined legal) does.one in
    let more : Served = serve_many g c w 64 in
    let d : State = run g c more.entries in
    let later : List Entry = h ++ does.before in
    let here = meets_after g n ls h does.before d served.meets in
    let lawful = legal_after g h m does.before does.after does.joined legal in
    let rest = does.other in
    let advanced = advance_meets g n ls w t.to t.expired (state g later) d rest.before here (legal_before g later does.after rest.before rest.after rest.joined lawful) rest.one in
    let last : State = run g d (advance_now g d w).entries in
    let there = meets_after g n ls later rest.before last advanced.meets in
    let delivered = deliver_meets g n ls w t.put t.dropped (later ++ rest.before) rest.after last there
    (legal_after g later does.after rest.before rest.after rest.joined lawful) rest.other in
    let tail = joined_meets g n ls later does.after rest.before rest.after d (advance_now g d w).entries (handing last w) rest.joined delivered.meets in
    record {
      line = ap (λ (x : Turned). turn_line x) (turned_same t more.count (advance_now g d w).to (advance_now g d w).expired
          (puts (hows_of last.exited (last.scheds w).expired)) (drops (hows_of last.exited (last.scheds w).expired)) (sym served.counts) advanced.to_is advanced.expired_is delivered.put_is delivered.dropped_is);
      meets = joined_meets g n ls h m does.before does.after c more.entries ((advance_now g d w).entries ++ handing last w) does.joined tail;
    }

-- exits

swept_all : (g : Settings) (n : ℕ) (ls : Labels) (p w k : ℕ) (h m : List Entry) (c : State) → Meets g n ls (state g h) c → LegalFrom g (state g h) m
    → SweepsWheels g (alone g) 0 p w k h m → Meets g n ls (run g (state g h) m) (run g c (sweeps g c p w k))
swept_all g n ls p w zero h m c meets legal does = subst (λ (e : List Entry). Meets g n ls (run g (state g h) e) c) (sym does) meets
swept_all g n ls p w (suc k) h m c meets legal does =
    let swept : IsSwept (run g (state g h) does.before) w p = subst (λ (z : State). IsSwept z w p) (state-append g h does.before) does.one.swept in
    let one = sweep_meets g n ls w p (state g h) c does.before meets (legal_before g h m does.before does.after does.joined legal) does.one.steps swept in
    let d : State = run g c (orphans c p w) in
    let rest = swept_all g n ls p (suc w) k (h ++ does.before) does.after d (meets_after g n ls h does.before d one)
    (legal_after g h m does.before does.after does.joined legal) does.other in
    joined_meets g n ls h m does.before does.after c (orphans c p w) (sweeps g d p (suc w) k) does.joined rest

exits_now : (g : Settings) (n : ℕ) (ls : Labels) (p : ℕ) (h m : List Entry) (c : State) → Meets g n ls (state g h) c → LegalFrom g (state g h) m
    → Exits g (alone g) 0 p true h m → IsDone g n ls (state g h) c (Exit true) m (exit_piece g c p (c.exited p))
exits_now g n ls p h m c meets legal does =
    let mark : List Entry = mark_entry (Caller 0) p true false ∷ [] in
    let lawful = subst (λ (e : List Entry). LegalFrom g (state g h) e) does.one (legal_before g h m does.before does.after does.joined legal) in
    let alive : c.exited p ≡ false = sym (meets.shows.exited p) ∙ sym lawful.0.found in
    let marked : Meets g n ls (run g (state g h) does.before) (run g c mark) =
    subst (λ (e : List Entry). Meets g n ls (run g (state g h) e) (run g c mark)) (sym does.one)
    (meets_next g n ls (as_mark p true false) (Caller 0) None (state g h) c meets lawful.0) in
    let rest = swept_all g n ls p 0 g.schedulers (h ++ does.before) does.after (run g c mark) (meets_after g n ls h does.before (run g c mark) marked)
    (legal_after g h m does.before does.after does.joined legal) does.other in
    done_as g n ls (state g h) c (Exit true) m m (exit_piece g c p (c.exited p)) (exit_piece g c p false) refl (ap (exit_piece g c p) alive)
    (record {
      line = refl;
      meets = joined_meets g n ls h m does.before does.after c mark (sweeps g (run g c mark) p 0 g.schedulers) does.joined rest;
    })

exited_before : (g : Settings) (n : ℕ) (ls : Labels) (p : ℕ) (s c : State) (m : List Entry) → Meets g n ls s c → LegalFrom g s m
    → m ≡ mark_entry (Caller 0) p true true ∷ [] → IsDone g n ls s c (Exit false) m (exit_piece g c p (c.exited p))
exited_before g n ls p s c m meets legal is =
    let lawful = subst (λ (e : List Entry). LegalFrom g s e) is legal in
    let gone : c.exited p ≡ true = sym (meets.shows.exited p) ∙ sym lawful.0.found in
    done_as g n ls s c (Exit false) m (mark_entry (Caller 0) p true true ∷ []) (exit_piece g c p (c.exited p)) (exit_piece g c p true) is (ap (exit_piece g c p) gone)
    (record { line = refl; meets = meets_next g n ls (as_mark p true true) (Caller 0) None s c meets lawful.0 })

pub exit_done : (g : Settings) (n : ℕ) (ls : Labels) (p : ℕ) (was_alive : Bool) (h m : List Entry) (c : State) → Meets g n ls (state g h) c
    → LegalFrom g (state g h) m → Exits g (alone g) 0 p was_alive h m
    → IsDone g n ls (state g h) c (Exit was_alive) m (exit_piece g c p (c.exited p))
exit_done g n ls p true h m c meets legal does = exits_now g n ls p h m c meets legal does
exit_done g n ls p false h m c meets legal does = exited_before g n ls p (state g h) c m meets legal does
