-- The ops on mailboxes, exits seen, monitors, and asking: the service answers and does as the plain one.

use Rattle.std.proofs.Common.{◌≡◌, ◌⊎◌, ℕ, ℤ, ◌<◌, ◌≤◌, Bool, true, false, cond, not, ◌&&◌, nat_lt, nat_le, List, [], ◌∷◌, length, Option, Some, None, refl, sym, ap, ◌∙◌, subst, inl, inr, arith}
use Rattle.std.proofs.lemmas.Bool.Decides.{nat_tests}
use Rattle.ert_effects.specs.{MailCalls.{HasTold, IsMonitored, AreMonitorsFull}, RequestCalls.inbox_for}
use Rattle.ert_defs.specs.{Clocks.Clock, Entries.{off_entry, mark_entry, ask_entry, take_entry, watch_entry, unwatch_entry, tell_entry}, Legal.{LegalFrom, stands_in}, Mails.{first_of, changes_of}, States.{State, next}}
use Rattle.ert_defs.specs.{declared.entry.Actor.TheVariants.{Inbox, MailOf, Caller}, declared.entry.Entry.Entry, declared.mail.Mail.Mail, declared.mail.Mail.TheVariants.{Timeout, Bare, CancelDone, ReadDone, Change}}
use Rattle.ert_defs.specs.{declared.mail.Monitor.Monitor, declared.mail.Request.Request, declared.settings.OffsetState.OffsetState, declared.settings.Settings.Settings}
use Rattle.ert_ops.proofs.{Bound.IsName, Clocks.{IsDone, done_as}, Meets.{Meets, meets_next}, Shown.{Both, SameMail, SameRequest, pairs_first}, Steps.{as_off, as_mark, as_ask, as_take, as_unwatch, as_watch, as_tell}}
use Rattle.ert_ops.specs.{Labels.{Labels, label_of}, Lines.{line_of, mail_line}, Plain.slot_of, PlainMail.{receive_reply, receive_piece, alive_piece, may_watch, monitor_piece, demonitor_piece, notify_piece}, PlainTurns.ask_piece}
use Rattle.ert_ops.specs.{declared.reply.Reply.Reply, declared.reply.Reply.TheVariants.{ReceivedExited, Alive, Monitor as Monitored, MonitorFull, Demonitor, Notify}}

pub notify_done : (g : Settings) (n : ℕ) (ls : Labels) (s c : State) (p put : ℕ) (es : List Entry) → Meets g n ls s c
    → LegalFrom g s es → HasTold 0 p (s.mails p) put es → IsDone g n ls s c (Notify put) es (notify_piece c p)
notify_done g n ls s c p put es h legal does =
    let lawful = subst (λ (x : List Entry). LegalFrom g s x) does.entries legal in
    let offset : does.offset ≡ c.clock.offset = lawful.0.found ∙ ap (λ (k : Clock). k.offset) h.shows.clock in
    let count : put ≡ length (changes_of does.offset (c.mails p).monitors) =
    does.put_is ∙ ap (λ (ms : List Monitor). length (changes_of does.offset ms)) (h.shows.mails p).monitors in
    done_as g n ls s c (Notify put) es (tell_entry 0 p does.offset ∷ []) (notify_piece c p) _ does.entries
    (ap (λ (x : ℤ). record { entries = tell_entry 0 p x ∷ []; reply = Notify (length (changes_of x (c.mails p).monitors)) }) (sym offset)
    ∙ ap (λ (k : ℕ). record { entries = tell_entry 0 p does.offset ∷ []; reply = Notify k }) (sym count))
    (record { line = refl; meets = meets_next g n ls (as_tell p does.offset) (Caller 0) (Some (MailOf p)) s c h lawful.0 })

-- a message prints the same by labels and by slots
pub mail_prints : (g : Settings) (ls : Labels) (a b : Mail) → SameMail (IsName g ls) a b → mail_line (label_of ls) a ≡ mail_line slot_of b
mail_prints g ls (Timeout t x) (Timeout n y) h = let label : label_of ls t ≡ n.slot = sym h.0.slot in let same : x ≡ y = h.1 in cc
mail_prints g ls (Bare x) (Bare y) h = let same : x ≡ y = h in cc
mail_prints g ls (CancelDone t x) (CancelDone n y) h = let label : label_of ls t ≡ n.slot = sym h.0.slot in let same : x ≡ y = h.1 in cc
mail_prints g ls (ReadDone t x) (ReadDone n y) h = let label : label_of ls t ≡ n.slot = sym h.0.slot in let same : x ≡ y = h.1 in cc
mail_prints g ls (Change m x) (Change n y) h = let number : m ≡ n = h.0 in let same : x ≡ y = h.1 in cc
mail_prints g ls _ _ h = absurd h

received_prints : (g : Settings) (ls : Labels) (a b : Option Mail) → Both (SameMail (IsName g ls)) a b
    → line_of (label_of ls) (receive_reply a) ≡ line_of slot_of (receive_reply b)
received_prints g ls None None h = refl
received_prints g ls (Some a) (Some b) h = mail_prints g ls a b h
received_prints g ls None (Some b) h = absurd h
received_prints g ls (Some a) None h = absurd h

pub exited_done : (g : Settings) (n : ℕ) (ls : Labels) (s c : State) (p : ℕ) (es : List Entry) → Meets g n ls s c
    → LegalFrom g s es → es ≡ mark_entry (Caller 0) p false true ∷ [] → IsDone g n ls s c ReceivedExited es (receive_piece c p (c.exited p))
exited_done g n ls s c p es h legal is =
    let lawful = subst (λ (x : List Entry). LegalFrom g s x) is legal in
    let exited : c.exited p ≡ true = sym (h.shows.exited p) ∙ sym lawful.0.found in
    done_as g n ls s c ReceivedExited es (mark_entry (Caller 0) p false true ∷ []) (receive_piece c p (c.exited p)) _ is
    (ap (λ (b : Bool). receive_piece c p b) exited)
    (record { line = refl; meets = meets_next g n ls (as_mark p false true) (Caller 0) None s c h lawful.0 })

pub receive_done : (g : Settings) (n : ℕ) (ls : Labels) (s c : State) (p : ℕ) (got : Option Mail) (es : List Entry) → Meets g n ls s c
    → LegalFrom g s es → es ≡ mark_entry (Caller 0) p false false ∷ take_entry 0 p got ∷ []
    → IsDone g n ls s c (receive_reply got) es (receive_piece c p (c.exited p))
receive_done g n ls s c p got es h legal is =
    let lawful = subst (λ (x : List Entry). LegalFrom g s x) is legal in
    let alive : c.exited p ≡ false = sym (h.shows.exited p) ∙ sym lawful.0.found in
    let marked = meets_next g n ls (as_mark p false false) (Caller 0) None s c h lawful.0 in
    let same : Both (SameMail (IsName g ls)) got (first_of (c.mails p).queue) =
    subst (λ (x : Option Mail). Both (SameMail (IsName g ls)) x (first_of (c.mails p).queue)) (sym lawful.1.0.known)
    (pairs_first (SameMail (IsName g ls)) (s.mails p).queue (c.mails p).queue (h.shows.mails p).queue) in
    done_as g n ls s c (receive_reply got) es (mark_entry (Caller 0) p false false ∷ take_entry 0 p got ∷ []) (receive_piece c p (c.exited p)) _ is
    (ap (λ (b : Bool). receive_piece c p b) alive)
    (record {
      line = received_prints g ls got (first_of (c.mails p).queue) same;
      meets = meets_next g n ls (as_take p got (first_of (c.mails p).queue)) (Caller 0) (Some (MailOf p)) _ _ marked lawful.1.0;
    })

twice : (b : Bool) → b ≡ not (not b)
twice true = refl
twice false = refl

pub alive_done : (g : Settings) (n : ℕ) (ls : Labels) (s c : State) (p : ℕ) (alive : Bool) (es : List Entry) → Meets g n ls s c
    → LegalFrom g s es → es ≡ mark_entry (Caller 0) p false (not alive) ∷ [] → IsDone g n ls s c (Alive alive) es (alive_piece c p)
alive_done g n ls s c p alive es h legal is =
    let lawful = subst (λ (x : List Entry). LegalFrom g s x) is legal in
    let exited : c.exited p ≡ not alive = sym (h.shows.exited p) ∙ sym lawful.0.found in
    done_as g n ls s c (Alive alive) es (mark_entry (Caller 0) p false (not alive) ∷ []) (alive_piece c p) _ is
    (ap (λ (b : Bool). record { entries = mark_entry (Caller 0) p false b ∷ []; reply = Alive (not b) }) exited
    ∙ ap (λ (b : Bool). record { entries = mark_entry (Caller 0) p false (not alive) ∷ []; reply = Alive b }) (sym (twice alive)))
    (record { line = refl; meets = meets_next g n ls (as_mark p false (not alive)) (Caller 0) None s c h lawful.0 })

may_be : (count next : ℕ) → count < 64 → next ≤ 4294967295 → (nat_lt count 64 && nat_le next 4294967295) ≡ true
may_be count next low high = grind (arith, nat_tests)

may_not : (count next : ℕ) → (64 ≤ count) ⊎ (4294967295 < next) → (nat_lt count 64 && nat_le next 4294967295) ≡ false
may_not count next (inl many) = grind (arith, nat_tests)
may_not count next (inr last) = grind (arith, nat_tests)

pub monitor_done : (g : Settings) (n : ℕ) (ls : Labels) (s c : State) (p number : ℕ) (es : List Entry) → Meets g n ls s c
    → LegalFrom g s es → IsMonitored 0 p number es → IsDone g n ls s c (Monitored number) es (monitor_piece c p (may_watch (c.mails p)))
monitor_done g n ls s c p number es h legal does =
    let lawful = subst (λ (x : List Entry). LegalFrom g s x) does.entries legal in
    let offset : does.offset ≡ c.clock.offset = lawful.0.found ∙ ap (λ (k : Clock). k.offset) h.shows.clock in
    let next : number ≡ (c.mails p).next = lawful.0.known.0 ∙ (h.shows.mails p).next in
    let count : length (s.mails p).monitors ≡ length (c.mails p).monitors = ap (λ (ms : List Monitor). length ms) (h.shows.mails p).monitors in
    let may : may_watch (c.mails p) ≡ true =
    may_be (length (c.mails p).monitors) (c.mails p).next (omega (arith, lawful.0.known.1)) (omega (arith, does.low)) in
    done_as g n ls s c (Monitored number) es (watch_entry 0 p number does.offset ∷ []) (monitor_piece c p (may_watch (c.mails p))) _ does.entries
    (ap (λ (b : Bool). monitor_piece c p b) may
    ∙ ap (λ (x : ℤ). record { entries = watch_entry 0 p (c.mails p).next x ∷ []; reply = Monitored (c.mails p).next }) (sym offset)
    ∙ ap (λ (k : ℕ). record { entries = watch_entry 0 p k does.offset ∷ []; reply = Monitored k }) (sym next))
    (record { line = refl; meets = meets_next g n ls (as_watch p number does.offset) (Caller 0) (Some (MailOf p)) s c h lawful.0 })

pub no_monitor_done : (g : Settings) (n : ℕ) (ls : Labels) (s c : State) (p : ℕ) (es : List Entry) → Meets g n ls s c
    → LegalFrom g s es → AreMonitorsFull 0 (s.mails p) es → IsDone g n ls s c MonitorFull es (monitor_piece c p (may_watch (c.mails p)))
no_monitor_done g n ls s c p es h legal does =
    let lawful = subst (λ (x : List Entry). LegalFrom g s x) does.entries legal in
    let offset : does.offset ≡ c.clock.offset = lawful.0.found.0 ∙ ap (λ (k : Clock). k.offset) h.shows.clock in
    let state : does.offset_state ≡ c.clock.state = lawful.0.found.1 ∙ ap (λ (k : Clock). k.state) h.shows.clock in
    let may : may_watch (s.mails p) ≡ false = may_not (length (s.mails p).monitors) (s.mails p).next does.full in
    let other : may_watch (c.mails p) ≡ false =
    ap (λ (ms : List Monitor). nat_lt (length ms) 64 && nat_le (c.mails p).next 4294967295) (sym (h.shows.mails p).monitors)
    ∙ ap (λ (k : ℕ). nat_lt (length (s.mails p).monitors) 64 && nat_le k 4294967295) (sym (h.shows.mails p).next) ∙ may in
    done_as g n ls s c MonitorFull es (off_entry (Caller 0) does.offset does.offset_state ∷ []) (monitor_piece c p (may_watch (c.mails p))) _ does.entries
    (ap (λ (b : Bool). monitor_piece c p b) other
    ∙ ap (λ (x : ℤ). record { entries = off_entry (Caller 0) x c.clock.state ∷ []; reply = MonitorFull }) (sym offset)
    ∙ ap (λ (x : OffsetState). record { entries = off_entry (Caller 0) does.offset x ∷ []; reply = MonitorFull }) (sym state))
    (record { line = refl; meets = meets_next g n ls (as_off does.offset does.offset_state) (Caller 0) None s c h lawful.0 })

pub demonitor_done : (g : Settings) (n : ℕ) (ls : Labels) (s c : State) (p k : ℕ) (stood : Bool) (es : List Entry) → Meets g n ls s c
    → LegalFrom g s es → es ≡ unwatch_entry 0 p k stood ∷ [] → IsDone g n ls s c (Demonitor stood) es (demonitor_piece c p k)
demonitor_done g n ls s c p k stood es h legal is =
    let lawful = subst (λ (x : List Entry). LegalFrom g s x) is legal in
    let same : stood ≡ stands_in k (c.mails p).monitors = lawful.0.known ∙ ap (λ (ms : List Monitor). stands_in k ms) (h.shows.mails p).monitors in
    done_as g n ls s c (Demonitor stood) es (unwatch_entry 0 p k stood ∷ []) (demonitor_piece c p k) _ is
    (ap (λ (b : Bool). record { entries = unwatch_entry 0 p k b ∷ []; reply = Demonitor b }) (sym same))
    (record { line = refl; meets = meets_next g n ls (as_unwatch p k stood) (Caller 0) (Some (MailOf p)) s c h lawful.0 })

pub ask_done : (g : Settings) (n : ℕ) (ls : Labels) (s c : State) (q k : Request) (reply : Reply) (es : List Entry) → Meets g n ls s c
    → SameRequest (IsName g ls) q k → LegalFrom g s es → es ≡ ask_entry 0 (inbox_for g q) q ∷ []
    → line_of (label_of ls) reply ≡ line_of slot_of reply → IsDone g n ls s c reply es (ask_piece g k reply)
ask_done g n ls s c q k reply es h same legal is plain =
    let lawful = subst (λ (x : List Entry). LegalFrom g s x) is legal in
    let inbox : inbox_for g k ≡ inbox_for g q = ap (λ (w : ℕ). cond (nat_lt w g.schedulers) w 0) same.timer.wheel in
    done_as g n ls s c reply es (ask_entry 0 (inbox_for g q) q ∷ []) (ask_piece g k reply) _ is
    (ap (λ (w : ℕ). record { entries = ask_entry 0 w k ∷ []; reply = reply }) inbox)
    (record { line = plain; meets = meets_next g n ls (as_ask (inbox_for g q) q k same) (Caller 0) (Some (Inbox (inbox_for g q))) s c h lawful.0 })
