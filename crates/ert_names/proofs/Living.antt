-- Who has a name lives, before a call and after it.

use Rattle.std.proofs.Common.{◌≡◌, ◌≢◌, ℕ, ◌≤◌, Bool, true, false, cond, nat_eq, List, [], ◌∷◌, ◌++◌, Option, Some, None, IfSome, Result, Ok, Err, OnOk, OnErr, refl, sym, ap, subst, ◌∙◌}
use Rattle.std.proofs.lemmas.Bool.{eq-eqb}
use Rattle.std.specs.{Cmp.Lexicographic.{slice_cmp, nat_list_cmp_total}, Ordering.{nat_cmp, eq_by_cmp}}
use Rattle.std.specs.FinMap as finite
use Rattle.ert_effects.specs.{Chains.Exits, MailCalls.Takes, WheelCalls.TellsAlive, Ways.{Growth, Way, Grows, alone}, declared.answers.Taken.TheVariants.{Mail, Empty}}
use Rattle.ert_defs.proofs.Runs.{legal_then, state-append}
use Rattle.ert_defs.specs.{Entries.mark_entry, Legal.{Legal, LegalFrom}, States.{State, opening, next, run, state}, declared.entry.Actor.TheVariants.Caller, declared.entry.Entry.Entry, declared.mail.Mail.TheVariants.Timeout}
use Rattle.ert_defs.specs.{declared.memory.NoMemory.NoMemory, declared.settings.Settings.Settings}
use Rattle.ert_names.specs.{Calls.Message, Fits.{AllFit, FitsNames}, Handing.TakesNext, Living.{Lives, AreLiving}, Names.{Names, Unnamed, IsWithout, other_than}}
use Rattle.ert_names.proofs.{Books.some_is, Fitting.{AreFitting, fits_on, fits_more, takes_fit, alive_fits, exits_fit}, Registrars.lives_event}
use Rattle.ert_world.specs.Worlds.{Seen, Goes, By}

-- a process that entries spare lives on
lives_run : (g : Settings) (n q : ℕ) (s : State) (es : List Entry) → AllFit n q es → s.exited q ≡ false → (run g s es).exited q ≡ false
lives_run g n q s [] fit lives = lives
lives_run g n q s (e ∷ es) fit lives = lives_run g n q (next g s e) es fit.1 (lives_event n q e.event (s.exited q) fit.0 lives)

lives_on : (n q : ℕ) (a b : Seen) (call : Way → Growth) → AreFitting n q (call (alone a.settings)) → Goes a call b → a.next ≡ 1 → Lives a q → Lives b q
lives_on n q a b call fitting goes lone lives =
    let g : Settings = a.settings in
    let grows : Grows (call (alone g)) a.history b.history = goes.lone lone in
    let after : state b.settings b.history ≡ run g (state g a.history) grows.piece =
    ap (λ k. state k b.history) goes.settings ∙ (ap (state g) grows.grown ∙ state-append g a.history grows.piece) in
    subst (λ (t : State). t.exited q ≡ false) (sym after)
    (lives_run g n q (state g a.history) grows.piece (fitting a.history grows.piece grows.made) lives)

-- a call that spares every process
pub names_on : (n : ℕ) (names : Names) (a b : Seen) (call : Way → Growth) → ((q : ℕ) → AreFitting n q (call (alone a.settings))) → Goes a call b
    → FitsNames n names a → FitsNames n names b
names_on n names a b call fitting goes fits = record {
  fits = fits_on n a b call (fitting 0) goes fits.fits;
  living = λ name q has. lives_on n q a b call (fitting q) goes fits.fits.lone (fits.living name q has);
}

pub names_by : (n : ℕ) (names : Names) (a b : Seen) (allows : Settings → State → List Entry → Type 0)
    → ((q : ℕ) (s : State) (es : List Entry) → allows a.settings s es → AllFit n q es) → Goes a (By a allows) b → FitsNames n names a → FitsNames n names b
names_by n names a b allows fitting goes fits =
    names_on n names a b (By a allows) (λ q h m made. fitting q (state a.settings h) m made) goes fits

-- a look whether a process lives
pub names_looked : (n : ℕ) (names : Names) (a b : Seen) (process : ℕ) (answer : Bool) → Goes a (By a (λ g. TellsAlive g (Caller 0) process answer)) b
    → FitsNames n names a → FitsNames n names b
names_looked n names a b process answer goes fits =
    names_by n names a b (λ g. TellsAlive g (Caller 0) process answer) (λ q s es. alive_fits n q a.settings (Caller 0) process answer s es) goes fits

pub names_more : (n m : ℕ) (names : Names) (a : Seen) → n ≤ m → FitsNames n names a → FitsNames m names a
names_more n m names a more fits = record { fits = fits_more n m a more fits.fits; living = fits.living }

-- the registrar's next message is taken
pub names_next : (n : ℕ) (names : Names) (a b : Seen) (message : Option Message) → TakesNext n a message b → FitsNames n names a → FitsNames n names b
names_next n names a b (Some message) next fits =
    let taken = Mail (Timeout message.0 message.1) in
    names_by n names a b (λ g. Takes g 0 0 taken) (λ q s es. takes_fit n q a.settings 0 0 taken s es) next.0.goes.goes fits
names_next n names a b None next fits =
    names_by n names a b (λ g. Takes g 0 0 Empty) (λ q s es. takes_fit n q a.settings 0 0 Empty s es) next.0.goes.goes fits

-- what a mark finds is whether the process had exited
found_at : (p : ℕ) (exits was : Bool) (g : Settings) (f m h : List Entry) → h ≡ f ++ m → m ≡ mark_entry (Caller 0) p exits was ∷ [] → Legal g h
    → was ≡ (state g f).exited p
found_at p exits was g f m h grown is legal =
    let whole : Legal g (f ++ m) = subst (Legal g) grown legal in
    let after : LegalFrom g (state g f) m = legal_then g (opening g) f m whole in
    let one : LegalFrom g (state g f) (mark_entry (Caller 0) p exits was ∷ []) = subst (LegalFrom g (state g f)) is after in
    one.0.found

-- a process that was seen to live
pub seen_living : (p : ℕ) (a b : Seen) → Goes a (By a (λ g. TellsAlive g (Caller 0) p true)) b → a.next ≡ 1 → Legal b.settings b.history → Lives b p
seen_living p a b goes lone legal =
    let g : Settings = a.settings in
    let grows = goes.lone lone in
    let whole : Legal g b.history = subst (λ k. Legal k b.history) goes.settings legal in
    let lives : Lives a p = sym (found_at p false false g a.history grows.piece b.history grows.grown grows.made whole) in
    lives_on 0 p a b (By a (λ g. TellsAlive g (Caller 0) p true))
    (λ h m made. alive_fits 0 p g (Caller 0) p true (state g h) m made) goes lone lives

-- a name is given to a process that lives
inserted_living : (names : Names) (name : List ℕ) (p : ℕ) (w : Seen) → Lives w p → AreLiving names w → AreLiving (finite.insert names name p) w
inserted_living names name p w lives living k q has =
    at (eq_by_cmp (slice_cmp nat_cmp) k name) (sym (finite.get-insert nat_list_cmp_total names name p k) ∙ has)
  where
    at : (b : Bool) → cond b (Some p) (finite.get names k) ≡ Some q → Lives w q
    at true is = subst (Lives w) (some_is p q is) lives
    at false is = living k q is

pub registered_if : (n : ℕ) (names new : Names) (name : List ℕ) (p : ℕ) (w : Seen) (answer : Result (Unit {0}) NoMemory)
    → OnOk answer (new ≡ finite.insert names name p) → OnErr answer (new ≡ names) → Lives w p → FitsNames n names w → FitsNames n new w
registered_if n names new name p w (Ok done) ok err lives fits = record {
  fits = fits.fits;
  living = subst (λ m. AreLiving m w) (sym ok) (inserted_living names name p w lives fits.living);
}
registered_if n names new name p w (Err e) ok err lives fits = record {
  fits = fits.fits;
  living = subst (λ m. AreLiving m w) (sym err) fits.living;
}

-- a name goes
pub removed_living : (n : ℕ) (names : Names) (name : List ℕ) (w : Seen) → FitsNames n names w → FitsNames n (finite.remove names name) w
removed_living n names name w fits = record {
  fits = fits.fits;
  living = λ k q has.
      fits.living k q (at k q (eq_by_cmp (slice_cmp nat_cmp) k name) (sym (finite.get-remove nat_list_cmp_total names name k) ∙ has));
}
  where
    at : (k : List ℕ) (q : ℕ) (b : Bool) → cond b None (finite.get names k) ≡ Some q → finite.get names k ≡ Some q
    at k q true is = absurd cc
    at k q false is = is

-- who has a name is another than the process whose name went
other_living : (p q : ℕ) (o : Option ℕ) → other_than p o ≡ Some q → (o ≡ Some q) × (q ≢ p)
other_living p q None is = absurd cc
other_living p q (Some r) is = at (nat_eq r p) refl is
  where
    at : (b : Bool) → nat_eq r p ≡ b → cond b None (Some r) ≡ Some q → (Some r ≡ Some q) × (q ≢ p)
    at true same is = absurd cc
    at false apart is = (is, λ same. (let clash : true ≡ false = sym (eq-eqb r p (some_is r q is ∙ same)) ∙ apart in cc))

pub without_unnamed : (old new : Names) (p : ℕ) → IsWithout old p new → Unnamed new p
without_unnamed old new p without = λ name has. (other_living p p (finite.get old name) (sym (without name) ∙ has)).1 refl

-- a process exits, and no name is left to it
exited_on : (n : ℕ) (names new : Names) (p : ℕ) (answer : Bool) (a b : Seen) → p ≢ 0 → Goes a (λ way. Exits a.settings way 0 p answer) b
    → ((name : List ℕ) (q : ℕ) → finite.get new name ≡ Some q → (finite.get names name ≡ Some q) × (q ≢ p)) → FitsNames n names a → FitsNames n new b
exited_on n names new p answer a b other goes fewer fits = record {
  fits = fits_on n a b (λ way. Exits a.settings way 0 p answer) (exits_fit n 0 a.settings p answer other) goes fits.fits;
  living = λ name q has.
      let apart = (fewer name q has).1 in
      lives_on n q a b (λ way. Exits a.settings way 0 p answer) (exits_fit n q a.settings p answer (λ same. apart (sym same))) goes fits.fits.lone
      (fits.living name q (fewer name q has).0);
}

pub exited_new : (n : ℕ) (names new : Names) (p : ℕ) (answer : Bool) (a b : Seen) → p ≢ 0 → Goes a (λ way. Exits a.settings way 0 p answer) b
    → IsWithout names p new → FitsNames n names a → FitsNames n new b
exited_new n names new p answer a b other goes without fits =
    exited_on n names new p answer a b other goes (λ name q has. other_living p q (finite.get names name) (sym (without name) ∙ has)) fits

-- a process that had exited before has no name
pub exited_unnamed : (n : ℕ) (names : Names) (p : ℕ) (a b : Seen) → Goes a (λ way. Exits a.settings way 0 p false) b
    → Legal b.settings b.history → FitsNames n names a → Unnamed names p
exited_unnamed n names p a b goes legal fits = λ name has.
    let g : Settings = a.settings in
    let grows = goes.lone fits.fits.lone in
    let whole : Legal g b.history = subst (λ k. Legal k b.history) goes.settings legal in
    let exited : true ≡ (state g a.history).exited p = found_at p true true g a.history grows.piece b.history grows.grown grows.made whole in
    let clash : true ≡ false = exited ∙ fits.living name p has in
    cc

pub exited_old : (n : ℕ) (names : Names) (p : ℕ) (a b : Seen) → p ≢ 0 → Goes a (λ way. Exits a.settings way 0 p false) b
    → Legal b.settings b.history → FitsNames n names a → FitsNames n names b
exited_old n names p a b other goes legal fits =
    let none = exited_unnamed n names p a b goes legal fits in
    exited_on n names names p false a b other goes (λ name q has. (has, λ same. none name (has ∙ ap Some same))) fits

-- a process that was found by its name
pub found_living : (names : Names) (w : Seen) (name : List ℕ) (found : Option ℕ) → found ≡ finite.get names name → AreLiving names w → IfSome found (Lives w)
found_living names w name None is living = tt
found_living names w name (Some q) is living = living name q (sym is)
