-- What every history of a world of names has.

use Rattle.std.proofs.Common.{◌≡◌, ◌≢◌, ℕ, true, false, List, [], ◌∷◌, ◌++◌, refl, sym, ap, subst, ◌∙◌}
use Rattle.ert_defs.proofs.Runs.{legal_first, legal_then}
use Rattle.ert_defs.specs.{Legal.{Can, Known, Legal, LegalFrom}, States.{State, opening, state}, declared.entry.Entry.Entry, declared.entry.Event.Event, declared.entry.Event.TheVariants.{Orphan, Drop}, declared.settings.Settings.Settings}
use Rattle.ert_laws.proofs.Kept.{keeps_laws}
use Rattle.ert_names.proofs.{Messages.kept_world, Registrars.{IsKept, kept_run, kept_opening}}
use Rattle.ert_names.specs.{Fits.{AllFit, FitsRows}, Promised.{SparesNamed, IsPromised}}
use Rattle.ert_world.specs.Worlds.{Seen, StandsFor}

-- what exits isn't the registrar
other_dest : (s : State) (dest : ℕ) → s.exited 0 ≡ false → s.exited dest ≡ true → dest ≢ 0
other_dest s dest lives exited = λ is. (let no : true ≡ false = sym exited ∙ (ap s.exited is ∙ lives) in absurd cc)

spares : (g : Settings) (n : ℕ) (f : List Entry) (e : Entry) (event : Event) → e.event ≡ event → IsKept n (state g f) → Can g (state g f) e → SparesNamed g f event
spares g n f e (Orphan timer) is kept can =
    let known = subst (λ ev. Known g (state g f) e.by e.with ev) is can.known in
    (known.row, known.stands, other_dest (state g f) known.row.dest kept.lives known.exited)
spares g n f e (Drop timer) is kept can =
    let known = subst (λ ev. Known g (state g f) e.by e.with ev) is can.known in
    (known.0, other_dest (state g f) known.0.row.dest kept.lives known.1)
spares g n f e _ is kept can = tt

fit_first : (n : ℕ) (f m : List Entry) → AllFit n 0 (f ++ m) → AllFit n 0 f
fit_first n [] m fit = tt
fit_first n (e ∷ f) m fit = (fit.0, fit_first n f m fit.1)

pub promised : (n : ℕ) (w : Seen) → StandsFor w.settings w.history w → FitsRows n w → IsPromised n w
promised n w stands fits =
    let g : Settings = w.settings in
    let h : List Entry = w.history in
    let legal : Legal g h = stands.clock.legal in
    let kept = kept_world n w legal fits in
    record {
      laws = keeps_laws g h stands.checked legal;
      lone = fits.lone;
      registrar_lives = kept.lives;
      rows = kept.rows;
      messages = kept.queue;
      spared = λ f m e is. (
          let whole : Legal g (f ++ (e ∷ m)) = subst (Legal g) is legal in
          let before = legal_first g (opening g) f (e ∷ m) whole in
          let after : LegalFrom g (state g f) (e ∷ m) = legal_then g (opening g) f (e ∷ m) whole in
          let fit : AllFit n 0 f = fit_first n f (e ∷ m) (subst (AllFit n 0) is fits.entries) in
          spares g n f e e.event refl (kept_run g n (opening g) f (kept_opening g n) before fit) after.0);
    }
