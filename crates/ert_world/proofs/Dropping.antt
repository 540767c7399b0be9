-- The wheels of a world that is put together drop the rows of settled timers, one wheel after the other.

use Rattle.std.proofs.Common.{◌≡◌, ℕ, ◌+◌, ◌<◌, List, [], length, slice_index_or, sym, ap, subst, ◌∙◌, arith, None}
use Rattle.std.specs.Prelude.{slice_set}
use Rattle.std.proofs.lemmas.List.{length-set}
use Rattle.ert_defs.specs.{States.state, declared.entry.Actor.TheVariants.Wheel, declared.entry.Entry.Entry, declared.settings.Settings.Settings}
use Rattle.ert_clock.specs.Shown.{Shown}
use Rattle.ert_table.specs.{Desks.{settings_of, view_of, front_of, Belongs}, declared.desk.Desk.Desk, declared.desk.Pass.Pass, declared.view.View.View}
use Rattle.ert_timers.proofs.Passing.{loses_none, loses_then}
use Rattle.ert_timers.specs.{Parts.{Part, PartStands}, Passed.LosesRows, Tidy.IsTidy}
use Rattle.ert_world.proofs.{Returned.at_place, WheelCalls.rows_set}
use Rattle.ert_world.specs.{Parts.{AllParts, AreOrdered, Stand}, Worlds.{Seen, seen, HoldsRest, AreFit, AreTidy, AreSound, IsPutTogether}}

-- the first so many wheels have dropped them
pub record HaveDropped (g : Settings) (h : List Entry) (ws vs : List Part) (n : ℕ) : Type 0 where
  pub ordered : AreOrdered (λ p. p.number) (PartStands g h) Wheel [] g.schedulers vs
  pub rows : (i : ℕ) (d : Part) → LosesRows (slice_index_or ws i d) (slice_index_or vs i d)
  pub tidy : (i : ℕ) (d : Part) → i < n → IsTidy (state g h) (slice_index_or vs i d)

pub none_dropped : (g : Settings) (h : List Entry) (ws : List Part) → AreOrdered (λ p. p.number) (PartStands g h) Wheel [] g.schedulers ws
    → HaveDropped g h ws ws 0
none_dropped g h ws ordered = record {
  ordered = ordered;
  rows = λ i d. loses_none (slice_index_or ws i d);
  tidy = λ i d low. absurd (omega (arith, low));
}

-- and one more
pub one_dropped : (g : Settings) (h : List Entry) (ws vs : List Part) (n : ℕ) (old new : Part) → HaveDropped g h ws vs n → n < g.schedulers
    → old ≡ slice_index_or vs n old → PartStands g h new → LosesRows old new → IsTidy (state g h) new → HaveDropped g h ws (slice_set vs n new) (n + 1)
one_dropped g h ws vs n old new far low lent stands loses tidy =
    let wide : n < length vs = rw far.ordered.counted low in
    record {
      ordered = record {
        counted = length-set vs n new ∙ far.ordered.counted;
        named = λ i d below.
            at_place (λ (y : Part). y.number ≡ i) vs n i new d wide
            (λ one. loses.number ∙ (ap (λ (p : Part). p.number) lent ∙ (far.ordered.named n old low ∙ sym one))) (λ other. far.ordered.named i d below);
        stand = λ i d below left. at_place (PartStands g h) vs n i new d wide (λ one. stands) (λ other. far.ordered.stand i d below left);
      };
      rows = λ i d. loses_then (slice_index_or ws i d) (slice_index_or vs i d) (slice_index_or (slice_set vs n new) i d) (far.rows i d)
          (rows_set vs n old new wide lent loses i d);
      tidy = λ i d less.
          at_place (λ (y : Part). IsTidy (state g h) y) vs n i new d wide (λ one. tidy) (λ other. far.tidy i d (omega (arith, less, other)));
    }

-- so parts that fit are those of a world
pub kept_then : (d e : Desk) (p q : Pass) (parts : AllParts) (ws : List Part) → d ≡ e → AreFit e p 1 parts → Belongs d q → view_of q ≡ view_of p
    → AreOrdered (λ p. p.number) (PartStands (settings_of d) (front_of p)) Wheel [] (settings_of d).schedulers ws → AreTidy (settings_of d) (front_of p) ws
    → AreSound e q 1 (record parts { wheels = ws })
kept_then d e p q parts ws same fit belongs view ordered tidy =
    let front : front_of q ≡ front_of p = ap (λ (v : View). v.front) view in
    let mine : AreOrdered (λ p. p.number) (PartStands (settings_of e) (front_of p)) Wheel [] (settings_of e).schedulers ws =
    subst (λ (x : Desk). AreOrdered (λ p. p.number) (PartStands (settings_of x) (front_of p)) Wheel [] (settings_of x).schedulers ws) same ordered in
    let stand : Stand (settings_of e) (front_of p) [] (record parts { wheels = ws }) = record {
      legal = fit.stand.legal;
      keeper = fit.stand.keeper;
      wheels = mine;
      inboxes = fit.stand.inboxes;
      mails = fit.stand.mails;
      scheds = fit.stand.scheds;
    } in
    record {
      fit = record {
        belongs = subst (λ (x : Desk). Belongs x q) same belongs;
        holds = subst (λ (v : View). HoldsRest (settings_of e) v.actors 1) (sym view) fit.holds;
        stand = subst (λ h. Stand (settings_of e) h [] (record parts { wheels = ws })) (sym front) stand;
      };
      tidy = λ one. subst (λ h. AreTidy (settings_of e) h ws) (sym front) (subst (λ (x : Desk). AreTidy (settings_of x) (front_of p) ws) same tidy);
    }

pub put_together : (e : Desk) (p q : Pass) (keeper : Shown) (ws vs : List Part) → view_of q ≡ view_of p
    → ((i : ℕ) (d : Part) → LosesRows (slice_index_or ws i d) (slice_index_or vs i d)) → IsPutTogether (seen e p 1 keeper ws None) (seen e q 1 keeper vs None)
put_together e p q keeper ws vs view rows = record {
  rest = ap (λ (v : View). let w : Seen = record {
    table = e.table.shared.table_id;
    settings = settings_of e;
    history = v.front;
    clock = keeper;
    next = 1;
    wheels = vs;
    turns = None;
  } in w) view;
  rows = rows;
}
