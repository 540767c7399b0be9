-- The machine value of a place, and what it owns.
use Rattle.std.proofs.Common.{◌≡◌, List, [], ◌∷◌, ◌++◌, Option, Some, None, true, refl, subst}
use seplogic.Ra.Ura.{Ura}
use mir.Val.{Val, vstruct, vcons, vnil, of_list}
use types.Logic.{Logic}
use types.Kit.{Item, Goal, Seq, Step, step, ‵, ◌$◌, drop, fsplit, fjoin, fpick, fpack, feq_i, feq_l}
use denote.RattleType.{RattleType, Valss}
use denote.Builtin.{RawPtr}
use denote.RawPtr.{Ptr, ptr_val}
use denote.Steps.{nothing}
use denote.Struct.Struct.{within}
use denote.Struct.Owning.{shape}
use Rattle.ert_c.specs.Places.{held, is_there}
use Rattle.ert_c.specs.contracts.place.Place as place

-- the machine value of a place
abbrev pub word : Ptr → Val
word p = vstruct (vcons (ptr_val p) vnil)

-- where there is a value, this is it
pub there : {W : Type 0} (o : Option W) → is_there o ≡ true → (w : W) × (o ≡ Some w)
there None h = cc
there (Some w) h = (w, refl)

module _ (R : RattleType) {M : Type 1} {𝓤 : Ura M} {𝓛 : Logic 𝓤} {K : Type 0} {Γ : List (Item 𝓤)} {G : Goal 𝓤 𝓛.H} where
  pub place_out : K → (d : (place.the_row R).Denot) (vs : List Val)
      → (vs ≡ word d.at ∷ [] → Seq K 𝓛 (‵ (held R d.at d.value) ∷ Γ) G) → Seq K 𝓛 (‵ ((place.the_row R).own_val d vs) ∷ Γ) G
  place_out t d vs k =
      fsplit t $ fpick t (λ vss. fsplit t $ feq_l t (λ ev. fsplit t $ feq_l t (λ ep. drop t $ k
      (subst (λ (ps : List Val). vs ≡ vstruct (of_list (ps ++ [])) ∷ []) ep ev))))

  pub place_in : K → (p : Ptr) (x : Option R.Denot)
      → Step K 𝓛 (‵ ((place.the_row R).own_val (record { at = p; value = x }) (word p ∷ [])) ∷ Γ) G (‵ (held R p x) ∷ Γ) G
  place_in t p x = step (λ s.
      nothing t $ feq_i t (List Val) (ptr_val p ∷ []) (ptr_val p ∷ []) refl $ fjoin t $ feq_i t (List Val) (word p ∷ []) (word p ∷ []) refl $ fjoin t $
      fpack t (Valss (RawPtr ∷ [])) (within (shape (place.the_type R)) (p, tt) (word p ∷ [])) (ptr_val p ∷ [], tt) $ fjoin t $ s)
