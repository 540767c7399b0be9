-- What C holds as a place is lent as one.
use Rattle.std.proofs.Common.{◌≡◌, ℕ, [], ◌∷◌, Option, refl}
use seplogic.Ra.Ura.{Ura}
use mir.Syntax.{Fn, Callee, named, erased, mut, ty_ptr, ty_ref, local, value_local, place, deref, copy, rv_opd, addr_of, seq, assign, block, return}
use mir.Val.{Val, vptr}
use base.Logic.{SProp, ent, sep, emp, fst∗, via, id⊢}
use base.Fml.{GName, ftrue, flft}
use prog.Model.{Model}
use prog.Wp.{Env, Closed}
use types.Logic.{Logic, sem}
use types.Mut.{open_ref}
use types.Kit.{‵, raw, ◌⊛◌, some, later, at_ret, ◌$◌, ◌∵◌, !, qed, move, keep, use1, split, join, pick, await, fsplit3, fjoin, suffices, frame, group, done}
use types.Run.{enter, stop, of_opd, addr, first, blocks, exec, returns}
use types.ByLocal.{alloc_all, pass_all, free_all, look_at, get, through, sets, sets_last, env}
use contract.Monad.{fact}
use contract.Running.{Running, tables}
use denote.Builtin.{One, RefMutOf}
use denote.Exit.{no}
use denote.Follow.{follows, Part, lends_Part}
use denote.Memory.{mem, lone, pointee}
use denote.RattleType.{RattleType}
use denote.RawPtr.{Ptr}
use denote.Ref.{MutRef, mut_vals, mut_Tells}
use denote.Signature.{plain, mut_ref_to}
use denote.Steps.{nothing}
use denote.Triple.Clauses.{Clauses, Ended, closing}
use denote.Triple.Spec.{Meets}
use denote.Triple.Walked.{Stays, stay_dropped, walk_of, says, ends_at, Goes-spent_ref}
use Rattle.std.proofs.{VecSteps.Shapes.after, raw_atomic.Walks.proved}
use Rattle.ert_c.specs.contracts.place.Place as places
use Rattle.ert_c.specs.declared.place.Place.{Place}

module _ (P R : RattleType) (one : One P.mir) (at : P.Denot → Ptr) (value : P.Denot → Option R.Denot) (from : Place R.Denot → P.Denot) where
  abbrev Q : RattleType
  Q = places.the_row R

  abbrev to : P.Denot → Place R.Denot
  to d = record { at = at d; value = value d }

  -- the code, at the types' names
  abbrev pub function : Fn
  function = record {
    lifetimes = 1;
    outlives = [];
    ty_params = [];
    givens = 0;
    params = 1;
    locals = local (ty_ref (named 0) mut (pointee Q.written)) value_local ∷ local (ty_ref (named 0) mut (pointee P.written)) value_local ∷ local (ty_ref erased mut (pointee Q.written)) value_local ∷ local ty_ptr value_local ∷ [];
    body = seq (block (seq (assign (place 3 []) (addr_of (place 1 (deref (lone P.mir) ∷ [])))) (assign (place 2 []) (addr_of (place 3 (deref (lone Q.mir) ∷ []))))))
        (seq (assign (place 0 []) (rv_opd (copy (place 2 [])))) return);
  }

  abbrev pub ended : Ended
  ended = record { signature = record { lifetimes = 1; outlives = []; params = RefMutOf (0 ∷ []) tt (plain (λ _. P)) (λ _. one) ∷ []; result = RefMutOf (0 ∷ []) tt (plain (λ _. Q)) (λ _. tt) }; kept = (no, tt) }

  abbrev stayed : Stays ended.signature.params ended.kept
  stayed = (stay_dropped (mut_ref_to (0 ∷ []) tt (plain (λ _. P))) no, tt)

  module _ {M : Type 1} {𝓤 : Ura M} (𝓛 : Logic 𝓤) (𝓜 : Model 𝓤 𝓛.H) (𝓡 : Running 𝓤 𝓛.H 𝓜) where
    abbrev pub spec : Clauses 𝓤 ended
    spec κs a = record { ghost = Unit {0}; requires = λ _. emp 𝓤; ensures = λ _ r _. sep 𝓤 (sem 𝓛 (follows P Q a.0.ghost_name r.ghost_name from)) (fact 𝓤 (value a.0.now ≡ r.now.value)) }

    pub casts : ((d : P.Denot) (b o : ℕ) → ent 𝓤 (sem 𝓛 ((mem P).own_at d b o)) (sem 𝓛 ((mem Q).own_at (to d) b o)))
        → ((d : Place R.Denot) (b o : ℕ) → ent 𝓤 (sem 𝓛 ((mem Q).own_at d b o)) (sem 𝓛 ((mem P).own_at (from d) b o)))
        → (k : Callee) → Closed 𝓤 𝓛.H (tables 𝓤 𝓛.H 𝓜 𝓡 𝓡.env).C (tables 𝓤 𝓛.H 𝓜 𝓡 𝓡.env).Λ k function
        → Meets 𝓛 ended.signature ((tables 𝓤 𝓛.H 𝓜 𝓡 𝓡.env).C k) (closing 𝓛 ended spec)
    casts goes comes k closed =
        let 𝓣 = tables 𝓤 𝓛.H 𝓜 𝓡 𝓡.env in let W = walk_of 𝓛 ended stayed spec in
        proved 𝓛 ended stayed spec 𝓜 𝓡 (Goes-spent_ref 𝓛 1 (0 ∷ []) tt (plain (λ _. P)), tt) k function closed
        (λ κs. (mut_vals, tt)) (λ κs. (mut_Tells (named 0) κs.0 P, tt)) (λ κs qs bounds a g are.
        let κ = κs.0 in let s = qs.0 in let r = a.0 in let b = r.ref_ptr.0 in let o = r.ref_ptr.1 in let d = r.now in let γ = r.ghost_name in let vs = mut_vals r in
        let y : W.Ghost = ((κs, qs, bounds, a, (vs, tt)), g) in let Post : Val → SProp 𝓤 = W.post y in
        let back = λ (x : Place R.Denot). via 𝓤 (sem 𝓛 ((mem Q).own_at x b o)) (fst∗ 𝓤 (sem 𝓛 ((mem Q).own_at x b o)) (emp 𝓤)) (comes x b o) in
        qed 𝓛 (((‵ (flft κ s) ⊛ ‵ ftrue) ⊛ ‵ ((MutRef (named 0) κ P).own_val r vs) ⊛ ‵ ftrue) ∷ ‵ ftrue ∷ []) ∵
        split ! $ split ! $ move ! (2 ∷ []) $ split ! $ keep ! (0 ∷ 2 ∷ []) $
        enter ! _ _ _ _ _ $ alloc_all ! (λ l. pass_all ! refl ((tt, tt), tt) $ let En : Env 𝓤 𝓛.H = env function.locals l in
        fsplit3 ! $ move ! (1 ∷ 2 ∷ 3 ∷ []) $ open_ref ! tt (mem P) {x = d} {b = b} {o = o} $ use1 𝓛 (‵ ((mem Q).own_at (to d) b o)) (goes d b o) $
        first ! $ blocks ! $
        sets ! (addr ! (through ! refl (stop !))) refl (tt, tt) $
        sets_last ! (addr ! (through ! refl (stop !))) refl (tt, tt) $
        exec ! 𝓣.C 𝓣.Λ En (after 1 function.body) (at_ret En Post) $
        sets ! (of_opd ! (get ! refl)) refl (tt, tt) $
        nothing ! $ move ! (2 ∷ 3 ∷ 4 ∷ 1 ∷ 0 ∷ []) $ group ! 5 $
        use1 𝓛 (later (some (λ (γ' : GName). raw (Part 𝓛 P Q from (named 0) κ s b o b o γ (emp 𝓤) back (to d) γ'))))
        (lends_Part 𝓛 P Q from (named 0) κ s b o b o γ (emp 𝓤) back (P.coded.code d) (P.coded.code d) (to d)) $ await ! tt $ pick ! (λ γ'.
        returns ! (look_at ! 0 refl) $ free_all ! refl $ keep ! (0 ∷ []) $
        use1 𝓛 (‵ ((MutRef (named 0) κ Q).own_val (record { ref_ptr = (b, o); ghost_name = γ'; now = to d }) (vptr b o ∷ [])) ⊛ ‵ (flft κ s) ⊛ ‵ (follows P Q γ γ' from)) (id⊢ 𝓤 _) $ split ! $ move ! (1 ∷ []) $ split ! $ move ! (2 ∷ 0 ∷ 1 ∷ []) $
        suffices ! _ (ends_at 𝓛 ended stayed spec y (vptr b o) (record { ref_ptr = (b, o); ghost_name = γ'; now = to d }) (tt, tt) (tt, tt)) $
        nothing ! $ nothing ! $ fjoin ! $ join ! $ nothing ! $ move ! (2 ∷ 0 ∷ []) $ join ! $ join ! $ frame ! $ says ! refl $ done !)))
