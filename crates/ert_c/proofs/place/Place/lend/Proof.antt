-- `lend` lends the value, and the place follows it.
use Rattle.std.proofs.Common.{◌≡◌, ℕ, List, [], ◌∷◌, refl, sym, ap, ◌∙◌, Option, Some, true}
use seplogic.Ra.Ura.{Ura}
use base.Fraction.{full_share}
use mir.Raw.{raw as bare}
use mir.Syntax.{named, a_type}
use mir.Val.{Val, vptr}
use mir.MapTy.{inst_fn}
use base.Logic.{SProp, ent, sep, never, fst∗, id⊢}
use base.Fml.{Fml, GName, ftrue, flft, fsep}
use prog.Wp.{Env}
use types.Logic.{Logic, sem}
use types.Kit.{‵, raw, ◌⊛◌, some, later, at_ret, ◌$◌, ◌∵◌, !, qed, move, keep, use1, split, split3, join, pick, await, fsplit, fsplit3, fjoin, fpack, rewrite, suffices, frame, group, done}
use types.Part.{whole, sub, look_in}
use types.Run.{enter, stop, fld, load, of_opd, addr, first, blocks, exec, returns}
use types.ByLocal.{alloc_all, pass_all, free_all, look_at, get, through, sets, sets_last, env}
use contract.Monad.{fact}
use contract.BorrowLft.{◌⊑◌}
use contract.Running.{tables}
use denote.Exit.{no}
use denote.Follow.{follows, Part, lends_Part}
use denote.Memory.{part_at, part_of, mem, cell_at, lone}
use denote.RattleType.{RattleType}
use denote.RawPtr.{Ptr, block_ptr, null_ptr, in_a_block}
use denote.Ref.{MutRef, mut_vals, mut_Tells}
use denote.Signature.{plain, mut_ref_to}
use denote.Steps.{nothing, heard, opens}
use denote.Param.{param, layouts}
use denote.Triple.Walked.{Stays, stay_dropped, walk_of, says, ends_at, Goes-spent_ref}
use Rattle.std.proofs.{VecSteps.Shapes.after, raw_atomic.Walks.proved}
use Rattle.std_alloc.specs.Box.Ownership.{box_owns}
use Rattle.ert_c.proofs.{Carried.{word, there, place_out, place_in}, place.Place.lend.Statement.statement}
use Rattle.ert_c.specs.Places.{chunk, held, is_there}
use Rattle.ert_c.specs.contracts.place.Place as place
use Rattle.ert_c.specs.contracts.place.Place.lend as f
use Rattle.ert_c.specs.contracts.place.Place.lend.Key.{name as #self}
use Rattle.ert_c.proofs.place.Place.lend.Code as code

module _ (R : RattleType) where
  abbrev P : RattleType
  P = place.the_row R

  abbrev with_value : P.Denot → R.Denot → P.Denot
  with_value d w = record d { value = Some w }

  -- all of the place but its value
  abbrev rest : (b o rb ro : ℕ) → Fml
  rest b o rb ro = fsep (chunk (bare (lone R.mir)) (block_ptr b o)) (cell_at full_share P.mir (word (block_ptr b o) ∷ []) rb ro)

  back : {M : Type 1} {𝓤 : Ura M} (𝓛 : Logic 𝓤) (d : P.Denot) (b o rb ro : ℕ)
      → d.at ≡ block_ptr b o → (w : R.Denot)
      → ent 𝓤 (sep 𝓤 (sem 𝓛 ((mem R).own_at w b o)) (sem 𝓛 (rest b o rb ro))) (sem 𝓛 ((mem P).own_at (with_value d w) rb ro))
  unfolding part_of
  back 𝓛 d b o rb ro e w =
      qed 𝓛 (‵ (part_at R full_share w b o) ∷ ‵ (rest b o rb ro) ∷ []) ∵ move ! (1 ∷ []) $ fsplit ! $ move ! (2 ∷ 0 ∷ []) $ fjoin ! $ place_in R ! (block_ptr b o) (Some w) $
      rewrite ! 0 (λ (p : Ptr). ‵ (P.own_val (record { at = p; value = Some w }) (word (block_ptr b o) ∷ []))) (sym e) refl $ move ! (1 ∷ 0 ∷ []) $ fjoin ! $
      fpack ! (List Val) (λ us. fsep (cell_at full_share P.mir us rb ro) (P.own_val (with_value d w) us)) (word (block_ptr b o) ∷ []) $ done !

pub lend_spec : {M : Type 1} → statement M
lend_spec 𝓤 𝓛 𝓜 𝓡 wired T L =
    let H = 𝓛.H in let 𝓣 = tables 𝓤 H 𝓜 𝓡 𝓡.env in let R : RattleType = param 0 T in let F : RattleType = P R in
    let En = f.ended T in let c = f.clauses T 𝓛 𝓜.mem 𝓡.returns in let inst = layouts (a_type ∷ []) (T, tt) in let fn = inst_fn inst code.function in
    let hs : Stays En.signature.params En.kept = (stay_dropped (mut_ref_to (0 ∷ []) tt (plain (λ _. F))) no, tt) in let W = walk_of 𝓛 En hs c in
    proved 𝓛 En hs c 𝓜 𝓡 (Goes-spent_ref 𝓛 2 (0 ∷ []) tt (plain (λ _. F)), tt) (#self inst) fn (code.unfolded 𝓤 H 𝓜 𝓡 wired (T, tt))
    (λ κs. (mut_vals, tt)) (λ κs. (mut_Tells (named 0) κs.0 F, tt)) (λ κs qs bounds a g are.
    let κ = κs.0 in let q = qs.0 in let μ = κs.1.0 in let s = qs.1.0 in let r = a.0 in let rb = r.ref_ptr.0 in let ro = r.ref_ptr.1 in let d = r.now in let γ = r.ghost_name in let vs = mut_vals r in
    let y : W.Ghost = ((κs, qs, bounds, a, (vs, tt)), g) in let Post : Val → SProp 𝓤 = W.post y in
    qed 𝓛 (((‵ (flft κ q) ⊛ ‵ (flft μ s) ⊛ ‵ ftrue) ⊛ ‵ ((MutRef (named 0) κ F).own_val r vs) ⊛ ‵ ftrue) ∷ raw (fact 𝓤 (μ ⊑ T.lives)) ∷ raw (fact 𝓤 (is_there d.value ≡ true)) ∷ []) ∵
    move ! (2 ∷ []) $ heard ! (is_there d.value ≡ true) (λ is. let one = there d.value is in
    split ! $ split3 ! $ move ! (3 ∷ []) $ split ! $ keep ! (0 ∷ 2 ∷ 3 ∷ []) $
    enter ! _ _ _ _ _ $ alloc_all ! (λ l. pass_all ! refl ((tt, tt), tt) $ let Ev : Env 𝓤 H = env fn.locals l in
    fsplit3 ! $ move ! (1 ∷ 2 ∷ 3 ∷ []) $ opens ! tt F {h = d} rb ro (λ us. move ! (1 ∷ []) $ place_out R ! d us (λ ws.
    rewrite ! 0 (λ (x : Option T.Denot). ‵ (held R d.at x)) one.1 refl $
    in_a_block ! d.at (λ p. box_owns chunk R p one.0) (fst∗ 𝓤 (never 𝓤) (sem 𝓛 (chunk (bare (lone R.mir)) null_ptr))) (λ b o e. fsplit ! $
    rewrite ! 2 (λ (xs : List Val). ‵ (cell_at full_share F.mir xs rb ro)) (ws ∙ ap (λ (p : Ptr). word p ∷ []) e) refl $
    -- [the value; the right to free it; the place's cell; the open borrow, in three entries; the place's first part; the value's token]
    first ! $ blocks ! $
    sets ! (of_opd ! (load ! (through ! refl (fld ! refl (stop !))) (look_in ! 2 (sub ! 0 refl (whole !))))) refl (tt, tt) $
    sets_last ! (addr ! (through ! refl (stop !))) refl (tt, tt) $
    exec ! 𝓣.C 𝓣.Λ Ev (after 1 fn.body) (at_ret Ev Post) $
    sets ! (of_opd ! (get ! refl)) refl (tt, tt) $
    move ! (1 ∷ 2 ∷ []) $ fjoin ! $ move ! (2 ∷ 3 ∷ 4 ∷ 1 ∷ 0 ∷ []) $ group ! 5 $
    use1 𝓛 (later (some (λ (γ' : GName). raw (Part 𝓛 F R (with_value R d) (named 0) κ q rb ro b o γ (sem 𝓛 (rest R b o rb ro)) (back R 𝓛 d b o rb ro e) one.0 γ'))))
    (lends_Part 𝓛 F R (with_value R d) (named 0) κ q rb ro b o γ (sem 𝓛 (rest R b o rb ro)) (back R 𝓛 d b o rb ro e) (F.coded.code d) (F.coded.code d) one.0) $ await ! tt $ pick ! (λ γ'.
    returns ! (look_at ! 0 refl) $ free_all ! refl $ keep ! (0 ∷ 2 ∷ []) $
    use1 𝓛 (‵ ((MutRef (named 0) κ R).own_val (record { ref_ptr = (b, o); ghost_name = γ'; now = one.0 }) (vptr b o ∷ [])) ⊛ ‵ (flft κ q) ⊛ ‵ (follows F R γ γ' (with_value R d))) (id⊢ 𝓤 _) $ split3 ! $ move ! (1 ∷ 3 ∷ 0 ∷ []) $
    suffices ! _ (ends_at 𝓛 En hs c y (vptr b o) (record { ref_ptr = (b, o); ghost_name = γ'; now = one.0 }) (tt, tt) (tt, tt)) $
    move ! (2 ∷ []) $ nothing ! $ nothing ! $ fjoin ! $ join ! $ nothing ! $ move ! (3 ∷ 0 ∷ []) $ join ! $ move ! (2 ∷ 0 ∷ []) $ join ! $ join ! $ frame ! $ says ! one.1 $ done !)))))))
