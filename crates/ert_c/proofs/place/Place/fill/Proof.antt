-- `fill` keeps the pointer of a box.
use Rattle.std.proofs.Common.{◌≡◌, List, [], ◌∷◌, ◌++◌, refl, sym, ap, ◌∙◌, subst, Some, false}
use base.Fraction.{full_share}
use mir.Raw.{raw as bare}
use mir.Syntax.{a_type, dcons, dnil}
use mir.Val.{Val, vptr, vunit}
use mir.MapTy.{inst_fn}
use base.Logic.{SProp, ent, emp, never, id⊢, fst∗}
use base.Fml.{ftrue, flft}
use prog.Wp.{WpFn}
use types.Logic.{sem}
use types.Kit.{‵, raw, ◌⊛◌, some, later, ◌$◌, ◌∵◌, !, qed, by, move, keep, drop, split, split3, join, fsplit3, fjoin, fjoin3, pick, suffices, use0, use1, await, rewrite, feq_l, feq_i}
use types.Run.{stop, fld, of_opd, unit_lit, no_more, and_then, assigns, returns, enter}
use types.ByLocal.{alloc_all, pass_all, free_all, look_at, get, through, sets, lands_as}
use types.Part.{sub, whole, store_in}
use contract.Monad.{fact, fact_i}
use contract.BorrowLft.{◌⊑◌, ⊑_static}
use contract.Running.{tables}
use denote.Exit.{no}
use denote.RattleType.{RattleType, owns}
use denote.Signature.{types_at, plain}
use denote.Builtin.{RawPtr}
use denote.RawPtr.{Ptr, block_ptr, null_ptr, ptr_val, in_a_block}
use denote.Memory.{cell_at, lone}
use denote.Steps.{nothing, only, heard, opens, closes}
use denote.Param.{param, bounded}
use denote.Param.Laws.{param_laws}
use denote.Triple.Clauses.{Lasts, lasts}
use denote.Triple.Spec.{triple_of}
use denote.Triple.Call.{calls_at}
use denote.Triple.Table.{framed}
use denote.Triple.Walked.{Stays, stay_dropped, stay_ref, walk_of, Goes-ref}
use Rattle.std.proofs.{alloc.Calls.Goes-blank, raw_atomic.Walks.{proved_at, leaves}}
use Rattle.std_alloc.specs.Box.Ownership.{box_owns}
use Rattle.std_alloc.proofs.{BoxSteps.Steps.el_tells, boxed.Box.into_raw.Met.met}
use Rattle.std_alloc.specs.contracts.boxed.Box as box
use Rattle.std_alloc.proofs.boxed.Box.TheLaws as box_laws
use Rattle.std_alloc.specs.contracts.boxed.Box.into_raw as callee
use Rattle.ert_c.proofs.{Carried.{word, place_out, place_in}, Heap.{Z, LZ, drops, boxes, passed, glued}, place.Place.fill.Statement.statement}
use Rattle.std_heap.specs.contracts.Global as heap
use Rattle.std_heap.proofs.Global.TheLaws as heap_laws
use Rattle.std_heap.specs.contracts.GlobalAllocator.TheImpl.{ghosts, dict}
use Rattle.ert_c.specs.Places.{chunk, is_there}
use Rattle.ert_c.specs.contracts.place.Place as place
use Rattle.ert_c.specs.contracts.place.Place.fill as f
use Rattle.ert_c.specs.contracts.place.Place.fill.Key.{name as #self}
use Rattle.ert_c.proofs.place.Place.fill.Code as code

pub fill_spec : {M : Type 1} → statement M
fill_spec 𝓤 𝓛 𝓜 𝓡 wired T L dx glue =
    let H = 𝓛.H in let 𝓣 = tables 𝓤 H 𝓜 𝓡 𝓡.env in let R : RattleType = param 0 T in let P : RattleType = place.the_row R in let B : RattleType = box.the_row R heap.the_row ghosts in let LB = box_laws.the_row_laws R heap.the_row ghosts (param_laws 0 T L) heap_laws.the_row_laws in
    let En = f.ended T dx in let c = f.clauses T dx 𝓛 𝓜.mem 𝓡.returns in let inst = bounded (a_type ∷ []) (T, tt) (dcons dx dnil) in let fn = inst_fn inst code.function in
    let hs : Stays En.signature.params En.kept = (stay_ref (0 ∷ []) tt (plain (λ _. P)), (stay_dropped (plain (λ _. B)) no, tt)) in
    proved_at 𝓛 En hs c 𝓜 𝓡 (Goes-ref 𝓛 2 0 tt (plain (λ _. P)), (Goes-blank 𝓛 2 (plain (λ _. B)) no (λ κs x f. tt), tt)) (#self inst) fn (code.unfolded 𝓤 H 𝓜 𝓡 wired (T, tt) dx) (λ z are.
    let κs = z.0.0 in let κ = κs.0 in let q = z.0.1.0 in let μ = κs.1.0 in let s = z.0.1.1.0 in let Post : Val → SProp 𝓤 = (walk_of 𝓛 En hs c).post z in let Run : List Val → SProp 𝓤 = λ ws. WpFn 𝓤 H 𝓣.C 𝓣.Λ fn ws Post in
    let r = z.0.3.0 in let rb = r.ref_ptr.0 in let ro = r.ref_ptr.1 in let d = r.now in let v = z.0.3.1.0 in
    qed 𝓛 (((‵ (flft κ q) ⊛ ‵ (flft μ s) ⊛ ‵ ftrue) ⊛ ‵ (owns (types_at En.signature.params κs) z.0.3 z.0.4)) ∷ raw (fact 𝓤 (μ ⊑ T.lives)) ∷ raw (fact 𝓤 (is_there d.value ≡ false)) ∷ []) ∵
    move ! (2 ∷ []) $ drop ! $ move ! (1 ∷ []) $ heard ! (μ ⊑ T.lives) (λ within.
    split ! $ split3 ! $ move ! (2 ∷ []) $ drop ! $ move ! (2 ∷ []) $ fsplit3 ! $ move ! (1 ∷ []) $
    -- [the box; the place; nothing; the tokens]
    el_tells (boxes B LB) ! v z.0.4.1.0 (λ w ws good.
    let k = triple_of 𝓛 (callee.signature T Z ghosts dict drops dx) (callee.spec T Z ghosts dict drops dx 𝓛 𝓜.mem 𝓡.returns) in
    let y : k.Ghost = (((μ, (κ, tt)), (s, (q, tt)), tt, (v, tt), (w ∷ [], tt)), tt) in
    nothing ! $ move ! (1 ∷ 0 ∷ []) $ fjoin ! $ nothing ! $ move ! (4 ∷ 0 ∷ []) $ join ! $ move ! (4 ∷ 0 ∷ []) $ join ! $ join ! $
    nothing ! $ use0 𝓛 (raw (fact 𝓤 (κ ⊑ Z.lives))) (fact_i 𝓤 (κ ⊑ Z.lives) (emp 𝓤) (⊑_static κ)) $ join ! $ use0 𝓛 (raw (fact 𝓤 (μ ⊑ T.lives))) (fact_i 𝓤 (μ ⊑ T.lives) (emp 𝓤) within) $ join ! $ move ! (1 ∷ 0 ∷ []) $ join ! $ use1 𝓛 (raw (k.pre y)) (id⊢ 𝓤 _) $
    suffices ! (Run (vptr rb ro ∷ w ∷ [])) (subst (λ (us : List Val). ent 𝓤 (Run (vptr rb ro ∷ w ∷ [])) (Run us)) (sym (λ i. are.0.0 i ++ (ws i ++ []))) (id⊢ 𝓤 (Run (vptr rb ro ∷ w ∷ [])))) $
    enter ! 𝓣.C 𝓣.Λ fn (vptr rb ro ∷ w ∷ []) Post $ alloc_all ! (λ l. pass_all ! refl ((tt, tt), (good, tt)) $ sets ! (of_opd ! (get ! refl)) refl good $
    calls_at ! (framed 𝓤 H 𝓜 𝓣) k (met 𝓤 𝓛 𝓜 𝓡 (code.calls-std_alloc::boxed::Box::into_raw 𝓡.env wired) T Z L LZ ghosts dict drops dx
    (passed 𝓡.env (code.calls-std_heap::GlobalAllocator::allocate 𝓡.env wired) (code.calls-std_heap::GlobalAllocator::deallocate 𝓡.env wired) (code.calls-std_heap::GlobalAllocator::grow 𝓡.env wired) (code.calls-std_heap::GlobalAllocator::shrink 𝓡.env wired) _ 𝓤 𝓛 𝓜 𝓡)
    (glued 𝓡.env (code.calls-ert_c::Destruct++none::drop 𝓡.env wired) _ 𝓤 𝓛 𝓜 𝓡) glue) y (and_then ! (get ! refl) (no_more !)) (λ u.
    use1 𝓛 (later (some (λ (p : Ptr). ((‵ (flft μ s) ⊛ ‵ (flft κ q) ⊛ ‵ ftrue) ⊛ ‵ (RawPtr.own_val p (u ∷ []))) ⊛ some (λ (ls : Lasts (callee.ended T Z ghosts dict drops dx) y.0.0 y.0.3). ‵ (lasts (callee.ended T Z ghosts dict drops dx) y.0.0 y.0.3 ls) ⊛ ‵ (box_owns chunk R p v.value))))) (id⊢ 𝓤 (k.post y u)) $
    await ! tt $ pick ! (λ p. split ! $ move ! (1 ∷ []) $ pick ! (λ _. split ! $ drop ! $
    in_a_block ! p (λ p'. box_owns chunk R p' v.value) (fst∗ 𝓤 (never 𝓤) (sem 𝓛 (chunk (bare (lone R.mir)) null_ptr))) (λ b' o' e'. let at = block_ptr b' o' in
    move ! (1 ∷ []) $ split ! $ move ! (1 ∷ []) $ feq_l ! (λ eu. split3 ! $ move ! (2 ∷ []) $ drop ! $
    lands_as ! (ap only eu ∙ ap ptr_val e') refl (tt, tt) $
    -- [the tokens of the value and of the place; the block; the place; nothing]
    move ! (3 ∷ []) $ fsplit3 ! $ move ! (1 ∷ 2 ∷ 4 ∷ []) $ opens ! tt P {h = d} rb ro (λ us. move ! (1 ∷ []) $ place_out R ! d us (λ ps. drop ! $
    rewrite ! 0 (λ (xs : List Val). ‵ (cell_at full_share P.mir xs rb ro)) ps refl $
    assigns ! (of_opd ! (get ! refl)) (through ! refl (fld ! refl (stop !))) (store_in ! 0 (sub ! 0 refl (whole !)) (tt, tt)) $
    sets ! (of_opd ! (unit_lit !)) refl (tt, tt) $
    move ! (6 ∷ []) $ place_in R ! at (Some v.value) $ move ! (1 ∷ 0 ∷ []) $ closes ! tt P (record { at = at; value = Some v.value }) (word at ∷ []) rb ro $
    -- [two parts of the place; its token; the place's first part; the value's token]
    move ! (3 ∷ 0 ∷ 1 ∷ []) $ fjoin3 ! $ nothing ! $ nothing ! $ fjoin ! $ move ! (1 ∷ 0 ∷ []) $ fjoin ! $
    nothing ! $ move ! (3 ∷ 0 ∷ []) $ join ! $ move ! (2 ∷ 0 ∷ []) $ join ! $
    use0 𝓛 (raw (fact 𝓤 (Some v.value ≡ Some v.value))) (fact_i 𝓤 (Some v.value ≡ Some v.value) (emp 𝓤) refl) $ feq_i ! _ (vunit ∷ []) _ refl $
    returns ! (look_at ! 0 refl) $ free_all ! refl $ keep ! (2 ∷ 3 ∷ 0 ∷ 1 ∷ []) $
    by ! (leaves 𝓛 En hs c z vunit tt (record { at = at; value = Some v.value }, (tt, tt)) (tt, (tt, tt))))))))))))))
