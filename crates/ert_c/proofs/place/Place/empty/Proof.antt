-- `empty` makes the box again.
use Rattle.std.proofs.Common.{◌≡◌, List, [], ◌∷◌, ◌++◌, refl, sym, ap, ◌∙◌, subst, lit<, Option, Some, None, true}
use base.Fraction.{full_share}
use mir.Raw.{raw as bare}
use mir.Syntax.{a_type}
use mir.Val.{Val, vptr}
use mir.MapTy.{inst_fn}
use base.Logic.{SProp, ent, emp, never, id⊢, fst∗}
use base.Fml.{ftrue, flft}
use prog.Wp.{WpFn, Env}
use types.Logic.{sem}
use types.Kit.{‵, raw, ◌⊛◌, some, later, at_ret, ◌$◌, ◌∵◌, !, qed, by, move, keep, drop, split, split3, join, fsplit3, fjoin, fjoin3, pick, suffices, use0, use1, await, rewrite, feq_i}
use types.Run.{stop, fld, lit, load, of_opd, no_more, and_then, assigns, first, blocks, exec, returns, enter}
use types.ByLocal.{alloc_all, pass_all, free_all, look_at, get, through, sets, lands_last, env}
use types.Part.{sub, whole, look_in, store_in}
use contract.Monad.{fact, fact_i}
use contract.BorrowLft.{◌⊑◌, ⊑_static}
use contract.Running.{tables}
use denote.Exit.{yes}
use denote.RattleType.{RattleType, owns}
use denote.Signature.{types_at, plain}
use denote.RawPtr.{Ptr, block_ptr, null_ptr, in_a_block}
use denote.Memory.{cell_at, lone}
use denote.Steps.{nothing, heard, peeks, opens, closes}
use denote.Laws.{Is, shows}
use denote.Param.{param, layouts}
use denote.Param.Laws.{param_laws}
use denote.Triple.Clauses.{Lasts, lasts}
use denote.Triple.Spec.{triple_of}
use denote.Triple.Call.{calls_at_last}
use denote.Triple.Table.{framed}
use denote.Triple.Walked.{Stays, stay_dropped, stay_ref, walk_of, Goes-ref}
use Rattle.std.proofs.{alloc.Calls.Goes-blank, alloc.Shapes.after, raw_atomic.Walks.{proved_at, leaves}}
use Rattle.std_alloc.specs.Box.Ownership.{box_owns}
use Rattle.std_alloc.proofs.{BoxSteps.Steps.el_tells, boxed.Box.from_raw.Met.met}
use Rattle.std_alloc.specs.contracts.boxed.Box as box
use Rattle.std_alloc.proofs.boxed.Box.TheLaws as box_laws
use Rattle.std_alloc.specs.contracts.boxed.Box.from_raw as callee
use Rattle.ert_c.proofs.{Carried.{word, there, place_out, place_in}, Heap.{Z, LZ, drops, boxes, passed, glued}, place.Place.empty.Statement.statement}
use Rattle.std_heap.specs.contracts.Global as heap
use Rattle.std_heap.proofs.Global.TheLaws as heap_laws
use Rattle.std_heap.specs.contracts.GlobalAllocator.TheImpl.{ghosts, dict}
use Rattle.ert_c.specs.Places.{chunk, held, is_there}
use Rattle.ert_c.specs.contracts.place.Place as place
use Rattle.ert_c.specs.contracts.place.Place.empty as f
use Rattle.ert_c.specs.contracts.place.Place.empty.Key.{name as #self}
use Rattle.ert_c.proofs.place.Place.empty.Code as code

pub empty_spec : {M : Type 1} → statement M
empty_spec 𝓤 𝓛 𝓜 𝓡 wired T L =
    let H = 𝓛.H in let 𝓣 = tables 𝓤 H 𝓜 𝓡 𝓡.env in let R : RattleType = param 0 T in let P : RattleType = place.the_row R in let B : RattleType = box.the_row R heap.the_row ghosts in let LB = box_laws.the_row_laws R heap.the_row ghosts (param_laws 0 T L) heap_laws.the_row_laws in
    let En = f.ended T in let c = f.clauses T 𝓛 𝓜.mem 𝓡.returns in let inst = layouts (a_type ∷ []) (T, tt) in let fn = inst_fn inst code.function in
    let hs : Stays En.signature.params En.kept = (stay_ref (0 ∷ []) tt (plain (λ _. P)), (stay_dropped (plain (λ _. heap.the_row)) yes, tt)) in
    proved_at 𝓛 En hs c 𝓜 𝓡 (Goes-ref 𝓛 2 0 tt (plain (λ _. P)), (Goes-blank 𝓛 2 (plain (λ _. heap.the_row)) yes (λ κs x f. tt), tt)) (#self inst) fn (code.unfolded 𝓤 H 𝓜 𝓡 wired (T, tt)) (λ z are.
    let κs = z.0.0 in let κ = κs.0 in let q = z.0.1.0 in let μ = κs.1.0 in let s = z.0.1.1.0 in let Post : Val → SProp 𝓤 = (walk_of 𝓛 En hs c).post z in let Run : List Val → SProp 𝓤 = λ ws. WpFn 𝓤 H 𝓣.C 𝓣.Λ fn ws Post in
    let gone : Option T.Denot = None in let r = z.0.3.0 in let rb = r.ref_ptr.0 in let ro = r.ref_ptr.1 in let d = r.now in let a = z.0.3.1.0 in let k = triple_of 𝓛 (callee.signature T Z ghosts dict drops) (callee.spec T Z ghosts dict drops 𝓛 𝓜.mem 𝓡.returns) in
    qed 𝓛 (((‵ (flft κ q) ⊛ ‵ (flft μ s) ⊛ ‵ ftrue) ⊛ ‵ (owns (types_at En.signature.params κs) z.0.3 z.0.4)) ∷ raw (fact 𝓤 (μ ⊑ T.lives)) ∷ raw (fact 𝓤 (is_there d.value ≡ true)) ∷ []) ∵
    move ! (1 ∷ 2 ∷ []) $ heard ! (μ ⊑ T.lives) (λ within. heard ! (is_there d.value ≡ true) (λ is. let one = there d.value is in
    split ! $ split3 ! $ move ! (2 ∷ []) $ drop ! $ move ! (2 ∷ []) $ fsplit3 ! $ move ! (1 ∷ []) $ el_tells (boxes heap.the_row heap_laws.the_row_laws) ! a z.0.4.1.0 (λ h ea fits.
    suffices ! (Run (vptr rb ro ∷ h ∷ [])) (subst (λ (us : List Val). ent 𝓤 (Run (vptr rb ro ∷ h ∷ [])) (Run us)) (sym (λ i. are.0.0 i ++ (ea i ++ []))) (id⊢ 𝓤 (Run (vptr rb ro ∷ h ∷ [])))) $
    enter ! 𝓣.C 𝓣.Λ fn (vptr rb ro ∷ h ∷ []) Post $ alloc_all ! (λ l. pass_all ! refl ((tt, tt), (fits, tt)) $ let Ev : Env 𝓤 H = env fn.locals l in
    -- [the handle; the place; nothing; the tokens]
    move ! (1 ∷ []) $ fsplit3 ! $ move ! (1 ∷ 2 ∷ 5 ∷ []) $ opens ! tt P {h = d} rb ro (λ us. move ! (1 ∷ []) $ place_out R ! d us (λ ws.
    rewrite ! 0 (λ (x : Option T.Denot). ‵ (held R d.at x)) one.1 refl $
    in_a_block ! d.at (λ p. box_owns chunk R p one.0) (fst∗ 𝓤 (never 𝓤) (sem 𝓛 (chunk (bare (lone R.mir)) null_ptr))) (λ b o e.
    rewrite ! 1 (λ (xs : List Val). ‵ (cell_at full_share P.mir xs rb ro)) (ws ∙ ap (λ (p : Ptr). word p ∷ []) e) refl $
    sets ! (of_opd ! (load ! (through ! refl (fld ! refl (stop !))) (look_in ! 1 (sub ! 0 refl (whole !))))) refl (tt, tt) $
    assigns ! (of_opd ! (lit ! tt)) (through ! refl (fld ! refl (stop !))) (store_in ! 1 (sub ! 0 refl (whole !)) (tt, record { fits = lit< tt })) $
    nothing ! $ place_in R ! null_ptr None $ move ! (2 ∷ 0 ∷ 3 ∷ 4 ∷ 5 ∷ []) $ closes ! tt P (record { at = null_ptr; value = None }) (word null_ptr ∷ []) rb ro $
    -- [two parts of the place; its token; the block; the place's first part; the handle; nothing; the value's token]
    let y : k.Ghost = (((μ, (κ, tt)), (s, (q, tt)), tt, (a, (block_ptr b o, tt)), (h ∷ [], (vptr b o ∷ [], tt))), one.0) in
    move ! (3 ∷ []) $ use0 𝓛 (raw (fact 𝓤 (κ ⊑ Z.lives))) (fact_i 𝓤 (κ ⊑ Z.lives) (emp 𝓤) (⊑_static κ)) $ join ! $ use0 𝓛 (raw (fact 𝓤 (μ ⊑ T.lives))) (fact_i 𝓤 (μ ⊑ T.lives) (emp 𝓤) within) $ join ! $
    move ! (6 ∷ []) $ feq_i ! (List Val) (vptr b o ∷ []) (vptr b o ∷ []) refl $ fjoin ! $ move ! (6 ∷ 0 ∷ []) $ fjoin ! $
    nothing ! $ move ! (5 ∷ 0 ∷ []) $ join ! $ move ! (6 ∷ 0 ∷ []) $ join ! $ join ! $ join ! $ use1 𝓛 (raw (k.pre y)) (id⊢ 𝓤 _) $
    first ! $ blocks ! $ calls_at_last ! (framed 𝓤 H 𝓜 𝓣) k (met 𝓤 𝓛 𝓜 𝓡 (code.calls-std_alloc::boxed::Box::from_raw 𝓡.env wired) T Z L LZ ghosts dict drops
    (passed 𝓡.env (code.calls-std_heap::GlobalAllocator::allocate 𝓡.env wired) (code.calls-std_heap::GlobalAllocator::deallocate 𝓡.env wired) (code.calls-std_heap::GlobalAllocator::grow 𝓡.env wired) (code.calls-std_heap::GlobalAllocator::shrink 𝓡.env wired) _ 𝓤 𝓛 𝓜 𝓡)
    (glued 𝓡.env (code.calls-ert_c::Destruct++none::drop 𝓡.env wired) _ 𝓤 𝓛 𝓜 𝓡)) y (and_then ! (get ! refl) (and_then ! (get ! refl) (no_more !))) (λ u.
    use1 𝓛 (later (some (λ (x : B.Denot). ((‵ (flft μ s) ⊛ ‵ (flft κ q) ⊛ ‵ ftrue) ⊛ ‵ (B.own_val x (u ∷ []))) ⊛ some (λ (ls : Lasts (callee.ended T Z ghosts dict drops) y.0.0 y.0.3). ‵ (lasts (callee.ended T Z ghosts dict drops) y.0.0 y.0.3 ls) ⊛ (raw (fact 𝓤 (x.value ≡ one.0)) ⊛ raw (fact 𝓤 (x.alloc ≡ a))))))) (id⊢ 𝓤 (k.post y u)) $
    await ! tt $ pick ! (λ x. split ! $ move ! (1 ∷ []) $ pick ! (λ _. split3 ! $ drop ! $ heard ! (x.value ≡ one.0) (λ same. drop ! $ split ! $ split3 ! $ move ! (2 ∷ 3 ∷ []) $ drop ! $
    peeks ! B (Is B) (shows 𝓛 B) x (u ∷ []) (λ made. let good = ((LB.lawful 𝓛).typed x (u ∷ []) made).0 in
    lands_last ! refl good $ exec ! 𝓣.C 𝓣.Λ Ev (after 3 fn.body) (at_ret Ev Post) $ sets ! (of_opd ! (get ! refl)) refl good $
    -- [the box; the tokens of the value and of the place; two parts of the place, and its first]
    move ! (5 ∷ 3 ∷ 4 ∷ []) $ fjoin3 ! $ nothing ! $ nothing ! $ fjoin ! $ move ! (1 ∷ 0 ∷ []) $ fjoin ! $
    nothing ! $ move ! (3 ∷ 0 ∷ []) $ join ! $ move ! (3 ∷ 0 ∷ []) $ join ! $
    use0 𝓛 (raw (fact 𝓤 (d.value ≡ Some x.value))) (fact_i 𝓤 (d.value ≡ Some x.value) (emp 𝓤) (one.1 ∙ ap Some (sym same))) $ use0 𝓛 (raw (fact 𝓤 (gone ≡ None))) (fact_i 𝓤 (gone ≡ None) (emp 𝓤) refl) $ join ! $
    returns ! (look_at ! 0 refl) $ free_all ! refl $ keep ! (1 ∷ 2 ∷ 3 ∷ 0 ∷ []) $
    by ! (leaves 𝓛 En hs c z u x (record { at = null_ptr; value = None }, (tt, tt)) (tt, (tt, tt))))))))))))))))
