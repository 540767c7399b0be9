-- The heap as the allocator of a box.
use Rattle.std.proofs.Common.{[], ◌∷◌, refl}
use mir.Raw.{raw}
use mir.Syntax.{Dict, impl, tnil, tcons, dnil}
use prog.Routine.{Env}
use prog.Wired.{Wired}
use denote.RattleType.{RattleType}
use denote.Exit.{no}
use denote.Param.{layout, arg}
use denote.Param.Laws.{Laws, arg_laws}
use denote.Param.Glue.{Bound}
use denote.Param.NoDrop.{glues}
use Rattle.ert_c.proofs.Destruct++none.drop.Code.{code}
use Rattle.std_alloc.proofs.BoxSteps.Form.{Bx}
use Rattle.std_heap.specs.contracts.Global as heap
use Rattle.std_heap.specs.contracts.GlobalAllocator.TheImpl.{ghosts, dict}
use Rattle.std_heap.proofs.Global.TheLaws as heap_laws
pub use Rattle.std_heap.proofs.GlobalAllocator.TheImpl.Met.{passed}

abbrev pub Z : RattleType
Z = arg (raw (layout heap.the_row)) no heap.the_row

abbrev pub LZ : Laws Z
LZ = arg_laws (raw (layout heap.the_row)) no heap.the_row heap_laws.the_row_laws refl

-- nothing is dropped of a handle of the heap
abbrev pub drops : Dict
drops = impl ("ert_c::Destruct++none::drop" ∷ []) (tcons (layout Z) tnil) dnil

pub glued : (γ : Env) → Wired γ code → Bound γ Z drops
unfolding code
glued γ wired = glues "ert_c::Destruct++none::drop" γ wired Z LZ

abbrev pub boxes : (R : RattleType) → Laws R → Bx
boxes R L = record { row = R; laws = L; al = record { row = Z; laws = LZ; g = ghosts; d = dict; drops = drops } }
