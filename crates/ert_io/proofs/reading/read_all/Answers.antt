use Rattle.std.proofs.Common.{◌≡◌, ◌≤◌, ◌∙◌, ap, sym, length, take, arith, Err}
use Rattle.std.proofs.lemmas.{List.length-take, Result.err_from_is_err_and}
use Rattle.ert_io.proofs.SeveralReads.{handed_more}
use Rattle.ert_io.specs.declared.reading.ReadErr.{ReadErr, TheVariants.NoMemory}
use Rattle.ert_io.proofs.reading.read_all.Goals as goal

pub returns-in_err-append_piece-clause-memory : goal.returns-in_err-append_piece-clause-memory
returns-in_err-append_piece-clause-memory g c = λ how.
    let p = err_from_is_err_and c.from_residual-in_err-append_piece.result c.from_residual-in_err-append_piece.ensures.1 in
    let is = rw p.1 at how in
    let same : p.0 ≡ NoMemory = cc (is) in
    let wanted : length (take c.min-wanted.result c.pieces.piece) ≤ c.min-wanted.result = omega (arith, length-take c.min-wanted.result c.pieces.piece) in
    let short = c.pieces.invariant.short in
    handed_more _ _ c.pieces.bytes.items _ _ _ c.pieces.invariant.gives (c.in_err-append_piece.ensures.lost (ap (λ (e : ReadErr). Err e) (sym p.2 ∙ same))) (omega arith)
