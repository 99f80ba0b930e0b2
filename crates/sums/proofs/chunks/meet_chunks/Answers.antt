-- `chunks::meet_chunks` meets its contract. Assumes nothing.
use mathlib.Core.Path.{refl, sym}
use native.Mathlib.Omega.{arith}
use lib.Seq.{length-take-le}
use Rattle.sums.proofs.RowLaws.{chunking_start, chunking_more, chunking_met}
use Rattle.sums.proofs.chunks.meet_chunks.Goals as goal

pub loop-c-init : goal.loop-c-init
loop-c-init g c = chunking_start _ _ _ refl

pub loop-c-preserved : goal.loop-c-preserved
loop-c-preserved g c =
    chunking_more g.p c.args.n _ c.loop-c.sums c.loop-c.c _ refl (omega arith) (omega arith) (c.requires.1.1.1 c.loop-c.c c.chunk.result (omega arith) c.chunk.ensures) c.loop-c.invariant

pub slice_bounds-canonical_combine-end : goal.slice_bounds-canonical_combine-end
slice_bounds-canonical_combine-end g c = sym (length-take-le c.chunks_in-chunks.result c.loop-c.sums (omega arith))

pub returns : goal.returns
returns g c =
    let m = c.chunks_in-chunks in
    chunking_met g.p c.args.n _ c.loop-c.sums _ c.loop-c.c m.result _ (omega arith) m.ensures c.canonical_combine.ensures c.loop-c.invariant
