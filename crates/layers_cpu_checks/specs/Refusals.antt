-- What the `_cpu` layers refuse, in their order. Definitions only.
use Prim.{Unit}
use Rattle.std.specs.Prelude.{ℕ, ◌*◌, ◌/◌, ◌%◌, not, cond, ltb, eqb}
use Rattle.refusals.specs.declared.refusal.Refusal.{Refusal}
use Rattle.refusals.specs.Said.{Said, done, uncounted}
use Rattle.refusals.specs.Refusals.{given}
use Rattle.refusals.specs.declared.refusal.Refusal.TheVariants.{NotWholeBlocks, NotAMultiple, ReadingsShort, RoomShort, TooLarge, WeightsLong}
use Rattle.layouts.specs.Formats.{bytes32, bytes_k}
use Rattle.layouts.specs.Weights.{values_of}
use Rattle.layouts.specs.declared.format.Format.{Format}
use Rattle.layouts.specs.declared.format.Format.TheVariants.{Of32, OfK}
use Rattle.layers_shape.specs.declared.Shape.{Shape}
use Rattle.layers_shape.specs.Shapes.{oversize}

-- any other weights than needed: 3 where there are fewer, and 14 where there are more
abbrev pub other_weights : (found needed : ℕ) → Refusal
other_weights found needed = cond (ltb found needed) uncounted WeightsLong

-- Why a `_cpu` layer says no, given so many readings, weight bytes, output and scratch places. Any other length than
-- what is needed is refused, but for scratch, which may be longer. The K formats look at the readings and the output
-- first, and need no whole blocks to a row: two rows of 128 share one.
unfoldable pub cpu_refusal : Format → Shape → (readings weights places scratch : ℕ) → Said (Unit {0})
cpu_refusal (OfK f) s readings weights places scratch =
    given TooLarge (oversize s)
    (given ReadingsShort (not (eqb readings (s.batch * s.in_feat)))
    (given RoomShort (not (eqb places (s.batch * s.out_feat)))
    (given NotWholeBlocks (not (eqb (weights % bytes_k f) 0))
    (given (other_weights (values_of (OfK f) weights) (s.out_feat * s.in_feat))
    (not (eqb (values_of (OfK f) weights) (s.out_feat * s.in_feat)))
    (given RoomShort (ltb scratch s.in_feat)
    done)))))
cpu_refusal (Of32 f) s readings weights places scratch =
    given TooLarge (oversize s)
    (given NotAMultiple (not (eqb (s.in_feat % 32) 0))
    (given (other_weights weights (s.out_feat * (s.in_feat / 32 * bytes32 f)))
    (not (eqb weights (s.out_feat * (s.in_feat / 32 * bytes32 f))))
    (given ReadingsShort (not (eqb readings (s.batch * s.in_feat)))
    (given RoomShort (not (eqb places (s.batch * s.out_feat)))
    (given RoomShort (ltb scratch s.in_feat)
    done)))))
