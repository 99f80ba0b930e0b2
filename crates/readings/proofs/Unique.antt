-- Each call's contract is met by one answer alone. Assumes nothing.
use mathlib.Core.Path.{ap}
use lib.IntN.{nat_abs}
use Rattle.refusals.proofs.Once.{OneResult, same}
use Rattle.readings.proofs.quants.inverse_of.Reads as inverse_of
use Rattle.readings.proofs.magnitudes.largest_magnitude.Reads as largest_magnitude
use Rattle.readings.proofs.magnitudes.largest_value.Reads as largest_value
use Rattle.readings.proofs.magnitudes.scale_q8.Reads as scale_q8
use Rattle.readings.proofs.quants.round_q4_0.Reads as round_q4_0
use Rattle.readings.proofs.quants.round_q8.Reads as round_q8

pub inverse_of_once : OneResult inverse_of.Post
inverse_of_once κs a x y s t h k = same h k

pub largest_magnitude_once : OneResult largest_magnitude.Post
largest_magnitude_once κs a x y s t h k = same h k

pub largest_value_once : OneResult largest_value.Post
largest_value_once κs a x y s t h k = same h k

pub scale_q8_once : OneResult scale_q8.Post
scale_q8_once κs a x y s t h k = same h k

pub round_q8_once : OneResult round_q8.Post
round_q8_once κs a x y s t h k = same h k

pub round_q4_0_once : OneResult round_q4_0.Post
round_q4_0_once κs a x y s t h k = ap nat_abs (same h k)
