-- What the program's rows mean. Definitions only.
use Rattle.std.specs.Prelude.{Bool, [], ◌∷◌, replicate}
use Rattle.bench_rows.specs.Card.{Row, widen, encode, packed, sum, becomes, quants, gives, row, answered}
use Rattle.bench_rows.specs.declared.table.Row.{Row as Coded}
use Rattle.bench_rows.specs.declared.table.Row.TheVariants as coded

-- a row of the program as a row of the card
unfoldable pub meant : Coded → Row
meant (coded.Widens half bits) = row (widen (half ∷ [])) (bits ∷ [])
meant (coded.Encodes a x) = row (encode (a ∷ [])) (x ∷ [])
meant (coded.EncodesTwo a x b y) = row (encode (a ∷ b ∷ [])) (x ∷ y ∷ [])
meant (coded.EncodesThree a x b y c z) = row (encode (a ∷ b ∷ c ∷ [])) (x ∷ y ∷ z ∷ [])
meant (coded.Packs first a b c) = row (packed (first ∷ replicate 31 0)) (a ∷ b ∷ c ∷ replicate 15 0x88)
meant (coded.Sums first bits) = row (sum (first ∷ 0x3F800000 ∷ 0x3F800000 ∷ [])) (bits ∷ [])
meant (coded.Becomes n bits) = row (becomes n) (bits ∷ [])
meant (coded.Quantizes x y inverse a b c) = row (quants (x ∷ y ∷ 0 ∷ [])) (inverse ∷ a ∷ b ∷ c ∷ [])
meant (coded.Gives bits quant) = row (gives bits) (quant ∷ [])

-- what the program is to judge of a row
unfoldable pub judged : Coded → Bool
judged r = answered (meant r)
