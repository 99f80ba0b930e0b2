-- A record is a u32 length (kind plus payload, 2 to 32,768), a u16 kind, the payload; little-endian. Definitions only.
use Rattle.std.specs.Prelude.{ℕ, ◌+◌, ◌-◌, Bool, ◌&&◌, cond, List, [], leb, eqb, length, drop}
use Rattle.memory.specs.Lists.{part}
use Rattle.numbers.specs.Fields.{le16, le32}
use Rattle.frames.specs.declared.frame.Front.{Front}
use Rattle.frames.specs.declared.frame.Front.TheVariants as front

-- a record has at most 32,772 bytes, its length field among them
abbrev pub most_record : ℕ
most_record = 32772

-- s begins with a length field, from 2 to 32,768
unfoldable pub good_length : List ℕ → Bool
good_length s = leb 4 (length s) && (leb 2 (le32 s 0) && leb (le32 s 0) 32768)

-- how many bytes the record has that begins with s: 4, its length field, where that is missing or bad
unfoldable pub size_of : List ℕ → ℕ
size_of s = cond (good_length s) (4 + le32 s 0) 4

-- s begins with a good length and all the bytes that it counts
unfoldable pub is_whole : List ℕ → Bool
is_whole s = good_length s && leb (size_of s) (length s)

-- nothing is left; a bad or cut length; or a whole record and what follows it
pub data Frame : Type 0 where
  ended : Frame
  torn : Frame
  whole : (kind : ℕ) (payload rest : List ℕ) → Frame

-- what s begins with
unfoldable pub frame_of : List ℕ → Frame
frame_of s =
    cond (eqb (length s) 0) ended
    (cond (is_whole s) (whole (le16 s 4) (part s 6 (size_of s - 6)) (drop (size_of s) s))
    torn)

-- the code's word for each
abbrev pub front_of : Frame → Front
front_of ended = front.Ended
front_of torn = front.Torn
front_of (whole kind payload rest) = front.Whole kind

-- the payload; the empty part where no whole record stands
abbrev pub payload_of : Frame → List ℕ
payload_of ended = []
payload_of torn = []
payload_of (whole kind payload rest) = payload

-- what follows the record; the empty part where no whole record stands
abbrev pub rest_of : Frame → List ℕ
rest_of ended = []
rest_of torn = []
rest_of (whole kind payload rest) = rest
