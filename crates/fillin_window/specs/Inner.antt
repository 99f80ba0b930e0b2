-- What closing a layer's rows relies on. Definitions only.
use Rattle.std.specs.Prelude.{◌≡◌, length, Ok}
use Rattle.refusals.specs.Said.{done}
use Rattle.layouts.specs.Formats.{format_named}
use Rattle.layouts.specs.declared.format.FormatK.{FormatK}
use Rattle.stepped_shape.specs.declared.shape.Layer.{Layer}
use Rattle.stepped_shape.specs.Layer.{Memory, open_of}
use Rattle.stepped_shape.specs.Refusals.{open_refusal}

-- a layer of a known format that is opened in this memory, and no piece of which is open
pub record Run (l : Layer) (m : Memory) : Type 0 where
  pub known : FormatK
  pub named : format_named l.format ≡ Ok known
  pub openable : open_refusal l (length m.slots) (length m.marks) ≡ done
  pub all_done : open_of l m.marks ≡ 0
