-- Each call's contract is met by one answer alone, and by one content of its lent memory. Assumes nothing.
use Rattle.refusals.proofs.Once.{OneResult, OneCall, same}
use Rattle.fillin_lines.proofs.lines.is_last.Reads as last
use Rattle.fillin_lines.proofs.lines.write_line.Reads as write

pub is_last_once : OneResult last.Post
is_last_once κs a x y s t h k = same h k

pub write_line_once : OneCall write.Post (λ κs s. s.1.1.0.now)
write_line_once κs a x y s t h k = (same h.1.0 k.1.0, same h.0 k.0)
