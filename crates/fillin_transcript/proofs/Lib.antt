-- Answering record by record, and in whatever pieces the input comes, gives the transcript of the whole input.
pub mod RecordByRecord
pub mod PieceByPiece
