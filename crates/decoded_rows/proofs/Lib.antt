-- What several proofs of `decoded_rows` share.
pub mod WholeRows
pub mod Turns
