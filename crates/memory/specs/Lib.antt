-- What lent memory holds.
pub mod Lists
