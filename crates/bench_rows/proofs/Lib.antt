-- The bench card holds, and what a program is to judge of it.
pub mod Card
pub mod Judged
