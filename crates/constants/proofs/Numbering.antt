-- The laws of rows, for those who cite the promise.
pub use Rattle.constant_rows.proofs.Numbering.{row_rises, row_before, row_constant, row_other, row_none}
