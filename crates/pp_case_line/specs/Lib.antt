pub mod AddsPiece
