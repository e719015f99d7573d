pub mod ImageTexts
pub mod steps
